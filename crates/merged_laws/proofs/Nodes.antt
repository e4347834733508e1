-- Each path of the names of a link has a node.
use Rattle.std.proofs.Common.{◌≡◌, ◌⊎◌, inl, inr, ℕ, suc, ◌+◌, ◌-◌, ◌^◌, ◌<◌, ◌≤◌, Bool, true, false, cond, List, [], ◌∷◌, ◌++◌, length, take, drop, get_or, slice_get, Option, Some, None, refl, sym, ap, subst, ◌∙◌, arith, length-append}
use Rattle.std.specs.Prelude.{if◌then◌else◌}
use Rattle.std.specs.List.{All, AllPairs, Contains, cons_option, enumerate_from, filter_map, flat_map, position, position_or_len}
use Rattle.std.specs.Option.{option_and_then, option_map}
use Rattle.std.proofs.lemmas.Bool.{both_ways, cases_lt, lt-ltb}
use Rattle.std.proofs.lemmas.List.{take-append-drop, take_more}
use Rattle.std.proofs.lemmas.List.Elements.{All-weaker, filter_map-append}
use Rattle.std.proofs.lemmas.List.FromFn.{length-enumerate_from}
use Rattle.std.proofs.lemmas.List.Sums.{fails_before_first}
use Rattle.std.proofs.lemmas.Option.{get_or_from_slice_get, none-some, same_Some, slice_get-get_or, slice_get_within}
use Rattle.dwarf_types.specs.declared.analysis.Analysis.{Analysis}
use Rattle.dwarf_types.specs.declared.entry.Entry.{Entry}
use Rattle.dwarf_types.specs.Live.{its_parent}
use Rattle.dwarf_types.specs.Sound.{IsSound}
use Rattle.dwarf_types.specs.Tree.{ParentsStandBefore}
use Rattle.link_graph.specs.Merged.{linked_names}
use Rattle.link_graph.specs.Pool.{node_of_path, pool_names, preorder, same_path}
use Rattle.link_graph.proofs.Gathered.{enumerate_at, take_on}
use Rattle.odr_names.specs.Numbered.{objects_of, merged}
use Rattle.odr_names.specs.Entering.{AreLiveParents}
use Rattle.odr_names.specs.Making.{AreLiveRows, IsLiveRow}
use Rattle.odr_names.proofs.Closed.{path_below, path_top, pooled_parent, unit_is_plain}
use Rattle.odr_names.proofs.Counting.{entry_at}
use Rattle.odr_names.proofs.ObjectLists.{object_parts}
use Rattle.type_names.specs.Heads.{Object, entries_of, is_pooled}
use Rattle.type_names.specs.Names.{Named, named_of, names, names_in}
use Rattle.type_names.specs.Paths.{Piece, ordinal_of, parts_of, path_of, piece_of}
use Rattle.type_names.specs.Tree.{parent_of}
use Rattle.type_names.proofs.Lineages.{parent_before}
use Rattle.type_names.proofs.Pooling.{sound_parents}
use Rattle.type_names.proofs.Scopes.{parent_within}
use Rattle.type_names.proofs.Subtrees.{by_parents}
use Rattle.merged_laws.proofs.Bids.{AreFew, bids_differ, bids_low}
use Rattle.merged_laws.proofs.Members.{in_cases, in_numbered, none_in, pairs_from_apart}
use Rattle.merged_laws.proofs.Names.{IsNameOf, all_names, name_there, same_paths, winner_of}
use Rattle.merged_laws.proofs.PathTree.{Differs, at_top, deeper, more_levels, pool_apart}

-- ---- how many names there are up to an entry

module _ (n : ℕ) (o : Object) where
  abbrev name_at : ℕ × Entry → Option Named
  name_at e = if is_pooled o e.0 then Some (named_of n o e.0 e.1) else None

  abbrev numbered : List (ℕ × Entry)
  numbered = enumerate_from 0 (entries_of o)

  abbrev pub count_to : ℕ → ℕ
  count_to k = length (filter_map name_at (take k numbered))

  count_more : (k : ℕ) (e : Entry) → slice_get (entries_of o) k ≡ Some e → is_pooled o k ≡ true → count_to (k + 1) ≡ count_to k + 1
  count_more k e at pooled =
      let within = slice_get_within (entries_of o) k e at in
      let last : take (k + 1) numbered ≡ take k numbered ++ (k, e) ∷ [] = take_more numbered k (k, e) (omega (arith, within, length-enumerate_from 0 (entries_of o)))
      ∙ ap (λ (x : ℕ × Entry). take k numbered ++ x ∷ []) (enumerate_at (entries_of o) k (k, e) within ∙ ap (λ (x : Entry). (k, x)) (get_or_from_slice_get (entries_of o) k e e at)) in
      ap (λ (xs : List (ℕ × Entry)). length (filter_map name_at xs)) last ∙ ap length (filter_map-append name_at (take k numbered) ((k, e) ∷ [])) ∙ length-append (filter_map name_at (take k numbered)) (filter_map name_at ((k, e) ∷ []))
      ∙ ap (λ (b : Bool). count_to k + length (cons_option (cond b (Some (named_of n o k e)) None) [])) pooled

  count_rises : (j k : ℕ) → j ≤ k → count_to j ≤ count_to k
  count_rises j k le =
      let same : j + (k - j) ≡ k = omega (arith, le) in
      let more = ap (λ (m : ℕ). count_to m) (sym same) ∙ ap (λ (xs : List (ℕ × Entry)). length (filter_map name_at xs)) (take_on j (k - j) numbered) ∙ ap length (filter_map-append name_at (take j numbered) (take (k - j) (drop j numbered)))
      ∙ length-append (filter_map name_at (take j numbered)) (filter_map name_at (take (k - j) (drop j numbered))) in
      omega (arith, more)

  count_within : (k : ℕ) → count_to k ≤ length (names_in n o)
  count_within k =
      let whole = ap (λ (xs : List (ℕ × Entry)). length (filter_map name_at xs)) (sym (take-append-drop k numbered)) ∙ ap length (filter_map-append name_at (take k numbered) (drop k numbered)) ∙ length-append (filter_map name_at (take k numbered)) (filter_map name_at (drop k numbered)) in
      omega (arith, whole)

part_long : {A B : Type 0} (f : A → List B) (xs : List A) (x : A) → Contains xs x → length (f x) ≤ length (flat_map f xs)
part_long f [] x h = absurd (none_in x h)
part_long f (y ∷ xs) x h =
    let long = length-append (f y) (flat_map f xs) in
    elim (in_cases y xs x h) [
      | inl same ↦ (let one = ap (λ z. length (f z)) same in omega (arith, long, one))
      | inr later ↦ (let rest = part_long f xs x later in omega (arith, long, rest))
    ]

-- ---- what is asked of objects

live_parents : (a : Object) → IsLiveRow (entries_of a) a.live → AreLiveParents a
live_parents a is k p lives up = go (slice_get (entries_of a) k) refl
  where
    go : (found : Option Entry) → slice_get (entries_of a) k ≡ found → get_or a.live p false ≡ true
    go None none = absurd (none-some p (sym (ap (option_and_then (λ (e : Entry). e.parent)) none) ∙ up))
    go (Some e) some =
        let chain = (is.exact k).0 lives in
        (is.exact p).1 (suc chain.0, (k, chain.1, its_parent e some (sym (ap (option_and_then (λ (e : Entry). e.parent)) some) ∙ up)))

pub record IsGood (o : Object) : Type 0 where
  pub sound : IsSound o.seen
  pub row : IsLiveRow (entries_of o) o.live
  pub lives : AreLiveParents o

pub objects_good : (seen : List Analysis) (live : List (List Bool)) → All IsSound seen → AreLiveRows seen live → (i : ℕ) (o : Object) → slice_get (objects_of seen live) i ≡ Some o → IsGood o
objects_good seen live sound rows i o at =
    let parts = object_parts seen live i o at in
    let is : IsSound o.seen = subst IsSound (get_or_from_slice_get seen i o.seen o.seen parts.0) (sound i o.seen (slice_get_within seen i o.seen parts.0)) in
    let row = rows.each i o.seen o.live parts.0 parts.1 in
    record { sound = is; row = row; lives = live_parents o row }

-- ---- each name has a node

module _ (objects : List Object) (good : (i : ℕ) (o : Object) → slice_get objects i ≡ Some o → IsGood o) where
  abbrev ns : List Named
  ns = names objects

  -- one that wins its path stands at most as deep as there are names up to it
  reached : (i : ℕ) (o : Object) → slice_get objects i ≡ Some o → (k : ℕ) → is_pooled o k ≡ true → (w : Named) × Contains (preorder (count_to (i + 1) o (k + 1)) ns []) w × (w.path ≡ path_of (i + 1) o k)
  reached i o at k = by_parents (entries_of o) Reached before
      (λ k top pooled. absurd (both_ways _ (unit_is_plain o k top) pooled))
      (λ k p up higher pooled. below k p up pooled (pooled_parent o k before (good i o at).lives pooled) higher) k k (omega arith)
    where
      before : ParentsStandBefore (entries_of o)
      before = sound_parents o.seen (good i o at).sound

      Reached : ℕ → Type 0
      Reached k = is_pooled o k ≡ true → (w : Named) × Contains (preorder (count_to (i + 1) o (k + 1)) ns []) w × (w.path ≡ path_of (i + 1) o k)

      below : (k p : ℕ) → parent_of (entries_of o) k ≡ Some p → is_pooled o k ≡ true → (q : ℕ) × (parent_of (entries_of o) k ≡ Some q) × ((is_pooled o q ≡ true) ⊎ (parent_of (entries_of o) q ≡ None)) → Reached p
          → (w : Named) × Contains (preorder (count_to (i + 1) o (k + 1)) ns []) w × (w.path ≡ path_of (i + 1) o k)
      below k p up pooled above higher =
          let it = entry_at (entries_of o) k (parent_within (entries_of o) k p up) in
          let e = it.0 in
          let same : above.0 ≡ p = same_Some above.0 p (sym above.1 ∙ up) in
          let piece : Piece = record { parts = parts_of (i + 1) o k e; ordinal = ordinal_of (i + 1) o k e } in
          let its_piece : piece_of (i + 1) o k ≡ Some piece = ap (option_map (λ (e : Entry). record { parts = parts_of (i + 1) o k e; ordinal = ordinal_of (i + 1) o k e })) it.1 in
          let path = path_below (i + 1) o k p piece before up its_piece in
          let win = winner_of ns (named_of (i + 1) o k e) (name_there objects i o k e at it.1 pooled) in
          let more = count_more (i + 1) o k e it.1 pooled in
          elim above.2 [
            | inl pooled_q ↦ (
                let v = higher (subst (λ (q : ℕ). is_pooled o q ≡ true) same pooled_q) in
                let rises = count_rises (i + 1) o (p + 1) k (omega (arith, parent_before (entries_of o) k p before up)) in
                let deep = deeper ns (count_to (i + 1) o (p + 1)) [] v.0 win.0 piece v.1 win.1 (win.2 ∙ path ∙ ap (λ (q : List Piece). q ++ piece ∷ []) (sym v.2)) in
                (win.0, more_levels ns (suc (count_to (i + 1) o (p + 1))) (count_to (i + 1) o (k + 1)) [] win.0 (omega (arith, rises, more)) deep, win.2))
            | inr top ↦ (
                let alone : win.0.path ≡ piece ∷ [] = win.2 ∙ path ∙ ap (λ (q : List Piece). q ++ piece ∷ []) (path_top (i + 1) o p (subst (λ (q : ℕ). parent_of (entries_of o) q ≡ None) same top)) in
                (win.0, more_levels ns 1 (count_to (i + 1) o (k + 1)) [] win.0 (omega (arith, more)) (at_top ns 0 win.0 piece win.1 alone), win.2))
          ]

  -- among the names that have a node is one of each path
  pub path_there : (i : ℕ) (o : Object) → slice_get objects i ≡ Some o → (k : ℕ) → is_pooled o k ≡ true → (w : Named) × Contains (pool_names ns) w × (w.path ≡ path_of (i + 1) o k)
  path_there i o at k pooled =
      let w = reached i o at k pooled in
      let number : 1 + i ≡ i + 1 = omega arith in
      let part = part_long (λ (o : ℕ × Object). names_in o.0 o.1) (enumerate_from 1 objects) (i + 1, o) (subst (λ (n : ℕ). Contains (enumerate_from 1 objects) (n, o)) number (in_numbered 1 objects i o at)) in
      let few = count_within (i + 1) o (k + 1) in
      (w.0, more_levels ns (count_to (i + 1) o (k + 1)) (length ns) [] w.0 (omega (arith, part, few)) w.1, w.2)

  -- ---- the node of a path

  position_there : (p : Named → Bool) (ws : List Named) (w : Named) → Contains ws w → p w ≡ true → (m : ℕ) × (position p ws ≡ Some m)
  position_there p ws w h is =
      let low : position_or_len p ws < length ws = elim (cases_lt h.0 (position_or_len p ws)) [
        | inl lt ↦ absurd (both_ways _ (fails_before_first p ws h.0 w lt) (ap p h.2 ∙ is))
        | inr le ↦ omega (arith, le, h.1)
      ] in
      (position_or_len p ws, ap (λ (b : Bool). cond b (Some (position_or_len p ws)) None) (lt-ltb (position_or_len p ws) (length ws) low))

  pub node_there : (path : List Piece) (w : Named) → Contains (pool_names ns) w → w.path ≡ path → (m : ℕ) × (node_of_path ns path ≡ Some m)
  node_there [] w h is = (0, refl)
  node_there (p ∷ path) w h is =
      let found = position_there (λ w. same_path w.path (p ∷ path)) (pool_names ns) w h (ap (λ (q : List Piece). same_path q (p ∷ path)) is ∙ same_paths (p ∷ path)) in
      (found.0 + 1, ap (option_map (λ n. n + 1)) found.1)

  pub node_of_entry : (i : ℕ) (o : Object) → slice_get objects i ≡ Some o → (k : ℕ) → is_pooled o k ≡ true → (m : ℕ) × (node_of_path ns (path_of (i + 1) o k) ≡ Some m)
  node_of_entry i o at k pooled = let w = path_there i o at k pooled in node_there (path_of (i + 1) o k) w.0 w.1 w.2

  node_of_name : (w : Named) → IsNameOf objects w → (m : ℕ) × (node_of_path ns w.path ≡ Some m)
  node_of_name w is =
      let number : w.object - 1 + 1 ≡ w.object = omega (arith, is.counted) in
      let path : w.path ≡ path_of (w.object - 1 + 1) is.object w.entry = ap (λ (x : Named). x.path) is.is ∙ ap (λ (n : ℕ). path_of n is.object w.entry) (sym number) in
      let m = node_of_entry (w.object - 1) is.object is.its w.entry is.pooled in
      (m.0, ap (node_of_path ns) path ∙ m.1)

  pub all_have_nodes : All (λ w. (m : ℕ) × (node_of_path ns w.path ≡ Some m)) ns
  all_have_nodes = All-weaker (IsNameOf objects) (λ w. (m : ℕ) × (node_of_path ns w.path ≡ Some m)) node_of_name ns (all_names objects)

-- ---- whether or not entries are merged

pub merged_good : (odr : Bool) (seen : List Analysis) (live : List (List Bool)) → All IsSound seen → AreLiveRows seen live → (i : ℕ) (o : Object) → slice_get (merged odr seen live) i ≡ Some o → IsGood o
merged_good true seen live sound rows i o at = objects_good seen live sound rows i o at
merged_good false seen live sound rows i o at = absurd (none-some o at)

few_by : (objects : List Object) → ((i : ℕ) (o : Object) → slice_get objects i ≡ Some o → IsGood o) → AreFew objects
few_by objects good i d lt = (good i (get_or objects i d) (slice_get-get_or objects i d lt)).sound.few

objects_few : (seen : List Analysis) (live : List (List Bool)) → length (objects_of seen live) ≤ length seen
objects_few [] live = omega arith
objects_few (a ∷ seen) [] = omega arith
objects_few (a ∷ seen) (row ∷ live) = omega (arith, objects_few seen live)

merged_few : (odr : Bool) (seen : List Analysis) (live : List (List Bool)) → length (merged odr seen live) ≤ length seen
merged_few true seen live = objects_few seen live
merged_few false seen live = omega arith

-- each name has a node
pub nodes_there : (odr : Bool) (seen : List Analysis) (live : List (List Bool)) → All IsSound seen → AreLiveRows seen live → All (λ w. (m : ℕ) × (node_of_path (linked_names odr seen live) w.path ≡ Some m)) (linked_names odr seen live)
nodes_there odr seen live sound rows = all_have_nodes (merged odr seen live) (merged_good odr seen live sound rows)

pub bids_apart : (odr : Bool) (seen : List Analysis) (live : List (List Bool)) → length seen < 2 ^ 16 → All IsSound seen → AreLiveRows seen live → AllPairs (λ a b. a.bid ≡ b.bid → ⊥) (linked_names odr seen live)
bids_apart odr seen live few sound rows = bids_differ (merged odr seen live) (omega (arith, few, merged_few odr seen live)) (few_by (merged odr seen live) (merged_good odr seen live sound rows))

pub bids_some : (odr : Bool) (seen : List Analysis) (live : List (List Bool)) → length seen < 2 ^ 16 → All IsSound seen → AreLiveRows seen live → All (λ w. w.bid < 2 ^ 64 - 1) (linked_names odr seen live)
bids_some odr seen live few sound rows = bids_low (merged odr seen live) (omega (arith, few, merged_few odr seen live)) (few_by (merged odr seen live) (merged_good odr seen live sound rows))

-- and each path one node
pub one_node : (odr : Bool) (seen : List Analysis) (live : List (List Bool)) → length seen < 2 ^ 16 → All IsSound seen → AreLiveRows seen live → AllPairs Differs (pool_names (linked_names odr seen live))
one_node odr seen live few sound rows = pairs_from_apart Differs (pool_names (linked_names odr seen live)) (pool_apart (linked_names odr seen live) (bids_apart odr seen live few sound rows))
