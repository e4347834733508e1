-- What is appended, piece by piece.
use Rattle.std.proofs.Common.{◌≡◌, ℕ, ◌+◌, List, [], ◌∷◌, ◌++◌, fold, length, append_assoc, append-nil, refl, sym, ap, ◌∙◌, arith, length-append}
use Rattle.std.specs.List.{flat_map, sum_by}
use Rattle.std.proofs.lemmas.List.Sums.{fold-append}
use Rattle.std.proofs.lemmas.List.Concat.{flat_map-append, length-flat_map}
use mathlib.Core.Path.{fun_ext}
use Rattle.ds_base.specs.Texts.{with_text}
use Rattle.dwarf_types.specs.declared.graph.Node.{Node}
use Rattle.dwarf_types.specs.declared.graph.OutAttr.{OutAttr}
use Rattle.dwarf_types.specs.declared.graph.OutValue.{OutValue}
use Rattle.dwarf_types.specs.declared.graph.OutValue.TheVariants as values
use Rattle.dwarf_types.specs.Entries.{OutEntry, behind_node, entries_bytes, entry_bytes}
use Rattle.dwarf_types.specs.Lists.{ranges_bytes, ranges_len, locations_bytes, locations_len}
use Rattle.dwarf_types.specs.Places.{ListPlaces, behind_value, own_node}
use Rattle.dwarf_types.specs.Values.{value_bytes, values_bytes}
use Rattle.dwarf_types.proofs.Lengths.{length-range_list, length-location_list}
use Rattle.patches.specs.Filling.{Holey, filled}
use Rattle.unit_draft.specs.declared.drafting.Drafting.{Drafting}
use Rattle.unit_draft.specs.declared.drafting.Scratch.{Scratch}
use Rattle.unit_draft.specs.World.{World}
use Rattle.unit_draft.specs.Appends.{Appends, AppendsEntries, AppendsEntry, AppendsValue, AppendsValues, Fits, all_locations, all_ranges, all_texts, attrs_of, next_lists, texts_in}

abbrev with_info : Drafting → Holey → Scratch → Drafting
with_info d info scratch = record d { info = info; scratch = scratch }

abbrev pub at_lists : ℕ → ℕ → ListPlaces
at_lists ranges locations = record { ranges = ranges; locations = locations }

pub same_next : (a b c d : ℕ) → a ≡ c → b ≡ d → at_lists a b ≡ at_lists c d
same_next a b c d e f = ap (λ (n : ℕ). at_lists n b) e ∙ ap (at_lists c) f

module _ (number version : ℕ) where
  -- bytes of the unit alone
  pub only_info : (old : Drafting) (info : Holey) (scratch : Scratch) (bytes : World → List ℕ)
      → ((w : World) → Fits number version old.names w → filled info w.filling ≡ filled old.info w.filling ++ bytes w) → Appends number version old (with_info old info scratch) bytes [] (λ place. []) []
  only_info old info scratch bytes is = record {
    names = λ w fits. fits;
    info = is;
    ranges = sym (append-nil old.ranges);
    locations = λ f place tells. sym (append-nil (filled old.locations f));
    texts = refl;
  }

  pub appends_none : (d : Drafting) → Appends number version d d (λ w. []) [] (λ place. []) []
  appends_none d = only_info d d.info d.scratch (λ w. []) (λ w fits. sym (append-nil (filled d.info w.filling)))

  -- where the next lists stand behind those that were appended
  next_behind : (old new : Drafting) (bytes : World → List ℕ) (pairs : List ℕ) (items : (ℕ → ℕ) → List ℕ) (uses : List (List ℕ)) → Appends number version old new bytes pairs items uses → (w : World) → Fits number version new.names w
      → next_lists w new ≡ at_lists ((next_lists w old).ranges + length pairs) ((next_lists w old).locations + length (items (own_node w.places)))
  next_behind old new bytes pairs items uses h w fits =
      same_next _ _ _ _ (omega (arith, ap length h.ranges, length-append old.ranges pairs))
      (omega (arith, ap length (h.locations w.filling (own_node w.places) fits.base), length-append (filled old.locations w.filling) (items (own_node w.places))))

  module _ (old mid new : Drafting) where
    -- one piece behind the other, where the second depends on where the next lists stand
    pub appends_more : (b d : World → ListPlaces → List ℕ) (pairs more : List ℕ) (items others : (ℕ → ℕ) → List ℕ) (uses later : List (List ℕ))
        → Appends number version old mid (λ w. b w (next_lists w old)) pairs items uses → Appends number version mid new (λ w. d w (next_lists w mid)) more others later
        → Appends number version old new (λ w. b w (next_lists w old) ++ d w (at_lists ((next_lists w old).ranges + length pairs) ((next_lists w old).locations + length (items (own_node w.places))))) (pairs ++ more) (λ place. items place ++ others place) (uses ++ later)
    appends_more b d pairs more items others uses later one two = record {
      names = λ w fits. one.names w (two.names w fits);
      info = λ w fits.
          two.info w fits ∙ ap (λ (front : List ℕ). front ++ d w (next_lists w mid)) (one.info w (two.names w fits))
          ∙ append_assoc (filled old.info w.filling) (b w (next_lists w old)) (d w (next_lists w mid))
          ∙ ap (λ (next : ListPlaces). filled old.info w.filling ++ (b w (next_lists w old) ++ d w next))
          (next_behind old mid (λ (v : World). b v (next_lists v old)) pairs items uses one w (two.names w fits));
      ranges = two.ranges ∙ ap (λ (front : List ℕ). front ++ more) one.ranges ∙ append_assoc old.ranges pairs more;
      locations = λ f place tells.
          two.locations f place tells ∙ ap (λ (front : List ℕ). front ++ others place) (one.locations f place tells) ∙ append_assoc (filled old.locations f) (items place) (others place);
      texts = two.texts ∙ ap (λ (texts : List (List ℕ)). fold with_text texts later) one.texts ∙ sym (fold-append with_text old.names uses later);
    }

  -- the same bytes, said otherwise
  pub appends_same : (old new : Drafting) (b d : World → List ℕ) (pairs more : List ℕ) (items others : (ℕ → ℕ) → List ℕ) (uses later : List (List ℕ))
      → ((w : World) → w.places.version ≡ version → b w ≡ d w) → pairs ≡ more → ((place : ℕ → ℕ) → items place ≡ others place) → uses ≡ later → Appends number version old new b pairs items uses → Appends number version old new d more others later
  appends_same old new b d pairs more items others uses later bytes lists locations texts h = record {
    names = h.names;
    info = λ w fits. h.info w fits ∙ ap (λ (xs : List ℕ). filled old.info w.filling ++ xs) (bytes w fits.of_version);
    ranges = h.ranges ∙ ap (λ (xs : List ℕ). old.ranges ++ xs) lists;
    locations = λ f place tells. h.locations f place tells ∙ ap (λ (xs : List ℕ). filled old.locations f ++ xs) (locations place);
    texts = h.texts ∙ ap (fold with_text old.names) texts;
  }

-- parts one after the other, each of which has a length
length_of_all : {X : Type 0} (f : X → List ℕ) (len : X → ℕ) → ((x : X) → length (f x) ≡ len x) → (xs : List X) → length (flat_map f xs) ≡ sum_by len xs
length_of_all {X} f len each xs = length-flat_map f xs ∙ ap (λ (g : X → ℕ). sum_by g xs) (fun_ext each)

-- ---- lists have the lengths that are told of them

length-ranges : (version : ℕ) (v : OutValue) → length (ranges_bytes version v) ≡ ranges_len version v
length-ranges version (values.Address n) = refl
length-ranges version (values.Text t) = refl
length-ranges version (values.Number f n) = refl
length-ranges version (values.Wide b) = refl
length-ranges version (values.Block f b) = refl
length-ranges version (values.Expr p) = refl
length-ranges version (values.Ref t) = refl
length-ranges version (values.Ranges s) = length-range_list version s
length-ranges version (values.Locations i) = refl
length-ranges version values.Lines = refl

length-locations : (version : ℕ) (place : ℕ → ℕ) (v : OutValue) → length (locations_bytes version place v) ≡ locations_len version v
length-locations version place (values.Address n) = refl
length-locations version place (values.Text t) = refl
length-locations version place (values.Number f n) = refl
length-locations version place (values.Wide b) = refl
length-locations version place (values.Block f b) = refl
length-locations version place (values.Expr p) = refl
length-locations version place (values.Ref t) = refl
length-locations version place (values.Ranges s) = refl
length-locations version place (values.Locations i) = length-location_list version place i
length-locations version place values.Lines = refl

module _ (version : ℕ) (w : World) (same : w.places.version ≡ version) (next : ListPlaces) where
  -- behind a value
  behind_one : (v : OutValue) → at_lists (next.ranges + length (ranges_bytes version v)) (next.locations + length (locations_bytes version (own_node w.places) v)) ≡ behind_value w.places.version next v
  behind_one v =
      same_next _ _ _ _ (ap (λ (n : ℕ). next.ranges + n) (length-ranges version v)) (ap (λ (n : ℕ). next.locations + n) (length-locations version (own_node w.places) v))
      ∙ ap (λ (n : ℕ). behind_value n next v) (sym same)

  -- behind values
  behind_all : (node : Node) → at_lists (next.ranges + length (all_ranges version node.attrs)) (next.locations + length (all_locations version (own_node w.places) node.attrs)) ≡ behind_node w.places.version next node
  behind_all node =
      same_next _ _ _ _ (ap (λ (n : ℕ). next.ranges + n) (length_of_all (λ (a : OutAttr). ranges_bytes version a.value) (λ a. ranges_len version a.value) (λ a. length-ranges version a.value) node.attrs))
      (ap (λ (n : ℕ). next.locations + n) (length_of_all (λ (a : OutAttr). locations_bytes version (own_node w.places) a.value) (λ a. locations_len version a.value) (λ a. length-locations version (own_node w.places) a.value) node.attrs))
      ∙ ap (λ (n : ℕ). behind_node n next node) (sym same)

abbrev entry : ℕ → Node → ℕ → OutEntry
entry code node ended = record { code = code; node = node; ended = ended }

module _ (number version : ℕ) (old mid new : Drafting) where
  -- one value more, in front
  pub values_cons : (a : OutAttr) (attrs : List OutAttr) → AppendsValue number version old mid a.value → AppendsValues number version mid new attrs → AppendsValues number version old new (a ∷ attrs)
  values_cons a attrs one two =
      let items = λ (place : ℕ → ℕ). locations_bytes version place a.value in
      let both = appends_more number version old mid new (λ w next. value_bytes w.places next a.value) (λ w next. values_bytes w.places next attrs) (ranges_bytes version a.value) (all_ranges version attrs) items
      (λ place. all_locations version place attrs) (texts_in a.value) (all_texts attrs) one two in
      appends_same number version old new _ (λ w. values_bytes w.places (next_lists w old) (a ∷ attrs)) _ (all_ranges version (a ∷ attrs)) _ (λ place. all_locations version place (a ∷ attrs)) _ (all_texts (a ∷ attrs))
      (λ w same. ap (λ (next : ListPlaces). value_bytes w.places (next_lists w old) a.value ++ values_bytes w.places next attrs) (behind_one version w same (next_lists w old) a.value)) refl (λ place. refl) refl both

  -- one entry more, in front
  pub entries_cons : (e : OutEntry) (es : List OutEntry) → AppendsEntry number version old mid e → AppendsEntries number version mid new es → AppendsEntries number version old new (e ∷ es)
  entries_cons e es one two =
      let items = λ (place : ℕ → ℕ). all_locations version place e.node.attrs in
      let both = appends_more number version old mid new (λ w next. entry_bytes w.places next e) (λ w next. entries_bytes w.places next es) (all_ranges version e.node.attrs) (all_ranges version (attrs_of es)) items
      (λ place. all_locations version place (attrs_of es)) (all_texts e.node.attrs) (all_texts (attrs_of es)) one two in
      appends_same number version old new _ (λ w. entries_bytes w.places (next_lists w old) (e ∷ es)) _ (all_ranges version (attrs_of (e ∷ es))) _ (λ place. all_locations version place (attrs_of (e ∷ es))) _ (all_texts (attrs_of (e ∷ es)))
      (λ w same. ap (λ (next : ListPlaces). entry_bytes w.places (next_lists w old) e ++ entries_bytes w.places next es) (behind_all version w same (next_lists w old) e.node))
      (sym (flat_map-append (λ (a : OutAttr). ranges_bytes version a.value) e.node.attrs (attrs_of es)))
      (λ place. sym (flat_map-append (λ (a : OutAttr). locations_bytes version place a.value) e.node.attrs (attrs_of es))) (sym (flat_map-append (λ (a : OutAttr). texts_in a.value) e.node.attrs (attrs_of es))) both
