-- What is put at the entries of names, and the names of objects in their order.
use Rattle.std.proofs.Common.{◌≡◌, inl, inr, ℕ, zero, suc, ◌+◌, ◌-◌, ◌<◌, ◌≤◌, ◌&&◌, Bool, true, false, cond, List, [], ◌∷◌, ◌++◌, length, take, drop, set, get_or, slice_get, Option, Some, None, refl, sym, ap, subst, ◌∙◌, arith, length-append}
use Rattle.std.specs.List.{All, cons_option, enumerate_from, filter_map, flat_map}
use Rattle.std.specs.Option.{option_map_or}
use Rattle.std.proofs.Math.Seq.{drop-append_seam, take-append_seam}
use Rattle.std.proofs.lemmas.Bool.{cases_lt}
use Rattle.std.proofs.lemmas.Grind.{flat_map-append}
use Rattle.std.proofs.lemmas.List.{drop_more, get_or-drop, get_or-set_other, get_or-set_same, get_or-take, length-drop, length-set, length-take, take-append-drop}
use Rattle.std.proofs.lemmas.List.Elements.{All-head, All-nil, All-tail, All-weaker, filter_map-append}
use Rattle.std.proofs.lemmas.List.FromFn.{get_or-enumerate_from, length-enumerate_from}
use Rattle.std.proofs.lemmas.Option.{get_or_from_slice_get, same_Some, slice_get-get_or, slice_get_cases, slice_get_within}
use Rattle.dwarf_types.specs.declared.analysis.Analysis.{Analysis}
use Rattle.dwarf_types.specs.declared.entry.Entry.{Entry}
use Rattle.odr_names.specs.Numbered.{objects_of, path_at}
use Rattle.odr_names.specs.Stretches.{IsFirstOf, object_at}
use Rattle.type_names.specs.Heads.{Object, entries_of, is_pooled}
use Rattle.type_names.specs.Names.{Named, named_of, names_in}
use Rattle.link_graph.specs.Merged.{linked_names}
use Rattle.link_graph.specs.Passes.{names_between, put_each}
use Rattle.link_graph.proofs.Gathered.{All-enumerate, All-filter_map, All-flat_map, numbers_before, numbers_behind, numbers_below, parts_at}

-- ---- what is put

pub put_length : {A : Type 0} (f : Named → A) (ws : List Named) (xs : List A) → length (put_each f ws xs) ≡ length xs
put_length f [] xs = refl
put_length f (w ∷ ws) xs = put_length f ws (set xs w.entry (f w)) ∙ length-set xs w.entry (f w)

put_append : {A : Type 0} (f : Named → A) (vs ws : List Named) (xs : List A) → put_each f (vs ++ ws) xs ≡ put_each f ws (put_each f vs xs)
put_append f [] ws xs = refl
put_append f (v ∷ vs) ws xs = put_append f vs ws (set xs v.entry (f v))

-- where no name is of the entry
put_other : {A : Type 0} (f : Named → A) (ws : List Named) (xs : List A) (k : ℕ) (d : A) → All (λ w. w.entry ≡ k → ⊥) ws → get_or (put_each f ws xs) k d ≡ get_or xs k d
put_other f [] xs k d none = refl
put_other f (w ∷ ws) xs k d none =
    put_other f ws (set xs w.entry (f w)) k d (All-tail (λ (w : Named). w.entry ≡ k → ⊥) w ws none)
    ∙ get_or-set_other xs w.entry k (f w) d (λ same. All-head (λ (w : Named). w.entry ≡ k → ⊥) w ws none (sym same))

-- ---- the names of an object

named_if : (b : Bool) (w y : Named) → cond b (Some w) None ≡ Some y → w ≡ y
named_if true w y is = same_Some w y is
named_if false w y is = absurd cc

-- its pooled entries have a name each
put_at : {A : Type 0} (f : Named → A) (n : ℕ) (o : Object) (xs : List A) (k : ℕ) (e : Entry) (d : A) → slice_get (entries_of o) k ≡ Some e → k < length xs
    → get_or (put_each f (names_in n o) xs) k d ≡ cond (is_pooled o k) (f (named_of n o k e)) (get_or xs k d)
put_at {A} f n o xs k e d at within =
    ap (λ (ws : List Named). get_or (put_each f ws xs) k d) split ∙ ap (λ (ys : List A). get_or ys k d) (put_append f before (cons_option (g (k, e)) behind) xs) ∙ both (is_pooled o k)
  where
    g : ℕ × Entry → Option Named
    g x = cond (is_pooled o x.0) (Some (named_of n o x.0 x.1)) None

    before : List Named
    before = filter_map g (take k (enumerate_from 0 (entries_of o)))

    behind : List Named
    behind = filter_map g (drop (k + 1) (enumerate_from 0 (entries_of o)))

    split : names_in n o ≡ before ++ cons_option (g (k, e)) behind
    split = ap (filter_map g) (parts_at (entries_of o) k e at) ∙ filter_map-append g (take k (enumerate_from 0 (entries_of o))) ((k, e) ∷ drop (k + 1) (enumerate_from 0 (entries_of o)))

    other : (x : ℕ × Entry) → (x.0 ≡ k → ⊥) → (w : Named) → g x ≡ Some w → w.entry ≡ k → ⊥
    other x ne w is same = ne (ap (λ (w : Named). w.entry) (named_if (is_pooled o x.0) (named_of n o x.0 x.1) w is) ∙ same)

    none_before : All (λ w. w.entry ≡ k → ⊥) before
    none_before = All-filter_map (λ (w : Named). w.entry ≡ k → ⊥) g (take k (enumerate_from 0 (entries_of o)))
        (All-weaker (λ (x : ℕ × Entry). x.0 < k) (λ x. (w : Named) → g x ≡ Some w → w.entry ≡ k → ⊥) (λ x lt. other x (λ same. omega (arith, lt, same)))
        (take k (enumerate_from 0 (entries_of o))) (numbers_below (entries_of o) k))

    none_behind : All (λ w. w.entry ≡ k → ⊥) behind
    none_behind = All-filter_map (λ (w : Named). w.entry ≡ k → ⊥) g (drop (k + 1) (enumerate_from 0 (entries_of o)))
        (All-weaker (λ (x : ℕ × Entry). 0 + (k + 1) ≤ x.0) (λ x. (w : Named) → g x ≡ Some w → w.entry ≡ k → ⊥) (λ x le. other x (λ same. omega (arith, le, same)))
        (drop (k + 1) (enumerate_from 0 (entries_of o))) (numbers_behind 0 (entries_of o) (k + 1)))

    both : (b : Bool) → get_or (put_each f (cons_option (cond b (Some (named_of n o k e)) None) behind) (put_each f before xs)) k d ≡ cond b (f (named_of n o k e)) (get_or xs k d)
    both true = put_other f behind (set (put_each f before xs) k (f (named_of n o k e))) k d none_behind
        ∙ get_or-set_same (put_each f before xs) k (f (named_of n o k e)) d (omega (arith, within, put_length f before xs))
    both false = put_other f behind (put_each f before xs) k d none_behind ∙ put_other f before xs k d none_before

-- the names of an object, where entries are merged
abbrev pub named_in : Bool → ℕ → Object → List Named
named_in odr n o = cond odr (names_in n o) []

pub put_named : {A : Type 0} (f : Named → A) (odr : Bool) (n : ℕ) (o : Object) (xs : List A) (k : ℕ) (e : Entry) (d : A) → slice_get (entries_of o) k ≡ Some e → k < length xs
    → get_or (put_each f (named_in odr n o) xs) k d ≡ cond (odr && is_pooled o k) (f (named_of n o k e)) (get_or xs k d)
put_named f true n o xs k e d at within = put_at f n o xs k e d at within
put_named f false n o xs k e d at within = refl

-- each name is of an entry
pub record IsNameOf (n : ℕ) (o : Object) (w : Named) : Type 0 where
  pub entry : Entry
  pub stands : slice_get (entries_of o) w.entry ≡ Some entry
  pub of_object : w.object ≡ n

pub are_names_of : (odr : Bool) (n : ℕ) (o : Object) → All (IsNameOf n o) (named_in odr n o)
are_names_of false n o = All-nil (IsNameOf n o)
are_names_of true n o = All-filter_map (IsNameOf n o) g (enumerate_from 0 (entries_of o))
    (All-weaker (λ (x : ℕ × Entry). slice_get (entries_of o) x.0 ≡ Some x.1) (λ x. (w : Named) → g x ≡ Some w → IsNameOf n o w) each (enumerate_from 0 (entries_of o)) (All-enumerate (entries_of o)))
  where
    g : ℕ × Entry → Option Named
    g x = cond (is_pooled o x.0) (Some (named_of n o x.0 x.1)) None

    each : (x : ℕ × Entry) → slice_get (entries_of o) x.0 ≡ Some x.1 → (w : Named) → g x ≡ Some w → IsNameOf n o w
    each x at w is =
        let same = named_if (is_pooled o x.0) (named_of n o x.0 x.1) w is in
        record { entry = x.1; stands = ap (λ (w : Named). slice_get (entries_of o) w.entry) (sym same) ∙ at; of_object = ap (λ (w : Named). w.object) (sym same) }

pub entries_within : (odr : Bool) (n : ℕ) (o : Object) → All (λ w. w.entry < length (entries_of o)) (named_in odr n o)
entries_within odr n o = All-weaker (IsNameOf n o) (λ w. w.entry < length (entries_of o)) (λ w is. slice_get_within (entries_of o) w.entry is.entry is.stands) (named_in odr n o) (are_names_of odr n o)

-- ---- the names of all objects, object by object

pub one_on : {A : Type 0} (xs : List A) → All (λ x. (1 ≤ x.0) × (slice_get xs (x.0 - 1) ≡ Some x.1)) (enumerate_from 1 xs)
one_on {A} xs i d lt =
    let within : i < length xs = omega (arith, lt, length-enumerate_from 1 xs) in
    let P : ℕ × A → Type 0 = λ x. (1 ≤ x.0) × (slice_get xs (x.0 - 1) ≡ Some x.1) in
    let place : 1 + i - 1 ≡ i = omega arith in
    subst P (sym (get_or-enumerate_from 1 xs i d within)) (omega arith, ap (slice_get xs) place ∙ slice_get-get_or xs i d.1 within)

-- those of the objects from object i on
abbrev pub names_from : Bool → List Object → ℕ → List Named
names_from odr objects i = flat_map (λ o. named_in odr o.0 o.1) (drop i (enumerate_from 1 objects))

none_named : (xs : List (ℕ × Object)) → flat_map (λ (o : ℕ × Object). named_in false o.0 o.1) xs ≡ []
none_named [] = refl
none_named (x ∷ xs) = none_named xs

pub names_begin : (odr : Bool) (seen : List Analysis) (live : List (List Bool)) → linked_names odr seen live ≡ names_from odr (objects_of seen live) 0
names_begin true seen live = refl
names_begin false seen live = sym (none_named (enumerate_from 1 (objects_of seen live)))

pub names_next : (odr : Bool) (objects : List Object) (i : ℕ) (o : Object) → slice_get objects i ≡ Some o → names_from odr objects i ≡ named_in odr (i + 1) o ++ names_from odr objects (i + 1)
names_next odr objects i o at =
    let within : i < length objects = slice_get_within objects i o at in
    let number : 1 + i ≡ i + 1 = omega arith in
    let here : get_or (enumerate_from 1 objects) i (i + 1, o) ≡ (i + 1, o) =
    get_or-enumerate_from 1 objects i (i + 1, o) within ∙ ap (λ (n : ℕ). (n, get_or objects i o)) number ∙ ap (λ (x : Object). (i + 1, x)) (get_or_from_slice_get objects i o o at) in
    ap (flat_map (λ (o : ℕ × Object). named_in odr o.0 o.1)) (drop_more (enumerate_from 1 objects) i (i + 1, o) (omega (arith, within, length-enumerate_from 1 objects)) ∙ ap (λ (x : ℕ × Object). x ∷ drop (i + 1) (enumerate_from 1 objects)) here)

-- those of the objects before object i
abbrev names_to : Bool → List Object → ℕ → List Named
names_to odr objects i = flat_map (λ o. named_in odr o.0 o.1) (take i (enumerate_from 1 objects))

named_whole : (odr : Bool) (objects : List Object) (i : ℕ) → names_from odr objects 0 ≡ names_to odr objects i ++ names_from odr objects i
named_whole odr objects i =
    ap (flat_map (λ (o : ℕ × Object). named_in odr o.0 o.1)) (sym (take-append-drop i (enumerate_from 1 objects)))
    ∙ flat_map-append (λ (o : ℕ × Object). named_in odr o.0 o.1) (take i (enumerate_from 1 objects)) (drop i (enumerate_from 1 objects))

earlier_names : (odr : Bool) (objects : List Object) (i : ℕ) → All (λ w. w.object < i + 1) (names_to odr objects i)
earlier_names odr objects i = All-flat_map (λ (w : Named). w.object < i + 1) (λ (o : ℕ × Object). named_in odr o.0 o.1) (take i (enumerate_from 1 objects))
    (All-weaker (λ (x : ℕ × Object). x.0 < 1 + i) (λ x. All (λ (w : Named). w.object < i + 1) (named_in odr x.0 x.1))
    (λ x lt. All-weaker (IsNameOf x.0 x.1) (λ w. w.object < i + 1) (λ w is. omega (arith, lt, is.of_object)) (named_in odr x.0 x.1) (are_names_of odr x.0 x.1))
    (take i (enumerate_from 1 objects)) (numbers_before 1 objects i))

later_names : (odr : Bool) (objects : List Object) (i : ℕ) → All (λ w. i + 1 ≤ w.object) (names_from odr objects i)
later_names odr objects i = All-flat_map (λ (w : Named). i + 1 ≤ w.object) (λ (o : ℕ × Object). named_in odr o.0 o.1) (drop i (enumerate_from 1 objects))
    (All-weaker (λ (x : ℕ × Object). 1 + i ≤ x.0) (λ x. All (λ (w : Named). i + 1 ≤ w.object) (named_in odr x.0 x.1))
    (λ x le. All-weaker (IsNameOf x.0 x.1) (λ w. i + 1 ≤ w.object) (λ w is. omega (arith, le, is.of_object)) (named_in odr x.0 x.1) (are_names_of odr x.0 x.1))
    (drop i (enumerate_from 1 objects)) (numbers_behind 1 objects i))

-- ---- where they begin

object_before : (n : ℕ) (vs ws : List Named) (x : ℕ) → All (λ w. w.object < n) vs → x < length vs → object_at (vs ++ ws) x < n
object_before n [] ws x are lt = absurd (omega (arith, lt))
object_before n (v ∷ vs) ws zero are lt = All-head (λ (w : Named). w.object < n) v vs are
object_before n (v ∷ vs) ws (suc x) are lt = object_before n vs ws x (All-tail (λ (w : Named). w.object < n) v vs are) (omega (arith, lt))

object_behind : (n : ℕ) (vs ws : List Named) → All (λ w. n ≤ w.object) ws → 0 < length ws → n ≤ object_at (vs ++ ws) (length vs)
object_behind n [] [] are lt = absurd (omega (arith, lt))
object_behind n [] (w ∷ ws) are lt = All-head (λ (w : Named). n ≤ w.object) w ws are
object_behind n (v ∷ vs) ws are lt = object_behind n vs ws are lt

-- names of objects from n on begin behind those of objects below n
first_place : (n : ℕ) (vs ws : List Named) (first : ℕ) → All (λ w. w.object < n) vs → All (λ w. n ≤ w.object) ws → IsFirstOf (vs ++ ws) n first → first ≡ length vs
first_place n vs ws first below behind is = elim (cases_lt first (length vs)) [
  | inl lt ↦ absurd (omega (arith, object_before n vs ws first below lt, is.behind first (omega arith) (omega (arith, lt, length-append vs ws))))
  | inr le ↦ elim (cases_lt (length vs) first) [
    | inl lt ↦ absurd (omega (arith, object_behind n vs ws behind (omega (arith, lt, is.within, length-append vs ws)), is.before (length vs) lt))
    | inr ge ↦ omega (arith, le, ge)
  ]
]

left_from : (odr : Bool) (objects : List Object) (names : List Named) (i n first : ℕ) → names ≡ names_from odr objects 0 → n ≡ i + 1 → IsFirstOf names n first → drop first names ≡ names_from odr objects i
left_from odr objects names i n first all number is =
    let whole : names ≡ names_to odr objects i ++ names_from odr objects i = all ∙ named_whole odr objects i in
    let is_first : IsFirstOf (names_to odr objects i ++ names_from odr objects i) (i + 1) first =
    subst (λ (m : ℕ). IsFirstOf (names_to odr objects i ++ names_from odr objects i) m first) number (subst (λ (ns : List Named). IsFirstOf ns n first) whole is) in
    let place = first_place (i + 1) (names_to odr objects i) (names_from odr objects i) first (earlier_names odr objects i) (later_names odr objects i) is_first in
    ap (λ (m : ℕ). drop m names) place ∙ ap (drop (length (names_to odr objects i))) whole ∙ drop-append_seam (names_to odr objects i) (names_from odr objects i)

-- the names from one on up to another are these
pub record AreBetween (names : List Named) (from end : ℕ) (ws : List Named) : Type 0 where
  pub order : from ≤ end
  pub within : end ≤ length names
  pub own : names_between names from end ≡ ws

-- those of object i
pub own_names : (odr : Bool) (objects : List Object) (names : List Named) (i from end : ℕ) (o : Object) → slice_get objects i ≡ Some o → names ≡ names_from odr objects 0
    → IsFirstOf names (i + 1) from → IsFirstOf names (i + 2) end → AreBetween names from end (named_in odr (i + 1) o)
own_names odr objects names i from end o at all is_from is_end =
    let own = named_in odr (i + 1) o in
    let rest = names_from odr objects (i + 1) in
    let left : drop from names ≡ own ++ rest = left_from odr objects names i (i + 1) from all refl is_from ∙ names_next odr objects i o at in
    let behind : drop end names ≡ rest = left_from odr objects names (i + 1) (i + 2) end all (omega arith) is_end in
    let long : length names - from ≡ length own + length rest = sym (length-drop from names) ∙ ap length left ∙ length-append own rest in
    let short : length names - end ≡ length rest = sym (length-drop end names) ∙ ap length behind in
    let count : end - from ≡ length own = omega (arith, long, short, is_from.within, is_end.within) in
    record {
      order = omega (arith, long, short, is_from.within, is_end.within);
      within = is_end.within;
      own = ap (λ (m : ℕ). take m (drop from names)) count ∙ ap (take (length own)) left ∙ take-append_seam own rest;
    }

pub own_entries : (odr : Bool) (names : List Named) (i from end : ℕ) (o : Object) → AreBetween names from end (named_in odr (i + 1) o) → All (λ w. w.entry < length (entries_of o)) (names_between names from end)
own_entries odr names i from end o are = subst (All (λ (w : Named). w.entry < length (entries_of o))) (sym are.own) (entries_within odr (i + 1) o)

-- ---- name by name

pub name_there : (names : List Named) (x : ℕ) → x < length names → (w : Named) × (slice_get names x ≡ Some w)
name_there names x within = elim (slice_get_cases names x).1 [ inl some ↦ (some.0, some.2) | inr past ↦ absurd (omega (arith, within, past.0)) ]

dropped : (names : List Named) (x : ℕ) (w : Named) → slice_get names x ≡ Some w → drop x names ≡ w ∷ drop (x + 1) names
dropped names x w at = drop_more names x w (slice_get_within names x w at) ∙ ap (λ (v : Named). v ∷ drop (x + 1) names) (get_or_from_slice_get names x w w at)

-- the names that are left, one by one
pub between_more : (names : List Named) (x end : ℕ) (w : Named) → slice_get names x ≡ Some w → x < end → names_between names x end ≡ w ∷ names_between names (x + 1) end
between_more names x end w at lt =
    let long : end - x ≡ suc (end - (x + 1)) = omega (arith, lt) in
    ap (λ (m : ℕ). take m (drop x names)) long ∙ ap (take (suc (end - (x + 1)))) (dropped names x w at)

pub between_none : (names : List Named) (x end : ℕ) → end ≤ x → names_between names x end ≡ []
between_none names x end le = let none : end - x ≡ 0 = omega (arith, le) in ap (λ (m : ℕ). take m (drop x names)) none

-- what holds of the names from one on up to another
pub between_at : (P : Named → Type 0) (names : List Named) (from end x : ℕ) (w : Named) → All P (names_between names from end) → slice_get names x ≡ Some w → from ≤ x → x < end → P w
between_at P names from end x w all at le lt =
    let within = slice_get_within names x w at in
    let place : from + (x - from) ≡ x = omega (arith, le) in
    let below : x - from < end - from = omega (arith, le, lt) in
    let here : get_or (names_between names from end) (x - from) w ≡ w =
    get_or-take (end - from) (drop from names) (x - from) w below ∙ get_or-drop from names (x - from) w ∙ ap (λ (k : ℕ). get_or names k w) place ∙ get_or_from_slice_get names x w w at in
    subst P here (all (x - from) w (omega (arith, length-take (end - from) (drop from names), length-drop from names, below, within, le)))

pub path_told : (names : List Named) (x : ℕ) (w : Named) → slice_get names x ≡ Some w → path_at names x ≡ w.path
path_told names x w at = ap (λ (v : Option Named). option_map_or (λ (w : Named). w.path) v []) at
