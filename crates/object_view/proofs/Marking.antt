-- The first stmt_list of a root is marked, entry by entry.
use Rattle.std.proofs.Common.{◌≡◌, ℕ, zero, suc, ◌+◌, ◌<◌, ◌≤◌, ◌==◌, Bool, true, false, List, [], ◌∷◌, ◌++◌, map, length, take, drop, get_or, set, slice_get, Some, None, refl, sym, ap, ◌∙◌, arith, add-one}
use Rattle.std.specs.Prelude.{is_none, if◌then◌else◌}
use Rattle.std.proofs.lemmas.List.{drop_more, set_split}
use Rattle.std.proofs.lemmas.Option.{get_or_from_slice_get, slice_get_within}
use Rattle.ds_base.specs.DwarfNumbers.{DW_AT_stmt_list}
use Rattle.dwarf_types.specs.declared.entry.Attr.{Attr}
use Rattle.dwarf_types.specs.declared.entry.Entry.{Entry}
use Rattle.dwarf_types.specs.declared.value.Value.{Value}
use Rattle.dwarf_types.specs.declared.value.Value.TheVariants as values
use Rattle.object_view.specs.Attributes.{lines_marked, lines_value, with_value}
use Rattle.object_view.specs.Ready.{IsFirstList, IsMarkedAt}
use Rattle.object_view.proofs.InPlace.{get_some, set_same}

-- ---- items changed one after the other

-- the first items changed, and the others as they were
abbrev pub so_far : {X : Type 0} → (X → X) → ℕ → List X → List X
so_far f zero xs = xs
so_far f (suc i) [] = []
so_far f (suc i) (x ∷ xs) = f x ∷ so_far f i xs

so_far_get : {X : Type 0} (f : X → X) (i : ℕ) (xs : List X) → slice_get (so_far f i xs) i ≡ slice_get xs i
so_far_get f zero xs = refl
so_far_get f (suc i) [] = refl
so_far_get f (suc i) (x ∷ xs) = so_far_get f i xs

so_far_suc : {X : Type 0} (f : X → X) (i : ℕ) (xs : List X) (x : X) → slice_get xs i ≡ Some x → set (so_far f i xs) i (f x) ≡ so_far f (suc i) xs
so_far_suc f zero [] x e = refl
so_far_suc {X} f zero (y ∷ xs) x e = let same : y ≡ x = cc in ap (λ (z : X). f z ∷ xs) (sym same)
so_far_suc f (suc i) [] x e = refl
so_far_suc f (suc i) (y ∷ xs) x e = ap (λ ys. f y ∷ ys) (so_far_suc f i xs x e)

so_far_set : {X : Type 0} (f : X → X) (i : ℕ) (xs : List X) (x : X) → slice_get xs i ≡ Some x → set (so_far f i xs) i (f x) ≡ so_far f (i + 1) xs
so_far_set f i xs x e = rw add-one (so_far_suc f i xs x e)

pub so_far_all : {X : Type 0} (f : X → X) (i : ℕ) (xs : List X) → length xs ≤ i → so_far f i xs ≡ map f xs
so_far_all f zero [] le = refl
so_far_all f zero (x ∷ xs) le = absurd (omega arith)
so_far_all f (suc i) [] le = refl
so_far_all f (suc i) (x ∷ xs) le = ap (λ ys. f x ∷ ys) (so_far_all f i xs (omega arith))

pub so_far_length : {X : Type 0} (f : X → X) (i : ℕ) (xs : List X) → length (so_far f i xs) ≡ length xs
so_far_length f zero xs = refl
so_far_length f (suc i) [] = refl
so_far_length f (suc i) (x ∷ xs) = ap suc (so_far_length f i xs)

-- one item more
pub so_far_more : {X : Type 0} (f : X → X) (xs ys new : List X) (i : ℕ) → i < length xs → ys ≡ so_far f i xs → ((x : X) → slice_get ys i ≡ Some x → new ≡ set ys i (f x)) → new ≡ so_far f (i + 1) xs
so_far_more {X} f xs ys new i lt is step =
    let it = get_some xs i lt in
    let stands : slice_get ys i ≡ Some it.0 = rw is (so_far_get f i xs ∙ it.1) in
    step it.0 stands ∙ (ap (λ (zs : List X). set zs i (f it.0)) is ∙ so_far_set f i xs it.0 it.1)

-- ---- the first stmt_list

abbrev with_attrs : Entry → List Attr → Entry
with_attrs e attrs = record e { attrs = attrs }

abbrev marked : Attr → Attr
marked a = with_value a (lines_value a)

first_marked : (a : Attr) (others : List Attr) → (a.name == DW_AT_stmt_list) ≡ true → lines_marked (a ∷ others) ≡ marked a ∷ others
first_marked a others is = rw is refl

-- no stmt_list stands before a place, and one there
pub first_at : (attrs : List Attr) (j : ℕ) (a : Attr) → take j attrs ++ lines_marked (drop j attrs) ≡ lines_marked attrs → slice_get attrs j ≡ Some a → (a.name == DW_AT_stmt_list) ≡ true → IsFirstList attrs (Some j)
first_at attrs j a so_far is name =
    let lt = slice_get_within attrs j a is in
    let here : get_or attrs j a ≡ a = get_or_from_slice_get attrs j a a is in
    let rest : drop j attrs ≡ a ∷ drop (j + 1) attrs = drop_more attrs j a lt ∙ ap (λ (x : Attr). x ∷ drop (j + 1) attrs) here in (
      a,
      is,
      sym so_far
          ∙ ap (λ (xs : List Attr). take j attrs ++ lines_marked xs) rest
          ∙ ap (λ (xs : List Attr). take j attrs ++ xs) (first_marked a (drop (j + 1) attrs) name)
          ∙ ap (λ n. take j attrs ++ marked a ∷ drop n attrs) (add-one j)
          ∙ sym (set_split attrs j (marked a) lt),
    )

unmarked_if : (b : Bool) (e : Entry) → lines_marked e.attrs ≡ e.attrs → (if b then record e { attrs = lines_marked e.attrs } else e) ≡ e
unmarked_if true e same = ap (λ (attrs : List Attr). with_attrs e attrs) same
unmarked_if false e same = refl

-- no attribute is another
pub unmarked : (e : Entry) → lines_marked e.attrs ≡ e.attrs → IsMarkedAt e None
unmarked e same = unmarked_if (is_none e.parent) e same

-- the first stmt_list is no section offset
pub unlisted : (e : Entry) (j : ℕ) (a : Attr) → slice_get e.attrs j ≡ Some a → lines_marked e.attrs ≡ set e.attrs j (marked a) → lines_value a ≡ a.value → IsMarkedAt e None
unlisted e j a is first same = unmarked e (first ∙ ap (λ (value : Value). set e.attrs j (with_value a value)) same ∙ set_same e.attrs j a is)

-- that of a root is one
pub listed : (e : Entry) (j : ℕ) (a : Attr) → is_none e.parent ≡ true → slice_get e.attrs j ≡ Some a → lines_marked e.attrs ≡ set e.attrs j (marked a) → lines_value a ≡ values.Lines → IsMarkedAt e (Some j)
listed e j a root is first lines = (a, is, rw root (ap (λ (attrs : List Attr). with_attrs e attrs) (first ∙ ap (λ (value : Value). set e.attrs j (with_value a value)) lines)))
