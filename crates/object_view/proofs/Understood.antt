-- Entries as they are understood, each made at once of the one that was read.
use Rattle.std.proofs.Common.{◌≡◌, ℕ, List, [], ◌∷◌, map, Result, Ok, Err, refl, sym, ap, ap₂, subst, ◌∙◌}
use Rattle.std.specs.List.{All}
use Rattle.ds_base.specs.declared.fault.Fault.{Fault}
use Rattle.ds_base.specs.Reading.{◌>>=◌}
use Rattle.ds_base.proofs.Passing.{bind_ok, ok_is}
use Rattle.dwarf_types.specs.declared.entry.Attr.{Attr}
use Rattle.dwarf_types.specs.declared.entry.Entry.{Entry}
use Rattle.dwarf_types.specs.declared.entry.RawAttr.{RawAttr}
use Rattle.dwarf_types.specs.declared.entry.RawEntry.{RawEntry}
use Rattle.dwarf_types.specs.declared.value.Value.{Value}
use Rattle.dwarf_types.specs.Raw.{attr_of, entry_of}
use Rattle.object_view.specs.Attributes.{each_of, raw_attr_by, raw_attrs_by, raw_entries_by, raw_entry_by}
use Rattle.object_view.proofs.Names.{each_all}

-- an attribute that was read, with another value
abbrev pub as_attr : RawAttr → Value → Attr
as_attr a value = record { name = a.name; form = a.form; value = value }

-- an entry that was read, with other attributes
abbrev pub as_entry : RawEntry → List Attr → Entry
as_entry e attrs = record { parent = e.parent; unit = e.unit; place = e.place; tag = e.tag; attrs = attrs }

abbrev pub attr_given : (RawAttr → Result Value Fault) → RawAttr → Result Attr Fault
attr_given meant a = meant a >>= λ value. Ok (as_attr a value)

abbrev pub entry_given : (RawAttr → Result Value Fault) → RawEntry → Result Entry Fault
entry_given meant e = each_of (attr_given meant) e.attrs >>= λ attrs. Ok (as_entry e attrs)

abbrev pub entries_given : (ℕ → RawAttr → Result Value Fault) → List RawEntry → Result (List Entry) Fault
entries_given meant raw = each_of (λ e. entry_given (meant e.unit) e) raw

-- items made, and then changed each by itself
module _ {X Y Z : Type 0} (f : X → Result Y Fault) (g : Y → Z) (h : X → Result Z Fault) (same : (x : X) → (f x >>= λ y. Ok (g y)) ≡ h x) where
  abbrev and_others : Result Z Fault → Result (List Z) Fault → Result (List Z) Fault
  and_others here others = here >>= λ z. others >>= λ zs. Ok (z ∷ zs)

  one_more : (here : Result Y Fault) (others : Result (List Y) Fault) (given : Result Z Fault) (made : Result (List Z) Fault) → (here >>= λ y. Ok (g y)) ≡ given → (others >>= λ ys. Ok (map g ys)) ≡ made
      → ((here >>= λ y. others >>= λ ys. Ok (y ∷ ys)) >>= λ ys. Ok (map g ys)) ≡ and_others given made
  one_more (Ok y) (Ok ys) given made e es = ap₂ and_others e es
  one_more (Ok y) (Err d) given made e es = ap₂ and_others e es
  one_more (Err d) others given made e es = ap (λ (r : Result Z Fault). and_others r made) e

  pub each_after : (xs : List X) → (each_of f xs >>= λ ys. Ok (map g ys)) ≡ each_of h xs
  each_after [] = refl
  each_after (x ∷ xs) = one_more (f x) (each_of f xs) (h x) (each_of h xs) (same x) (each_after xs)

attr_after : (a : RawAttr) (r : Result Value Fault) → ((r >>= λ value. Ok (record a { value = value })) >>= λ b. Ok (attr_of b)) ≡ (r >>= λ value. Ok (as_attr a value))
attr_after a (Ok value) = refl
attr_after a (Err d) = refl

attrs_after : (e : RawEntry) (r : Result (List RawAttr) Fault) → ((r >>= λ attrs. Ok (record e { attrs = attrs })) >>= λ x. Ok (entry_of x)) ≡ ((r >>= λ attrs. Ok (map attr_of attrs)) >>= λ attrs. Ok (as_entry e attrs))
attrs_after e (Ok attrs) = refl
attrs_after e (Err d) = refl

entry_after : (meant : RawAttr → Result Value Fault) (e : RawEntry) → (raw_entry_by meant e >>= λ x. Ok (entry_of x)) ≡ entry_given meant e
entry_after meant e =
    attrs_after e (raw_attrs_by meant e.attrs)
    ∙ ap (λ (r : Result (List Attr) Fault). r >>= λ attrs. Ok (as_entry e attrs)) (each_after (raw_attr_by meant) attr_of (attr_given meant) (λ a. attr_after a (meant a)) e.attrs)

-- the step and the loss of places, one after the other, are this
pub given_same : (meant : ℕ → RawAttr → Result Value Fault) (raw : List RawEntry) → (raw_entries_by meant raw >>= λ made. Ok (map entry_of made)) ≡ entries_given meant raw
given_same meant raw = each_after (λ (e : RawEntry). raw_entry_by (meant e.unit) e) entry_of (λ (e : RawEntry). entry_given (meant e.unit) e) (λ e. entry_after (meant e.unit) e) raw

pub given_is : (meant : ℕ → RawAttr → Result Value Fault) (raw : List RawEntry) (now : List Entry) → (raw_entries_by meant raw >>= λ made. Ok (map entry_of made)) ≡ Ok now → entries_given meant raw ≡ Ok now
given_is meant raw now e = sym (given_same meant raw) ∙ e

-- what is made of each attribute, by what that was
pub given_all : (meant : ℕ → RawAttr → Result Value Fault) (R : ℕ → RawAttr → Type 0) (P : ℕ → Attr → Type 0) → ((unit : ℕ) (a : RawAttr) (now : Value) → R unit a → meant unit a ≡ Ok now → P unit (as_attr a now))
    → (raw : List RawEntry) (now : List Entry) → entries_given meant raw ≡ Ok now → All (λ (e : RawEntry). All (R e.unit) e.attrs) raw → All (λ (e : Entry). All (P e.unit) e.attrs) now
given_all meant R P keeps raw now e h =
    let attr : (unit : ℕ) (a : RawAttr) (b : Attr) → R unit a → attr_given (meant unit) a ≡ Ok b → P unit b = λ unit a b r is.
    (let value = bind_ok (meant unit a) (λ value. Ok (as_attr a value)) b is in
    subst (P unit) (ok_is (as_attr a value.0) b value.2) (keeps unit a value.0 r value.1)) in
    each_all (λ (x : RawEntry). entry_given (meant x.unit) x) (λ (x : RawEntry). All (R x.unit) x.attrs) (λ (x : Entry). All (P x.unit) x.attrs)
    (λ x y r is.
    let attrs = bind_ok (each_of (attr_given (meant x.unit)) x.attrs) (λ attrs. Ok (as_entry x attrs)) y is in
    subst (λ (z : Entry). All (P z.unit) z.attrs) (ok_is (as_entry x attrs.0) y attrs.2)
    (each_all (attr_given (meant x.unit)) (R x.unit) (P x.unit) (λ a b ra ib. attr x.unit a b ra ib) x.attrs attrs.0 attrs.1 r))
    raw now e h
