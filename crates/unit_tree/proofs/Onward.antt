-- Readers of values, of attributes and of codes go onward.
use Rattle.std.proofs.Common.{◌≡◌, ℕ, Bool, List, [], ◌∷◌, ◌++◌, Option, Result, Ok, Err, subst}
use Rattle.std.specs.Prelude.{nat_lt, OnOk}
use Rattle.std.specs.Option.{option_to_list}
use Rattle.ds_base.specs.declared.fault.Fault.{Fault}
use Rattle.ds_base.specs.declared.fault.Kind.TheVariants as kinds
use Rattle.ds_base.specs.Spot.{Spot, IsSmall, fault_at}
use Rattle.ds_base.specs.Reading.{◌>>=◌, refuse_if, or_fault, bytes_at, number_at, placed_text_at, text_at, uleb_at, sleb_at, Moves, text_of}
use Rattle.ds_base.proofs.Passing.{bind_ok, passed, ok_is}
use Rattle.ds_base.proofs.Onward.{Onward, stays, onward_then, small_kept, number_onward, bytes_onward, text_onward, uleb_onward, sleb_onward}
use Rattle.dwarf_types.specs.declared.abbrev.Field.{Field}
use Rattle.dwarf_types.specs.declared.entry.RawAttr.{RawAttr}
use Rattle.dwarf_types.specs.SectionBytes.{SectionBytes}
use Rattle.dwarf_types.specs.declared.value.Value.{Value}
use Rattle.dwarf_types.specs.declared.value.Value.TheVariants as values
use Rattle.form_value.specs.declared.form.Coding.{Coding}
use Rattle.form_value.specs.declared.form.Coding.TheVariants.{One, Two, Three, Four, Eight, Leb}
use Rattle.form_value.specs.declared.form.FormClass.{FormClass}
use Rattle.form_value.specs.declared.form.FormClass.TheVariants.{Address, Text, StrText, LineStrText, Number, Signed, Present, Implicit, Wide, Block, Offset, Outside}
use Rattle.form_value.specs.Forms.{form_row}
use Rattle.form_value.specs.Reading.{coded_at, block_at, made, fixed_address, in_64_bits, class_at, value_at}
use Rattle.unit_tree.specs.declared.attribute.UnitContext.{UnitContext}
use Rattle.unit_tree.specs.declared.reference.Reference.{Reference}
use Rattle.unit_tree.specs.Attribute.{Described, value_meant_at, attr_at, attrs_at}

-- ---- values

coded_onward : (coding : Coding) (s : Spot) (y : ℕ × Spot) → coded_at coding s ≡ Ok y → Onward s y.1
unfolding coded_at
coded_onward One s y e = number_onward 1 s y e
coded_onward Two s y e = number_onward 2 s y e
coded_onward Three s y e = number_onward 3 s y e
coded_onward Four s y e = number_onward 4 s y e
coded_onward Eight s y e = number_onward 8 s y e
coded_onward Leb s y e = uleb_onward s y e

block_onward : (coding : Coding) (s : Spot) (y : List ℕ × Spot) → block_at coding s ≡ Ok y → Onward s y.1
unfolding block_at
block_onward coding s y e =
    let b = bind_ok (coded_at coding s) (λ n. bytes_at n.0 n.1) y e in
    onward_then s b.0.1 y.1 (coded_onward coding s b.0 b.1) (bytes_onward b.0.0 b.0.1 y b.2)

placed_onward : (section : List ℕ) (s : Spot) (y : List ℕ × Spot) → placed_text_at section s ≡ Ok y → Onward s y.1
unfolding placed_text_at
placed_onward section s y e =
    let b = bind_ok (number_at 4 s) (λ place. or_fault (text_of section place.0) (fault_at s kinds.BadOffset) >>= λ text. Ok (text, place.1)) y e in
    let c = bind_ok (or_fault (text_of section b.0.0) (fault_at s kinds.BadOffset)) (λ text. Ok (text, b.0.1)) y b.2 in
    subst (λ (p : List ℕ × Spot). Onward s p.1) (ok_is (c.0, b.0.1) y c.2) (number_onward 4 s b.0 b.1)

made_onward : {A : Type 0} (value : A → Value) (read : Result (A × Spot) Fault) (s : Spot) (y : Value × Spot) → made value read ≡ Ok y → ((x : A × Spot) → read ≡ Ok x → Onward s x.1) → Onward s y.1
made_onward value read s y e known =
    let b = bind_ok read (λ x. Ok (value x.0, x.1)) y e in
    subst (λ (p : Value × Spot). Onward s p.1) (ok_is (value b.0.0, b.0.1) y b.2) (known b.0 b.1)

class_onward : (class : FormClass) (field : Field) (sections : SectionBytes) (s : Spot) (y : Value × Spot) → class_at class field sections s ≡ Ok y → Onward s y.1
unfolding class_at
class_onward Address field sections s y e = made_onward fixed_address (number_at 8 s) s y e (number_onward 8 s)
class_onward Text field sections s y e = made_onward (λ text. values.Text text) (text_at s) s y e (text_onward s)
class_onward StrText field sections s y e = made_onward (λ text. values.Text text) (placed_text_at sections.strings s) s y e (placed_onward sections.strings s)
class_onward LineStrText field sections s y e = made_onward (λ text. values.Text text) (placed_text_at sections.line_str s) s y e (placed_onward sections.line_str s)
class_onward (Number coding) field sections s y e = made_onward (λ n. values.Number field.form n) (coded_at coding s) s y e (coded_onward coding s)
class_onward Signed field sections s y e = made_onward (λ n. values.Number field.form (in_64_bits n)) (sleb_at s) s y e (sleb_onward s)
class_onward Present field sections s y e = subst (λ (p : Value × Spot). Onward s p.1) (ok_is _ y e) (stays s)
class_onward Implicit field sections s y e = subst (λ (p : Value × Spot). Onward s p.1) (ok_is _ y e) (stays s)
class_onward Wide field sections s y e = made_onward (λ bytes. values.Wide bytes) (bytes_at 16 s) s y e (bytes_onward 16 s)
class_onward (Block coding) field sections s y e = made_onward (λ bytes. values.Block field.form bytes) (block_at coding s) s y e (block_onward coding s)
class_onward (Offset coding) field sections s y e = made_onward (λ n. values.Offset n) (coded_at coding s) s y e (coded_onward coding s)
class_onward Outside field sections s y e = absurd cc

pub value_onward : (field : Field) (version : ℕ) (sections : SectionBytes) (s : Spot) (y : Value × Spot) → value_at field version sections s ≡ Ok y → Onward s y.1
unfolding value_at
value_onward field version sections s y e =
    let b = bind_ok (or_fault (form_row field.form) (fault_at s kinds.UnknownForm)) (λ row. refuse_if (nat_lt version row.since) (fault_at s kinds.FormOutsideProfile) >>= λ u. class_at row.class field sections s) y e in
    let p = passed (nat_lt version b.0.since) (fault_at s kinds.FormOutsideProfile) (class_at b.0.class field sections s) y b.2 in
    class_onward b.0.class field sections s y p.1

-- ---- attributes

pub attr_onward : (sections : SectionBytes) (context : UnitContext) (root : Bool) (field : Field) (before : List RawAttr) (s : Spot) (y : (RawAttr × Option Reference) × Spot) → attr_at sections context root field before s ≡ Ok y → Onward s y.1
unfolding attr_at
attr_onward sections context root field before s y e =
    let b = bind_ok (value_at field context.version sections s) (λ read. value_meant_at sections context root field before read.0 s >>= λ meant. Ok ((record { name = field.name; form = field.form; end = read.1.place; value = meant.0 }, meant.1), read.1)) y e in
    let c = bind_ok (value_meant_at sections context root field before b.0.0 s) (λ meant. Ok ((record { name = field.name; form = field.form; end = b.0.1.place; value = meant.0 }, meant.1), b.0.1)) y b.2 in
    subst (λ (p : (RawAttr × Option Reference) × Spot). Onward s p.1) (ok_is _ y c.2) (value_onward field context.version sections s b.0 b.1)

pub attrs_onward : (sections : SectionBytes) (context : UnitContext) (root : Bool) (fields : List Field) (before : Described) (s : Spot) (y : Described × Spot) → attrs_at sections context root fields before s ≡ Ok y → Onward s y.1
unfolding attrs_at
attrs_onward sections context root [] before s y e = subst (λ (p : Described × Spot). Onward s p.1) (ok_is (before, s) y e) (stays s)
attrs_onward sections context root (field ∷ fields) before s y e =
    let b = bind_ok (attr_at sections context root field before.0 s) (λ attr. attrs_at sections context root fields (before.0 ++ attr.0.0 ∷ [], before.1 ++ option_to_list attr.0.1) attr.1) y e in
    onward_then s b.0.1 y.1 (attr_onward sections context root field before.0 s b.0 b.1) (attrs_onward sections context root fields (before.0 ++ b.0.0.0 ∷ [], before.1 ++ option_to_list b.0.0.1) b.0.1 y b.2)

-- ---- codes

pub code_small : (r : Result ℕ Fault) (s t : Spot) → Moves (λ (code : ℕ). code) r s t (uleb_at s) → IsSmall s → OnOk r (IsSmall t)
code_small (Ok code) s t moves h = small_kept s t (uleb_onward s (code, t) moves) h
code_small (Err f) s t moves h = tt
