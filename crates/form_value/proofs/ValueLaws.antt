-- What is read of an attribute value is spelled so, and what is spelled so is read.
use Rattle.std.proofs.Common.{◌≡◌, ℕ, false, List, ◌++◌, length, Ok, refl, sym, subst}
use Rattle.std.specs.Prelude.{nat_lt}
use Rattle.std.proofs.lemmas.Bool.{ltb-false, le-ltb}
use Rattle.ds_base.specs.DwarfNumbers.{DW_FORM_sdata}
use Rattle.ds_base.specs.declared.fault.Kind.TheVariants as kinds
use Rattle.ds_base.specs.Spot.{Spot, rest, fault_at}
use Rattle.ds_base.specs.Reading.{◌>>=◌, refuse_if, or_fault, bytes_at, number_at, placed_text_at, text_at, sleb_at, text_of}
use Rattle.dwarf_types.specs.Spelled.{IsSleb, IsNumber, IsCopy, IsText}
use Rattle.dwarf_types.specs.declared.abbrev.Field.{Field}
use Rattle.dwarf_types.specs.SectionBytes.{SectionBytes}
use Rattle.dwarf_types.specs.declared.value.Value.{Value}
use Rattle.dwarf_types.specs.declared.value.Value.TheVariants as values
use Rattle.ds_base.proofs.Passing.{bind_ok, passed, ok_is, found_ok}
use Rattle.dwarf_types.proofs.Readers.{Stands, Taken, Again, Reader, Both, both_reader, made_reader, nothing_reader, renamed_reader, bytes_reader, number_reader, text_reader, uleb_reader, sleb_reader}
use Rattle.form_value.specs.declared.form.Coding.{Coding}
use Rattle.form_value.specs.declared.form.Coding.TheVariants.{One, Two, Three, Four, Eight, Leb}
use Rattle.form_value.specs.declared.form.FormClass.{FormClass}
use Rattle.form_value.specs.declared.form.FormClass.TheVariants.{Address, Text, StrText, LineStrText, Number, Signed, Present, Implicit, Wide, Block, Offset, Outside}
use Rattle.form_value.specs.Forms.{form_row}
use Rattle.form_value.specs.Reading.{coded_at, block_at, fixed_address, in_64_bits, class_at, value_at}
use Rattle.form_value.specs.Spelling.{SpellsNumber, SpellsBlock, SpellsPlace, SpellsClass, SpellsValue, IsSpelled, IsRead}

coded_reader : (coding : Coding) → Reader (coded_at coding) (SpellsNumber coding)
unfolding coded_at
coded_reader One = number_reader 1
coded_reader Two = number_reader 2
coded_reader Three = number_reader 3
coded_reader Four = number_reader 4
coded_reader Eight = number_reader 8
coded_reader Leb = uleb_reader

block_from_both : (coding : Coding) (bytes block : List ℕ) → Both (SpellsNumber coding) (λ n. IsCopy n) bytes block → SpellsBlock coding bytes block
block_from_both coding bytes block b =
    let len : b.value ≡ length block = sym b.second.len in
    record { front = b.front; back = b.back; is = b.is; first = subst (SpellsNumber coding b.front) len b.first; second = subst (λ (n : ℕ). IsCopy n b.back block) len b.second }

both_from_block : (coding : Coding) (bytes block : List ℕ) → SpellsBlock coding bytes block → Both (SpellsNumber coding) (λ n. IsCopy n) bytes block
both_from_block coding bytes block w = record { value = length block; front = w.front; back = w.back; is = w.is; first = w.first; second = w.second }

block_reader : (coding : Coding) → Reader (block_at coding) (SpellsBlock coding)
unfolding block_at
block_reader coding =
    renamed_reader _ (Both (SpellsNumber coding) (λ n. IsCopy n)) (SpellsBlock coding) (block_from_both coding) (both_from_block coding)
    (both_reader (coded_at coding) (λ n s. bytes_at n s) (SpellsNumber coding) (λ n. IsCopy n) (coded_reader coding) (λ n. bytes_reader n))

place_take : (section : List ℕ) (s : Spot) (text : List ℕ) (t : Spot) → Stands s → placed_text_at section s ≡ Ok (text, t) → Taken (SpellsPlace section) s text t
unfolding placed_text_at
place_take section s text t h e =
    let b = bind_ok (number_at 4 s) (λ place. or_fault (text_of section place.0) (fault_at s kinds.BadOffset) >>= λ found. Ok (found, place.1)) (text, t) e in
    let c = bind_ok (or_fault (text_of section b.0.0) (fault_at s kinds.BadOffset)) (λ found. Ok (found, b.0.1)) (text, t) b.2 in
    let r = number_reader 4 in
    let f = r.takes s b.0.0 b.0.1 h b.1 in
    subst (λ (p : List ℕ × Spot). Taken (SpellsPlace section) s p.0 p.1) (ok_is (c.0, b.0.1) (text, t) c.2) (record {
      bytes = f.bytes;
      spells = record { place = b.0.0; number = f.spells; stands = found_ok (text_of section b.0.0) (fault_at s kinds.BadOffset) c.0 c.1 };
      parts = f.parts;
      stands = f.stands;
    })

place_again : (section : List ℕ) (s : Spot) (bytes text more : List ℕ) → Stands s → SpellsPlace section bytes text → rest s ≡ bytes ++ more → Again (placed_text_at section) s text more
unfolding placed_text_at
place_again section s bytes text more h w parts =
    let r = number_reader 4 in
    let f = r.again s bytes w.place more h w.number parts in
    record { next = f.next; reads = rw (f.reads, w.stands) refl; left = f.left; stands = f.stands }

place_reader : (section : List ℕ) → Reader (placed_text_at section) (SpellsPlace section)
place_reader section = record { takes = place_take section; again = place_again section }

class_reader : (class : FormClass) (field : Field) (sections : SectionBytes) → Reader (class_at class field sections) (SpellsClass class field sections)
unfolding class_at
class_reader Address field sections = made_reader fixed_address (number_at 8) (IsNumber 8) (number_reader 8)
class_reader Text field sections = made_reader (λ text. values.Text text) text_at IsText text_reader
class_reader StrText field sections = made_reader (λ text. values.Text text) (placed_text_at sections.strings) (SpellsPlace sections.strings) (place_reader sections.strings)
class_reader LineStrText field sections = made_reader (λ text. values.Text text) (placed_text_at sections.line_str) (SpellsPlace sections.line_str) (place_reader sections.line_str)
class_reader (Number coding) field sections = made_reader (λ n. values.Number field.form n) (coded_at coding) (SpellsNumber coding) (coded_reader coding)
class_reader Signed field sections = made_reader (λ n. values.Number field.form (in_64_bits n)) sleb_at IsSleb sleb_reader
class_reader Present field sections = nothing_reader (values.Number field.form 1)
class_reader Implicit field sections = nothing_reader (values.Number DW_FORM_sdata (in_64_bits field.fixed))
class_reader Wide field sections = made_reader (λ wide. values.Wide wide) (bytes_at 16) (IsCopy 16) (bytes_reader 16)
class_reader (Block coding) field sections = made_reader (λ block. values.Block field.form block) (block_at coding) (SpellsBlock coding) (block_reader coding)
class_reader (Offset coding) field sections = made_reader (λ n. values.Offset n) (coded_at coding) (SpellsNumber coding) (coded_reader coding)
class_reader Outside field sections = record { takes = λ s a t h e. absurd cc; again = λ s bytes a more h spells parts. absurd spells }

pub value_spelled : (field : Field) (version : ℕ) (sections : SectionBytes) (s : Spot) (value : Value) (t : Spot) → Stands s → value_at field version sections s ≡ Ok (value, t) → IsSpelled field version sections s value t
unfolding value_at
value_spelled field version sections s value t h e =
    let b = bind_ok (or_fault (form_row field.form) (fault_at s kinds.UnknownForm)) (λ row. refuse_if (nat_lt version row.since) (fault_at s kinds.FormOutsideProfile) >>= λ u. class_at row.class field sections s) (value, t) e in
    let p = passed (nat_lt version b.0.since) (fault_at s kinds.FormOutsideProfile) (class_at b.0.class field sections s) (value, t) b.2 in
    let r = class_reader b.0.class field sections in
    let f = r.takes s value t h p.1 in
    record {
      bytes = f.bytes;
      spells = record { row = b.0; known = found_ok (form_row field.form) (fault_at s kinds.UnknownForm) b.0 b.1; old = ltb-false version b.0.since p.0; spells = f.spells };
      parts = f.parts;
    }

pub value_read : (field : Field) (version : ℕ) (sections : SectionBytes) (s : Spot) (bytes : List ℕ) (value : Value) (more : List ℕ) → Stands s → SpellsValue field version sections bytes value → rest s ≡ bytes ++ more
    → IsRead field version sections s value more
unfolding value_at
value_read field version sections s bytes value more h w parts =
    let r = class_reader w.row.class field sections in
    let f = r.again s bytes value more h w.spells parts in
    let old : nat_lt version w.row.since ≡ false = le-ltb version w.row.since w.old in
    record { next = f.next; reads = rw (w.known, old) f.reads; left = f.left }
