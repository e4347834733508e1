-- A program that is not linked yet has no segment of the name `__DWARF`, and so all its segments have room above them.
use Rattle.std.proofs.Common.{◌≡◌, ℕ, ◌+◌, ◌||◌, Bool, true, false, List, [], ◌∷◌, take, drop, Option, Some, None, Ok, cond, refl, ◌∙◌, sym}
use Rattle.std.specs.List.{All, position_from}
use Rattle.std.proofs.lemmas.Iterator.Adapters.{position_from-zero}
use Rattle.std.proofs.lemmas.List.Elements.{All-cons, All-head, All-nil, All-tail}
use Rattle.ds_base.proofs.Passing.{passed}
use Rattle.macho_read.specs.declared.image.Image.{Image}
use Rattle.macho_read.specs.declared.image.Section.{Section}
use Rattle.macho_read.specs.declared.image.Segment.{Segment}
use Rattle.macho_read.specs.declared.kind.Role.TheVariants as roles
use Rattle.macho_read.specs.Kind.{dwarf_at, is_dwarf_part, is_wrong_cpu, is_wrong_type, kind_of, not_linked, with_sections}
use Rattle.macho_read.specs.Sound.{IsSound, IsSoundSegment}
use Rattle.dsym_write.specs.Pieces.{HasRoomAbove}

neither : (a b : Bool) → (a || b) ≡ false → a ≡ false
neither true b e = absurd cc
neither false b e = refl

passed_over : (b : Bool) (i : ℕ) (rest : Option ℕ) → cond b (Some i) rest ≡ None → (b ≡ false) × (rest ≡ None)
passed_over true i rest e = absurd cc
passed_over false i rest e = (refl, e)

none_found : (o : Option ℕ) → not_linked o ≡ Ok tt → o ≡ None
none_found None e = refl
none_found (Some k) e = absurd cc

above_from : (segments : List Segment) (sections : List Section) (i : ℕ) → All IsSoundSegment segments → position_from is_dwarf_part i (with_sections segments sections) ≡ None → All HasRoomAbove segments
above_from [] sections i sound none = All-nil HasRoomAbove
above_from (s ∷ segments) sections i sound none =
    let others = drop s.sections sections in
    let more = passed_over (is_dwarf_part (s, take s.sections sections)) i (position_from is_dwarf_part (i + 1) (with_sections segments others)) none in
    All-cons HasRoomAbove s segments ((All-head IsSoundSegment s segments sound).end (neither _ _ more.0)) (above_from segments others (i + 1) (All-tail IsSoundSegment s segments sound) more.1)

pub room_above : (program : Image) → IsSound program → kind_of program roles.Program ≡ Ok tt → All HasRoomAbove program.segments
room_above program sound kind =
    let cpu = passed (is_wrong_cpu roles.Program program.cpu) _ _ tt kind in
    let filetype = passed (is_wrong_type roles.Program program.filetype) _ _ tt cpu.1 in
    let none = none_found (dwarf_at program.segments program.sections) filetype.1 in
    above_from program.segments program.sections 0 sound.segments (sym (position_from-zero is_dwarf_part (with_sections program.segments program.sections)) ∙ none)
