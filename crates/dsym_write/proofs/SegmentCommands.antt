-- How long the commands of a program's segments are.
use Rattle.std.proofs.Common.{◌≡◌, suc, ◌+◌, ◌*◌, false, List, [], ◌∷◌, ◌++◌, length, take, drop, arith, refl, ap, length-append, append-nil}
use Rattle.std.specs.List.{All, flat_map, sum_by}
use Rattle.std.proofs.lemmas.List.{length-drop, length-take-le}
use Rattle.std.proofs.lemmas.List.Elements.{All-drop, All-take}
use Rattle.std.proofs.lemmas.List.Sums.{sum_by-cons}
use Rattle.macho_read.specs.declared.image.Section.{Section}
use Rattle.macho_read.specs.declared.image.Segment.{Segment}
use Rattle.macho_read.specs.ImageSpelling.{command_of}
use Rattle.macho_read.specs.Sound.{IsSoundSection, IsSoundSegment}
use Rattle.macho_read.specs.Spelling.{command_bytes, padded, section_bytes, segment_fields, spelled}
use Rattle.macho_write.specs.Records.{commands_text, placed_section, placed_sections, segment_command, segment_commands}
use Rattle.macho_write.proofs.Lengths.{length-section}
use Rattle.macho_write.proofs.Padding.{length-padded}

length-own : (own : List Section) → All IsSoundSection own → length (flat_map section_bytes (placed_sections false own)) ≡ 80 * length own
length-own [] sound = refl
length-own (s ∷ own) sound =
    let first = sound 0 s (omega arith) in
    omega (
      arith,
      length-append (section_bytes (placed_section false s)) (flat_map section_bytes (placed_sections false own)),
      length-section (placed_section false s) first.name first.segment,
      length-own own (λ k d lt. sound (suc k) d (omega (arith, lt))),
    )

length-segment : (s : Segment) (own : List Section) → IsSoundSegment s → All IsSoundSection own → length (command_bytes (command_of (segment_command false (s, own)))) ≡ 72 + 80 * length own
length-segment s own segment sections =
    let front = padded s.name ++ spelled (segment_fields 0 0 s) in
    let records = flat_map section_bytes (placed_sections false own) in
    omega (
      arith,
      length-append front (records ++ []),
      length-append (padded s.name) (spelled (segment_fields 0 0 s)),
      ap length (append-nil records),
      length-padded s.name segment.name,
      length-own own sections,
    )

pub length-commands : (segments : List Segment) (sections : List Section) → All IsSoundSegment segments → All IsSoundSection sections → sum_by (λ s. s.sections) segments ≡ length sections
    → length (commands_text (segment_commands false segments sections)) ≡ 72 * length segments + 80 * length sections
length-commands [] sections segment section counts = omega (arith, counts)
length-commands (s ∷ segments) sections segment section counts =
    let own = take s.sections sections in
    let rest = drop s.sections sections in
    let all = counts in
    let cons = sum_by-cons (λ (it : Segment). it.sections) s segments in
    let here : length own ≡ s.sections = length-take-le s.sections sections (omega (arith, all, cons)) in
    let there = length-drop s.sections sections in
    let more : sum_by (λ (it : Segment). it.sections) segments ≡ length rest = omega (arith, all, cons, there) in
    omega (
      arith,
      length-append (command_bytes (command_of (segment_command false (s, own)))) (commands_text (segment_commands false segments rest)),
      length-segment s own (segment 0 s (omega arith)) (All-take IsSoundSection s.sections sections section),
      length-commands segments rest (λ k d lt. segment (suc k) d (omega (arith, lt))) (All-drop IsSoundSection s.sections sections section) more,
      here,
      there,
      all,
      cons,
    )

pub count-commands : (segments : List Segment) (sections : List Section) → length (segment_commands false segments sections) ≡ length segments
count-commands [] sections = refl
count-commands (s ∷ segments) sections = let h = count-commands segments (drop s.sections sections) in omega (arith, h)
