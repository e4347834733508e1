-- The sections of a written image are where its section table says.
use Rattle.std.proofs.Common.{◌≡◌, ℕ, suc, ◌+◌, ◌≤◌, ◌==◌, ◌&&◌, not, Bool, true, false, List, [], ◌∷◌, ◌++◌, length, map, filter, take, drop, Option, Some, None, Result, Ok, refl, sym, ap, ◌∙◌, append_assoc, append-nil, length-append, if◌then◌else◌, ltb, arith}
use Rattle.std.specs.List.{AllByRecursion, position_or_len, starts_with}
use Rattle.std.specs.Option.{option_map_or}
use Rattle.std.specs.Prelude.{is_some, nat_eq}
use Rattle.std.proofs.lemmas.Bool.{eqb-true, le-ltb, ltb-false, or_parts}
use Rattle.std.proofs.lemmas.List.{drop_at, take_at}
use Rattle.ds_base.specs.declared.fault.Fault.{Fault}
use Rattle.ds_base.specs.declared.fault.Kind.TheVariants as kinds
use Rattle.ds_base.specs.declared.fault.Part.{Part}
use Rattle.ds_base.specs.declared.fault.Part.TheVariants as parts
use Rattle.ds_base.specs.MachONumbers.{SECT_ZDEBUG, SEG_DWARF}
use Rattle.ds_base.specs.Reading.{◌>>=◌, refuse_if}
use Rattle.ds_base.proofs.Passing.{bind_ok}
use Rattle.dwarf_types.specs.declared.graph.Written.{Written}
use Rattle.dwarf_types.specs.Encode.{has_bytes}
use Rattle.macho_read.specs.declared.image.Image.{Image}
use Rattle.macho_read.specs.declared.image.Section.{Section}
use Rattle.macho_read.specs.declared.image.Segment.{Segment}
use Rattle.macho_read.specs.declared.kind.Role.TheVariants as roles
use Rattle.macho_read.specs.Debug.{bad_section, compressed, debug_part, named_part, section_in}
use Rattle.macho_read.specs.Fields.{before_zero, is_named}
use Rattle.macho_read.specs.Header.{header_fault}
use Rattle.macho_read.specs.ImageSpelling.{LoadCommand, kept, kept_of}
use Rattle.macho_read.specs.Kind.{has_dwarf, is_dwarf_part, is_wrong_cpu, is_wrong_type, kind_of, not_linked, with_sections}
use Rattle.macho_write.specs.Records.{placed_section, segment_commands, uuid_command}
use Rattle.reloc_table.specs.declared.sections.Compressed.TheVariants.{Ignored}
use Rattle.reloc_table.specs.Parts.{all_tried, content_of, is_repeated, is_tried, part_bytes, part_of, same_part, section_of}
use Rattle.reloc_table.specs.Table.{is_part}
use Rattle.dsym_write.specs.Bundle.{commands_of, contents, dwarf_command, dwarf_section, dwarf_sections, end_of, name_of_part, page_end, sections_place, symtab_command}

-- ---- what is written of a part

-- the bytes of the first section of a part, if there is one
abbrev pub written_bytes : List Written → Part → List ℕ
written_bytes [] part = []
written_bytes (w ∷ ws) part = if same_part w.part part then w.bytes else written_bytes ws part

abbrev pub count_of : List Written → Part → ℕ
count_of [] part = 0
count_of (w ∷ ws) part = (if same_part w.part part then 1 else 0) + count_of ws part

nothing_left : (ws : List Written) (part : Part) → count_of ws part ≡ 0 → written_bytes (filter has_bytes ws) part ≡ []
nothing_left [] part e = refl
nothing_left (w ∷ ws) part e = by (same_part w.part part) refl (has_bytes w) e (nothing_left ws part)
  where
    by : (same : Bool) → same_part w.part part ≡ same → (some : Bool) → (if same then 1 else 0) + count_of ws part ≡ 0 → (count_of ws part ≡ 0 → written_bytes (filter has_bytes ws) part ≡ [])
        → written_bytes (if some then w ∷ filter has_bytes ws else filter has_bytes ws) part ≡ []
    by true is some e rest = absurd (omega (arith, e))
    by false is true e rest = ap (λ (b : Bool). if b then w.bytes else written_bytes (filter has_bytes ws) part) is ∙ rest (omega (arith, e))
    by false is false e rest = rest (omega (arith, e))

-- sections without bytes are left out, and a part that isn't there has none
pub filtered : (ws : List Written) (part : Part) → count_of ws part ≤ 1 → written_bytes (filter has_bytes ws) part ≡ written_bytes ws part
filtered [] part le = refl
filtered (w ∷ ws) part le = by (same_part w.part part) refl (length w.bytes == 0) refl le (filtered ws part)
  where
    no_bytes : (bytes : List ℕ) → (length bytes == 0) ≡ true → bytes ≡ []
    no_bytes [] e = refl
    no_bytes (b ∷ bytes) e = absurd (differ (eqb-true (length (b ∷ bytes)) 0 e))
      where
        differ : length (b ∷ bytes) ≡ 0 → ⊥
        differ e = omega (arith, e)

    by : (same : Bool) → same_part w.part part ≡ same → (empty : Bool) → (length w.bytes == 0) ≡ empty → (if same then 1 else 0) + count_of ws part ≤ 1 → (count_of ws part ≤ 1 → written_bytes (filter has_bytes ws) part ≡ written_bytes ws part)
        → written_bytes (if not empty then w ∷ filter has_bytes ws else filter has_bytes ws) part ≡ (if same then w.bytes else written_bytes ws part)
    by true is true none le rest = nothing_left ws part (omega (arith, le)) ∙ sym (no_bytes w.bytes none)
    by true is false none le rest = ap (λ (b : Bool). if b then w.bytes else written_bytes (filter has_bytes ws) part) is
    by false is true none le rest = rest (omega (arith, le))
    by false is false none le rest = ap (λ (b : Bool). if b then w.bytes else written_bytes (filter has_bytes ws) part) is ∙ rest (omega (arith, le))

-- ---- the sections of the written segment

-- a part that has a name among debug sections
abbrev pub IsKnown : Written → Type 0
IsKnown w = debug_part (name_of_part w.part) ≡ Some w.part

own_part : (w : Written) (addr offset size : ℕ) → IsKnown w → part_of (dwarf_section addr offset w.part size) ≡ Some w.part
own_part w addr offset size known = ap (λ (o : Option Part). if is_named SEG_DWARF (before_zero SEG_DWARF) && is_some o then o else None) known

pub parts_found : (bytes : List ℕ) (addr offset : ℕ) (front : List ℕ) (ws : List Written) (part : Part) → bytes ≡ front ++ contents ws → length front ≡ offset → AllByRecursion IsKnown ws
    → part_bytes bytes (dwarf_sections addr offset ws) part ≡ written_bytes ws part
parts_found bytes addr offset front [] part whole there known = refl
parts_found bytes addr offset front (w ∷ ws) part whole there known =
    ap (λ (o : Option Part). option_map_or (content_of bytes) (if option_map_or (λ own. same_part own part) o false then Some (dwarf_section addr offset w.part (length w.bytes)) else section_of (dwarf_sections (addr + length w.bytes) (offset + length w.bytes) ws) part) [])
    (own_part w addr offset (length w.bytes) known.0)
    ∙ by (same_part w.part part) (parts_found bytes (addr + length w.bytes) (offset + length w.bytes) (front ++ w.bytes) ws part (whole ∙ sym (append_assoc front w.bytes (contents ws))) (omega (arith, length-append front w.bytes, there)) known.1)
  where
    by : (b : Bool) → part_bytes bytes (dwarf_sections (addr + length w.bytes) (offset + length w.bytes) ws) part ≡ written_bytes ws part
        → option_map_or (content_of bytes) (if b then Some (dwarf_section addr offset w.part (length w.bytes)) else section_of (dwarf_sections (addr + length w.bytes) (offset + length w.bytes) ws) part) [] ≡ (if b then w.bytes else written_bytes ws part)
    by true rest = ap (λ (b : List ℕ). take (length w.bytes) (drop offset b)) whole ∙ ap (take (length w.bytes)) (drop_at front (w.bytes ++ contents ws) offset there) ∙ take_at w.bytes (contents ws) (length w.bytes) refl
    by false rest = rest

-- ---- the sections of the program

-- their segment isn't that one
abbrev pub IsOther : Section → Type 0
IsOther s = is_named SEG_DWARF s.segment ≡ false

no_part : (s : Section) → IsOther s → is_part s ≡ false
no_part s other = ap (λ (b : Bool). b && is_some (debug_part s.name)) other

pub others_passed : (bytes : List ℕ) (part : Part) (xs ys : List Section) → AllByRecursion IsOther xs → part_bytes bytes (xs ++ ys) part ≡ part_bytes bytes ys part
others_passed bytes part [] ys others = refl
others_passed bytes part (x ∷ xs) ys others =
    ap (λ (b : Bool). option_map_or (content_of bytes) (if option_map_or (λ own. same_part own part) (if b then debug_part x.name else None) false then Some x else section_of (xs ++ ys) part) []) (no_part x others.0)
    ∙ others_passed bytes part xs ys others.1

own_others : (own : List Section) → has_dwarf own ≡ false → AllByRecursion IsOther (map (placed_section false) own)
own_others [] e = tt
own_others (s ∷ own) e = let p = or_parts (is_named SEG_DWARF s.segment) (has_dwarf own) e in (p.0, own_others own p.1)

both_others : (xs ys : List Section) → AllByRecursion IsOther xs → AllByRecursion IsOther ys → AllByRecursion IsOther (xs ++ ys)
both_others [] ys a b = b
both_others (x ∷ xs) ys a b = (a.0, both_others xs ys a.1 b)

program_others : (segments : List Segment) (sections : List Section) → length (with_sections segments sections) ≤ position_or_len is_dwarf_part (with_sections segments sections)
    → AllByRecursion IsOther (kept (segment_commands false segments sections)).sections
program_others [] sections none = tt
program_others (s ∷ segments) sections none = by (program_others segments (drop s.sections sections)) (is_dwarf_part (s, take s.sections sections)) refl none
  where
    by : (length (with_sections segments (drop s.sections sections)) ≤ position_or_len is_dwarf_part (with_sections segments (drop s.sections sections)) → AllByRecursion IsOther (kept (segment_commands false segments (drop s.sections sections))).sections)
        → (b : Bool) → is_dwarf_part (s, take s.sections sections) ≡ b
        → suc (length (with_sections segments (drop s.sections sections))) ≤ (if not b then 1 + position_or_len is_dwarf_part (with_sections segments (drop s.sections sections)) else 0)
        → AllByRecursion IsOther (map (placed_section false) (take s.sections sections) ++ (kept (segment_commands false segments (drop s.sections sections))).sections)
    by more true is none = absurd (omega (arith, none))
    by more false is none =
        both_others (map (placed_section false) (take s.sections sections)) (kept (segment_commands false segments (drop s.sections sections))).sections
        (own_others (take s.sections sections) (or_parts (is_named SEG_DWARF s.name) (has_dwarf (take s.sections sections)) is).1) (more (omega (arith, none)))

-- a program has no such section
pub none_linked : (program : Image) → kind_of program roles.Program ≡ Ok tt → length (with_sections program.segments program.sections) ≤ position_or_len is_dwarf_part (with_sections program.segments program.sections)
none_linked program e =
    let cpu = bind_ok (refuse_if (is_wrong_cpu roles.Program program.cpu) (header_fault kinds.WrongCpu 4)) _ tt e in
    let filetype = bind_ok (refuse_if (is_wrong_type roles.Program program.filetype) (header_fault kinds.BadFileType 12)) _ tt cpu.2 in
    by (ltb (position_or_len is_dwarf_part (with_sections program.segments program.sections)) (length (with_sections program.segments program.sections))) refl filetype.2
  where
    by : (b : Bool) → ltb (position_or_len is_dwarf_part (with_sections program.segments program.sections)) (length (with_sections program.segments program.sections)) ≡ b
        → not_linked (if b then Some (position_or_len is_dwarf_part (with_sections program.segments program.sections)) else None) ≡ Ok tt
        → length (with_sections program.segments program.sections) ≤ position_or_len is_dwarf_part (with_sections program.segments program.sections)
    by true is e = absurd cc
    by false is e = ltb-false (position_or_len is_dwarf_part (with_sections program.segments program.sections)) (length (with_sections program.segments program.sections)) is

kept_both : (xs ys : List LoadCommand) → (kept (xs ++ ys)).sections ≡ (kept xs).sections ++ (kept ys).sections
kept_both [] ys = refl
kept_both (x ∷ xs) ys = ap (λ (s : List Section). (kept_of x).sections ++ s) (kept_both xs ys) ∙ sym (append_assoc (kept_of x).sections (kept xs).sections (kept ys).sections)

-- all sections of a written image
module _ (program : Image) (ws : List Written) where
  abbrev pub programs : List Section
  programs = (kept (segment_commands false program.segments program.sections)).sections

  abbrev pub ours : List Section
  ours = dwarf_sections (page_end (end_of program.segments)) (sections_place program ws) ws

  pub kept_sections : (kept (commands_of program ws)).sections ≡ programs ++ ours
  kept_sections =
      no_uuid program.uuid ∙ kept_both (segment_commands false program.segments program.sections) (dwarf_command program (sections_place program ws) ws ∷ []) ∙ ap (λ (s : List Section). programs ++ s) (append-nil ours)
    where
      no_uuid : (uuid : Option (List ℕ)) → (kept (uuid_command uuid ++ (symtab_command program ws ∷ (segment_commands false program.segments program.sections ++ (dwarf_command program (sections_place program ws) ws ∷ []))))).sections
          ≡ (kept (segment_commands false program.segments program.sections ++ (dwarf_command program (sections_place program ws) ws ∷ []))).sections
      no_uuid None = refl
      no_uuid (Some bytes) = refl

-- ---- trying them

-- a section was tried, whatever it has
abbrev passes : Result (List ℕ) Fault → Result (Unit {0}) Fault
passes r = r >>= (λ content. Ok tt)

others_tried : (bytes : List ℕ) (before xs ys : List Section) → AllByRecursion IsOther xs → all_tried Ignored bytes before (xs ++ ys) ≡ all_tried Ignored bytes (before ++ xs) ys
others_tried bytes before [] ys others = ap (λ (b : List Section). all_tried Ignored bytes b ys) (sym (append-nil before))
others_tried bytes before (x ∷ xs) ys others =
    ap (λ (b : Bool). (if b && not (is_repeated before x) then passes (section_in bytes x (length before)) else Ok tt) >>= λ ok. all_tried Ignored bytes (before ++ x ∷ []) (xs ++ ys)) (no_part x others.0)
    ∙ others_tried bytes (before ++ x ∷ []) xs ys others.1 ∙ ap (λ (b : List Section). all_tried Ignored bytes b ys) (append_assoc before (x ∷ []) xs)

plain : (part : Part) → starts_with nat_eq (name_of_part part) SECT_ZDEBUG ≡ false
plain parts.Abbrev = refl
plain parts.Info = refl
plain parts.Str = refl
plain parts.Line = refl
plain parts.LineStr = refl
plain parts.Ranges = refl
plain parts.Rnglists = refl
plain parts.Loc = refl
plain parts.Loclists = refl
plain parts.Aranges = refl
plain parts.Frame = refl
plain _ = refl

section_passes : (bytes : List ℕ) (addr offset : ℕ) (w : Written) (index : ℕ) → offset + length w.bytes ≤ length bytes → passes (section_in bytes (dwarf_section addr offset w.part (length w.bytes)) index) ≡ Ok tt
unfolding section_in
section_passes bytes addr offset w index le =
    ap (λ (b : Bool). passes (refuse_if b (compressed index) >>= λ u. named_part bytes (dwarf_section addr offset w.part (length w.bytes)) (debug_part (name_of_part w.part)))) (plain w.part)
    ∙ by (debug_part (name_of_part w.part))
  where
    by : (o : Option Part) → passes (named_part bytes (dwarf_section addr offset w.part (length w.bytes)) o) ≡ Ok tt
    by None = refl
    by (Some part) =
        ap (λ (b : Bool). passes (refuse_if b (bad_section part) >>= λ u. refuse_if false (bad_section part) >>= λ v. Ok (take (length w.bytes) (drop offset bytes)))) (le-ltb (length bytes) (offset + length w.bytes) le)

ours_tried : (bytes : List ℕ) (before : List Section) (addr offset : ℕ) (ws : List Written) → offset + length (contents ws) ≤ length bytes → all_tried Ignored bytes before (dwarf_sections addr offset ws) ≡ Ok tt
ours_tried bytes before addr offset [] le = refl
ours_tried bytes before addr offset (w ∷ ws) le =
    let len = length-append w.bytes (contents ws) in
    by (is_tried Ignored before (dwarf_section addr offset w.part (length w.bytes))) (section_passes bytes addr offset w (length before) (omega (arith, le, len)))
    (ours_tried bytes (before ++ dwarf_section addr offset w.part (length w.bytes) ∷ []) (addr + length w.bytes) (offset + length w.bytes) ws (omega (arith, le, len)))
  where
    by : (b : Bool) → passes (section_in bytes (dwarf_section addr offset w.part (length w.bytes)) (length before)) ≡ Ok tt
        → all_tried Ignored bytes (before ++ dwarf_section addr offset w.part (length w.bytes) ∷ []) (dwarf_sections (addr + length w.bytes) (offset + length w.bytes) ws) ≡ Ok tt
        → ((if b then passes (section_in bytes (dwarf_section addr offset w.part (length w.bytes)) (length before)) else Ok tt) >>= λ ok. all_tried Ignored bytes (before ++ dwarf_section addr offset w.part (length w.bytes) ∷ []) (dwarf_sections (addr + length w.bytes) (offset + length w.bytes) ws)) ≡ Ok tt
    by true passes rest = ap (λ (r : Result (Unit {0}) Fault). r >>= λ ok. all_tried Ignored bytes (before ++ dwarf_section addr offset w.part (length w.bytes) ∷ []) (dwarf_sections (addr + length w.bytes) (offset + length w.bytes) ws)) passes ∙ rest
    by false passes rest = rest

-- ---- both

module _ (program : Image) (ws : List Written) (kind : kind_of program roles.Program ≡ Ok tt) (bytes front : List ℕ) (whole : bytes ≡ front ++ contents ws) (there : length front ≡ sections_place program ws) (known : AllByRecursion IsKnown ws) where
  others : AllByRecursion IsOther (programs program ws)
  others = program_others program.segments program.sections (none_linked program kind)

  pub part_there : (part : Part) → part_bytes bytes (kept (commands_of program ws)).sections part ≡ written_bytes ws part
  part_there part =
      ap (λ (s : List Section). part_bytes bytes s part) (kept_sections program ws) ∙ others_passed bytes part (programs program ws) (ours program ws) others
      ∙ parts_found bytes (page_end (end_of program.segments)) (sections_place program ws) front ws part whole there known

  pub tried_there : all_tried Ignored bytes [] (kept (commands_of program ws)).sections ≡ Ok tt
  tried_there =
      ap (all_tried Ignored bytes []) (kept_sections program ws) ∙ others_tried bytes [] (programs program ws) (ours program ws) others
      ∙ ours_tried bytes (programs program ws) (page_end (end_of program.segments)) (sections_place program ws) ws (omega (arith, ap length whole, length-append front (contents ws), there))
