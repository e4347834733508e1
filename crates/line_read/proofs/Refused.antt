-- Of which kinds the faults of a table are.
use Rattle.std.proofs.Common.{ℕ, zero, suc, ◌-◌, ◌||◌, ◌&&◌, not, Bool, true, false, List, [], ◌∷◌, ◌++◌, length, Option, Some, None, Result, Ok, Err, refl, arith}
use Rattle.std.specs.Prelude.{◌==◌, nat_lt, nat_le, if◌then◌else◌}
use Rattle.std.specs.List.{Contains, list_any}
use Rattle.std.specs.Option.{option_map_or}
use Rattle.ds_base.specs.DwarfNumbers.{ADDRESS_SIZE, DW_LNS_extended_op, LENGTH_RESERVED}
use Rattle.ds_base.specs.declared.fault.Fault.{Fault}
use Rattle.ds_base.specs.declared.fault.Kind.{Kind}
use Rattle.ds_base.specs.declared.fault.Kind.TheVariants as kinds
use Rattle.ds_base.specs.Reading.{refuse_if, or_fault, bytes_at, number_at, placed_text_at, text_at, uleb_at, sleb_at, items_at, text_of}
use Rattle.ds_base.specs.Spot.{Spot, fault_at}
use Rattle.dwarf_types.specs.declared.lines.FileName.{FileName}
use Rattle.dwarf_types.specs.SectionBytes.{SectionBytes}
use Rattle.ds_base.proofs.FaultKinds.{FaultsAre, ok_kinds, err_kinds, bind_kinds, refuse_kinds, either_kinds, found_kinds, bytes_kinds, number_kinds, text_kinds, uleb_kinds, sleb_kinds, items_kinds}
use Rattle.macho_read.specs.declared.image.Image.{Image}
use Rattle.reloc_table.specs.declared.relocation.Relocs.{Relocs}
use Rattle.line_read.specs.declared.codes.ExtendedOp.{ExtendedOp}
use Rattle.line_read.specs.declared.codes.ExtendedOp.TheVariants as extended
use Rattle.line_read.specs.declared.codes.StandardOp.{StandardOp}
use Rattle.line_read.specs.declared.codes.StandardOp.TheVariants as standard
use Rattle.line_read.specs.declared.formats.EntryForm.{EntryForm}
use Rattle.line_read.specs.declared.formats.EntryForm.TheVariants as forms
use Rattle.line_read.specs.declared.formats.EntryItem.{EntryItem}
use Rattle.line_read.specs.declared.formats.EntryItem.TheVariants as entry
use Rattle.line_read.specs.declared.formats.NumberForm.{NumberForm}
use Rattle.line_read.specs.declared.formats.NumberForm.TheVariants as numbers
use Rattle.line_read.specs.declared.formats.TextForm.{TextForm}
use Rattle.line_read.specs.declared.formats.TextForm.TheVariants as texts
use Rattle.line_read.specs.declared.header.LineHeader.{LineHeader}
use Rattle.line_read.specs.declared.names.HeaderEnd.{HeaderEnd}
use Rattle.line_read.specs.declared.operation.LineOp.{LineOp}
use Rattle.line_read.specs.declared.operation.LineOp.TheVariants as ops
use Rattle.line_read.specs.Codes.{standard_of, extended_of}
use Rattle.line_read.specs.Header.{line_at, bad, table_at, last_version, version_at, version_of, sizes_at, program_at, operations_at, fields_at}
use Rattle.line_read.specs.Formats.{item_of, is_path}
use Rattle.line_read.specs.Entries.{EntryParts, pair_at, format_at, form_text_at, form_number_at, block_at, passed_at, item_at, parts_at, no_parts, dir_entry_at, file_entry_at, entries_of}
use Rattle.line_read.specs.Names.{within, dir_at, file_of, file_at, listed_at}
use Rattle.line_read.specs.Tables.{dirs_at, files_at}
use Rattle.line_read.specs.Operation.{made, standard_at, ulebs_at, operand_count, low_at, bad_op, defined_at, operands_at, filled_at, body_at, fault_inside, inside, part_at, extended_at, op_at}
use Rattle.line_read.specs.Program.{Listing, listed, ops_at, MatrixRow, matrix, last_placed, falls, backwards, all_rise, unless_stopped, program_of, header_end, lines_from}
use Rattle.line_read.specs.Registers.{initial}

-- the kinds
abbrev IsOne : Kind → Type 0
IsOne = Contains (kinds.Truncated ∷ kinds.LebTooWide ∷ kinds.BadOffset ∷ kinds.LineVersion ∷ kinds.BadLineHeader ∷ kinds.VliwLine ∷ kinds.BadLineOp ∷ kinds.LineBackwards ∷ kinds.BadEntryFormat ∷ [])

cut : IsOne kinds.Truncated
cut = (0, omega arith, refl)

wide : IsOne kinds.LebTooWide
wide = (1, omega arith, refl)

offset_is : IsOne kinds.BadOffset
offset_is = (2, omega arith, refl)

version_is : IsOne kinds.LineVersion
version_is = (3, omega arith, refl)

header_is : IsOne kinds.BadLineHeader
header_is = (4, omega arith, refl)

vliw_is : IsOne kinds.VliwLine
vliw_is = (5, omega arith, refl)

op_is : IsOne kinds.BadLineOp
op_is = (6, omega arith, refl)

backwards_is : IsOne kinds.LineBackwards
backwards_is = (7, omega arith, refl)

format_is : IsOne kinds.BadEntryFormat
format_is = (8, omega arith, refl)

-- ---- the header

module _ (P : Kind → Type 0) (is_cut : P kinds.Truncated) where
  table_kinds : P kinds.BadLineHeader → (first : Spot) → FaultsAre P (table_at first)
  unfolding table_at
  table_kinds is first =
      bind_kinds P (number_at 4 first) _ (number_kinds P 4 first is_cut)
      (λ len. bind_kinds P _ _ (refuse_kinds P (nat_le LENGTH_RESERVED len.0 || nat_lt (len.1.end - len.1.place) len.0) (bad first) is) (λ u. ok_kinds P _))

  version_kinds : P kinds.LineVersion → (unit : ℕ) (s : Spot) → FaultsAre P (version_at unit s)
  unfolding version_at
  version_kinds is unit s =
      bind_kinds P (number_at 2 s) _ (number_kinds P 2 s is_cut)
      (λ version. bind_kinds P _ _ (refuse_kinds P (nat_lt version.0 2 || nat_lt (last_version unit) version.0) (fault_at s kinds.LineVersion) is) (λ u. ok_kinds P version))

-- the kinds of a table's version
abbrev IsEarly : Kind → Type 0
IsEarly = Contains (kinds.Truncated ∷ kinds.BadLineHeader ∷ kinds.LineVersion ∷ [])

pub version_of_kinds : (sections : SectionBytes) (unit offset : ℕ) → FaultsAre IsEarly (version_of sections unit offset)
version_of_kinds sections unit offset =
    bind_kinds IsEarly (table_at (line_at sections.line offset)) _ (table_kinds IsEarly (0, omega arith, refl) (1, omega arith, refl) (line_at sections.line offset))
    (λ s. bind_kinds IsEarly (version_at unit s) _ (version_kinds IsEarly (0, omega arith, refl) (2, omega arith, refl) unit s) (λ version. ok_kinds IsEarly version.0))

sizes_kinds : (first : Spot) (version : ℕ) (s : Spot) → FaultsAre IsOne (sizes_at first version s)
unfolding sizes_at
sizes_kinds first version s =
    either_kinds IsOne (nat_le 5 version) _ _
    (bind_kinds IsOne (number_at 1 s) _ (number_kinds IsOne 1 s cut)
    (λ size. bind_kinds IsOne _ _ (refuse_kinds IsOne (not (size.0 == ADDRESS_SIZE)) (bad first) header_is)
    (λ u. bind_kinds IsOne (number_at 1 size.1) _ (number_kinds IsOne 1 size.1 cut)
    (λ selector. bind_kinds IsOne _ _ (refuse_kinds IsOne (not (selector.0 == 0)) (bad first) header_is) (λ u. ok_kinds IsOne _)))))
    (ok_kinds IsOne (tt, s))

program_kinds : (first s : Spot) → FaultsAre IsOne (program_at first s)
unfolding program_at
program_kinds first s =
    bind_kinds IsOne (number_at 4 s) _ (number_kinds IsOne 4 s cut)
    (λ len. bind_kinds IsOne _ _ (refuse_kinds IsOne (nat_lt (len.1.end - len.1.place) len.0) (bad first) header_is) (λ u. ok_kinds IsOne _))

operations_kinds : (first : Spot) (version : ℕ) (s : Spot) → FaultsAre IsOne (operations_at first version s)
unfolding operations_at
operations_kinds first version s =
    either_kinds IsOne (nat_le 4 version) _ _
    (bind_kinds IsOne (number_at 1 s) _ (number_kinds IsOne 1 s cut)
    (λ most. bind_kinds IsOne _ _ (refuse_kinds IsOne (nat_lt 1 most.0) (fault_at first kinds.VliwLine) vliw_is) (λ u. ok_kinds IsOne _)))
    (ok_kinds IsOne (tt, s))

fields_kinds : (first : Spot) (version : ℕ) (s : Spot) → FaultsAre IsOne (fields_at first version s)
unfolding fields_at
fields_kinds first version s =
    bind_kinds IsOne (number_at 1 s) _ (number_kinds IsOne 1 s cut)
    (λ shortest. bind_kinds IsOne (operations_at first version shortest.1) _ (operations_kinds first version shortest.1)
    (λ behind. bind_kinds IsOne (number_at 1 behind.1) _ (number_kinds IsOne 1 behind.1 cut)
    (λ is_stmt. bind_kinds IsOne (number_at 1 is_stmt.1) _ (number_kinds IsOne 1 is_stmt.1 cut)
    (λ line_base. bind_kinds IsOne (number_at 1 line_base.1) _ (number_kinds IsOne 1 line_base.1 cut)
    (λ line_range. bind_kinds IsOne _ _ (refuse_kinds IsOne (line_range.0 == 0) (bad first) header_is)
    (λ u. bind_kinds IsOne (number_at 1 line_range.1) _ (number_kinds IsOne 1 line_range.1 cut)
    (λ opcode_base. bind_kinds IsOne _ _ (refuse_kinds IsOne (opcode_base.0 == 0) (bad first) header_is)
    (λ u. bind_kinds IsOne (items_at (number_at 1) (opcode_base.0 - 1) [] opcode_base.1) _ (items_kinds IsOne (number_at 1) (λ t. number_kinds IsOne 1 t cut) (opcode_base.0 - 1) [] opcode_base.1)
    (λ lengths. ok_kinds IsOne _)))))))))

-- ---- directories and files

module _ (header : HeaderEnd) (passed_is : IsOne header.passed.kind) where
  within_kinds : {A : Type 0} (item : Result (A × Spot) Fault) → FaultsAre IsOne item → FaultsAre IsOne (within header item)
  within_kinds item h = bind_kinds IsOne item _ h (λ x. bind_kinds IsOne _ _ (refuse_kinds IsOne (nat_lt header.place x.1.place) header.passed passed_is) (λ u. ok_kinds IsOne x))

  dir_kinds : (s : Spot) → FaultsAre IsOne (dir_at header s)
  unfolding dir_at
  dir_kinds s = bind_kinds IsOne (within header (text_at s)) _ (within_kinds (text_at s) (text_kinds IsOne s cut)) (λ name. ok_kinds IsOne _)

  number_within : (s : Spot) → FaultsAre IsOne (within header (uleb_at s))
  number_within s = within_kinds (uleb_at s) (uleb_kinds IsOne s cut wide)

  file_kinds : (s : Spot) → FaultsAre IsOne (file_at header s)
  unfolding file_at file_of
  file_kinds s =
      bind_kinds IsOne (within header (text_at s)) _ (within_kinds (text_at s) (text_kinds IsOne s cut))
      (λ name. either_kinds IsOne (length name.0 == 0) _ _ (ok_kinds IsOne _)
      (bind_kinds IsOne (within header (uleb_at name.1)) _ (number_within name.1)
      (λ dir. bind_kinds IsOne (within header (uleb_at dir.1)) _ (number_within dir.1)
      (λ time. bind_kinds IsOne (within header (uleb_at time.1)) _ (number_within time.1) (λ size. ok_kinds IsOne _)))))

  -- ---- by entry formats

  module _ (sections : SectionBytes) (format_passed : IsOne header.bad_format.kind) where
    pair_kinds : (s : Spot) → FaultsAre IsOne (pair_at header s)
    unfolding pair_at
    pair_kinds s =
        bind_kinds IsOne (within header (uleb_at s)) _ (number_within s)
        (λ content. bind_kinds IsOne (within header (uleb_at content.1)) _ (number_within content.1)
        (λ form. bind_kinds IsOne (or_fault (item_of content.0 form.0) header.bad_format) _ (found_kinds IsOne (item_of content.0 form.0) header.bad_format format_passed) (λ item. ok_kinds IsOne _)))

    format_kinds : (s : Spot) → FaultsAre IsOne (format_at header s)
    unfolding format_at
    format_kinds s =
        bind_kinds IsOne (within header (number_at 1 s)) _ (within_kinds (number_at 1 s) (number_kinds IsOne 1 s cut))
        (λ pairs. bind_kinds IsOne (items_at (pair_at header) pairs.0 [] pairs.1) _ (items_kinds IsOne (pair_at header) pair_kinds pairs.0 [] pairs.1)
        (λ format. bind_kinds IsOne (within header (uleb_at format.1)) _ (number_within format.1)
        (λ count. bind_kinds IsOne _ _ (refuse_kinds IsOne (not (count.0 == 0) && not (list_any is_path format.0)) header.bad_format format_passed) (λ u. ok_kinds IsOne _))))

    placed_kinds : (section : List ℕ) (s : Spot) → FaultsAre IsOne (placed_text_at section s)
    unfolding placed_text_at
    placed_kinds section s =
        bind_kinds IsOne (number_at 4 s) _ (number_kinds IsOne 4 s cut)
        (λ place. bind_kinds IsOne (or_fault (text_of section place.0) (fault_at s kinds.BadOffset)) _ (found_kinds IsOne (text_of section place.0) (fault_at s kinds.BadOffset) offset_is) (λ text. ok_kinds IsOne _))

    any_text_kinds : (form : TextForm) (s : Spot) → FaultsAre IsOne (form_text_at sections form s)
    unfolding form_text_at
    any_text_kinds texts.Inline s = text_kinds IsOne s cut
    any_text_kinds texts.Str s = placed_kinds sections.strings s
    any_text_kinds texts.LineStr s = placed_kinds sections.line_str s

    any_number_kinds : (form : NumberForm) (s : Spot) → FaultsAre IsOne (form_number_at form s)
    unfolding form_number_at
    any_number_kinds numbers.One s = number_kinds IsOne 1 s cut
    any_number_kinds numbers.Two s = number_kinds IsOne 2 s cut
    any_number_kinds numbers.Four s = number_kinds IsOne 4 s cut
    any_number_kinds numbers.Eight s = number_kinds IsOne 8 s cut
    any_number_kinds numbers.Leb s = uleb_kinds IsOne s cut wide

    texts_within : (form : TextForm) (s : Spot) → FaultsAre IsOne (within header (form_text_at sections form s))
    texts_within form s = within_kinds (form_text_at sections form s) (any_text_kinds form s)

    numbers_within : (form : NumberForm) (s : Spot) → FaultsAre IsOne (within header (form_number_at form s))
    numbers_within form s = within_kinds (form_number_at form s) (any_number_kinds form s)

    bytes_within : (n : ℕ) (s : Spot) → FaultsAre IsOne (within header (bytes_at n s))
    bytes_within n s = within_kinds (bytes_at n s) (bytes_kinds IsOne n s cut)

    block_kinds : (s : Spot) → FaultsAre IsOne (block_at header s)
    unfolding block_at
    block_kinds s =
        bind_kinds IsOne (within header (uleb_at s)) _ (number_within s)
        (λ len. bind_kinds IsOne (within header (bytes_at len.0 len.1)) _ (bytes_within len.0 len.1) (λ bytes. ok_kinds IsOne _))

    passed_kinds : (form : EntryForm) (s : Spot) → FaultsAre IsOne (passed_at header sections form s)
    unfolding passed_at
    passed_kinds (forms.Text form) s = bind_kinds IsOne (within header (form_text_at sections form s)) _ (texts_within form s) (λ x. ok_kinds IsOne _)
    passed_kinds (forms.Number form) s = bind_kinds IsOne (within header (form_number_at form s)) _ (numbers_within form s) (λ x. ok_kinds IsOne _)
    passed_kinds forms.Wide s = bind_kinds IsOne (within header (bytes_at 16 s)) _ (bytes_within 16 s) (λ x. ok_kinds IsOne _)
    passed_kinds forms.Block s = block_kinds s

    item_kinds : (item : EntryItem) (parts : EntryParts) (s : Spot) → FaultsAre IsOne (item_at header sections item parts s)
    unfolding item_at
    item_kinds (entry.Path form) parts s = bind_kinds IsOne (within header (form_text_at sections form s)) _ (texts_within form s) (λ x. ok_kinds IsOne _)
    item_kinds (entry.Directory form) parts s = bind_kinds IsOne (within header (form_number_at form s)) _ (numbers_within form s) (λ x. ok_kinds IsOne _)
    item_kinds (entry.Timestamp form) parts s = bind_kinds IsOne (within header (form_number_at form s)) _ (numbers_within form s) (λ x. ok_kinds IsOne _)
    item_kinds entry.TimestampBlock parts s = bind_kinds IsOne (block_at header s) _ (block_kinds s) (λ x. ok_kinds IsOne _)
    item_kinds (entry.Size form) parts s = bind_kinds IsOne (within header (form_number_at form s)) _ (numbers_within form s) (λ x. ok_kinds IsOne _)
    item_kinds entry.Digest parts s = bind_kinds IsOne (within header (bytes_at 16 s)) _ (bytes_within 16 s) (λ x. ok_kinds IsOne _)
    item_kinds (entry.Other form) parts s = bind_kinds IsOne (passed_at header sections form s) _ (passed_kinds form s) (λ x. ok_kinds IsOne _)

    parts_kinds : (format : List EntryItem) (parts : EntryParts) (s : Spot) → FaultsAre IsOne (parts_at header sections format parts s)
    parts_kinds [] parts s = ok_kinds IsOne (parts, s)
    parts_kinds (item ∷ more) parts s = bind_kinds IsOne (item_at header sections item parts s) (λ here. parts_at header sections more here.0 here.1) (item_kinds item parts s) (λ here. parts_kinds more here.0 here.1)

    path_kinds : (path : Option (List ℕ)) → FaultsAre IsOne (or_fault path header.bad_format)
    path_kinds path = found_kinds IsOne path header.bad_format format_passed

    dir_entry_kinds : (format : List EntryItem) (s : Spot) → FaultsAre IsOne (dir_entry_at header sections format s)
    unfolding dir_entry_at
    dir_entry_kinds format s =
        bind_kinds IsOne (parts_at header sections format no_parts s) _ (parts_kinds format no_parts s)
        (λ parts. bind_kinds IsOne (or_fault parts.0.path header.bad_format) _ (path_kinds parts.0.path) (λ path. ok_kinds IsOne _))

    file_entry_kinds : (format : List EntryItem) (s : Spot) → FaultsAre IsOne (file_entry_at header sections format s)
    unfolding file_entry_at
    file_entry_kinds format s =
        bind_kinds IsOne (parts_at header sections format no_parts s) _ (parts_kinds format no_parts s)
        (λ parts. bind_kinds IsOne (or_fault parts.0.path header.bad_format) _ (path_kinds parts.0.path) (λ path. ok_kinds IsOne _))

    entries_kinds : {A : Type 0} (read : List EntryItem → Spot → Result (A × Spot) Fault) → ((format : List EntryItem) (s : Spot) → FaultsAre IsOne (read format s)) → (s : Spot) → FaultsAre IsOne (entries_of read header s)
    entries_kinds read each s =
        bind_kinds IsOne (format_at header s) (λ format. items_at (read format.0.items) format.0.count [] format.1) (format_kinds s)
        (λ format. items_kinds IsOne (read format.0.items) (each format.0.items) format.0.count [] format.1)

next_kinds : {A B : Type 0} (o : Option A) (more : A → Result B Fault) (end : B) → ((x : A) → FaultsAre IsOne (more x)) → FaultsAre IsOne (option_map_or more o (Ok end))
next_kinds None more end h = ok_kinds IsOne end
next_kinds (Some x) more end h = h x

listed_kinds : {A : Type 0} (read : Spot → Result (Option A × Spot) Fault) → ((s : Spot) → FaultsAre IsOne (read s)) → (left : ℕ) (before : List A) (s : Spot) → FaultsAre IsOne (listed_at read left before s)
listed_kinds read each zero before s = err_kinds IsOne (fault_at s kinds.Truncated) cut
listed_kinds read each (suc left) before s =
    bind_kinds IsOne (read s) _ (each s)
    (λ item. next_kinds item.0 (λ x. listed_at read left (before ++ x ∷ []) item.1) (before, item.1) (λ x. listed_kinds read each left (before ++ x ∷ []) item.1))

-- ---- the tables

dirs_kinds : (first program : Spot) (sections : SectionBytes) (version : ℕ) (s : Spot) → FaultsAre IsOne (dirs_at (header_end first program) sections version s)
unfolding dirs_at
dirs_kinds first program sections version s =
    let h = header_end first program in
    either_kinds IsOne (nat_le 5 version) _ _
    (entries_kinds h header_is sections format_is (dir_entry_at h sections) (dir_entry_kinds h header_is sections format_is) s)
    (listed_kinds (dir_at h) (dir_kinds h header_is) (s.end - s.place) [] s)

files_kinds : (first program : Spot) (sections : SectionBytes) (version : ℕ) (s : Spot) → FaultsAre IsOne (files_at (header_end first program) sections version s)
unfolding files_at
files_kinds first program sections version s =
    let h = header_end first program in
    either_kinds IsOne (nat_le 5 version) _ _
    (entries_kinds h header_is sections format_is (file_entry_at h sections) (file_entry_kinds h header_is sections format_is) s)
    (listed_kinds (file_at h) (file_kinds h header_is) (s.end - s.place) [] s)

-- ---- an operation

made_kinds : {A : Type 0} (op : A → LineOp) (operand : Result (A × Spot) Fault) → FaultsAre IsOne operand → FaultsAre IsOne (made op operand)
made_kinds op operand h = bind_kinds IsOne operand _ h (λ x. ok_kinds IsOne _)

standard_kinds : (op : StandardOp) (s : Spot) → FaultsAre IsOne (standard_at op s)
unfolding standard_at
standard_kinds standard.Copy s = ok_kinds IsOne (ops.Copy, s)
standard_kinds standard.AdvancePc s = made_kinds (λ n. ops.AdvancePc n) (uleb_at s) (uleb_kinds IsOne s cut wide)
standard_kinds standard.AdvanceLine s = made_kinds (λ n. ops.AdvanceLine n) (sleb_at s) (sleb_kinds IsOne s cut wide)
standard_kinds standard.SetFile s = made_kinds (λ n. ops.SetFile n) (uleb_at s) (uleb_kinds IsOne s cut wide)
standard_kinds standard.SetColumn s = made_kinds (λ n. ops.SetColumn n) (uleb_at s) (uleb_kinds IsOne s cut wide)
standard_kinds standard.NegateStmt s = ok_kinds IsOne (ops.NegateStmt, s)
standard_kinds standard.SetBasicBlock s = ok_kinds IsOne (ops.SetBasicBlock, s)
standard_kinds standard.ConstAddPc s = ok_kinds IsOne (ops.ConstAddPc, s)
standard_kinds standard.FixedAdvancePc s = made_kinds (λ n. ops.FixedAdvancePc n) (number_at 2 s) (number_kinds IsOne 2 s cut)
standard_kinds standard.SetPrologueEnd s = ok_kinds IsOne (ops.SetPrologueEnd, s)
standard_kinds standard.SetEpilogueBegin s = ok_kinds IsOne (ops.SetEpilogueBegin, s)
standard_kinds standard.SetIsa s = made_kinds (λ n. ops.SetIsa n) (uleb_at s) (uleb_kinds IsOne s cut wide)

ulebs_kinds : (count : ℕ) (s : Spot) → FaultsAre IsOne (ulebs_at count s)
unfolding ulebs_at
ulebs_kinds zero s = ok_kinds IsOne (tt, s)
ulebs_kinds (suc count) s = bind_kinds IsOne (uleb_at s) (λ n. ulebs_at count n.1) (uleb_kinds IsOne s cut wide) (λ n. ulebs_kinds count n.1)

low_kinds : (header : LineHeader) (code : ℕ) (op : Option StandardOp) (s : Spot) → FaultsAre IsOne (low_at header code op s)
unfolding low_at
low_kinds header code (Some op) s = standard_kinds op s
low_kinds header code None s = bind_kinds IsOne (ulebs_at (operand_count header code) s) _ (ulebs_kinds (operand_count header code) s) (λ x. ok_kinds IsOne _)

defined_kinds : (first s : Spot) → FaultsAre IsOne (defined_at first s)
unfolding defined_at
defined_kinds first s =
    bind_kinds IsOne (text_at s) _ (text_kinds IsOne s cut)
    (λ name. bind_kinds IsOne _ _ (refuse_kinds IsOne (length name.0 == 0) (bad_op first) op_is)
    (λ u. bind_kinds IsOne (uleb_at name.1) _ (uleb_kinds IsOne name.1 cut wide)
    (λ dir. bind_kinds IsOne (uleb_at dir.1) _ (uleb_kinds IsOne dir.1 cut wide)
    (λ time. bind_kinds IsOne (uleb_at time.1) _ (uleb_kinds IsOne time.1 cut wide) (λ size. ok_kinds IsOne _)))))

operands_kinds : (image : Image) (relocs : Relocs) (first : Spot) (op : ExtendedOp) (s : Spot) → FaultsAre IsOne (operands_at image relocs first op s)
unfolding operands_at
operands_kinds image relocs first extended.EndSequence s = ok_kinds IsOne (ops.EndSequence, s)
operands_kinds image relocs first extended.SetAddress s = made_kinds _ (number_at 8 s) (number_kinds IsOne 8 s cut)
operands_kinds image relocs first extended.DefineFile s = made_kinds _ (defined_at first s) (defined_kinds first s)
operands_kinds image relocs first extended.SetDiscriminator s = made_kinds _ (uleb_at s) (uleb_kinds IsOne s cut wide)

filled_kinds : (image : Image) (relocs : Relocs) (first : Spot) (op : Option ExtendedOp) (s : Spot) → FaultsAre IsOne (filled_at image relocs first op s)
unfolding filled_at
filled_kinds image relocs first None s = ok_kinds IsOne ops.Unknown
filled_kinds image relocs first (Some op) s =
    bind_kinds IsOne (operands_at image relocs first op s) _ (operands_kinds image relocs first op s)
    (λ x. bind_kinds IsOne _ _ (refuse_kinds IsOne (not (x.1.end - x.1.place == 0)) (bad_op first) op_is) (λ u. ok_kinds IsOne x.0))

body_kinds : (header : LineHeader) (image : Image) (relocs : Relocs) (first s : Spot) → FaultsAre IsOne (body_at header image relocs first s)
unfolding body_at
body_kinds header image relocs first s = bind_kinds IsOne (number_at 1 s) _ (number_kinds IsOne 1 s cut) (λ code. filled_kinds image relocs first (extended_of header.version code.0) code.1)

kind_inside : (first : Spot) (kind : Kind) (f : Fault) → IsOne f.kind → IsOne (fault_inside first kind f).kind
kind_inside first kinds.Truncated f h = op_is
kind_inside first kind f h = h

inside_kinds : {A : Type 0} (first : Spot) (r : Result A Fault) → FaultsAre IsOne r → FaultsAre IsOne (inside first r)
inside_kinds first (Ok x) h = ok_kinds IsOne x
inside_kinds first (Err f) h = err_kinds IsOne (fault_inside first f.kind f) (kind_inside first f.kind f (h f refl))

part_kinds : (n : ℕ) (s : Spot) → FaultsAre IsOne (part_at n s)
unfolding part_at
part_kinds n s = bind_kinds IsOne (bytes_at n s) _ (bytes_kinds IsOne n s cut) (λ bytes. ok_kinds IsOne _)

extended_kinds : (header : LineHeader) (image : Image) (relocs : Relocs) (first s : Spot) → FaultsAre IsOne (extended_at header image relocs first s)
unfolding extended_at
extended_kinds header image relocs first s =
    bind_kinds IsOne (uleb_at s) _ (uleb_kinds IsOne s cut wide)
    (λ len. bind_kinds IsOne _ _ (refuse_kinds IsOne (len.0 == 0) (bad_op first) op_is)
    (λ u. bind_kinds IsOne (part_at len.0 len.1) _ (part_kinds len.0 len.1)
    (λ body. bind_kinds IsOne (inside first (body_at header image relocs first body.0)) _ (inside_kinds first (body_at header image relocs first body.0) (body_kinds header image relocs first body.0)) (λ op. ok_kinds IsOne _))))

op_kinds : (header : LineHeader) (image : Image) (relocs : Relocs) (s : Spot) → FaultsAre IsOne (op_at header image relocs s)
unfolding op_at
op_kinds header image relocs s =
    bind_kinds IsOne (number_at 1 s) _ (number_kinds IsOne 1 s cut)
    (λ code. either_kinds IsOne (nat_le header.opcode_base code.0) _ _ (ok_kinds IsOne _)
    (either_kinds IsOne (code.0 == DW_LNS_extended_op) _ _ (extended_kinds header image relocs s code.1) (low_kinds header code.0 (standard_of code.0) code.1)))

-- ---- a program

-- what stops a listing
abbrev StopsSo : Option Fault → Type 0
StopsSo stop = FaultsAre IsOne (unless_stopped stop)

run_out : (b : Bool) (f : Fault) → IsOne f.kind → StopsSo (if b then None else Some f)
run_out true f h = ok_kinds IsOne tt
run_out false f h = err_kinds IsOne f h

one_stops : (place : ℕ) (one : Result (LineOp × Spot) Fault) (more : Spot → Listing) → FaultsAre IsOne one → ((t : Spot) → StopsSo (more t).stop) → StopsSo (listed place one more).stop
one_stops place (Ok y) more here later = later y.1
one_stops place (Err f) more here later = err_kinds IsOne f (here f refl)

at_end : (b : Bool) (l : Listing) → StopsSo l.stop → StopsSo (if b then record { ops = []; stop = None } else l).stop
at_end true l h = ok_kinds IsOne tt
at_end false l h = h

ops_stop : (read : Spot → Result (LineOp × Spot) Fault) → ((s : Spot) → FaultsAre IsOne (read s)) → (left : ℕ) (s : Spot) → StopsSo (ops_at read left s).stop
ops_stop read each zero s = run_out (s.end - s.place == 0) (fault_at s kinds.Truncated) cut
ops_stop read each (suc left) s = at_end (s.end - s.place == 0) (listed s.place (read s) (λ t. ops_at read left t)) (one_stops s.place (read s) (λ t. ops_at read left t) (each s) (λ t. ops_stop read each left t))

rise_kinds : (last : Option ℕ) (rows : List MatrixRow) → FaultsAre IsOne (all_rise last rows)
rise_kinds last [] = ok_kinds IsOne tt
rise_kinds last (row ∷ more) =
    bind_kinds IsOne (refuse_if (falls last row.registers.at) (backwards row.place)) (λ u. all_rise (if row.ends then None else last_placed last row.registers.at) more)
    (refuse_kinds IsOne (falls last row.registers.at) (backwards row.place) backwards_is) (λ u. rise_kinds (if row.ends then None else last_placed last row.registers.at) more)

program_of_kinds : (header : LineHeader) (dirs : List (List ℕ)) (files : List FileName) (listing : Listing) → StopsSo listing.stop → FaultsAre IsOne (program_of header dirs files listing)
unfolding program_of
program_of_kinds header dirs files listing stops =
    bind_kinds IsOne (all_rise None (matrix header (initial header) listing.ops)) _ (rise_kinds None (matrix header (initial header) listing.ops))
    (λ u. bind_kinds IsOne (unless_stopped listing.stop) _ stops (λ v. ok_kinds IsOne _))

-- ---- the table

pub line_kinds : (image : Image) (relocs : Relocs) (sections : SectionBytes) (unit : ℕ) (first : Spot) → FaultsAre IsOne (lines_from image relocs sections unit first)
unfolding lines_from
line_kinds image relocs sections unit first =
    bind_kinds IsOne (table_at first) _ (table_kinds IsOne cut header_is first)
    (λ s. bind_kinds IsOne (version_at unit s) _ (version_kinds IsOne cut version_is unit s)
    (λ version. bind_kinds IsOne (sizes_at first version.0 version.1) _ (sizes_kinds first version.0 version.1)
    (λ sizes. bind_kinds IsOne (program_at first sizes.1) _ (program_kinds first sizes.1)
    (λ program. bind_kinds IsOne (fields_at first version.0 program.1) _ (fields_kinds first version.0 program.1)
    (λ header. bind_kinds IsOne (dirs_at (header_end first program.0) sections version.0 header.1) _ (dirs_kinds first program.0 sections version.0 header.1)
    (λ dirs. bind_kinds IsOne (files_at (header_end first program.0) sections version.0 dirs.1) _ (files_kinds first program.0 sections version.0 dirs.1)
    (λ files. program_of_kinds header.0 dirs.0 files.0 (ops_at (op_at header.0 image relocs) (program.0.end - program.0.place) program.0)
    (ops_stop (op_at header.0 image relocs) (op_kinds header.0 image relocs) (program.0.end - program.0.place) program.0))))))))
