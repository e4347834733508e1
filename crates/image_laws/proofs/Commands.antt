-- The commands of a written image keep to their records.
use Rattle.std.proofs.Common.{◌≡◌, ◌⊎◌, ℕ, ◌+◌, ◌*◌, ◌-◌, ◌<◌, ◌≤◌, ◌^◌, ◌==◌, false, List, [], ◌∷◌, ◌++◌, length, replicate, Option, Some, None, refl, ap, append-nil, length-append, arith, inl, inr}
use Rattle.std.specs.List.{AllByRecursion, list_any}
use Rattle.std.specs.Option.{option_map_or}
use Rattle.std.proofs.lemmas.List.{length-replicate}
use Rattle.ds_base.specs.declared.fault.Part.{Part}
use Rattle.ds_base.specs.declared.fault.Part.TheVariants as parts
use Rattle.ds_base.specs.MachONumbers.{SEG_DWARF}
use Rattle.dwarf_types.specs.declared.graph.Written.{Written}
use Rattle.macho_read.specs.declared.image.Image.{Image}
use Rattle.macho_read.specs.Fields.{before_zero}
use Rattle.macho_read.specs.ImageSpelling.{File, IsLoadCommand, IsSection, LoadCommand, command_of, commands_bytes, header_fields}
use Rattle.macho_read.specs.Spelling.{AllFit, IsName, command_bytes, command_fields, spelled}
use Rattle.macho_write.specs.Records.{IsUuidLen, commands_text, segment_commands, uuid_command}
use Rattle.macho_write.specs.SymbolTable.{strings_bytes, symbols_bytes}
use Rattle.macho_write.proofs.OwnCommands.{commands_append}
use Rattle.macho_write.proofs.PlacedSymbols.{length-symbols}
use Rattle.dsym_write.specs.Bundle.{commands_len, commands_of, contents, dwarf_command, dwarf_sections, end_of, file_bytes, file_of, kept_symbols, name_of_part, page_end, sections_place, strings_end, symtab_command}
use Rattle.dsym_write.proofs.SegmentCommands.{length-commands}
use Rattle.dsym_write.proofs.Told.{length-dwarf_with, name_short}
use Rattle.image_laws.specs.Fitting.{FitsRecords}

-- ---- names

no_zero : (part : Part) → list_any (λ b. b == 0) (name_of_part part) ≡ false
no_zero parts.Abbrev = refl
no_zero parts.Info = refl
no_zero parts.Str = refl
no_zero parts.Line = refl
no_zero parts.LineStr = refl
no_zero parts.Ranges = refl
no_zero parts.Rnglists = refl
no_zero parts.Loc = refl
no_zero parts.Loclists = refl
no_zero parts.Aranges = refl
no_zero parts.Frame = refl
no_zero _ = refl

part_name : (part : Part) → IsName (name_of_part part)
part_name part = record { len = name_short part; no_zero = no_zero part }

dwarf_name : IsName (before_zero SEG_DWARF)
dwarf_name = record { len = omega arith; no_zero = refl }

-- ---- lengths

page_more : (n : ℕ) → page_end n ≤ n + 0xfff
page_more n = omega arith

pub page_behind : (n : ℕ) → n ≤ page_end n
page_behind n = omega arith

length-uuid : (uuid : Option (List ℕ)) → IsUuidLen uuid → length (commands_text (uuid_command uuid)) ≡ option_map_or (λ it. 24) uuid 0
length-uuid None len = refl
length-uuid (Some bytes) len =
    let h : length bytes ≡ 16 = len in
    omega (arith, h, ap length (append-nil bytes), ap length (append-nil (bytes ++ [])))

all_append : {X : Type 0} (P : X → Type 0) (xs ys : List X) → AllByRecursion P xs → AllByRecursion P ys → AllByRecursion P (xs ++ ys)
all_append P [] ys a b = b
all_append P (x ∷ xs) ys a b = (a.0, all_append P xs ys a.1 b)

-- ---- the segment of debug sections

sections_count : (ws : List Written) (addr offset : ℕ) → length ws ≡ length (dwarf_sections addr offset ws)
sections_count [] addr offset = refl
sections_count (w ∷ ws) addr offset = let h = sections_count ws (addr + length w.bytes) (offset + length w.bytes) in omega (arith, h)

all_sections : (ws : List Written) (addr offset : ℕ) → addr + length (contents ws) < 2 ^ 64 → offset + length (contents ws) < 2 ^ 32 → AllByRecursion IsSection (dwarf_sections addr offset ws)
all_sections [] addr offset a o = tt
all_sections (w ∷ ws) addr offset a o =
    let len = length-append w.bytes (contents ws) in (
      record {
        name = part_name w.part;
        segment = dwarf_name;
        fit = (omega (arith, a, len), (omega (arith, o, len), (omega (arith, o, len), (omega arith, (omega arith, (omega arith, (omega arith, (omega arith, (omega arith, (omega arith, tt))))))))));
      },
      all_sections ws (addr + length w.bytes) (offset + length w.bytes) (omega (arith, a, len)) (omega (arith, o, len)),
    )

module _ (program : Image) (ws : List Written) (fits : FitsRecords program) (small : length (file_bytes program ws) < 2 ^ 32) where
  abbrev file : File
  file = file_of program ws

  abbrev header : List ℕ
  header = spelled (header_fields (file_of program ws))

  abbrev front : List ℕ
  front = commands_bytes (file_of program ws)

  abbrev symbols : List ℕ
  symbols = symbols_bytes (kept_symbols program)

  abbrev strings : List ℕ
  strings = strings_bytes (kept_symbols program)

  abbrev zeros : List ℕ
  zeros = replicate (sections_place program ws - strings_end program ws) 0

  abbrev segments_text : List ℕ
  segments_text = commands_text (segment_commands false program.segments program.sections)

  abbrev dwarf : LoadCommand
  dwarf = dwarf_command program (sections_place program ws) ws

  -- the length of all commands is the one that is told
  pub commands_length : length front ≡ commands_len program ws
  commands_length =
      let sound = fits.sound in
      let behind : List LoadCommand = segment_commands false program.segments program.sections ++ (dwarf ∷ []) in
      let split = commands_append (uuid_command program.uuid) (symtab_command program ws ∷ behind) in
      let split_more = commands_append (segment_commands false program.segments program.sections) (dwarf ∷ []) in
      let symtab : List ℕ = command_bytes (command_of (symtab_command program ws)) in
      omega (
        arith,
        ap length split,
        length-append (commands_text (uuid_command program.uuid)) (symtab ++ commands_text behind),
        length-append symtab (commands_text behind),
        symtab_len,
        ap length split_more,
        length-append segments_text (command_bytes (command_of dwarf) ++ []),
        length-append (command_bytes (command_of dwarf)) [],
        length-uuid program.uuid fits.uuid,
        length-commands program.segments program.sections sound.segments sound.sections sound.counts,
        length-dwarf_with program (sections_place program ws) ws,
      )
    where
      symtab_len : length (command_bytes (command_of (symtab_command program ws))) ≡ 24
      symtab_len = refl

  pub header_length : length header ≡ 32
  header_length = refl

  -- how long the file is
  pub file_length : length (file_bytes program ws) ≡ sections_place program ws + length (contents ws)
  file_length =
      let page = page_behind (strings_end program ws) in
      omega (
        arith,
        length-append header (front ++ (symbols ++ (strings ++ (zeros ++ contents ws)))),
        length-append front (symbols ++ (strings ++ (zeros ++ contents ws))),
        length-append symbols (strings ++ (zeros ++ contents ws)),
        length-append strings (zeros ++ contents ws),
        length-append zeros (contents ws),
        length-replicate {A = ℕ} (sections_place program ws - strings_end program ws) 0,
        header_length,
        commands_length,
        length-symbols (kept_symbols program),
        page,
      )

  -- ---- each command

  body_len : (c : LoadCommand) (n : ℕ) → length (command_bytes (command_of c)) ≡ n → 8 + length (command_of c).body ≡ n
  body_len c n e = omega (arith, e, length-append (spelled (command_fields (command_of c))) (command_of c).body)

  dwarf_fits : IsLoadCommand dwarf
  dwarf_fits =
      let whole = file_length in
      let page = page_behind (strings_end program ws) in
      let room = fits.room in
      let above = page_more (end_of program.segments) in
      let size = page_more (length (contents ws)) in
      let many = body_len dwarf (72 + 80 * length ws) (length-dwarf_with program (sections_place program ws) ws) in
      record {
        fits = (omega arith, (omega (arith, many, whole, small, page), tt));
        holds = record {
          name = dwarf_name;
          fit = (omega (arith, room, above), (omega (arith, whole, small, size), (omega (arith, whole, small), (omega (arith, whole, small), (omega arith, (omega arith, (omega (arith, whole, small, page), (omega arith, tt))))))));
          count = sections_count ws (page_end (end_of program.segments)) (sections_place program ws);
          all = all_sections ws (page_end (end_of program.segments)) (sections_place program ws) (omega (arith, room, above, whole, small)) (omega (arith, whole, small));
          end = λ e. absurd cc;
        };
      }

  symtab_fits : IsLoadCommand (symtab_command program ws)
  symtab_fits =
      let whole = file_length in
      let page = page_behind (strings_end program ws) in
      record {
        fits = (omega arith, (omega arith, tt));
        holds = (omega (arith, whole, small, page), (omega (arith, whole, small, page), (omega (arith, whole, small, page), (omega (arith, whole, small, page), tt))));
      }

  uuid_fits : (uuid : Option (List ℕ)) → IsUuidLen uuid → AllByRecursion IsLoadCommand (uuid_command uuid)
  uuid_fits None len = tt
  uuid_fits (Some bytes) len =
      let h : length bytes ≡ 16 = len in
      (record { fits = (omega arith, (omega (arith, h, ap length (append-nil bytes)), tt)); holds = len }, tt)

  pub commands_fit : AllByRecursion IsLoadCommand (commands_of program ws)
  commands_fit =
      all_append IsLoadCommand (uuid_command program.uuid) (symtab_command program ws ∷ (segment_commands false program.segments program.sections ++ (dwarf ∷ []))) (uuid_fits program.uuid fits.uuid)
      (symtab_fits, all_append IsLoadCommand (segment_commands false program.segments program.sections) (dwarf ∷ []) fits.segments (dwarf_fits, tt))

  -- ---- the header

  few_commands : (cs : List LoadCommand) → 8 * length cs ≤ length (commands_text cs)
  few_commands [] = omega arith
  few_commands (c ∷ cs) =
      let rest = few_commands cs in
      omega (arith, rest, length-append (command_bytes (command_of c)) (commands_text cs), length-append (spelled (command_fields (command_of c))) (command_of c).body)

  pub header_fits : AllFit (header_fields file)
  header_fits =
      let whole = file_length in
      let page = page_behind (strings_end program ws) in
      let many = few_commands (commands_of program ws) in
      let len = commands_length in
      (omega arith, (cpu_fits fits.cpu, (sub_fits, (omega arith, (omega (arith, many, len, whole, small, page), (omega (arith, len, whole, small, page), (omega arith, (omega arith, tt))))))))
    where
      cpu_fits : (program.cpu ≡ 0x1000007) ⊎ (program.cpu ≡ 0x100000c) → program.cpu < 256 ^ 4
      cpu_fits (inl e) = omega (arith, e)
      cpu_fits (inr e) = omega (arith, e)

      sub_fits : program.sub < 256 ^ 4
      sub_fits = let sub = fits.sub in omega (arith, sub)
