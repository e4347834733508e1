-- What is written is the file, and as long as it was measured.
use Rattle.std.proofs.Common.{◌≡◌, ℕ, ◌+◌, ◌*◌, ◌-◌, ◌≤◌, false, List, [], ◌∷◌, ◌++◌, length, replicate, Option, Some, None, arith, refl, sym, ap, ◌∙◌, append_assoc, append-nil, length-append}
use Rattle.std.specs.Option.{option_map_or}
use Rattle.std.proofs.lemmas.List.{length-replicate}
use Rattle.ds_base.specs.MachONumbers.{MH_DSYM}
use Rattle.ds_base.specs.Room.{Adds}
use Rattle.ds_base.proofs.Adding.{adds_more, adds_same, adds_whole}
use Rattle.dwarf_types.specs.declared.graph.Written.{Written}
use Rattle.layout.specs.Laid.{Laid}
use Rattle.macho_read.specs.declared.image.Image.{Image}
use Rattle.macho_read.specs.ImageSpelling.{command_of, header_fields}
use Rattle.macho_read.specs.Sound.{IsSound}
use Rattle.macho_read.specs.Spelling.{command_bytes, spelled}
use Rattle.macho_write.specs.Records.{IsUuidLen, commands_text, header_bytes, segment_commands, symbol_table, uuid_command}
use Rattle.macho_write.specs.SymbolTable.{strings_bytes, symbols_bytes}
use Rattle.macho_write.proofs.OwnCommands.{commands_append}
use Rattle.macho_write.proofs.PlacedSymbols.{length-symbols}
use Rattle.dsym_write.specs.declared.places.Places.{Places}
use Rattle.dsym_write.specs.Bundle.{commands_len, commands_of, contents, dwarf_command, end_of, file_bytes, file_of, kept_symbols, page_end, sections_place, strings_end, strings_place, symbols_place, symtab_command}
use Rattle.dsym_write.specs.Pieces.{ArePlaces, commands_count, commands_front, dwarf_text, dwarf_with, records_from, sized}
use Rattle.dsym_write.proofs.SegmentCommands.{count-commands, length-commands}
use Rattle.dsym_write.proofs.Told.{AreTold, dwarf_is, length-dwarf_with, mine, numbers}

-- ---- commands

length-uuid : (uuid : Option (List ℕ)) → IsUuidLen uuid → length (commands_text (uuid_command uuid)) ≡ option_map_or (λ it. 24) uuid 0
length-uuid None len = refl
length-uuid (Some bytes) len =
    let h : length bytes ≡ 16 = len in
    omega (arith, h, ap length (append-nil bytes), ap length (append-nil (bytes ++ [])))

page_behind : (n : ℕ) → n ≤ page_end n
page_behind n = omega arith

-- ---- the parts

abbrev table_with : ℕ → ℕ → ℕ → List ℕ
table_with place count size = command_bytes (command_of (symbol_table place count size))

module _ (program : Image) (ws : List Written) (sizes : Laid) (p : Places) (sound : IsSound program) (places : ArePlaces program sizes p) (told : AreTold ws sizes) where
  few : p.sections ≡ length ws
  few = places.sections ∙ sym told.count

  all_contents : p.contents ≡ length (contents ws)
  all_contents = places.contents ∙ sym told.size

  commands_told : p.commands ≡ commands_len program ws
  commands_told = places.commands ∙ ap (λ (n : ℕ). option_map_or (λ uuid. 24) program.uuid 0 + 24 + 72 * (length program.segments + 1) + 80 * (length program.sections + n)) few

  symoff_told : p.symoff ≡ symbols_place program ws
  symoff_told = places.symoff ∙ ap (λ (n : ℕ). 32 + n) commands_told

  stroff_told : p.stroff ≡ strings_place program ws
  stroff_told = omega (arith, places.stroff, symoff_told, places.nsyms)

  end_told : p.stroff + p.strsize ≡ strings_end program ws
  end_told = omega (arith, stroff_told, places.strsize)

  offset_told : p.offset ≡ sections_place program ws
  offset_told = places.offset ∙ ap page_end end_told

  -- ---- commands

  dwarf_same : dwarf_text p sizes ≡ command_bytes (command_of (dwarf_command program (sections_place program ws) ws))
  dwarf_same =
      let start = page_end (end_of program.segments) in
      ap (λ (n : ℕ). dwarf_with (numbers n p.offset p.contents p.sections) (records_from n p.offset (sized sizes))) places.vmaddr
      ∙ ap (dwarf_with (numbers start p.offset p.contents p.sections)) (sym (told.records start p.offset))
      ∙ ap (λ (n : ℕ). dwarf_with (numbers start p.offset n p.sections) (mine program p.offset ws)) all_contents
      ∙ ap (λ (n : ℕ). dwarf_with (numbers start p.offset (length (contents ws)) n) (mine program p.offset ws)) few
      ∙ dwarf_is program p.offset ws
      ∙ ap (λ (n : ℕ). command_bytes (command_of (dwarf_command program n ws))) offset_told

  symtab_same : table_with p.symoff p.nsyms p.strsize ≡ command_bytes (command_of (symtab_command program ws))
  symtab_same =
      ap (λ (n : ℕ). table_with n p.nsyms p.strsize) symoff_told
      ∙ ap (λ (n : ℕ). table_with (symbols_place program ws) n p.strsize) places.nsyms
      ∙ ap (table_with (symbols_place program ws) (length (kept_symbols program))) places.strsize

  abbrev segments_text : List ℕ
  segments_text = commands_text (segment_commands false program.segments program.sections)

  abbrev dwarf_bytes : List ℕ
  dwarf_bytes = command_bytes (command_of (dwarf_command program (sections_place program ws) ws))

  abbrev symtab_bytes : List ℕ
  symtab_bytes = command_bytes (command_of (symtab_command program ws))

  -- all commands, one behind the other
  commands_split : commands_text (commands_of program ws) ≡ commands_text (uuid_command program.uuid) ++ (symtab_bytes ++ (segments_text ++ dwarf_bytes))
  commands_split =
      commands_append (uuid_command program.uuid) (symtab_command program ws ∷ (segment_commands false program.segments program.sections ++ (dwarf_command program (sections_place program ws) ws ∷ [])))
      ∙ ap (λ (more : List ℕ). commands_text (uuid_command program.uuid) ++ (symtab_bytes ++ more))
      (commands_append (segment_commands false program.segments program.sections) (dwarf_command program (sections_place program ws) ws ∷ []) ∙ ap (λ (more : List ℕ). segments_text ++ more) (append-nil dwarf_bytes))

  length-symtab : length symtab_bytes ≡ 24
  length-symtab = refl

  pub commands_length : length (commands_text (commands_of program ws)) ≡ commands_len program ws
  commands_length =
      omega (
        arith,
        ap length commands_split,
        length-append (commands_text (uuid_command program.uuid)) (symtab_bytes ++ (segments_text ++ dwarf_bytes)),
        length-append symtab_bytes (segments_text ++ dwarf_bytes),
        length-append segments_text dwarf_bytes,
        length-symtab,
        length-uuid program.uuid places.uuid,
        length-commands program.segments program.sections sound.segments sound.sections sound.counts,
        length-dwarf_with program (sections_place program ws) ws,
      )

  count_same : commands_count program ≡ length (commands_of program ws)
  count_same =
      omega (
        arith,
        length-append (uuid_command program.uuid) (symtab_command program ws ∷ (segment_commands false program.segments program.sections ++ (dwarf_command program (sections_place program ws) ws ∷ []))),
        length-append (segment_commands false program.segments program.sections) (dwarf_command program (sections_place program ws) ws ∷ []),
        count-commands program.segments program.sections,
      )

  abbrev header : List ℕ
  header = spelled (header_fields (file_of program ws))

  abbrev header_with : ℕ → ℕ → List ℕ
  header_with = header_bytes program.cpu program.sub MH_DSYM

  header_same : header_with (commands_count program) p.commands ≡ header
  header_same = ap (λ (n : ℕ). header_with n p.commands) count_same ∙ ap (header_with (length (commands_of program ws))) (commands_told ∙ sym commands_length)

  -- ---- the file

  abbrev uuid_text : List ℕ
  uuid_text = commands_text (uuid_command program.uuid)

  -- header and commands
  commands_same : commands_front program p sizes ≡ header ++ commands_text (commands_of program ws)
  commands_same =
      ap (λ (front : List ℕ). front ++ (uuid_text ++ (table_with p.symoff p.nsyms p.strsize ++ (segments_text ++ dwarf_text p sizes)))) header_same
      ∙ ap (λ (mid : List ℕ). header ++ (uuid_text ++ (mid ++ (segments_text ++ dwarf_text p sizes)))) symtab_same
      ∙ ap (λ (mid : List ℕ). header ++ (uuid_text ++ (symtab_bytes ++ (segments_text ++ mid)))) dwarf_same
      ∙ ap (λ (mid : List ℕ). header ++ mid) (sym commands_split)

  abbrev symbols : List ℕ
  symbols = symbols_bytes (kept_symbols program)

  abbrev strings : List ℕ
  strings = strings_bytes (kept_symbols program)

  length-header : length header ≡ 32
  length-header = refl

  module _ (commands : List ℕ) (made : commands ≡ commands_front program p sizes) where
    front_is : commands ≡ header ++ commands_text (commands_of program ws)
    front_is = made ∙ commands_same

    -- up to the strings' end
    abbrev pub front_text : List ℕ
    front_text = commands ++ (symbols ++ strings)

    pub front_length : length front_text ≡ p.stroff + p.strsize
    front_length =
        omega (
          arith,
          length-append commands (symbols ++ strings),
          length-append symbols strings,
          ap length front_is,
          length-append header (commands_text (commands_of program ws)),
          length-header,
          commands_length,
          length-symbols (kept_symbols program),
          stroff_told,
          places.strsize,
        )

    pub front_before : p.stroff + p.strsize ≤ p.offset
    front_before = omega (arith, places.offset, page_behind (p.stroff + p.strsize))

    regrouped : (a b c d e : List ℕ) → ((a ++ b) ++ (c ++ d)) ++ e ≡ a ++ (b ++ (c ++ (d ++ e)))
    regrouped a b c d e = simp append_assoc

    -- the whole file
    file_same : front_text ++ (replicate (p.offset - (p.stroff + p.strsize)) 0 ++ contents ws) ≡ file_bytes program ws
    file_same =
        let zeros : p.offset - (p.stroff + p.strsize) ≡ sections_place program ws - strings_end program ws = omega (arith, offset_told, end_told) in
        ap (λ (front : List ℕ). (front ++ (symbols ++ strings)) ++ (replicate (p.offset - (p.stroff + p.strsize)) 0 ++ contents ws)) front_is
        ∙ ap (λ (n : ℕ). ((header ++ commands_text (commands_of program ws)) ++ (symbols ++ strings)) ++ (replicate n 0 ++ contents ws)) zeros
        ∙ regrouped header (commands_text (commands_of program ws)) symbols strings (replicate (sections_place program ws - strings_end program ws) 0 ++ contents ws)

    pub file_length : length (file_bytes program ws) ≡ p.size
    file_length =
        let zeros : List ℕ = replicate (p.offset - (p.stroff + p.strsize)) 0 in
        omega (
          arith,
          ap length file_same,
          length-append front_text (zeros ++ contents ws),
          length-append zeros (contents ws),
          length-replicate {A = ℕ} (p.offset - (p.stroff + p.strsize)) 0,
          front_length,
          front_before,
          all_contents,
          places.size,
        )

    -- ---- written in turn: the front, zeros, the sections
    module _ (old front zeroed : List ℕ) (n start : ℕ) (size : length old ≡ p.size) (one : Adds old 0 front_text front n) (two : Adds front n (replicate (p.offset - n) 0) zeroed start) where
      n_is : n ≡ p.stroff + p.strsize
      n_is = omega (arith, one.behind, front_length)

      start_is : start ≡ p.offset
      start_is = omega (arith, two.behind, length-replicate {A = ℕ} (p.offset - n) 0, n_is, front_before)

      pub added_size : start + length (contents ws) ≡ length zeroed
      added_size = omega (arith, start_is, two.size, one.size, size, places.size, all_contents)

      pub file_written : (new : List ℕ) (end : ℕ) → Adds zeroed start (contents ws) new end → new ≡ file_bytes program ws
      file_written new end three =
          let zeros = ap (λ (k : ℕ). replicate (p.offset - k) 0 ++ contents ws) n_is in
          adds_whole old (file_bytes program ws) new end (size ∙ sym file_length)
          (adds_same old (front_text ++ (replicate (p.offset - n) 0 ++ contents ws)) (file_bytes program ws) new 0 end (ap (λ (back : List ℕ). front_text ++ back) zeros ∙ file_same)
          (adds_more old front new front_text (replicate (p.offset - n) 0 ++ contents ws) 0 n end one
          (adds_more front zeroed new (replicate (p.offset - n) 0) (contents ws) n start end two three)))
