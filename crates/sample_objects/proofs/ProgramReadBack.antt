-- The file of an image is read as that image.
use Rattle.std.proofs.Common.{◌≡◌, ◌⊎◌, inl, inr, ℕ, ◌+◌, ◌*◌, ◌<◌, ◌≤◌, ◌^◌, Bool, true, false, List, [], ◌∷◌, ◌++◌, length, map, take, drop, Option, Some, None, Ok, if◌then◌else◌, take_all, append_assoc, append-nil, arith, refl, sym, ap, subst, ◌∙◌, length-append}
use Rattle.std.specs.List.{AllByRecursion, flat_map}
use Rattle.std.proofs.lemmas.Bool.{eqb-true}
use Rattle.std.proofs.lemmas.List.{drop_at, nil_from_length}
use Rattle.ds_base.specs.MachONumbers.{CPU_TYPE_ARM64, CPU_TYPE_X86_64}
use Rattle.ds_base.specs.Texts.{ended}
use Rattle.macho_read.specs.declared.image.Image.{Image}
use Rattle.macho_read.specs.declared.image.Section.{Section}
use Rattle.macho_read.specs.declared.image.Segment.{Segment}
use Rattle.macho_read.specs.declared.image.Symbol.{Symbol}
use Rattle.macho_read.specs.Image.{image_of}
use Rattle.macho_read.specs.ImageSpelling.{IsLoadCommand, IsSegment, IsSymbol, LoadCommand, SpellsFile, StandsIn, command_of, commands_bytes, header_fields, kept}
use Rattle.macho_read.specs.Kind.{with_sections}
use Rattle.macho_read.specs.Spelling.{Command, command_bytes, spelled}
use Rattle.macho_read.proofs.ImageReadBack.{images_again}
use Rattle.macho_read.proofs.ReadBack.{length_command}
use Rattle.macho_read.proofs.Soundness.{all_own}
use Rattle.macho_write.specs.Records.{IsUuidLen, commands_text, segment_command, symbol_table, uuid_command}
use Rattle.macho_write.specs.SymbolTable.{is_empty, strings_bytes, symbols_bytes, text_of, with_places}
use Rattle.macho_write.proofs.OwnCommands.{commands_append}
use Rattle.macho_write.proofs.PlacedSymbols.{length-placed, length-symbols, strings_are as all_strings}
use Rattle.sample_objects.specs.ProgramFile.{FitsFile, SymbolFits, commands_of, file_of, first_commands, program_bytes, symbols_place, symtab_command}
use Rattle.sample_objects.proofs.ProgramCommands.{commands_length}

-- ---- what is kept of the commands

segments_kept : (segments : List Segment) (sections : List Section) → map (λ s. s.0) (with_sections segments sections) ≡ segments
segments_kept [] sections = refl
segments_kept (s ∷ segments) sections = ap (λ (others : List Segment). s ∷ others) (segments_kept segments (drop s.sections sections))

module _ (place count size : ℕ) where
  abbrev last : List LoadCommand
  last = symbol_table place count size ∷ []

  own_uuid : (own : List (Segment × List Section)) → (kept (map (segment_command true) own ++ last)).uuid ≡ None
  own_uuid [] = refl
  own_uuid (s ∷ own) = own_uuid own

  own_symtab : (own : List (Segment × List Section)) → (kept (map (segment_command true) own ++ last)).symtab ≡ Some (record { symoff = place; nsyms = count; stroff = place + 16 * count; strsize = size })
  own_symtab [] = refl
  own_symtab (s ∷ own) = own_symtab own

  own_segments : (own : List (Segment × List Section)) → (kept (map (segment_command true) own ++ last)).segments ≡ map (λ s. s.0) own
  own_segments [] = refl
  own_segments (s ∷ own) = ap (λ (others : List Segment). s.0 ∷ others) (own_segments own)

  own_sections : (own : List (Segment × List Section)) → (kept (map (segment_command true) own ++ last)).sections ≡ flat_map (λ s. s.1) own
  own_sections [] = refl
  own_sections (s ∷ own) = ap (λ (others : List Section). s.1 ++ others) (own_sections own)

  uuid_kept : (uuid : Option (List ℕ)) (own : List (Segment × List Section)) → (kept ((uuid_command uuid ++ map (segment_command true) own) ++ last)).uuid ≡ uuid
  uuid_kept None own = own_uuid own
  uuid_kept (Some bytes) own = refl

  symtab_kept : (uuid : Option (List ℕ)) (own : List (Segment × List Section))
      → (kept ((uuid_command uuid ++ map (segment_command true) own) ++ last)).symtab ≡ Some (record { symoff = place; nsyms = count; stroff = place + 16 * count; strsize = size })
  symtab_kept None own = own_symtab own
  symtab_kept (Some bytes) own = own_symtab own

  all_segments_kept : (uuid : Option (List ℕ)) (own : List (Segment × List Section)) → (kept ((uuid_command uuid ++ map (segment_command true) own) ++ last)).segments ≡ map (λ s. s.0) own
  all_segments_kept None own = own_segments own
  all_segments_kept (Some bytes) own = own_segments own

  all_sections_kept : (uuid : Option (List ℕ)) (own : List (Segment × List Section)) → (kept ((uuid_command uuid ++ map (segment_command true) own) ++ last)).sections ≡ flat_map (λ s. s.1) own
  all_sections_kept None own = own_sections own
  all_sections_kept (Some bytes) own = own_sections own

-- ---- commands

commands_few : (cs : List LoadCommand) → length cs ≤ length (commands_text cs)
commands_few [] = omega arith
commands_few (c ∷ cs) = omega (arith, commands_few cs, length-append (command_bytes (command_of c)) (commands_text cs), length_command (command_of c))

segments_load : (own : List (Segment × List Section)) → AllByRecursion (λ s. IsSegment s.0 0 0 s.1) own → length (commands_text (map (segment_command true) own)) < 2 ^ 32 → AllByRecursion IsLoadCommand (map (segment_command true) own)
segments_load [] all small = tt
segments_load (s ∷ own) all small =
    let c : Command = command_of (segment_command true s) in
    let rest : List ℕ = commands_text (map (segment_command true) own) in
    let len : length (command_bytes c) ≡ 8 + length c.body = length_command c in
    let both : length (command_bytes c ++ rest) ≡ length (command_bytes c) + length rest = length-append (command_bytes c) rest in
    (record { fits = (omega arith, (omega (arith, small, len, both), tt)); holds = all.0 }, segments_load own all.1 (omega (arith, small, both)))

uuid_loads : (uuid : Option (List ℕ)) → IsUuidLen uuid → AllByRecursion IsLoadCommand (uuid_command uuid)
uuid_loads None len = tt
uuid_loads (Some bytes) len =
    let h : length bytes ≡ 16 = len in
    (record { fits = (omega arith, (omega (arith, h, ap length (append-nil bytes)), tt)); holds = h }, tt)

both_load : (xs ys : List LoadCommand) → AllByRecursion IsLoadCommand xs → AllByRecursion IsLoadCommand ys → AllByRecursion IsLoadCommand (xs ++ ys)
both_load [] ys h k = k
both_load (x ∷ xs) ys h k = (h.0, both_load xs ys h.1 k)

-- ---- symbols

symbols_kept : (symbols : List Symbol) (place : ℕ) → map (λ s. s.1) (with_places place symbols) ≡ symbols
symbols_kept [] place = refl
symbols_kept (s ∷ symbols) place = by (is_empty s.name) (symbols_kept symbols)
  where
    by : (b : Bool) → ((p : ℕ) → map (λ t. t.1) (with_places p symbols) ≡ symbols)
        → map (λ (t : ℕ × Symbol). t.1) (if b then (0, s) ∷ with_places place symbols else (place, s) ∷ with_places (place + length s.name + 1) symbols) ≡ s ∷ symbols
    by true h = ap (λ (others : List Symbol). s ∷ others) (h place)
    by false h = ap (λ (others : List Symbol). s ∷ others) (h (place + length s.name + 1))

-- their names stand in the strings, behind the bytes before
symbols_stand : (symbols : List Symbol) (before : List ℕ) → 0 < length before → AllByRecursion SymbolFits symbols → length (before ++ flat_map (text_of true) symbols) < 2 ^ 32
    → AllByRecursion (IsSymbol (before ++ flat_map (text_of true) symbols)) (with_places (length before) symbols)
symbols_stand [] before filled all small = tt
symbols_stand (s ∷ symbols) before filled all small = by (is_empty s.name) refl (flat_map (text_of true) symbols) (λ front more fits. symbols_stand symbols front more all.1 fits) small
  where
    by : (b : Bool) → is_empty s.name ≡ b → (others : List ℕ) → ((front : List ℕ) → 0 < length front → length (front ++ others) < 2 ^ 32 → AllByRecursion (IsSymbol (front ++ others)) (with_places (length front) symbols))
        → length (before ++ ((if b then [] else ended s.name) ++ others)) < 2 ^ 32
        → AllByRecursion (IsSymbol (before ++ ((if b then [] else ended s.name) ++ others)))
        (if b then (0, s) ∷ with_places (length before) symbols else (length before, s) ∷ with_places (length before + length s.name + 1) symbols)
    by true e others rest fits = (record { fit = all.0.numbers; name = inl (refl, nil_from_length s.name (eqb-true (length s.name) 0 e)) }, rest before filled fits)
    by false e others rest fits =
        let front : List ℕ = before ++ ended s.name in
        let joined : front ++ others ≡ before ++ (ended s.name ++ others) = append_assoc before (ended s.name) others in
        let len : length front ≡ length before + length s.name + 1 = omega (arith, length-append before (ended s.name), length-append s.name (0 ∷ [])) in
        let more : AllByRecursion (IsSymbol (front ++ others)) (with_places (length front) symbols) = rest front (omega (arith, len)) (omega (arith, ap length joined, fits)) in
        let named : IsSymbol (before ++ (ended s.name ++ others)) (length before, s) =
        record {
          fit = (omega (arith, fits, length-append before (ended s.name ++ others)), all.0.numbers.1);
          name = inr (record { more = others; behind_0 = filled; no_zero = all.0.name; is = drop_at before (ended s.name ++ others) (length before) refl ∙ append_assoc s.name (0 ∷ []) others });
        } in (
          named,
          subst (λ (p : ℕ). AllByRecursion (IsSymbol (before ++ (ended s.name ++ others))) (with_places p symbols)) len
              (subst (λ (strings : List ℕ). AllByRecursion (IsSymbol strings) (with_places (length front) symbols)) joined more),
        )

-- ---- the file

cpu_small : (cpu : ℕ) → (cpu ≡ CPU_TYPE_X86_64) ⊎ (cpu ≡ CPU_TYPE_ARM64) → cpu < 2 ^ 32
cpu_small cpu (inl e) = omega (arith, e)
cpu_small cpu (inr e) = omega (arith, e)

module _ (image : Image) (fits : FitsFile image) where
  abbrev own : List (Segment × List Section)
  own = with_sections image.segments image.sections

  abbrev header : List ℕ
  header = spelled (header_fields (file_of image))

  abbrev commands : List ℕ
  commands = commands_bytes (file_of image)

  abbrev symbols : List ℕ
  symbols = symbols_bytes image.symbols

  abbrev strings : List ℕ
  strings = strings_bytes image.symbols

  abbrev strings_place : ℕ
  strings_place = symbols_place image + 16 * length image.symbols

  header_len : length header ≡ 32
  header_len = refl

  symbols_len : length symbols ≡ 16 * length image.symbols
  symbols_len = length-symbols image.symbols

  -- the symbols stand behind the commands
  front_len : length (header ++ commands) ≡ symbols_place image
  front_len = omega (arith, length-append header commands, header_len, commands_length image)

  behind_len : length ((header ++ commands) ++ symbols) ≡ strings_place
  behind_len = omega (arith, length-append (header ++ commands) symbols, front_len, symbols_len)

  whole_len : length (((header ++ commands) ++ symbols) ++ strings) ≡ strings_place + length strings
  whole_len = omega (arith, length-append ((header ++ commands) ++ symbols) strings, behind_len)

  parts : program_bytes image ≡ (header ++ commands) ++ (symbols ++ strings)
  unfolding program_bytes
  parts = sym (append_assoc header commands (symbols ++ strings))

  parts_too : program_bytes image ≡ ((header ++ commands) ++ symbols) ++ strings
  parts_too = parts ∙ sym (append_assoc (header ++ commands) symbols strings)

  file_len : length (program_bytes image) ≡ strings_place + length strings
  file_len = ap length parts_too ∙ whole_len

  strings_are : strings ≡ (0 ∷ []) ++ flat_map (text_of true) image.symbols
  strings_are = all_strings true image.symbols

  strings_cut : take (length strings) (drop strings_place (program_bytes image)) ≡ (0 ∷ []) ++ flat_map (text_of true) image.symbols
  strings_cut =
      ap (λ (bytes : List ℕ). take (length strings) (drop strings_place bytes)) parts_too ∙ ap (take (length strings)) (drop_at ((header ++ commands) ++ symbols) strings strings_place behind_len)
      ∙ take_all (length strings) strings (omega arith) ∙ strings_are

  symbols_are : AllByRecursion (IsSymbol (take (length strings) (drop strings_place (program_bytes image)))) (with_places 1 image.symbols)
  symbols_are =
      subst (λ (texts : List ℕ). AllByRecursion (IsSymbol texts) (with_places 1 image.symbols)) (sym strings_cut)
      (symbols_stand image.symbols (0 ∷ []) (omega arith) fits.symbols (omega (arith, ap length strings_are, file_len, fits.small)))

  stands : StandsIn (program_bytes image) (record { symoff = symbols_place image; nsyms = length image.symbols; stroff = strings_place; strsize = length strings }) (with_places 1 image.symbols)
  stands =
      record {
        more = strings;
        count = sym (length-placed image.symbols 1);
        table = omega (arith, file_len);
        strings = omega (arith, file_len);
        is = ap (drop (symbols_place image)) parts ∙ drop_at (header ++ commands) (symbols ++ strings) (symbols_place image) front_len;
        all = symbols_are;
      }

  commands_load : AllByRecursion IsLoadCommand (commands_of image)
  commands_load =
      let first : length (commands_text (first_commands image)) ≡ length (commands_text (uuid_command image.uuid)) + length (commands_text (map (segment_command true) own)) =
      ap length (commands_append (uuid_command image.uuid) (map (segment_command true) own)) ∙ length-append (commands_text (uuid_command image.uuid)) (commands_text (map (segment_command true) own)) in
      let small : strings_place + length strings < 2 ^ 32 = omega (arith, file_len, fits.small) in
      let last : IsLoadCommand (symtab_command image) =
      record { fits = (omega arith, (omega arith, tt)); holds = (omega (arith, small), (omega (arith, small), (omega (arith, small), (omega (arith, small), tt)))) } in
      both_load (first_commands image) (symtab_command image ∷ [])
      (both_load (uuid_command image.uuid) (map (segment_command true) own) (uuid_loads image.uuid fits.uuid) (segments_load own fits.segments (omega (arith, first, small))))
      (last, tt)

  spells : SpellsFile (program_bytes image) (file_of image)
  unfolding program_bytes
  spells =
      let few : length (commands_of image) ≤ length commands = commands_few (commands_of image) in
      let small : strings_place + length strings < 2 ^ 32 = omega (arith, file_len, fits.small) in
      record {
        more = symbols ++ strings;
        is = refl;
        fit = (
          omega arith,
          (cpu_small image.cpu fits.cpu, (fits.header.0, (fits.header.1.0, (omega (arith, few, small, commands_length image), (omega (arith, small, commands_length image), (omega arith, (omega arith, tt))))))),
        );
        cpu = fits.cpu;
        commands = commands_load;
        symbols = rw (symtab_kept (symbols_place image) (length image.symbols) (length strings) image.uuid own) stands;
      }

  abbrev image_with : Option (List ℕ) → List Segment → List Section → List Symbol → Image
  image_with uuid segments sections listed = record { cpu = image.cpu; sub = image.sub; filetype = image.filetype; uuid = uuid; segments = segments; sections = sections; symbols = listed }

  pub program_again : image_of (program_bytes image) ≡ Ok image
  program_again =
      let segments : (kept (commands_of image)).segments ≡ image.segments =
      all_segments_kept (symbols_place image) (length image.symbols) (length strings) image.uuid own ∙ segments_kept image.segments image.sections in
      let sections : (kept (commands_of image)).sections ≡ image.sections =
      all_sections_kept (symbols_place image) (length image.symbols) (length strings) image.uuid own ∙ all_own image.segments image.sections fits.counts in
      let listed : List Symbol = map (λ s. s.1) (with_places 1 image.symbols) in
      let k_segments : List Segment = (kept (commands_of image)).segments in
      let k_sections : List Section = (kept (commands_of image)).sections in
      let same : image_with (kept (commands_of image)).uuid k_segments k_sections listed ≡ image =
      ap (λ (uuid : Option (List ℕ)). image_with uuid k_segments k_sections listed) (uuid_kept (symbols_place image) (length image.symbols) (length strings) image.uuid own)
      ∙ ap (λ (these : List Segment). image_with image.uuid these k_sections listed) segments ∙ ap (λ (these : List Section). image_with image.uuid image.segments these listed) sections
      ∙ ap (image_with image.uuid image.segments image.sections) (symbols_kept image.symbols 1) in
      images_again (program_bytes image) (file_of image) spells ∙ ap (λ (it : Image). Ok it) same
