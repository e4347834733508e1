-- The commands of an object file, and the whole file from its parts.
use Rattle.std.proofs.Common.{◌≡◌, ◌+◌, ◌-◌, ◌*◌, ℕ, List, [], ◌∷◌, ◌++◌, length, append_assoc, append-nil, arith, refl, sym, ap, ◌∙◌, length-append}
use Rattle.std.specs.List.{flat_map}
use Rattle.std.proofs.lemmas.List.{length-map}
use Rattle.ds_base.specs.declared.fault.Part.{Part}
use Rattle.ds_base.specs.MachONumbers.{MH_OBJECT}
use Rattle.dsym_write.specs.Bundle.{contents}
use Rattle.dsym_write.proofs.Told.{name_short}
use Rattle.macho_read.specs.ImageSpelling.{command_of, commands_bytes, header_fields}
use Rattle.macho_read.specs.Spelling.{command_bytes, section_bytes, spelled}
use Rattle.macho_write.specs.Records.{header_bytes}
use Rattle.macho_write.specs.SymbolTable.{strings_bytes, symbols_bytes}
use Rattle.macho_write.proofs.Lengths.{length-section}
use Rattle.reloc_table.specs.declared.relocation.Reloc.{Reloc}
use Rattle.sample_objects.specs.declared.places.Places.{Places}
use Rattle.sample_objects.specs.declared.spec.ObjectSpec.{ObjectSpec}
use Rattle.sample_objects.specs.ObjectFile.{commands_len, debug_section, debug_sections, file_of, line_relocs, object_bytes, places_of, relocs_bytes, sections_of, segment_command, sized_of, symtab_command}

length-records : (places : Places) (sized : List (Part × ℕ)) (offset : ℕ) → length (flat_map section_bytes (debug_sections places offset sized)) ≡ 80 * length sized
length-records places [] offset = refl
length-records places (s ∷ sized) offset =
    let one = debug_section places offset s.0 s.1 in
    omega (
      arith,
      length-append (section_bytes one) (flat_map section_bytes (debug_sections places (offset + s.1) sized)),
      length-section one (name_short s.0) (omega arith),
      length-records places sized (offset + s.1),
    )

module _ (places : Places) (sized : List (Part × ℕ)) (commands : places.commands ≡ commands_len (length sized)) where
  abbrev records : List ℕ
  records = flat_map section_bytes (debug_sections places places.offset sized)

  pub segment_len : length (command_bytes (command_of (segment_command places sized))) ≡ places.commands - 24
  segment_len = omega (arith, ap length (append-nil records), length-records places sized places.offset, commands)

-- a segment command and a symbol table, where there are so many sections
both_len : (sections both segment symtab : ℕ) → both ≡ segment + symtab → segment ≡ commands_len sections - 24 → symtab ≡ 24 → both ≡ commands_len sections
both_len sections both segment symtab joined first second = omega (arith, joined, first, second)

module _ (spec : ObjectSpec) where
  abbrev sized : List (Part × ℕ)
  sized = sized_of (sections_of spec)

  commands_told : (places_of spec).commands ≡ commands_len (length sized)
  commands_told = ap commands_len (sym (length-map {B = Part × ℕ} (sections_of spec) (λ s. (s.part, length s.bytes))))

  abbrev segment_text : List ℕ
  segment_text = command_bytes (command_of (segment_command (places_of spec) sized))

  abbrev symtab_text : List ℕ
  symtab_text = command_bytes (command_of (symtab_command (places_of spec)))

  commands_are : commands_bytes (file_of spec) ≡ segment_text ++ symtab_text
  commands_are = ap (λ (back : List ℕ). segment_text ++ back) (append-nil symtab_text)

  pub commands_length : length (commands_bytes (file_of spec)) ≡ (places_of spec).commands
  commands_length =
      both_len (length (sections_of spec)) (length (commands_bytes (file_of spec))) (length segment_text) (length symtab_text) (ap length commands_are ∙ length-append segment_text symtab_text)
      (segment_len (places_of spec) sized commands_told) refl

  abbrev header_with : ℕ → List ℕ
  header_with size = header_bytes spec.cpu 0 MH_OBJECT 2 size

  header_is : header_with (places_of spec).commands ≡ spelled (header_fields (file_of spec))
  header_is = ap header_with (sym commands_length)

  abbrev back_text : List ℕ
  back_text = contents (sections_of spec) ++ (relocs_bytes spec.relocs ++ (relocs_bytes (line_relocs spec.unit) ++ (symbols_bytes spec.symbols ++ strings_bytes spec.symbols)))

  pub file_is : header_with (places_of spec).commands ++ (segment_text ++ (symtab_text ++ back_text)) ≡ object_bytes spec
  unfolding object_bytes
  file_is =
      ap (λ (front : List ℕ). front ++ (segment_text ++ (symtab_text ++ back_text))) header_is
      ∙ ap (λ (mid : List ℕ). spelled (header_fields (file_of spec)) ++ mid) (sym (append_assoc segment_text symtab_text back_text))
      ∙ ap (λ (mid : List ℕ). spelled (header_fields (file_of spec)) ++ (mid ++ back_text)) (sym commands_are)

-- ---- parts that were put one behind the other

seven_in_turn : (o h a b c r m t p1 p2 p3 p4 p5 p6 p7 : List ℕ) → o ≡ [] → h ≡ o ++ p1 → a ≡ h ++ p2 → b ≡ a ++ p3 → c ≡ b ++ p4 → r ≡ c ++ p5 → m ≡ r ++ p6 → t ≡ m ++ p7 → t ≡ p1 ++ (p2 ++ (p3 ++ (p4 ++ (p5 ++ (p6 ++ p7)))))
seven_in_turn o h a b c r m t p1 p2 p3 p4 p5 p6 p7 eo eh ea eb ec er em et = rw (et, em, er, ec, eb, ea, eh, eo) (simp append_assoc)

module _ (spec : ObjectSpec) where
  abbrev parts_with : Places → List (Part × ℕ) → List ℕ → List Reloc → List Reloc → List ℕ → List ℕ
  parts_with places all bytes relocs moved symbols =
      header_with spec places.commands
      ++ (command_bytes (command_of (segment_command places all)) ++ (command_bytes (command_of (symtab_command places)) ++ (bytes ++ (relocs_bytes relocs ++ (relocs_bytes moved ++ symbols)))))

  module _ (places : Places) (all : List (Part × ℕ)) (bytes symbols : List ℕ) (relocs moved : List Reloc) (told : places ≡ places_of spec) (sizes : all ≡ sized_of (sections_of spec)) (sections : bytes ≡ contents (sections_of spec))
      (texts : symbols ≡ symbols_bytes spec.symbols ++ strings_bytes spec.symbols) (own : relocs ≡ spec.relocs) (line : moved ≡ line_relocs spec.unit) where
    parts_are : parts_with places all bytes relocs moved symbols ≡ object_bytes spec
    parts_are =
        ap (λ (p : Places). parts_with p all bytes relocs moved symbols) told
        ∙ ap (λ (l : List (Part × ℕ)). parts_with (places_of spec) l bytes relocs moved symbols) sizes
        ∙ ap (λ (l : List ℕ). parts_with (places_of spec) (sized_of (sections_of spec)) l relocs moved symbols) sections
        ∙ ap (λ (l : List Reloc). parts_with (places_of spec) (sized_of (sections_of spec)) (contents (sections_of spec)) l moved symbols) own
        ∙ ap (λ (l : List Reloc). parts_with (places_of spec) (sized_of (sections_of spec)) (contents (sections_of spec)) spec.relocs l symbols) line
        ∙ ap (λ (l : List ℕ). parts_with (places_of spec) (sized_of (sections_of spec)) (contents (sections_of spec)) spec.relocs (line_relocs spec.unit) l) texts
        ∙ file_is spec

    pub whole : (o h a b c r m t : List ℕ) → o ≡ [] → h ≡ o ++ header_bytes spec.cpu 0 MH_OBJECT 2 places.commands
        → a ≡ h ++ command_bytes (command_of (segment_command places all)) → b ≡ a ++ command_bytes (command_of (symtab_command places)) → c ≡ b ++ bytes → r ≡ c ++ relocs_bytes relocs
        → m ≡ r ++ relocs_bytes moved → t ≡ m ++ symbols → t ≡ object_bytes spec
    whole o h a b c r m t eo eh ea eb ec er em et =
        seven_in_turn o h a b c r m t (header_with spec places.commands) (command_bytes (command_of (segment_command places all))) (command_bytes (command_of (symtab_command places))) bytes (relocs_bytes relocs)
        (relocs_bytes moved) symbols eo eh ea eb ec er em et ∙ parts_are
