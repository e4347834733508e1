-- A written image is read, and has the sections of its graph.
use Rattle.std.proofs.Common.{◌≡◌, ℕ, ◌-◌, ◌<◌, ◌≤◌, ◌^◌, Bool, true, false, List, [], ◌∷◌, ◌++◌, length, filter, replicate, Result, Ok, refl, ap, ◌∙◌, append_assoc, length-append, arith, if◌then◌else◌, inl, inr, ◌⊎◌}
use Rattle.std.specs.List.{AllByRecursion}
use Rattle.ds_base.specs.declared.fault.Fault.{Fault}
use Rattle.ds_base.specs.declared.fault.Kind.TheVariants as kinds
use Rattle.ds_base.specs.declared.fault.Part.{Part}
use Rattle.ds_base.specs.declared.fault.Part.TheVariants as parts
use Rattle.ds_base.specs.Reading.{◌>>=◌, refuse_if}
use Rattle.dwarf_types.specs.declared.graph.Graph.{Graph}
use Rattle.dwarf_types.specs.declared.graph.Written.{Written}
use Rattle.dwarf_types.specs.Encode.{abbrev_section, all_sections, aranges_section, encode, has_bytes, info_section, line_section, line_str_section, loc_section, loclists_section, ranges_section, rnglists_section, str_section}
use Rattle.dwarf_types.specs.SectionBytes.{SectionBytes}
use Rattle.macho_read.specs.declared.image.Image.{Image}
use Rattle.macho_read.specs.declared.kind.Role.TheVariants as roles
use Rattle.macho_read.specs.Debug.{debug_part}
use Rattle.macho_read.specs.Header.{header_fault}
use Rattle.macho_read.specs.Image.{image_of}
use Rattle.macho_read.specs.ImageSpelling.{SpellsFile, commands_bytes, header_fields, image_kept, kept}
use Rattle.macho_read.specs.Kind.{is_wrong_cpu, kind_of}
use Rattle.macho_read.specs.Spelling.{spelled}
use Rattle.macho_read.proofs.ImageReadBack.{images_again}
use Rattle.macho_write.specs.SymbolTable.{strings_bytes, symbols_bytes}
use Rattle.reloc_table.specs.declared.sections.Compressed.TheVariants.{Ignored}
use Rattle.reloc_table.specs.Parts.{all_tried, part_bytes, sections_in}
use Rattle.dsym_write.specs.Bundle.{commands_of, contents, file_of, image_file, kept_symbols, sections_place, strings_end}
use Rattle.written_laws.specs.ReadUnits.{sections_of}
use Rattle.image_laws.specs.Fitting.{FitsRecords}
use Rattle.image_laws.proofs.Commands.{file_length}
use Rattle.image_laws.proofs.Sections.{IsKnown, count_of, filtered, part_there, tried_there, written_bytes}
use Rattle.image_laws.proofs.Spelled.{image_spelled}

-- of all parts
known_all : (graph : Graph) → AllByRecursion IsKnown (all_sections graph)
unfolding debug_part
known_all graph = (refl, (refl, (refl, (refl, (refl, (refl, (refl, (refl, (refl, (refl, (refl, tt)))))))))))

known_some : (ws : List Written) → AllByRecursion IsKnown ws → AllByRecursion IsKnown (filter has_bytes ws)
known_some [] known = tt
known_some (w ∷ ws) known = by (has_bytes w) (known_some ws known.1)
  where
    by : (b : Bool) → AllByRecursion IsKnown (filter has_bytes ws) → AllByRecursion IsKnown (if b then w ∷ filter has_bytes ws else filter has_bytes ws)
    by true rest = (known.0, rest)
    by false rest = rest

abbrev made : (a b c d e f g h i j k l m : List ℕ) → SectionBytes
made a b c d e f g h i j k l m = record { info = a; abbrev_ = b; strings = c; str_offs = d; addr = e; line = f; line_str = g; ranges = h; rnglists = i; loc = j; loclists = k; aranges = l; frame = m }

module _ (program : Image) (graph : Graph) (fits : FitsRecords program) (kind : kind_of program roles.Program ≡ Ok tt) (small : length (image_file program graph) < 2 ^ 32) where
  abbrev ws : List Written
  ws = encode graph

  abbrev header : List ℕ
  header = spelled (header_fields (file_of program (encode graph)))

  abbrev commands : List ℕ
  commands = commands_bytes (file_of program (encode graph))

  abbrev symbols : List ℕ
  symbols = symbols_bytes (kept_symbols program)

  abbrev strings : List ℕ
  strings = strings_bytes (kept_symbols program)

  abbrev zeros : List ℕ
  zeros = replicate (sections_place program (encode graph) - strings_end program (encode graph)) 0

  abbrev front : List ℕ
  front = header ++ (commands ++ (symbols ++ (strings ++ zeros)))

  regrouped : (a b c d e f : List ℕ) → a ++ (b ++ (c ++ (d ++ (e ++ f)))) ≡ (a ++ (b ++ (c ++ (d ++ e)))) ++ f
  regrouped a b c d e f = simp append_assoc

  whole : image_file program graph ≡ front ++ contents (encode graph)
  whole = regrouped header commands symbols strings zeros (contents (encode graph))

  there : length front ≡ sections_place program (encode graph)
  there = omega (arith, ap length whole, length-append front (contents (encode graph)), file_length program (encode graph) fits small)

  pub spells : SpellsFile (image_file program graph) (file_of program (encode graph))
  spells = image_spelled program (encode graph) fits small

  known : AllByRecursion IsKnown (encode graph)
  known = known_some (all_sections graph) (known_all graph)

  pub tried : all_tried Ignored (image_file program graph) [] (image_kept (file_of program (encode graph))).sections ≡ Ok tt
  tried = tried_there program (encode graph) kind (image_file program graph) front whole there known

  abbrev there_of : Part → List ℕ
  there_of part = part_bytes (image_file program graph) (kept (commands_of program (encode graph))).sections part

  found : (part : Part) → count_of (all_sections graph) part ≤ 1 → there_of part ≡ written_bytes (all_sections graph) part
  found part few = part_there program (encode graph) kind (image_file program graph) front whole there known part ∙ filtered (all_sections graph) part few

  pub sections : sections_in (image_file program graph) (image_kept (file_of program (encode graph))).sections ≡ sections_of graph
  sections =
      ap (λ (x : List ℕ). made x (there_of parts.Abbrev) (there_of parts.Str) (there_of parts.StrOffs) (there_of parts.Addr) (there_of parts.Line) (there_of parts.LineStr) (there_of parts.Ranges) (there_of parts.Rnglists) (there_of parts.Loc) (there_of parts.Loclists) (there_of parts.Aranges) (there_of parts.Frame)) (found parts.Info (omega arith))
      ∙ ap (λ (x : List ℕ). made (info_section graph) x (there_of parts.Str) (there_of parts.StrOffs) (there_of parts.Addr) (there_of parts.Line) (there_of parts.LineStr) (there_of parts.Ranges) (there_of parts.Rnglists) (there_of parts.Loc) (there_of parts.Loclists) (there_of parts.Aranges) (there_of parts.Frame)) (found parts.Abbrev (omega arith))
      ∙ ap (λ (x : List ℕ). made (info_section graph) (abbrev_section graph) x (there_of parts.StrOffs) (there_of parts.Addr) (there_of parts.Line) (there_of parts.LineStr) (there_of parts.Ranges) (there_of parts.Rnglists) (there_of parts.Loc) (there_of parts.Loclists) (there_of parts.Aranges) (there_of parts.Frame)) (found parts.Str (omega arith))
      ∙ ap (λ (x : List ℕ). made (info_section graph) (abbrev_section graph) (str_section graph) x (there_of parts.Addr) (there_of parts.Line) (there_of parts.LineStr) (there_of parts.Ranges) (there_of parts.Rnglists) (there_of parts.Loc) (there_of parts.Loclists) (there_of parts.Aranges) (there_of parts.Frame)) (found parts.StrOffs (omega arith))
      ∙ ap (λ (x : List ℕ). made (info_section graph) (abbrev_section graph) (str_section graph) [] x (there_of parts.Line) (there_of parts.LineStr) (there_of parts.Ranges) (there_of parts.Rnglists) (there_of parts.Loc) (there_of parts.Loclists) (there_of parts.Aranges) (there_of parts.Frame)) (found parts.Addr (omega arith))
      ∙ ap (λ (x : List ℕ). made (info_section graph) (abbrev_section graph) (str_section graph) [] [] x (there_of parts.LineStr) (there_of parts.Ranges) (there_of parts.Rnglists) (there_of parts.Loc) (there_of parts.Loclists) (there_of parts.Aranges) (there_of parts.Frame)) (found parts.Line (omega arith))
      ∙ ap (λ (x : List ℕ). made (info_section graph) (abbrev_section graph) (str_section graph) [] [] (line_section graph) x (there_of parts.Ranges) (there_of parts.Rnglists) (there_of parts.Loc) (there_of parts.Loclists) (there_of parts.Aranges) (there_of parts.Frame)) (found parts.LineStr (omega arith))
      ∙ ap (λ (x : List ℕ). made (info_section graph) (abbrev_section graph) (str_section graph) [] [] (line_section graph) (line_str_section graph) x (there_of parts.Rnglists) (there_of parts.Loc) (there_of parts.Loclists) (there_of parts.Aranges) (there_of parts.Frame)) (found parts.Ranges (omega arith))
      ∙ ap (λ (x : List ℕ). made (info_section graph) (abbrev_section graph) (str_section graph) [] [] (line_section graph) (line_str_section graph) (ranges_section graph) x (there_of parts.Loc) (there_of parts.Loclists) (there_of parts.Aranges) (there_of parts.Frame)) (found parts.Rnglists (omega arith))
      ∙ ap (λ (x : List ℕ). made (info_section graph) (abbrev_section graph) (str_section graph) [] [] (line_section graph) (line_str_section graph) (ranges_section graph) (rnglists_section graph) x (there_of parts.Loclists) (there_of parts.Aranges) (there_of parts.Frame)) (found parts.Loc (omega arith))
      ∙ ap (λ (x : List ℕ). made (info_section graph) (abbrev_section graph) (str_section graph) [] [] (line_section graph) (line_str_section graph) (ranges_section graph) (rnglists_section graph) (loc_section graph) x (there_of parts.Aranges) (there_of parts.Frame)) (found parts.Loclists (omega arith))
      ∙ ap (λ (x : List ℕ). made (info_section graph) (abbrev_section graph) (str_section graph) [] [] (line_section graph) (line_str_section graph) (ranges_section graph) (rnglists_section graph) (loc_section graph) (loclists_section graph) x (there_of parts.Frame)) (found parts.Aranges (omega arith))
      ∙ ap (λ (x : List ℕ). made (info_section graph) (abbrev_section graph) (str_section graph) [] [] (line_section graph) (line_str_section graph) (ranges_section graph) (rnglists_section graph) (loc_section graph) (loclists_section graph) (aranges_section graph) x) (found parts.Frame (omega arith))

pub bundle : (program : Image) (graph : Graph) → FitsRecords program → kind_of (image_kept (file_of program (encode graph))) roles.Bundle ≡ Ok tt
bundle program graph fits = by program.cpu fits.cpu
  where
    passed : Bool → Result (Unit {0}) Fault
    passed wrong = refuse_if wrong (header_fault kinds.WrongCpu 4) >>= λ u. refuse_if false (header_fault kinds.BadFileType 12) >>= λ v. Ok tt

    by : (cpu : ℕ) → (cpu ≡ 0x1000007) ⊎ (cpu ≡ 0x100000c) → passed (is_wrong_cpu roles.Bundle cpu) ≡ Ok tt
    by cpu (inl e) = ap (λ (n : ℕ). passed (is_wrong_cpu roles.Bundle n)) e
    by cpu (inr e) = ap (λ (n : ℕ). passed (is_wrong_cpu roles.Bundle n)) e

pub image_read : (program : Image) (graph : Graph) → FitsRecords program → length (image_file program graph) < 2 ^ 32 → image_of (image_file program graph) ≡ Ok (image_kept (file_of program (encode graph)))
image_read program graph fits small = images_again (image_file program graph) (file_of program (encode graph)) (image_spelled program (encode graph) fits small)
