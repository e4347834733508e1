-- The sections of a graph, told by their sizes.
use Rattle.std.proofs.Common.{◌≡◌, ℕ, ◌+◌, ◌*◌, ◌≤◌, ◌==◌, Bool, true, false, not, List, [], ◌∷◌, ◌++◌, length, map, Ok, filter, if◌then◌else◌, arith, refl, sym, ap, ◌∙◌, append-nil, length-append}
use Rattle.std.specs.List.{flat_map}
use Rattle.std.proofs.lemmas.Bool.{eqb-true}
use Rattle.ds_base.specs.declared.fault.Part.{Part}
use Rattle.ds_base.specs.declared.fault.Part.TheVariants as parts
use Rattle.ds_base.specs.MachONumbers.{VM_PROT_ALL, VM_PROT_DEFAULT}
use Rattle.dwarf_types.specs.declared.graph.Graph.{Graph}
use Rattle.dwarf_types.specs.declared.graph.Written.{Written}
use Rattle.dwarf_types.specs.Encode.{encode, has_bytes}
use Rattle.layout.specs.declared.table.Section.{Section}
use Rattle.layout.specs.declared.table.TheConstants.{SECTIONS}
use Rattle.layout.specs.Laid.{Laid, Measures}
use Rattle.layout.specs.Sections.{written_in}
use Rattle.layout.proofs.SectionLengths.{layout_sizes}
use Rattle.macho_read.specs.declared.image.Image.{Image}
use Rattle.macho_read.specs.ImageSpelling.{command_of}
use Rattle.macho_read.specs.Spelling.{command_bytes, section_bytes}
use Rattle.macho_write.specs.declared.records.SegmentNumbers.{SegmentNumbers}
use Rattle.macho_write.proofs.Lengths.{length-section}
use Rattle.dsym_write.specs.Bundle.{contents, dwarf_command, dwarf_section, dwarf_sections, end_of, name_of_part, page_end}
use Rattle.dsym_write.specs.Pieces.{count_of, dwarf_with, records_from, sized, total, with_size}

abbrev pub told : Written → Part × ℕ
told s = (s.part, length s.bytes)

count_told : (ws : List Written) → length (filter has_bytes ws) ≡ count_of (map told ws)
count_told [] = refl
count_told (s ∷ ws) = by (length s.bytes == 0) (filter has_bytes ws) (count_told ws)
  where
    by : (b : Bool) (rest : List Written) → length rest ≡ count_of (map told ws) → length (if not b then s ∷ rest else rest) ≡ (if b then count_of (map told ws) else 1 + count_of (map told ws))
    by true rest e = e
    by false rest e = omega (arith, e)

total_told : (ws : List Written) → length (contents (filter has_bytes ws)) ≡ total (map told ws)
total_told [] = refl
total_told (s ∷ ws) = by (length s.bytes == 0) refl (filter has_bytes ws) (total_told ws)
  where
    by : (b : Bool) → (length s.bytes == 0) ≡ b → (rest : List Written) → length (contents rest) ≡ total (map told ws) → length (contents (if not b then s ∷ rest else rest)) ≡ length s.bytes + total (map told ws)
    by true e rest h = omega (arith, h, eqb-true (length s.bytes) 0 e)
    by false e rest h = omega (arith, h, length-append s.bytes (contents rest))

records_told : (ws : List Written) (addr offset : ℕ) → flat_map section_bytes (dwarf_sections addr offset (filter has_bytes ws)) ≡ records_from addr offset (map told ws)
records_told [] addr offset = refl
records_told (s ∷ ws) addr offset = by (length s.bytes == 0) refl (filter has_bytes ws) (records_told ws)
  where
    by : (b : Bool) → (length s.bytes == 0) ≡ b → (rest : List Written) → ((a o : ℕ) → flat_map section_bytes (dwarf_sections a o rest) ≡ records_from a o (map told ws))
        → flat_map section_bytes (dwarf_sections addr offset (if not b then s ∷ rest else rest))
        ≡ (if b then [] else section_bytes (dwarf_section addr offset s.part (length s.bytes))) ++ records_from (addr + length s.bytes) (offset + length s.bytes) (map told ws)
    by true e rest h =
        let none = eqb-true (length s.bytes) 0 e in
        let a : addr ≡ addr + length s.bytes = omega (arith, none) in
        let o : offset ≡ offset + length s.bytes = omega (arith, none) in
        h addr offset ∙ ap (λ (n : ℕ). records_from n offset (map told ws)) a ∙ ap (λ (n : ℕ). records_from (addr + length s.bytes) n (map told ws)) o
    by false e rest h = ap (λ (more : List ℕ). section_bytes (dwarf_section addr offset s.part (length s.bytes)) ++ more) (h (addr + length s.bytes) (offset + length s.bytes))

-- sections are told by these sizes
pub record AreTold (ws : List Written) (sizes : Laid) : Type 0 where
  pub count : length ws ≡ count_of (sized sizes)
  pub size : length (contents ws) ≡ total (sized sizes)
  pub records : (addr offset : ℕ) → flat_map section_bytes (dwarf_sections addr offset ws) ≡ records_from addr offset (sized sizes)

-- those of a layout that was measured
pub graph_told : (graph : Graph) (layout : Laid) → Measures graph (Ok layout) → AreTold (encode graph) layout
graph_told graph layout measured =
    let all : List Written = map (written_in graph) SECTIONS in
    let same = told_sizes SECTIONS in
    record { count = count_told all ∙ ap count_of same; size = total_told all ∙ ap total same; records = λ addr offset. records_told all addr offset ∙ ap (records_from addr offset) same }
  where
    told_sizes : (sections : List Section) → map told (map (written_in graph) sections) ≡ map (with_size layout) sections
    told_sizes [] = refl
    told_sizes (s ∷ sections) =
        ap (λ (n : ℕ). (s.part, n) ∷ map told (map (written_in graph) sections)) (sym (layout_sizes graph layout measured s.content))
        ∙ ap (λ (rest : List (Part × ℕ)). with_size layout s ∷ rest) (told_sizes sections)

-- ---- segment `__DWARF`

pub name_short : (part : Part) → length (name_of_part part) ≤ 16
name_short parts.Abbrev = omega arith
name_short parts.Info = omega arith
name_short parts.Str = omega arith
name_short parts.Line = omega arith
name_short parts.LineStr = omega arith
name_short parts.Ranges = omega arith
name_short parts.Rnglists = omega arith
name_short parts.Loc = omega arith
name_short parts.Loclists = omega arith
name_short parts.Aranges = omega arith
name_short parts.Frame = omega arith
name_short _ = omega arith

length-dwarf : (ws : List Written) (addr offset : ℕ) → length (flat_map section_bytes (dwarf_sections addr offset ws)) ≡ 80 * length ws
length-dwarf [] addr offset = refl
length-dwarf (s ∷ ws) addr offset =
    let one = dwarf_section addr offset s.part (length s.bytes) in
    omega (
      arith,
      length-append (section_bytes one) (flat_map section_bytes (dwarf_sections (addr + length s.bytes) (offset + length s.bytes) ws)),
      length-section one (name_short s.part) (omega arith),
      length-dwarf ws (addr + length s.bytes) (offset + length s.bytes),
    )

-- the numbers of segment `__DWARF` at an address and an offset of the file, of a size and so many sections
abbrev pub numbers : ℕ → ℕ → ℕ → ℕ → SegmentNumbers
numbers vmaddr offset size count = record { vmaddr = vmaddr; vmsize = page_end size; fileoff = offset; filesize = size; maxprot = VM_PROT_ALL; initprot = VM_PROT_DEFAULT; sections = count; flags = 0 }

module _ (program : Image) (offset : ℕ) (ws : List Written) where
  abbrev start : ℕ
  start = page_end (end_of program.segments)

  abbrev pub mine : List ℕ
  mine = flat_map section_bytes (dwarf_sections start offset ws)

  pub dwarf_is : dwarf_with (numbers start offset (length (contents ws)) (length ws)) mine ≡ command_bytes (command_of (dwarf_command program offset ws))
  dwarf_is = ap (dwarf_with (numbers start offset (length (contents ws)) (length ws))) (sym (append-nil mine))

  pub length-dwarf_with : length (command_bytes (command_of (dwarf_command program offset ws))) ≡ 72 + 80 * length ws
  length-dwarf_with = omega (arith, ap length (append-nil mine), length-dwarf ws start offset)
