-- The files of the generated objects are short.
use Rattle.std.proofs.Common.{◌∙◌, ◌≡◌, ◌≤◌, ◌<◌, ◌^◌, ◌+◌, ◌*◌, ℕ, zero, suc, Bool, true, false, if◌then◌else◌, List, [], ◌∷◌, ◌++◌, length, map, arith, refl, ap, length-append}
use Rattle.std.specs.List.{All, AllByRecursion, flat_map, range_with_len}
use Rattle.std.proofs.lemmas.List.{length-map}
use Rattle.std.proofs.lemmas.List.Elements.{All-map}
use Rattle.std.proofs.lemmas.List.FromFn.{get_or-range_with_len, length-range_with_len}
use Rattle.dsym_write.specs.Bundle.{contents}
use Rattle.ds_base.specs.Texts.{ended}
use Rattle.macho_read.specs.ImageSpelling.{commands_bytes, header_fields}
use Rattle.macho_read.specs.Spelling.{spelled}
use Rattle.macho_read.specs.declared.image.Symbol.{Symbol}
use Rattle.macho_write.specs.SymbolTable.{is_empty, strings_bytes, symbols_bytes, text_of}
use Rattle.macho_write.proofs.PlacedSymbols.{length-symbols, strings_are}
use Rattle.reloc_table.specs.declared.relocation.Reloc.{Reloc}
use Rattle.sample_objects.specs.declared.spec.ObjectSpec.{ObjectSpec}
use Rattle.sample_objects.specs.GeneratedProgram.{generated_program, reloc_of, spec_of, symbol_of}
use Rattle.sample_objects.specs.GeneratedUnit.{all_numbers}
use Rattle.sample_objects.specs.ObjectFile.{commands_len, file_of, graph_of, line_relocs, object_bytes, relocs_bytes, sections_in, sections_of}
use Rattle.sample_objects.proofs.Short.{AreShort, contents_few, sections_few}
use Rattle.sample_objects.proofs.ShortNames.{symbol_short}
use Rattle.sample_objects.proofs.Specs.{spec_short}
use Rattle.sample_objects.proofs.TheFile.{commands_length}

length-relocs : (relocs : List Reloc) → length (relocs_bytes relocs) ≡ 8 * length relocs
length-relocs [] = refl
length-relocs (r ∷ relocs) = let h = length-relocs relocs in omega (arith, h)

length-header : (spec : ObjectSpec) → length (spelled (header_fields (file_of spec))) ≡ 32
length-header spec = refl

seven_len : (a b c d e f g : List ℕ) → length (a ++ (b ++ (c ++ (d ++ (e ++ (f ++ g)))))) ≡ length a + (length b + (length c + (length d + (length e + (length f + length g)))))
seven_len a b c d e f g =
    omega (
      arith,
      length-append a (b ++ (c ++ (d ++ (e ++ (f ++ g))))),
      length-append b (c ++ (d ++ (e ++ (f ++ g)))),
      length-append c (d ++ (e ++ (f ++ g))),
      length-append d (e ++ (f ++ g)),
      length-append e (f ++ g),
      length-append f g,
    )

pub file_len : (spec : ObjectSpec) → length (object_bytes spec)
    ≡ 32 + (length (commands_bytes (file_of spec)) + (length (contents (sections_of spec)) + (length (relocs_bytes spec.relocs) + (length (relocs_bytes (line_relocs spec.unit)) + (length (symbols_bytes spec.symbols) + length (strings_bytes spec.symbols))))))
unfolding object_bytes
file_len spec =
    let header = spelled (header_fields (file_of spec)) in
    let commands = commands_bytes (file_of spec) in
    let sections = contents (sections_of spec) in
    let relocs = relocs_bytes spec.relocs in
    let moved = relocs_bytes (line_relocs spec.unit) in
    let symbols = symbols_bytes spec.symbols in
    let strings = strings_bytes spec.symbols in
    seven_len header commands sections relocs moved symbols strings
    ∙ ap (λ (n : ℕ). n + (length commands + (length sections + (length relocs + (length moved + (length symbols + length strings)))))) (length-header spec)

-- short names make short strings
texts_few : (symbols : List Symbol) → AllByRecursion (λ s. length s.name ≤ 12) symbols → length (flat_map (text_of true) symbols) ≤ 13 * length symbols
texts_few [] short = omega arith
texts_few (s ∷ symbols) short = by (is_empty s.name) short.0 (texts_few symbols short.1)
  where
    by : (b : Bool) → length s.name ≤ 12 → length (flat_map (text_of true) symbols) ≤ 13 * length symbols → length ((if b then [] else ended s.name) ++ flat_map (text_of true) symbols) ≤ 13 * length (s ∷ symbols)
    by true few h = omega (arith, h)
    by false few h = omega (arith, h, few, length-append (ended s.name) (flat_map (text_of true) symbols), length-append s.name (0 ∷ []))

short_symbols : (i : ℕ) → i ≤ 1000 → (n a : ℕ) → a + n ≤ 100 → AllByRecursion (λ s. length s.name ≤ 12) (map (symbol_of i) (range_with_len a n))
short_symbols i object zero a fits = tt
short_symbols i object (suc n) a fits = (symbol_short i a object (omega (arith, fits)), short_symbols i object n (a + 1) (omega (arith, fits)))

names_short : (i : ℕ) → i ≤ 1000 → AllByRecursion (λ s. length s.name ≤ 12) (spec_of i).symbols
unfolding all_numbers
names_short i object = short_symbols i object 100 0 (omega arith)

numbers_len : length all_numbers ≡ 100
unfolding all_numbers
numbers_len = length-range_with_len 0 100

few_sections : (spec : ObjectSpec) → length (sections_of spec) ≤ 11
unfolding sections_in
few_sections spec = sections_few (graph_of spec.unit)

few_contents : (spec : ObjectSpec) → AreShort (graph_of spec.unit) → length (contents (sections_of spec)) ≤ 2 ^ 28
unfolding sections_in
few_contents spec small = contents_few (graph_of spec.unit) small

whole_short : (file commands sections bytes relocs moved symbols strings : ℕ) → file ≡ 32 + (commands + (bytes + (relocs + (moved + (symbols + strings))))) → commands ≡ commands_len sections → sections ≤ 11
    → bytes ≤ 2 ^ 28 → relocs ≡ 800 → moved ≡ 0 → symbols ≡ 1600 → strings ≤ 1400 → file < 2 ^ 32
whole_short file commands sections bytes relocs moved symbols strings whole first few_parts few_bytes r m s t = omega (arith, whole, first, few_parts, few_bytes, r, m, s, t)

pub object_short : (i : ℕ) → i ≤ 1000 → length (object_bytes (spec_of i)) < 2 ^ 32
object_short i object =
    let spec = spec_of i in
    let symbols_len = length-map all_numbers (symbol_of i) in
    whole_short _ _ (length (sections_of spec)) _ _ _ _ _ (file_len spec) (commands_length spec) (few_sections spec) (few_contents spec (spec_short i object))
    (omega (arith, length-relocs spec.relocs, length-map all_numbers (reloc_of i), numbers_len))
    refl
    (omega (arith, length-symbols spec.symbols, symbols_len, numbers_len))
    (omega (arith, ap length (strings_are true spec.symbols), texts_few spec.symbols (names_short i object), symbols_len, numbers_len))

pub files_short : (count : ℕ) → count ≤ 1000 → All (λ file. length file < 2 ^ 32) (generated_program count).files
files_short count few =
    All-map (λ (file : List ℕ). length file < 2 ^ 32) (λ i. object_bytes (spec_of i)) (range_with_len 1 count) (λ k d lt.
    let len = length-range_with_len 1 count in
    let within : k < count = omega (arith, lt, len) in
    let at = get_or-range_with_len 1 count k d within in object_short _ (omega (arith, at, within, few)))
