-- The sections of a graph, one behind the other.
use Rattle.std.proofs.Common.{◌≡◌, ◌==◌, ℕ, Bool, true, false, not, List, [], ◌∷◌, ◌++◌, length, map, Ok, filter, if◌then◌else◌, refl, sym, ap, ◌∙◌, arith, length-append}
use Rattle.std.specs.List.{flat_map}
use Rattle.std.proofs.lemmas.Bool.{eqb-true}
use Rattle.std.proofs.lemmas.List.Concat.{flat_map-append}
use Rattle.dwarf_types.specs.declared.graph.Graph.{Graph}
use Rattle.dwarf_types.specs.declared.graph.Written.{Written}
use Rattle.dwarf_types.specs.Encode.{encode, has_bytes}
use Rattle.layout.specs.declared.table.Section.{Section}
use Rattle.layout.specs.declared.table.TheConstants.{SECTIONS}
use Rattle.layout.specs.Laid.{Laid, Measures, sizes_in}
use Rattle.layout.specs.Lengths.{run_size}
use Rattle.layout.specs.Sections.{content_bytes, written_in}
use Rattle.layout.proofs.SectionLengths.{layout_sizes}
use Rattle.section_write.specs.Runs.{back_run, behind_run, front_run, run_bytes, texts_run}

-- ---- sections without bytes

true_of : (b : Bool) → not b ≡ false → b ≡ true
true_of true e = refl
true_of false e = absurd cc

pub none_of_none : (bytes : List ℕ) → length bytes ≡ 0 → bytes ≡ []
none_of_none [] e = refl
none_of_none (b ∷ bytes) e = absurd (omega (arith, e))

bytes_kept : (sections : List Written) → flat_map (λ s. s.bytes) (filter has_bytes sections) ≡ flat_map (λ s. s.bytes) sections
bytes_kept [] = refl
bytes_kept (s ∷ sections) = by (has_bytes s) refl ∙ ap (λ (bytes : List ℕ). s.bytes ++ bytes) (bytes_kept sections)
  where
    by : (b : Bool) → has_bytes s ≡ b → flat_map (λ it. it.bytes) (if b then s ∷ filter has_bytes sections else filter has_bytes sections) ≡ s.bytes ++ flat_map (λ it. it.bytes) (filter has_bytes sections)
    by true e = refl
    by false e = ap (λ (bytes : List ℕ). bytes ++ flat_map (λ (it : Written). it.bytes) (filter has_bytes sections)) (sym (none_of_none s.bytes (eqb-true (length s.bytes) 0 (true_of (length s.bytes == 0) e))))

-- ---- all sections

map_bytes : (graph : Graph) (sections : List Section) → flat_map (λ s. s.bytes) (map (written_in graph) sections) ≡ run_bytes graph sections
map_bytes graph [] = refl
map_bytes graph (s ∷ sections) = ap (λ (rest : List ℕ). content_bytes graph s.content ++ rest) (map_bytes graph sections)

pub sections_are : (graph : Graph) → flat_map (λ s. s.bytes) (encode graph) ≡ run_bytes graph SECTIONS
sections_are graph = bytes_kept (map (written_in graph) SECTIONS) ∙ map_bytes graph SECTIONS

-- how long they are
pub run_len : (graph : Graph) (layout : Laid) → Measures graph (Ok layout) → (sections : List Section) → run_size (sizes_in layout) sections ≡ length (run_bytes graph sections)
run_len graph layout measured [] = refl
run_len graph layout measured (s ∷ sections) =
    omega (arith, layout_sizes graph layout measured s.content, run_len graph layout measured sections, length-append (content_bytes graph s.content) (run_bytes graph sections))

-- ---- beside each other

pub front_and_back : (graph : Graph) → run_bytes graph front_run ++ run_bytes graph back_run ≡ run_bytes graph SECTIONS
front_and_back graph = sym (flat_map-append (λ (s : Section). content_bytes graph s.content) front_run back_run)

pub texts_and_behind : (graph : Graph) → run_bytes graph texts_run ++ run_bytes graph behind_run ≡ run_bytes graph back_run
texts_and_behind graph = sym (flat_map-append (λ (s : Section). content_bytes graph s.content) texts_run behind_run)
