-- The numbers of a unit's source files among those of the unit of merged entries, as they are read of a table.
use Rattle.std.proofs.Common.{◌≡◌, ℕ, zero, suc, ◌-◌, ◌==◌, Bool, true, false, cond, eqb, List, [], ◌∷◌, ◌++◌, slice_get, Option, Some, None, refl, sym, ap, ◌∙◌, arith}
use Rattle.std.proofs.Math.Path.{fun_ext}
use Rattle.std.specs.Option.{option_and_then, option_map, option_map_or}
use Rattle.std.proofs.lemmas.Bool.{ne_eqb}
use Rattle.std.proofs.lemmas.Option.{slice_get-map}
use Rattle.clone_values.specs.Files.{number_in}
use Rattle.clone_values.specs.Images.{image_at}
use Rattle.dwarf_types.specs.declared.analysis.Analysis.{Analysis}
use Rattle.dwarf_types.specs.declared.entry.InUnit.{InUnit}
use Rattle.dwarf_types.specs.declared.graph.Target.{Target}
use Rattle.dwarf_types.specs.declared.lines.FileName.{FileName}
use Rattle.dwarf_types.specs.declared.lines.OutLines.{OutLines}
use Rattle.link_graph.specs.PoolFiles.{SourceFile, file_at, listed_file, number_among, number_of, place_of_number}
use Rattle.clone_units.specs.Sourced.{image_in, numbers_in, numbers_listed, numbers_of_all, numbers_of_unit}

-- ---- one number

listed : (files : List SourceFile) (seen : Analysis) (unit : InUnit) (lines : OutLines) (m : ℕ) (found : Option FileName)
    → option_and_then (λ (number : Option ℕ). number) (option_map (λ file. number_of files (listed_file seen unit lines file)) found) ≡ option_and_then (number_of files) (option_map (listed_file seen unit lines) found)
listed files seen unit lines m None = refl
listed files seen unit lines m (Some file) = refl

-- at a place of the table
listed_at : (files : List SourceFile) (seen : Analysis) (unit : InUnit) (lines : Option OutLines) (m : ℕ)
    → option_and_then (λ (number : Option ℕ). number) (slice_get (option_map_or (numbers_listed files seen unit) lines []) m)
    ≡ option_and_then (number_of files) (option_and_then (λ lines. option_map (listed_file seen unit lines) (slice_get lines.files m)) lines)
listed_at files seen unit None m = refl
listed_at files seen unit (Some lines) m =
    ap (option_and_then (λ (number : Option ℕ). number)) (slice_get-map (λ (file : FileName). number_of files (listed_file seen unit lines file)) lines.files m) ∙ listed files seen unit lines m (slice_get lines.files m)

-- at a number, by how a version counts
by_version : (files : List SourceFile) (seen : Analysis) (unit : InUnit) (five : Bool) (n : ℕ)
    → number_in (cond five [] (Some 0 ∷ []) ++ option_map_or (numbers_listed files seen unit) unit.lines []) n
    ≡ option_map_or (λ i. option_and_then (number_of files) (file_at seen unit i)) (cond five (Some n) (cond (eqb n 0) None (Some (n - 1)))) (Some 0)
by_version files seen unit true n = listed_at files seen unit unit.lines n
by_version files seen unit false zero = refl
by_version files seen unit false (suc m) =
    let at : ℕ → Option ℕ = λ i. option_and_then (number_of files) (file_at seen unit i) in
    let less : suc m - 1 ≡ m = omega arith in
    let some : eqb (suc m) 0 ≡ false = ne_eqb (suc m) 0 (omega arith) in
    listed_at files seen unit unit.lines m ∙ ap at (sym less) ∙ ap (λ (none : Bool). option_map_or at (cond none None (Some (suc m - 1))) (Some 0)) (sym some)

pub number_is : (files : List SourceFile) (seen : Analysis) (u : ℕ) (unit : InUnit) (n : ℕ) → slice_get seen.units u ≡ Some unit → number_in (numbers_of_unit files seen unit) n ≡ number_among files seen u n
number_is files seen u unit n its =
    by_version files seen unit (unit.version == 5) n
    ∙ ap (option_and_then (λ (unit : InUnit). option_map_or (λ i. option_and_then (number_of files) (file_at seen unit i)) (place_of_number unit.version n) (Some 0))) (sym its)

-- ---- of all units

pub numbers_found : (files : List SourceFile) (all : List Analysis) (object u : ℕ) (seen : Analysis) (unit : InUnit) → slice_get all object ≡ Some seen → slice_get seen.units u ≡ Some unit
    → option_and_then (λ (row : List (List (Option ℕ))). slice_get row u) (slice_get (numbers_of_all files all) object) ≡ Some (numbers_of_unit files seen unit)
numbers_found files all object u seen unit own its =
    ap (option_and_then (λ (row : List (List (Option ℕ))). slice_get row u)) (slice_get-map (numbers_in files) all object ∙ ap (option_map (numbers_in files)) own)
    ∙ slice_get-map (numbers_of_unit files seen) seen.units u ∙ ap (option_map (numbers_of_unit files seen)) its

-- where references lead, by a row
pub row_leads : (images : List (List (Option Target))) (object : ℕ) (row : List (Option Target)) → slice_get images object ≡ Some row → image_at row ≡ image_in images object
row_leads images object row at = sym (fun_ext (λ k. ap (option_and_then (λ (row : List (Option Target)). image_at row k)) at))
