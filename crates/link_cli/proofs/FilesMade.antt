-- The files of a generated program, made by several workers.
use Rattle.std.proofs.Common.{◌≡◌, ◌+◌, ℕ, List, length, map, Some, Result, Ok, slice_get, get_or, sym, ap, ◌∙◌, arith}
use Rattle.std.specs.List.{range_with_len}
use Rattle.std.specs.Option.{option_map}
use Rattle.std.proofs.lemmas.List.{length-map, same_lists}
use Rattle.std.proofs.lemmas.List.FromFn.{get_or-map-range_with_len, length-map-range_with_len}
use Rattle.std.proofs.lemmas.Option.{slice_get-get_or, slice_get-map}
use Rattle.ds_base.specs.declared.fault.NoMemory.{NoMemory}
use Rattle.sample_objects.specs.GeneratedProgram.{generated_program, spec_of}
use Rattle.sample_objects.specs.ObjectFile.{object_bytes}
use Rattle.work_share.specs.Results.{GivesAll}
use Rattle.link_cli.specs.Making.{GivesFile}

-- files that were made, as they were given
abbrev pub as_given : List (List ℕ) → List (Result (List ℕ) NoMemory)
as_given files = map (λ (file : List ℕ). Ok file) files

abbrev file_in : ℕ → List ℕ
file_in i = object_bytes (spec_of i)

pub files_made : (count : ℕ) (outs : List (Result (List ℕ) NoMemory)) (files : List (List ℕ)) → as_given files ≡ outs → GivesAll GivesFile count outs → files ≡ (generated_program count).files
files_made count outs files is all =
    let long : length files ≡ count = sym (length-map files (λ (file : List ℕ). Ok file)) ∙ ap length is ∙ all.0 in
    same_lists files (map file_in (range_with_len 1 count)) (long ∙ sym (length-map-range_with_len file_in 1 count)) (λ k d lt.
    let file : List ℕ = get_or files k d in
    let at : slice_get outs k ≡ Some (Ok file) = ap (λ (xs : List (Result (List ℕ) NoMemory)). slice_get xs k) (sym is) ∙ slice_get-map (λ (f : List ℕ). Ok f) files k ∙ ap (option_map (λ (f : List ℕ). Ok f)) (slice_get-get_or files k d lt) in
    all.1 k (Ok file) at ∙ sym (get_or-map-range_with_len file_in 1 count k (k + 1) d (omega (arith, lt, long)) (omega arith)))
