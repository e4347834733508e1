use Rattle.std.proofs.Common.{◌≤◌, ◌-◌, ℕ, List, map, refl, ap, ◌∙◌, arith}
use Rattle.std.specs.List.{sum_by}
use Rattle.std.proofs.lemmas.List.Elements.{All-same}
use Rattle.sample_objects.specs.Lines.{places_by}
use Rattle.sample_objects.specs.ObjectFile.{counts_from_text}
use Rattle.sample_objects.proofs.LineSizes.{operands_are, program_within, size_in_bytes, sizes_some, sum_small}
use Rattle.sample_objects.proofs.lines.relocs_of_table.Goals as goal

pub total-program-requires : goal.total-program-requires
total-program-requires c =
    let within = program_within c.args.version c.args.lines.now c.in_ok-sizes.sizes c.args.size (sum_by (λ (n : ℕ). n) c.in_ok-sizes.sizes) c.in_ok-sizes.ensures refl c.requires.size in
    omega (arith, within, ap (sum_by (λ (n : ℕ). n)) c.as_slice.ensures, c.requires.small)

pub overflow_sub-size : goal.overflow_sub-size
overflow_sub-size c =
    program_within c.args.version c.args.lines.now c.in_ok-sizes.sizes c.args.size c.total-program.result c.in_ok-sizes.ensures
    (c.total-program.ensures ∙ ap (sum_by (λ (n : ℕ). n)) c.as_slice.ensures) c.requires.size

pub relocs_from-requires-clause-each : goal.relocs_from-requires-clause-each
relocs_from-requires-clause-each c =
    All-same (λ (n : ℕ). 11 ≤ n) c.as_slice-2.result.now (map size_in_bytes c.args.lines.now.sequences) (c.as_slice-2.ensures ∙ c.in_ok-sizes.ensures)
    (sizes_some c.args.lines.now.sequences)

pub relocs_from-requires-clause-small : goal.relocs_from-requires-clause-small
relocs_from-requires-clause-small c =
    omega (
      arith,
      ap (sum_by (λ (n : ℕ). n)) c.as_slice-2.ensures,
      sum_small c.args.version c.args.lines.now c.in_ok-sizes.sizes c.args.size c.total-program.result c.in_ok-sizes.ensures
          (c.total-program.ensures ∙ ap (sum_by (λ (n : ℕ). n)) c.as_slice.ensures) c.requires.size c.requires.small,
    )

pub returns : goal.returns
returns c =
    c.in_ok-relocs.ensures
    ∙ ap (λ (l : List ℕ). map counts_from_text (places_by (c.args.size - c.total-program.result) l)) c.as_slice-2.ensures
    ∙ operands_are c.args.version c.args.lines.now c.in_ok-sizes.sizes c.args.size c.total-program.result c.in_ok-sizes.ensures
    (c.total-program.ensures ∙ ap (sum_by (λ (n : ℕ). n)) c.as_slice.ensures) c.requires.size
