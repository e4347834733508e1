use Rattle.std.proofs.Common.{◌≡◌, ◌+◌, ◌-◌, false, ℕ, length, get_or, ap, ◌∙◌, arith}
use Rattle.reloc_table.specs.declared.relocation.Reloc.{Reloc}
use Rattle.sample_objects.specs.GeneratedProgram.{low_pc_place}
use Rattle.sample_objects.proofs.LowPlaces.{end_told, function_within, places_len}
use Rattle.sample_objects.proofs.objects.reloc_for.Goals as goal

pub bounds-as_slice-variable : goal.bounds-as_slice-variable
bounds-as_slice-variable c = omega (arith, ap length c.as_slice.ensures, ap length c.requires.draft.places, places_len c.args.i, function_within c.args.j c.requires.number, c.function_node-variable.ensures)

pub overflow_sub-result : goal.overflow_sub-result
overflow_sub-result c =
    omega (arith, end_told c.args.i c.args.j c.requires.number c.as_slice.result.now c.function_node-variable.result (c.as_slice.ensures ∙ c.requires.draft.places) c.function_node-variable.ensures)

abbrev reloc_by : ℕ → ℕ → Reloc
reloc_by place symbol = record { place = place; symbol = symbol; outer = false }

pub returns : goal.returns
returns c =
    let place : get_or c.as_slice.result.now (c.function_node-variable.result + 1) 0 - 12 ≡ low_pc_place c.args.i c.args.j =
    omega (arith, end_told c.args.i c.args.j c.requires.number c.as_slice.result.now c.function_node-variable.result (c.as_slice.ensures ∙ c.requires.draft.places) c.function_node-variable.ensures) in
    ap (λ (n : ℕ). reloc_by n c.from.result) place ∙ ap (reloc_by (low_pc_place c.args.i c.args.j)) c.from.ensures
