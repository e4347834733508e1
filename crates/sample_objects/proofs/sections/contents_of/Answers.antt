use Rattle.std.proofs.Common.{ℕ, length, ap, arith}
use Rattle.std.proofs.lemmas.List.{length-replicate}
use Rattle.dwarf_types.specs.Encode.{encode}
use Rattle.sample_objects.specs.ObjectFile.{sections_in}
use Rattle.sample_objects.proofs.Told.{sizes_small, whole_told}
use Rattle.sample_objects.proofs.sections.contents_of.Goals as goal

pub total_size-size-requires : goal.total_size-size-requires
unfolding sections_in
total_size-size-requires g c =
    let it = c.requires.measured in
    sizes_small it.graph c.args.sized.now (c.requires.sized it.graph it.measured) it.measured.2

pub emit_sections-requires-clause-size : goal.emit_sections-requires-clause-size
unfolding sections_in
emit_sections-requires-clause-size g c κs within = λ graph measured.
    whole_told (encode graph) c.args.sized.now _
    (omega (arith, ap length c.as_mut_slice.ensures.value, ap length c.in_ok-bytes.ensures, length-replicate {A = ℕ} c.total_size-size.result 0, c.total_size-size.ensures))
    (c.requires.sized graph measured)
