use Rattle.std.proofs.Common.{◌≡◌, ◌<◌, ◌^◌, None, sym, ap, subst, ◌∙◌}
use Rattle.std.specs.List.{All}
use Rattle.layout.specs.Lengths.{long_section, long_unit}
use Rattle.sample_objects.specs.declared.spec.ObjectSpec.{ObjectSpec}
use Rattle.sample_objects.specs.ObjectFile.{graph_of, object_bytes}
use Rattle.sample_objects.proofs.Specs.{spec_sections, spec_symbols, spec_unit}
use Rattle.sample_objects.proofs.generator.generated_file.Goals as goal

pub object-requires-clause-unit : goal.object-requires-clause-unit
object-requires-clause-unit g c κs within = subst (λ (s : ObjectSpec). long_unit (graph_of s.unit) ≡ None) (sym c.in_ok-spec.ensures) (spec_unit c.args.number c.requires)

pub object-requires-clause-sections : goal.object-requires-clause-sections
object-requires-clause-sections g c κs within = subst (λ (s : ObjectSpec). long_section (graph_of s.unit) ≡ None) (sym c.in_ok-spec.ensures) (spec_sections c.args.number c.requires)

pub object-requires-clause-symbols : goal.object-requires-clause-symbols
object-requires-clause-symbols g c κs within = subst (λ (s : ObjectSpec). All (λ r. r.symbol < 2 ^ 24) s.relocs) (sym c.in_ok-spec.ensures) (spec_symbols c.args.number)

pub returns : goal.returns
returns g c = c.in_ok-bytes.ensures ∙ ap object_bytes c.in_ok-spec.ensures
