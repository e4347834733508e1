use Rattle.std.proofs.Common.{ap, ◌∙◌}
use Rattle.object_reads.specs.Sources.{sources_of}
use Rattle.link_program.proofs.Bundles.{bundle_wants_memory, bundles_as}
use Rattle.link_cli.proofs.Generating.{few_objects, numbers_each, numbers_within}
use Rattle.link_cli.proofs.generate.bundle.Goals as goal

pub returns-in_err-numbers : goal.returns-in_err-numbers
returns-in_err-numbers g c = bundle_wants_memory _ _ _ _ _ c.from_residual.ensures.1

pub link_files-requires-clause-few : goal.link_files-requires-clause-few
link_files-requires-clause-few g c κs within = few_objects c.args.count _ c.requires.objects c.requires.few

pub link_files-requires-clause-each : goal.link_files-requires-clause-each
link_files-requires-clause-each g c κs within = numbers_each c.args.count _ _ c.requires.objects (c.as_slice.ensures ∙ c.in_ok-numbers.ensures)

pub link_files-requires-clause-held : goal.link_files-requires-clause-held
link_files-requires-clause-held g c κs within = numbers_within c.args.count _ _ c.requires.files (c.as_slice.ensures ∙ c.in_ok-numbers.ensures)

pub returns : goal.returns
returns g c =
    bundles_as _ _ _ _ _ _ _ _ c.wanted.ensures.odr c.wanted.ensures.name (ap (sources_of c.args.objects.now c.args.files) (c.as_slice.ensures ∙ c.in_ok-numbers.ensures)) c.link_files.ensures
