use Rattle.std.proofs.Common.{ap, length, refl, ◌∙◌}
use Rattle.link_program.proofs.Bundles.{bundle_wants_memory, bundles_as}
use Rattle.link_program.proofs.Sources.{contents_small, numbers_held, numbers_many, sources_held}
use Rattle.link_program.proofs.making.link_held.Goals as goal

pub returns-in_err-numbers : goal.returns-in_err-numbers
returns-in_err-numbers g c = bundle_wants_memory _ _ _ _ _ c.from_residual.ensures.1

pub returns-in_err-files : goal.returns-in_err-files
returns-in_err-files g c = bundle_wants_memory _ _ _ _ _ c.from_residual-in_err-files.ensures.1

pub link_files-requires-clause-few : goal.link_files-requires-clause-few
link_files-requires-clause-few g c κs within = rw c.as_slice-objects.ensures c.requires.linkable.few

pub link_files-requires-clause-each : goal.link_files-requires-clause-each
link_files-requires-clause-each g c κs within = ap length (c.as_slice.ensures ∙ c.in_ok-numbers.ensures) ∙ numbers_many c.args.held c.as_slice-objects.result.now

pub link_files-requires-clause-held : goal.link_files-requires-clause-held
link_files-requires-clause-held g c κs within = numbers_held c.args.held _ _ _ c.in_ok-files.ensures (c.as_slice.ensures ∙ c.in_ok-numbers.ensures)

pub link_files-requires-clause-small : goal.link_files-requires-clause-small
link_files-requires-clause-small g c κs within = contents_small c.args.held _ c.in_ok-files.ensures c.requires.small

pub returns : goal.returns
returns g c =
    bundles_as _ _ _ _ _ _ _ _ refl refl (sources_held c.args.held _ _ _ c.in_ok-files.ensures (c.as_slice.ensures ∙ c.in_ok-numbers.ensures) _ c.as_slice-objects.ensures) c.link_files.ensures
