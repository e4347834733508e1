use Rattle.std.proofs.Common.{◌≡◌, Ok, Option, arith, subst}
use Rattle.std.specs.Prelude.{IfSome}
use Rattle.dwarf_types.specs.declared.analysis.Analysis.{Analysis}
use Rattle.object_view.specs.Analysis.{analysis_of}
use Rattle.batch_cache.proofs.Sound.{sound_analysis}
use Rattle.batch_cache.proofs.cache.Cache.analysed.Goals as goal

pub returns-in-Some-clause-sound : goal.returns-in-Some-clause-sound
returns-in-Some-clause-sound g c =
    let exact : analysis_of c.args.bytes.now c.args.object.now c.args.cpu ≡ Ok c.in-Some.seen
    = subst (λ (found : Option Analysis). IfSome found (λ (seen : Analysis). analysis_of c.args.bytes.now c.args.object.now c.args.cpu ≡ Ok seen)) c.in-Some.is c.in_ok-seen.ensures in
    sound_analysis c.args.bytes.now c.args.object.now c.args.cpu c.in-Some.seen c.requires (λ i. let small = c.type_inv.bytes i in omega (arith, small)) exact
