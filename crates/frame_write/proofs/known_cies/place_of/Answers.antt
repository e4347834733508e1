use Rattle.std.proofs.Common.{ap, ◌∙◌}
use Rattle.frame_write.specs.Known.{place_in}
use Rattle.frame_write.proofs.Keys.{lookup-shown}
use Rattle.frame_write.proofs.known_cies.place_of.Goals as goal

pub returns : goal.returns
returns c =
    c.copied.ensures ∙ c.get.ensures.value ∙ lookup-shown c.args.cie.now c.known.inside.places.entries ∙ ap (λ known. place_in known c.args.cie.now) c.known.view_is
