use Rattle.std.proofs.Common.{◌≡◌, ◌^◌, ◌<◌, ◌∙◌, List, ℕ, All, length, ap, sym, subst}
use Rattle.dwarf_types.specs.Abbreviations.{declarations_bytes}
use Rattle.line_write.specs.Named.{TellsTexts}
use Rattle.patches.specs.Filling.{Filling, Holey, filled}
use Rattle.patches.specs.Numbers.{settled}
use Rattle.unit_draft.specs.Whole.{told}
use Rattle.unit_draft.specs.World.{Stands}
use Rattle.unit_draft.proofs.Placing.{places_small}
use Rattle.unit_draft.proofs.unit.draft_of.Goals as goal

pub settled_draft-requires-clause-small : goal.settled_draft-requires-clause-small
settled_draft-requires-clause-small g c =
    let number = c.requires.0 in
    let is = c.requires.1 in
    subst (λ (ps : List ℕ). All (λ place. place < 2 ^ 28) ps) (sym is.places) (places_small number (g.S.UnitSource.unit c.args.unit.now) is.short)

pub returns : goal.returns
returns g c = λ number is.
    let clone = g.S.UnitSource.unit c.args.unit.now in
    let whole = c.args.whole in
    let drafted = c.settled_draft.ensures in
    let settles = drafted.settled in
    let lines = c.in_ok-lines.ensures in
    let tells : (f : Filling) → settled f whole.len whole.places ≡ told number clone f = λ f. ap (λ (n : ℕ). settled f n whole.places) is.len ∙ ap (settled f _) is.places in
    record {
      info = λ w stands. settles.info w.filling ∙ ap (filled whole.drafting.info) (tells w.filling)
          ∙ is.info w c.settled_draft.result.line_names (subst (λ (texts : List (List ℕ)). Stands number clone texts c.settled_draft.result.line_names w) settles.names stands);
      size = λ f. ap length (settles.info f) ∙ is.size (settled f whole.len whole.places);
      settled = settles.own;
      version = drafted.version ∙ c.version.ensures;
      locations = settles.locations.1 ∙ ap (filled whole.drafting.locations) (tells settles.locations.0) ∙ is.locations settles.locations.0;
      ranges = settles.ranges ∙ is.ranges;
      lines = λ w stands. ap (λ (h : Holey). filled h w.filling) drafted.lines
          ∙ lines.table w.filling w.places.line_text (subst (λ (texts : List (List ℕ)). TellsTexts texts w.filling w.places.line_text) drafted.line_names stands.line_text);
      lines_size = λ f. ap (λ (h : Holey). length (filled h f)) drafted.lines ∙ lines.size f;
      lines_settled = ap (λ (h : Holey). h.own) drafted.lines ∙ lines.settled;
      line_names = drafted.line_names ∙ lines.names;
      table = drafted.table ∙ c.in_ok-table.ensures ∙ ap declarations_bytes is.declared;
      names = settles.names ∙ is.names;
      places = settles.places ∙ is.places;
      code = drafted.code ∙ c.in_ok-code.ensures ∙ c.ranges-2.ensures;
      len = settles.len ∙ is.len;
      short = is.short;
    }
