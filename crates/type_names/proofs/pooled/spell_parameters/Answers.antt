use Rattle.std.proofs.Common.{◌∙◌, ap, subst, true, List, ℕ, Option}
use Rattle.std.specs.Option.{option_and_then}
use Rattle.type_names.specs.Entries.{Text}
use Rattle.type_names.specs.Onto.{Writes, may_open, onto, spelled_in}
use Rattle.type_names.specs.Spell.{not_too_long, parameters_in}
use Rattle.type_names.proofs.Pooling.{onto_empty, spelled_agree}
use Rattle.type_names.proofs.pooled.spell_parameters.Goals as goal

pub returns : goal.returns
returns c =
    let entries = c.args.types.now.entries.now in
    let text : Option Text = parameters_in (spelled_in c.args.types.now 64) entries c.args.k in
    let same = spelled_agree 64 (may_open c.args.types.now) (λ _. true) entries (λ k within. c.requires.all k) in
    c.told.ensures c.write_parameters.new.out.items _ (subst (Writes c.write_parameters.result c.write_parameters.new.out.items)
    (ap (λ (out : List ℕ). onto out text) c.requires.empty ∙ onto_empty text ∙ ap (λ (spelled : ℕ → Option Text). option_and_then not_too_long (parameters_in spelled entries c.args.k)) same) c.write_parameters.ensures)
