use Rattle.std.proofs.Common.{◌∙◌, ap, subst, List, ℕ, Option}
use Rattle.type_names.specs.Entries.{Text}
use Rattle.type_names.specs.Onto.{Writes, onto, spelled_in}
use Rattle.type_names.proofs.Pooling.{onto_empty}
use Rattle.type_names.proofs.pooled.spell.Goals as goal

pub returns : goal.returns
returns c =
    let text : Option Text = spelled_in c.args.types.now 64 c.args.k in
    c.told.ensures c.write_type.new.out.items _ (subst (Writes c.write_type.result c.write_type.new.out.items) (ap (λ (out : List ℕ). onto out text) c.requires.empty ∙ onto_empty text) c.write_type.ensures)
