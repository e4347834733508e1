use Rattle.std.proofs.Common.{◌∙◌, sym, ap}
use Rattle.std.specs.Option.{option_map}
use Rattle.expr_resolve.proofs.Bases.{of_the_unit, of_another_unit, of_no_unit}
use Rattle.expr_resolve.proofs.lookup.find_base.Goals as goal

pub returns-then-base-unit : goal.returns-then-base-unit
returns-then-base-unit c =
    sym (ap (option_map (λ b. b.entry)) (of_the_unit c.args.bases.now c.args.unit c.args.place c.in-Some.base c.requires (sym c.base_at.ensures ∙ c.in-Some.is) c.if-base-unit.true))

pub returns-else-base-unit : goal.returns-else-base-unit
returns-else-base-unit c =
    sym (ap (option_map (λ b. b.entry)) (of_another_unit c.args.bases.now c.args.unit c.args.place c.in-Some.base c.requires (sym c.base_at.ensures ∙ c.in-Some.is) c.if-base-unit.false))

pub returns-in_default : goal.returns-in_default
returns-in_default c =
    sym (ap (option_map (λ b. b.entry)) (of_no_unit c.args.bases.now c.args.unit c.args.place c.requires (sym c.base_at.ensures ∙ c.in_default.is)))
