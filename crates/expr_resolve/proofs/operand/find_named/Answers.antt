use Rattle.std.proofs.Common.{◌∙◌, sym, ap}
use Rattle.std.specs.Option.{option_map}
use Rattle.dwarf_types.specs.declared.expr.Base.TheVariants as bases
use Rattle.expr_resolve.proofs.Bases.{told_by_entry}
use Rattle.expr_resolve.proofs.operand.find_named.Goals as goal

pub returns-in-Some : goal.returns-in-Some
returns-in-Some c =
    let found = rw (c.from.ensures, c.from-in-Entry.ensures) at c.find_base.ensures in
    rw c.in-Entry.is (sym (told_by_entry _ ∙ ap (option_map (λ n. bases.Entry n)) (sym found ∙ c.in-Some.is)))
