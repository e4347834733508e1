use Rattle.dwarf_types.proofs.Kept.{others_kept}
use Rattle.dwarf_types.proofs.sides.Sides.store_over.Goals as goal

pub returns-in-Expr-clause-others : goal.returns-in-Expr-clause-others
returns-in-Expr-clause-others c = others_kept _ _ _ c.store_expr.ensures.grows

pub returns-in-Ranges-clause-others : goal.returns-in-Ranges-clause-others
returns-in-Ranges-clause-others c = others_kept _ _ _ c.store_ranges.ensures.grows

pub returns-in-Locations-clause-others : goal.returns-in-Locations-clause-others
returns-in-Locations-clause-others c = others_kept _ _ _ c.store_locations.ensures.grows
