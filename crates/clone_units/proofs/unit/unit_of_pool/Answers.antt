use Rattle.std.proofs.Common.{List, Option, sym, subst}
use Rattle.dwarf_types.specs.declared.graph.Target.{Target}
use Rattle.clone_units.specs.Sourced.{ArePooled}
use Rattle.clone_units.proofs.Merged.{are_pooled, done}
use Rattle.clone_units.proofs.Rooted.{Reads}
use Rattle.clone_units.proofs.unit.unit_of_pool.Goals as goal

pub new-requires : goal.new-requires
new-requires c =
    let nodes = c.as_slice-2.result.now in
    let r : Reads c.args.shape.now c.args.unit nodes = record { unit = c.unit_in-pool.result.now; at = c.unit_in-pool.ensures; same = c.as_slice-2.ensures } in
    subst (λ (rows : List (List (Option Target))). ArePooled c.args.seen.now rows nodes) (sym c.as_slice.ensures) (are_pooled c.args.seen.now c.args.shape.now c.args.unit nodes c.requires.holds r c.requires.pool)

pub returns : goal.returns
returns c =
    let nodes = c.as_slice-2.result.now in
    let r : Reads c.args.shape.now c.args.unit nodes = record { unit = c.unit_in-pool.result.now; at = c.unit_in-pool.ensures; same = c.as_slice-2.ensures } in
    done c.args.seen.now c.args.shape.now c.args.unit nodes c.requires.holds r c.requires.pool c.as_slice.result.now c.in_ok-made.made c.as_slice.ensures c.in_ok-made.ensures
