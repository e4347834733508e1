use Rattle.std.proofs.Common.{◌≡◌, ◌∙◌, ◌+◌, ◌++◌, ◌∷◌, [], List, ap, arith, length, subst, sym, take}
use Rattle.std.proofs.lemmas.List.{take_more}
use Rattle.std.proofs.lemmas.List.Elements.{All-get_or}
use Rattle.name_bids.specs.declared.bidding.ObjectCells.{ObjectCells}
use Rattle.name_bids.specs.Noting.{AreJoined, IsWithin}
use Rattle.name_bids.proofs.NotedCells.{joined_more, joined_none}
use Rattle.name_bids.proofs.joining.joined_cells.Goals as goal

pub loop-i-init : goal.loop-i-init
loop-i-init c = (omega arith, joined_none (length c.args.names.now) c.in_ok-cells.cells.items (omega (arith, c.in_ok-cells.ensures.len, c.in_ok-cells.cells.ok, c.count.ensures)))

pub loop-i-preserved : goal.loop-i-preserved
loop-i-preserved c =
    let size = length c.args.names.now in
    let noted = c.args.noted.now in
    let i = c.loop-i.i in
    let own = c.index-noted-i.result in
    let within : IsWithin size own = subst (IsWithin size) (sym c.index-noted-i.is) (All-get_or (IsWithin size) noted i own (omega arith) c.requires) in
    let next : take (i + 1) noted ≡ take i noted ++ own ∷ [] = take_more noted i own (omega arith) ∙ ap (λ (o : ObjectCells). take i noted ++ o ∷ []) (sym c.index-noted-i.is) in
    let put_all : AreJoined size (take i noted ++ own ∷ []) c.put_cells.new.cells.items = rw c.put_cells.ensures (joined_more size (take i noted) c.loop-i.cells.items own within c.loop-i.invariant.1) in
    (omega arith, subst (λ (front : List ObjectCells). AreJoined size front c.put_cells.new.cells.items) (sym next) put_all)
