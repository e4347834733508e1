use Rattle.std.proofs.Common.{◌≡◌, ◌<◌, length, arith, take, ◌∙◌}
use Rattle.std.proofs.lemmas.List.{take_all, take_more}
use Rattle.dwarf_types.specs.Cells.{item_of, ItemWithin}
use Rattle.dwarf_types.specs.Seen.{location_seen}
use Rattle.dwarf_types.proofs.Growing.{item_column, as_many, as_many_on, grows_on, rows_more, rows_none, rows_run}
use Rattle.dwarf_types.proofs.Kept.{items_kept, items_within}
use Rattle.dwarf_types.proofs.sides.Sides.store_items.Goals as goal

pub loop-k-init : goal.loop-k-init
loop-k-init c = (as_many c.args.self.now, rows_none item_column item_of ItemWithin c.args.self.now)

pub returns-in_err-store_item-clause-grows : goal.returns-in_err-store_item-clause-grows
returns-in_err-store_item-clause-grows c = grows_on _ _ _ c.loop-k.invariant.1.grows c.store_item.ensures.grows

pub loop-k-preserved : goal.loop-k-preserved
loop-k-preserved c =
    let lt : c.loop-k.k < length c.args.items.now = omega arith in
    let row = c.in_ok-store_item.ensures.row in
    let more = rows_more item_column item_of ItemWithin items_kept items_within c.args.self.now c.loop-k.self c.store_item.new.self (take c.loop-k.k c.args.items.now) (location_seen c.item.result) row.0 c.loop-k.invariant.1 c.store_item.ensures.grows row.1 row.2 row.3 in
    (as_many_on c.args.self.now c.loop-k.self c.store_item.new.self c.loop-k.invariant.0 c.store_item.ensures.few, rw (take_more c.args.items.now c.loop-k.k (location_seen c.item.result) lt, ← c.item.ensures) more)

pub returns-clause-rows : goal.returns-clause-rows
returns-clause-rows c =
    let from : c.len-from.result ≡ length c.args.self.now.items.items = omega arith in
    let to : c.len-to.result ≡ length c.loop-k.self.items.items = omega arith in
    let whole : take c.loop-k.k c.args.items.now ≡ c.args.items.now = take_all c.loop-k.k c.args.items.now (omega arith) in
    let all = rows_run item_column item_of ItemWithin c.args.self.now c.loop-k.self (take c.loop-k.k c.args.items.now) (record { from = c.len-from.result; to = c.len-to.result }) c.loop-k.invariant.1 from to in
    (all.0, all.1 ∙ whole, all.2)

pub returns-in_err-store_item-clause-few : goal.returns-in_err-store_item-clause-few
returns-in_err-store_item-clause-few c = as_many_on c.args.self.now c.loop-k.self c.store_item.new.self c.loop-k.invariant.0 c.store_item.ensures.few

pub returns-clause-few : goal.returns-clause-few
returns-clause-few c = c.loop-k.invariant.0
