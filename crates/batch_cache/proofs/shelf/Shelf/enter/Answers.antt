use Rattle.std.proofs.Common.{◌≡◌, None, List, rules, subst}
use Rattle.std.specs.List.{All}
use Rattle.batch_cache.specs.declared.kept.Kept.{Kept}
use Rattle.batch_cache.specs.Shelves.{IsOther, Key, asked_key, key_of}
use Rattle.batch_cache.proofs.Apart.{end_apart, end_other}
use Rattle.batch_cache.proofs.shelf.Shelf.enter.Goals as goal

pub put-requires-clause-other : goal.put-requires-clause-other
put-requires-clause-other c =
    let none : c.find.result ≡ None = search rules in
    let shelf = c.args.self.now.kept.items in
    let others : All (IsOther (asked_key c.asked.result)) c.as_slice.result.now = c.find.ensures.none none in
    let kept : All (IsOther (asked_key c.asked.result)) c.args.self.now.kept.items = subst (λ (all : List Kept). All (IsOther (asked_key c.asked.result)) all) c.as_slice.ensures.value others in
    end_other shelf c.make_room.new.all.items c.make_room.ensures (key_of c.args.kept) (subst (λ (key : Key). All (IsOther key) c.args.self.now.kept.items) c.asked.ensures kept)

pub put-requires-clause-apart : goal.put-requires-clause-apart
put-requires-clause-apart c = end_apart c.args.self.now.kept.items c.make_room.new.all.items c.make_room.ensures c.args.self.now.apart
