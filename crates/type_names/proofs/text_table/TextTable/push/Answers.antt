use Rattle.std.proofs.Common.{◌≡◌, ◌++◌, ◌∷◌, ◌∙◌, Bool, [], None, Some, arith, ap, sym}
use Rattle.std.specs.Prelude.{if◌then◌else◌}
use Rattle.type_names.proofs.TextRows.{Pushed, held_then, pushed, view_then}
use Rattle.type_names.proofs.text_table.TextTable.push.Goals as goal

became : (c : goal.After-push_reserved-2) → Pushed c.self.inside.bytes.items c.args.text.now c.extend_from_slice.new.self.items c.self.inside.ends.items c.push_reserved.new.self.items c.self.inside.numbers.items c.push_reserved-2.new.self.items
became c =
    pushed c.self.inside.bytes.items c.args.text.now c.extend_from_slice.new.self.items c.self.inside.ends.items c.reserve.new.self.items c.push_reserved.new.self.items c.self.inside.numbers.items c.reserve-2.new.self.items c.push_reserved-2.new.self.items c.len.result c.len-2.result
    c.in_ok-extend_from_slice.ensures.items c.reserve.ensures.items c.push_reserved.ensures.items (omega (arith, c.len.ensures)) c.reserve-2.ensures.items c.push_reserved-2.ensures.items (omega (arith, c.len-2.ensures))

pub invariant_of-self-2 : goal.invariant_of-self-2
invariant_of-self-2 c =
    held_then c.self.inside.bytes.items c.args.text.now c.extend_from_slice.new.self.items c.self.inside.ends.items c.push_reserved.new.self.items c.self.inside.numbers.items c.push_reserved-2.new.self.items c.self.invariant (became c)

pub returns : goal.returns
returns c =
    view_then c.self.inside.bytes.items c.args.text.now c.extend_from_slice.new.self.items c.self.inside.ends.items c.push_reserved.new.self.items c.self.inside.numbers.items c.push_reserved-2.new.self.items c.self.invariant (became c)
    ∙ (λ i. c.self.view_is i ++ there i ∷ []) where
      there : Some c.args.text.now ≡ if c.args.there then Some c.args.text.now else None
      there = ap (λ (b : Bool). if b then Some c.args.text.now else None) (sym c.if-not-there.false)
