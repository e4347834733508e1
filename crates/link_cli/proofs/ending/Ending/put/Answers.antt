use Rattle.std.proofs.Common.{sym, ◌∙◌}
use Rattle.link_cli.proofs.Telling.{not_told, nothing_told, told}
use Rattle.link_cli.proofs.ending.Ending.put.Goals as goal

pub returns-then-is_empty : goal.returns-then-is_empty
returns-then-is_empty g c = nothing_told c.args.self _ (sym c.is_empty.ensures ∙ c.if-is_empty.true)

pub returns-in-Ok : goal.returns-in-Ok
returns-in-Ok g c =
    told c.args.self (sym c.is_empty.ensures ∙ c.if-is_empty.false) _ c.as_slice.ensures (g.S.Sink.text c.args.messages.now) (g.S.Sink.text c.put.new.self) _ _ (g.S.Sink.calls c.args.messages.now) (g.S.Sink.calls c.put.new.self)
    c.in-Ok.ensures.called c.in-Ok.ensures.done c.in-Ok.ensures.quiet

pub returns : goal.returns
returns g c =
    not_told c.args.self (sym c.is_empty.ensures ∙ c.if-is_empty.false) _ c.as_slice.ensures (g.S.Sink.text c.args.messages.now) (g.S.Sink.text c.put.new.self) _ _ (g.S.Sink.calls c.args.messages.now) (g.S.Sink.calls c.put.new.self)
    c.in-Err.ensures.called c.in-Err.ensures.failed.0 c.in-Err.ensures.failed.1
