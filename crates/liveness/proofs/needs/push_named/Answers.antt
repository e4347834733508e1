use Rattle.std.proofs.Common.{arith}
use Rattle.dwarf_types.specs.declared.entry.Attr.{Attr}
use Rattle.liveness.proofs.Naming.{named_by, one_more}
use Rattle.liveness.proofs.needs.push_named.Goals as goal

pub loop-j-preserved : goal.loop-j-preserved
loop-j-preserved c =
    one_more (λ (a : Attr). named_by a.name a.value) c.args.out.now.items c.loop-j.out.items c.push_named_at.new.out.items c.args.entry.now.attrs c.loop-j.j (omega arith) c.loop-j.invariant c.in_ok-push_named_at.ensures
