use Rattle.std.proofs.Common.{◌≡◌, ◌++◌, ◌∙◌, ap, append-nil, append_assoc, subst, sym}
use Rattle.dwarf_types.specs.declared.entry.Attr.{Attr}
use Rattle.dwarf_types.specs.Seen.{attr_seen}
use Rattle.liveness.proofs.Naming.{named_by, plain_names, some_same}
use Rattle.liveness.proofs.needs.push_named_at.Goals as goal

pub returns-then-is_plain : goal.returns-then-is_plain
returns-then-is_plain c a is =
    let plain = sym (c.is_plain.ensures a is) ∙ c.if-is_plain.true in
    sym (ap (λ xs. c.args.out.now.items ++ xs) (plain_names a.name a.value plain) ∙ append-nil c.args.out.now.items)

pub returns : goal.returns
returns c a is =
    let same : attr_seen c.attr.result ≡ a = some_same _ _ (sym c.attr.ensures.stands ∙ is) in
    subst (λ (x : Attr). c.push_named_by.new.out.items ≡ c.args.out.now.items ++ named_by x.name x.value) same (c.in_ok-push_named_by.ensures ∙ append_assoc c.args.out.now.items _ _)
