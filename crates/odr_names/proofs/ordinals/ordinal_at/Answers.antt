use Rattle.std.proofs.Common.{◌≡◌, ◌∙◌, true, false, sym, ap}
use Rattle.odr_names.specs.Twins.{tell_alone}
use Rattle.type_names.specs.Heads.{Object}
use Rattle.type_names.specs.Objects.{object_of}
use Rattle.type_names.specs.Paths.{is_told_by_parts}
use Rattle.odr_names.proofs.Closed.{ordinal_told, ordinal_untold, ordinal_wanted, told_alone}
use Rattle.odr_names.proofs.ordinals.ordinal_at.Goals as goal

pub returns-then-tell_alone : goal.returns-then-tell_alone
returns-then-tell_alone c = λ e at. (
    let o : Object = object_of c.args.seen.now c.args.live.now in
    let k = c.args.k in
    let told : is_told_by_parts o k e ≡ true = sym (told_alone c.args.object o k e at) ∙ sym (ap tell_alone (c.requires.parts e at)) ∙ sym c.tell_alone.ensures ∙ c.if-tell_alone.true in
    ordinal_told c.args.object o k e told)

pub returns : goal.returns
returns c = λ e at. (
    let n = c.args.object in
    let o : Object = object_of c.args.seen.now c.args.live.now in
    let k = c.args.k in
    let untold : is_told_by_parts o k e ≡ false = sym (told_alone n o k e at) ∙ sym (ap tell_alone (c.requires.parts e at)) ∙ sym c.tell_alone.ensures ∙ c.if-tell_alone.false in
    c.requires.counts k c.requires.place (ordinal_wanted n o k e c.requires.parents at c.requires.pooled untold) ∙ ordinal_untold n o k e at untold)
