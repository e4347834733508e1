use Rattle.std.proofs.Common.{◌+◌, List, drop, map, subst, sym}
use Rattle.std.proofs.lemmas.List.{drop_all}
use Rattle.ds_base.proofs.Walking.{drop_one}
use Rattle.unit_source.specs.declared.given.OutAttrRef.{OutAttrRef}
use Rattle.unit_source.specs.Given.{attr_given}
use Rattle.unit_draft.specs.Appends.{AppendsValues}
use Rattle.unit_draft.proofs.Appending.{appends_none, values_cons}
use Rattle.unit_draft.proofs.values.append_values.Goals as goal

pub loop-attr-preserved : goal.loop-attr-preserved
loop-attr-preserved c = λ new rest.
    let attrs = c.args.attrs.now in
    let i = c.loop-attr.attr-index in
    let attr = c.attr-item.result in
    let one = values_cons c.args.number c.args.version c.loop-attr.drafting c.append_value.new.drafting new (attr_given attr) (map attr_given (drop (i + 1) attrs)) c.in_ok-append_value.ensures rest in
    c.loop-attr.invariant new (subst (λ (left : List OutAttrRef). AppendsValues c.args.number c.args.version c.loop-attr.drafting new (map attr_given left)) (sym (drop_one attrs i attr c.loop-attr-test.true c.attr-item.is)) one)

pub returns : goal.returns
returns c =
    let d = c.loop-attr.drafting in
    c.loop-attr.invariant d
    (subst (λ (left : List OutAttrRef). AppendsValues c.args.number c.args.version d d (map attr_given left)) (sym (drop_all c.loop-attr.attr-index c.args.attrs.now c.loop-attr-test.false)) (appends_none c.args.number c.args.version d))
