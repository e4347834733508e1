use Rattle.std.proofs.Common.{ap, ◌∙◌}
use Rattle.ds_base.specs.declared.text_key.TextKey.{TextKey}
use Rattle.text_pool.specs.Kept.{texts_of}
use Rattle.text_pool.proofs.Keys.{text_found, texts_of-insert}
use Rattle.text_pool.proofs.naming.keep.Goals as goal

pub returns-then-not-is_new-clause-grown : goal.returns-then-not-is_new-clause-grown
returns-then-not-is_new-clause-grown c =
    let key : TextKey = record { text = c.args.text } in
    ap texts_of c.in_ok-number.ensures.keys ∙ texts_of-insert c.args.texts.now.keys key

pub returns-then-not-is_new-clause-number : goal.returns-then-not-is_new-clause-number
returns-then-not-is_new-clause-number c =
    let key : TextKey = record { text = c.args.text } in
    let stored = c.in_ok-number.ensures.stored in
    text_found c.insert_full.new.self.keys key stored.0 c.in_ok-number.number stored.1 stored.2

pub returns-clause-grown : goal.returns-clause-grown
returns-clause-grown c =
    let key : TextKey = record { text = c.args.text } in
    ap texts_of c.in_ok-number.ensures.keys ∙ texts_of-insert c.args.texts.now.keys key

pub returns-clause-number : goal.returns-clause-number
returns-clause-number c =
    let key : TextKey = record { text = c.args.text } in
    let stored = c.in_ok-number.ensures.stored in
    text_found c.insert_full.new.self.keys key stored.0 c.in_ok-number.number stored.1 stored.2
