use Rattle.std.proofs.Common.{◌∙◌, sym}
use Rattle.indexmap.proofs.CallerLemmas.{insert_entry-new}
use Rattle.ds_base.specs.declared.text_key.TextKey.{TextKey}
use Rattle.ds_base.proofs.Lookups.{none_from}
use Rattle.ar_read.proofs.Table.{puts_last, puts_none}
use Rattle.ar_read.proofs.archive.put_behind.Goals as goal

pub returns-then-contains_key : goal.returns-then-contains_key
returns-then-contains_key c = puts_none c.args.contents.now c.args.name.now c.args.content.now (sym c.contains_key.ensures ∙ c.if-contains_key.true)

pub returns : goal.returns
returns c =
    let key : TextKey = record { text = c.args.name } in
    puts_last c.args.contents.now c.insert.new.self key c.args.content
    (c.in_ok-insert.ensures.entries ∙ insert_entry-new _ c.args.contents.now key c.args.content (none_from _ (sym c.contains_key.ensures ∙ c.if-contains_key.false)))
