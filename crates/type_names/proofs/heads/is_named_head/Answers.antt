use Rattle.std.proofs.Common.{◌∙◌, Option, false, sym, ap}
use Rattle.std.specs.Option.{option_map_or}
use Rattle.dwarf_types.specs.declared.entry.Entry.{Entry}
use Rattle.type_names.specs.Entries.{is_type, name_of}
use Rattle.type_names.specs.Heads.{Object, is_clean, is_named_head, is_named_head_entry, is_reached, takes_part, tells}
use Rattle.type_names.specs.Objects.{object_of}
use Rattle.type_names.proofs.Orders.{none_left, third_left}
use Rattle.type_names.proofs.heads.is_named_head.Goals as goal

pub returns-then-may_be_named_head : goal.returns-then-may_be_named_head
unfolding is_named_head
returns-then-may_be_named_head c =
    let o : Object = object_of c.args.seen.now c.args.live.now in
    let k = c.args.k in
    let e = c.entry-entry.result in
    c.is_told.ensures
    ∙ third_left (is_type e.tag) (takes_part o k e) (option_map_or (tells o k) (name_of e) false) (is_reached c.args.seen.now.entries k e) (is_clean o k) (sym c.may_be_named_head.ensures ∙ c.if-may_be_named_head.true)
    ∙ sym (ap (λ (x : Option Entry). option_map_or (is_named_head_entry o k) x false) c.entry-entry.ensures.stands)

pub returns : goal.returns
unfolding is_named_head
returns c =
    let o : Object = object_of c.args.seen.now c.args.live.now in
    let k = c.args.k in
    let e = c.entry-entry.result in
    none_left (is_type e.tag) (takes_part o k e) (option_map_or (tells o k) (name_of e) false) (is_reached c.args.seen.now.entries k e) (is_clean o k) (sym c.may_be_named_head.ensures ∙ c.if-may_be_named_head.false)
    ∙ sym (ap (λ (x : Option Entry). option_map_or (is_named_head_entry o k) x false) c.entry-entry.ensures.stands)
