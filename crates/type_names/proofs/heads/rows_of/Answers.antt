use Rattle.std.proofs.Common.{◌∙◌, Option, false, ap, sym, arith, length}
use Rattle.std.specs.Option.{option_map_or}
use Rattle.dwarf_types.specs.declared.entry.Entry.{Entry}
use Rattle.type_names.specs.Entries.{is_tied}
use Rattle.type_names.specs.HeadRows.{is_open_at, is_tied_at}
use Rattle.type_names.proofs.HeadTests.{open_more, parameters_more}
use Rattle.type_names.proofs.MarkRows.{row_more}
use Rattle.type_names.proofs.heads.rows_of.Goals as goal

pub loop-i-preserved : goal.loop-i-preserved
loop-i-preserved c =
    let entries = c.args.entries.now in
    let i = c.loop-i.i in
    let so_far = c.loop-i.invariant in
    let tied_is = c.is_tied-is_tied.ensures ∙ sym (ap (λ (e : Option Entry). option_map_or is_tied e false) c.entry-entry.ensures.stands) in
    let open_is = c.is_open-open.ensures ∙ open_more entries c.loop-i.namespaces i c.entry-entry.result c.requires.parents c.entry-entry.ensures.stands so_far.opens.each in
    record {
      ties = rw c.set_if.ensures (row_more (is_tied_at entries) (length entries) c.loop-i.tied i c.is_tied-is_tied.result so_far.ties (omega arith) tied_is);
      opens = rw c.set_if-in-loop-i.ensures (row_more (is_open_at entries) (length entries) c.loop-i.namespaces i c.is_open-open.result so_far.opens (omega arith) open_is);
      parameters = rw c.mark.ensures (parameters_more entries c.loop-i.template i c.entry-entry.result c.template_of.result c.requires.parents c.entry-entry.ensures.stands c.template_of.ensures so_far.parameters);
    }
