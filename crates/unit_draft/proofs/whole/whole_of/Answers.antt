use Rattle.std.proofs.Common.{◌++◌, List, ℕ, sym, ap, ◌∙◌, arith}
use Rattle.std.proofs.lemmas.Result.{err_from_is_err_and}
use Rattle.dwarf_types.specs.Entries.{entries_of}
use Rattle.unit_draft.specs.declared.whole.Whole.{Whole}
use Rattle.unit_draft.specs.Appends.{len_of, nowhere, places_from}
use Rattle.unit_draft.proofs.Entire.{final_info, final_len, final_locations, final_names, final_ranges, places_are, refuses_on, start_len}
use Rattle.unit_draft.proofs.Stretching.{appended_all, placed_all}
use Rattle.unit_draft.proofs.whole.whole_of.Goals as goal

pub returns-in_err-len-clause-long : goal.returns-in_err-len-clause-long
returns-in_err-len-clause-long c = λ number unit is.
    let p = err_from_is_err_and c.from_residual.result c.from_residual.ensures.1 in
    let start = is.start.drafting in
    let final = c.args.appender.drafting in
    let none = is.begun in
    let h = appended_all number unit.version start final is.start.places c.args.appender.places (entries_of number unit) is.entries in
    rw (p.1, p.2) (refuses_on ℕ Whole _ _ _ (final_len number unit start final none.header none.ranges none.locations none.names h) c.in_err-len.ensures.long)

pub returns-clause-whole : goal.returns-clause-whole
returns-clause-whole c = λ number unit is.
    let start = is.start.drafting in
    let final = c.args.appender.drafting in
    let none = is.begun in
    let entries = entries_of number unit in
    let h = appended_all number unit.version start final is.start.places c.args.appender.places entries is.entries in
    let place = start_len number unit start final none.header none.ranges none.locations none.names h in
    let end = c.in_ok-len.ensures.end in
    let len = sym (end nowhere) ∙ final_len number unit start final none.header none.ranges none.locations none.names h in
    record {
      info = final_info number unit start final none.header none.ranges none.locations none.names h;
      declared = is.table;
      size = λ f. end f ∙ len;
      locations = final_locations number unit start final none.header none.ranges none.locations none.names h;
      ranges = final_ranges number unit start final none.header none.ranges none.locations none.names h;
      names = final_names number unit start final none.header none.ranges none.locations none.names h;
      places =
          placed_all number unit.version start final is.start.places c.args.appender.places entries is.entries ∙ ap (λ (front : List ℕ). front ++ places_from (len_of start) entries) none.places
          ∙ ap (λ (n : ℕ). places_from n entries) place ∙ places_are number unit;
      len = len;
      short = omega (arith, len, c.in_ok-len.ensures.small);
    }
