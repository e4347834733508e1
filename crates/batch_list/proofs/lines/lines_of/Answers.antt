use Rattle.std.proofs.Common.{rules, tests, subst}
use Rattle.std.specs.Prelude.{IfOk, ◌≡◌, map, Result, List, ℕ}
use Rattle.std.specs.List.{slice_split}
use Rattle.std.proofs.lemmas.Iterator.Consumers.{map_from_collect}
use Rattle.std.proofs.lemmas.Iterator.Splits.{YieldsList-from_slice_split}
use Rattle.batch_list.specs.Lines.{is_newline}
use Rattle.batch_list.proofs.lines.lines_of.Goals as goal

pub returns : goal.returns
returns c =
    let all = map_from_collect _ c.collect.ensures.ran (YieldsList-from_slice_split _ is_newline c.args.list.now c.split.ensures.rest c.split.ensures.done c.split.ensures.closure (λ x r q k. search (rules, tests))) in
    let is = c.in_ok-collect.was in
    search rules
