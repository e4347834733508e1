use Rattle.std.proofs.Common.{◌+◌, ◌∙◌, ap, arith}
use Rattle.layout.specs.Pass.{in_five, in_others}
use Rattle.layout.proofs.GraphParts.{by_all}
use Rattle.layout.proofs.starts.behind.Goals as goal

pub returns-clause-is : goal.returns-clause-is
returns-clause-is c =
    let at = c.args.at in
    let version = c.args.draft.now.version in
    by_all _ _ _ _ _ _ _ _ _ _ _ _ _ _ (omega (arith, c.from.ensures)) (ap (λ n. at.tables + n) c.len.ensures) (ap (λ n. at.line + n) c.lines_len.ensures)
    (ap (λ n. at.ranges + n) (c.other_len.ensures ∙ ap (in_others version 0) c.len-ranges.ensures)) (ap (λ n. at.rnglists + n) (c.five_len.ensures ∙ ap (in_five version 0) c.len-ranges.ensures))
    (ap (λ n. at.loc + n) (c.other_len-2.ensures ∙ ap (in_others version 0) c.len-locations.ensures)) (ap (λ n. at.loclists + n) (c.five_len-2.ensures ∙ ap (in_five version 0) c.len-locations.ensures))
