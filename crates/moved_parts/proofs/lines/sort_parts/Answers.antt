use Rattle.std.proofs.Common.{◌≡◌, rules}
use Rattle.std.proofs.lemmas.Fn.{always_returns_same}
use Rattle.moved_parts.specs.declared.lines.SequencePart.{SequencePart}
use Rattle.moved_parts.proofs.lines.sort_parts.Goals as goal

pub returns-clause-sorted : goal.returns-clause-sorted
returns-clause-sorted c = c.in_ok-sort_by_key.ensures.sorted (λ (p : SequencePart). (p.range.linked, p.range.start))
    (always_returns_same _ (λ a r. r ≡ (a.0.now.range.linked, a.0.now.range.start)) _ (λ a r q k. search rules))

pub returns-clause-stable : goal.returns-clause-stable
returns-clause-stable c = c.in_ok-sort_by_key.ensures.stable (λ (p : SequencePart). (p.range.linked, p.range.start))
    (always_returns_same _ (λ a r. r ≡ (a.0.now.range.linked, a.0.now.range.start)) _ (λ a r q k. search rules))
