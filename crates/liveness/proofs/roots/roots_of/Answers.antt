use Rattle.std.proofs.Common.{◌≡◌, ℕ, ◌+◌, ◌<◌, ◌↔◌, true, List, Vec, Global, arith, sym, ap, subst, ◌∙◌}
use Rattle.std.specs.List.{Contains}
use Rattle.std.proofs.lemmas.Bool.{both_ways}
use Rattle.dwarf_types.specs.Live.{IsInSubprogram, IsRoot}
use Rattle.liveness.proofs.Elements.{number_joins, number_stays_out}
use Rattle.liveness.proofs.RootTests.{is_root_is, root_within}
use Rattle.liveness.proofs.roots.roots_of.Goals.{then-is_root+in_ok-push, else-is_root}
use Rattle.liveness.proofs.roots.roots_of.Goals as goal

pub loop-i-preserved : goal.loop-i-preserved
loop-i-preserved c =
    let entries = c.args.entries.now in
    let marks = c.in_ok-inside.ensures.marks c.loop-i.i in
    let tells : (c.get.result ≡ true) ↔ IsInSubprogram entries c.loop-i.i = ((λ t. (marks.0 (sym c.get.ensures ∙ t)).1), (λ w. c.get.ensures ∙ marks.1 (omega (arith, c.loop-i-test.true, c.len-i-end.ensures), w))) in
    let is = is_root_is entries c.loop-i.i c.entry.result c.get.result c.entry.ensures.stands tells in
    let so_far : List ℕ → Type 0 = λ roots. (k : ℕ) → Contains roots k ↔ ((k < c.loop-i.i + 1) × IsRoot entries k) in
    elim c.if-is_root.branch [
      | then-is_root+in_ok-push w ↦ subst so_far (sym (ap (λ (v : Vec ℕ Global). v.items) w.roots-is ∙ w.in_ok-push.ensures.items)) (number_joins (IsRoot entries) c.loop-i.roots.items c.loop-i.i c.loop-i.invariant (is.0 (sym c.is_root.ensures ∙ w.if-is_root.true)))
      | else-is_root w ↦ subst so_far (sym (ap (λ (v : Vec ℕ Global). v.items) w.roots-is)) (number_stays_out (IsRoot entries) c.loop-i.roots.items c.loop-i.i c.loop-i.invariant (λ r. both_ways c.is_root.result w.if-is_root.false (c.is_root.ensures ∙ is.1 r)))
    ]

pub returns : goal.returns
returns c = λ k. (
  (λ w. ((c.loop-i.invariant k).0 w).1),
  (λ r. (let within : k < c.loop-i.i = omega (arith, root_within c.args.entries.now k r) in (c.loop-i.invariant k).1 (within, r))),
)
