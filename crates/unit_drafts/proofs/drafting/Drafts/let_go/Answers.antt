use Rattle.std.proofs.Common.{length, refl, sym, ap, subst, arith}
use Rattle.unit_drafts.specs.Drafting.{AreLeft}
use Rattle.unit_drafts.proofs.Batching.{drafting_done}
use Rattle.object_reads.proofs.Holding.{lent_all}
use Rattle.unit_drafts.proofs.drafting.Drafts.let_go.Goals as goal

pub returns-clause-drafting : goal.returns-clause-drafting
returns-clause-drafting c =
    let it = c.args.self.now in
    let value = c.as_mut_slice.ensures.value in
    let same = lent_all c.drop_analyses.new.left it.left (omega (arith, c.drop_analyses.auto.left, ap length value)) in
    λ seen shape are all.
    let gone : AreLeft c.len-all.result seen c.drop_analyses.new.left = c.drop_analyses.ensures seen (subst (AreLeft it.dropped seen) (sym value) are.left) in
    let left = subst (λ n. AreLeft n seen c.drop_analyses.new.left) c.len-all.ensures gone in
    drafting_done seen shape it _ are all refl c.len-all.ensures (omega (arith, ap length same, c.drop_analyses.auto.left, ap length value)) (subst (AreLeft (length it.left) seen) (sym same) left)
