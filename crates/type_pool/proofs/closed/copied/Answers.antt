use Rattle.std.proofs.Common.{◌≡◌, ℕ, ◌<◌, length, get_or, set, sym, ◌∙◌, arith, length-set, get_or-set_other, get_or-set_same, subst}
use Rattle.std.proofs.lemmas.List.{ext_get_or}
use mathlib.Core.Logic.{dite}
use native.Mathlib.Decide.{ℕ_discrete}
use Rattle.std.specs.Mem.Slots.{slots_counts, slots_items}
use Rattle.type_pool.proofs.closed.copied.Goals as goal
use Rattle.type_pool.proofs.Bounds.{read_at}

pub loop-i-preserved : goal.loop-i-preserved
loop-i-preserved c =
    let to = c.loop-i.to.items in
    let i = c.loop-i.i in
    let words = slots_items c.args.closed.now.words in
    let within : i < length to = omega (arith, c.loop-i.invariant.len) in
    let read = read_at words i c.word.result c.word.ensures in
    record {
      len = length-set to i c.word.result ∙ c.loop-i.invariant.len;
      words = λ k before. dite (ℕ_discrete k i)
          (λ last. subst (λ (x : ℕ). get_or (set to i c.word.result) x 0 ≡ get_or words x 0) (sym last) (get_or-set_same to i c.word.result 0 within ∙ sym read))
          (λ off. get_or-set_other to i k c.word.result 0 off ∙ c.loop-i.invariant.words k (omega arith));
    }

pub returns : goal.returns
returns c =
    let to = c.loop-i.to.items in
    let words = slots_items c.args.closed.now.words in
    let counted = (slots_counts c.args.closed.now.words).0 in
    let same : length to ≡ length words = c.loop-i.invariant.len ∙ sym c.requires.0 ∙ counted in
    ext_get_or 0 to words same (λ k inside. c.loop-i.invariant.words k (omega (arith, c.loop-i-test.false, c.loop-i.invariant.len)))
