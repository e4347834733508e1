use Rattle.std.proofs.Common.{◌<◌, ◌∙◌, ◌++◌, ◌∷◌, [], ℕ, suc, List, All, append_assoc, ap, arith, length, subst, sym}
use Rattle.memchr.specs.Find.{is_byte}
use Rattle.memchr.proofs.lemmas.CallerLemmas.{All-places}
use Rattle.macho_read.proofs.ZeroPlaces.{zeros_are}
use Rattle.macho_read.proofs.ends.zeros_in.Goals as goal

pub loop-place-init : goal.loop-place-init
loop-place-init c =
    rw (c.into_iter-place-iterator.ensures.into_iter_gives, c.memchr_iter-place-items.ensures.value, c.new-zeros.ensures.items)
    (zeros_are c.args.strings.now, λ k d lt. (All-places (is_byte 0) c.args.strings.now k d lt).0)

pub loop-place-preserved : goal.loop-place-preserved
loop-place-preserved c =
    let left = c.in-Some.ensures.steps in
    let inside = subst (All (λ k. k < length c.args.strings.now)) left c.loop-place.invariant.1 in (
      ap (λ (zs : List ℕ). zs ++ c.next.new.self) c.in_ok-push.ensures.items
          ∙ append_assoc c.loop-place.zeros.items (c.in-Some.place ∷ []) c.next.new.self
          ∙ ap (λ (zs : List ℕ). c.loop-place.zeros.items ++ zs) (sym left)
          ∙ c.loop-place.invariant.0,
      λ k d lt. inside (suc k) d (omega (arith, lt)),
    )
