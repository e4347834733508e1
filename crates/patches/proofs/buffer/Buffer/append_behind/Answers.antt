use Rattle.std.proofs.Common.{◌≡◌, ◌≤◌, ◌+◌, ◌++◌, ◌∙◌, ℕ, List, All, length, map, ap, sym, subst, arith, length-append}
use Rattle.patches.specs.declared.hole.OwnPatch.{OwnPatch}
use Rattle.patches.specs.declared.hole.OuterPatch.{OuterPatch}
use Rattle.patches.specs.Filling.{own_behind, outer_behind}
use Rattle.patches.proofs.Fills.{at_own, at_outer, filled-behind, holey, in_longer, in_behind}
use Rattle.patches.proofs.buffer.Buffer.append_behind.Goals as goal

-- where the bytes end that were put last
ends : (was more slice whole : List ℕ) (base end : ℕ) → base ≡ length was → slice ≡ more → whole ≡ was ++ slice → end ≡ length whole → base + length more ≡ end
ends was more slice whole base end a same is b = omega (arith, a, b, ap length same, ap length is, length-append was slice)

starts : (was front slice first whole : List ℕ) (end : ℕ) → first ≡ was ++ front → whole ≡ first ++ slice → end ≡ length whole → length was ≤ end
starts was front slice first whole end one two b = omega (arith, b, ap length one, ap length two, length-append was front, length-append first slice)

pub push_own-requires-clause-within : goal.push_own-requires-clause-within
push_own-requires-clause-within c =
    let end = ends _ _ _ _ _ _ (c.len-base.ensures ∙ c.extend_from_slice.new.self.ok.0) c.as_slice.ensures.value c.in_ok-extend_from_slice-2.ensures.items (c.len-end.ensures ∙ c.extend_from_slice-2.new.self.ok.0) in
    subst (λ (ps : List OwnPatch). All (λ p. c.len-base.result + p.at + 4 ≤ c.len-end.result) ps) (sym c.as_slice-2.ensures.value)
    (in_behind at_own c.other.inside.own.items (length c.other.inside.bytes.items) c.len-end.result c.other.invariant.own c.len-base.result (omega (arith, end)))

pub push_outer-requires-clause-within : goal.push_outer-requires-clause-within
push_outer-requires-clause-within c =
    let end = ends _ _ _ _ _ _ (c.len-base.ensures ∙ c.extend_from_slice.new.self.ok.0) c.as_slice.ensures.value c.in_ok-extend_from_slice-2.ensures.items (c.len-end.ensures ∙ c.extend_from_slice-2.new.self.ok.0) in
    subst (λ (ps : List OuterPatch). All (λ p. c.len-base.result + p.at + 4 ≤ c.len-end.result) ps) (sym c.as_slice-3.ensures.value)
    (in_behind at_outer c.other.inside.outer.items (length c.other.inside.bytes.items) c.len-end.result c.other.invariant.outer c.len-base.result (omega (arith, end)))

pub invariant_of-self-in_err-extend_from_slice-2 : goal.invariant_of-self-in_err-extend_from_slice-2
invariant_of-self-in_err-extend_from_slice-2 c = absurd (omega (arith, c.in_err-extend_from_slice-2.ensures.full, c.in_ok-reserve-3.ensures.ok, c.extend_from_slice.ensures.capacity, c.in_ok-extend_from_slice.ensures.len, c.len-3.ensures, c.as_slice.ensures.len))

pub returns-in_err-extend_from_slice-2-clause-unchanged : goal.returns-in_err-extend_from_slice-2-clause-unchanged
returns-in_err-extend_from_slice-2-clause-unchanged c = absurd (omega (arith, c.in_err-extend_from_slice-2.ensures.full, c.in_ok-reserve-3.ensures.ok, c.extend_from_slice.ensures.capacity, c.in_ok-extend_from_slice.ensures.len, c.len-3.ensures, c.as_slice.ensures.len))

pub invariant_of-self-2 : goal.invariant_of-self-2
invariant_of-self-2 c =
    let end = c.len-end.ensures ∙ c.extend_from_slice-2.new.self.ok.0 in
    let front = c.in_ok-extend_from_slice.ensures.items ∙ ap (λ (bs : List ℕ). bs ++ c.args.front.now) c.reserve-3.ensures.items in
    let le = starts _ _ _ _ _ _ front c.in_ok-extend_from_slice-2.ensures.items end in
    let owns = subst (λ (ps : List OwnPatch). All (λ p. p.at + 4 ≤ c.len-end.result) ps) (sym c.reserve.ensures.items) (in_longer at_own _ _ c.len-end.result c.self.invariant.own le) in
    let outers = subst (λ (ps : List OuterPatch). All (λ p. p.at + 4 ≤ c.len-end.result) ps) (sym c.reserve-2.ensures.items) (in_longer at_outer _ _ c.len-end.result c.self.invariant.outer le) in
    record {
      own = in_longer at_own _ c.len-end.result _ (c.push_own.ensures.inside owns) (omega (arith, end));
      outer = in_longer at_outer _ c.len-end.result _ (c.push_outer.ensures.inside outers) (omega (arith, end));
    }

pub returns-clause-ok : goal.returns-clause-ok
returns-clause-ok c = λ f.
    let bytes = c.self.inside.bytes.items in
    let own = c.self.inside.own.items in
    let outer = c.self.inside.outer.items in
    let more = c.other.inside in
    let front = c.in_ok-extend_from_slice.ensures.items ∙ ap (λ (bs : List ℕ). bs ++ c.args.front.now) c.reserve-3.ensures.items in
    let base = c.len-base.ensures ∙ c.extend_from_slice.new.self.ok.0 ∙ ap length front in
    let now = c.in_ok-extend_from_slice-2.ensures.items ∙ ap (λ (bs : List ℕ). bs ++ c.as_slice.result.now) front ∙ ap (λ (bs : List ℕ). (bytes ++ c.args.front.now) ++ bs) c.as_slice.ensures.value in
    let n = length (bytes ++ c.args.front.now) in
    let owns = c.push_own.ensures.pushed ∙ ap (λ (ps : List OwnPatch). ps ++ map (own_behind c.len-base.result) c.as_slice-2.result.now) c.reserve.ensures.items
    ∙ ap (λ (m : ℕ). own ++ map (own_behind m) c.as_slice-2.result.now) base ∙ ap (λ (ps : List OwnPatch). own ++ map (own_behind n) ps) c.as_slice-2.ensures.value in
    let outers = c.push_outer.ensures.pushed ∙ ap (λ (ps : List OuterPatch). ps ++ map (outer_behind c.len-base.result) c.as_slice-3.result.now) c.reserve-2.ensures.items
    ∙ ap (λ (m : ℕ). outer ++ map (outer_behind m) c.as_slice-3.result.now) base ∙ ap (λ (ps : List OuterPatch). outer ++ map (outer_behind n) ps) c.as_slice-3.ensures.value in
    rw (now, owns, outers, ← c.self.view_is, ← c.other.view_is) (filled-behind bytes own outer c.self.invariant c.args.front.now (holey more.bytes.items more.own.items more.outer.items) f)
