use Rattle.std.proofs.Common.{◌≡◌, ◌+◌, ◌++◌, ◌∷◌, [], List, ℕ, length, subst, sym, ap, ◌∙◌, arith, length-append}
use Rattle.text_pool.specs.Named.{AreEnds, texts_from}
use Rattle.text_pool.proofs.Ends.{ends-push, texts-push}
use Rattle.text_pool.proofs.names.Names.push.Goals as goal

-- where the new text ends
longer : (bytes t more : List ℕ) (n : ℕ) → n ≡ length more → more ≡ bytes ++ t → n ≡ length bytes + length t
longer bytes t more n is grown = omega (arith, is, ap length grown, length-append bytes t)

grown_ends : (ends before after bytes t more : List ℕ) (n : ℕ) → AreEnds 0 ends (length bytes) → before ≡ ends → after ≡ before ++ n ∷ [] → n ≡ length more → more ≡ bytes ++ t → AreEnds 0 after (length more)
grown_ends ends before after bytes t more n are same pushed is grown =
    let end = longer bytes t more n is grown in
    subst (λ (len : ℕ). AreEnds 0 after len) is
    (subst (λ (es : List ℕ). AreEnds 0 es n) (ap (λ (es : List ℕ). es ++ n ∷ []) (sym same) ∙ sym pushed) (ends-push 0 ends (length bytes) n are (omega (arith, end))))

grown_texts : (ends before after bytes t more : List ℕ) (n : ℕ) → AreEnds 0 ends (length bytes) → before ≡ ends → after ≡ before ++ n ∷ [] → n ≡ length more → more ≡ bytes ++ t → texts_from 0 after more ≡ texts_from 0 ends bytes ++ t ∷ []
grown_texts ends before after bytes t more n are same pushed is grown =
    ap (λ (es : List ℕ). texts_from 0 es more) (pushed ∙ ap (λ (es : List ℕ). es ++ n ∷ []) same) ∙ ap (texts_from 0 (ends ++ n ∷ [])) grown ∙ texts-push 0 ends bytes t n are (longer bytes t more n is grown)

pub invariant_of-self-2 : goal.invariant_of-self-2
invariant_of-self-2 c =
    grown_ends c.self.inside.ends.items c.reserve.new.self.items _ c.self.inside.bytes.items c.args.text.now _ _ c.self.invariant c.reserve.ensures.items c.push_reserved.ensures.items (ap length c.as_slice.ensures.value) c.in_ok-extend_from_slice.ensures.items

pub returns-clause-ok : goal.returns-clause-ok
returns-clause-ok c =
    grown_texts c.self.inside.ends.items c.reserve.new.self.items _ c.self.inside.bytes.items c.args.text.now _ _ c.self.invariant c.reserve.ensures.items c.push_reserved.ensures.items (ap length c.as_slice.ensures.value) c.in_ok-extend_from_slice.ensures.items
    ∙ ap (λ (texts : List (List ℕ)). texts ++ c.args.text.now ∷ []) c.self.view_is
