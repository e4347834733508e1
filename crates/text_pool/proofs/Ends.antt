-- Texts one behind the other, by their ends.
use Rattle.std.proofs.Common.{◌≡◌, ℕ, zero, suc, ◌+◌, ◌-◌, ◌<◌, ◌≤◌, List, [], ◌∷◌, ◌++◌, length, take, drop, get_or, slice_get, None, Some, refl, sym, ap, ◌∙◌, arith}
use Rattle.std.proofs.lemmas.List.{drop-append-le, drop_at, length-drop, take-append-le, take_all}
use Rattle.std.proofs.lemmas.Option.{same_Some}
use Rattle.text_pool.specs.Named.{AreEnds, start_of, texts_from}

pub length-texts_from : (start : ℕ) (ends bytes : List ℕ) → length (texts_from start ends bytes) ≡ length ends
length-texts_from start [] bytes = refl
length-texts_from start (end ∷ ends) bytes = ap (λ (n : ℕ). suc n) (length-texts_from end ends bytes)

start_within : (start : ℕ) (ends : List ℕ) (len : ℕ) → AreEnds start ends len → start ≤ len
start_within start [] len are = omega (arith, are)
start_within start (end ∷ ends) len are = omega (arith, are.0, start_within end ends len are.1)

-- ---- one more text

pub ends-push : (start : ℕ) (ends : List ℕ) (len n : ℕ) → AreEnds start ends len → len ≤ n → AreEnds start (ends ++ n ∷ []) n
ends-push start [] len n are le = (omega (arith, are, le), refl)
ends-push start (end ∷ ends) len n are le = (are.0, ends-push end ends len n are.1 le)

pub texts-push : (start : ℕ) (ends bytes t : List ℕ) (n : ℕ) → AreEnds start ends (length bytes) → n ≡ length bytes + length t → texts_from start (ends ++ n ∷ []) (bytes ++ t) ≡ texts_from start ends bytes ++ t ∷ []
texts-push start [] bytes t n are is =
    let all : take (n - start) (drop start (bytes ++ t)) ≡ t = ap (take (n - start)) (drop_at bytes t start (sym are)) ∙ take_all (n - start) t (omega (arith, are, is)) in
    ap (λ (text : List ℕ). text ∷ []) all
texts-push start (end ∷ ends) bytes t n are is =
    let within = start_within end ends (length bytes) are.1 in
    let first : take (end - start) (drop start (bytes ++ t)) ≡ take (end - start) (drop start bytes) =
    ap (take (end - start)) (drop-append-le start bytes t (omega (arith, are.0, within))) ∙ take-append-le (end - start) (drop start bytes) t (omega (arith, length-drop start bytes, are.0, within)) in
    ap (λ (text : List ℕ). text ∷ texts_from end (ends ++ n ∷ []) (bytes ++ t)) first ∙ ap (λ (texts : List (List ℕ)). take (end - start) (drop start bytes) ∷ texts) (texts-push end ends bytes t n are.1 is)

-- ---- the text of a number

pub text_at : (start : ℕ) (ends bytes : List ℕ) (k end : ℕ) → slice_get ends k ≡ Some end → slice_get (texts_from start ends bytes) k ≡ Some (take (end - start_of start ends k) (drop (start_of start ends k) bytes))
text_at start [] bytes k end at = cc
text_at start (e ∷ ends) bytes zero end at = ap (λ (n : ℕ). Some (take (n - start) (drop start bytes))) (same_Some _ _ at)
text_at start (e ∷ ends) bytes (suc k) end at = text_at e ends bytes k end at

pub start_before : (start : ℕ) (ends : List ℕ) (len k end : ℕ) → AreEnds start ends len → slice_get ends k ≡ Some end → (start_of start ends k ≤ end) × (end ≤ len)
start_before start [] len k end are at = cc
start_before start (e ∷ ends) len zero end are at =
    let is : e ≡ end = same_Some _ _ at in
    let within = start_within e ends len are.1 in
    (omega (arith, is, are.0), omega (arith, is, within))
start_before start (e ∷ ends) len (suc k) end are at = start_before e ends len k end are.1 at

pub start_is : (start : ℕ) (ends : List ℕ) (k d : ℕ) → k < length ends → get_or ends k d ≡ start_of start ends (suc k)
start_is start [] k d lt = absurd (omega (arith, lt))
start_is start (e ∷ ends) zero d lt = refl
start_is start (e ∷ ends) (suc k) d lt = start_is e ends k d (omega (arith, lt))

pub text_behind : (start : ℕ) (ends bytes : List ℕ) (k : ℕ) → slice_get ends k ≡ None → slice_get (texts_from start ends bytes) k ≡ None
text_behind start [] bytes k none = refl
text_behind start (e ∷ ends) bytes zero none = absurd cc
text_behind start (e ∷ ends) bytes (suc k) none = text_behind e ends bytes k none
