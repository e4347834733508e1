use Rattle.std.proofs.Common.{◌≡◌, List, ℕ, sym, ◌∙◌, Result, Ok, Err}
use Rattle.std.specs.Result.{is_ok, MatchResult}
use Rattle.std.specs.Str.{IsUtf8, is_utf8}
use Rattle.std.proofs.lemmas.Str.{is_utf8-from_IsUtf8}
use Rattle.stab_map.proofs.Utf8.{is_utf8-no}
use Rattle.stab_map.proofs.pass.is_text.Goals as goal

text_by : {X Y : Type 0} (bytes : List ℕ) (r : Result X Y) (P : X → Type 0) (Q : Y → Type 0) → MatchResult r (λ x. P x × IsUtf8 bytes) (λ y. ¬ (IsUtf8 bytes) × Q y) → is_ok r ≡ is_utf8 bytes
text_by bytes (Ok x) P Q cases = sym (is_utf8-from_IsUtf8 bytes cases.1)
text_by bytes (Err y) P Q cases = sym (is_utf8-no bytes cases.0)

pub returns : goal.returns
returns c = c.is_ok.ensures.value ∙ text_by c.args.bytes.now c.from_utf8.result _ _ c.from_utf8.ensures.cases
