use Rattle.std.proofs.Common.{◌≡◌, List, ℕ, Some, None, Bor, if◌then◌else◌, sym, ap, ◌∙◌, Result, Ok, Err}
use Rattle.std.specs.Option.{option_copied}
use Rattle.std.specs.Result.{MatchResult, result_ok}
use Rattle.std.specs.Str.{IsUtf8}
use Rattle.std.proofs.lemmas.Str.{is_utf8-from_IsUtf8}
use Rattle.stab_map.specs.Origin.{text_in}
use Rattle.stab_map.proofs.Utf8.{is_utf8-no}
use Rattle.batch_list.proofs.lines.as_text.Goals as goal

text_by : {Y : Type 0} (bytes : List ℕ) (r : Result (Bor (List ℕ)) Y) (Q : Y → Type 0)
    → MatchResult r (λ s. (s.now ≡ bytes) × IsUtf8 bytes) (λ y. ¬ (IsUtf8 bytes) × Q y) → option_copied (result_ok r) ≡ text_in bytes
text_by bytes (Ok s) Q cases = ap Some cases.0 ∙ sym (ap (λ b. if b then Some bytes else None) (is_utf8-from_IsUtf8 bytes cases.1))
text_by bytes (Err y) Q cases = sym (ap (λ b. if b then Some bytes else None) (is_utf8-no bytes cases.0))

pub returns : goal.returns
returns c = ap option_copied c.ok.ensures.value ∙ text_by c.args.bytes.now c.from_utf8.result _ c.from_utf8.ensures.cases
