-- What a table has of a content, and what the list of its contents has.
use Rattle.std.proofs.Common.{◌≡◌, ℕ, List, [], ◌∷◌, map, Option, Some, if◌then◌else◌, refl, ap}
use Rattle.std.specs.Map.{lookup}
use Rattle.std.specs.Str.{bytes_eq}
use Rattle.ds_base.specs.declared.text_key.TextKey.{TextKey}

-- the content and the place of an entry of the table
abbrev pub shown : TextKey × ℕ → List ℕ × ℕ
shown e = (e.0.text.now, e.1)

pub lookup-shown : (t : List ℕ) (es : List (TextKey × ℕ)) → lookup (λ k. bytes_eq t k.text.now) es ≡ lookup (bytes_eq t) (map shown es)
lookup-shown t [] = refl
lookup-shown t (e ∷ es) = ap (λ (o : Option ℕ). if bytes_eq t e.0.text.now then Some e.1 else o) (lookup-shown t es)
