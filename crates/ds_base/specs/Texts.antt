-- The bytes of a string section (DWARF 4, section 7.5.4, class string): texts one after the other, each ended by a zero byte.
use Rattle.std.specs.Prelude.{ℕ, ◌+◌, List, [], ◌∷◌, ◌++◌, length, Option, Some, None, is_some, if◌then◌else◌}
use Rattle.std.specs.Option.{option_map}
use Rattle.std.specs.List.{flat_map}
use Rattle.std.specs.Str.{bytes_eq}

-- a text and its end
abbrev pub ended : List ℕ → List ℕ
ended text = text ++ 0 ∷ []

abbrev pub section_of : List (List ℕ) → List ℕ
section_of texts = flat_map ended texts

-- where a text begins in the section, if it is one of the texts
abbrev pub place_of : List (List ℕ) → List ℕ → Option ℕ
place_of [] t = None
place_of (text ∷ texts) t = if bytes_eq text t then Some 0 else option_map (λ place. length text + 1 + place) (place_of texts t)

-- the texts and one more, last, where it is new
abbrev pub with_text : List (List ℕ) → List ℕ → List (List ℕ)
with_text texts t = if is_some (place_of texts t) then texts else texts ++ t ∷ []
