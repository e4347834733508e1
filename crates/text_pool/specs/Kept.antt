-- The texts of keys.
use Rattle.std.specs.Prelude.{ℕ, List, map}
use Rattle.ds_base.specs.declared.text_key.TextKey.{TextKey}

-- the texts of keys
abbrev pub texts_of : List TextKey → List (List ℕ)
texts_of keys = map (λ key. key.text.now) keys
