-- What is kept, and under what.
use Rattle.std.specs.Prelude.{◌≡◌, ℕ, List, drop}
use Rattle.std.specs.List.{AllPairs}
use Rattle.stab_map.specs.declared.object.MapObject.{MapObject}
use Rattle.batch_cache.specs.declared.kept.Asked.{Asked}
use Rattle.batch_cache.specs.declared.kept.Kept.{Kept}

-- what an analysis depends on: a file's bytes, a part of a debug map, and a CPU type
pub record Key : Type 0 where
  pub bytes : List ℕ
  pub object : MapObject
  pub cpu : ℕ

-- what is asked
abbrev pub asked_key : Asked → Key
asked_key asked = record { bytes = asked.bytes.now; object = asked.object.now; cpu = asked.cpu }

-- under what it is kept
abbrev pub key_of : Kept → Key
key_of kept = record { bytes = kept.bytes; object = kept.object; cpu = kept.cpu }

-- it is kept under another key
abbrev pub IsOther : Key → Kept → Type 0
IsOther key kept = key_of kept ≡ key → ⊥

-- no two are kept under one key
abbrev pub AreApart : List Kept → Type 0
AreApart kept = AllPairs (λ a b. IsOther (key_of b) a) kept

-- the last ones of a list
abbrev pub IsEnd : List Kept → List Kept → Type 0
IsEnd all end = (gone : ℕ) × (end ≡ drop gone all)
