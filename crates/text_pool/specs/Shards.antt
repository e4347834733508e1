-- Texts cut into shards, so that each shard is looked up apart from the others.
use Rattle.std.specs.Prelude.{◌≡◌, ℕ, ◌+◌, ◌-◌, ◌*◌, ◌/◌, ◌%◌, ◌^◌, ◌<◌, ◌==◌, List, [], ◌∷◌, length, fold, slice_index_or}
use Rattle.std.specs.List.{filter, flat_map, position_or_len}
use denote.Ref.{Bor}
use Rattle.std.specs.Str.{bytes_eq}
use Rattle.ds_base.specs.Texts.{section_of, with_text}
use Rattle.text_pool.specs.declared.shard.Shard.{Shard}
use Rattle.text_pool.specs.declared.table.Table.{Table}
use Rattle.text_pool.specs.Kept.{texts_of}

-- a byte of a text, or 0
abbrev pub byte_of : List ℕ → ℕ → ℕ
byte_of t i = slice_index_or t i 0

-- which of so many shards a text belongs to, by its length and four of its bytes
unfoldable pub shard_of : ℕ → List ℕ → ℕ
shard_of shards t = (length t + 3 * byte_of t (length t - 1) + 5 * byte_of t (length t - 3) + 7 * byte_of t (length t / 2) + 11 * byte_of t (length t / 4 * 3)) % shards

-- the texts of all parts
abbrev pub texts_in : List (Bor (List (List ℕ))) → List (List ℕ)
texts_in parts = flat_map (λ names. names.now) parts

-- the texts of a shard
abbrev pub in_shard : ℕ → ℕ → List (List ℕ) → List (List ℕ)
in_shard shards s texts = filter (λ t. shard_of shards t == s) texts

-- of each use in turn, which of the texts so far it is; how many they are, where it is new
abbrev pub numbers_from : List (List ℕ) → List (List ℕ) → List ℕ
numbers_from texts [] = []
numbers_from texts (t ∷ uses) = position_or_len (bytes_eq t) texts ∷ numbers_from (with_text texts t) uses

-- the table of a shard when these texts of it were put
pub record Holds (uses : List (List ℕ)) (table : Table) : Type 0 where
  pub texts : texts_of table.keys.keys ≡ fold with_text [] uses
  pub numbers : table.numbers.items ≡ numbers_from [] uses
  pub size : table.size ≡ length (section_of (fold with_text [] uses))
  pub small : table.size < 2 ^ 32 - 1

-- a shard of these texts, of which none is joined
pub record IsShard (uses : List (List ℕ)) (shard : Shard) : Type 0 where
  pub numbers : shard.numbers.items ≡ numbers_from [] uses
  pub taken : shard.taken ≡ 0
  pub places : shard.places.items ≡ []
