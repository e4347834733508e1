-- The texts of parts as one section, and how far they are joined.
use Rattle.std.specs.Prelude.{◌≡◌, ℕ, ◌+◌, ◌-◌, ◌^◌, ◌<◌, ◌≤◌, List, [], ◌∷◌, ◌++◌, drop, fold, length, map, Some, slice_get}
use Rattle.std.specs.List.{flat_map}
use Rattle.std.specs.Option.{unwrap_or}
use Rattle.ds_base.specs.Texts.{place_of, section_of, with_text}
use Rattle.text_pool.specs.declared.joining.Joined.{Joined}
use Rattle.text_pool.specs.declared.shard.Shard.{Shard}
use Rattle.text_pool.specs.Shards.{IsShard, in_shard, numbers_from}

-- where a text stands among others, or 0
abbrev pub place_in : List (List ℕ) → List ℕ → ℕ
place_in texts t = unwrap_or (place_of texts t) 0

-- the texts of all parts, each once by first use
abbrev pub all_once : List (List (List ℕ)) → List (List ℕ)
all_once parts = fold with_text [] (flat_map (λ texts. texts) parts)

-- their section, and where the texts of each part stand in it
abbrev pub joined : List (List (List ℕ)) → Joined
joined parts = record {
  section = section_of (all_once parts);
  places = map (λ texts. map (place_in (all_once parts)) texts) parts;
}

-- ---- how far

-- all shards of these texts, of which none is joined
pub record AreShards (all : List (List ℕ)) (shards : List Shard) : Type 0 where
  pub some : 0 < length shards
  pub each : (s : ℕ) (it : Shard) → slice_get shards s ≡ Some it → IsShard (in_shard (length shards) s all) it

-- a shard, of so many, whose uses among the first texts are joined, and those among the rest are left
pub record IsAt (shards s : ℕ) (before rest : List (List ℕ)) (it : Shard) : Type 0 where
  pub left : drop it.taken it.numbers.items ≡ numbers_from (in_shard shards s (fold with_text [] before)) (in_shard shards s rest)
  pub placed : it.places.items ≡ map (place_in (fold with_text [] before)) (in_shard shards s (fold with_text [] before))

-- of all texts the rest is left, and the section is that of those before
pub record IsJoining (all rest : List (List ℕ)) (shards : List Shard) (section : List ℕ) : Type 0 where
  pub before : List (List ℕ)
  pub whole : before ++ rest ≡ all
  pub some : 0 < length shards
  pub section_is : section ≡ section_of (fold with_text [] before)
  pub small : length section < 2 ^ 32 - 1
  pub each : (s : ℕ) (it : Shard) → slice_get shards s ≡ Some it → IsAt (length shards) s before rest it

-- what a shard becomes by its next use, and where that begins: where its text does, or at the end if it is new
pub record Takes (end : ℕ) (old new : Shard) (place : ℕ) : Type 0 where
  pub numbers : new.numbers.items ≡ old.numbers.items
  pub taken : new.taken ≡ old.taken + 1
  pub known : (n : ℕ) → slice_get old.numbers.items old.taken ≡ Some n → n < length old.places.items → (new.places.items ≡ old.places.items) × (slice_get old.places.items n ≡ Some place)
  pub fresh : (n : ℕ) → slice_get old.numbers.items old.taken ≡ Some n → length old.places.items ≤ n → (new.places.items ≡ old.places.items ++ end ∷ []) × (place ≡ end)
