-- Shards that threads made.
use Rattle.std.proofs.Common.{◌≡◌, ◌==◌, ℕ, ◌-◌, ◌^◌, ◌<◌, ◌≤◌, List, [], fold, length, map, slice_get, slice_index_or, Some, Result, Ok, Err, IfOk, sym, ap, subst, ◌∙◌, arith}
use Rattle.std.specs.Option.{option_map}
use Rattle.std.proofs.lemmas.List.{length-map}
use Rattle.std.proofs.lemmas.Option.{get_or_from_slice_get, slice_get-map, slice_get_within}
use Rattle.ds_base.specs.Texts.{section_of, with_text}
use Rattle.text_pool.specs.declared.error.TextError.{TextError}
use Rattle.text_pool.specs.declared.error.TextError.TheVariants as errors
use Rattle.text_pool.specs.declared.shard.Shard.{Shard}
use Rattle.text_pool.specs.Joins.{AreShards}
use Rattle.text_pool.specs.Shards.{IsShard, in_shard, shard_of}
use Rattle.text_pool.proofs.Filters.{long_kept}

module _ (all : List (List ℕ)) (n : ℕ) (made : List (Result Shard TextError)) (count : length made ≡ n) where
  pub shards_are : (shards : List Shard) → 1 ≤ n → ((s : ℕ) (d : Result Shard TextError) → s < n → IfOk (slice_index_or made s d) (IsShard (in_shard n s all))) → map (λ it. Ok it) shards ≡ made → AreShards all shards
  shards_are shards some each are =
      let as_many : length shards ≡ n = sym (length-map shards (λ it. Ok it)) ∙ ap (λ (rs : List (Result Shard TextError)). length rs) are ∙ count in
      record {
        some = omega (arith, as_many, some);
        each = λ s it at.
            let one : Result Shard TextError = Ok it in
            let there : slice_get made s ≡ Some one = ap (λ (rs : List (Result Shard TextError)). slice_get rs s) (sym are) ∙ slice_get-map (λ it. Ok it) shards s ∙ ap (option_map (λ it. Ok it)) at in
            let lt : s < n = omega (arith, as_many, slice_get_within shards s it at) in
            subst (λ (k : ℕ). IsShard (in_shard k s all) it) (sym as_many) (subst (λ (r : Result Shard TextError). IfOk r (IsShard (in_shard n s all))) (get_or_from_slice_get made s one one there) (each s one lt));
      }

  -- a shard is too long, and so is the whole
  pub long_shard : ((s : ℕ) (d : Result Shard TextError) → s < n → slice_index_or made s d ≡ Err errors.Long → 2 ^ 32 - 1 ≤ length (section_of (fold with_text [] (in_shard n s all))))
      → (s : ℕ) → slice_get made s ≡ Some (Err errors.Long) → 2 ^ 32 - 1 ≤ length (section_of (fold with_text [] all))
  long_shard each s at =
      let lt : s < n = omega (arith, count, slice_get_within made s (Err errors.Long) at) in
      long_kept (λ t. shard_of n t == s) all (each s (Err errors.Long) lt (get_or_from_slice_get made s (Err errors.Long) (Err errors.Long) at))
