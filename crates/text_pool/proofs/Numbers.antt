-- Uses of texts by their numbers.
use Rattle.std.proofs.Common.{◌≡◌, ℕ, ◌+◌, ◌-◌, ◌^◌, ◌<◌, ◌≤◌, Bool, true, false, not, List, [], ◌∷◌, ◌++◌, fold, length, is_some, if◌then◌else◌, refl, sym, ap, ◌∙◌, arith}
use Rattle.std.specs.List.{list_any, position_or_len}
use Rattle.std.specs.Str.{bytes_eq}
use Rattle.std.proofs.lemmas.List.Sums.{fold-append, prefix_len-le-length}
use Rattle.indexmap.specs.IndexSet.{insert_key}
use Rattle.ds_base.specs.Texts.{place_of, section_of, with_text}
use Rattle.ds_base.specs.declared.text_key.TextKey.{TextKey}
use Rattle.text_pool.specs.declared.table.Table.{Table}
use Rattle.text_pool.specs.Kept.{texts_of}
use Rattle.text_pool.specs.Shards.{Holds, numbers_from}
use Rattle.text_pool.proofs.Filters.{fewer_than_bytes}
use Rattle.text_pool.proofs.Keeping.{section-push}
use Rattle.text_pool.proofs.Keys.{is_known, prefix_len-texts, same_key, texts_of-insert}

pub numbers-push : (texts uses : List (List ℕ)) (t : List ℕ) → numbers_from texts (uses ++ t ∷ []) ≡ numbers_from texts uses ++ position_or_len (bytes_eq t) (fold with_text texts uses) ∷ []
numbers-push texts [] t = refl
numbers-push texts (u ∷ uses) t = ap (λ (more : List ℕ). position_or_len (bytes_eq u) texts ∷ more) (numbers-push (with_text texts u) uses t)

one_more : (uses : List (List ℕ)) (t : List ℕ) → fold with_text [] (uses ++ t ∷ []) ≡ with_text (fold with_text [] uses) t
one_more uses t = fold-append with_text [] uses (t ∷ [])

-- the size that a section has with one text more
pub size_grown : (texts : List (List ℕ)) (t : List ℕ) (fresh : Bool) (n size : ℕ) → fresh ≡ not (is_some (place_of texts t)) → n ≡ length (section_of texts) → size ≡ (if fresh then n + length t + 1 else n) → size ≡ length (section_of (with_text texts t))
size_grown texts t fresh n size known is grown =
    grown ∙ ap (λ (b : Bool). if b then n + length t + 1 else n) known ∙ by (is_some (place_of texts t))
  where
    by : (b : Bool) → (if not b then n + length t + 1 else n) ≡ length (section_of (if b then texts else texts ++ t ∷ []))
    by true = is
    by false = ap (λ (m : ℕ). m + length t + 1) is ∙ sym (section-push texts t)

module _ (uses : List (List ℕ)) (old : Table) (key : TextKey) (holds : Holds uses old) where
  abbrev pub text_now : List ℕ
  text_now = key.text.now

  abbrev so_far : List (List ℕ)
  so_far = fold with_text [] uses

  number_in : (n : ℕ) → n ≡ position_or_len (same_key key) old.keys.keys → n ≡ position_or_len (bytes_eq text_now) so_far
  number_in n is = is ∙ sym (prefix_len-texts (λ (u : List ℕ). not (bytes_eq text_now u)) old.keys.keys) ∙ ap (position_or_len (bytes_eq text_now)) holds.texts

  pub number_small : (n : ℕ) → n ≡ position_or_len (same_key key) old.keys.keys → n < 2 ^ 32
  number_small n is =
      omega (arith, number_in n is, prefix_len-le-length (λ (u : List ℕ). not (bytes_eq text_now u)) so_far, fewer_than_bytes so_far, holds.size, holds.small)

  -- whether a text is new
  known_is : (fresh : Bool) → fresh ≡ not (list_any (same_key key) old.keys.keys) → fresh ≡ not (is_some (place_of so_far text_now))
  known_is fresh is = is ∙ ap not (sym (is_known old.keys.keys key) ∙ ap (λ (texts : List (List ℕ)). is_some (place_of texts text_now)) holds.texts)

  module _ (fresh : Bool) (size : ℕ) (known : fresh ≡ not (list_any (same_key key) old.keys.keys)) where
    -- a text that would make the section too long
    pub long_with : 2 ^ 32 - 1 ≤ (if fresh then old.size + length text_now + 1 else old.size) → 2 ^ 32 - 1 ≤ length (section_of (fold with_text [] (uses ++ text_now ∷ [])))
    long_with long = omega (arith, long, size_grown so_far text_now fresh old.size (if fresh then old.size + length text_now + 1 else old.size) (known_is fresh known) holds.size refl, ap (λ (texts : List (List ℕ)). length (section_of texts)) (one_more uses text_now))

    pub holds_more : (new : Table) (n : ℕ) → new.keys.keys ≡ insert_key same_key old.keys.keys key → n ≡ position_or_len (same_key key) old.keys.keys → new.numbers.items ≡ old.numbers.items ++ n ∷ []
        → new.size ≡ size → size ≡ (if fresh then old.size + length text_now + 1 else old.size) → size < 2 ^ 32 - 1 → Holds (uses ++ text_now ∷ []) new
    holds_more new n keys number pushed is grown small = record {
      texts = ap texts_of keys ∙ texts_of-insert old.keys.keys key ∙ ap (λ (texts : List (List ℕ)). with_text texts text_now) holds.texts ∙ sym (one_more uses text_now);
      numbers = pushed ∙ ap (λ (ns : List ℕ). ns ++ n ∷ []) holds.numbers ∙ ap (λ (m : ℕ). numbers_from [] uses ++ m ∷ []) (number_in n number) ∙ sym (numbers-push [] uses text_now);
      size = is ∙ size_grown so_far text_now fresh old.size size (known_is fresh known) holds.size grown ∙ ap (λ (texts : List (List ℕ)). length (section_of texts)) (sym (one_more uses text_now));
      small = omega (arith, is, small);
    }
