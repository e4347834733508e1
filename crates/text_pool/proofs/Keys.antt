-- The keys of a table of texts.
use Rattle.std.proofs.Common.{◌≡◌, ℕ, ◌+◌, Bool, true, false, ◌||◌, List, [], ◌∷◌, ◌++◌, Some, is_some, slice_get, option_map, if◌then◌else◌, refl, sym, ap, ◌∙◌}
use Rattle.std.specs.List.{list_any, prefix_len}
use Rattle.std.specs.Str.{bytes_eq}
use Rattle.std.proofs.lemmas.List.{map_push}
use Rattle.std.proofs.lemmas.Option.{slice_get-map}
use Rattle.std.proofs.lemmas.Slice.Eq.{bytes_eq-Decides}
use Rattle.indexmap.specs.IndexSet.{insert_key}
use Rattle.ds_base.specs.Texts.{place_of, with_text}
use Rattle.ds_base.specs.declared.text_key.TextKey.{TextKey}
use Rattle.text_pool.specs.Kept.{texts_of}
use Rattle.text_pool.proofs.Places.{is_some-place_of}

abbrev pub same_key : TextKey → TextKey → Bool
same_key x y = bytes_eq x.text.now y.text.now

list_any-texts : (test : List ℕ → Bool) (keys : List TextKey) → list_any test (texts_of keys) ≡ list_any (λ key. test key.text.now) keys
list_any-texts test [] = refl
list_any-texts test (x ∷ keys) = ap (λ (b : Bool). test x.text.now || b) (list_any-texts test keys)

pub is_known : (keys : List TextKey) (key : TextKey) → is_some (place_of (texts_of keys) key.text.now) ≡ list_any (same_key key) keys
is_known keys key = is_some-place_of (texts_of keys) key.text.now ∙ list_any-texts (bytes_eq key.text.now) keys

-- a key that is put in is a text that is added
pub texts_of-insert : (keys : List TextKey) (key : TextKey) → texts_of (insert_key same_key keys key) ≡ with_text (texts_of keys) key.text.now
texts_of-insert keys key = rw (is_known keys key) (by (list_any (same_key key) keys))
  where
    by : (known : Bool) → texts_of (if known then keys else keys ++ key ∷ []) ≡ (if known then texts_of keys else texts_of keys ++ key.text.now ∷ [])
    by true = refl
    by false = map_push (λ (k : TextKey). k.text.now) keys key

-- a key that is the same stands for the text
pub text_found : (keys : List TextKey) (key k : TextKey) (n : ℕ) → slice_get keys n ≡ Some k → same_key key k ≡ true → slice_get (texts_of keys) n ≡ Some key.text.now
text_found keys key k n at same =
    slice_get-map (λ (x : TextKey). x.text.now) keys n ∙ ap (option_map (λ (x : TextKey). x.text.now)) at ∙ ap (λ (t : List ℕ). Some t) (sym ((bytes_eq-Decides key.text.now k.text.now).0 same))

pub prefix_len-texts : (test : List ℕ → Bool) (keys : List TextKey) → prefix_len test (texts_of keys) ≡ prefix_len (λ key. test key.text.now) keys
prefix_len-texts test [] = refl
prefix_len-texts test (x ∷ keys) = ap (λ (n : ℕ). if test x.text.now then 1 + n else 0) (prefix_len-texts test keys)
