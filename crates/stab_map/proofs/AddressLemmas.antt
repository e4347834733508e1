-- The names that stabs ask for and their addresses, one more symbol before the others.
use Rattle.std.proofs.Common.{◌≡◌, ℕ, ◌+◌, ◌-◌, ◌≤◌, Bool, true, false, true≢false, cond, ◌&&◌, ◌||◌, List, [], ◌∷◌, Option, Some, drop, length, get_or, refl, ap, sym, ◌∙◌, arith}
use Rattle.std.specs.Cmp.Lexicographic.{bytes_decides}
use Rattle.std.specs.HashSet.{HashSet, Updates}
use Rattle.std.specs.List.{find, list_any}
use Rattle.std.specs.Option.{option_map}
use Rattle.std.specs.Str.{bytes_eq}
use Rattle.std.proofs.lemmas.Bool.{false_from_ne_true}
use Rattle.std.proofs.lemmas.List.{drop_more}
use Rattle.ds_base.specs.declared.text_key.TextKey.{TextKey}
use Rattle.macho_read.specs.declared.image.Image.{Image}
use Rattle.macho_read.specs.declared.image.Symbol.{Symbol}
use Rattle.macho_read.specs.Standings.{is_defined}
use Rattle.stab_map.specs.Addresses.{address_among, has_name, is_asked}
use Rattle.stab_map.specs.Stab.{asks, stab_of}

-- ---- the names

module _ {S : Type 0} where
  -- a name is put among the others
  pub name_put : (before after : HashSet TextKey S) (key : TextKey) → Updates (λ x y. bytes_eq x.text.now y.text.now) before after key true
      → (name : List ℕ) → has_name after name ≡ cond (bytes_eq key.text.now name) true (has_name before name)
  name_put before after key updates name = updates.0 (record key { text = record key.text { now = name } })

  pub none_named : (names : HashSet TextKey S) → length names.keys ≡ 0 → (name : List ℕ) → has_name names name ≡ false
  none_named names none name = by names.keys none
    where
      by : (keys : List TextKey) → length keys ≡ 0 → list_any (λ key. bytes_eq name key.text.now) keys ≡ false
      by [] none = refl
      by (key ∷ keys) none = absurd (omega (arith, none))

cond_or : (b c : Bool) → cond b true c ≡ (b || c)
cond_or true c = refl
cond_or false c = refl

-- a symbol that asks
pub asked_first : (s : Symbol) (others : List Symbol) (name key : List ℕ) (before after : Bool) → asks (stab_of s) ≡ true → key ≡ s.name → after ≡ cond (bytes_eq key name) true before → before ≡ is_asked others name
    → after ≡ is_asked (s ∷ others) name
asked_first s others name key before after asking is put so_far =
    put ∙ ap (λ (k : List ℕ). cond (bytes_eq k name) true before) is ∙ ap (cond (bytes_eq s.name name) true) so_far ∙ cond_or (bytes_eq s.name name) (is_asked others name) ∙ rw asking refl

-- ---- the addresses

-- the symbol before the others, by the two tests on it
by_tests : (s : Symbol) (found : Option Symbol) (defined same : Bool)
    → option_map (λ s. s.value) (cond (defined && same) (Some s) found) ≡ cond defined (cond same (Some s.value) (option_map (λ s. s.value) found)) (option_map (λ s. s.value) found)
by_tests s found true true = refl
by_tests s found true false = refl
by_tests s found false same = refl

other_name : (defined : Bool) (s : Symbol) (found : Option Symbol) → cond (defined && false) (Some s) found ≡ found
other_name true s found = refl
other_name false s found = refl

module _ (image : Image) (s : Symbol) (others : List Symbol) (name : List ℕ) (before : Option ℕ) where
  -- a defined one is put in the table
  pub address_put : (key : List ℕ) (after : Option ℕ) → is_defined image s ≡ true → key ≡ s.name → after ≡ cond (bytes_eq key name) (Some s.value) before → before ≡ address_among image others name
      → after ≡ address_among image (s ∷ others) name
  address_put key after defined is put so_far =
      put ∙ ap (λ (k : List ℕ). cond (bytes_eq k name) (Some s.value) before) is ∙ ap (cond (bytes_eq s.name name) (Some s.value)) so_far
      ∙ rw (by_tests s (find (λ s. is_defined image s && bytes_eq s.name name) others) (is_defined image s) (bytes_eq s.name name), defined) refl

  -- another one is passed over
  pub address_passed : is_defined image s ≡ false → before ≡ address_among image others name → before ≡ address_among image (s ∷ others) name
  address_passed not_defined so_far =
      so_far ∙ rw (by_tests s (find (λ s. is_defined image s && bytes_eq s.name name) others) (is_defined image s) (bytes_eq s.name name), not_defined) refl

  -- and so is one of another name
  pub address_skipped : (bytes_eq s.name name ≡ true → ⊥) → before ≡ address_among image others name → before ≡ address_among image (s ∷ others) name
  address_skipped differs so_far =
      let other : bytes_eq s.name name ≡ false = false_from_ne_true (bytes_eq s.name name) differs in
      so_far ∙ ap (option_map (λ s. s.value)) (sym (other_name (is_defined image s) s (find (λ s. is_defined image s && bytes_eq s.name name) others))) ∙ rw other refl

-- one of some names is not another text
pub named_apart : (has : List ℕ → Bool) (other name : List ℕ) → has other ≡ false → has name ≡ true → bytes_eq other name ≡ true → ⊥
named_apart has other name none named same = true≢false (sym (sym none ∙ ap has ((bytes_decides other name).0 same) ∙ named))

-- the symbol before those from a place on
pub from_here : (symbols : List Symbol) (i : ℕ) (s : Symbol) → 1 ≤ i → i ≤ length symbols → s ≡ get_or symbols (i - 1) s → s ∷ drop i symbols ≡ drop (i - 1) symbols
from_here symbols i s some within is =
    let next : i - 1 + 1 ≡ i = omega arith in
    sym (drop_more symbols (i - 1) s (omega arith) ∙ ap (λ (x : Symbol). x ∷ drop (i - 1 + 1) symbols) (sym is) ∙ ap (λ (k : ℕ). s ∷ drop k symbols) next)
