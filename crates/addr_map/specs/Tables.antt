-- The tables that a map is built from: the symbols by their names, and the places of those that are defined, in order.
use Rattle.std.specs.Prelude.{◌≡◌, ℕ, ◌<◌, ◌≤◌, List, Option, Some, None}
use Rattle.std.specs.List.{All, Contains}
use Rattle.std.specs.HashMap.{HashMap, get_by}
use Rattle.std.specs.Ordering.{nat_cmp, ordering_then}
use Rattle.std.specs.declared.cmp.Ordering.{Ordering}
use Rattle.std.specs.Str.{bytes_eq}
use Rattle.ds_base.specs.declared.text_key.TextKey.{TextKey}

-- the index that a table has for a name
abbrev pub index_in : {S : Type 0} → HashMap TextKey ℕ S → List ℕ → Option ℕ
index_in table name = get_by (λ key. bytes_eq name key.text.now) table

-- places by their sections, and then by their addresses
abbrev pub place_cmp : ℕ × ℕ → ℕ × ℕ → Ordering
place_cmp p q = ordering_then (nat_cmp p.0 q.0) (nat_cmp p.1 q.1)

-- the least address above a start in a section, of all places
abbrev pub IsNext : ℕ → ℕ → List (ℕ × ℕ) → Option ℕ → Type 0
IsNext section start places (Some a) = Contains places (section, a) × (start < a) × All (λ p. p.0 ≡ section → start < p.1 → a ≤ p.1) places
IsNext section start places None = All (λ p. p.0 ≡ section → start < p.1 → ⊥) places
