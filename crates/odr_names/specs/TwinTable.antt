-- Ranks by what twins share: a table in order.
use Rattle.std.specs.Prelude.{◌≡◌, ℕ, ◌+◌, ◌<◌, ◌≤◌, ◌⊎◌, List, slice_get, Option, Some, None}
use Rattle.std.specs.BTreeMap.{BTreeMap, get}
use Rattle.std.specs.Cmp.Lexicographic.{slice_cmp}
use Rattle.std.specs.Option.{option_cmp, option_map, option_map_or}
use Rattle.std.specs.Ordering.{nat_cmp, ordering_then}
use Rattle.std.specs.declared.cmp.Ordering.{Ordering}
use denote.Ref.{Bor}
use Rattle.odr_names.specs.Twins.{AreTwins, IsSibling, parts_in, twins_before}
use Rattle.odr_names.specs.declared.ordinals.Sibling.{Sibling}
use Rattle.odr_names.specs.declared.twin_table.TwinKey.{TwinKey}
use Rattle.type_names.specs.Heads.{Object, entries_of}
use Rattle.type_names.specs.Paths.{Parts}
use Rattle.type_names.specs.Tree.{parent_of}

-- no text before a text, and texts byte by byte
abbrev pub text_cmp : Option (Bor (List ℕ)) → Option (Bor (List ℕ)) → Ordering
text_cmp = option_cmp (λ x y. slice_cmp nat_cmp x.now y.now)

-- the order of keys: by hash, by parent, and by each of the parts
abbrev pub key_cmp : TwinKey → TwinKey → Ordering
key_cmp a b =
    ordering_then (nat_cmp a.hash b.hash) (ordering_then (option_cmp nat_cmp a.parent b.parent) (ordering_then (nat_cmp a.tag b.tag)
    (ordering_then (text_cmp a.name b.name) (ordering_then (text_cmp a.linkage b.linkage) (text_cmp a.spelled b.spelled)))))

-- the parts in a key
abbrev pub parts_keyed : TwinKey → Parts
parts_keyed key = record {
  tag = key.tag;
  name = option_map (λ text. text.now) key.name;
  linkage = option_map (λ text. text.now) key.linkage;
  spelled = option_map (λ text. text.now) key.spelled;
  private = None;
}

-- the key of a rank
pub record IsKeyOf (n : ℕ) (o : Object) (r : Sibling) (key : TwinKey) : Type 0 where
  pub hash : key.hash ≡ r.hash
  pub parent : parent_of (entries_of o) r.number ≡ key.parent
  pub parts : parts_in n o r.number ≡ Some (parts_keyed key)

-- what a table tells of a key: 0 where it has not got it
abbrev pub told_in : BTreeMap TwinKey ℕ → TwinKey → ℕ
told_in table key = option_map_or (λ count. count) (get key_cmp table key) 0

-- none of the first i ranks is a twin of this one
abbrev pub HasNoTwin : ℕ → Object → List Sibling → Sibling → ℕ → Type 0
HasNoTwin n o ranks r i = (k : ℕ) (s : Sibling) → 0 ≤ k → k < i → slice_get ranks k ≡ Some s → AreTwins n o s.number r.number → ⊥

-- of the first i ranks the last that is a twin of this one has one earlier twin less than that
pub record HasTwin (n : ℕ) (o : Object) (ranks : List Sibling) (r : Sibling) (i count : ℕ) : Type 0 where
  pub place : ℕ
  pub last : Sibling
  pub before : place < i
  pub stands : slice_get ranks place ≡ Some last
  pub twins : AreTwins n o last.number r.number
  pub counted : count ≡ twins_before n o last.number + 1
  pub none : (k : ℕ) (s : Sibling) → place + 1 ≤ k → k < i → slice_get ranks k ≡ Some s → AreTwins n o s.number r.number → ⊥

-- the table tells of each rank, by its key, how many of the first i ranks are its twins
abbrev pub IsTold : ℕ → Object → List Sibling → BTreeMap TwinKey ℕ → ℕ → Type 0
IsTold n o ranks table i = (r : Sibling) (key : TwinKey) → IsSibling n o r → IsKeyOf n o r key → ((told_in table key ≡ 0) × HasNoTwin n o ranks r i) ⊎ HasTwin n o ranks r i (told_in table key)
