-- No two names of a link have one bid.
use Rattle.std.proofs.Common.{◌≡◌, ℕ, ◌+◌, ◌-◌, ◌*◌, ◌^◌, ◌<◌, ◌≤◌, Bool, true, false, cond, List, [], ◌∷◌, length, Option, Some, None, refl, sym, ◌∙◌, arith}
use Rattle.std.specs.Prelude.{if◌then◌else◌}
use Rattle.std.specs.List.{All, AllPairs, cons_option, enumerate_from, filter_map, flat_map}
use Rattle.std.proofs.lemmas.List.Elements.{All-append, All-cons, All-head, All-nil, All-tail, All-weaker}
use Rattle.std.proofs.lemmas.Nat.{same_from_place}
use Rattle.dwarf_types.specs.declared.entry.Entry.{Entry}
use Rattle.type_names.specs.Entries.{is_declaration}
use Rattle.type_names.specs.Heads.{Object, entries_of, is_pooled}
use Rattle.type_names.specs.Names.{Named, named_of, names, names_in}
use Rattle.merged_laws.proofs.Members.{Apart, apart_append, pairs_from_apart}

same_bid : (a b : Bool) (n k m j : ℕ) → n < 2 ^ 16 → m < 2 ^ 16 → k < 2 ^ 24 → j < 2 ^ 24 → (if a then 2 ^ 63 else 0) + n * 2 ^ 32 + k ≡ (if b then 2 ^ 63 else 0) + m * 2 ^ 32 + j → (n ≡ m) × (k ≡ j)
same_bid true true n k m j nl ml kl jl e = same_from_place n k m j (2 ^ 32) (omega (arith, kl)) (omega (arith, jl)) (omega (arith, e))
same_bid true false n k m j nl ml kl jl e = absurd (omega (arith, e, nl, ml, kl, jl))
same_bid false true n k m j nl ml kl jl e = absurd (omega (arith, e, nl, ml, kl, jl))
same_bid false false n k m j nl ml kl jl e = same_from_place n k m j (2 ^ 32) (omega (arith, kl)) (omega (arith, jl)) (omega (arith, e))

-- the bid of an entry of object n, from number m on
record HasBid (n m : ℕ) (w : Named) : Type 0 where
  entry : ℕ
  declared : Bool
  behind : m ≤ entry
  small : entry < 2 ^ 24
  bid : w.bid ≡ (if declared then 2 ^ 63 else 0) + n * 2 ^ 32 + entry

-- the bid of an entry of an object from number n on
record IsFrom (n : ℕ) (w : Named) : Type 0 where
  object : ℕ
  from : n ≤ object
  few : object < 2 ^ 16
  has : HasBid object 0 w

abbrev Differ : Named → Named → Type 0
Differ a b = a.bid ≡ b.bid → ⊥

-- ---- one object

module _ (n : ℕ) (o : Object) (few : n < 2 ^ 16) where
  abbrev named : ℕ × Entry → Option Named
  named e = if is_pooled o e.0 then Some (named_of n o e.0 e.1) else None

  own_bid : (m : ℕ) (e : Entry) → m < 2 ^ 24 → HasBid n m (named_of n o m e)
  own_bid m e lt = record { entry = m; declared = is_declaration e; behind = omega arith; small = lt; bid = refl }

  later_bid : (m : ℕ) (w : Named) → HasBid n (m + 1) w → HasBid n m w
  later_bid m w h = record { entry = h.entry; declared = h.declared; behind = omega (arith, h.behind); small = h.small; bid = h.bid }

  bids_by : (m : ℕ) (e : Entry) (b : Bool) (ws : List Named) → m < 2 ^ 24 → All (HasBid n (m + 1)) ws → All (HasBid n m) (cons_option (cond b (Some (named_of n o m e)) None) ws)
  bids_by m e true ws lt h = All-cons (HasBid n m) (named_of n o m e) ws (own_bid m e lt) (All-weaker (HasBid n (m + 1)) (HasBid n m) (later_bid m) ws h)
  bids_by m e false ws lt h = All-weaker (HasBid n (m + 1)) (HasBid n m) (later_bid m) ws h

  bids_from : (m : ℕ) (es : List Entry) → m + length es ≤ 2 ^ 24 → All (HasBid n m) (filter_map named (enumerate_from m es))
  bids_from m [] le = All-nil (HasBid n m)
  bids_from m (e ∷ es) le = bids_by m e (is_pooled o m) (filter_map named (enumerate_from (m + 1) es)) (omega (arith, le)) (bids_from (m + 1) es (omega (arith, le)))

  apart_by : (m : ℕ) (e : Entry) (b : Bool) (ws : List Named) → m < 2 ^ 24 → All (HasBid n (m + 1)) ws → Apart Differ ws → Apart Differ (cons_option (cond b (Some (named_of n o m e)) None) ws)
  apart_by m e false ws lt h rest = rest
  apart_by m e true ws lt h rest = (All-weaker (HasBid n (m + 1)) (Differ (named_of n o m e)) differ ws h, rest)
    where
      differ : (w : Named) → HasBid n (m + 1) w → Differ (named_of n o m e) w
      differ w h same = let parts = same_bid (is_declaration e) h.declared n m n h.entry few few lt h.small (same ∙ h.bid) in omega (arith, parts.1, h.behind)

  apart_from : (m : ℕ) (es : List Entry) → m + length es ≤ 2 ^ 24 → Apart Differ (filter_map named (enumerate_from m es))
  apart_from m [] le = tt
  apart_from m (e ∷ es) le = apart_by m e (is_pooled o m) (filter_map named (enumerate_from (m + 1) es)) (omega (arith, le)) (bids_from (m + 1) es (omega (arith, le))) (apart_from (m + 1) es (omega (arith, le)))

  whole_from : length (entries_of o) ≤ 2 ^ 24 → All (IsFrom n) (names_in n o)
  whole_from le = All-weaker (HasBid n 0) (IsFrom n) (λ w h. record { object = n; from = omega arith; few = few; has = h }) (names_in n o) (bids_from 0 (entries_of o) (omega (arith, le)))

-- ---- all objects

abbrev pub AreFew : List Object → Type 0
AreFew objects = All (λ o. length (entries_of o) ≤ 2 ^ 24) objects

later_from : (n : ℕ) (w : Named) → IsFrom (n + 1) w → IsFrom n w
later_from n w h = record { object = h.object; from = omega (arith, h.from); few = h.few; has = h.has }

all_from : (n : ℕ) (objects : List Object) → n + length objects ≤ 2 ^ 16 → AreFew objects → All (IsFrom n) (flat_map (λ o. names_in o.0 o.1) (enumerate_from n objects))
all_from n [] le few = All-nil (IsFrom n)
all_from n (o ∷ objects) le few =
    All-append (IsFrom n) (names_in n o) (flat_map (λ (o : ℕ × Object). names_in o.0 o.1) (enumerate_from (n + 1) objects)) (whole_from n o (omega (arith, le)) (All-head (λ o. length (entries_of o) ≤ 2 ^ 24) o objects few))
    (All-weaker (IsFrom (n + 1)) (IsFrom n) (later_from n) (flat_map (λ (o : ℕ × Object). names_in o.0 o.1) (enumerate_from (n + 1) objects)) (all_from (n + 1) objects (omega (arith, le)) (All-tail (λ o. length (entries_of o) ≤ 2 ^ 24) o objects few)))

other_object : (n : ℕ) (v w : Named) → n < 2 ^ 16 → HasBid n 0 v → IsFrom (n + 1) w → Differ v w
other_object n v w few h k same = let parts = same_bid h.declared k.has.declared n h.entry k.object k.has.entry few k.few h.small k.has.small (sym h.bid ∙ same ∙ k.has.bid) in omega (arith, parts.0, k.from)

all_apart : (n : ℕ) (objects : List Object) → n + length objects ≤ 2 ^ 16 → AreFew objects → Apart Differ (flat_map (λ o. names_in o.0 o.1) (enumerate_from n objects))
all_apart n [] le few = tt
all_apart n (o ∷ objects) le few =
    let small : n < 2 ^ 16 = omega (arith, le) in
    let rest = flat_map (λ (o : ℕ × Object). names_in o.0 o.1) (enumerate_from (n + 1) objects) in
    let own = All-head (λ o. length (entries_of o) ≤ 2 ^ 24) o objects few in
    let later = All-tail (λ o. length (entries_of o) ≤ 2 ^ 24) o objects few in
    let behind = all_from (n + 1) objects (omega (arith, le)) later in
    apart_append Differ (names_in n o) rest (apart_from n o small 0 (entries_of o) (omega (arith, own))) (all_apart (n + 1) objects (omega (arith, le)) later)
    (All-weaker (HasBid n 0) (λ v. All (Differ v) rest) (λ v h. All-weaker (IsFrom (n + 1)) (Differ v) (λ w k. other_object n v w small h k) rest behind) (names_in n o) (bids_from n o small 0 (entries_of o) (omega (arith, own))))

-- no two names have one bid
pub bids_differ : (objects : List Object) → length objects < 2 ^ 16 → AreFew objects → AllPairs (λ a b. a.bid ≡ b.bid → ⊥) (names objects)
bids_differ objects lt few = pairs_from_apart Differ (names objects) (all_apart 1 objects (omega (arith, lt)) few)

-- and none is 2^64 - 1
pub bids_low : (objects : List Object) → length objects < 2 ^ 16 → AreFew objects → All (λ w. w.bid < 2 ^ 64 - 1) (names objects)
bids_low objects lt few = All-weaker (IsFrom 1) (λ w. w.bid < 2 ^ 64 - 1) low (names objects) (all_from 1 objects (omega (arith, lt)) few)
  where
    low_by : (b : Bool) (n k : ℕ) → n < 2 ^ 16 → k < 2 ^ 24 → (if b then 2 ^ 63 else 0) + n * 2 ^ 32 + k < 2 ^ 64 - 1
    low_by true n k nl kl = omega (arith, nl, kl)
    low_by false n k nl kl = omega (arith, nl, kl)

    low : (w : Named) → IsFrom 1 w → w.bid < 2 ^ 64 - 1
    low w h = let lt = low_by h.has.declared h.object h.has.entry h.few h.has.small in omega (arith, lt, h.has.bid)
