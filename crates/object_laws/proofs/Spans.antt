-- Where spans of addresses went they are spans again: each is below its end, which 64 bits hold.
use Rattle.std.proofs.Common.{ℕ, ◌+◌, ◌-◌, ◌^◌, ◌<◌, min, max, List, [], ◌∷◌, ◌++◌, map, nat_lt, Option, Some, None, IfSome, arith, inl, inr}
use Rattle.std.specs.List.{All, AllByRecursion, cons_option, filter_map, flat_map}
use Rattle.std.proofs.lemmas.Bool.{cases_Bool, ltb-true}
use Rattle.std.proofs.lemmas.List.Elements.{All-from_recursion, recursion_from_All}
use Rattle.dwarf_types.specs.declared.address.Addr.{Addr}
use Rattle.dwarf_types.specs.declared.address.Addr.TheVariants as addrs
use Rattle.dwarf_types.specs.declared.lists.RawSpan.{RawSpan}
use Rattle.dwarf_types.specs.WellValues.{IsSpan}
use Rattle.addr_map.specs.declared.map.AddrMap.{AddrMap}
use Rattle.addr_map.specs.declared.map.MapRange.{MapRange}
use Rattle.addr_map.specs.Moved.{piece, pieces}
use Rattle.addr_map.specs.Sound.{IsSound, IsSoundRange}
use Rattle.moved_parts.specs.Spans.{pieces_between, span_moved, spans_moved}

-- ---- lists

pub more_if : {Y : Type 0} (Q : Y → Type 0) (o : Option Y) (ys : List Y) → IfSome o Q → AllByRecursion Q ys → AllByRecursion Q (cons_option o ys)
more_if Q None ys q all = all
more_if Q (Some y) ys q all = (q, all)

-- what each item gives, if anything
pub each_given : {X Y : Type 0} (P : X → Type 0) (Q : Y → Type 0) (f : X → Option Y) → ((x : X) → P x → IfSome (f x) Q) → (xs : List X) → AllByRecursion P xs → AllByRecursion Q (filter_map f xs)
each_given P Q f step [] all = tt
each_given P Q f step (x ∷ xs) all = more_if Q (f x) (filter_map f xs) (step x all.0) (each_given P Q f step xs all.1)

pub both_all : {Y : Type 0} (Q : Y → Type 0) (xs ys : List Y) → AllByRecursion Q xs → AllByRecursion Q ys → AllByRecursion Q (xs ++ ys)
both_all Q [] ys a b = b
both_all Q (x ∷ xs) ys a b = (a.0, both_all Q xs ys a.1 b)

-- what is so of each is also another thing
pub all_as : {Y : Type 0} (P Q : Y → Type 0) → ((y : Y) → P y → Q y) → (ys : List Y) → AllByRecursion P ys → AllByRecursion Q ys
all_as P Q gives [] all = tt
all_as P Q gives (y ∷ ys) all = (gives y all.0, all_as P Q gives ys all.1)

-- what each item gives, in turn
pub all_given : {X Y : Type 0} (P : X → Type 0) (Q : Y → Type 0) (f : X → List Y) → ((x : X) → P x → AllByRecursion Q (f x)) → (xs : List X) → AllByRecursion P xs → AllByRecursion Q (flat_map f xs)
all_given P Q f step [] all = tt
all_given P Q f step (x ∷ xs) all = both_all Q (f x) (flat_map f xs) (step x all.0) (all_given P Q f step xs all.1)

-- ---- spans

piece_is : (low high : ℕ) (r : MapRange) → IsSoundRange r → IfSome (piece low high r) IsSpan
piece_is low high r sound = elim (cases_Bool (nat_lt (max low r.start) (min high r.end))) [
  | inl is ↦
      let lt : max low r.start < min high r.end = ltb-true _ _ is in
      let fits : r.linked + (r.end - r.start) < 2 ^ 64 = sound.fits in
      rw is (record { some = omega arith; fits = omega arith })
  | inr other ↦ rw other tt
]

pub pieces_in : (map : AddrMap) (low high : ℕ) → IsSound map → AllByRecursion IsSpan (pieces map low high)
pieces_in map low high sound = each_given IsSoundRange IsSpan (piece low high) (piece_is low high) map.ranges (recursion_from_All IsSoundRange map.ranges sound.ranges)

pub pieces_are : (map : AddrMap) (low high : ℕ) → IsSound map → All IsSpan (pieces map low high)
pieces_are map low high sound = All-from_recursion IsSpan (pieces map low high) (pieces_in map low high sound)

between_in : (map : AddrMap) (low high : Addr) → IsSound map → AllByRecursion IsSpan (pieces_between map low high)
between_in map (addrs.Placed low) (addrs.Placed high) sound = pieces_in map low high sound
between_in map (addrs.Placed low) (addrs.Named symbol n) sound = tt
between_in map (addrs.Placed low) (addrs.Fixed n) sound = tt
between_in map (addrs.Named symbol n) high sound = tt
between_in map (addrs.Fixed n) high sound = tt

pub span_in : (map : AddrMap) (span : RawSpan) → IsSound map → AllByRecursion IsSpan (span_moved map span)
span_in map span sound = between_in map span.low span.high sound

pub span_is : (map : AddrMap) (span : RawSpan) → IsSound map → All IsSpan (span_moved map span)
span_is map span sound = All-from_recursion IsSpan (span_moved map span) (span_in map span sound)

each_span : (map : AddrMap) (spans : List RawSpan) → IsSound map → AllByRecursion IsSpan (spans_moved map spans)
each_span map [] sound = tt
each_span map (span ∷ spans) sound = both_all IsSpan (span_moved map span) (spans_moved map spans) (span_in map span sound) (each_span map spans sound)

pub spans_are : (map : AddrMap) (spans : List RawSpan) → IsSound map → All IsSpan (spans_moved map spans)
spans_are map spans sound = All-from_recursion IsSpan (spans_moved map spans) (each_span map spans sound)
