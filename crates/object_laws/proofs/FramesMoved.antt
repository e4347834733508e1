-- Where an address moved it is below 2^64.
use Rattle.std.proofs.Common.{◌≡◌, ℕ, ◌+◌, ◌%◌, ◌^◌, ◌<◌, Bool, true, List, [], ◌∷◌, nat_lt, nat_le, Option, Some, None, IfSome, arith, inl, inr}
use Rattle.std.specs.List.{AllByRecursion, find}
use Rattle.std.specs.Option.{option_map}
use Rattle.std.proofs.lemmas.Bool.{and_parts, cases_Bool, leb-true, ltb-true}
use Rattle.std.proofs.lemmas.List.Elements.{recursion_from_All}
use Rattle.dwarf_types.specs.declared.address.Addr.{Addr}
use Rattle.dwarf_types.specs.declared.address.Addr.TheVariants as addrs
use Rattle.addr_map.specs.declared.map.AddrMap.{AddrMap}
use Rattle.addr_map.specs.declared.map.MapName.{MapName}
use Rattle.addr_map.specs.declared.map.MapRange.{MapRange}
use Rattle.addr_map.specs.Moved.{holds, holds_end, moved, moved_by, moved_end}
use Rattle.addr_map.specs.Sound.{IsSound, IsSoundRange}

abbrev pub Fits : ℕ → Type 0
Fits n = n < 2 ^ 64

-- the address is in the range
pub moved_by_fits : (a : ℕ) (r : MapRange) → IsSoundRange r → holds a r ≡ true → Fits (moved_by a r)
moved_by_fits a r sound e =
    let both = and_parts (nat_le r.start a) (nat_lt a r.end) e in
    let from = leb-true r.start a both.0 in
    let below = ltb-true a r.end both.1 in
    let fits = sound.fits in
    omega arith

pub moved_end_by_fits : (a : ℕ) (r : MapRange) → IsSoundRange r → holds_end a r ≡ true → Fits (moved_by a r)
moved_end_by_fits a r sound e =
    let both = and_parts (nat_lt r.start a) (nat_le a r.end) e in
    let from = ltb-true r.start a both.0 in
    let upto = leb-true a r.end both.1 in
    let fits = sound.fits in
    omega arith

found_fits : (test : MapRange → Bool) (a : ℕ) → ((r : MapRange) → IsSoundRange r → test r ≡ true → Fits (moved_by a r)) → (rs : List MapRange) → AllByRecursion IsSoundRange rs
    → IfSome (option_map (moved_by a) (find test rs)) Fits
found_fits test a step [] all = tt
found_fits test a step (r ∷ rs) all = elim (cases_Bool (test r)) [
  | inl is ↦ rw is (step r all.0 is)
  | inr other ↦ rw other (found_fits test a step rs all.1)
]

named_fits : (addend : ℕ) (o : Option MapName) → IfSome (option_map (λ (n : MapName). (n.linked + addend) % 2 ^ 64) o) Fits
named_fits addend None = tt
named_fits addend (Some n) = omega arith

pub moved_fits : (map : AddrMap) (at : Addr) → IsSound map → IfSome (moved map at) Fits
moved_fits map (addrs.Placed a) sound = found_fits (holds a) a (λ r s e. moved_by_fits a r s e) map.ranges (recursion_from_All IsSoundRange map.ranges sound.ranges)
moved_fits map (addrs.Named symbol addend) sound = named_fits addend _
moved_fits map (addrs.Fixed n) sound = tt

pub moved_end_fits : (map : AddrMap) (at : Addr) → IsSound map → IfSome (moved_end map at) Fits
moved_end_fits map (addrs.Placed a) sound = found_fits (holds_end a) a (λ r s e. moved_end_by_fits a r s e) map.ranges (recursion_from_All IsSoundRange map.ranges sound.ranges)
moved_end_fits map (addrs.Named symbol addend) sound = tt
moved_end_fits map (addrs.Fixed n) sound = tt
