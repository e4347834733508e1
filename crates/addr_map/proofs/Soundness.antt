-- The map that is built is sound.
use Rattle.std.proofs.Common.{◌≡◌, ℕ, ◌+◌, ◌-◌, ◌^◌, ◌<◌, ◌≤◌, min, Bool, true, false, cond, List, [], ◌∷◌, nat_lt, Option, Some, None, IfSome, refl, arith, inl, inr}
use Rattle.std.specs.Bool.{⊤}
use Rattle.std.specs.List.{AllByRecursion, AllPairs, cons_option, filter_map}
use Rattle.std.specs.Option.{option_and_then, option_map}
use Rattle.std.proofs.lemmas.Bool.{cases_Bool, ltb-true}
use Rattle.std.proofs.lemmas.List.Elements.{All-from_recursion}
use Rattle.std.proofs.lemmas.List.Kept.{AllPairs-cons}
use Rattle.macho_read.specs.declared.image.Image.{Image}
use Rattle.macho_read.specs.declared.image.Symbol.{Symbol}
use Rattle.stab_map.specs.declared.object.MapEntry.{MapEntry}
use Rattle.macho_read.specs.declared.standing.Standing.{Standing}
use Rattle.macho_read.specs.declared.standing.Standing.TheVariants as standings
use Rattle.macho_read.specs.Standings.{standing_of}
use Rattle.addr_map.specs.declared.entry.Given.{Given}
use Rattle.addr_map.specs.declared.entry.Given.TheVariants as givens
use Rattle.addr_map.specs.declared.map.MapRange.{MapRange}
use Rattle.addr_map.specs.Entries.{end_of, given_at, given_of, named, range_from}
use Rattle.ds_base.specs.InOrder.{in_order}
use Rattle.addr_map.specs.Ranges.{cut, kept, map_from, name_part, range_part}
use Rattle.addr_map.specs.Sound.{IsSound, IsSoundRange}
use Rattle.addr_map.proofs.Order.{in_order_all, in_order_rise, Rise, rise_pairs}

-- ---- no address moves past 2^64 - 1

abbrev Fits : MapRange → Type 0
Fits r = r.linked + (r.end - r.start) < 2 ^ 64

range_fits : (linked start end : ℕ) → IfSome (range_from linked start end) Fits
range_fits linked start end = elim (cases_Bool (nat_lt (linked + (end - start)) (2 ^ 64))) [
  | inl is ↦ rw is (ltb-true (linked + (end - start)) (2 ^ 64) is)
  | inr other ↦ rw other tt
]

ended_fits : (linked start : ℕ) (end : Option ℕ) → IfSome (option_and_then (λ e. range_from linked start e) end) Fits
ended_fits linked start None = tt
ended_fits linked start (Some end) = range_fits linked start end

abbrev GivenFits : Given → Type 0
GivenFits (givens.Range r) = Fits r
GivenFits (givens.Name n) = ⊤

as_given : (o : Option MapRange) → IfSome o Fits → IfSome (option_map (λ r. givens.Range r) o) GivenFits
as_given None fits = tt
as_given (Some r) fits = fits

at_fits : (image : Image) (entry : MapEntry) (standing : Standing) (symbol start : ℕ) → IfSome (given_at image entry standing symbol start) GivenFits
at_fits image entry (standings.Defined section) symbol start = as_given (option_and_then (λ e. range_from entry.linked start e) (end_of image entry.size section start)) (ended_fits entry.linked start (end_of image entry.size section start))
at_fits image entry standings.Common symbol start = tt
at_fits image entry standings.Undefined symbol start = tt
at_fits image entry standings.Absolute symbol start = tt

found_fits : (image : Image) (entry : MapEntry) (found : Option (ℕ × Symbol)) → IfSome (option_and_then (λ s. given_at image entry (standing_of image s.1) s.0 s.1.value) found) GivenFits
found_fits image entry None = tt
found_fits image entry (Some s) = at_fits image entry (standing_of image s.1) s.0 s.1.value

more_fit : (o : Option Given) (gs : List Given) → IfSome o GivenFits → AllByRecursion GivenFits gs → AllByRecursion GivenFits (cons_option o gs)
more_fit None gs fits all = all
more_fit (Some g) gs fits all = (fits, all)

given_fit : (image : Image) (entries : List MapEntry) → AllByRecursion GivenFits (filter_map (given_of image) entries)
given_fit image [] = tt
given_fit image (e ∷ es) = more_fit (given_of image e) (filter_map (given_of image) es) (found_fits image e (named image e.name)) (given_fit image es)

ranges_fit : (gs : List Given) → AllByRecursion GivenFits gs → AllByRecursion Fits (filter_map range_part gs)
ranges_fit [] all = tt
ranges_fit (givens.Range r ∷ gs) all = (all.0, ranges_fit gs all.1)
ranges_fit (givens.Name n ∷ gs) all = ranges_fit gs all.1

-- ---- the cuts that hold an address

kept_if : (P : MapRange → Type 0) (b : Bool) (r : MapRange) (rs : List MapRange) → (b ≡ true → P r) → AllByRecursion P rs → AllByRecursion P (cond b (r ∷ rs) rs)
kept_if P true r rs p all = (p refl, all)
kept_if P false r rs p all = all

cuts_sound : (rs : List MapRange) → AllByRecursion Fits rs → AllByRecursion IsSoundRange (kept (cut rs))
cuts_sound [] fits = tt
cuts_sound (r ∷ []) fits = kept_if IsSoundRange (nat_lt r.start r.end) r [] (λ holds. record { not_empty = ltb-true r.start r.end holds; fits = fits.0 }) tt
cuts_sound (r ∷ next ∷ rs) fits =
    let whole : r.linked + (r.end - r.start) < 2 ^ 64 = fits.0 in
    kept_if IsSoundRange (nat_lt r.start (min r.end next.start)) (record r { end = min r.end next.start }) (kept (cut (next ∷ rs)))
    (λ holds. record { not_empty = ltb-true r.start (min r.end next.start) holds; fits = omega arith }) (cuts_sound (next ∷ rs) fits.1)

-- what holds of the starts holds of those of the cuts
starts_kept : (P : ℕ → Type 0) (rs : List MapRange) → AllByRecursion (λ l. P l.start) rs → AllByRecursion (λ l. P l.start) (kept (cut rs))
starts_kept P [] all = tt
starts_kept P (r ∷ []) all = kept_if (λ l. P l.start) (nat_lt r.start r.end) r [] (λ holds. all.0) tt
starts_kept P (r ∷ next ∷ rs) all = kept_if (λ l. P l.start) (nat_lt r.start (min r.end next.start)) (record r { end = min r.end next.start }) (kept (cut (next ∷ rs))) (λ holds. all.0) (starts_kept P (next ∷ rs) all.1)

abbrev Apart : List MapRange → Type 0
Apart [] = ⊤
Apart (r ∷ rs) = AllByRecursion (λ later. r.end ≤ later.start) rs × Apart rs

apart_if : (b : Bool) (r : MapRange) (rs : List MapRange) → AllByRecursion (λ later. r.end ≤ later.start) rs → Apart rs → Apart (cond b (r ∷ rs) rs)
apart_if true r rs all apart = (all, apart)
apart_if false r rs all apart = apart

at_least : (m n : ℕ) → m ≤ n → (rs : List MapRange) → AllByRecursion (λ l. n < l.start) rs → AllByRecursion (λ l. m ≤ l.start) rs
at_least m n le [] all = tt
at_least m n le (r ∷ rs) all = let h : n < r.start = all.0 in (omega arith, at_least m n le rs all.1)

cuts_apart : (rs : List MapRange) → Rise (λ r. r.start) rs → Apart (kept (cut rs))
cuts_apart [] rise = tt
cuts_apart (r ∷ []) rise = apart_if (nat_lt r.start r.end) r [] tt tt
cuts_apart (r ∷ next ∷ rs) rise =
    let cut_end : ℕ = min r.end next.start in
    let below : cut_end ≤ next.start = omega arith in
    apart_if (nat_lt r.start cut_end) (record r { end = cut_end }) (kept (cut (next ∷ rs))) (starts_kept (λ n. min r.end next.start ≤ n) (next ∷ rs) (below, at_least cut_end next.start below rs rise.1.0)) (cuts_apart (next ∷ rs) rise.1)

apart_pairs : (rs : List MapRange) → Apart rs → AllPairs (λ r later. r.end ≤ later.start) rs
apart_pairs [] apart = λ i j d lt within. absurd (omega arith)
apart_pairs (r ∷ rs) apart = AllPairs-cons (λ r later. r.end ≤ later.start) r rs (All-from_recursion (λ later. r.end ≤ later.start) rs apart.0) (apart_pairs rs apart.1)

-- ---- the whole map

from_sound : (given : List Given) → AllByRecursion GivenFits given → IsSound (map_from given)
from_sound given fits =
    let ranges : List MapRange = in_order (λ r. r.start) (filter_map range_part given) in
    record {
      ranges = All-from_recursion IsSoundRange (kept (cut ranges)) (cuts_sound ranges (in_order_all Fits (λ r. r.start) (filter_map range_part given) (ranges_fit given fits)));
      apart = apart_pairs (kept (cut ranges)) (cuts_apart ranges (in_order_rise (λ r. r.start) (filter_map range_part given)));
      names = rise_pairs (λ n. n.symbol) (in_order (λ n. n.symbol) (filter_map name_part given)) (in_order_rise (λ n. n.symbol) (filter_map name_part given));
    }

pub map_sound : (image : Image) (entries : List MapEntry) → IsSound (map_from (filter_map (given_of image) entries))
map_sound image entries = from_sound (filter_map (given_of image) entries) (given_fit image entries)
