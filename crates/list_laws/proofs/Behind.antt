-- What follows the span of an item is read as it is spelled.
use Rattle.std.proofs.Common.{◌≡◌, ℕ, ◌+◌, ◌==◌, Bool, true, false, List, [], ◌++◌, length, Option, Result, Ok, Err, refl, sym, ap, subst, ◌∙◌, append_assoc, arith}
use Rattle.ds_base.specs.declared.fault.Fault.{Fault}
use Rattle.ds_base.specs.Spot.{Spot, after, rest}
use Rattle.ds_base.specs.Reading.{◌>>=◌, bytes_at}
use Rattle.ds_base.proofs.Onward.{Onward, bytes_onward, number_onward, uleb_onward}
use Rattle.ds_base.proofs.Passing.{bind_ok, ok_is}
use Rattle.dwarf_types.specs.declared.lists.RawLocation.{RawLocation}
use Rattle.dwarf_types.specs.declared.lists.RawSpan.{RawSpan}
use Rattle.dwarf_types.specs.Spelled.{IsCopy}
use Rattle.dwarf_types.proofs.Readers.{AreBytes-from, Reader, Stands, front_bytes, bytes_reader, number_reader, uleb_reader}
use Rattle.list_items.specs.Items.{covered}
use Rattle.loc_lists.specs.declared.locations.LocationItem.{LocationItem}
use Rattle.loc_lists.specs.Reading.{expression_at, item_behind, len_at, location_at}
use Rattle.range_lists.specs.Reading.{range_at}
use Rattle.list_laws.specs.Spelling.{FollowsItem, FollowsLocation, FollowsRange, SpellsLength, as_location}
use Rattle.list_laws.proofs.Placed.{Placed, PlacedReader, behind_it, ends_both, made_placed, placed_from}

-- ---- ranges

pub range_reader : (item : ℕ) (span : Option RawSpan) → PlacedReader (range_at item span) (FollowsRange item span)
range_reader item span = record {
  takes = λ s a t h e.
      subst (λ (q : RawSpan × Spot). Placed (FollowsRange item span) s q.0 q.1) (ok_is (covered span, s) (a, t) e)
      (record { bytes = []; spells = (refl, refl); parts = refl; ends = ap (λ (p : ℕ). record s { place = p }) (omega arith); stands = h });
  again = λ s bytes a more h spells parts.
      let here : s ≡ after s (length bytes) = ap (λ (p : ℕ). record s { place = p }) (omega (arith, ap length spells.0)) in
      ap (λ (x : RawSpan). Ok (x, s)) (sym spells.1) ∙ ap (λ (t : Spot). Ok (a, t)) here;
}

-- ---- lengths

len_onward : (five : Bool) (s : Spot) (y : ℕ × Spot) → len_at five s ≡ Ok y → Onward s y.1
len_onward true s y e = uleb_onward s y e
len_onward false s y e = number_onward 2 s y e

plain_len : (five : Bool) → Reader (len_at five) (SpellsLength five)
plain_len true = uleb_reader
plain_len false = number_reader 2

len_reader : (five : Bool) → PlacedReader (len_at five) (λ place. SpellsLength five)
len_reader five = placed_from (len_at five) (SpellsLength five) (plain_len five) (len_onward five)

-- ---- expressions behind their length

copy_reader : (n : ℕ) → PlacedReader (bytes_at n) (λ place. IsCopy n)
copy_reader n = placed_from (bytes_at n) (IsCopy n) (bytes_reader n) (bytes_onward n)

abbrev item_of : Option RawSpan → ℕ → ℕ → List ℕ → LocationItem
item_of span place first bytes = record { span = span; place = place; first = first; bytes = bytes }

module _ (version item : ℕ) (span : Option RawSpan) where
  abbrev told : (ℕ × List ℕ) × Spot → LocationItem × Spot
  told e = (item_of span item e.0.0 e.0.1, e.1)

  item_taken : (s : Spot) (a : LocationItem) (t : Spot) → Stands s → item_behind version item span s ≡ Ok (a, t) → Placed (FollowsItem version item span) s a t
  unfolding expression_at
  item_taken s a t h e =
      let whole = bind_ok (expression_at version s) _ (a, t) e in
      let len = bind_ok (len_at (version == 5) s) _ whole.0 whole.1 in
      let bytes = bind_ok (bytes_at len.0.0 len.0.1) _ whole.0 len.2 in
      let f = (len_reader (version == 5)).takes s len.0.0 len.0.1 h len.1 in
      let g = (copy_reader len.0.0).takes len.0.1 bytes.0.0 bytes.0.1 f.stands bytes.1 in
      let given : told ((len.0.1.place, bytes.0.0), bytes.0.1) ≡ (a, t) = ap told (ok_is _ whole.0 bytes.2) ∙ ok_is (told whole.0) (a, t) whole.2 in
      subst (λ (q : LocationItem × Spot). Placed (FollowsItem version item span) s q.0 q.1) given (record {
        bytes = f.bytes ++ g.bytes;
        spells = record {
          size = f.bytes;
          is = ap (λ (xs : List ℕ). f.bytes ++ xs) g.spells.is;
          counts = subst (SpellsLength (version == 5) f.bytes) (sym g.spells.len) f.spells;
          covers = refl;
          begins = refl;
          behind = ap (λ (x : Spot). x.place) f.ends;
        };
        parts = f.parts ∙ ap (λ (xs : List ℕ). f.bytes ++ xs) g.parts ∙ sym (append_assoc f.bytes g.bytes (rest bytes.0.1));
        ends = ends_both s len.0.1 bytes.0.1 f.bytes g.bytes f.ends g.ends;
        stands = g.stands;
      })

  item_again : (s : Spot) (bytes : List ℕ) (a : LocationItem) (more : List ℕ) → Stands s → FollowsItem version item span s.place bytes a → rest s ≡ bytes ++ more
      → item_behind version item span s ≡ Ok (a, after s (length bytes))
  unfolding expression_at
  item_again s bytes a more h spells parts =
      let whole : rest s ≡ spells.size ++ (a.bytes ++ more) = parts ∙ ap (λ (xs : List ℕ). xs ++ more) spells.is ∙ append_assoc spells.size a.bytes more in
      let middle = after s (length spells.size) in
      let left = behind_it s spells.size (a.bytes ++ more) h whole in
      let f = (len_reader (version == 5)).again s spells.size (length a.bytes) (a.bytes ++ more) h spells.counts whole in
      let g = (copy_reader (length a.bytes)).again middle a.bytes a.bytes more left.1 (record { is = refl; sound = AreBytes-from a.bytes (front_bytes middle a.bytes more left.1 left.0); len = refl }) left.0 in
      let same : item_of span item (s.place + length spells.size) a.bytes ≡ a =
      ap (λ (x : Option RawSpan). item_of x item (s.place + length spells.size) a.bytes) (sym spells.covers)
      ∙ ap (λ (p : ℕ). item_of a.span p (s.place + length spells.size) a.bytes) (sym spells.begins)
      ∙ ap (λ (p : ℕ). item_of a.span a.place p a.bytes) (sym spells.behind) in
      let ends : after middle (length a.bytes) ≡ after s (length bytes) = ends_both s middle (after middle (length a.bytes)) spells.size a.bytes refl refl ∙ ap (λ (xs : List ℕ). after s (length xs)) (sym spells.is) in
      rw (f, g) (ap (λ (x : LocationItem). Ok (x, after middle (length a.bytes))) same ∙ ap (λ (t : Spot). Ok (a, t)) ends)

  pub item_reader : PlacedReader (item_behind version item span) (FollowsItem version item span)
  item_reader = record { takes = item_taken; again = item_again }

  -- the same, where a default covers all numbers
  abbrev as_item : (ℕ × List ℕ) × Spot → Result (LocationItem × Spot) Fault
  as_item e = Ok (item_of span item e.0.0 e.0.1, e.1)

  abbrev as_covered : (ℕ × List ℕ) × Spot → Result (RawLocation × Spot) Fault
  as_covered e = Ok (as_location (item_of span item e.0.0 e.0.1), e.1)

  from_location : (s : Spot) (b : RawLocation) (t : Spot) → location_at version item span s ≡ Ok (b, t) → (a : LocationItem) × (item_behind version item span s ≡ Ok (a, t)) × (b ≡ as_location a)
  from_location s b t e = by (expression_at version s) e
    where
      by : (r : Result ((ℕ × List ℕ) × Spot) Fault) → (r >>= as_covered) ≡ Ok (b, t)
          → (a : LocationItem) × ((r >>= as_item) ≡ Ok (a, t)) × (b ≡ as_location a)
      by (Ok x) e =
          let is = ok_is (as_location (item_of span item x.0.0 x.0.1), x.1) (b, t) e in
          (item_of span item x.0.0 x.0.1, ap (λ (q : RawLocation × Spot). Ok (item_of span item x.0.0 x.0.1, q.1)) is, ap (λ (q : RawLocation × Spot). q.0) (sym is))
      by (Err f) e = absurd cc

  to_location : (s : Spot) (a : LocationItem) (t : Spot) → item_behind version item span s ≡ Ok (a, t) → location_at version item span s ≡ Ok (as_location a, t)
  to_location s a t e = by (expression_at version s) e
    where
      by : (r : Result ((ℕ × List ℕ) × Spot) Fault) → (r >>= as_item) ≡ Ok (a, t) → (r >>= as_covered) ≡ Ok (as_location a, t)
      by (Ok x) e = ap (λ (q : LocationItem × Spot). Ok (as_location q.0, q.1)) (ok_is (item_of span item x.0.0 x.0.1, x.1) (a, t) e)
      by (Err f) e = absurd cc

  pub location_reader : PlacedReader (location_at version item span) (FollowsLocation version item span)
  location_reader = made_placed as_location (item_behind version item span) (location_at version item span) (FollowsItem version item span) (FollowsLocation version item span) from_location to_location
      (λ place bytes a spells. record { of = a; spells = spells; is = refl }) (λ place bytes b spells. (spells.of, spells.spells, spells.is)) item_reader
