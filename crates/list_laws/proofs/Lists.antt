-- What is read of a list is spelled so, and what is spelled so is read, whatever follows the spans of its items.
use Rattle.std.proofs.Common.{◌≡◌, ℕ, zero, suc, ◌+◌, ◌-◌, ◌<◌, ◌≤◌, Bool, true, false, List, [], ◌∷◌, ◌++◌, length, drop, Option, Some, None, Result, Ok, Err, refl, sym, ap, subst, ◌∙◌, append_assoc, arith, if◌then◌else◌, inl, inr}
use Rattle.std.specs.List.{cons_option, filter_map}
use Rattle.std.proofs.lemmas.Bool.{cases_lt}
use Rattle.std.proofs.lemmas.List.{length-append, length-drop, take_all, drop_all}
use Rattle.ds_base.specs.declared.fault.Fault.{Fault}
use Rattle.ds_base.specs.declared.fault.Part.{Part}
use Rattle.ds_base.specs.Spot.{Spot, after, rest}
use Rattle.ds_base.specs.Reading.{◌>>=◌, unless_stopped}
use Rattle.ds_base.proofs.Passing.{ok_is}
use Rattle.dwarf_types.specs.declared.address.Addr.{Addr}
use Rattle.dwarf_types.specs.declared.lists.RawSpan.{RawSpan}
use Rattle.dwarf_types.specs.Spelled.{AreBytes}
use Rattle.dwarf_types.proofs.Readers.{IsBytes, IsBytes-drop, IsBytes-from, Reader, Stands, length_rest}
use Rattle.list_items.specs.declared.context.ListForm.{ListForm}
use Rattle.list_items.specs.declared.context.ListForm.TheVariants as forms
use Rattle.list_items.specs.declared.item.Item.{Item}
use Rattle.list_items.specs.declared.item.Item.TheVariants as items
use Rattle.list_items.specs.Context.{Context}
use Rattle.list_items.specs.Ends.{is_empty}
use Rattle.list_items.specs.Lists.{Behind, Listing, Says, defaults, spans, behind_it, given, items_from, list_in, list_of, list_spot, listed, said_at, whole_at}
use Rattle.list_items.specs.Reading.{formed_at, item_at}
use Rattle.list_items.proofs.Items.{item_kept}
use Rattle.list_items.proofs.SpellingLaws.{entry_reader}
use Rattle.list_laws.specs.Spelling.{Follows, SpellsAny, SpellsList, SpellsNext, StandsAt, at_base, at_default, at_end, at_span}
use Rattle.list_laws.proofs.Pairs.{pair_reader}
use Rattle.list_laws.proofs.Placed.{PlacedReader, placed_from}
use Rattle.list_laws.proofs.Placed.{behind_it as left_behind}

-- ---- an item

module _ (c : Context) (none : c.relocs.list ≡ []) (base : Addr) where
  formed_reader : (form : ListForm) → Reader (formed_at form c base) (SpellsAny form c base)
  formed_reader forms.Words = pair_reader c none base
  formed_reader forms.RangeEntries = entry_reader c none base
  formed_reader forms.LocationEntries = entry_reader c none base

  formed_item : Reader (item_at c base) (SpellsNext c base)
  unfolding item_at
  formed_item = formed_reader c.form

  item_reader : PlacedReader (item_at c base) (λ place. SpellsNext c base)
  item_reader = placed_from (item_at c base) (SpellsNext c base) formed_item (λ s y e. let k = item_kept c base s y e in let f = k.0 in f.onward)

-- ---- what items give

-- a fault that stopped the items, or what they give
abbrev answered : {A : Type 0} → Option Fault → List A → Result (List A) Fault
answered stop given = unless_stopped stop >>= λ _. Ok given

record Parts {A : Type 0} (b : Bool) (stop : Option Fault) (x : A) (given all : List A) : Type 0 where
  rest_is : answered stop given ≡ Ok given
  whole : all ≡ (if b then given else x ∷ given)

parts_of : {A : Type 0} (b : Bool) (stop : Option Fault) (x : A) (given all : List A) → answered stop (cons_option (if b then None else Some x) given) ≡ Ok all → Parts b stop x given all
parts_of true None x given all e = record { rest_is = refl; whole = sym (ok_is given all e) }
parts_of false None x given all e = record { rest_is = refl; whole = sym (ok_is (x ∷ given) all e) }
parts_of b (Some f) x given all e = absurd cc

-- the other way round
joined : {A : Type 0} (b : Bool) (stop : Option Fault) (x : A) (given all : List A) → answered stop given ≡ Ok all → answered stop (cons_option (if b then None else Some x) given) ≡ Ok (if b then all else x ∷ all)
joined true None x given all e = e
joined {A} false None x given all e = ap (λ (ys : List A). Ok (x ∷ ys)) (ok_is given all e)
joined b (Some f) x given all e = absurd cc

module _ {A : Type 0} (c : Context) (none : c.relocs.list ≡ []) (behind : Behind A) (Spells : Follows A) (readers : (item : ℕ) (span : Option RawSpan) → PlacedReader (behind item span) (Spells item span)) where
  abbrev listing : ℕ → Addr → Spot → Listing A
  listing left base s = items_from (whole_at c behind) left base s

  abbrev given_by : Listing A → List A
  given_by l = filter_map (λ item. given item.says) l.items

  abbrev continued : ℕ → Addr → Says A → Spot → Listing A
  continued left base says t = behind_it says base (λ b. listing left b t)

  -- a list stands where a cursor stands
  record Found (base : Addr) (s : Spot) (all : List A) : Type 0 where
    bytes : List ℕ
    more : List ℕ
    is : rest s ≡ bytes ++ more
    spells : SpellsList c Spells base s.place bytes all

  -- ---- what is read is spelled so

  module _ (left : ℕ) (again : (b : Addr) (t : Spot) (given : List A) → Stands t → list_of (listing left b t) ≡ Ok given → Found b t given) (base : Addr) (s : Spot) (all : List A) (h : Stands s) where
    by_behind : (b : Bool) (item : Item) (span : Option RawSpan) (t : Spot) → item_at c base s ≡ Ok (item, t)
        → ((bytes front more : List ℕ) (x : A) (given : List A) → SpellsNext c base bytes item → Spells s.place span (s.place + length bytes) front x → SpellsList c Spells base (s.place + length bytes + length front) more given
        → SpellsList c Spells base s.place (bytes ++ (front ++ more)) (if b then given else x ∷ given))
        → (x : A) (u : Spot) → behind s.place span t ≡ Ok (x, u) → answered (listing left base u).stop (cons_option (if b then None else Some x) (given_by (listing left base u))) ≡ Ok all → Found base s all
    by_behind b item span t at said x u read e =
        let f = (item_reader c none base).takes s item t h at in
        let g = (readers s.place span).takes t x u f.stands read in
        let p = parts_of b (listing left base u).stop x (given_by (listing left base u)) all e in
        let r = again base u (given_by (listing left base u)) g.stands p.rest_is in
        let t_place : t.place ≡ s.place + length f.bytes = ap (λ (y : Spot). y.place) f.ends in
        let u_place : u.place ≡ t.place + length g.bytes = ap (λ (y : Spot). y.place) g.ends in
        let u_is : u.place ≡ s.place + length f.bytes + length g.bytes = omega (arith, t_place, u_place) in
        record {
          bytes = f.bytes ++ (g.bytes ++ r.bytes);
          more = r.more;
          is = f.parts ∙ ap (λ (xs : List ℕ). f.bytes ++ xs) (g.parts ∙ ap (λ (xs : List ℕ). g.bytes ++ xs) r.is ∙ sym (append_assoc g.bytes r.bytes r.more)) ∙ sym (append_assoc f.bytes (g.bytes ++ r.bytes) r.more);
          spells = subst (SpellsList c Spells base s.place (f.bytes ++ (g.bytes ++ r.bytes))) (sym p.whole)
              (said f.bytes g.bytes r.bytes x (given_by (listing left base u)) f.spells (subst (λ (q : ℕ). Spells s.place span q g.bytes x) t_place g.spells) (subst (λ (q : ℕ). SpellsList c Spells base q r.bytes (given_by (listing left base u))) u_is r.spells));
        }

    by_default : (t : Spot) → item_at c base s ≡ Ok (items.Default, t) → (r : Result (A × Spot) Fault) → behind s.place None t ≡ r
        → list_of (listed s (r >>= λ x. Ok (defaults x.0, x.1)) (continued left base)) ≡ Ok all → Found base s all
    by_default t at (Ok x) read e = by_behind false items.Default None t at (λ bytes front more y given is follows rest_is. at_default base s.place bytes front more y given is follows rest_is) x.0 x.1 read e
    by_default t at (Err f) read e = absurd cc

    by_span : (span : RawSpan) (t : Spot) → item_at c base s ≡ Ok (items.Span span, t) → (r : Result (A × Spot) Fault) → behind s.place (Some span) t ≡ r
        → list_of (listed s (r >>= λ x. Ok (spans span x.0, x.1)) (continued left base)) ≡ Ok all → Found base s all
    by_span span t at (Ok x) read e = by_behind (is_empty span) (items.Span span) (Some span) t at (λ bytes front more y given is follows rest_is. at_span base s.place span bytes front more y given is follows rest_is) x.0 x.1 read e
    by_span span t at (Err f) read e = absurd cc

    by_kind : (item : Item) (t : Spot) → item_at c base s ≡ Ok (item, t) → list_of (listed s (said_at behind s.place item t) (continued left base)) ≡ Ok all → Found base s all
    by_kind items.End t at e =
        let f = (item_reader c none base).takes s items.End t h at in
        record { bytes = f.bytes; more = rest t; is = f.parts; spells = subst (SpellsList c Spells base s.place f.bytes) (ok_is [] all e) (at_end base s.place f.bytes f.spells) }
    by_kind (items.Base selected) t at e =
        let f = (item_reader c none base).takes s (items.Base selected) t h at in
        let r = again selected t all f.stands e in
        record {
          bytes = f.bytes ++ r.bytes;
          more = r.more;
          is = f.parts ∙ ap (λ (xs : List ℕ). f.bytes ++ xs) r.is ∙ sym (append_assoc f.bytes r.bytes r.more);
          spells = at_base base selected s.place f.bytes r.bytes all f.spells (subst (λ (p : ℕ). SpellsList c Spells selected p r.bytes all) (ap (λ (x : Spot). x.place) f.ends) r.spells);
        }
    by_kind items.Default t at e = by_default t at (behind s.place None t) refl e
    by_kind (items.Span span) t at e = by_span span t at (behind s.place (Some span) t) refl e

    by_item : (r : Result (Item × Spot) Fault) → item_at c base s ≡ r → list_of (listed s (r >>= λ item. said_at behind s.place item.0 item.1) (continued left base)) ≡ Ok all → Found base s all
    by_item (Ok x) at e = by_kind x.0 x.1 at e
    by_item (Err f) at e = absurd cc

  found : (left : ℕ) (base : Addr) (s : Spot) (all : List A) → Stands s → list_of (listing left base s) ≡ Ok all → Found base s all
  found zero base s all h e = absurd cc
  found (suc left) base s all h e = by_item left (found left) base s all h (item_at c base s) refl e

  -- ---- what is spelled so is read

  record Next (base : Addr) (s : Spot) (bytes : List ℕ) (item : Item) (more : List ℕ) : Type 0 where
    reads : item_at c base s ≡ Ok (item, after s (length bytes))
    some : 0 < length bytes
    fits : length bytes ≤ s.end - s.place
    left : rest (after s (length bytes)) ≡ more
    stands : Stands (after s (length bytes))

  next : (base : Addr) (s : Spot) (bytes : List ℕ) (item : Item) (more : List ℕ) → Stands s → SpellsNext c base bytes item → rest s ≡ bytes ++ more → Next base s bytes item more
  next base s bytes item more h spells parts =
      let reads = (item_reader c none base).again s bytes item more h spells parts in
      let further = (item_kept c base s (item, after s (length bytes)) reads).0 in
      let left = left_behind s bytes more h parts in
      record {
        reads = reads;
        some = omega (arith, further.some);
        fits = omega (arith, length_rest s h, ap length parts, length-append bytes more);
        left = left.0;
        stands = left.1;
      }

  -- an item and what follows its span
  with_behind : (b : Bool) (left : ℕ) (base : Addr) (s : Spot) (bytes front more : List ℕ) (item : Item) (span : Option RawSpan) (x : A) (all : List A) → Stands s → SpellsNext c base bytes item
      → Spells s.place span (s.place + length bytes) front x → rest s ≡ (bytes ++ (front ++ more)) → s.end - s.place ≤ suc left
      → ((t : Spot) (y : A) (u : Spot) → behind s.place span t ≡ Ok (y, u) → list_of (listed s (said_at behind s.place item t) (continued left base)) ≡ answered (listing left base u).stop (cons_option (if b then None else Some y) (given_by (listing left base u))))
      → ((u : Spot) → u.place ≡ s.place + length bytes + length front → Stands u → rest u ≡ more → u.end - u.place ≤ left → list_of (listing left base u) ≡ Ok all)
      → list_of (listing (suc left) base s) ≡ Ok (if b then all else x ∷ all)
  with_behind b left base s bytes front more item span x all h is follows parts fits unfolds more_is =
      let n = next base s bytes item (front ++ more) h is parts in
      let middle = after s (length bytes) in
      let read = (readers s.place span).again middle front x more n.stands follows n.left in
      let u = after middle (length front) in
      let behind_front = left_behind middle front more n.stands n.left in
      let n_some = n.some in
      let n_fits = n.fits in
      let later = more_is u refl behind_front.1 behind_front.0 (omega (arith, n_some, fits)) in
      ap (λ (r : Result (Item × Spot) Fault). list_of (listed s (r >>= λ item. said_at behind s.place item.0 item.1) (continued left base))) n.reads ∙ unfolds middle x u read
      ∙ joined b (listing left base u).stop x (given_by (listing left base u)) all later

  none_left : (base : Addr) (s : Spot) (bytes : List ℕ) (item : Item) (more : List ℕ) → Stands s → SpellsNext c base bytes item → rest s ≡ bytes ++ more → s.end - s.place ≤ 0 → ⊥
  none_left base s bytes item more h is parts fits = let n = next base s bytes item more h is parts in let some = n.some in let n_fits = n.fits in omega (arith, some, n_fits, fits)

  only : (left : ℕ) (base : Addr) (place : ℕ) (bytes : List ℕ) (all : List A) → SpellsList c Spells base place bytes all → (s : Spot) → s.place ≡ place → Stands s → (more : List ℕ) → rest s ≡ bytes ++ more → s.end - s.place ≤ left
      → list_of (listing left base s) ≡ Ok all
  only zero _ _ _ _ (at_end base place bytes is) s at h more parts fits = absurd (none_left base s bytes items.End more h is parts fits)
  only zero _ _ _ _ (at_base base selected place bytes back given is later) s at h more parts fits = absurd (none_left base s bytes (items.Base selected) (back ++ more) h is (parts ∙ append_assoc bytes back more) fits)
  only zero _ _ _ _ (at_default base place bytes front back x given is follows later) s at h more parts fits =
      absurd (none_left base s bytes items.Default ((front ++ back) ++ more) h is (parts ∙ append_assoc bytes (front ++ back) more) fits)
  only zero _ _ _ _ (at_span base place span bytes front back x given is follows later) s at h more parts fits =
      absurd (none_left base s bytes (items.Span span) ((front ++ back) ++ more) h is (parts ∙ append_assoc bytes (front ++ back) more) fits)
  only (suc left) _ _ _ _ (at_end base place bytes is) s at h more parts fits =
      let n = next base s bytes items.End more h is parts in
      ap (λ (r : Result (Item × Spot) Fault). list_of (listed s (r >>= λ item. said_at behind s.place item.0 item.1) (continued left base))) n.reads
  only (suc left) _ _ _ _ (at_base base selected place bytes back given is later) s at h more parts fits =
      let n = next base s bytes (items.Base selected) (back ++ more) h is (parts ∙ append_assoc bytes back more) in
      let some = n.some in
      ap (λ (r : Result (Item × Spot) Fault). list_of (listed s (r >>= λ item. said_at behind s.place item.0 item.1) (continued left base))) n.reads
      ∙ only left selected (place + length bytes) back given later (after s (length bytes)) (ap (λ (p : ℕ). p + length bytes) at) n.stands more n.left (omega (arith, some, fits))
  only (suc left) _ _ _ _ (at_default base place bytes front back x given is follows later) s at h more parts fits =
      with_behind false left base s bytes front (back ++ more) items.Default None x given h is (subst (λ (p : ℕ). Spells p None (p + length bytes) front x) (sym at) follows)
      (parts ∙ append_assoc bytes (front ++ back) more ∙ ap (λ (xs : List ℕ). bytes ++ xs) (append_assoc front back more)) fits
      (λ t y u read. ap (λ (r : Result (A × Spot) Fault). list_of (listed s (r >>= λ x. Ok (defaults x.0, x.1)) (continued left base))) read)
      (λ u place_is stands left_is count. only left base (place + length bytes + length front) back given later u (place_is ∙ ap (λ (p : ℕ). p + length bytes + length front) at) stands more left_is count)
  only (suc left) _ _ _ _ (at_span base place span bytes front back x given is follows later) s at h more parts fits =
      with_behind (is_empty span) left base s bytes front (back ++ more) (items.Span span) (Some span) x given h is (subst (λ (p : ℕ). Spells p (Some span) (p + length bytes) front x) (sym at) follows)
      (parts ∙ append_assoc bytes (front ++ back) more ∙ ap (λ (xs : List ℕ). bytes ++ xs) (append_assoc front back more)) fits
      (λ t y u read. ap (λ (r : Result (A × Spot) Fault). list_of (listed s (r >>= λ x. Ok (spans span x.0, x.1)) (continued left base))) read)
      (λ u place_is stands left_is count. only left base (place + length bytes + length front) back given later u (place_is ∙ ap (λ (p : ℕ). p + length bytes + length front) at) stands more left_is count)

  -- ---- a list in its section

  all_left : (part : Part) (section : List ℕ) (offset : ℕ) → rest (list_spot part section offset) ≡ drop offset section
  all_left part section offset = take_all (length section - offset) (drop offset section) (omega (arith, length-drop offset section))

  stands_in : (part : Part) (section : List ℕ) (offset : ℕ) → offset ≤ length section → AreBytes section → Stands (list_spot part section offset)
  stands_in part section offset le are = record {
    place = record { before_end = le; in_bytes = omega arith };
    bytes = subst IsBytes (sym (all_left part section offset)) (IsBytes-drop offset section (IsBytes-from section are));
  }

  pub list_found : (part : Part) (section : List ℕ) (offset : ℕ) (base : Addr) (all : List A) → AreBytes section → list_in part section c behind offset base ≡ Ok all → StandsAt c Spells base section offset all
  list_found part section offset base all are e =
      elim (cases_lt (length section) offset) [
        | inl past ↦ absurd (none_read (length section - offset) (omega (arith, past)) e)
        | inr le ↦ by le
      ]
    where
      none_read : (count : ℕ) → count ≡ 0 → list_of (listing count base (list_spot part section offset)) ≡ Ok all → ⊥
      none_read count is e = err (subst (λ (n : ℕ). list_of (listing n base (list_spot part section offset)) ≡ Ok all) is e)
        where
          err : list_of (listing 0 base (list_spot part section offset)) ≡ Ok all → ⊥
          err e = absurd cc

      by : offset ≤ length section → StandsAt c Spells base section offset all
      by le =
          let f = found (length section - offset) base (list_spot part section offset) all (stands_in part section offset le are) e in
          record { bytes = f.bytes; more = f.more; is = sym (all_left part section offset) ∙ f.is; spells = f.spells }

  -- a list has bytes
  first_some : (part : Part) (base : Addr) (bytes more : List ℕ) (item : Item) → SpellsNext c base bytes item → [] ≡ bytes ++ more → ⊥
  first_some part base bytes more item is e = none_left base (list_spot part [] 0) bytes item more (stands_in part [] 0 (omega arith) tt) is e (omega arith)

  some_bytes : (part : Part) (base : Addr) (place : ℕ) (bytes : List ℕ) (all : List A) → SpellsList c Spells base place bytes all → (more : List ℕ) → [] ≡ bytes ++ more → ⊥
  some_bytes part _ _ _ _ (at_end base place bytes is) more e = first_some part base bytes more items.End is e
  some_bytes part _ _ _ _ (at_base base selected place bytes back given is later) more e = first_some part base bytes (back ++ more) (items.Base selected) is (e ∙ append_assoc bytes back more)
  some_bytes part _ _ _ _ (at_default base place bytes front back x given is follows later) more e = first_some part base bytes ((front ++ back) ++ more) items.Default is (e ∙ append_assoc bytes (front ++ back) more)
  some_bytes part _ _ _ _ (at_span base place span bytes front back x given is follows later) more e = first_some part base bytes ((front ++ back) ++ more) (items.Span span) is (e ∙ append_assoc bytes (front ++ back) more)

  pub list_again : (part : Part) (section : List ℕ) (offset : ℕ) (base : Addr) (all : List A) → AreBytes section → StandsAt c Spells base section offset all → list_in part section c behind offset base ≡ Ok all
  list_again part section offset base all are stands =
      elim (cases_lt (length section) offset) [
        | inl past ↦ absurd (some_bytes part base offset stands.bytes all stands.spells stands.more (sym (drop_all offset section (omega (arith, past))) ∙ stands.is))
        | inr le ↦ only (length section - offset) base offset stands.bytes all stands.spells (list_spot part section offset) refl (stands_in part section offset le are) stands.more (all_left part section offset ∙ stands.is) (omega arith)
      ]
