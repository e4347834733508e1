-- Written lists are spelled so.
use Rattle.std.proofs.Common.{◌≡◌, ℕ, ◌+◌, ◌^◌, ◌%◌, ◌<◌, ◌==◌, Bool, true, false, List, [], ◌∷◌, ◌++◌, length, replicate, Some, All, refl, sym, ap, ap₂, subst, ◌∙◌, append_assoc, length-append, arith, if◌then◌else◌}
use Rattle.std.specs.List.{flat_map}
use Rattle.std.proofs.lemmas.Bool.{le-leb, ne_eqb}
use Rattle.std.proofs.lemmas.List.Elements.{All-head, All-tail}
use Rattle.byteorder.specs.Endian.{little_bytes}
use Rattle.ds_base.specs.DwarfNumbers.{DW_LLE_start_end, DW_RLE_end_of_list, DW_RLE_start_end}
use Rattle.ds_base.specs.Leb.{uleb, uleb_len_of}
use Rattle.ds_base.proofs.LebLengths.{length-uleb}
use Rattle.dwarf_types.specs.declared.address.Addr.{Addr}
use Rattle.dwarf_types.specs.declared.address.Addr.TheVariants as addrs
use Rattle.dwarf_types.specs.declared.address.Span.{Span}
use Rattle.dwarf_types.specs.declared.graph.OutLocation.{OutLocation}
use Rattle.dwarf_types.specs.declared.lists.RawSpan.{RawSpan}
use Rattle.dwarf_types.specs.Expressions.{expression_bytes, expression_len}
use Rattle.dwarf_types.specs.Lists.{end_of_list, kind_bytes, kind_len, location_bytes, location_len, location_list_bytes, range_bytes, range_list_bytes, size_bytes, size_len, span_bytes}
use Rattle.dwarf_types.specs.WellValues.{IsSpan}
use Rattle.dwarf_types.proofs.LebNumbers.{is_uleb}
use Rattle.dwarf_types.proofs.Lengths.{length-expression}
use Rattle.list_items.specs.declared.context.ListForm.{ListForm}
use Rattle.list_items.specs.declared.context.ListForm.TheVariants as forms
use Rattle.list_items.specs.declared.item.Item.TheVariants as items
use Rattle.list_items.specs.declared.kinds.EntryKind.TheVariants as entries
use Rattle.list_items.specs.Context.{Context}
use Rattle.list_items.specs.Ends.{belong_together, is_empty}
use Rattle.list_items.specs.EntryKinds.{kind_in, location_kind, range_kind}
use Rattle.list_items.specs.Spelling.{SpellsItem}
use Rattle.list_laws.specs.Again.{IsShort, read_item, read_items, read_span, read_spans}
use Rattle.list_laws.specs.Spelling.{Follows, FollowsItem, FollowsRange, SpellsAny, SpellsLength, SpellsList, SpellsNext, SpellsPair, at_end, at_span, behind_base, is_end, is_span}

-- ---- spans

ordered : (span : Span) → IsSpan span → belong_together (read_span span) ≡ true
unfolding belong_together
ordered span is = let some = is.some in le-leb span.low span.high (omega (arith, some))

not_empty : (span : Span) → IsSpan span → is_empty (read_span span) ≡ false
unfolding is_empty
not_empty span is = let some = is.some in ne_eqb span.low span.high (λ e. absurd (omega (arith, e, some)))

spell_pair : (span : Span) → IsSpan span → SpellsPair (addrs.Fixed 0) (span_bytes span) (items.Span (read_span span))
spell_pair span is =
    let some = is.some in
    let fits = is.fits in
    let low : (0 + span.low) % 2 ^ 64 ≡ span.low = omega (arith, some, fits) in
    let high : (0 + span.high) % 2 ^ 64 ≡ span.high = omega (arith, fits) in
    let same : read_span span ≡ behind_base (addrs.Fixed 0) span.low span.high = ap₂ spanning (sym low) (sym high) in
    is_span span.low span.high (omega (arith, some)) (omega (arith, some, fits)) fits refl (subst (λ (s : RawSpan). belong_together s ≡ true) same (ordered span is)) (ap (λ (s : RawSpan). items.Span s) same)
  where
    spanning : ℕ → ℕ → RawSpan
    spanning low high = record { low = addrs.Fixed low; high = addrs.Fixed high }

spell_entry : (c : Context) (base : Addr) (code : ℕ) (span : Span) → IsSpan span → kind_in c.form code ≡ Some entries.StartEnd → code < 256 → code ∷ [] ≡ little_bytes 1 code → SpellsItem c base (code ∷ span_bytes span) (items.Span (read_span span))
spell_entry c base code span is known small one =
    let some = is.some in
    let fits = is.fits in
    record {
      code = code;
      kind = entries.StartEnd;
      known = known;
      spells = record {
        front = code ∷ [];
        back = span_bytes span;
        is = refl;
        first = record { is = one; fits = omega (arith, small) };
        second = record {
          low = addrs.Fixed span.low;
          high = addrs.Fixed span.high;
          front = little_bytes 8 span.low;
          back = little_bytes 8 span.high;
          is = refl;
          first = record { of = span.low; spells = record { is = refl; fits = omega (arith, some, fits) }; is = refl };
          second = record { of = span.high; spells = record { is = refl; fits = omega (arith, fits) }; is = refl };
          ordered = ordered span is;
          span = refl;
        };
      };
    }

spell_end : (c : Context) (base : Addr) → kind_in c.form 0 ≡ Some entries.EndOfList → SpellsItem c base (0 ∷ []) items.End
spell_end c base known = record {
  code = 0;
  kind = entries.EndOfList;
  known = known;
  spells = record { front = 0 ∷ []; back = []; is = refl; first = record { is = refl; fits = omega arith }; second = (refl, refl) };
}

-- ---- lists of both versions

-- the bytes that begin an item and those that end a list, by the form of the list
abbrev kind_of : Bool → ℕ → List ℕ
kind_of five kind = if five then kind ∷ [] else []

abbrev end_of : Bool → List ℕ
end_of five = if five then DW_RLE_end_of_list ∷ [] else replicate 16 0

-- what the spelling of an item and of the end is to a form
record Spelt (c : Context) (five : Bool) (kind : ℕ) : Type 0 where
  item : (span : Span) → IsSpan span → SpellsNext c (addrs.Fixed 0) (kind_of five kind ++ span_bytes span) (items.Span (read_span span))
  last : SpellsNext c (addrs.Fixed 0) (end_of five) items.End

module _ (c : Context) where
  by_words : c.form ≡ forms.Words → (kind : ℕ) → Spelt c false kind
  by_words form kind = record {
    item = λ span is. subst (λ (f : ListForm). SpellsAny f c (addrs.Fixed 0) (span_bytes span) (items.Span (read_span span))) (sym form) (spell_pair span is);
    last = subst (λ (f : ListForm). SpellsAny f c (addrs.Fixed 0) (replicate 16 0) items.End) (sym form) (is_end refl refl);
  }

  by_ranges : c.form ≡ forms.RangeEntries → Spelt c true DW_RLE_start_end
  unfolding range_kind
  by_ranges form = record {
    item = λ span is. subst (λ (f : ListForm). SpellsAny f c (addrs.Fixed 0) (DW_RLE_start_end ∷ span_bytes span) (items.Span (read_span span))) (sym form)
        (spell_entry c (addrs.Fixed 0) DW_RLE_start_end span is (ap (λ (f : ListForm). kind_in f DW_RLE_start_end) form) (omega arith) refl);
    last = subst (λ (f : ListForm). SpellsAny f c (addrs.Fixed 0) (0 ∷ []) items.End) (sym form) (spell_end c (addrs.Fixed 0) (ap (λ (f : ListForm). kind_in f 0) form));
  }

  by_locations : c.form ≡ forms.LocationEntries → Spelt c true DW_LLE_start_end
  unfolding location_kind
  by_locations form = record {
    item = λ span is. subst (λ (f : ListForm). SpellsAny f c (addrs.Fixed 0) (DW_LLE_start_end ∷ span_bytes span) (items.Span (read_span span))) (sym form)
        (spell_entry c (addrs.Fixed 0) DW_LLE_start_end span is (ap (λ (f : ListForm). kind_in f DW_LLE_start_end) form) (omega arith) refl);
    last = subst (λ (f : ListForm). SpellsAny f c (addrs.Fixed 0) (0 ∷ []) items.End) (sym form) (spell_end c (addrs.Fixed 0) (ap (λ (f : ListForm). kind_in f 0) form));
  }

  by_range : (five : Bool) → c.form ≡ (if five then forms.RangeEntries else forms.Words) → Spelt c five DW_RLE_start_end
  by_range true form = by_ranges form
  by_range false form = by_words form DW_RLE_start_end

  by_location : (five : Bool) → c.form ≡ (if five then forms.LocationEntries else forms.Words) → Spelt c five DW_LLE_start_end
  by_location true form = by_locations form
  by_location false form = by_words form DW_LLE_start_end

-- an item that isn't empty, and what follows it
module _ {A : Type 0} (c : Context) (Behind : Follows A) where
  one_more : (place : ℕ) (span : Span) (bytes front more : List ℕ) (x : A) (given : List A) → IsSpan span → SpellsNext c (addrs.Fixed 0) bytes (items.Span (read_span span)) → Behind place (Some (read_span span)) (place + length bytes) front x
      → SpellsList c Behind (addrs.Fixed 0) (place + length bytes + length front) more given → SpellsList c Behind (addrs.Fixed 0) place (bytes ++ (front ++ more)) (x ∷ given)
  one_more place span bytes front more x given is next follows later =
      subst (λ (b : Bool). SpellsList c Behind (addrs.Fixed 0) place (bytes ++ (front ++ more)) (if b then given else x ∷ given)) (not_empty span is)
      (at_span (addrs.Fixed 0) place (read_span span) bytes front more x given next follows later)

-- ---- range lists

module _ (c : Context) (version : ℕ) (form : c.form ≡ (if version == 5 then forms.RangeEntries else forms.Words)) where
  range_spelt : Spelt c (version == 5) DW_RLE_start_end
  range_spelt = by_range c (version == 5) form

  pub ranges_spelled : (place : ℕ) (spans : List Span) → All IsSpan spans → SpellsList c FollowsRange (addrs.Fixed 0) place (range_list_bytes version spans) (read_spans spans)
  ranges_spelled place [] all = at_end (addrs.Fixed 0) place (end_of_list version) range_spelt.last
  ranges_spelled place (span ∷ spans) all =
      let is = All-head IsSpan span spans all in
      let later = ranges_spelled (place + length (range_bytes version span) + length {A = ℕ} []) spans (All-tail IsSpan span spans all) in
      subst (λ (b : List ℕ). SpellsList c FollowsRange (addrs.Fixed 0) place b (read_spans (span ∷ spans))) (sym (append_assoc (range_bytes version span) (flat_map (range_bytes version) spans) (end_of_list version)))
      (one_more c FollowsRange place span (range_bytes version span) [] (range_list_bytes version spans) (read_span span) (read_spans spans) is (range_spelt.item span is) (refl, refl) later)

-- ---- location lists

size_spelled : (five : Bool) (n : ℕ) → n < 2 ^ 64 → (five ≡ false → n < 2 ^ 16) → SpellsLength five (if five then uleb n else little_bytes 2 n) n
size_spelled true n fits short = is_uleb n fits
size_spelled false n fits short = record { is = refl; fits = let small = short refl in omega (arith, small) }

module _ (c : Context) (version : ℕ) (node : ℕ → ℕ) (form : c.form ≡ (if version == 5 then forms.LocationEntries else forms.Words)) (which : (version == 5) ≡ false → version ≡ 4) where
  location_spelt : Spelt c (version == 5) DW_LLE_start_end
  location_spelt = by_location c (version == 5) form

  kind_size : (five : Bool) → length (kind_of five DW_LLE_start_end) ≡ (if five then 1 else 0)
  kind_size true = refl
  kind_size false = refl

  size_size : (five : Bool) (n : ℕ) → length (if five then uleb n else little_bytes 2 n) ≡ (if five then uleb_len_of n else 2)
  size_size true n = length-uleb n
  size_size false n = refl

  pub items_spelled : (place : ℕ) (list : List OutLocation) → All (IsShort version) list → SpellsList c (FollowsItem version) (addrs.Fixed 0) place (location_list_bytes version node list) (read_items version node place list)
  items_spelled place [] all = at_end (addrs.Fixed 0) place (end_of_list version) location_spelt.last
  items_spelled place (item ∷ list) all =
      let is = All-head (IsShort version) item list all in
      let n = expression_len item.parts in
      let begin = kind_bytes version DW_LLE_start_end ++ span_bytes item.span in
      let size = size_bytes version n in
      let front = size ++ expression_bytes node item.parts in
      let len_begin : length begin ≡ kind_len version + 16 = omega (arith, length-append (kind_bytes version DW_LLE_start_end) (span_bytes item.span), kind_size (version == 5)) in
      let len_size : length size ≡ size_len version n = size_size (version == 5) n in
      let len_bytes = length-expression node item.parts in
      let len_front : length front ≡ size_len version n + n = omega (arith, length-append size (expression_bytes node item.parts), len_size, len_bytes) in
      let next_place : place + location_len version item ≡ place + length begin + length front = omega (arith, len_begin, len_front) in
      let first_place : place + (kind_len version + (16 + size_len version n)) ≡ place + length begin + length size = omega (arith, len_begin, len_size) in
      let counts : SpellsLength (version == 5) size (length (expression_bytes node item.parts)) = subst (SpellsLength (version == 5) size) (sym len_bytes) (size_spelled (version == 5) n is.fits (λ old. is.short (which old))) in
      let later = subst (λ (p : ℕ). SpellsList c (FollowsItem version) (addrs.Fixed 0) p (location_list_bytes version node list) (read_items version node (place + location_len version item) list)) next_place
      (items_spelled (place + location_len version item) list (All-tail (IsShort version) item list all)) in
      let whole : begin ++ (front ++ location_list_bytes version node list) ≡ location_list_bytes version node (item ∷ list) =
      sym (append_assoc (location_bytes version node item) (flat_map (location_bytes version node) list) (end_of_list version)
      ∙ ap (λ (b : List ℕ). b ++ location_list_bytes version node list) (sym (append_assoc (kind_bytes version DW_LLE_start_end) (span_bytes item.span) front))
      ∙ append_assoc begin front (location_list_bytes version node list)) in
      subst (λ (b : List ℕ). SpellsList c (FollowsItem version) (addrs.Fixed 0) place b (read_items version node place (item ∷ list))) whole
      (one_more c (FollowsItem version) place item.span begin front (location_list_bytes version node list) (read_item version node place item) (read_items version node (place + location_len version item) list) is.span
      (location_spelt.item item.span is.span)
      (record { size = size; is = refl; counts = counts; covers = refl; begins = refl; behind = first_place }) later)
