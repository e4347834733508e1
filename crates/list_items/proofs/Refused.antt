-- Of which kinds the faults of a list are.
use Rattle.std.proofs.Common.{ℕ, zero, suc, ◌-◌, ◌&&◌, not, List, Option, Some, None, Result, Ok, Err, refl}
use Rattle.std.specs.Prelude.{◌==◌}
use Rattle.ds_base.specs.declared.fault.Fault.{Fault}
use Rattle.ds_base.specs.declared.fault.Kind.{Kind}
use Rattle.ds_base.specs.declared.fault.Kind.TheVariants.{Truncated, LebTooWide, BadList, BadIndex, UnknownListEntry}
use Rattle.ds_base.specs.declared.fault.Part.{Part}
use Rattle.ds_base.specs.Reading.{number_at, or_fault, refuse_if, uleb_at}
use Rattle.ds_base.specs.Spot.{Spot, fault_at}
use Rattle.dwarf_types.specs.declared.address.Addr.{Addr}
use Rattle.dwarf_types.specs.declared.lists.RawSpan.{RawSpan}
use Rattle.list_items.specs.declared.item.Item.{Item}
use Rattle.list_items.specs.declared.item.Item.TheVariants as items
use Rattle.list_items.specs.declared.kinds.EntryKind.{EntryKind}
use Rattle.list_items.specs.declared.kinds.EntryKind.TheVariants as entries
use Rattle.list_items.specs.declared.words.Word.{Word}
use Rattle.list_items.specs.Context.{Context}
use Rattle.list_items.specs.Ends.{belong_together}
use Rattle.list_items.specs.EntryKinds.{kind_in}
use Rattle.list_items.specs.Entries.{indexed, index_at, address_at, offset_at, selected_at, between, entry_from, entry_at}
use Rattle.list_items.specs.Items.{span_at}
use Rattle.list_items.specs.Lists.{Behind, Says, ends, selects, defaults, spans, said_at, whole_at, Listing, behind_it, listed, items_from, list_spot, items_in, unless_stopped, list_in}
use Rattle.list_items.specs.Reading.{item_at}
use Rattle.list_items.specs.Words.{word_at, span_of, largest_offset, item_of, words_at}
use Rattle.ds_base.proofs.FaultKinds.{FaultsAre, ok_kinds, err_kinds, bind_kinds, refuse_kinds, either_kinds, found_kinds, number_kinds, uleb_kinds}

-- ---- words

module _ (P : Kind → Type 0) (cut : P Truncated) (bad : P BadList) where
  word_kinds : (c : Context) (s : Spot) → FaultsAre P (word_at c s)
  unfolding word_at
  word_kinds c s = bind_kinds P (number_at 8 s) _ (number_kinds P 8 s cut) (λ n. ok_kinds P _)

  span_kinds : (first : Spot) (span : RawSpan) → FaultsAre P (span_at first span)
  span_kinds first span = bind_kinds P (refuse_if (not (belong_together span)) (fault_at first BadList)) _ (refuse_kinds P (not (belong_together span)) (fault_at first BadList) bad) (λ u. ok_kinds P (items.Span span))

  of_kinds : (base : Addr) (first : Spot) (low high : Word) → FaultsAre P (item_of base first low high)
  of_kinds base first low high =
      either_kinds P (low.stored == 0 && high.stored == 0) _ _ (ok_kinds P items.End)
      (either_kinds P (low.stored == largest_offset) _ _ (ok_kinds P (items.Base high.means)) (span_kinds first (span_of base low high)))

  pub words_kinds : (c : Context) (base : Addr) (s : Spot) → FaultsAre P (words_at c base s)
  unfolding words_at
  words_kinds c base s =
      bind_kinds P (word_at c s) _ (word_kinds c s)
      (λ low. bind_kinds P (word_at c low.1) _ (word_kinds c low.1)
      (λ high. bind_kinds P (item_of base s low.0 high.0) _ (of_kinds base s low.0 high.0) (λ item. ok_kinds P _)))

  -- ---- entries

  module _ (wide : P LebTooWide) (index : P BadIndex) (unknown : P UnknownListEntry) where
    index_kinds : (c : Context) (first s : Spot) → FaultsAre P (index_at c first s)
    unfolding index_at
    index_kinds c first s =
        bind_kinds P (uleb_at s) _ (uleb_kinds P s cut wide)
        (λ n. bind_kinds P (or_fault (indexed c n.0) (fault_at first BadIndex)) _ (found_kinds P (indexed c n.0) (fault_at first BadIndex) index) (λ at. ok_kinds P _))

    address_kinds : (c : Context) (s : Spot) → FaultsAre P (address_at c s)
    unfolding address_at
    address_kinds c s = bind_kinds P (word_at c s) _ (word_kinds c s) (λ word. ok_kinds P _)

    offset_kinds : (from : Addr) (s : Spot) → FaultsAre P (offset_at from s)
    unfolding offset_at
    offset_kinds from s = bind_kinds P (uleb_at s) _ (uleb_kinds P s cut wide) (λ n. ok_kinds P _)

    selected_kinds : (base_at : Spot → Result (Addr × Spot) Fault) → ((s : Spot) → FaultsAre P (base_at s)) → (s : Spot) → FaultsAre P (selected_at base_at s)
    selected_kinds base_at each s = bind_kinds P (base_at s) _ (each s) (λ selected. ok_kinds P _)

    between_kinds : (first : Spot) (low_at : Spot → Result (Addr × Spot) Fault) (high_at : Addr → Spot → Result (Addr × Spot) Fault) → ((s : Spot) → FaultsAre P (low_at s)) → ((low : Addr) (s : Spot) → FaultsAre P (high_at low s))
        → (s : Spot) → FaultsAre P (between first low_at high_at s)
    between_kinds first low_at high_at low_kinds high_kinds s =
        bind_kinds P (low_at s) _ (low_kinds s)
        (λ low. bind_kinds P (high_at low.0 low.1) _ (high_kinds low.0 low.1)
        (λ high. bind_kinds P (span_at first (record { low = low.0; high = high.0 })) _ (span_kinds first (record { low = low.0; high = high.0 })) (λ item. ok_kinds P _)))

    from_kinds : (c : Context) (base : Addr) (first : Spot) (kind : EntryKind) (s : Spot) → FaultsAre P (entry_from c base first kind s)
    unfolding entry_from
    from_kinds c base first entries.EndOfList s = ok_kinds P _
    from_kinds c base first entries.BaseAddressx s = selected_kinds (index_at c first) (index_kinds c first) s
    from_kinds c base first entries.StartxEndx s = between_kinds first (index_at c first) (λ low. index_at c first) (index_kinds c first) (λ low. index_kinds c first) s
    from_kinds c base first entries.StartxLength s = between_kinds first (index_at c first) (λ low. offset_at low) (index_kinds c first) (λ low. offset_kinds low) s
    from_kinds c base first entries.OffsetPair s = between_kinds first (offset_at base) (λ low. offset_at base) (offset_kinds base) (λ low. offset_kinds base) s
    from_kinds c base first entries.DefaultLocation s = ok_kinds P _
    from_kinds c base first entries.BaseAddress s = selected_kinds (address_at c) (address_kinds c) s
    from_kinds c base first entries.StartEnd s = between_kinds first (address_at c) (λ low. address_at c) (address_kinds c) (λ low. address_kinds c) s
    from_kinds c base first entries.StartLength s = between_kinds first (address_at c) (λ low. offset_at low) (address_kinds c) (λ low. offset_kinds low) s

    pub entry_kinds : (c : Context) (base : Addr) (s : Spot) → FaultsAre P (entry_at c base s)
    unfolding entry_at
    entry_kinds c base s =
        bind_kinds P (number_at 1 s) _ (number_kinds P 1 s cut)
        (λ code. bind_kinds P (or_fault (kind_in c.form code.0) (fault_at s UnknownListEntry)) _ (found_kinds P (kind_in c.form code.0) (fault_at s UnknownListEntry) unknown) (λ kind. from_kinds c base s kind code.1))

-- ---- lists

module _ (P : Kind → Type 0) (cut : P Truncated) where
  module _ {A : Type 0} (c : Context) (item_kinds : (base : Addr) (s : Spot) → FaultsAre P (item_at c base s)) (behind : Behind A) (behind_kinds : (place : ℕ) (span : Option RawSpan) (s : Spot) → FaultsAre P (behind place span s)) where
    said_kinds : (place : ℕ) (item : Item) (s : Spot) → FaultsAre P (said_at behind place item s)
    said_kinds place items.End s = ok_kinds P (ends, s)
    said_kinds place (items.Base selected) s = ok_kinds P (selects selected, s)
    said_kinds place items.Default s = bind_kinds P (behind place None s) _ (behind_kinds place None s) (λ x. ok_kinds P _)
    said_kinds place (items.Span span) s = bind_kinds P (behind place (Some span) s) _ (behind_kinds place (Some span) s) (λ x. ok_kinds P _)

    whole_kinds : (base : Addr) (s : Spot) → FaultsAre P (whole_at c behind base s)
    whole_kinds base s = bind_kinds P (item_at c base s) _ (item_kinds base s) (λ item. said_kinds s.place item.0 item.1)

    -- what stops a listing
    abbrev StopsSo : Listing A → Type 0
    StopsSo listing = FaultsAre P (unless_stopped listing.stop)

    behind_stops : (says : Says A) (base : Addr) (more : Addr → Listing A) → ((b : Addr) → StopsSo (more b)) → StopsSo (behind_it says base more)
    behind_stops ends base more later = ok_kinds P tt
    behind_stops (selects selected) base more later = later selected
    behind_stops (defaults x) base more later = later base
    behind_stops (spans span x) base more later = later base

    one_stops : (first : Spot) (one : Result (Says A × Spot) Fault) (more : Says A → Spot → Listing A) → FaultsAre P one → ((says : Says A) (t : Spot) → StopsSo (more says t)) → StopsSo (listed first one more)
    one_stops first (Ok y) more here later = later y.0 y.1
    one_stops first (Err f) more here later = err_kinds P f (here f refl)

    items_stop : (left : ℕ) (base : Addr) (s : Spot) → StopsSo (items_from (whole_at c behind) left base s)
    items_stop zero base s = err_kinds P (fault_at s Truncated) cut
    items_stop (suc left) base s =
        one_stops s (whole_at c behind base s) (λ says t. behind_it says base (λ b. items_from (whole_at c behind) left b t)) (whole_kinds base s)
        (λ says t. behind_stops says base (λ b. items_from (whole_at c behind) left b t) (λ b. items_stop left b t))

    pub list_kinds : (part : Part) (bytes : List ℕ) (offset : ℕ) (base : Addr) → FaultsAre P (list_in part bytes c behind offset base)
    list_kinds part bytes offset base =
        let s = list_spot part bytes offset in
        bind_kinds P (unless_stopped (items_in part bytes c behind offset base).stop) _ (items_stop (s.end - s.place) base s) (λ u. ok_kinds P _)
