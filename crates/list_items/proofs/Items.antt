-- What is read of an item: it goes on by a byte at least, and the ends of a span belong together.
use Rattle.std.proofs.Common.{◌≡◌, ℕ, ◌-◌, ◌<◌, ◌≤◌, true, false, Bool, Result, Ok, Err, refl, sym, ap, subst, arith}
use Rattle.std.specs.Prelude.{not, OnOk, if◌then◌else◌}
use Rattle.std.proofs.lemmas.Bool.{ltb-false, not-false}
use Rattle.ds_base.specs.declared.fault.Fault.{Fault}
use Rattle.ds_base.specs.declared.fault.Kind.TheVariants as kinds
use Rattle.ds_base.specs.Spot.{Spot, IsSmall, after, fault_at}
use Rattle.ds_base.specs.Reading.{Moves, or_fault, number_at, uleb_at}
use Rattle.ds_base.proofs.Passing.{bind_ok, passed, guard_ok, ok_is}
use Rattle.ds_base.proofs.Onward.{Onward, Further, stays, onward_then, further_then, small_kept, uleb_onward}
use Rattle.dwarf_types.specs.declared.address.Addr.{Addr}
use Rattle.dwarf_types.specs.declared.lists.RawSpan.{RawSpan}
use Rattle.list_items.specs.declared.context.ListForm.{ListForm}
use Rattle.list_items.specs.declared.context.ListForm.TheVariants as forms
use Rattle.list_items.specs.declared.item.Item.{Item}
use Rattle.list_items.specs.declared.item.Item.TheVariants as items
use Rattle.list_items.specs.declared.kinds.EntryKind.{EntryKind}
use Rattle.list_items.specs.declared.kinds.EntryKind.TheVariants as entries
use Rattle.list_items.specs.declared.words.Word.{Word}
use Rattle.list_items.specs.Context.{Context}
use Rattle.list_items.specs.Ends.{belong_together}
use Rattle.list_items.specs.EntryKinds.{kind_in}
use Rattle.list_items.specs.Entries.{indexed, index_at, address_at, offset_at, selected_at, between, entry_from, entry_at}
use Rattle.list_items.specs.Items.{span_at}
use Rattle.list_items.specs.Reading.{formed_at, item_at}
use Rattle.list_items.specs.Words.{word_at, item_of, words_at}

-- ---- numbers

pub uleb_small : (r : Result ℕ Fault) (s t : Spot) → Moves (λ (n : ℕ). n) r s t (uleb_at s) → IsSmall s → OnOk r (IsSmall t)
uleb_small (Ok n) s t moves h = small_kept s t (uleb_onward s (n, t) moves) h
uleb_small (Err f) s t moves h = tt

-- what a number is read from
number_fits : (n : ℕ) (s : Spot) (v : ℕ) (t : Spot) → number_at n s ≡ Ok (v, t) → (n ≤ s.end - s.place) × (t ≡ after s n)
unfolding number_at
number_fits n s v t e =
    let p = guard_ok _ _ _ _ e in
    (ltb-false (s.end - s.place) n p.0, sym (ap (λ (x : ℕ × Spot). x.1) p.1))

pub number_further : (n : ℕ) (s : Spot) (y : ℕ × Spot) → 0 < n → number_at n s ≡ Ok y → Further s y.1
number_further n s y some e =
    let fits = number_fits n s y.0 y.1 e in
    subst (Further s) (sym fits.1) (record { onward = record { by = n; is = refl; fits = fits.0 }; some = omega (arith, some) })

-- ---- what an item keeps to

-- where the item is a span, its ends belong together
abbrev pub IsOrdered : Item → Type 0
IsOrdered items.End = Unit {0}
IsOrdered (items.Base selected) = Unit {0}
IsOrdered items.Default = Unit {0}
IsOrdered (items.Span span) = belong_together span ≡ true

pub record IsKept (s : Spot) (y : Item × Spot) : Type 0 where
  pub onward : Onward s y.1
  pub ordered : IsOrdered y.0

span_ordered : (first : Spot) (span : RawSpan) (item : Item) → span_at first span ≡ Ok item → IsOrdered item
span_ordered first span item e =
    let p = passed (not (belong_together span)) _ _ item e in
    subst IsOrdered (ok_is (items.Span span) item p.1) (not-false (belong_together span) p.0)

-- ---- words

word_further : (c : Context) (s : Spot) (y : Word × Spot) → word_at c s ≡ Ok y → Further s y.1
unfolding word_at
word_further c s y e =
    let n = bind_ok (number_at 8 s) _ y e in
    subst (λ (x : Word × Spot). Further s x.1) (ok_is _ y n.2) (number_further 8 s n.0 (omega arith) n.1)

item_ordered : (is_last is_base : Bool) (selected : Addr) (first : Spot) (span : RawSpan) (item : Item)
    → (if is_last then Ok items.End else if is_base then Ok (items.Base selected) else span_at first span) ≡ Ok item → IsOrdered item
item_ordered true is_base selected first span item e = subst IsOrdered (ok_is items.End item e) tt
item_ordered false true selected first span item e = subst IsOrdered (ok_is (items.Base selected) item e) tt
item_ordered false false selected first span item e = span_ordered first span item e

words_kept : (c : Context) (base : Addr) (s : Spot) (y : Item × Spot) → words_at c base s ≡ Ok y → Further s y.1 × IsOrdered y.0
unfolding words_at
words_kept c base s y e =
    let low = bind_ok (word_at c s) _ y e in
    let high = bind_ok (word_at c low.0.1) _ y low.2 in
    let what = bind_ok (item_of base s low.0.0 high.0.0) _ y high.2 in
    let second = word_further c low.0.1 high.0 high.1 in
    subst (λ (x : Item × Spot). Further s x.1 × IsOrdered x.0) (ok_is (what.0, high.0.1) y what.2)
    (further_then s low.0.1 high.0.1 (word_further c s low.0 low.1) second.onward, item_ordered _ _ _ s _ what.0 what.1)

-- ---- entries

-- what is read at a spot goes on from there
abbrev GoesOnward : (Spot → Result (Addr × Spot) Fault) → Type 0
GoesOnward read = (s : Spot) (y : Addr × Spot) → read s ≡ Ok y → Onward s y.1

index_onward : (c : Context) (first : Spot) → GoesOnward (index_at c first)
unfolding index_at
index_onward c first s y e =
    let index = bind_ok (uleb_at s) _ y e in
    let found = bind_ok (or_fault (indexed c index.0.0) (fault_at first kinds.BadIndex)) _ y index.2 in
    subst (λ (x : Addr × Spot). Onward s x.1) (ok_is (found.0, index.0.1) y found.2) (uleb_onward s index.0 index.1)

address_onward : (c : Context) → GoesOnward (address_at c)
unfolding address_at
address_onward c s y e =
    let word = bind_ok (word_at c s) _ y e in
    let moved = word_further c s word.0 word.1 in
    subst (λ (x : Addr × Spot). Onward s x.1) (ok_is (word.0.0.means, word.0.1) y word.2) moved.onward

offset_onward : (from : Addr) → GoesOnward (offset_at from)
unfolding offset_at
offset_onward from s y e =
    let n = bind_ok (uleb_at s) _ y e in
    subst (λ (x : Addr × Spot). Onward s x.1) (ok_is _ y n.2) (uleb_onward s n.0 n.1)

selected_kept : (base_at : Spot → Result (Addr × Spot) Fault) → GoesOnward base_at → (s : Spot) (y : Item × Spot) → selected_at base_at s ≡ Ok y → IsKept s y
selected_kept base_at on s y e =
    let selected = bind_ok (base_at s) _ y e in
    subst (IsKept s) (ok_is (items.Base selected.0.0, selected.0.1) y selected.2) (record { onward = on s selected.0 selected.1; ordered = tt })

between_kept : (first : Spot) (low_at : Spot → Result (Addr × Spot) Fault) (high_at : Addr → Spot → Result (Addr × Spot) Fault) → GoesOnward low_at → ((low : Addr) → GoesOnward (high_at low))
    → (s : Spot) (y : Item × Spot) → between first low_at high_at s ≡ Ok y → IsKept s y
between_kept first low_at high_at low_on high_on s y e =
    let low = bind_ok (low_at s) _ y e in
    let high = bind_ok (high_at low.0.0 low.0.1) _ y low.2 in
    let span : RawSpan = record { low = low.0.0; high = high.0.0 } in
    let item = bind_ok (span_at first span) _ y high.2 in
    subst (IsKept s) (ok_is (item.0, high.0.1) y item.2)
    (record { onward = onward_then s low.0.1 high.0.1 (low_on s low.0 low.1) (high_on low.0.0 low.0.1 high.0 high.1); ordered = span_ordered first span item.0 item.1 })

abbrev stays_at : Item → Spot → Result (Item × Spot) Fault
stays_at item s = Ok (item, s)

plain_kept : (item : Item) (s : Spot) (y : Item × Spot) → IsOrdered item → stays_at item s ≡ Ok y → IsKept s y
plain_kept item s y ordered e = subst (IsKept s) (ok_is (item, s) y e) (record { onward = stays s; ordered = ordered })

from_kept : (c : Context) (base : Addr) (first : Spot) (kind : EntryKind) (s : Spot) (y : Item × Spot) → entry_from c base first kind s ≡ Ok y → IsKept s y
unfolding entry_from
from_kept c base first entries.EndOfList s y e = plain_kept items.End s y tt e
from_kept c base first entries.BaseAddressx s y e = selected_kept (index_at c first) (index_onward c first) s y e
from_kept c base first entries.StartxEndx s y e = between_kept first (index_at c first) (λ low. index_at c first) (index_onward c first) (λ low. index_onward c first) s y e
from_kept c base first entries.StartxLength s y e = between_kept first (index_at c first) (λ low. offset_at low) (index_onward c first) (λ low. offset_onward low) s y e
from_kept c base first entries.OffsetPair s y e = between_kept first (offset_at base) (λ low. offset_at base) (offset_onward base) (λ low. offset_onward base) s y e
from_kept c base first entries.DefaultLocation s y e = plain_kept items.Default s y tt e
from_kept c base first entries.BaseAddress s y e = selected_kept (address_at c) (address_onward c) s y e
from_kept c base first entries.StartEnd s y e = between_kept first (address_at c) (λ low. address_at c) (address_onward c) (λ low. address_onward c) s y e
from_kept c base first entries.StartLength s y e = between_kept first (address_at c) (λ low. offset_at low) (address_onward c) (λ low. offset_onward low) s y e

entry_kept : (c : Context) (base : Addr) (s : Spot) (y : Item × Spot) → entry_at c base s ≡ Ok y → Further s y.1 × IsOrdered y.0
unfolding entry_at
entry_kept c base s y e =
    let code = bind_ok (number_at 1 s) _ y e in
    let kind = bind_ok (or_fault (kind_in c.form code.0.0) (fault_at s kinds.UnknownListEntry)) _ y code.2 in
    let kept = from_kept c base s kind.0 code.0.1 y kind.2 in
    (further_then s code.0.1 y.1 (number_further 1 s code.0 (omega arith) code.1) kept.onward, kept.ordered)

-- ---- items

formed_kept : (form : ListForm) (c : Context) (base : Addr) (s : Spot) (y : Item × Spot) → formed_at form c base s ≡ Ok y → Further s y.1 × IsOrdered y.0
formed_kept forms.Words c base s y e = words_kept c base s y e
formed_kept forms.RangeEntries c base s y e = entry_kept c base s y e
formed_kept forms.LocationEntries c base s y e = entry_kept c base s y e

pub item_kept : (c : Context) (base : Addr) (s : Spot) (y : Item × Spot) → item_at c base s ≡ Ok y → Further s y.1 × IsOrdered y.0
unfolding item_at
item_kept c base s y e = formed_kept c.form c base s y e
