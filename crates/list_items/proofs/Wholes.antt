-- No byte of a list is left out, and it gives what its items give.
use Rattle.std.proofs.Common.{◌≡◌, ℕ, zero, suc, ◌+◌, ◌-◌, ◌<◌, ◌≤◌, List, Option, Some, None, Result, Ok, Err, refl, sym, ap, subst, ◌∙◌, arith}
use Rattle.std.proofs.lemmas.Bool.{lt-ltb}
use Rattle.ds_base.specs.declared.fault.Fault.{Fault}
use Rattle.ds_base.specs.declared.fault.Kind.TheVariants as kinds
use Rattle.ds_base.specs.declared.fault.Part.{Part}
use Rattle.ds_base.specs.Reading.{number_at}
use Rattle.ds_base.specs.Spot.{Spot, fault_at}
use Rattle.ds_base.proofs.Passing.{bind_ok, ok_is}
use Rattle.ds_base.proofs.Onward.{Onward, Further, stays, end_kept, further_then}
use Rattle.dwarf_types.specs.declared.address.Addr.{Addr}
use Rattle.dwarf_types.specs.declared.lists.RawSpan.{RawSpan}
use Rattle.list_items.specs.declared.context.ListForm.{ListForm}
use Rattle.list_items.specs.declared.context.ListForm.TheVariants as forms
use Rattle.list_items.specs.declared.item.Item.{Item}
use Rattle.list_items.specs.declared.item.Item.TheVariants as items
use Rattle.list_items.specs.Context.{Context}
use Rattle.list_items.specs.Entries.{entry_at}
use Rattle.list_items.specs.Lists.{Behind, Says, ends, selects, defaults, spans, said_at, whole_at, ListItem, Listing, behind_it, listed, items_from, list_spot, items_in, list_of, list_in}
use Rattle.list_items.specs.Reading.{formed_at, item_at}
use Rattle.list_items.specs.Whole.{Reader, IsNext, Follow, Fill, IsAnswer, IsWhole}
use Rattle.list_items.specs.Words.{word_at, words_at}
use Rattle.list_items.proofs.Items.{item_kept}

-- ---- what is read behind a span

-- reading behind a span goes on from where it begins
abbrev pub GoesOn : {A : Type 0} → Behind A → Type 0
GoesOn {A = A} behind = (place : ℕ) (span : Option RawSpan) (s : Spot) (y : A × Spot) → behind place span s ≡ Ok y → Onward s y.1

said_onward : {A : Type 0} (behind : Behind A) → GoesOn behind → (place : ℕ) (item : Item) (s : Spot) (y : Says A × Spot) → said_at behind place item s ≡ Ok y → Onward s y.1
said_onward {A = A} behind on place items.End s y e = subst (λ (r : Says A × Spot). Onward s r.1) (ok_is (ends, s) y e) (stays s)
said_onward {A = A} behind on place (items.Base selected) s y e = subst (λ (r : Says A × Spot). Onward s r.1) (ok_is (selects selected, s) y e) (stays s)
said_onward {A = A} behind on place items.Default s y e =
    let p = bind_ok (behind place None s) _ y e in
    subst (λ (r : Says A × Spot). Onward s r.1) (ok_is (defaults p.0.0, p.0.1) y p.2) (on place None s p.0 p.1)
said_onward {A = A} behind on place (items.Span span) s y e =
    let p = bind_ok (behind place (Some span) s) _ y e in
    subst (λ (r : Says A × Spot). Onward s r.1) (ok_is (spans span p.0.0, p.0.1) y p.2) (on place (Some span) s p.0 p.1)

whole_further : {A : Type 0} (c : Context) (behind : Behind A) → GoesOn behind → (base : Addr) (s : Spot) (y : Says A × Spot) → whole_at c behind base s ≡ Ok y → Further s y.1
whole_further c behind on base s y e =
    let item = bind_ok (item_at c base s) _ y e in
    let kept = item_kept c base s item.0 item.1 in
    further_then s item.0.1 y.1 kept.0 (said_onward behind on s.place item.0.0 item.0.1 y item.2)

-- ---- where no byte is left

none_left : (n : ℕ) (s : Spot) → 0 < n → s.end - s.place ≡ 0 → number_at n s ≡ Err (fault_at s kinds.Truncated)
unfolding number_at
none_left n s some none = rw (lt-ltb (s.end - s.place) n (omega (arith, some, none))) refl

words_cut : (c : Context) (base : Addr) (s : Spot) → s.end - s.place ≡ 0 → words_at c base s ≡ Err (fault_at s kinds.Truncated)
unfolding words_at word_at
words_cut c base s none = rw (none_left 8 s (omega arith) none) refl

entry_cut : (c : Context) (base : Addr) (s : Spot) → s.end - s.place ≡ 0 → entry_at c base s ≡ Err (fault_at s kinds.Truncated)
unfolding entry_at
entry_cut c base s none = rw (none_left 1 s (omega arith) none) refl

formed_cut : (form : ListForm) (c : Context) (base : Addr) (s : Spot) → s.end - s.place ≡ 0 → formed_at form c base s ≡ Err (fault_at s kinds.Truncated)
formed_cut forms.Words c base s none = words_cut c base s none
formed_cut forms.RangeEntries c base s none = entry_cut c base s none
formed_cut forms.LocationEntries c base s none = entry_cut c base s none

item_cut : (c : Context) (base : Addr) (s : Spot) → s.end - s.place ≡ 0 → item_at c base s ≡ Err (fault_at s kinds.Truncated)
unfolding item_at
item_cut c base s none = formed_cut c.form c base s none

whole_cut : {A : Type 0} (c : Context) (behind : Behind A) (base : Addr) (s : Spot) → s.end - s.place ≡ 0 → whole_at c behind base s ≡ Err (fault_at s kinds.Truncated)
whole_cut c behind base s none = rw (item_cut c base s none) refl

-- ---- items in turn

-- where the cursor stands behind what was read
stands_at : (s t : Spot) → Further s t → t ≡ record s { place = t.place }
stands_at s t f = let o = f.onward in o.is ∙ ap (λ (p : ℕ). record s { place = p }) (sym (ap (λ (x : Spot). x.place) o.is))

pub inside_end : (s t : Spot) → Further s t → t.place ≤ s.end
inside_end s t f =
    let o = f.onward in
    let some = f.some in
    let place : t.place ≡ s.place + o.by = ap (λ (x : Spot). x.place) o.is in
    omega (arith, o.fits, place, some)

pub fewer_left : (s t : Spot) → Further s t → (left : ℕ) → s.end - s.place ≤ suc left → t.end - t.place ≤ left
fewer_left s t f left le = omega (arith, le, f.some, inside_end s t f, end_kept s t f.onward)

module _ {A : Type 0} (read : Reader A) where
  abbrev answered : Says A × Spot → Result (Says A × Spot) Fault
  answered y = Ok y

  next_read : (base : Addr) (s : Spot) (y : Says A × Spot) → read base s ≡ Ok y → Further s y.1 → IsNext read base s (record { place = s.place; end = y.1.place; says = y.0 })
  next_read base s y e f =
      record { is = e ∙ ap (λ (t : Spot). answered (y.0, t)) (stands_at s y.1 f); begins = refl; some = f.some; inside = inside_end s y.1 f }

  behind_filled : (says : Says A) (base : Addr) (more : Addr → Listing A) (t : Spot) → ((b : Addr) → Fill read b t (more b).items (more b).stop)
      → Follow says base (behind_it says base more).items (behind_it says base more).stop (λ b. Fill read b t (behind_it says base more).items (behind_it says base more).stop)
  behind_filled ends base more t later = (refl, refl)
  behind_filled (selects selected) base more t later = later selected
  behind_filled (defaults x) base more t later = later base
  behind_filled (spans span x) base more t later = later base

  one_filled : (base : Addr) (s : Spot) (one : Result (Says A × Spot) Fault) (more : Addr → Spot → Listing A) → read base s ≡ one → ((y : Says A × Spot) → one ≡ Ok y → Further s y.1)
      → ((y : Says A × Spot) → one ≡ Ok y → (b : Addr) → Fill read b y.1 (more b y.1).items (more b y.1).stop)
      → Fill read base s (listed s one (λ says t. behind_it says base (λ b. more b t))).items (listed s one (λ says t. behind_it says base (λ b. more b t))).stop
  one_filled base s (Ok y) more is further later =
      let f = further y refl in (
        next_read base s y is f,
        behind_filled y.0 base (λ b. more b y.1) (record s { place = y.1.place })
            (λ b. subst (λ (t : Spot). Fill read b t (more b y.1).items (more b y.1).stop) (stands_at s y.1 f) (later y refl b)),
      )
  one_filled base s (Err f) more is further later = is

  items_fill : ((base : Addr) (s : Spot) (y : Says A × Spot) → read base s ≡ Ok y → Further s y.1) → ((base : Addr) (s : Spot) → s.end - s.place ≡ 0 → read base s ≡ Err (fault_at s kinds.Truncated))
      → (left : ℕ) (base : Addr) (s : Spot) → s.end - s.place ≤ left → Fill read base s (items_from read left base s).items (items_from read left base s).stop
  items_fill further cut zero base s few = cut base s (omega (arith, few))
  items_fill further cut (suc left) base s few =
      one_filled base s (read base s) (λ b t. items_from read left b t) refl (further base s)
      (λ y e b. items_fill further cut left b y.1 (fewer_left s y.1 (further base s y e) left few))

-- ---- what they give

answer_by : {A : Type 0} (items : List (ListItem A)) (stop : Option Fault) → IsAnswer (record { items = items; stop = stop }) (list_of (record { items = items; stop = stop }))
answer_by items None = (refl, refl)
answer_by items (Some f) = refl

pub list_whole : {A : Type 0} (part : Part) (bytes : List ℕ) (c : Context) (behind : Behind A) → GoesOn behind → (offset : ℕ) (base : Addr)
    → IsWhole (whole_at c behind) base (list_spot part bytes offset) (items_in part bytes c behind offset base) (list_in part bytes c behind offset base)
list_whole part bytes c behind on offset base =
    let s = list_spot part bytes offset in
    let listing = items_in part bytes c behind offset base in
    record {
      fill = items_fill (whole_at c behind) (whole_further c behind on) (whole_cut c behind) (s.end - s.place) base s (omega arith);
      gives = answer_by listing.items listing.stop;
    }
