-- The expressions of a location list are bytes, as its section is.
use Rattle.std.proofs.Common.{◌≡◌, ◌==◌, ℕ, Bool, true, false, List, Option, Some, None, IfSome, Result, Ok, subst}
use Rattle.std.specs.Prelude.{if◌then◌else◌}
use Rattle.std.specs.List.{All}
use Rattle.ds_base.specs.declared.fault.Fault.{Fault}
use Rattle.ds_base.specs.declared.fault.Kind.TheVariants.{BadIndex, UnknownListEntry}
use Rattle.ds_base.specs.Spot.{Spot, fault_at}
use Rattle.ds_base.specs.Reading.{bytes_at, number_at, or_fault, uleb_at}
use Rattle.ds_base.proofs.Passing.{bind_ok, ok_is}
use Rattle.dwarf_types.specs.declared.address.Addr.{Addr}
use Rattle.dwarf_types.specs.declared.lists.RawLocation.{RawLocation}
use Rattle.dwarf_types.specs.declared.lists.RawSpan.{RawSpan}
use Rattle.dwarf_types.specs.SectionBytes.{SectionBytes, location_bytes}
use Rattle.dwarf_types.specs.Spelled.{AreBytes}
use Rattle.dwarf_types.proofs.Readers.{IsBytes-from}
use Rattle.macho_read.specs.declared.image.Image.{Image}
use Rattle.reloc_table.specs.declared.relocation.Relocs.{Relocs}
use Rattle.list_items.specs.declared.item.Item.{Item}
use Rattle.list_items.specs.declared.item.Item.TheVariants as items
use Rattle.list_items.specs.declared.context.ListForm.{ListForm}
use Rattle.list_items.specs.declared.context.ListForm.TheVariants as forms
use Rattle.list_items.specs.declared.kinds.EntryKind.{EntryKind}
use Rattle.list_items.specs.declared.kinds.EntryKind.TheVariants as entries
use Rattle.list_items.specs.Context.{Context}
use Rattle.list_items.specs.Ends.{is_empty}
use Rattle.list_items.specs.EntryKinds.{kind_in}
use Rattle.list_items.specs.Entries.{address_at, between, entry_at, entry_from, index_at, indexed, offset_at, selected_at}
use Rattle.list_items.specs.Items.{span_at}
use Rattle.list_items.specs.Lists.{Says, ends, selects, defaults, spans, said_at, whole_at, given}
use Rattle.list_items.proofs.Given.{all_given}
use Rattle.list_items.specs.Reading.{formed_at, item_at}
use Rattle.list_items.specs.Words.{item_of, word_at, words_at}
use Rattle.loc_lists.specs.Reading.{expression_at, len_at, location_at, location_context, locations_of}
use Rattle.object_laws.proofs.LinesReads.{Holds, bytes_are, bytes_hold, number_holds, uleb_holds}

abbrev IsItem : RawLocation → Type 0
IsItem item = AreBytes item.bytes

snd_holds : {W : Type 0} (x y : W × Spot) → x ≡ y → Holds x.1 → Holds y.1
snd_holds {W} x y e h = subst (λ (z : W × Spot). Holds z.1) e h

-- an address of an entry, or the item that one is
abbrev LeavesBytes : {W : Type 0} → (Spot → Result (W × Spot) Fault) → Type 0
LeavesBytes {W} read = (s : Spot) (y : W × Spot) → Holds s → read s ≡ Ok y → Holds y.1

word_holds : (c : Context) → LeavesBytes (word_at c)
unfolding word_at
word_holds c s y h e =
    let number = bind_ok (number_at 8 s) _ y e in
    snd_holds _ y (ok_is _ y number.2) (number_holds 8 s number.0 h number.1)

words_hold : (c : Context) (base : Addr) → LeavesBytes (words_at c base)
unfolding words_at
words_hold c base s y h e =
    let low = bind_ok (word_at c s) _ y e in
    let high = bind_ok (word_at c low.0.1) _ y low.2 in
    let what = bind_ok (item_of base s low.0.0 high.0.0) _ y high.2 in
    snd_holds (what.0, high.0.1) y (ok_is (what.0, high.0.1) y what.2) (word_holds c low.0.1 high.0 (word_holds c s low.0 h low.1) high.1)

index_holds : (c : Context) (first : Spot) → LeavesBytes (index_at c first)
unfolding index_at
index_holds c first s y h e =
    let index = bind_ok (uleb_at s) _ y e in
    let at = bind_ok (or_fault (indexed c index.0.0) (fault_at first BadIndex)) _ y index.2 in
    snd_holds (at.0, index.0.1) y (ok_is (at.0, index.0.1) y at.2) (uleb_holds s index.0 h index.1)

address_holds : (c : Context) → LeavesBytes (address_at c)
unfolding address_at
address_holds c s y h e =
    let word = bind_ok (word_at c s) _ y e in
    snd_holds _ y (ok_is _ y word.2) (word_holds c s word.0 h word.1)

offset_holds : (from : Addr) → LeavesBytes (offset_at from)
unfolding offset_at
offset_holds from s y h e =
    let n = bind_ok (uleb_at s) _ y e in
    snd_holds _ y (ok_is _ y n.2) (uleb_holds s n.0 h n.1)

selected_holds : (base_at : Spot → Result (Addr × Spot) Fault) → LeavesBytes base_at → LeavesBytes (selected_at base_at)
selected_holds base_at known s y h e =
    let selected = bind_ok (base_at s) _ y e in
    snd_holds (items.Base selected.0.0, selected.0.1) y (ok_is (items.Base selected.0.0, selected.0.1) y selected.2) (known s selected.0 h selected.1)

between_holds : (first : Spot) (low_at : Spot → Result (Addr × Spot) Fault) (high_at : Addr → Spot → Result (Addr × Spot) Fault) → LeavesBytes low_at → ((low : Addr) → LeavesBytes (high_at low)) → LeavesBytes (between first low_at high_at)
between_holds first low_at high_at low_known high_known s y h e =
    let low = bind_ok (low_at s) _ y e in
    let high = bind_ok (high_at low.0.0 low.0.1) _ y low.2 in
    let item = bind_ok (span_at first (record { low = low.0.0; high = high.0.0 })) _ y high.2 in
    snd_holds (item.0, high.0.1) y (ok_is (item.0, high.0.1) y item.2) (high_known low.0.0 low.0.1 high.0 (low_known s low.0 h low.1) high.1)

abbrev item_here : Item → Spot → Result (Item × Spot) Fault
item_here item s = Ok (item, s)

stays : (item : Item) → LeavesBytes (item_here item)
stays item s y h e = snd_holds (item, s) y (ok_is (item, s) y e) h

from_holds : (c : Context) (base : Addr) (first : Spot) (kind : EntryKind) → LeavesBytes (entry_from c base first kind)
unfolding entry_from
from_holds c base first entries.EndOfList = stays items.End
from_holds c base first entries.BaseAddressx = selected_holds (index_at c first) (index_holds c first)
from_holds c base first entries.StartxEndx = between_holds first (index_at c first) (λ low. index_at c first) (index_holds c first) (λ low. index_holds c first)
from_holds c base first entries.StartxLength = between_holds first (index_at c first) (λ low. offset_at low) (index_holds c first) (λ low. offset_holds low)
from_holds c base first entries.OffsetPair = between_holds first (offset_at base) (λ low. offset_at base) (offset_holds base) (λ low. offset_holds base)
from_holds c base first entries.DefaultLocation = stays items.Default
from_holds c base first entries.BaseAddress = selected_holds (address_at c) (address_holds c)
from_holds c base first entries.StartEnd = between_holds first (address_at c) (λ low. address_at c) (address_holds c) (λ low. address_holds c)
from_holds c base first entries.StartLength = between_holds first (address_at c) (λ low. offset_at low) (address_holds c) (λ low. offset_holds low)

entry_holds : (c : Context) (base : Addr) → LeavesBytes (entry_at c base)
unfolding entry_at
entry_holds c base s y h e =
    let code = bind_ok (number_at 1 s) _ y e in
    let kind = bind_ok (or_fault (kind_in c.form code.0.0) (fault_at s UnknownListEntry)) _ y code.2 in
    from_holds c base s kind.0 code.0.1 y (number_holds 1 s code.0 h code.1) kind.2

formed_holds : (form : ListForm) (c : Context) (base : Addr) → LeavesBytes (formed_at form c base)
formed_holds forms.Words c base = words_hold c base
formed_holds forms.RangeEntries c base = entry_holds c base
formed_holds forms.LocationEntries c base = entry_holds c base

item_holds : (c : Context) (base : Addr) → LeavesBytes (item_at c base)
unfolding item_at
item_holds c base = formed_holds c.form c base

-- ---- expressions

len_holds : (five : Bool) → LeavesBytes (len_at five)
len_holds true s y h e = uleb_holds s y h e
len_holds false s y h e = number_holds 2 s y h e

expression_holds : (version : ℕ) (s : Spot) (y : (ℕ × List ℕ) × Spot) → Holds s → expression_at version s ≡ Ok y → AreBytes y.0.1 × Holds y.1
unfolding expression_at
expression_holds version s y h e =
    let len = bind_ok (len_at (version == 5) s) _ y e in
    let bytes = bind_ok (bytes_at len.0.0 len.0.1) _ y len.2 in
    let holds = len_holds (version == 5) s len.0 h len.1 in
    subst (λ (x : (ℕ × List ℕ) × Spot). AreBytes x.0.1 × Holds x.1) (ok_is ((len.0.1.place, bytes.0.0), bytes.0.1) y bytes.2)
    (bytes_are len.0.0 len.0.1 bytes.0 holds bytes.1, bytes_hold len.0.0 len.0.1 bytes.0 holds bytes.1)

location_holds : (version place : ℕ) (span : Option RawSpan) (s : Spot) (y : RawLocation × Spot) → Holds s → location_at version place span s ≡ Ok y → IsItem y.0 × Holds y.1
location_holds version place span s y h e =
    let p = bind_ok (expression_at version s) _ y e in
    subst (λ (x : RawLocation × Spot). IsItem x.0 × Holds x.1) (ok_is _ y p.2) (expression_holds version s p.0 h p.1)

if_given : (empty : Bool) (x : RawLocation) → IsItem x → IfSome (if empty then None else Some x) IsItem
if_given true x h = tt
if_given false x h = h

abbrev Gives : Says RawLocation × Spot → Type 0
Gives y = IfSome (given y.0) IsItem × Holds y.1

said_holds : (version place : ℕ) (item : Item) (s : Spot) (y : Says RawLocation × Spot) → Holds s → said_at (location_at version) place item s ≡ Ok y → Gives y
said_holds version place items.End s y h e = subst Gives (ok_is (ends, s) y e) (tt, h)
said_holds version place (items.Base selected) s y h e = subst Gives (ok_is (selects selected, s) y e) (tt, h)
said_holds version place items.Default s y h e =
    let p = bind_ok (location_at version place None s) _ y e in
    subst Gives (ok_is (defaults p.0.0, p.0.1) y p.2) (location_holds version place None s p.0 h p.1)
said_holds version place (items.Span span) s y h e =
    let p = bind_ok (location_at version place (Some span) s) _ y e in
    let here = location_holds version place (Some span) s p.0 h p.1 in
    subst Gives (ok_is (spans span p.0.0, p.0.1) y p.2) (if_given (is_empty span) p.0.0 here.0, here.1)

whole_holds : (version : ℕ) (c : Context) (base : Addr) (s : Spot) (y : Says RawLocation × Spot) → Holds s → whole_at c (location_at version) base s ≡ Ok y → Gives y
whole_holds version c base s y h e =
    let item = bind_ok (item_at c base s) _ y e in
    said_holds version s.place item.0.0 item.0.1 y (item_holds c base s item.0 h item.1) item.2

pub locations_are : (sections : SectionBytes) (relocs : Relocs) (image : Image) (place version : ℕ) (base : Addr) (addresses : Relocs) (addr_base : ℕ) (xs : List RawLocation) → AreBytes (location_bytes sections version)
    → locations_of sections relocs image place version base addresses addr_base ≡ Ok xs → All IsItem xs
unfolding locations_of
locations_are sections relocs image place version base addresses addr_base xs h e =
    let c : Context = location_context sections relocs image version addresses addr_base in
    all_given IsItem Holds (whole_at c (location_at version)) (whole_holds version c) _ base _ xs (IsBytes-from (location_bytes sections version) h) e
