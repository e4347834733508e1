-- What is read of an item of version 5 is spelled so, and what is spelled so is read, where no relocation stands among the items.
use Rattle.std.proofs.Common.{◌≡◌, ℕ, List, [], ◌++◌, Result, Ok, Err, refl, sym, ap, subst, ◌∙◌, append_assoc}
use Rattle.std.specs.Prelude.{◌==◌, not}
use Rattle.std.specs.List.{find}
use Rattle.std.proofs.lemmas.Bool.{not-false}
use Rattle.ds_base.specs.declared.fault.Fault.{Fault}
use Rattle.ds_base.specs.declared.fault.Kind.TheVariants as kinds
use Rattle.ds_base.specs.Spot.{Spot, fault_at, rest}
use Rattle.ds_base.specs.Reading.{◌>>=◌, number_at, or_fault, uleb_at}
use Rattle.ds_base.proofs.Passing.{bind_ok, found_ok, ok_is, passed}
use Rattle.dwarf_types.specs.declared.address.Addr.{Addr}
use Rattle.dwarf_types.specs.declared.address.Addr.TheVariants as addrs
use Rattle.dwarf_types.specs.declared.lists.RawSpan.{RawSpan}
use Rattle.dwarf_types.specs.Addresses.{plus}
use Rattle.dwarf_types.specs.Spelled.{IsNumber, IsUleb, Made}
use Rattle.dwarf_types.proofs.Readers.{Again, Reader, Stands, Taken, made_reader, nothing_reader, number_reader, uleb_reader}
use Rattle.macho_read.specs.declared.image.Image.{Image}
use Rattle.reloc_table.specs.declared.relocation.Reloc.{Reloc}
use Rattle.reloc_table.specs.declared.relocation.Relocs.{Relocs}
use Rattle.reloc_table.specs.Address.{address_of, relocated}
use Rattle.list_items.specs.declared.item.Item.{Item}
use Rattle.list_items.specs.declared.item.Item.TheVariants as items
use Rattle.list_items.specs.declared.words.Word.{Word}
use Rattle.list_items.specs.declared.kinds.EntryKind.{EntryKind}
use Rattle.list_items.specs.declared.kinds.EntryKind.TheVariants as entries
use Rattle.list_items.specs.Context.{Context}
use Rattle.list_items.specs.Ends.{belong_together}
use Rattle.list_items.specs.EntryKinds.{kind_in}
use Rattle.list_items.specs.Entries.{address_at, between, entry_at, entry_from, index_at, indexed, offset_at, selected_at}
use Rattle.list_items.specs.Items.{span_at}
use Rattle.list_items.specs.Spelling.{SpellsAddress, SpellsEntry, SpellsIndex, SpellsItem, SpellsOffset, SpellsSpan}
use Rattle.list_items.specs.Words.{word_at}

-- a reader that reads the same as another
same_reader : {A : Type 0} (read other : Spot → Result (A × Spot) Fault) (Spells : List ℕ → A → Type 0) → ((s : Spot) → read s ≡ other s) → Reader other Spells → Reader read Spells
same_reader read other Spells same r = record {
  takes = λ s a t h e. r.takes s a t h (sym (same s) ∙ e);
  again = λ s bytes a more h spells parts.
      let p = r.again s bytes a more h spells parts in
      record { next = p.next; reads = same s ∙ p.reads; left = p.left; stands = p.stands };
}

-- ---- the ends

-- where there are no relocations an address is the number
plain_address : (image : Image) (relocs : Relocs) (place n : ℕ) → relocs.list ≡ [] → address_of image relocs place n ≡ addrs.Fixed n
unfolding address_of
plain_address image relocs place n none = ap (λ (list : List Reloc). relocated image (find (λ r. r.place == place) list) n) none

abbrev word_of : Image → Relocs → ℕ → ℕ × Spot → Result (Word × Spot) Fault
word_of image relocs place n = Ok (record { stored = n.0; means = address_of image relocs place n.0 }, n.1)

abbrev meaning : Word × Spot → Result (Addr × Spot) Fault
meaning word = Ok (word.0.means, word.1)

abbrev as_fixed : ℕ × Spot → Result (Addr × Spot) Fault
as_fixed n = Ok (addrs.Fixed n.0, n.1)

abbrev as_number : Spot → Result (Addr × Spot) Fault
as_number s = number_at 8 s >>= as_fixed

number_means : (image : Image) (relocs : Relocs) (place : ℕ) (r : Result (ℕ × Spot) Fault) → relocs.list ≡ [] → ((r >>= word_of image relocs place) >>= meaning) ≡ (r >>= as_fixed)
number_means image relocs place (Ok x) none = ap (λ (a : Addr). Ok (a, x.1)) (plain_address image relocs place x.0 none)
number_means image relocs place (Err f) none = refl

same_number : (c : Context) (s : Spot) → c.relocs.list ≡ [] → address_at c s ≡ as_number s
unfolding address_at word_at
same_number c s none = number_means c.image c.relocs s.place (number_at 8 s) none

address_reader : (c : Context) → c.relocs.list ≡ [] → Reader (address_at c) SpellsAddress
address_reader c none = same_reader (address_at c) as_number SpellsAddress (λ s. same_number c s none) (made_reader (λ n. addrs.Fixed n) (number_at 8) (IsNumber 8) (number_reader 8))

abbrev moved_on : Addr → Spot → Result (Addr × Spot) Fault
moved_on from s = uleb_at s >>= λ n. Ok (plus from n.0, n.1)

same_offset : (from : Addr) (s : Spot) → offset_at from s ≡ moved_on from s
unfolding offset_at
same_offset from s = refl

offset_reader : (from : Addr) → Reader (offset_at from) (SpellsOffset from)
offset_reader from = same_reader (offset_at from) (moved_on from) (SpellsOffset from) (same_offset from) (made_reader (plus from) uleb_at IsUleb uleb_reader)

index_taken : (c : Context) (first s : Spot) (at : Addr) (t : Spot) → Stands s → index_at c first s ≡ Ok (at, t) → Taken (SpellsIndex c) s at t
unfolding index_at
index_taken c first s at t h e =
    let n = bind_ok (uleb_at s) _ (at, t) e in
    let found = bind_ok (or_fault (indexed c n.0.0) (fault_at first kinds.BadIndex)) _ (at, t) n.2 in
    let f = uleb_reader.takes s n.0.0 n.0.1 h n.1 in
    subst (λ (q : Addr × Spot). Taken (SpellsIndex c) s q.0 q.1) (ok_is (found.0, n.0.1) (at, t) found.2) (record {
      bytes = f.bytes;
      spells = record { index = n.0.0; spells = f.spells; there = found_ok (indexed c n.0.0) (fault_at first kinds.BadIndex) found.0 found.1 };
      parts = f.parts;
      stands = f.stands;
    })

index_again : (c : Context) (first s : Spot) (bytes : List ℕ) (at : Addr) (more : List ℕ) → Stands s → SpellsIndex c bytes at → rest s ≡ bytes ++ more → Again (index_at c first) s at more
unfolding index_at
index_again c first s bytes at more h spells parts =
    let f = uleb_reader.again s bytes spells.index more h spells.spells parts in
    record { next = f.next; reads = rw (f.reads, spells.there) refl; left = f.left; stands = f.stands }

index_reader : (c : Context) (first : Spot) → Reader (index_at c first) (SpellsIndex c)
index_reader c first = record { takes = index_taken c first; again = index_again c first }

-- ---- entries

span_reader : (first : Spot) (low_at : Spot → Result (Addr × Spot) Fault) (high_at : Addr → Spot → Result (Addr × Spot) Fault) (Low : List ℕ → Addr → Type 0) (High : Addr → List ℕ → Addr → Type 0)
    → Reader low_at Low → ((low : Addr) → Reader (high_at low) (High low)) → Reader (between first low_at high_at) (SpellsSpan Low High)
span_reader first low_at high_at Low High lows highs = record {
  takes = λ s item t h e.
      let low = bind_ok (low_at s) _ (item, t) e in
      let high = bind_ok (high_at low.0.0 low.0.1) _ (item, t) low.2 in
      let span : RawSpan = record { low = low.0.0; high = high.0.0 } in
      let one = bind_ok (span_at first span) _ (item, t) high.2 in
      let p = passed (not (belong_together span)) (fault_at first kinds.BadList) (Ok (items.Span span)) one.0 one.1 in
      let f = lows.takes s low.0.0 low.0.1 h low.1 in
      let g = (highs low.0.0).takes low.0.1 high.0.0 high.0.1 f.stands high.1 in
      subst (λ (q : Item × Spot). Taken (SpellsSpan Low High) s q.0 q.1) (ok_is (one.0, high.0.1) (item, t) one.2) (record {
        bytes = f.bytes ++ g.bytes;
        spells = record {
          low = low.0.0;
          high = high.0.0;
          front = f.bytes;
          back = g.bytes;
          is = refl;
          first = f.spells;
          second = g.spells;
          ordered = not-false (belong_together span) p.0;
          span = sym (ok_is (items.Span span) one.0 p.1);
        };
        parts = f.parts ∙ ap (λ (xs : List ℕ). f.bytes ++ xs) g.parts ∙ sym (append_assoc f.bytes g.bytes (rest high.0.1));
        stands = g.stands;
      });
  again = λ s bytes item more h spells parts.
      let whole = parts ∙ ap (λ (xs : List ℕ). xs ++ more) spells.is ∙ append_assoc spells.front spells.back more in
      let f = lows.again s spells.front spells.low (spells.back ++ more) h spells.first whole in
      let g = (highs spells.low).again f.next spells.back spells.high more f.stands spells.second f.left in
      record { next = g.next; reads = rw (f.reads, g.reads, spells.ordered) (ap (λ (x : Item). Ok (x, g.next)) (sym spells.span)); left = g.left; stands = g.stands };
}

base_reader : (base_at : Spot → Result (Addr × Spot) Fault) (Spells : List ℕ → Addr → Type 0) → Reader base_at Spells → Reader (selected_at base_at) (Made (λ at. items.Base at) Spells)
base_reader base_at Spells r = made_reader (λ at. items.Base at) base_at Spells r

module _ (c : Context) (none : c.relocs.list ≡ []) (base : Addr) where
  -- what stands behind the kind of an entry that begins at first
  behind_kind : (first : Spot) (kind : EntryKind) → Reader (λ s. entry_from c base first kind s) (SpellsEntry c base kind)
  unfolding entry_from
  behind_kind first entries.EndOfList = nothing_reader items.End
  behind_kind first entries.BaseAddressx = base_reader (index_at c first) (SpellsIndex c) (index_reader c first)
  behind_kind first entries.StartxEndx = span_reader first (index_at c first) (λ low. index_at c first) (SpellsIndex c) (λ low. SpellsIndex c) (index_reader c first) (λ low. index_reader c first)
  behind_kind first entries.StartxLength = span_reader first (index_at c first) (λ low. offset_at low) (SpellsIndex c) (λ low. SpellsOffset low) (index_reader c first) (λ low. offset_reader low)
  behind_kind first entries.OffsetPair = span_reader first (offset_at base) (λ low. offset_at base) (SpellsOffset base) (λ low. SpellsOffset base) (offset_reader base) (λ low. offset_reader base)
  behind_kind first entries.DefaultLocation = nothing_reader items.Default
  behind_kind first entries.BaseAddress = base_reader (address_at c) SpellsAddress (address_reader c none)
  behind_kind first entries.StartEnd = span_reader first (address_at c) (λ low. address_at c) SpellsAddress (λ low. SpellsAddress) (address_reader c none) (λ low. address_reader c none)
  behind_kind first entries.StartLength = span_reader first (address_at c) (λ low. offset_at low) SpellsAddress (λ low. SpellsOffset low) (address_reader c none) (λ low. offset_reader low)

  entry_taken : (s : Spot) (item : Item) (t : Spot) → Stands s → entry_at c base s ≡ Ok (item, t) → Taken (SpellsItem c base) s item t
  unfolding entry_at
  entry_taken s item t h e =
      let code = bind_ok (number_at 1 s) _ (item, t) e in
      let kind = bind_ok (or_fault (kind_in c.form code.0.0) (fault_at s kinds.UnknownListEntry)) _ (item, t) code.2 in
      let f = (number_reader 1).takes s code.0.0 code.0.1 h code.1 in
      let g = (behind_kind s kind.0).takes code.0.1 item t f.stands kind.2 in
      record {
        bytes = f.bytes ++ g.bytes;
        spells = record {
          code = code.0.0;
          kind = kind.0;
          known = found_ok (kind_in c.form code.0.0) (fault_at s kinds.UnknownListEntry) kind.0 kind.1;
          spells = record { front = f.bytes; back = g.bytes; is = refl; first = f.spells; second = g.spells };
        };
        parts = f.parts ∙ ap (λ (xs : List ℕ). f.bytes ++ xs) g.parts ∙ sym (append_assoc f.bytes g.bytes (rest t));
        stands = g.stands;
      }

  entry_again : (s : Spot) (bytes : List ℕ) (item : Item) (more : List ℕ) → Stands s → SpellsItem c base bytes item → rest s ≡ bytes ++ more → Again (entry_at c base) s item more
  unfolding entry_at
  entry_again s bytes item more h spells parts =
      let pair = spells.spells in
      let whole = parts ∙ ap (λ (xs : List ℕ). xs ++ more) pair.is ∙ append_assoc pair.front pair.back more in
      let f = (number_reader 1).again s pair.front spells.code (pair.back ++ more) h pair.first whole in
      let g = (behind_kind s spells.kind).again f.next pair.back item more f.stands pair.second f.left in
      record { next = g.next; reads = rw (f.reads, spells.known) g.reads; left = g.left; stands = g.stands }

  pub entry_reader : Reader (entry_at c base) (SpellsItem c base)
  entry_reader = record { takes = entry_taken; again = entry_again }
