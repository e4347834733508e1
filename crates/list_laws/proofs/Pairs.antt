-- What is read of two words is spelled so, and what is spelled so is read, where no relocation stands among the items.
use Rattle.std.proofs.Common.{◌≡◌, ◌⊎◌, ℕ, ◌+◌, ◌^◌, ◌<◌, ◌==◌, ◌&&◌, Bool, true, false, List, [], ◌++◌, Result, Ok, refl, sym, ap, subst, ◌∙◌, append_assoc, arith, if◌then◌else◌, inl, inr}
use Rattle.std.specs.Prelude.{not}
use Rattle.std.specs.List.{find}
use Rattle.std.proofs.lemmas.Bool.{eqb-true, eqb-false, and_parts, and_cases, ne_eqb, not-false}
use Rattle.byteorder.specs.Endian.{little_bytes}
use Rattle.ds_base.specs.declared.fault.Fault.{Fault}
use Rattle.ds_base.specs.declared.fault.Kind.TheVariants as kinds
use Rattle.ds_base.specs.Spot.{Spot, fault_at, rest}
use Rattle.ds_base.specs.Reading.{number_at}
use Rattle.ds_base.proofs.Passing.{bind_ok, ok_is, passed}
use Rattle.dwarf_types.specs.declared.address.Addr.{Addr}
use Rattle.dwarf_types.specs.declared.address.Addr.TheVariants as addrs
use Rattle.dwarf_types.specs.Spelled.{IsNumber}
use Rattle.dwarf_types.proofs.Readers.{Again, Reader, Stands, Taken, number_reader}
use Rattle.macho_read.specs.declared.image.Image.{Image}
use Rattle.reloc_table.specs.declared.relocation.Reloc.{Reloc}
use Rattle.reloc_table.specs.declared.relocation.Relocs.{Relocs}
use Rattle.reloc_table.specs.Address.{address_of, relocated}
use Rattle.list_items.specs.declared.item.Item.{Item}
use Rattle.list_items.specs.declared.item.Item.TheVariants as items
use Rattle.list_items.specs.Context.{Context}
use Rattle.list_items.specs.Ends.{belong_together, from_base}
use Rattle.list_items.specs.Items.{span_at}
use Rattle.list_items.specs.Words.{item_of, largest_offset, word_at, words_at}
use Rattle.list_laws.specs.Spelling.{SpellsPair, behind_base, is_base, is_end, is_span, two_words}

-- ---- a word

-- what a reader gives, whose type has no name outside of its crate
abbrev Given : {A : Type 0} → (Context → Spot → Result (A × Spot) Fault) → Type 0
Given {A} read = A

abbrev Word : Type 0
Word = Given word_at

abbrev word : ℕ → Word
word n = record { stored = n; means = addrs.Fixed n }

abbrev meaning : ℕ → Addr → Word
meaning n at = record { stored = n; means = at }

plain_address : (image : Image) (relocs : Relocs) (place n : ℕ) → relocs.list ≡ [] → address_of image relocs place n ≡ addrs.Fixed n
unfolding address_of
plain_address image relocs place n none = ap (λ (list : List Reloc). relocated image (find (λ r. r.place == place) list) n) none

word_read : (c : Context) (s : Spot) (n : ℕ) (t : Spot) → c.relocs.list ≡ [] → number_at 8 s ≡ Ok (n, t) → word_at c s ≡ Ok (word n, t)
unfolding word_at
word_read c s n t none e = rw e (ap (λ (a : Addr). Ok (meaning n a, t)) (plain_address c.image c.relocs s.place n none))

word_taken : (c : Context) (s : Spot) (y : Word × Spot) → c.relocs.list ≡ [] → word_at c s ≡ Ok y → (number_at 8 s ≡ Ok (y.0.stored, y.1)) × (y.0 ≡ word y.0.stored)
unfolding word_at
word_taken c s y none e =
    let n = bind_ok (number_at 8 s) _ y e in
    subst (λ (q : Word × Spot). (number_at 8 s ≡ Ok (q.0.stored, q.1)) × (q.0 ≡ word q.0.stored)) (ok_is _ y n.2) (n.1, ap (meaning n.0.0) (plain_address c.image c.relocs s.place n.0.0 none))

-- ---- two words

item_said : (base : Addr) (first : Spot) (low high : ℕ) (item : Item) → low < 2 ^ 64 → high < 2 ^ 64 → item_of base first (word low) (word high) ≡ Ok item → SpellsPair base (two_words low high) item
unfolding from_base
item_said base first low high item low_fits high_fits e = by (low == 0 && high == 0) refl (low == largest_offset) refl e
  where
    by : (last : Bool) → (low == 0 && high == 0) ≡ last → (selects : Bool) → (low == largest_offset) ≡ selects
        → (if last then Ok items.End else if selects then Ok (items.Base (addrs.Fixed high)) else span_at first (behind_base base low high)) ≡ Ok item → SpellsPair base (two_words low high) item
    by true last selects s e =
        let zeros = and_parts (low == 0) (high == 0) last in
        is_end (ap (λ (n : ℕ). two_words n high) (eqb-true low 0 zeros.0) ∙ ap (two_words 0) (eqb-true high 0 zeros.1)) (sym (ok_is items.End item e))
    by false last true s e = is_base high high_fits (ap (λ (n : ℕ). two_words n high) (eqb-true low largest_offset s)) (sym (ok_is (items.Base (addrs.Fixed high)) item e))
    by false last false s e =
        let p = passed (not (belong_together (behind_base base low high))) (fault_at first kinds.BadList) (Ok (items.Span (behind_base base low high))) item e in
        is_span low high (some (and_cases (low == 0) (high == 0) last)) (below (eqb-false low largest_offset s)) high_fits refl (not-false (belong_together (behind_base base low high)) p.0)
        (sym (ok_is (items.Span (behind_base base low high)) item p.1))
      where
        some : ((low == 0) ≡ false) ⊎ ((high == 0) ≡ false) → 0 < low + high
        some (inl e) = let ne = eqb-false low 0 e in omega (arith, ne)
        some (inr e) = let ne = eqb-false high 0 e in omega (arith, ne)

        below : (low ≡ largest_offset → ⊥) → low < largest_offset
        below ne = omega (arith, ne, low_fits)

number_fits : (n : ℕ) (bytes : List ℕ) (v : ℕ) → IsNumber n bytes v → v < 256 ^ n
number_fits n bytes v is = is.fits

module _ (c : Context) (none : c.relocs.list ≡ []) (base : Addr) where
  pair_taken : (s : Spot) (item : Item) (t : Spot) → Stands s → words_at c base s ≡ Ok (item, t) → Taken (SpellsPair base) s item t
  unfolding words_at
  pair_taken s item t h e =
      let low = bind_ok (word_at c s) _ (item, t) e in
      let high = bind_ok (word_at c low.0.1) _ (item, t) low.2 in
      let what = bind_ok (item_of base s low.0.0 high.0.0) _ (item, t) high.2 in
      let one = word_taken c s low.0 none low.1 in
      let two = word_taken c low.0.1 high.0 none high.1 in
      let f = (number_reader 8).takes s low.0.0.stored low.0.1 h one.0 in
      let g = (number_reader 8).takes low.0.1 high.0.0.stored high.0.1 f.stands two.0 in
      let said : item_of base s (word low.0.0.stored) (word high.0.0.stored) ≡ Ok what.0 =
      subst (λ (x : Word). item_of base s (word low.0.0.stored) x ≡ Ok what.0) two.1 (subst (λ (x : Word). item_of base s x high.0.0 ≡ Ok what.0) one.1 what.1) in
      let low_fits = number_fits 8 f.bytes low.0.0.stored f.spells in
      let high_fits = number_fits 8 g.bytes high.0.0.stored g.spells in
      let spells = item_said base s low.0.0.stored high.0.0.stored what.0 (omega (arith, low_fits)) (omega (arith, high_fits)) said in
      let is : two_words low.0.0.stored high.0.0.stored ≡ f.bytes ++ g.bytes = sym (ap (λ (xs : List ℕ). xs ++ g.bytes) f.spells.is ∙ ap (λ (xs : List ℕ). little_bytes 8 low.0.0.stored ++ xs) g.spells.is) in
      subst (λ (q : Item × Spot). Taken (SpellsPair base) s q.0 q.1) (ok_is (what.0, high.0.1) (item, t) what.2) (record {
        bytes = f.bytes ++ g.bytes;
        spells = subst (λ (xs : List ℕ). SpellsPair base xs what.0) is spells;
        parts = f.parts ∙ ap (λ (xs : List ℕ). f.bytes ++ xs) g.parts ∙ sym (append_assoc f.bytes g.bytes (rest high.0.1));
        stands = g.stands;
      })

  -- two numbers are read, and then what they say
  words_read : (s : Spot) (low high : ℕ) (item : Item) (more : List ℕ) → Stands s → low < 2 ^ 64 → high < 2 ^ 64 → item_of base s (word low) (word high) ≡ Ok item → rest s ≡ two_words low high ++ more → Again (words_at c base) s item more
  unfolding words_at
  words_read s low high item more h low_fits high_fits said parts =
      let f = (number_reader 8).again s (little_bytes 8 low) low (little_bytes 8 high ++ more) h (record { is = refl; fits = omega (arith, low_fits) }) (parts ∙ append_assoc (little_bytes 8 low) (little_bytes 8 high) more) in
      let g = (number_reader 8).again f.next (little_bytes 8 high) high more f.stands (record { is = refl; fits = omega (arith, high_fits) }) f.left in
      let one = word_read c s low f.next none f.reads in
      let two = word_read c f.next high g.next none g.reads in
      record { next = g.next; reads = rw (one, two, said) refl; left = g.left; stands = g.stands }

  pair_again : (s : Spot) (bytes : List ℕ) (item : Item) (more : List ℕ) → Stands s → SpellsPair base bytes item → rest s ≡ bytes ++ more → Again (words_at c base) s item more
  unfolding from_base
  pair_again s bytes item more h (is_end is what) parts =
      let said : item_of base s (word 0) (word 0) ≡ Ok item = ap (λ (x : Item). Ok x) (sym what) in
      words_read s 0 0 item more h (omega arith) (omega arith) said (parts ∙ ap (λ (xs : List ℕ). xs ++ more) is)
  pair_again s bytes item more h (is_base selected fits is what) parts =
      let said : item_of base s (word largest_offset) (word selected) ≡ Ok item = ap (λ (x : Item). Ok x) (sym what) in
      words_read s largest_offset selected item more h (omega arith) fits said (parts ∙ ap (λ (xs : List ℕ). xs ++ more) is)
  pair_again s bytes item more h (is_span low high some below fits is ordered what) parts =
      words_read s low high item more h (omega (arith, below)) fits (spans (low == 0 && high == 0) (no_end (low == 0) refl) (low == largest_offset) (ne_eqb low largest_offset (λ e. absurd (omega (arith, e, below))))) (parts ∙ ap (λ (xs : List ℕ). xs ++ more) is)
    where
      no_end : (b : Bool) → (low == 0) ≡ b → (b && high == 0) ≡ false
      no_end true e = let zero_low = eqb-true low 0 e in ne_eqb high 0 (λ z. absurd (omega (arith, z, zero_low, some)))
      no_end false e = refl

      spans : (last : Bool) → last ≡ false → (selects : Bool) → selects ≡ false → (if last then Ok items.End else if selects then Ok (items.Base (addrs.Fixed high)) else span_at s (behind_base base low high)) ≡ Ok item
      spans true last selects e = absurd cc
      spans false last true e = absurd cc
      spans false last false e = rw ordered (ap (λ (x : Item). Ok x) (sym what))

  pub pair_reader : Reader (words_at c base) (SpellsPair base)
  pair_reader = record { takes = pair_taken; again = pair_again }
