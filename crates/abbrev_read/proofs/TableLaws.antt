-- What is read of an abbreviation table is spelled so, and what is spelled so is read.
use Rattle.std.proofs.Common.{◌≡◌, ℕ, zero, suc, ◌-◌, ◌<◌, ◌≤◌, ◌==◌, Bool, true, false, cond, List, [], ◌∷◌, ◌++◌, length, drop, Option, Some, None, Result, Ok, refl, sym, ap, subst, ◌∙◌, append_assoc, arith, inl, inr, ℤ, pos}
use Rattle.std.specs.Prelude.{nat_lt, if◌then◌else◌}
use Rattle.std.specs.Option.{option_map_or, is_some}
use Rattle.std.proofs.lemmas.Bool.{cases_eq, ltb-false, le-ltb, eq-eqb, ne_eqb, eqb-false}
use Rattle.std.proofs.lemmas.List.{append-nil, take_all, length-append, length-drop}
use Rattle.ds_base.specs.DwarfNumbers.{DW_FORM_implicit_const}
use Rattle.ds_base.specs.declared.fault.Fault.{Fault}
use Rattle.ds_base.specs.declared.fault.Kind.TheVariants.{BadAbbrev, LimitAttributes, DuplicateCode}
use Rattle.ds_base.specs.Leb.{IsSpelled}
use Rattle.ds_base.specs.Spot.{Spot, rest, fault_at}
use Rattle.ds_base.specs.Reading.{◌>>=◌, refuse_if, number_at, uleb_at, sleb_at}
use Rattle.dwarf_types.specs.Spelled.{AreBytes, InTurn, IsUleb, IsSleb, IsNumber, Made}
use Rattle.dwarf_types.specs.declared.abbrev.Field.{Field}
use Rattle.dwarf_types.specs.declared.abbrev.Abbrev.{Abbrev}
use Rattle.ds_base.proofs.Passing.{bind_ok, passed, ok_is}
use Rattle.dwarf_types.proofs.Readers.{IsBytes, IsBytes-drop, IsBytes-from, Stands, Taken, Again, Reader, Both, both_reader, tested_reader, checked_reader, made_reader, nothing_reader, renamed_reader, uleb_reader, sleb_reader, number_reader}
use Rattle.abbrev_read.specs.Codes.{is_declared}
use Rattle.abbrev_read.specs.Reading.{short_at, one_is_zero, pair_at, field_at, fields_at, declaration_at, declarations_at, table_spot, table_at}
use Rattle.abbrev_read.specs.Spelling.{constant_in, SpellsField, SpellsFields, children_byte, SpellsTable, IsShort, AreFields, AreDeclarations, StandsAt}

-- ---- numbers of 16 bits

abbrev Short : List ℕ → ℕ → Type 0
Short bytes n = IsUleb bytes n × (n ≤ 65535)

short_reader : (first : Spot) → Reader (short_at first) Short
unfolding short_at
short_reader first =
    renamed_reader _ _ Short (λ bytes n spells. (spells.0, ltb-false 65535 n spells.1)) (λ bytes n spells. (spells.0, le-ltb 65535 n spells.1))
    (checked_reader (λ n. nat_lt 65535 n) (fault_at first BadAbbrev) uleb_at IsUleb uleb_reader)

-- ---- pairs

-- two zeros, or two numbers that are not
abbrev SpellsPair : List ℕ → Option (ℕ × ℕ) → Type 0
SpellsPair bytes None = InTurn (λ b. IsUleb b 0) (λ b. IsUleb b 0) bytes
SpellsPair bytes (Some pair) = InTurn (λ b. IsUleb b pair.0) (λ b. IsUleb b pair.1) bytes × (IsShort pair.0 × IsShort pair.1)

abbrev pair_of : ℕ → ℕ → Option (ℕ × ℕ)
pair_of name form = if name == 0 then None else Some (name, form)

abbrev RestOfPair : ℕ → ℕ → List ℕ → Option (ℕ × ℕ) → Type 0
RestOfPair name form bytes o = (one_is_zero name form ≡ false) × ((bytes ≡ []) × (o ≡ pair_of name form))

abbrev RawPair : List ℕ → Option (ℕ × ℕ) → Type 0
RawPair = Both Short (λ name. Both Short (λ form. RestOfPair name form))

zeros : (name form : ℕ) (x y : List ℕ) → name ≡ 0 → Short x name → Short y form → one_is_zero name form ≡ false → SpellsPair (x ++ y) (pair_of name form)
zeros name form x y z p q ok =
    let here : (name == 0) ≡ true = eq-eqb name 0 z in
    let none : pair_of name form ≡ None = rw here refl in
    let same : one_is_zero name form ≡ nat_lt 0 form = rw here refl in
    let w : form ≡ 0 = omega (arith, ltb-false 0 form (sym same ∙ ok)) in
    subst (SpellsPair (x ++ y)) (sym none) (record { front = x; back = y; is = refl; first = subst (IsUleb x) z p.0; second = subst (IsUleb y) w q.0 })

numbers : (name form : ℕ) (x y : List ℕ) → (name ≡ 0 → ⊥) → Short x name → Short y form → one_is_zero name form ≡ false → SpellsPair (x ++ y) (pair_of name form)
numbers name form x y nz p q ok =
    let here : (name == 0) ≡ false = ne_eqb name 0 nz in
    let some : pair_of name form ≡ Some (name, form) = rw here refl in
    let same : one_is_zero name form ≡ (form == 0) = rw here refl in
    let w : form ≡ 0 → ⊥ = eqb-false form 0 (sym same ∙ ok) in
    subst (SpellsPair (x ++ y)) (sym some) (record { front = x; back = y; is = refl; first = p.0; second = q.0 }, ((omega arith, p.1), (omega arith, q.1)))

pair_from_raw : (bytes : List ℕ) (o : Option (ℕ × ℕ)) → RawPair bytes o → SpellsPair bytes o
pair_from_raw bytes o raw =
    let b = raw.second in
    let w = b.second in
    let whole : raw.front ++ b.front ≡ bytes = ap (λ (xs : List ℕ). raw.front ++ xs) (sym (b.is ∙ ap (λ (xs : List ℕ). b.front ++ xs) w.1.0 ∙ append-nil b.front)) ∙ sym raw.is in
    let made : SpellsPair (raw.front ++ b.front) (pair_of raw.value b.value) = elim (cases_eq raw.value 0) [
      | inl z ↦ zeros raw.value b.value raw.front b.front z raw.first b.first w.0
      | inr nz ↦ numbers raw.value b.value raw.front b.front nz raw.first b.first w.0
    ] in
    subst (SpellsPair bytes) (sym w.1.1) (subst (λ (xs : List ℕ). SpellsPair xs (pair_of raw.value b.value)) whole made)

raw_of : (name form : ℕ) (x y bytes : List ℕ) (o : Option (ℕ × ℕ)) → bytes ≡ x ++ y → Short x name → Short y form → one_is_zero name form ≡ false → o ≡ pair_of name form → RawPair bytes o
raw_of name form x y bytes o is p q ok made =
    record {
      value = name;
      front = x;
      back = y;
      is = is;
      first = p;
      second = record { value = form; front = y; back = []; is = sym (append-nil y); first = q; second = (ok, (refl, made)) };
    }

raw_from_pair : (bytes : List ℕ) (o : Option (ℕ × ℕ)) → SpellsPair bytes o → RawPair bytes o
raw_from_pair bytes None spells = raw_of 0 0 spells.front spells.back bytes None spells.is (spells.first, omega arith) (spells.second, omega arith) refl refl
raw_from_pair bytes (Some pair) spells =
    let here : (pair.0 == 0) ≡ false = ne_eqb pair.0 0 (λ z. absurd (omega (arith, spells.1.0.0, z))) in
    let form : (pair.1 == 0) ≡ false = ne_eqb pair.1 0 (λ z. absurd (omega (arith, spells.1.1.0, z))) in
    raw_of pair.0 pair.1 spells.0.front spells.0.back bytes (Some pair) spells.0.is (spells.0.first, spells.1.0.1) (spells.0.second, spells.1.1.1) (rw (here, form) refl) (rw here refl)

pair_reader : (first : Spot) → Reader (pair_at first) SpellsPair
unfolding pair_at
pair_reader first =
    renamed_reader _ RawPair SpellsPair pair_from_raw raw_from_pair
    (both_reader (short_at first) (λ name s. short_at first s >>= λ form. refuse_if (one_is_zero name form.0) (fault_at first BadAbbrev) >>= λ u. Ok (pair_of name form.0, form.1)) Short (λ name. Both Short (λ form. RestOfPair name form)) (short_reader first) (λ name.
    both_reader (short_at first) (λ form s. refuse_if (one_is_zero name form) (fault_at first BadAbbrev) >>= λ u. Ok (pair_of name form, s)) Short (λ form. RestOfPair name form) (short_reader first) (λ form.
    tested_reader (one_is_zero name form) (λ s. fault_at first BadAbbrev) (λ s. Ok (pair_of name form, s)) _ (nothing_reader (pair_of name form)))))

-- ---- attributes

abbrev IsFieldOf : ℕ × ℕ → List ℕ → Field → Type 0
IsFieldOf pair bytes field = ((field.name ≡ pair.0) × (field.form ≡ pair.1)) × constant_in (pair.1 == DW_FORM_implicit_const) field bytes

abbrev field_with : ℕ × ℕ → ℤ → Field
field_with pair z = record { name = pair.0; form = pair.1; fixed = z }

abbrev field_of : ℕ → ℕ → ℤ → Field
field_of name form z = record { name = name; form = form; fixed = z }

field_is : (pair : ℕ × ℕ) (field : Field) (z : ℤ) → field.name ≡ pair.0 → field.form ≡ pair.1 → field.fixed ≡ z → field ≡ field_with pair z
field_is pair field z n f x = ap (λ (a : ℕ). field_of a field.form field.fixed) n ∙ ap (λ (a : ℕ). field_of pair.0 a field.fixed) f ∙ ap (field_of pair.0 pair.1) x

field_by : (b : Bool) (pair : ℕ × ℕ) → Reader (λ s. cond b (sleb_at s >>= λ z. Ok (field_with pair z.0, z.1)) (Ok (field_with pair (pos 0), s))) (λ bytes field. ((field.name ≡ pair.0) × (field.form ≡ pair.1)) × constant_in b field bytes)
field_by true pair =
    renamed_reader _ (Made (field_with pair) IsSleb) _ (λ bytes field m.
    ((ap (λ (f : Field). f.name) m.is, ap (λ (f : Field). f.form) m.is), subst (IsSleb bytes) (sym (ap (λ (f : Field). f.fixed) m.is)) m.spells)) (λ bytes field w.
    record { of = field.fixed; spells = w.1; is = field_is pair field field.fixed w.0.0 w.0.1 refl }) (made_reader (field_with pair) sleb_at IsSleb sleb_reader)
field_by false pair =
    renamed_reader _ (λ bytes field. (bytes ≡ []) × (field ≡ field_with pair (pos 0))) _ (λ bytes field w.
    ((ap (λ (f : Field). f.name) w.1, ap (λ (f : Field). f.form) w.1), (w.0, ap (λ (f : Field). f.fixed) w.1))) (λ bytes field w.
    (w.1.0, field_is pair field (pos 0) w.0.0 w.0.1 w.1.1)) (nothing_reader (field_with pair (pos 0)))

field_reader : (pair : ℕ × ℕ) → Reader (field_at pair) (IsFieldOf pair)
unfolding field_at
field_reader pair = field_by (pair.1 == DW_FORM_implicit_const) pair

-- the attributes that were read are spelled behind those before
record FieldsTaken (room : ℕ) (before : List Field) (s : Spot) (fields : List Field) (t : Spot) : Type 0 where
  own : List Field
  is : fields ≡ before ++ own
  few : length own ≤ room
  sound : AreFields own
  bytes : List ℕ
  spells : SpellsFields own bytes
  parts : rest s ≡ bytes ++ rest t
  stands : Stands t

no_field : (room : ℕ) (before : List Field) (s t : Spot) (o : Option (ℕ × ℕ)) → o ≡ None → Taken SpellsPair s o t → FieldsTaken room before s before t
no_field room before s t o none p =
    record {
      own = [];
      is = sym (append-nil before);
      few = omega arith;
      sound = tt;
      bytes = p.bytes;
      spells = subst (SpellsPair p.bytes) none p.spells;
      parts = p.parts;
      stands = p.stands;
    }

not_some : {A : Type 0} (o : Option A) → is_some o ≡ false → o ≡ None
not_some None e = refl
not_some (Some x) e = absurd cc

abbrev pub after_pair : ℕ → List Field → Spot → Option (ℕ × ℕ) × Spot → Result (List Field × Spot) Fault
after_pair room before first p = option_map_or (λ pair. field_at pair p.1 >>= λ field. fields_at room (before ++ field.0 ∷ []) first field.1) p.0 (Ok (before, p.1))

field_spelled : (pair : ℕ × ℕ) (field : Field) (x y : List ℕ) → SpellsPair x (Some pair) → IsFieldOf pair y field → SpellsField field (x ++ y)
field_spelled pair field x y p f =
    let w = p.0 in
    record {
      front = w.front;
      back = w.back ++ y;
      is = ap (λ (xs : List ℕ). xs ++ y) w.is ∙ append_assoc w.front w.back y;
      first = subst (IsUleb w.front) (sym f.0.0) w.first;
      second = record { front = w.back; back = y; is = refl; first = subst (IsUleb w.back) (sym f.0.1) w.second; second = subst (λ (n : ℕ). constant_in (n == DW_FORM_implicit_const) field y) (sym f.0.1) f.1 };
    }

field_more : (room : ℕ) (before : List Field) (s u v : Spot) (pair : ℕ × ℕ) (field : Field) (fields : List Field) (t : Spot) → Taken SpellsPair s (Some pair) u → Taken (IsFieldOf pair) u field v
    → FieldsTaken room (before ++ field ∷ []) v fields t → FieldsTaken (suc room) before s fields t
field_more room before s u v pair field fields t p f others =
    let names = p.spells.1 in
    let shorts : IsShort field.name × IsShort field.form = (subst IsShort (sym f.spells.0.0) names.0, subst IsShort (sym f.spells.0.1) names.1) in
    record {
      own = field ∷ others.own;
      is = others.is ∙ append_assoc before (field ∷ []) others.own;
      few = omega (arith, others.few);
      sound = (shorts, others.sound);
      bytes = (p.bytes ++ f.bytes) ++ others.bytes;
      spells = record { front = p.bytes ++ f.bytes; back = others.bytes; is = refl; first = field_spelled pair field p.bytes f.bytes p.spells f.spells; second = others.spells };
      parts = p.parts ∙ ap (λ (xs : List ℕ). p.bytes ++ xs) (f.parts ∙ ap (λ (xs : List ℕ). f.bytes ++ xs) others.parts) ∙ sym (append_assoc p.bytes f.bytes (others.bytes ++ rest t)) ∙ sym (append_assoc (p.bytes ++ f.bytes) others.bytes (rest t));
      stands = others.stands;
    }

after_pair_takes : (room : ℕ) (before : List Field) (first s u : Spot) (o : Option (ℕ × ℕ)) (fields : List Field) (t : Spot) → Taken SpellsPair s o u → after_pair room before first (o, u) ≡ Ok (fields, t)
    → ((field : Field) (v : Spot) → Stands v → fields_at room (before ++ field ∷ []) first v ≡ Ok (fields, t) → FieldsTaken room (before ++ field ∷ []) v fields t) → FieldsTaken (suc room) before s fields t
after_pair_takes room before first s u None fields t p e others =
    subst (λ (q : List Field × Spot). FieldsTaken (suc room) before s q.0 q.1) (ok_is (before, u) (fields, t) e) (no_field (suc room) before s u None refl p)
after_pair_takes room before first s u (Some pair) fields t p e others =
    let b = bind_ok (field_at pair u) (λ field. fields_at room (before ++ field.0 ∷ []) first field.1) (fields, t) e in
    let r = field_reader pair in
    let f = r.takes u b.0.0 b.0.1 p.stands b.1 in
    field_more room before s u b.0.1 pair b.0.0 fields t p f (others b.0.0 b.0.1 f.stands b.2)

fields_take : (room : ℕ) (before : List Field) (first s : Spot) (fields : List Field) (t : Spot) → Stands s → fields_at room before first s ≡ Ok (fields, t) → FieldsTaken room before s fields t
unfolding fields_at
fields_take zero before first s fields t h e =
    let b = bind_ok (pair_at first s) (λ p. refuse_if (is_some p.0) (fault_at first LimitAttributes) >>= λ u. Ok (before, p.1)) (fields, t) e in
    let q = passed (is_some b.0.0) (fault_at first LimitAttributes) (Ok (before, b.0.1)) (fields, t) b.2 in
    let r = pair_reader first in
    subst (λ (w : List Field × Spot). FieldsTaken zero before s w.0 w.1) (ok_is (before, b.0.1) (fields, t) q.1) (no_field zero before s b.0.1 b.0.0 (not_some b.0.0 q.0) (r.takes s b.0.0 b.0.1 h b.1))
fields_take (suc room) before first s fields t h e =
    let b = bind_ok (pair_at first s) (after_pair room before first) (fields, t) e in
    let r = pair_reader first in
    after_pair_takes room before first s b.0.1 b.0.0 fields t (r.takes s b.0.0 b.0.1 h b.1) b.2 (λ field v stands read. fields_take room (before ++ field ∷ []) first v fields t stands read)

fields_again : (own : List Field) (room : ℕ) (before : List Field) (first s : Spot) (bytes more : List ℕ) → Stands s → AreFields own → length own ≤ room → SpellsFields own bytes → rest s ≡ bytes ++ more
    → Again (fields_at room before first) s (before ++ own) more
unfolding fields_at
fields_again [] zero before first s bytes more h sound few spells parts =
    let r = pair_reader first in
    let p = r.again s bytes None more h spells parts in
    record { next = p.next; reads = rw p.reads (ap (λ (xs : List Field). Ok (xs, p.next)) (sym (append-nil before))); left = p.left; stands = p.stands }
fields_again [] (suc room) before first s bytes more h sound few spells parts =
    let r = pair_reader first in
    let p = r.again s bytes None more h spells parts in
    record { next = p.next; reads = rw p.reads (ap (λ (xs : List Field). Ok (xs, p.next)) (sym (append-nil before))); left = p.left; stands = p.stands }
fields_again (field ∷ own) zero before first s bytes more h sound few spells parts = absurd (omega arith)
fields_again (field ∷ own) (suc room) before first s bytes more h sound few spells parts =
    let w = spells.first in
    let x = w.front ++ w.second.front in
    let y = w.second.back in
    let pair : ℕ × ℕ = (field.name, field.form) in
    let split : spells.front ≡ x ++ y = w.is ∙ ap (λ (xs : List ℕ). w.front ++ xs) w.second.is ∙ sym (append_assoc w.front w.second.front y) in
    let whole : rest s ≡ x ++ (y ++ (spells.back ++ more)) = parts ∙ ap (λ (xs : List ℕ). xs ++ more) (spells.is ∙ ap (λ (xs : List ℕ). xs ++ spells.back) split) ∙ append_assoc (x ++ y) spells.back more ∙ append_assoc x y (spells.back ++ more) in
    let r = pair_reader first in
    let p = r.again s x (Some pair) (y ++ (spells.back ++ more)) h (record { front = w.front; back = w.second.front; is = refl; first = w.first; second = w.second.first }, sound.0) whole in
    let q = field_reader pair in
    let f = q.again p.next y field (spells.back ++ more) p.stands ((refl, refl), w.second.second) p.left in
    let others = fields_again own room (before ++ field ∷ []) first f.next spells.back more f.stands sound.1 (omega arith) spells.second f.left in
    record {
      next = others.next;
      reads = rw (p.reads, f.reads) (others.reads ∙ ap (λ (xs : List Field). Ok (xs, others.next)) (append_assoc before (field ∷ []) own));
      left = others.left;
      stands = others.stands;
    }

record AllFields (bytes : List ℕ) (fields : List Field) : Type 0 where
  spells : SpellsFields fields bytes
  sound : AreFields fields
  few : length fields ≤ 256

fields_reader : (first : Spot) → Reader (fields_at 256 [] first) AllFields
fields_reader first = record {
  takes = λ s fields t h e.
      let p = fields_take 256 [] first s fields t h e in
      record { bytes = p.bytes; spells = subst (AllFields p.bytes) (sym p.is) (record { spells = p.spells; sound = p.sound; few = p.few }); parts = p.parts; stands = p.stands };
  again = λ s bytes fields more h a parts. fields_again fields 256 [] first s bytes more h a.sound a.few a.spells parts;
}

-- ---- declarations

abbrev declared : ℕ → ℕ → ℕ → List Field → Abbrev
declared code tag children fields = record { code = code; tag = tag; children = children == 1; fields = fields }

abbrev RawFields : ℕ → ℕ → ℕ → List ℕ → Abbrev → Type 0
RawFields code tag children bytes d = (nat_lt 1 children ≡ false) × Made (declared code tag children) AllFields bytes d

abbrev RawRest : ℕ → ℕ → List ℕ → Abbrev → Type 0
RawRest code tag bytes d = ((tag == 0) ≡ false) × Both (IsNumber 1) (λ children. RawFields code tag children) bytes d

raw_reader : (code : ℕ) (first : Spot) → Reader (declaration_at code first) (Both Short (λ tag. RawRest code tag))
unfolding declaration_at
raw_reader code first =
    both_reader (short_at first) (λ tag s. refuse_if (tag == 0) (fault_at first BadAbbrev) >>= λ u. number_at 1 s >>= λ children. refuse_if (nat_lt 1 children.0) (fault_at first BadAbbrev) >>= λ v. fields_at 256 [] first children.1 >>= λ fields. Ok (declared code tag children.0 fields.0, fields.1)) Short (λ tag. RawRest code tag) (short_reader first) (λ tag.
    tested_reader (tag == 0) (λ s. fault_at first BadAbbrev) (λ s. number_at 1 s >>= λ children. refuse_if (nat_lt 1 children.0) (fault_at first BadAbbrev) >>= λ v. fields_at 256 [] first children.1 >>= λ fields. Ok (declared code tag children.0 fields.0, fields.1)) _
    (both_reader (number_at 1) (λ children s. refuse_if (nat_lt 1 children) (fault_at first BadAbbrev) >>= λ v. fields_at 256 [] first s >>= λ fields. Ok (declared code tag children fields.0, fields.1)) (IsNumber 1) (λ children. RawFields code tag children) (number_reader 1) (λ children.
    tested_reader (nat_lt 1 children) (λ s. fault_at first BadAbbrev) (λ s. fields_at 256 [] first s >>= λ fields. Ok (declared code tag children fields.0, fields.1)) _ (made_reader (declared code tag children) (fields_at 256 [] first) AllFields (fields_reader first)))))

-- what stands behind a code
record RestOf (code : ℕ) (bytes : List ℕ) (d : Abbrev) : Type 0 where
  code_is : d.code ≡ code
  spells : InTurn (λ b. IsUleb b d.tag) (InTurn (λ b. IsNumber 1 b (children_byte d.children)) (SpellsFields d.fields)) bytes
  tag : IsShort d.tag
  few : length d.fields ≤ 256
  fields : AreFields d.fields

byte_again : (n : ℕ) → nat_lt 1 n ≡ false → n ≡ children_byte (n == 1)
byte_again zero e = refl
byte_again (suc zero) e = refl
byte_again (suc (suc n)) e = absurd (omega (arith, ltb-false 1 (suc (suc n)) e))

rest_with : (code tag children : ℕ) (fields : List Field) (x y z bytes : List ℕ) → bytes ≡ x ++ (y ++ z) → Short x tag → (tag == 0) ≡ false → IsNumber 1 y children → nat_lt 1 children ≡ false → AllFields z fields
    → RestOf code bytes (declared code tag children fields)
rest_with code tag children fields x y z bytes is p some q small a =
    let nz : tag ≡ 0 → ⊥ = eqb-false tag 0 some in
    record {
      code_is = refl;
      spells = record { front = x; back = y ++ z; is = is; first = p.0; second = record { front = y; back = z; is = refl; first = subst (IsNumber 1 y) (byte_again children small) q; second = a.spells } };
      tag = (omega arith, p.1);
      few = a.few;
      fields = a.sound;
    }

rest_from_raw : (code : ℕ) (bytes : List ℕ) (d : Abbrev) → Both Short (λ tag. RawRest code tag) bytes d → RestOf code bytes d
rest_from_raw code bytes d raw =
    let b = raw.second.1 in
    let m = b.second.1 in
    subst (RestOf code bytes) (sym m.is) (rest_with code raw.value b.value m.of raw.front b.front b.back bytes (raw.is ∙ ap (λ (xs : List ℕ). raw.front ++ xs) b.is) raw.first raw.second.0 b.first b.second.0 m.spells)

flag_again : (c : Bool) → (children_byte c == 1) ≡ c
flag_again true = refl
flag_again false = refl

flag_small : (c : Bool) → nat_lt 1 (children_byte c) ≡ false
flag_small true = refl
flag_small false = refl

abbrev abbrev_of : ℕ → ℕ → Bool → List Field → Abbrev
abbrev_of code tag children fields = record { code = code; tag = tag; children = children; fields = fields }

declared_is : (d : Abbrev) (code : ℕ) (c : Bool) → d.code ≡ code → c ≡ d.children → d ≡ record { code = code; tag = d.tag; children = c; fields = d.fields }
declared_is d code c e f = ap (λ (a : ℕ). abbrev_of a d.tag d.children d.fields) e ∙ ap (λ (b : Bool). abbrev_of code d.tag b d.fields) (sym f)

raw_from_rest : (code : ℕ) (bytes : List ℕ) (d : Abbrev) → RestOf code bytes d → Both Short (λ tag. RawRest code tag) bytes d
raw_from_rest code bytes d r =
    let w = r.spells in
    record {
      value = d.tag;
      front = w.front;
      back = w.back;
      is = w.is;
      first = (w.first, r.tag.1);
      second = (
        ne_eqb d.tag 0 (λ z. absurd (omega (arith, r.tag.0, z))),
        record {
          value = children_byte d.children;
          front = w.second.front;
          back = w.second.back;
          is = w.second.is;
          first = w.second.first;
          second = (flag_small d.children, record { of = d.fields; spells = record { spells = w.second.second; sound = r.fields; few = r.few }; is = declared_is d code (children_byte d.children == 1) r.code_is (flag_again d.children) });
        },
      );
    }

declaration_reader : (code : ℕ) (first : Spot) → Reader (declaration_at code first) (RestOf code)
declaration_reader code first = renamed_reader _ _ (RestOf code) (rest_from_raw code) (raw_from_rest code) (raw_reader code first)

-- ---- tables

record TableTaken (before : List Abbrev) (s : Spot) (table : List Abbrev) : Type 0 where
  own : List Abbrev
  is : table ≡ before ++ own
  sound : AreDeclarations before own
  bytes : List ℕ
  more : List ℕ
  spells : SpellsTable own bytes
  parts : rest s ≡ bytes ++ more

abbrev pub after_code : ℕ → List Abbrev → Spot → ℕ × Spot → Result (List Abbrev) Fault
after_code left before s code = if code.0 == 0 then Ok before else (refuse_if (is_declared code.0 before) (fault_at s DuplicateCode) >>= λ u. declaration_at code.0 s code.1 >>= λ d. declarations_at left (before ++ d.0 ∷ []) d.1)

abbrev pub declared_then : ℕ → List Abbrev → Abbrev × Spot → Result (List Abbrev) Fault
declared_then left before d = declarations_at left (before ++ d.0 ∷ []) d.1

abbrev done : List Abbrev → Result (List Abbrev) Fault
done table = Ok table

table_is : (a b : List Abbrev) → done a ≡ done b → a ≡ b
table_is a b e = cc

table_end : (before : List Abbrev) (s u : Spot) (code : ℕ) (table : List Abbrev) → code ≡ 0 → before ≡ table → Taken IsUleb s code u → TableTaken before s table
table_end before s u code table z e p =
    record {
      own = [];
      is = sym e ∙ sym (append-nil before);
      sound = tt;
      bytes = p.bytes;
      more = rest u;
      spells = subst (IsUleb p.bytes) z p.spells;
      parts = p.parts;
    }

table_more : (before : List Abbrev) (s u v : Spot) (code : ℕ) (d : Abbrev) (table : List Abbrev) → (code ≡ 0 → ⊥) → is_declared code before ≡ false → Taken IsUleb s code u → Taken (RestOf code) u d v
    → TableTaken (before ++ d ∷ []) v table → TableTaken before s table
table_more before s u v code d table some fresh p f others =
    let r = f.spells in
    let same : code ≡ d.code = sym r.code_is in
    record {
      own = d ∷ others.own;
      is = others.is ∙ append_assoc before (d ∷ []) others.own;
      sound = ((subst (λ (n : ℕ). is_declared n before ≡ false) same fresh, record { code = omega (arith, same, some); tag = r.tag; few = r.few; fields = r.fields }), others.sound);
      bytes = (p.bytes ++ f.bytes) ++ others.bytes;
      more = others.more;
      spells = record { front = p.bytes ++ f.bytes; back = others.bytes; is = refl; first = record { front = p.bytes; back = f.bytes; is = refl; first = subst (IsUleb p.bytes) same p.spells; second = r.spells }; second = others.spells };
      parts = p.parts ∙ ap (λ (xs : List ℕ). p.bytes ++ xs) (f.parts ∙ ap (λ (xs : List ℕ). f.bytes ++ xs) others.parts) ∙ sym (append_assoc p.bytes f.bytes (others.bytes ++ others.more)) ∙ sym (append_assoc (p.bytes ++ f.bytes) others.bytes others.more);
    }

-- what was read behind a code that is 0, and behind one that is not
pub code_zero : (left : ℕ) (before : List Abbrev) (s : Spot) (code : ℕ × Spot) (table : List Abbrev) → code.0 ≡ 0 → after_code left before s code ≡ Ok table → before ≡ table
code_zero left before s code table z e =
    let here : (code.0 == 0) ≡ true = eq-eqb code.0 0 z in
    let step : after_code left before s code ≡ Ok before = rw here refl in
    table_is before table (sym step ∙ e)

pub code_some : (left : ℕ) (before : List Abbrev) (s : Spot) (code : ℕ × Spot) (table : List Abbrev) → (code.0 ≡ 0 → ⊥) → after_code left before s code ≡ Ok table
    → (is_declared code.0 before ≡ false) × ((declaration_at code.0 s code.1 >>= declared_then left before) ≡ Ok table)
code_some left before s code table nz e =
    let here : (code.0 == 0) ≡ false = ne_eqb code.0 0 nz in
    let step : after_code left before s code ≡ (refuse_if (is_declared code.0 before) (fault_at s DuplicateCode) >>= λ u. declaration_at code.0 s code.1 >>= declared_then left before) = rw here refl in
    passed (is_declared code.0 before) (fault_at s DuplicateCode) (declaration_at code.0 s code.1 >>= declared_then left before) table (sym step ∙ e)

declarations_take : (left : ℕ) (before : List Abbrev) (s : Spot) (table : List Abbrev) → Stands s → declarations_at left before s ≡ Ok table → TableTaken before s table
unfolding declarations_at
declarations_take zero before s table h e = absurd cc
declarations_take (suc left) before s table h e =
    let b = bind_ok (uleb_at s) (after_code left before s) table e in
    let r = uleb_reader in
    let p = r.takes s b.0.0 b.0.1 h b.1 in
    elim (cases_eq b.0.0 0) [
      | inl z ↦ table_end before s b.0.1 b.0.0 table z (code_zero left before s b.0 table z b.2) p
      | inr nz ↦
          let w = code_some left before s b.0 table nz b.2 in
          let d = bind_ok (declaration_at b.0.0 s b.0.1) (declared_then left before) table w.1 in
          let q = declaration_reader b.0.0 s in
          let f = q.takes b.0.1 d.0.0 d.0.1 p.stands d.1 in
          table_more before s b.0.1 d.0.1 b.0.0 d.0.0 table nz w.0 p f (declarations_take left (before ++ d.0.0 ∷ []) d.0.1 table f.stands d.2)
    ]

leb_some : (bytes : List ℕ) → IsSpelled bytes → 0 < length bytes
leb_some _ (IsSpelled.last b lt) = omega arith
leb_some _ (IsSpelled.more b bs le lt h) = omega arith

declarations_again : (own : List Abbrev) (left : ℕ) (before : List Abbrev) (s : Spot) (bytes more : List ℕ) → Stands s → AreDeclarations before own → SpellsTable own bytes → rest s ≡ bytes ++ more
    → length bytes ≤ left → declarations_at left before s ≡ Ok (before ++ own)
unfolding declarations_at
declarations_again [] zero before s bytes more h sound spells parts le = absurd (omega (arith, leb_some bytes spells.spelled))
declarations_again [] (suc left) before s bytes more h sound spells parts le =
    let r = uleb_reader in
    let p = r.again s bytes 0 more h spells parts in
    rw p.reads (ap (λ (ds : List Abbrev). Ok ds) (sym (append-nil before)))
declarations_again (d ∷ own) zero before s bytes more h sound spells parts le =
    absurd (omega (arith, ap length spells.is, length-append spells.front spells.back, ap length spells.first.is, length-append spells.first.front spells.first.back, leb_some spells.first.front spells.first.first.spelled))
declarations_again (d ∷ own) (suc left) before s bytes more h sound spells parts le =
    let w = spells.first in
    let good = sound.0.1 in
    let whole : rest s ≡ w.front ++ (w.back ++ (spells.back ++ more)) = parts ∙ ap (λ (xs : List ℕ). xs ++ more) (spells.is ∙ ap (λ (xs : List ℕ). xs ++ spells.back) w.is) ∙ append_assoc (w.front ++ w.back) spells.back more ∙ append_assoc w.front w.back (spells.back ++ more) in
    let r = uleb_reader in
    let p = r.again s w.front d.code (w.back ++ (spells.back ++ more)) h w.first whole in
    let q = declaration_reader d.code s in
    let f = q.again p.next w.back d (spells.back ++ more) p.stands (record { code_is = refl; spells = w.second; tag = good.tag; few = good.few; fields = good.fields }) p.left in
    let some : (d.code == 0) ≡ false = ne_eqb d.code 0 (λ z. absurd (omega (arith, good.code, z))) in
    let fewer : length spells.back ≤ left = omega (arith, le, ap length spells.is, length-append spells.front spells.back, ap length w.is, length-append w.front w.back, leb_some w.front w.first.spelled) in
    let others = declarations_again own left (before ++ d ∷ []) f.next spells.back more f.stands sound.1 spells.second f.left fewer in
    rw (p.reads, some, sound.0.0, f.reads) (others ∙ ap (λ (ds : List Abbrev). Ok ds) (append_assoc before (d ∷ []) own))

-- ---- from a place of the section

rest_is : (bytes : List ℕ) (offset : ℕ) → rest (table_spot bytes offset) ≡ drop offset bytes
rest_is bytes offset = take_all (length bytes - offset) (drop offset bytes) (omega (arith, length-drop offset bytes))

stands_there : (bytes : List ℕ) (offset : ℕ) → offset < length bytes → AreBytes bytes → Stands (table_spot bytes offset)
stands_there bytes offset lt all =
    record {
      place = record { before_end = omega arith; in_bytes = omega arith };
      bytes = subst IsBytes (sym (rest_is bytes offset)) (IsBytes-drop offset bytes (IsBytes-from bytes all));
    }

pub table_spelled : (bytes : List ℕ) (offset : ℕ) (table : List Abbrev) → offset < length bytes → AreBytes bytes → table_at bytes offset ≡ Ok table → StandsAt bytes offset table
table_spelled bytes offset table lt all e =
    let s : Spot = table_spot bytes offset in
    let p = declarations_take (s.end - s.place) [] s table (stands_there bytes offset lt all) e in
    record {
      spelling = p.bytes;
      more = p.more;
      parts = sym (rest_is bytes offset) ∙ p.parts;
      spells = subst (λ (ds : List Abbrev). SpellsTable ds p.bytes) (sym p.is) p.spells;
      sound = subst (AreDeclarations []) (sym p.is) p.sound;
    }

pub table_read : (bytes : List ℕ) (offset : ℕ) (table : List Abbrev) → offset < length bytes → AreBytes bytes → StandsAt bytes offset table → table_at bytes offset ≡ Ok table
table_read bytes offset table lt all there =
    let s : Spot = table_spot bytes offset in
    let fits : length there.spelling ≤ length bytes - offset = omega (arith, ap length there.parts, length-append there.spelling there.more, length-drop offset bytes) in
    declarations_again table (s.end - s.place) [] s there.spelling there.more (stands_there bytes offset lt all) there.sound there.spells (rest_is bytes offset ∙ there.parts) fits
