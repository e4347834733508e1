-- What is read of an entry's attributes is spelled so, and what is spelled so is read.
use Rattle.std.proofs.Common.{◌≡◌, ℕ, ◌+◌, ◌-◌, ◌^◌, ◌<◌, ◌&&◌, Bool, true, false, not, List, [], ◌∷◌, ◌++◌, length, Option, Some, None, Result, Ok, refl, sym, ap, subst, ◌∙◌, append_assoc, inl, inr, arith}
use Rattle.std.specs.Prelude.{nat_lt, if◌then◌else◌}
use Rattle.std.specs.List.{list_all}
use Rattle.std.specs.Option.{option_map, option_to_list}
use Rattle.std.proofs.lemmas.Bool.{cases_eq, ne_eqb, ltb-true, lt-ltb, not-false}
use Rattle.std.proofs.lemmas.List.{append-nil}
use Rattle.ds_base.specs.declared.fault.Fault.{Fault}
use Rattle.ds_base.specs.declared.fault.Kind.TheVariants.{BadIndex, BadOffset, BadOutput}
use Rattle.ds_base.specs.Spot.{Spot, rest, fault_at}
use Rattle.ds_base.specs.Reading.{◌>>=◌, or_fault, text_of}
use Rattle.dwarf_types.specs.declared.abbrev.Field.{Field}
use Rattle.dwarf_types.specs.declared.entry.RawAttr.{RawAttr}
use Rattle.dwarf_types.specs.declared.entry.RawEntry.{RawEntry}
use Rattle.dwarf_types.specs.SectionBytes.{SectionBytes, location_bytes, range_bytes}
use Rattle.dwarf_types.specs.declared.value.Value.{Value}
use Rattle.dwarf_types.specs.declared.value.Value.TheVariants as values
use Rattle.ds_base.proofs.Passing.{bind_ok, passed, ok_is, found_ok}
use Rattle.dwarf_types.proofs.Readers.{Stands}
use Rattle.dwarf_types.specs.Spelled.{Made}
use Rattle.form_value.specs.declared.form.FormClass.{FormClass}
use Rattle.form_value.specs.declared.form.FormClass.TheVariants.{Address, Text, StrText, LineStrText, Number, Signed, Present, Implicit, Wide, Block, Offset, Outside}
use Rattle.form_value.specs.Reading.{fixed_address, in_64_bits, value_at}
use Rattle.form_value.specs.Spelling.{SpellsClass}
use Rattle.form_value.proofs.ValueLaws.{value_spelled, value_read}
use Rattle.index_tables.specs.declared.bases.Bases.{Bases}
use Rattle.index_tables.specs.Tables.{text_place, address_place, list_place}
use Rattle.unit_tree.specs.declared.attribute.UnitContext.{UnitContext}
use Rattle.unit_tree.specs.declared.profile.Profile.{Profile}
use Rattle.unit_tree.specs.declared.profile.Profile.TheVariants.{Input}
use Rattle.unit_tree.specs.declared.meaning.Meaning.{Meaning}
use Rattle.unit_tree.specs.declared.meaning.Meaning.TheVariants.{InUnit, InObject, LineTable, RangeList, LocationList, TextIndex, AddressIndex, RangeListIndex, LocationListIndex, Other}
use Rattle.unit_tree.specs.declared.reference.Reference.{Reference}
use Rattle.unit_tree.specs.Attribute.{is_output, led_to, names_lines, offset_in, offset_nowhere, reference_to, text_named, address_named, list_named, meant_at, value_meant_at, attr_at, Described, attrs_at}
use Rattle.unit_tree.specs.Meaning.{meaning_of}
use Rattle.unit_tree.specs.Reference.{leads}
use Rattle.unit_tree.specs.Spelling.{Origin, NamesText, NamesAddress, NamesList, Names, Means, IsMeant, SpellsAttr, SpellsAttrs, ValueLeads, AttrsLead, begins_at}
use Rattle.unit_tree.proofs.Onward.{value_onward, attr_onward}
use Rattle.unit_tree.proofs.Placed.{Passed, passed_nothing, passed_then, passed_by, stands_on}

-- ---- references that lead to one of all entries, which begin below the last place of 32 bits

-- all lead
abbrev pub Lead : List RawEntry → List Reference → Type 0
Lead all references = list_all (leads all) references ≡ true

-- all begin below a place
abbrev pub AreLow : List RawEntry → Type 0
AreLow [] = Unit {0}
AreLow (e ∷ es) = (e.place < 2 ^ 32 - 1) × AreLow es

pub both_true : (b c : Bool) → (b && c) ≡ true → (b ≡ true) × (c ≡ true)
both_true true c e = (refl, e)
both_true false c e = absurd cc

pub lead_front : (all : List RawEntry) (xs ys : List Reference) → Lead all (xs ++ ys) → Lead all xs
lead_front all [] ys h = refl
lead_front all (x ∷ xs) ys h =
    let b = both_true (leads all x) (list_all (leads all) (xs ++ ys)) h in
    rw (b.0, lead_front all xs ys b.1) refl

pub lead_back : (all : List RawEntry) (xs ys : List Reference) → Lead all (xs ++ ys) → Lead all ys
lead_back all [] ys h = h
lead_back all (x ∷ xs) ys h =
    let b = both_true (leads all x) (list_all (leads all) (xs ++ ys)) h in
    lead_back all xs ys b.1

pub lead_both : (all : List RawEntry) (xs ys : List Reference) → Lead all xs → Lead all ys → Lead all (xs ++ ys)
lead_both all [] ys h k = k
lead_both all (x ∷ xs) ys h k =
    let b = both_true (leads all x) (list_all (leads all) xs) h in
    rw (b.0, lead_both all xs ys b.1 k) refl

later_begins : (x : RawEntry) (xs : List RawEntry) (unit : Option ℕ) (place : ℕ) → (x.place ≡ place → ⊥) → begins_at (x ∷ xs) unit place ≡ true → begins_at xs unit place ≡ true
later_begins x xs unit place ne e =
    let step : begins_at (x ∷ xs) unit place ≡ begins_at xs unit place = rw (ne_eqb x.place place ne) refl in
    sym step ∙ e

-- some entry begins at the place, so it is low
begun_low : (entries : List RawEntry) (unit : Option ℕ) (place : ℕ) → AreLow entries → begins_at entries unit place ≡ true → place < 2 ^ 32 - 1
begun_low [] unit place low e = absurd cc
begun_low (x ∷ xs) unit place low e =
    elim (cases_eq x.place place) [
      | inl is ↦ omega (arith, is, low.0)
      | inr ne ↦ begun_low xs unit place low.1 (later_begins x xs unit place ne e)
    ]

-- a place that is led to and low is the one that is meant
not_cut : (place : ℕ) → led_to place < 2 ^ 32 - 1 → led_to place ≡ place
not_cut place lt = omega (arith, lt)

cut_not : (place : ℕ) → place < 2 ^ 32 - 1 → led_to place ≡ place
cut_not place lt = omega (arith, lt)

-- ---- what a number means

-- from where the values of a unit that is read count
abbrev pub origin_of : UnitContext → Origin
origin_of context = record { place = context.place; version = context.version; bases = context.bases }

record MeantTaken (all : List RawEntry) (sections : SectionBytes) (context : UnitContext) (lines : Bool) (meaning : Meaning) (n : ℕ) (y : Value × Option Reference) : Type 0 where
  means : Means sections (origin_of context) lines meaning n y.0
  leads_on : ValueLeads all context.unit meaning y.0

record MeantGoes (all : List RawEntry) (sections : SectionBytes) (context : UnitContext) (lines : Bool) (meaning : Meaning) (n : ℕ) (value : Value) (s : Spot) : Type 0 where
  reference : Option Reference
  reads : meant_at sections context lines meaning n s ≡ Ok (value, reference)
  lead : Lead all (option_to_list reference)

abbrev plain : ℕ → Value × Option Reference
plain n = (values.Offset n, None)

offset_below : (section : List ℕ) (n : ℕ) (s : Spot) (y : Value × Option Reference) → offset_in section n s ≡ Ok y → (n < length section) × (plain n ≡ y)
offset_below section n s y e =
    let p = passed (not (nat_lt n (length section))) (fault_at s BadOffset) (Ok (plain n)) y e in
    (ltb-true n (length section) (not-false (nat_lt n (length section)) p.0), ok_is (plain n) y p.1)

offset_goes : (section : List ℕ) (n : ℕ) (s : Spot) → n < length section → offset_in section n s ≡ Ok (plain n)
offset_goes section n s lt = rw (lt-ltb n (length section) lt) refl

-- an offset that leads nowhere and was read
nowhere_taken : (profile : Profile) (n : ℕ) (s : Spot) (y : Value × Option Reference) → offset_nowhere profile n s ≡ Ok y → plain n ≡ y
nowhere_taken profile n s y e = ok_is (plain n) y ((passed (is_output profile) (fault_at s BadOutput) (Ok (plain n)) y e).1)

nowhere_goes : (profile : Profile) (n : ℕ) (s : Spot) → profile ≡ Input → offset_nowhere profile n s ≡ Ok (plain n)
nowhere_goes profile n s like = rw like refl

lines_below : (profile : Profile) (lines : Bool) (section : List ℕ) (n : ℕ) (s : Spot) (y : Value × Option Reference) → (if lines then offset_in section n s else offset_nowhere profile n s) ≡ Ok y → (lines ≡ true → n < length section) × (plain n ≡ y)
lines_below profile true section n s y e = let o = offset_below section n s y e in (λ t. o.0, o.1)
lines_below profile false section n s y e = (λ t. absurd cc, nowhere_taken profile n s y e)

lines_go : (profile : Profile) (lines : Bool) (section : List ℕ) (n : ℕ) (s : Spot) → profile ≡ Input → (lines ≡ true → n < length section) → (if lines then offset_in section n s else offset_nowhere profile n s) ≡ Ok (plain n)
lines_go profile true section n s like below = offset_goes section n s (below refl)
lines_go profile false section n s like below = nowhere_goes profile n s like

-- the value of what was read
value_is : (value : Value) (y : Value × Option Reference) → (value, None) ≡ y → y.0 ≡ value
value_is value y e = sym (ap (λ (p : Value × Option Reference). p.0) e)

-- ---- indices

pub text_taken : (sections : SectionBytes) (bases : Option Bases) (n : ℕ) (s : Spot) (y : Value × Option Reference) → text_named sections bases n s ≡ Ok y → Names (λ bases v. NamesText sections bases n v) bases n y.0
unfolding text_named
text_taken sections None n s y e = value_is (values.Offset n) y (ok_is _ y e)
text_taken sections (Some bases) n s y e =
    let last : List ℕ → Result (Value × Option Reference) Fault = λ text. Ok (values.Text text, None) in
    let a = bind_ok (or_fault (text_place sections bases.texts n) (fault_at s BadIndex)) (λ place. or_fault (text_of sections.strings place) (fault_at s BadOffset) >>= last) y e in
    let b = bind_ok (or_fault (text_of sections.strings a.0) (fault_at s BadOffset)) last y a.2 in
    record {
      place = a.0;
      placed = found_ok (text_place sections bases.texts n) (fault_at s BadIndex) a.0 a.1;
      text = b.0;
      stands = found_ok (text_of sections.strings a.0) (fault_at s BadOffset) b.0 b.1;
      is = value_is (values.Text b.0) y (ok_is _ y b.2);
    }

text_goes : (sections : SectionBytes) (bases : Option Bases) (n : ℕ) (value : Value) (s : Spot) → Names (λ bases v. NamesText sections bases n v) bases n value → text_named sections bases n s ≡ Ok (value, None)
unfolding text_named
text_goes sections None n value s h = ap (λ (v : Value). Ok (v, None)) (sym h)
text_goes sections (Some bases) n value s h = rw (h.placed, h.stands) (ap (λ (v : Value). Ok (v, None)) (sym h.is))

pub address_taken : (sections : SectionBytes) (bases : Option Bases) (n : ℕ) (s : Spot) (y : Value × Option Reference) → address_named sections bases n s ≡ Ok y → Names (λ bases v. NamesAddress sections bases n v) bases n y.0
unfolding address_named
address_taken sections None n s y e = value_is (values.Offset n) y (ok_is _ y e)
address_taken sections (Some bases) n s y e =
    let a = bind_ok (or_fault (address_place sections bases.addresses n) (fault_at s BadIndex)) (λ place. Ok (plain n)) y e in
    record { place = a.0; placed = found_ok (address_place sections bases.addresses n) (fault_at s BadIndex) a.0 a.1; is = value_is (values.Offset n) y (ok_is _ y a.2) }

address_goes : (sections : SectionBytes) (bases : Option Bases) (n : ℕ) (value : Value) (s : Spot) → Names (λ bases v. NamesAddress sections bases n v) bases n value → address_named sections bases n s ≡ Ok (value, None)
unfolding address_named
address_goes sections None n value s h = ap (λ (v : Value). Ok (v, None)) (sym h)
address_goes sections (Some bases) n value s h = rw h.placed (ap (λ (v : Value). Ok (v, None)) (sym h.is))

pub list_taken : (section : List ℕ) (base : Bases → ℕ) (bases : Option Bases) (n : ℕ) (s : Spot) (y : Value × Option Reference) → list_named section (option_map base bases) n s ≡ Ok y → Names (λ bases v. NamesList section (base bases) n v) bases n y.0
unfolding list_named
list_taken section base None n s y e = value_is (values.Offset n) y (ok_is _ y e)
list_taken section base (Some bases) n s y e =
    let a = bind_ok (or_fault (list_place section (base bases) n) (fault_at s BadIndex)) (λ place. offset_in section place s) y e in
    let o = offset_below section a.0 s y a.2 in
    record { place = a.0; placed = found_ok (list_place section (base bases) n) (fault_at s BadIndex) a.0 a.1; inside = o.0; is = value_is (values.Offset a.0) y o.1 }

list_goes : (section : List ℕ) (base : Bases → ℕ) (bases : Option Bases) (n : ℕ) (value : Value) (s : Spot) → Names (λ bases v. NamesList section (base bases) n v) bases n value → list_named section (option_map base bases) n s ≡ Ok (value, None)
unfolding list_named
list_goes section base None n value s h = ap (λ (v : Value). Ok (v, None)) (sym h)
list_goes section base (Some bases) n value s h = rw h.placed (offset_goes section h.place s h.inside ∙ ap (λ (v : Value). Ok (v, None)) (sym h.is))

-- ---- references

-- a reference that leads
reference_taken : (all : List RawEntry) (place : ℕ) (unit : Option ℕ) (s : Spot) → AreLow all → Lead all (option_to_list (reference_to place unit s).1) → (led_to place ≡ place) × (begins_at all unit (led_to place) ≡ true)
reference_taken all place unit s low h =
    let b = both_true (begins_at all unit (led_to place)) true h in
    (not_cut place (begun_low all unit (led_to place) low b.0), b.0)

reference_goes : (all : List RawEntry) (place : ℕ) (unit : Option ℕ) (s : Spot) → AreLow all → begins_at all unit place ≡ true → (led_to place ≡ place) × Lead all (option_to_list (reference_to place unit s).1)
reference_goes all place unit s low h =
    let is = cut_not place (begun_low all unit place low h) in
    (is, rw (is, h) refl)

-- a reference is read as the place to which it leads
leads_as : (all : List RawEntry) (place : ℕ) (unit : Option ℕ) (value : Value) (s : Spot) → AreLow all → value ≡ values.Ref place → begins_at all unit place ≡ true → (reference : Option Reference) × (reference_to place unit s ≡ (value, reference)) × Lead all (option_to_list reference)
leads_as all place unit value s low is h =
    let r = reference_goes all place unit s low h in
    ((reference_to place unit s).1, ap (λ (v : Value). (v, (reference_to place unit s).1)) (ap (λ (p : ℕ). values.Ref p) r.0 ∙ sym is), r.1)

meant_taken : (all : List RawEntry) → AreLow all → (sections : SectionBytes) (context : UnitContext) (lines : Bool) (meaning : Meaning) (n : ℕ) (s : Spot) (y : Value × Option Reference) → meant_at sections context lines meaning n s ≡ Ok y → Lead all (option_to_list y.1)
    → MeantTaken all sections context lines meaning n y
unfolding meant_at
meant_taken all low sections context lines InUnit n s y e h =
    subst (λ (p : Value × Option Reference). Lead all (option_to_list p.1) → MeantTaken all sections context lines InUnit n p) (ok_is (reference_to (context.place + n) (Some context.unit) s) y e)
    (λ k.
    let r = reference_taken all (context.place + n) (Some context.unit) s low k in
    record { means = ap (λ (p : ℕ). values.Ref p) r.0; leads_on = r.1 }) h
meant_taken all low sections context lines InObject n s y e h =
    subst (λ (p : Value × Option Reference). Lead all (option_to_list p.1) → MeantTaken all sections context lines InObject n p) (ok_is (reference_to n None s) y e)
    (λ k.
    let r = reference_taken all n None s low k in
    record { means = ap (λ (p : ℕ). values.Ref p) r.0; leads_on = r.1 }) h
meant_taken all low sections context lines LineTable n s y e h =
    let o = lines_below context.profile lines sections.line n s y e in
    record { means = (o.0, value_is (values.Offset n) y o.1); leads_on = tt }
meant_taken all low sections context lines RangeList n s y e h =
    let o = offset_below (range_bytes sections context.version) n s y e in
    record { means = (o.0, value_is (values.Offset n) y o.1); leads_on = tt }
meant_taken all low sections context lines LocationList n s y e h =
    let o = offset_below (location_bytes sections context.version) n s y e in
    record { means = (o.0, value_is (values.Offset n) y o.1); leads_on = tt }
meant_taken all low sections context lines TextIndex n s y e h = record { means = text_taken sections context.bases n s y e; leads_on = tt }
meant_taken all low sections context lines AddressIndex n s y e h = record { means = address_taken sections context.bases n s y e; leads_on = tt }
meant_taken all low sections context lines RangeListIndex n s y e h = record { means = list_taken sections.rnglists (λ bases. bases.ranges) context.bases n s y e; leads_on = tt }
meant_taken all low sections context lines LocationListIndex n s y e h = record { means = list_taken sections.loclists (λ bases. bases.locations) context.bases n s y e; leads_on = tt }
meant_taken all low sections context lines Other n s y e h = record { means = value_is (values.Offset n) y (nowhere_taken context.profile n s y e); leads_on = tt }

meant_goes : (all : List RawEntry) → AreLow all → (sections : SectionBytes) (context : UnitContext) (like : context.profile ≡ Input) (lines : Bool) (meaning : Meaning) (n : ℕ) (value : Value) (s : Spot) → Means sections (origin_of context) lines meaning n value → ValueLeads all context.unit meaning value
    → MeantGoes all sections context lines meaning n value s
unfolding meant_at
meant_goes all low sections context like lines InUnit n value s means h =
    let r = leads_as all (context.place + n) (Some context.unit) value s low means (subst (ValueLeads all context.unit InUnit) means h) in
    record { reference = r.0; reads = ap Ok r.1; lead = r.2 }
meant_goes all low sections context like lines InObject n value s means h =
    let r = leads_as all n None value s low means (subst (ValueLeads all context.unit InObject) means h) in
    record { reference = r.0; reads = ap Ok r.1; lead = r.2 }
meant_goes all low sections context like lines LineTable n value s means h = record { reference = None; reads = lines_go context.profile lines sections.line n s like means.0 ∙ ap (λ (v : Value). Ok (v, None)) (sym means.1); lead = refl }
meant_goes all low sections context like lines RangeList n value s means h = record { reference = None; reads = offset_goes (range_bytes sections context.version) n s means.0 ∙ ap (λ (v : Value). Ok (v, None)) (sym means.1); lead = refl }
meant_goes all low sections context like lines LocationList n value s means h = record { reference = None; reads = offset_goes (location_bytes sections context.version) n s means.0 ∙ ap (λ (v : Value). Ok (v, None)) (sym means.1); lead = refl }
meant_goes all low sections context like lines TextIndex n value s means h = record { reference = None; reads = text_goes sections context.bases n value s means; lead = refl }
meant_goes all low sections context like lines AddressIndex n value s means h = record { reference = None; reads = address_goes sections context.bases n value s means; lead = refl }
meant_goes all low sections context like lines RangeListIndex n value s means h = record { reference = None; reads = list_goes sections.rnglists (λ bases. bases.ranges) context.bases n value s means; lead = refl }
meant_goes all low sections context like lines LocationListIndex n value s means h = record { reference = None; reads = list_goes sections.loclists (λ bases. bases.locations) context.bases n value s means; lead = refl }
meant_goes all low sections context like lines Other n value s means h = record { reference = None; reads = nowhere_goes context.profile n s like ∙ ap (λ (v : Value). Ok (v, None)) (sym means); lead = refl }

-- ---- what a value means

record ValueTaken (all : List RawEntry) (sections : SectionBytes) (context : UnitContext) (lines : Bool) (field : Field) (stored : Value) (y : Value × Option Reference) : Type 0 where
  means : IsMeant sections (origin_of context) lines field stored y.0
  leads_on : ValueLeads all context.unit (meaning_of field.form field.name) y.0

record ValueGoes (all : List RawEntry) (sections : SectionBytes) (context : UnitContext) (root : Bool) (field : Field) (before : List RawAttr) (stored value : Value) (s : Spot) : Type 0 where
  reference : Option Reference
  reads : value_meant_at sections context root field before stored s ≡ Ok (value, reference)
  lead : Lead all (option_to_list reference)

-- a value that is neither a reference nor an offset is no reference
no_reference : (all : List RawEntry) (unit : ℕ) (meaning : Meaning) (value : Value) → ((place : ℕ) → value ≡ values.Ref place → ⊥) → ValueLeads all unit meaning value
no_reference all unit InUnit (values.Ref place) ne = absurd (ne place refl)
no_reference all unit InObject (values.Ref place) ne = absurd (ne place refl)
no_reference all unit meaning value ne = tt

value_taken : (all : List RawEntry) → AreLow all → (sections : SectionBytes) (context : UnitContext) (root : Bool) (field : Field) (before : List RawAttr) (value : Value) (s : Spot) (y : Value × Option Reference) → ((place : ℕ) → value ≡ values.Ref place → ⊥)
    → value_meant_at sections context root field before value s ≡ Ok y → Lead all (option_to_list y.1) → ValueTaken all sections context (names_lines root before) field value y
unfolding value_meant_at
value_taken all low sections context root field before (values.Offset n) s y stored e h =
    let m = meant_taken all low sections context (names_lines root before) (meaning_of field.form field.name) n s y e h in
    record { means = m.means; leads_on = m.leads_on }
value_taken all low sections context root field before (values.Ref place) s y stored e h = absurd (stored place refl)
value_taken all low sections context root field before value s y stored e h =
    subst (λ (p : Value × Option Reference). ValueTaken all sections context (names_lines root before) field value p) (ok_is (value, None) y e)
    (record { means = refl; leads_on = no_reference all context.unit (meaning_of field.form field.name) value stored })

value_goes : (all : List RawEntry) → AreLow all → (sections : SectionBytes) (context : UnitContext) (like : context.profile ≡ Input) (root : Bool) (field : Field) (before : List RawAttr) (stored value : Value) (s : Spot) → IsMeant sections (origin_of context) (names_lines root before) field stored value
    → ValueLeads all context.unit (meaning_of field.form field.name) value → ValueGoes all sections context root field before stored value s
unfolding value_meant_at
value_goes all low sections context like root field before (values.Offset n) value s means h =
    let m = meant_goes all low sections context like (names_lines root before) (meaning_of field.form field.name) n value s means h in
    record { reference = m.reference; reads = m.reads; lead = m.lead }
value_goes all low sections context like root field before stored value s means h = record { reference = None; reads = ap (λ (v : Value). Ok (v, None)) (sym means); lead = refl }

-- ---- no reference is stored as one

differ : (form bits place : ℕ) (value : Value) → value ≡ values.Number form bits → value ≡ values.Ref place → ⊥
differ form bits place value m e = cc

not_ref : {A : Type 0} (made : A → Value) (Spells : List ℕ → A → Type 0) (bytes : List ℕ) (value : Value) → Made made Spells bytes value → ((a : A) (place : ℕ) → made a ≡ values.Ref place → ⊥) → (place : ℕ) → value ≡ values.Ref place → ⊥
not_ref made Spells bytes value m differs place e = differs m.of place (sym m.is ∙ e)

class_not_ref : (class : FormClass) (field : Field) (sections : SectionBytes) (bytes : List ℕ) (value : Value) → SpellsClass class field sections bytes value → (place : ℕ) → value ≡ values.Ref place → ⊥
class_not_ref Address field sections bytes value m = not_ref fixed_address _ bytes value m (λ a place e. cc)
class_not_ref Text field sections bytes value m = not_ref (λ text. values.Text text) _ bytes value m (λ a place e. cc)
class_not_ref StrText field sections bytes value m = not_ref (λ text. values.Text text) _ bytes value m (λ a place e. cc)
class_not_ref LineStrText field sections bytes value m = not_ref (λ text. values.Text text) _ bytes value m (λ a place e. cc)
class_not_ref (Number coding) field sections bytes value m = not_ref (λ n. values.Number field.form n) _ bytes value m (λ a place e. cc)
class_not_ref Signed field sections bytes value m = not_ref (λ n. values.Number field.form (in_64_bits n)) _ bytes value m (λ a place e. cc)
class_not_ref Present field sections bytes value m = λ place e. differ _ _ place value m.1 e
class_not_ref Implicit field sections bytes value m = λ place e. differ _ _ place value m.1 e
class_not_ref Wide field sections bytes value m = not_ref (λ wide. values.Wide wide) _ bytes value m (λ a place e. cc)
class_not_ref (Block coding) field sections bytes value m = not_ref (λ block. values.Block field.form block) _ bytes value m (λ a place e. cc)
class_not_ref (Offset coding) field sections bytes value m = not_ref (λ n. values.Offset n) _ bytes value m (λ a place e. cc)
class_not_ref Outside field sections bytes value m = absurd m

-- ---- one attribute

pub record AttrTaken (all : List RawEntry) (sections : SectionBytes) (context : UnitContext) (root : Bool) (field : Field) (before : List RawAttr) (s : Spot) (y : (RawAttr × Option Reference) × Spot) : Type 0 where
  pub bytes : List ℕ
  pub spells : SpellsAttr sections (origin_of context) (names_lines root before) field y.0.0 s.place bytes
  pub leads_on : ValueLeads all context.unit (meaning_of field.form field.name) y.0.0.value
  pub passed : Passed bytes s y.1

attr_taken : (all : List RawEntry) → AreLow all → (sections : SectionBytes) (context : UnitContext) (root : Bool) (field : Field) (before : List RawAttr) (s : Spot) (y : (RawAttr × Option Reference) × Spot) → Stands s
    → attr_at sections context root field before s ≡ Ok y → Lead all (option_to_list y.0.1) → AttrTaken all sections context root field before s y
unfolding attr_at
attr_taken all low sections context root field before s y stands e h =
    let made : Value × Spot → Value × Option Reference → Result ((RawAttr × Option Reference) × Spot) Fault = λ read meant. Ok ((record { name = field.name; form = field.form; end = read.1.place; value = meant.0 }, meant.1), read.1) in
    let b = bind_ok (value_at field context.version sections s) (λ read. value_meant_at sections context root field before read.0 s >>= made read) y e in
    let c = bind_ok (value_meant_at sections context root field before b.0.0 s) (made b.0) y b.2 in
    let place = stands.place in
    let v = value_spelled field context.version sections s b.0.0 b.0.1 stands b.1 in
    let w = v.spells in
    let go = passed_by v.bytes s b.0.1 stands (value_onward field context.version sections s b.0 b.1) v.parts in
    subst (λ (p : (RawAttr × Option Reference) × Spot). Lead all (option_to_list p.0.1) → AttrTaken all sections context root field before s p) (ok_is _ y c.2)
    (λ k.
    let t = value_taken all low sections context root field before b.0.0 s c.0 (class_not_ref w.row.class field sections v.bytes b.0.0 w.spells) c.1 k in
    record {
      bytes = v.bytes;
      spells = record { stored = b.0.0; spells = w; value = c.0.0; means = t.means; is = ap (λ (n : ℕ). record { name = field.name; form = field.form; end = n; value = c.0.0 }) go.place };
      leads_on = t.leads_on;
      passed = go;
    }) h

record AttrGoes (all : List RawEntry) (sections : SectionBytes) (context : UnitContext) (root : Bool) (field : Field) (before : List RawAttr) (s : Spot) (bytes : List ℕ) (attr : RawAttr) (more : List ℕ) : Type 0 where
  reference : Option Reference
  next : Spot
  reads : attr_at sections context root field before s ≡ Ok ((attr, reference), next)
  lead : Lead all (option_to_list reference)
  passed : Passed bytes s next
  left : rest next ≡ more

attr_goes : (all : List RawEntry) → AreLow all → (sections : SectionBytes) (context : UnitContext) (like : context.profile ≡ Input) (root : Bool) (field : Field) (before : List RawAttr) (s : Spot) (bytes : List ℕ) (attr : RawAttr) (more : List ℕ) → Stands s
    → SpellsAttr sections (origin_of context) (names_lines root before) field attr s.place bytes → ValueLeads all context.unit (meaning_of field.form field.name) attr.value → rest s ≡ bytes ++ more
    → AttrGoes all sections context root field before s bytes attr more
unfolding attr_at
attr_goes all low sections context like root field before s bytes attr more stands w leads_on parts =
    let r = value_read field context.version sections s bytes w.stored more stands w.spells parts in
    let value_same : attr.value ≡ w.value = ap (λ (a : RawAttr). a.value) w.is in
    let g = value_goes all low sections context like root field before w.stored w.value s w.means (subst (ValueLeads all context.unit (meaning_of field.form field.name)) value_same leads_on) in
    let go = passed_by bytes s r.next stands (value_onward field context.version sections s (w.stored, r.next) r.reads) (parts ∙ ap (λ (xs : List ℕ). bytes ++ xs) (sym r.left)) in
    let ended : ℕ → RawAttr = λ n. record { name = field.name; form = field.form; end = n; value = w.value } in
    record {
      reference = g.reference;
      next = r.next;
      reads = rw (r.reads, g.reads) (ap (λ (a : RawAttr). Ok ((a, g.reference), r.next)) (ap ended go.place ∙ sym w.is));
      lead = g.lead;
      passed = go;
      left = r.left;
    }

-- ---- the attributes of an entry

pub record AttrsTaken (all : List RawEntry) (sections : SectionBytes) (context : UnitContext) (root : Bool) (fields : List Field) (before : Described) (s : Spot) (y : Described × Spot) : Type 0 where
  pub own : List RawAttr
  pub is : y.0.0 ≡ before.0 ++ own
  pub references : List Reference
  pub grown : y.0.1 ≡ before.1 ++ references
  pub bytes : List ℕ
  pub spells : SpellsAttrs sections (origin_of context) root fields before.0 own s.place bytes
  pub leads_on : AttrsLead all context.unit fields own
  pub passed : Passed bytes s y.1

pub attrs_taken : (all : List RawEntry) → AreLow all → (sections : SectionBytes) (context : UnitContext) (root : Bool) (fields : List Field) (before : Described) (s : Spot) (y : Described × Spot) → Stands s
    → attrs_at sections context root fields before s ≡ Ok y → Lead all y.0.1 → AttrsTaken all sections context root fields before s y
unfolding attrs_at
attrs_taken all low sections context root [] before s y stands e h =
    subst (λ (p : Described × Spot). AttrsTaken all sections context root [] before s p) (ok_is (before, s) y e)
    (record { own = []; is = sym (append-nil before.0); references = []; grown = sym (append-nil before.1); bytes = []; spells = refl; leads_on = tt; passed = passed_nothing s stands })
attrs_taken all low sections context root (field ∷ fields) before s y stands e h =
    let with_attr : (RawAttr × Option Reference) × Spot → Described = λ attr. (before.0 ++ attr.0.0 ∷ [], before.1 ++ option_to_list attr.0.1) in
    let b = bind_ok (attr_at sections context root field before.0 s) (λ attr. attrs_at sections context root fields (with_attr attr) attr.1) y e in
    let o = attr_onward sections context root field before.0 s b.0 b.1 in
    let t = attrs_taken all low sections context root fields (with_attr b.0) b.0.1 y (stands_on s b.0.1 stands o) b.2 h in
    let mine : Lead all (option_to_list b.0.0.1) = lead_back all before.1 _ (lead_front all (before.1 ++ option_to_list b.0.0.1) t.references (subst (Lead all) t.grown h)) in
    let a = attr_taken all low sections context root field before.0 s b.0 stands b.1 mine in
    let went = a.passed in
    record {
      own = b.0.0.0 ∷ t.own;
      is = t.is ∙ append_assoc before.0 (b.0.0.0 ∷ []) t.own;
      references = option_to_list b.0.0.1 ++ t.references;
      grown = t.grown ∙ append_assoc before.1 (option_to_list b.0.0.1) t.references;
      bytes = a.bytes ++ t.bytes;
      spells = record { front = a.bytes; back = t.bytes; is = refl; first = a.spells; second = subst (λ (n : ℕ). SpellsAttrs sections (origin_of context) root fields (before.0 ++ b.0.0.0 ∷ []) t.own n t.bytes) went.place t.spells };
      leads_on = (a.leads_on, t.leads_on);
      passed = passed_then a.bytes t.bytes s b.0.1 y.1 a.passed t.passed;
    }

pub record AttrsGo (all : List RawEntry) (sections : SectionBytes) (context : UnitContext) (root : Bool) (fields : List Field) (before : Described) (s : Spot) (bytes : List ℕ) (own : List RawAttr) (more : List ℕ) : Type 0 where
  pub references : List Reference
  pub next : Spot
  pub reads : attrs_at sections context root fields before s ≡ Ok ((before.0 ++ own, references), next)
  pub lead : Lead all references
  pub passed : Passed bytes s next
  pub left : rest next ≡ more

pub attrs_go : (all : List RawEntry) → AreLow all → (sections : SectionBytes) (context : UnitContext) (like : context.profile ≡ Input) (root : Bool) (fields : List Field) (own : List RawAttr) (before : Described) (s : Spot) (bytes more : List ℕ) → Stands s
    → SpellsAttrs sections (origin_of context) root fields before.0 own s.place bytes → AttrsLead all context.unit fields own → Lead all before.1 → rest s ≡ bytes ++ more → AttrsGo all sections context root fields before s bytes own more
unfolding attrs_at
attrs_go all low sections context like root [] [] before s bytes more stands w leads_on lead parts =
    record {
      references = before.1;
      next = s;
      reads = ap (λ (xs : List RawAttr). Ok ((xs, before.1), s)) (sym (append-nil before.0));
      lead = lead;
      passed = subst (λ (b : List ℕ). Passed b s s) (sym w) (passed_nothing s stands);
      left = parts ∙ ap (λ (b : List ℕ). b ++ more) w;
    }
attrs_go all low sections context like root [] (attr ∷ own) before s bytes more stands w leads_on lead parts = absurd w
attrs_go all low sections context like root (field ∷ fields) [] before s bytes more stands w leads_on lead parts = absurd w
attrs_go all low sections context like root (field ∷ fields) (attr ∷ own) before s bytes more stands w leads_on lead parts =
    let whole : rest s ≡ w.front ++ (w.back ++ more) = parts ∙ ap (λ (b : List ℕ). b ++ more) w.is ∙ append_assoc w.front w.back more in
    let a = attr_goes all low sections context like root field before.0 s w.front attr (w.back ++ more) stands w.first leads_on.0 whole in
    let p = a.passed in
    let now : Described = (before.0 ++ attr ∷ [], before.1 ++ option_to_list a.reference) in
    let rest_spelled = subst (λ (n : ℕ). SpellsAttrs sections (origin_of context) root fields (before.0 ++ attr ∷ []) own n w.back) (sym p.place) w.second in
    let t = attrs_go all low sections context like root fields own now a.next w.back more p.stands rest_spelled leads_on.1 (lead_both all before.1 (option_to_list a.reference) lead a.lead) a.left in
    record {
      references = t.references;
      next = t.next;
      reads = rw a.reads t.reads ∙ ap (λ (xs : List RawAttr). Ok ((xs, t.references), t.next)) (append_assoc before.0 (attr ∷ []) own);
      lead = t.lead;
      passed = subst (λ (b : List ℕ). Passed b s t.next) (sym w.is) (passed_then w.front w.back s a.next t.next p t.passed);
      left = t.left;
    }
