-- Attributes one after the other, each spelled in its form and meaning what it names.
use Rattle.std.proofs.Common.{◌≡◌, ◌<◌, ◌≤◌, ◌+◌, ◌==◌, ◌^◌, ◌++◌, ℕ, pos, Bool, true, false, IsTrue, List, [], ◌∷◌, length, if◌then◌else◌, refl, sym, ap, subst, ◌∙◌, arith}
use Rattle.byteorder.specs.Endian.{little_bytes}
use Rattle.std.proofs.lemmas.Bool.{eqb-true}
use Rattle.ds_base.specs.DwarfNumbers.{DW_AT_ranges, DW_AT_stmt_list, DW_FORM_exprloc, DW_FORM_ref4, DW_FORM_ref_addr, DW_FORM_sec_offset}
use Rattle.ds_base.specs.Leb.{uleb}
use Rattle.dwarf_types.specs.declared.entry.RawAttr.{RawAttr}
use Rattle.dwarf_types.specs.declared.graph.OutAttr.{OutAttr}
use Rattle.dwarf_types.specs.declared.graph.OutValue.{OutValue}
use Rattle.dwarf_types.specs.declared.graph.OutValue.TheVariants as outs
use Rattle.dwarf_types.specs.declared.graph.Target.{Target}
use Rattle.dwarf_types.specs.declared.value.Value.{Value}
use Rattle.dwarf_types.specs.declared.value.Value.TheVariants as values
use Rattle.dwarf_types.specs.Expressions.{expression_bytes, expression_len}
use Rattle.dwarf_types.specs.Places.{ListPlaces, Places, behind_value, own_node}
use Rattle.dwarf_types.specs.SectionBytes.{SectionBytes, location_bytes, range_bytes}
use Rattle.dwarf_types.specs.Spelled.{IsUleb}
use Rattle.dwarf_types.specs.Values.{value_bytes, values_bytes}
use Rattle.dwarf_types.specs.WellValues.{has_locations}
use Rattle.form_value.specs.declared.form.Coding.TheVariants as codings
use Rattle.form_value.specs.declared.form.FormClass.TheVariants as classes
use Rattle.form_value.specs.Forms.{form_row}
use Rattle.form_value.specs.Spelling.{SpellsValue}
use Rattle.unit_tree.specs.declared.meaning.Meaning.{Meaning}
use Rattle.unit_tree.specs.declared.meaning.Meaning.TheVariants.{LineTable, LocationList, RangeList}
use Rattle.unit_tree.specs.Attribute.{names_lines}
use Rattle.unit_tree.specs.Meaning.{meaning_of, table_of}
use Rattle.unit_tree.specs.Spelling.{Means, Origin, SpellsAttr, SpellsAttrs}
use Rattle.written_laws.specs.ReadValues.{AreThere, IsOrigin, IsThere, field_of, fields_of, raw_attr, raw_attrs, raw_value}
use Rattle.written_laws.proofs.Forms.{block_spelled, is_uleb, number_spelled}

-- a name of one number does not lead to location lists
other_name : (name n : ℕ) (b : Bool) → (name == n) ≡ b → has_locations n ≡ false → IsTrue (has_locations name) → (name == n) ≡ false
other_name name n true e none h = absurd (let same : name ≡ n = eqb-true name n e in let f : has_locations name ≡ false = ap has_locations same ∙ none in cc)
other_name name n false e none h = e

leads_to_locations : (name : ℕ) → IsTrue (has_locations name) → table_of name ≡ LocationList
unfolding table_of
leads_to_locations name h = rw (other_name name DW_AT_stmt_list (name == DW_AT_stmt_list) refl refl h, other_name name DW_AT_ranges (name == DW_AT_ranges) refl refl h, h) refl

module _ (places : Places) (sections : SectionBytes) (o : Origin) (origin : IsOrigin places o) where
  old : 4 ≤ o.version
  old = omega (arith, origin.old, origin.version)

  -- a section offset
  offset_spelled : (name n : ℕ) → n < 2 ^ 32 → SpellsValue (record { name = name; form = DW_FORM_sec_offset; fixed = pos 0 }) o.version sections (little_bytes 4 n) (values.Offset n)
  unfolding form_row
  offset_spelled name n lt = record { row = record { since = 4; class = classes.Offset codings.Four }; known = refl; old = old; spells = record { of = n; spells = record { is = refl; fits = lt }; is = refl } }

  -- a reference, by whether it stays in the unit
  ref_by : (lines : Bool) (place name : ℕ) (target : Target) (b : Bool) → (target.unit == places.unit) ≡ b → (if b then places.node target else places.start target.unit + places.node target) < 2 ^ 32
      → SpellsAttr sections o lines (record { name = name; form = if b then DW_FORM_ref4 else DW_FORM_ref_addr; fixed = pos 0 })
      (record { name = name; form = if b then DW_FORM_ref4 else DW_FORM_ref_addr; end = place + length (little_bytes 4 (if b then places.node target else places.start target.unit + places.node target)); value = values.Ref (places.start target.unit + places.node target) })
      place (little_bytes 4 (if b then places.node target else places.start target.unit + places.node target))
  unfolding form_row meaning_of
  ref_by lines place name target true e lt =
      let same : target.unit ≡ places.unit = eqb-true target.unit places.unit e in
      let from : places.start target.unit + places.node target ≡ o.place + places.node target = ap (λ (u : ℕ). places.start u + places.node target) same ∙ ap (λ (p : ℕ). p + places.node target) (sym origin.place) in
      record {
        stored = values.Offset (places.node target);
        spells = record { row = record { since = 4; class = classes.Offset codings.Four }; known = refl; old = old; spells = record { of = places.node target; spells = record { is = refl; fits = lt }; is = refl } };
        value = values.Ref (places.start target.unit + places.node target);
        means = ap (λ (p : ℕ). values.Ref p) from;
        is = refl;
      }
  ref_by lines place name target false e lt = record {
    stored = values.Offset (places.start target.unit + places.node target);
    spells = record { row = record { since = 4; class = classes.Offset codings.Four }; known = refl; old = old; spells = record { of = places.start target.unit + places.node target; spells = record { is = refl; fits = lt }; is = refl } };
    value = values.Ref (places.start target.unit + places.node target);
    means = refl;
    is = refl;
  }

  abbrev attr : ℕ → OutValue → OutAttr
  attr name value = record { name = name; value = value }

  abbrev Spelled : Bool → ListPlaces → ℕ → ℕ → OutValue → Type 0
  Spelled lines next place name value = SpellsAttr sections o lines (field_of places.unit (attr name value)) (raw_attr places next place (attr name value)) place (value_bytes places next value)

  pub attr_spelled : (lines : Bool) (next : ListPlaces) (place name : ℕ) (value : OutValue) → IsThere places sections next name value → Spelled lines next place name value
  unfolding form_row meaning_of table_of
  attr_spelled lines next place name (outs.Address n) lt = record {
    stored = raw_value places next (outs.Address n);
    spells = record { row = record { since = 4; class = classes.Address }; known = refl; old = old; spells = record { of = n; spells = record { is = refl; fits = lt }; is = refl } };
    value = raw_value places next (outs.Address n);
    means = refl;
    is = refl;
  }
  attr_spelled lines next place name (outs.Text text) h = record {
    stored = values.Text text;
    spells = record { row = record { since = 4; class = classes.StrText }; known = refl; old = old; spells = record { of = text; spells = record { place = places.text text; number = record { is = refl; fits = h.0 }; stands = h.1 }; is = refl } };
    value = values.Text text;
    means = refl;
    is = refl;
  }
  attr_spelled lines next place name (outs.Number form bits) fits =
      record { stored = values.Number form bits; spells = number_spelled name o.version old sections form bits fits; value = values.Number form bits; means = refl; is = refl }
  attr_spelled lines next place name (outs.Wide bytes) h = record {
    stored = values.Wide bytes;
    spells = record { row = record { since = 5; class = classes.Wide }; known = refl; old = omega (arith, h.0, origin.version); spells = record { of = bytes; spells = record { is = refl; sound = h.2; len = h.1 }; is = refl } };
    value = values.Wide bytes;
    means = refl;
    is = refl;
  }
  attr_spelled lines next place name (outs.Block form bytes) h =
      record { stored = values.Block form bytes; spells = block_spelled name o.version old sections form bytes h.0 h.1; value = values.Block form bytes; means = refl; is = refl }
  attr_spelled lines next place name (outs.Expr parts) h =
      let block : List ℕ = expression_bytes (own_node places) parts in
      let stored : Value = values.Block DW_FORM_exprloc (expression_bytes (own_node places) parts) in
      record {
        stored = stored;
        spells = record { row = record { since = 4; class = classes.Block codings.Leb }; known = refl; old = old; spells = record { of = block; spells = record { front = uleb (expression_len parts); back = block; is = refl; first = subst (IsUleb (uleb (expression_len parts))) (sym h.1) (is_uleb (expression_len parts) h.0); second = record { is = refl; sound = h.2; len = refl } }; is = refl } };
        value = stored;
        means = refl;
        is = refl;
      }
  attr_spelled lines next place name (outs.Ref target) lt = ref_by lines place name target (target.unit == places.unit) refl lt
  attr_spelled lines next place name (outs.Ranges spans) h =
      let leads : table_of name ≡ RangeList = ap table_of h.1 in
      let below : next.ranges < length (range_bytes sections o.version) = subst (λ (v : ℕ). next.ranges < length (range_bytes sections v)) (sym origin.version) h.2 in
      let stored : Value = values.Offset next.ranges in
      record { stored = stored; spells = offset_spelled name next.ranges h.0; value = stored; means = subst (λ (m : Meaning). Means sections o lines m next.ranges stored) (sym leads) (below, refl); is = refl }
  attr_spelled lines next place name (outs.Locations items) h =
      let below : next.locations < length (location_bytes sections o.version) = subst (λ (v : ℕ). next.locations < length (location_bytes sections v)) (sym origin.version) h.2 in
      let stored : Value = values.Offset next.locations in
      record { stored = stored; spells = offset_spelled name next.locations h.0; value = stored; means = subst (λ (m : Meaning). Means sections o lines m next.locations stored) (sym (leads_to_locations name h.1)) (below, refl); is = refl }
  attr_spelled lines next place name outs.Lines h =
      let leads : table_of name ≡ LineTable = ap table_of h.1 in
      let stored : Value = values.Offset places.lines in
      record { stored = stored; spells = offset_spelled name places.lines h.0; value = stored; means = subst (λ (m : Meaning). Means sections o lines m places.lines stored) (sym leads) ((λ named. h.2), refl); is = refl }

  pub attrs_spelled : (root : Bool) (before : List RawAttr) (next : ListPlaces) (place : ℕ) (attrs : List OutAttr) → AreThere places sections next attrs
      → SpellsAttrs sections o root (fields_of places.unit attrs) before (raw_attrs places next place attrs) place (values_bytes places next attrs)
  attrs_spelled root before next place [] h = refl
  attrs_spelled root before next place (a ∷ attrs) h =
      let after : ListPlaces = behind_value places.version next a.value in
      record {
        front = value_bytes places next a.value;
        back = values_bytes places after attrs;
        is = refl;
        first = attr_spelled (names_lines root before) next place a.name a.value h.0;
        second = attrs_spelled root (before ++ raw_attr places next place a ∷ []) after (place + length (value_bytes places next a.value)) attrs h.1;
      }
