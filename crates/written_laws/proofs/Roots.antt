-- What a well unit's root and the nodes below it name: a line table by the root's first stmt_list alone.
use Rattle.std.proofs.Common.{◌≡◌, ◌<◌, ◌==◌, ◌&&◌, ◌||◌, not, ℕ, Bool, true, false, List, [], ◌∷◌, length, map, is_some, if◌then◌else◌, Option, Some, None, refl, sym, ap, ◌∙◌, arith}
use Rattle.std.specs.List.{list_any}
use Rattle.std.specs.Option.{option_map_or}
use Rattle.std.proofs.lemmas.Bool.{eqb-true}
use Rattle.ds_base.specs.DwarfNumbers.{DW_AT_stmt_list}
use Rattle.dwarf_types.specs.declared.graph.Node.{Node}
use Rattle.dwarf_types.specs.declared.graph.OutAttr.{OutAttr}
use Rattle.dwarf_types.specs.declared.graph.OutUnit.{OutUnit}
use Rattle.dwarf_types.specs.declared.lines.OutLines.{OutLines}
use Rattle.dwarf_types.specs.Forms.{form_of}
use Rattle.dwarf_types.specs.LineTable.{line_table_bytes, lines_bytes}
use Rattle.dwarf_types.specs.WellNodes.{has_lines, is_lines}
use Rattle.dwarf_types.specs.WellRoots.{is_split, names_lines_first}
use Rattle.unit_tree.specs.Entry.{is_dwo_name}
use Rattle.written_laws.specs.ReadDeclarations.{fields_of}

-- a value that is a line table stands under that name
abbrev pub StandUnder : List OutAttr → Type 0
StandUnder [] = Unit {0}
StandUnder (a ∷ attrs) = (is_lines a.value ≡ true → a.name ≡ DW_AT_stmt_list) × StandUnder attrs

or_none : (a b : Bool) → (a || b) ≡ false → (a ≡ false) × (b ≡ false)
or_none true b e = absurd cc
or_none false b e = (refl, e)

not_true : (b : Bool) → not b ≡ true → b ≡ false
not_true true e = sym e
not_true false e = refl

pub none_named : (attrs : List OutAttr) → list_any (λ a. is_lines a.value) attrs ≡ false → StandUnder attrs
none_named [] e = tt
none_named (a ∷ attrs) e =
    let h = or_none (is_lines a.value) (list_any (λ (b : OutAttr). is_lines b.value) attrs) e in
    ((λ is. absurd (let f : true ≡ false = sym is ∙ h.0 in cc)), none_named attrs h.1)

pub first_named : (attrs : List OutAttr) → names_lines_first attrs ≡ true → StandUnder attrs
first_named [] e = tt
first_named (a ∷ attrs) e = by (a.name == DW_AT_stmt_list) refl e (first_named attrs)
  where
    others : (b : Bool) → is_lines a.value ≡ b → (not b && names_lines_first attrs) ≡ true → (names_lines_first attrs ≡ true → StandUnder attrs) → (is_lines a.value ≡ true → a.name ≡ DW_AT_stmt_list) × StandUnder attrs
    others true is e more = absurd cc
    others false is e more = ((λ h. absurd (let f : true ≡ false = sym h ∙ is in cc)), more e)

    by : (b : Bool) → (a.name == DW_AT_stmt_list) ≡ b → (if b then not (list_any (λ x. is_lines x.value) attrs) else (not (is_lines a.value) && names_lines_first attrs)) ≡ true → (names_lines_first attrs ≡ true → StandUnder attrs) → (is_lines a.value ≡ true → a.name ≡ DW_AT_stmt_list) × StandUnder attrs
    by true name e more = ((λ is. eqb-true a.name DW_AT_stmt_list name), none_named attrs (not_true (list_any (λ (x : OutAttr). is_lines x.value) attrs) e))
    by false name e more = others (is_lines a.value) refl e more

-- a root is no skeleton
pub not_split : (u : ℕ) (attrs : List OutAttr) → list_any (λ a. is_split a.name) attrs ≡ false → list_any is_dwo_name (fields_of (map (λ a. (a.name, form_of u a.value)) attrs)) ≡ false
not_split u [] e = refl
not_split u (a ∷ attrs) e =
    let h = or_none (is_split a.name) (list_any (λ (b : OutAttr). is_split b.name) attrs) e in
    ap (λ (b : Bool). b || list_any is_dwo_name (fields_of (map (λ (b : OutAttr). (b.name, form_of u b.value)) attrs))) h.0 ∙ not_split u attrs h.1

-- a unit whose root names a line table has one, which has bytes
pub some_lines : (text : List ℕ → ℕ) (unit : OutUnit) (root : Node) → is_some unit.lines ≡ has_lines root → has_lines root ≡ true → 0 < length (lines_bytes text unit)
some_lines text unit root same has = by unit.lines (same ∙ has)
  where
    by : (o : Option OutLines) → is_some o ≡ true → 0 < length (option_map_or (line_table_bytes unit.version text) o [])
    by None e = absurd cc
    by (Some lines) e = omega arith
