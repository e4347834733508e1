-- The line table of a unit is named by the first stmt_list of its root, and by nothing else.
use Rattle.std.proofs.Common.{◌≡◌, ◌==◌, ◌&&◌, ◌||◌, not, ℕ, Bool, true, false, List, [], ◌∷◌, map, Option, Some, refl, sym, ap, ap₂, ◌∙◌}
use Rattle.std.specs.Prelude.{is_some, cond, if◌then◌else◌}
use Rattle.std.specs.List.{find, list_any}
use Rattle.std.specs.Option.{option_and_then}
use Rattle.ds_base.specs.DwarfNumbers.{DW_AT_stmt_list}
use Rattle.dwarf_types.specs.declared.entry.Attr.{Attr}
use Rattle.dwarf_types.specs.declared.value.Value.{Value}
use Rattle.dwarf_types.specs.declared.value.Value.TheVariants as values
use Rattle.linked_laws.specs.Spellable.{has_lines, is_lines, names_lines_first}
use Rattle.object_view.specs.Attributes.{lines_marked, lines_value, section_offset, with_value}

-- an attribute's name, and whether it is a line table
abbrev pub seen : Attr → ℕ × Bool
seen a = (a.name, is_lines a.value)

abbrev lines_in : List (ℕ × Bool) → Bool
lines_in vs = list_any (λ v. v.1) vs

abbrev first_in : List (ℕ × Bool) → Bool
first_in [] = true
first_in (v ∷ vs) = if v.0 == DW_AT_stmt_list then not (lines_in vs) else (not v.1 && first_in vs)

has_by_seen : (attrs : List Attr) → has_lines attrs ≡ lines_in (map seen attrs)
has_by_seen [] = refl
has_by_seen (a ∷ attrs) = ap (λ (b : Bool). is_lines a.value || b) (has_by_seen attrs)

first_by_seen : (attrs : List Attr) → names_lines_first attrs ≡ first_in (map seen attrs)
first_by_seen [] = refl
first_by_seen (a ∷ attrs) = ap₂ (λ (x y : Bool). if a.name == DW_AT_stmt_list then not x else (not (is_lines a.value) && y)) (has_by_seen attrs) (first_by_seen attrs)

-- both go by names and line tables alone
pub has_kept : (now old : List Attr) → map seen now ≡ map seen old → has_lines now ≡ has_lines old
has_kept now old e = has_by_seen now ∙ ap lines_in e ∙ sym (has_by_seen old)

pub first_kept : (now old : List Attr) → map seen now ≡ map seen old → names_lines_first now ≡ names_lines_first old
first_kept now old e = first_by_seen now ∙ ap first_in e ∙ sym (first_by_seen old)

-- ---- marking

neither : (b c : Bool) → (b || c) ≡ false → (b ≡ false) × (c ≡ false)
neither false c e = (refl, e)
neither true c e = absurd cc

or_no : (b : Bool) → (b || false) ≡ b
or_no true = refl
or_no false = refl

-- a section offset becomes the line table
marked_if : (b : Bool) (value : Value) → is_lines value ≡ false → is_lines (if b then values.Lines else value) ≡ b
marked_if true value e = refl
marked_if false value e = e

value_marked : (a : Attr) → is_lines a.value ≡ false → is_lines (lines_value a) ≡ is_some (section_offset a)
value_marked a e = marked_if (is_some (section_offset a)) a.value e

-- the first of the name
abbrev first_named : List Attr → Option Attr
first_named attrs = find (λ a. a.name == DW_AT_stmt_list) attrs

-- one attribute more, by whether it is a stmt_list
first_case : (b : Bool) (a : Attr) (attrs : List Attr) → (a.name == DW_AT_stmt_list) ≡ b → has_lines attrs ≡ false → is_lines a.value ≡ false → names_lines_first (lines_marked attrs) ≡ true
    → names_lines_first (if b then with_value a (lines_value a) ∷ attrs else a ∷ lines_marked attrs) ≡ true
first_case true a attrs is none plain behind = rw (is, none) refl
first_case false a attrs is none plain behind = rw (is, plain, behind) refl

pub marked_first : (attrs : List Attr) → has_lines attrs ≡ false → names_lines_first (lines_marked attrs) ≡ true
marked_first [] h = refl
marked_first (a ∷ attrs) h =
    let n = neither (is_lines a.value) (has_lines attrs) h in
    first_case (a.name == DW_AT_stmt_list) a attrs refl n.1 n.0 (marked_first attrs n.1)

has_case : (b : Bool) (a : Attr) (attrs : List Attr) → has_lines attrs ≡ false → is_lines a.value ≡ false → has_lines (lines_marked attrs) ≡ is_some (option_and_then section_offset (first_named attrs))
    → has_lines (if b then with_value a (lines_value a) ∷ attrs else a ∷ lines_marked attrs) ≡ is_some (option_and_then section_offset (cond b (Some a) (first_named attrs)))
has_case true a attrs none plain behind = ap (λ (b : Bool). is_lines (lines_value a) || b) none ∙ or_no (is_lines (lines_value a)) ∙ value_marked a plain
has_case false a attrs none plain behind = ap (λ (b : Bool). b || has_lines (lines_marked attrs)) plain ∙ behind

pub marked_has : (attrs : List Attr) → has_lines attrs ≡ false → has_lines (lines_marked attrs) ≡ is_some (option_and_then section_offset (first_named attrs))
marked_has [] h = refl
marked_has (a ∷ attrs) h =
    let n = neither (is_lines a.value) (has_lines attrs) h in
    has_case (a.name == DW_AT_stmt_list) a attrs n.1 n.0 (marked_has attrs n.1)
