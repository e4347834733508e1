-- The rows of an object from which its heads are told.
use Rattle.std.specs.Prelude.{◌≡◌, ◌↔◌, ℕ, ◌<◌, ◌==◌, Bool, true, false, List, length, slice_get, take, Option, None, if◌then◌else◌}
use Rattle.std.specs.List.{enumerate_from, filter, filter_map, list_all, list_any}
use Rattle.std.specs.Option.{option_map_or}
use Rattle.dwarf_types.specs.declared.entry.Entry.{Entry}
use Rattle.type_names.specs.declared.heads.HeadRows.{HeadRows}
use Rattle.type_names.specs.Entries.{is_template_parameter, is_tied}
use Rattle.type_names.specs.Heads.{Object, entries_of, is_common, is_in_named_head, is_named_head, is_open_namespace}
use Rattle.type_names.specs.Rows.{IsRow, IsRowTo}
use Rattle.type_names.specs.Tree.{HasMarkedBelow, below_unit, is_marked}

abbrev pub is_tied_at : List Entry → ℕ → Bool
is_tied_at entries k = option_map_or is_tied (slice_get entries k) false

-- entry k and all entries above it but the unit are open namespaces
abbrev pub is_open_at : List Entry → ℕ → Bool
is_open_at entries k = list_all is_open_namespace (filter_map (slice_get entries) (below_unit entries k))

-- the template of which an entry is a parameter
abbrev pub template_of : Entry → Option ℕ
template_of e = if is_template_parameter e.tag then e.parent else None

-- one of the first i entries is a parameter of the template that entry k is
abbrev pub has_parameter_before : List Entry → ℕ → ℕ → Bool
has_parameter_before entries i k = list_any (λ child. is_template_parameter child.1.tag) (filter (λ e. option_map_or (λ p. p == k) e.1.parent false) (enumerate_from 0 (take i entries)))

-- the row tells which entries have a parameter of a template among the first i entries
pub record HasParametersTo (entries : List Entry) (row : List Bool) (i : ℕ) : Type 0 where
  pub len : length row ≡ length entries
  pub each : (k : ℕ) → k < length entries → is_marked row k ≡ has_parameter_before entries i k

pub record AreRows (entries : List Entry) (rows : HeadRows) : Type 0 where
  pub tied : IsRow (is_tied_at entries) (length entries) rows.tied
  pub below_len : length rows.tied_below ≡ length entries
  pub below : (k : ℕ) → (is_marked rows.tied_below k ≡ true) ↔ HasMarkedBelow entries rows.tied k
  pub namespaces : IsRow (is_open_at entries) (length entries) rows.namespaces
  pub template : HasParametersTo entries rows.template (length entries)

-- the rows that one walk fills, after the first i entries
pub record AreRowsTo (entries : List Entry) (tied namespaces template : List Bool) (i : ℕ) : Type 0 where
  pub ties : IsRowTo (is_tied_at entries) (length entries) tied i
  pub opens : IsRowTo (is_open_at entries) (length entries) namespaces i
  pub parameters : HasParametersTo entries template i

-- of the first i entries: which are named heads, which stand in the subtrees of these, and which types mean the same in every object
pub record AreNamedTo (o : Object) (named in_named common : List Bool) (i : ℕ) : Type 0 where
  pub heads : IsRowTo (is_named_head o) (length (entries_of o)) named i
  pub inside : IsRowTo (is_in_named_head o) (length (entries_of o)) in_named i
  pub means_same : IsRowTo (is_common o) (length (entries_of o)) common i
