-- What the entries that are written say: their attributes moved to the linked program, in order, or dropped.
use Rattle.std.specs.Prelude.{ℕ, ◌==◌, ◌&&◌, ◌||◌, not, Bool, List, [], ◌∷◌, Option, Some, None, is_none, is_some, if◌then◌else◌}
use Rattle.std.specs.List.{filter_map, list_all}
use Rattle.std.specs.Option.{option_map}
use Rattle.ds_base.specs.DwarfNumbers.{DW_AT_decl_file, DW_AT_high_pc, DW_FORM_udata}
use Rattle.dwarf_types.specs.declared.entry.Attr.{Attr}
use Rattle.dwarf_types.specs.declared.entry.Entry.{Entry}
use Rattle.dwarf_types.specs.declared.expr.Op.{Op}
use Rattle.dwarf_types.specs.declared.graph.OutAttr.{OutAttr}
use Rattle.dwarf_types.specs.declared.graph.OutLocation.{OutLocation}
use Rattle.dwarf_types.specs.declared.graph.OutValue.{OutValue}
use Rattle.dwarf_types.specs.declared.graph.OutValue.TheVariants as out
use Rattle.dwarf_types.specs.declared.graph.Target.{Target}
use Rattle.dwarf_types.specs.declared.lists.Location.{Location}
use Rattle.dwarf_types.specs.declared.value.Value.{Value}
use Rattle.dwarf_types.specs.declared.value.Value.TheVariants as values
use Rattle.dwarf_types.specs.Forms.{is_flag}
use Rattle.dwarf_types.specs.LinkedExpressions.{parts_of}
use Rattle.dwarf_types.specs.Live.{low_pc_moves}
use Rattle.dwarf_types.specs.Moves.{address_moved, op_fields}
use Rattle.dwarf_types.specs.WellNodes.{is_dropped}
use Rattle.dwarf_types.specs.WellRoots.{is_code_range}

-- all address fields of an expression moved
abbrev pub all_move : List Op → Bool
all_move ops = list_all (λ op. list_all (λ place. is_some place.linked) (op_fields op)) ops

-- a list is dropped where it has nothing left
abbrev pub unless_empty : {A B : Type 0} → (List A → B) → List A → Option B
unless_empty made [] = None
unless_empty made (x ∷ xs) = Some (made (x ∷ xs))

-- a high_pc of class constant is a length, and goes with its low_pc
abbrev pub loses_low_pc : Entry → Attr → Bool
loses_low_pc e a = a.name == DW_AT_high_pc && not (low_pc_moves e)

-- what each number of a source file becomes where the output unit's line table isn't that of the entry's unit
abbrev pub FileNumbers : Type 0
FileNumbers = Option (ℕ → Option ℕ)

-- what an entry's attribute says in the output, by the image of each entry of its object
module _ (image : ℕ → Option Target) where
  -- an item whose expression has an address that didn't move is dropped
  abbrev pub location_written : Location → Option OutLocation
  location_written item = if all_move item.ops then Some (record { span = item.span; parts = parts_of image item.ops }) else None

  abbrev pub value_written : Entry → Attr → Value → Option OutValue
  value_written e a (values.Address place) = option_map (λ n. out.Address n) (address_moved e.tag a)
  value_written e a (values.Text text) = Some (out.Text text)
  value_written e a (values.Number form bits) = if not (is_flag form) && loses_low_pc e a then None else Some (out.Number form bits)
  value_written e a (values.Wide bytes) = if loses_low_pc e a then None else Some (out.Wide bytes)
  value_written e a (values.Block form bytes) = Some (out.Block form bytes)
  value_written e a (values.Expr ops) = if all_move ops then Some (out.Expr (parts_of image ops)) else None
  value_written e a (values.Ref k) = option_map (λ target. out.Ref target) (image k)
  value_written e a (values.Ranges spans) = unless_empty (λ list. out.Ranges list) spans
  value_written e a (values.Locations items) = unless_empty (λ list. out.Locations list) (filter_map location_written items)
  value_written e a values.Lines = Some out.Lines
  value_written e a (values.Offset n) = None

  -- attributes that speak of how the input was laid out are dropped, and of a unit those that tell its code
  abbrev pub is_left_out : Entry → ℕ → Bool
  is_left_out e name = is_dropped name || (is_none e.parent && is_code_range name)

  abbrev pub file_written : FileNumbers → Entry → Attr → Value → Option OutValue
  file_written None e a value = value_written e a value
  file_written (Some number) e a (values.Number form bits) = option_map (λ n. out.Number DW_FORM_udata n) (number bits)
  file_written (Some number) e a value = None

  abbrev pub attr_written : FileNumbers → Entry → Attr → Option OutAttr
  attr_written files e a =
      if is_left_out e a.name then None
      else option_map (λ value. record { name = a.name; value = value }) (if a.name == DW_AT_decl_file then file_written files e a a.value else value_written e a a.value)

  abbrev pub attrs_written : FileNumbers → Entry → List OutAttr
  attrs_written files e = filter_map (attr_written files e) e.attrs
