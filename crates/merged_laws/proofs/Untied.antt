-- What is written of an entry without a field that ties it to its unit.
use Rattle.std.proofs.Common.{◌≡◌, ℕ, ◌==◌, ◌&&◌, ◌||◌, not, Bool, true, false, cond, List, [], ◌∷◌, ◌++◌, map, Option, Some, None, is_some, refl, sym, ap, ◌∙◌}
use Rattle.std.specs.List.{All, cons_option, filter_map, flat_map, list_any}
use Rattle.std.specs.Option.{option_map}
use Rattle.std.proofs.lemmas.Bool.{both_ways}
use Rattle.std.proofs.lemmas.List.Elements.{All-cons, All-nil, All-weaker}
use Rattle.std.proofs.lemmas.List.Folds.{list_any_none}
use Rattle.std.proofs.lemmas.Option.{none-some, same_Some}
use Rattle.ds_base.specs.DwarfNumbers.{DW_AT_decl_file, DW_FORM_udata}
use Rattle.dwarf_types.specs.declared.entry.Attr.{Attr}
use Rattle.dwarf_types.specs.declared.entry.Entry.{Entry}
use Rattle.dwarf_types.specs.declared.expr.Base.{Base}
use Rattle.dwarf_types.specs.declared.expr.Op.{Op}
use Rattle.dwarf_types.specs.declared.expr.PlainOp.{PlainOp}
use Rattle.dwarf_types.specs.declared.graph.OutAttr.{OutAttr}
use Rattle.dwarf_types.specs.declared.graph.OutValue.{OutValue}
use Rattle.dwarf_types.specs.declared.graph.OutValue.TheVariants as out
use Rattle.dwarf_types.specs.declared.graph.Target.{Target}
use Rattle.dwarf_types.specs.declared.value.Value.{Value}
use Rattle.dwarf_types.specs.declared.value.Value.TheVariants as values
use Rattle.dwarf_types.specs.LinkedExpressions.{parts_of}
use Rattle.dwarf_types.specs.Forms.{is_flag}
use Rattle.dwarf_types.specs.LinkedValues.{all_move, attr_written, attrs_written, file_written, is_left_out, location_written, loses_low_pc, value_written}
use Rattle.dwarf_types.specs.Live.{base_in, op_bases, operations_of}
use Rattle.dwarf_types.specs.Moves.{address_moved}
use Rattle.dwarf_types.specs.WellNodes.{is_lines}
use Rattle.link_graph.proofs.Gathered.{All-filter_map}
use Rattle.linked_laws.proofs.Attributes.{made_of, mapped_some, unless_left, unless_some, when_some}
use Rattle.type_names.specs.Entries.{has_field, inner_is_tied, is_field, op_is_tied}

nor_left : (a b : Bool) → (a || b) ≡ false → a ≡ false
nor_left true b is = absurd (both_ways _ is refl)
nor_left false b is = refl

nor_right : (a b : Bool) → (a || b) ≡ false → b ≡ false
nor_right true b is = absurd (both_ways _ is refl)
nor_right false b is = is

pub none_pass : {A : Type 0} (test : A → Bool) (xs : List A) → list_any test xs ≡ false → All (λ x. test x ≡ false) xs
none_pass test [] is = All-nil (λ x. test x ≡ false)
none_pass test (x ∷ xs) is = All-cons (λ x. test x ≡ false) x xs (nor_left (test x) (list_any test xs) is) (none_pass test xs (nor_right (test x) (list_any test xs) is))

none_of : {A : Type 0} (x : Option A) → is_some x ≡ false → x ≡ None
none_of None is = refl
none_of (Some a) is = absurd (both_ways _ is refl)

-- ---- base types

inner_none : (inner : List PlainOp) → list_any inner_is_tied inner ≡ false → filter_map base_in (map (λ inner. inner.base) inner) ≡ []
inner_none [] is = refl
inner_none (op ∷ inner) is =
    let own = none_of op.base (nor_right (is_some op.address) (is_some op.base) (nor_left (inner_is_tied op) (list_any inner_is_tied inner) is)) in
    ap (λ (b : Option Base). cons_option (base_in b) (filter_map base_in (map (λ inner. inner.base) inner))) own ∙ inner_none inner (nor_right (inner_is_tied op) (list_any inner_is_tied inner) is)

op_none : (op : Op) → op_is_tied op ≡ false → op_bases op ≡ []
op_none op is =
    let rest = nor_right (is_some op.address) _ is in
    let own = none_of op.base (nor_left (is_some op.base) (list_any inner_is_tied op.inner) rest) in
    ap (λ (b : Option Base). cons_option (base_in b) (filter_map base_in (map (λ inner. inner.base) op.inner))) own ∙ inner_none op.inner (nor_right (is_some op.base) (list_any inner_is_tied op.inner) rest)

ops_none : (ops : List Op) → list_any op_is_tied ops ≡ false → flat_map op_bases ops ≡ []
ops_none [] is = refl
ops_none (op ∷ ops) is = ap (λ (bs : List ℕ). bs ++ flat_map op_bases ops) (op_none op (nor_left (op_is_tied op) (list_any op_is_tied ops) is)) ∙ ops_none ops (nor_right (op_is_tied op) (list_any op_is_tied ops) is)

-- its values name none
pub no_bases : (v : Value) → is_field v ≡ false → flat_map op_bases (operations_of v) ≡ []
no_bases (values.Address place) is = refl
no_bases (values.Text text) is = refl
no_bases (values.Number form bits) is = refl
no_bases (values.Wide bytes) is = refl
no_bases (values.Block form bytes) is = refl
no_bases (values.Expr ops) is = ops_none ops is
no_bases (values.Ref k) is = refl
no_bases (values.Ranges spans) is = refl
no_bases (values.Locations items) is = absurd (both_ways _ is refl)
no_bases values.Lines is = refl
no_bases (values.Offset n) is = refl

-- ---- line tables

module _ (image : ℕ → Option Target) (e : Entry) where
  is_as : (x y : OutValue) → y ≡ x → is_lines x ≡ false → is_lines y ≡ false
  is_as x y is none = ap is_lines is ∙ none

  value_names_none : (a : Attr) (v : Value) (y : OutValue) → is_field v ≡ false → value_written image e a v ≡ Some y → is_lines y ≡ false
  value_names_none a (values.Address place) y is w = let h = mapped_some (λ n. out.Address n) (address_moved e.tag a) y w in is_as (out.Address h.0) y h.2 refl
  value_names_none a (values.Text text) y is w = is_as (out.Text text) y (sym (same_Some _ y w)) refl
  value_names_none a (values.Number form bits) y is w = is_as (out.Number form bits) y (unless_some (not (is_flag form) && loses_low_pc e a) _ y w) refl
  value_names_none a (values.Wide bytes) y is w = is_as (out.Wide bytes) y (unless_some (loses_low_pc e a) _ y w) refl
  value_names_none a (values.Block form bytes) y is w = is_as (out.Block form bytes) y (sym (same_Some _ y w)) refl
  value_names_none a (values.Expr ops) y is w = is_as (out.Expr (parts_of image ops)) y (when_some (all_move ops) _ y w) refl
  value_names_none a (values.Ref k) y is w = let h = mapped_some (λ target. out.Ref target) (image k) y w in is_as (out.Ref h.0) y h.2 refl
  value_names_none a (values.Ranges spans) y is w = is_as (out.Ranges spans) y (made_of (λ list. out.Ranges list) spans y w) refl
  value_names_none a (values.Locations items) y is w = is_as (out.Locations (filter_map (location_written image) items)) y (made_of (λ list. out.Locations list) (filter_map (location_written image) items) y w) refl
  value_names_none a values.Lines y is w = absurd (both_ways _ is refl)
  value_names_none a (values.Offset n) y is w = absurd (none-some y w)

  file_names_none : (number : ℕ → Option ℕ) (a : Attr) (v : Value) (y : OutValue) → file_written image (Some number) e a v ≡ Some y → is_lines y ≡ false
  file_names_none number a (values.Number form bits) y w = let h = mapped_some (λ n. out.Number DW_FORM_udata n) (number bits) y w in is_as (out.Number DW_FORM_udata h.0) y h.2 refl
  file_names_none number a (values.Address place) y w = absurd (none-some y w)
  file_names_none number a (values.Text text) y w = absurd (none-some y w)
  file_names_none number a (values.Wide bytes) y w = absurd (none-some y w)
  file_names_none number a (values.Block form bytes) y w = absurd (none-some y w)
  file_names_none number a (values.Expr ops) y w = absurd (none-some y w)
  file_names_none number a (values.Ref k) y w = absurd (none-some y w)
  file_names_none number a (values.Ranges spans) y w = absurd (none-some y w)
  file_names_none number a (values.Locations items) y w = absurd (none-some y w)
  file_names_none number a values.Lines y w = absurd (none-some y w)
  file_names_none number a (values.Offset n) y w = absurd (none-some y w)

  said_names_none : (number : ℕ → Option ℕ) (b : Bool) (a : Attr) (y : OutValue) → is_field a.value ≡ false → cond b (file_written image (Some number) e a a.value) (value_written image e a a.value) ≡ Some y → is_lines y ≡ false
  said_names_none number true a y is w = file_names_none number a a.value y w
  said_names_none number false a y is w = value_names_none a a.value y is w

  attr_names_none : (number : ℕ → Option ℕ) (a : Attr) (y : OutAttr) → is_field a.value ≡ false → attr_written image (Some number) e a ≡ Some y → is_lines y.value ≡ false
  attr_names_none number a y is w =
      let said : Option OutValue = cond (a.name == DW_AT_decl_file) (file_written image (Some number) e a a.value) (value_written image e a a.value) in
      let left = unless_left (is_left_out image e a.name) (option_map (λ value. record { name = a.name; value = value }) said) y w in
      let made = mapped_some (λ value. record { name = a.name; value = value }) said y left.1 in
      ap (λ b. is_lines b.value) made.2 ∙ said_names_none number (a.name == DW_AT_decl_file) a made.0 is made.1

  -- it names no line table
  pub no_lines : (number : ℕ → Option ℕ) → has_field e ≡ false → list_any (λ a. is_lines a.value) (attrs_written image (Some number) e) ≡ false
  no_lines number none =
      list_any_none (λ (a : OutAttr). is_lines a.value) (attrs_written image (Some number) e)
      (All-filter_map (λ (a : OutAttr). is_lines a.value ≡ false) (attr_written image (Some number) e) e.attrs (All-weaker (λ (a : Attr). is_field a.value ≡ false) (λ a. (y : OutAttr) → attr_written image (Some number) e a ≡ Some y → is_lines y.value ≡ false)
      (λ a is y w. attr_names_none number a y is w) e.attrs (none_pass (λ (a : Attr). is_field a.value) e.attrs none)))
