-- Roots as they are written: what they name, and how they end.
use Rattle.std.proofs.Common.{◌≡◌, ◌&&◌, ◌||◌, not, ℕ, Bool, true, false, cond, List, [], ◌∷◌, ◌++◌, Option, Some, None, eqb, refl, sym, ap, subst, ◌∙◌}
use Rattle.std.specs.List.{cons_option, filter_map, list_any}
use Rattle.std.specs.Option.{is_none, option_map}
use Rattle.std.proofs.lemmas.Bool.{and_parts, eqb-true}
use Rattle.std.proofs.lemmas.Option.{same_Some}
use Rattle.ds_base.specs.DwarfNumbers.{DW_AT_decl_file, DW_AT_stmt_list}
use Rattle.dwarf_types.specs.declared.entry.Attr.{Attr}
use Rattle.dwarf_types.specs.declared.entry.Entry.{Entry}
use Rattle.dwarf_types.specs.declared.graph.OutAttr.{OutAttr}
use Rattle.dwarf_types.specs.declared.graph.OutValue.{OutValue}
use Rattle.dwarf_types.specs.declared.graph.OutValue.TheVariants as out
use Rattle.dwarf_types.specs.declared.graph.Target.{Target}
use Rattle.dwarf_types.specs.declared.value.Value.{Value}
use Rattle.dwarf_types.specs.declared.value.Value.TheVariants as values
use Rattle.dwarf_types.specs.LinkedExpressions.{parts_of}
use Rattle.dwarf_types.specs.Forms.{is_flag}
use Rattle.dwarf_types.specs.LinkedValues.{all_move, attr_written, attrs_written, is_left_out, location_written, loses_low_pc, value_written}
use Rattle.dwarf_types.specs.Moves.{address_moved}
use Rattle.dwarf_types.specs.WellNodes.{is_dropped, is_lines}
use Rattle.dwarf_types.specs.WellRoots.{is_code_range, is_split, names_lines_first}
use Rattle.linked_laws.specs.Spellable as given
use Rattle.linked_laws.proofs.Attributes.{made_of, mapped_some, neither, nor_right, unless_left, unless_some, when_some}

not_true : {b : Bool} → not b ≡ true → b ≡ false
not_true {b = true} h = absurd cc
not_true {b = false} h = refl

abbrev pub lines_out : List OutAttr → Bool
lines_out attrs = list_any (λ b. is_lines b.value) attrs

module _ (image : ℕ → Option Target) (e : Entry) where
  -- what an attribute that is written shares with what it was
  record Same (a : Attr) (y : OutAttr) : Type 0 where
    name : y.name ≡ a.name
    lines : is_lines y.value ≡ given.is_lines a.value
    kept : is_left_out image e a.name ≡ false

  is_as : (x y : OutValue) → y ≡ x → is_lines x ≡ false → is_lines y ≡ false
  is_as x y is none = ap is_lines is ∙ none

  value_same : (a : Attr) (v : Value) (y : OutValue) → value_written image e a v ≡ Some y → is_lines y ≡ given.is_lines v
  value_same a (values.Address place) y w = let h = mapped_some (λ n. out.Address n) (address_moved e.tag a) y w in is_as (out.Address h.0) y h.2 refl
  value_same a (values.Text text) y w = is_as (out.Text text) y (sym (same_Some _ y w)) refl
  value_same a (values.Number form bits) y w = is_as (out.Number form bits) y (unless_some (not (is_flag form) && loses_low_pc e a) _ y w) refl
  value_same a (values.Wide bytes) y w = is_as (out.Wide bytes) y (unless_some (loses_low_pc e a) _ y w) refl
  value_same a (values.Block form bytes) y w = is_as (out.Block form bytes) y (sym (same_Some _ y w)) refl
  value_same a (values.Expr ops) y w = is_as (out.Expr (parts_of image ops)) y (when_some (all_move ops) _ y w) refl
  value_same a (values.Ref k) y w = let h = mapped_some (λ target. out.Ref target) (image k) y w in is_as (out.Ref h.0) y h.2 refl
  value_same a (values.Ranges spans) y w = is_as (out.Ranges spans) y (made_of (λ list. out.Ranges list) spans y w) refl
  value_same a (values.Locations items) y w = is_as (out.Locations (filter_map (location_written image) items)) y (made_of (λ list. out.Locations list) (filter_map (location_written image) items) y w) refl
  value_same a values.Lines y w = ap is_lines (sym (same_Some _ y w))
  value_same a (values.Offset n) y w = absurd cc

  -- the unit has the line table of its object's
  either : (b : Bool) (x : Option OutValue) → cond b x x ≡ x
  either true x = refl
  either false x = refl

  same : (a : Attr) (y : OutAttr) → attr_written image None e a ≡ Some y → Same a y
  same a y w =
      let value = value_written image e a a.value in
      let said : Option OutValue = cond (eqb a.name DW_AT_decl_file) value value in
      let left = unless_left (is_left_out image e a.name) (option_map (λ value. record { name = a.name; value = value }) said) y w in
      let made = mapped_some (λ value. record { name = a.name; value = value }) said y left.1 in
      record { name = ap (λ b. b.name) made.2; lines = ap (λ b. is_lines b.value) made.2 ∙ value_same a a.value made.0 (sym (either (eqb a.name DW_AT_decl_file) value) ∙ made.1); kept = left.0 }

  abbrev f : Attr → Option OutAttr
  f a = attr_written image None e a

  -- ---- no test on names or line tables that failed passes

  none_by : (p : OutAttr → Bool) (q : Attr → Bool) → ((a : Attr) (y : OutAttr) → f a ≡ Some y → q a ≡ false → p y ≡ false) → (a : Attr) (attrs : List Attr) (o : Option OutAttr) → f a ≡ o → q a ≡ false
      → list_any p (filter_map f attrs) ≡ false → list_any p (cons_option o (filter_map f attrs)) ≡ false
  none_by p q agree a attrs None e' none rest = rest
  none_by p q agree a attrs (Some y) e' none rest = ap (λ (b : Bool). b || list_any p (filter_map f attrs)) (agree a y e' none) ∙ rest

  none_left : (p : OutAttr → Bool) (q : Attr → Bool) → ((a : Attr) (y : OutAttr) → f a ≡ Some y → q a ≡ false → p y ≡ false) → (attrs : List Attr) → list_any q attrs ≡ false → list_any p (filter_map f attrs) ≡ false
  none_left p q agree [] none = refl
  none_left p q agree (a ∷ attrs) none =
      none_by p q agree a attrs (f a) refl (neither (q a) (list_any q attrs) none) (none_left p q agree attrs (nor_right (q a) (list_any q attrs) none))

  pub no_lines_left : given.has_lines e.attrs ≡ false → lines_out (attrs_written image None e) ≡ false
  no_lines_left none = none_left (λ b. is_lines b.value) (λ a. given.is_lines a.value) (λ a y w no. (same a y w).lines ∙ no) e.attrs none

  pub no_split_left : list_any (λ a. is_split a.name) e.attrs ≡ false → list_any (λ b. is_split b.name) (attrs_written image None e) ≡ false
  no_split_left none = none_left (λ b. is_split b.name) (λ a. is_split a.name) (λ a y w no. ap is_split (same a y w).name ∙ no) e.attrs none

  never : (attrs : List Attr) → list_any (λ a. false) attrs ≡ false
  never [] = refl
  never (a ∷ attrs) = never attrs

  -- a root keeps no attribute that tells its unit's code
  pub no_code_left : e.parent ≡ None → list_any (λ b. is_code_range b.name) (attrs_written image None e) ≡ false
  no_code_left root =
      none_left (λ b. is_code_range b.name) (λ a. false)
      (λ a y w no. ap is_code_range (same a y w).name ∙ subst (λ (b : Bool). (b && is_code_range a.name) ≡ false) (ap is_none root) (nor_right (is_dropped a.name) _ (same a y w).kept)) e.attrs (never e.attrs)

  -- ---- the line table

  pub first_none : (xs : List OutAttr) → lines_out xs ≡ false → names_lines_first xs ≡ true
  first_none [] none = refl
  first_none (x ∷ xs) none = first_none_by x xs (eqb x.name DW_AT_stmt_list) none (first_none xs (nor_right (is_lines x.value) (lines_out xs) none))
    where
      first_none_by : (x : OutAttr) (xs : List OutAttr) (s : Bool) → (is_lines x.value || lines_out xs) ≡ false → names_lines_first xs ≡ true
          → cond s (not (lines_out xs)) (not (is_lines x.value) && names_lines_first xs) ≡ true
      first_none_by x xs true none rest = ap not (nor_right (is_lines x.value) (lines_out xs) none)
      first_none_by x xs false none rest = ap (λ (b : Bool). not b && names_lines_first xs) (neither (is_lines x.value) (lines_out xs) none) ∙ rest

  first_by : (a : Attr) (attrs : List Attr) (s : Bool) (o : Option OutAttr) → f a ≡ o → eqb a.name DW_AT_stmt_list ≡ s
      → cond s (not (given.has_lines attrs)) (not (given.is_lines a.value) && given.names_lines_first attrs) ≡ true
      → (given.names_lines_first attrs ≡ true → names_lines_first (filter_map f attrs) ≡ true) → (given.has_lines attrs ≡ false → lines_out (filter_map f attrs) ≡ false)
      → names_lines_first (cons_option o (filter_map f attrs)) ≡ true
  first_by a attrs true None w s h rest none = first_none (filter_map f attrs) (none (not_true h))
  first_by a attrs true (Some y) w s h rest none =
      ap (λ (b : Bool). cond b (not (lines_out (filter_map f attrs))) (not (is_lines y.value) && names_lines_first (filter_map f attrs))) (ap (λ (n : ℕ). eqb n DW_AT_stmt_list) (same a y w).name ∙ s)
      ∙ ap not (none (not_true h))
  first_by a attrs false None w s h rest none = rest (and_parts _ _ h).1
  first_by a attrs false (Some y) w s h rest none =
      let parts = and_parts (not (given.is_lines a.value)) (given.names_lines_first attrs) h in
      ap (λ (b : Bool). cond b (not (lines_out (filter_map f attrs))) (not (is_lines y.value) && names_lines_first (filter_map f attrs))) (ap (λ (n : ℕ). eqb n DW_AT_stmt_list) (same a y w).name ∙ s)
      ∙ ap (λ (b : Bool). not b && names_lines_first (filter_map f attrs)) (same a y w).lines
      ∙ ap (λ (b : Bool). b && names_lines_first (filter_map f attrs)) parts.0 ∙ rest parts.1

  none_of_lines : (attrs : List Attr) → given.has_lines attrs ≡ false → lines_out (filter_map f attrs) ≡ false
  none_of_lines attrs none = none_left (λ b. is_lines b.value) (λ a. given.is_lines a.value) (λ a y w no. (same a y w).lines ∙ no) attrs none

  pub first_left : (attrs : List Attr) → given.names_lines_first attrs ≡ true → names_lines_first (filter_map f attrs) ≡ true
  first_left [] h = refl
  first_left (a ∷ attrs) h = first_by a attrs (eqb a.name DW_AT_stmt_list) (f a) refl refl h (first_left attrs) (none_of_lines attrs)

  -- the attribute that names the line table is kept
  stmt_kept : (name : ℕ) → eqb name DW_AT_stmt_list ≡ true → is_left_out image e name ≡ false
  stmt_kept name s = ap (is_left_out image e) (eqb-true name DW_AT_stmt_list s) ∙ both (is_none e.parent)
    where
      both : (b : Bool) → (is_dropped DW_AT_stmt_list || (b && is_code_range DW_AT_stmt_list)) ≡ false
      both true = refl
      both false = refl

  lines_value : (a : Attr) (v : Value) → given.is_lines v ≡ true → value_written image e a v ≡ Some out.Lines
  lines_value a values.Lines h = refl
  lines_value a (values.Address place) h = absurd cc
  lines_value a (values.Text text) h = absurd cc
  lines_value a (values.Number form bits) h = absurd cc
  lines_value a (values.Wide bytes) h = absurd cc
  lines_value a (values.Block form bytes) h = absurd cc
  lines_value a (values.Expr ops) h = absurd cc
  lines_value a (values.Ref k) h = absurd cc
  lines_value a (values.Ranges spans) h = absurd cc
  lines_value a (values.Locations items) h = absurd cc
  lines_value a (values.Offset n) h = absurd cc

  lines_kept : (a : Attr) → given.is_lines a.value ≡ true → eqb a.name DW_AT_stmt_list ≡ true → f a ≡ Some (record { name = a.name; value = out.Lines })
  lines_kept a l s =
      let value = value_written image e a a.value in
      ap (λ (b : Bool). cond b None (option_map (λ value. record { name = a.name; value = value }) (cond (eqb a.name DW_AT_decl_file) value value))) (stmt_kept a.name s)
      ∙ ap (option_map (λ value. record { name = a.name; value = value })) (either (eqb a.name DW_AT_decl_file) value ∙ lines_value a a.value l)

  lines_by : (a : Attr) (attrs : List Attr) (l s : Bool) (o : Option OutAttr) → f a ≡ o → given.is_lines a.value ≡ l → eqb a.name DW_AT_stmt_list ≡ s
      → cond s (not (given.has_lines attrs)) (not l && given.names_lines_first attrs) ≡ true → (given.names_lines_first attrs ≡ true → lines_out (filter_map f attrs) ≡ given.has_lines attrs)
      → lines_out (cons_option o (filter_map f attrs)) ≡ (l || given.has_lines attrs)
  lines_by a attrs true true None w l s h rest = absurd (let found = sym w ∙ lines_kept a l s in cc)
  lines_by a attrs true true (Some y) w l s h rest = ap (λ (b : Bool). b || lines_out (filter_map f attrs)) ((same a y w).lines ∙ l)
  lines_by a attrs true false o w l s h rest = absurd cc
  lines_by a attrs false true None w l s h rest = none_of_lines attrs (not_true h) ∙ sym (not_true h)
  lines_by a attrs false true (Some y) w l s h rest =
      ap (λ (b : Bool). b || lines_out (filter_map f attrs)) ((same a y w).lines ∙ l) ∙ none_of_lines attrs (not_true h) ∙ sym (not_true h)
  lines_by a attrs false false None w l s h rest = rest h
  lines_by a attrs false false (Some y) w l s h rest = ap (λ (b : Bool). b || lines_out (filter_map f attrs)) ((same a y w).lines ∙ l) ∙ rest h

  pub lines_left : (attrs : List Attr) → given.names_lines_first attrs ≡ true → lines_out (filter_map f attrs) ≡ given.has_lines attrs
  lines_left [] h = refl
  lines_left (a ∷ attrs) h = lines_by a attrs (given.is_lines a.value) (eqb a.name DW_AT_stmt_list) (f a) refl refl refl h (lines_left attrs)

-- ---- what closes a root

pub lines_append : (xs ys : List OutAttr) → lines_out ys ≡ false → lines_out (xs ++ ys) ≡ lines_out xs
lines_append [] ys none = none
lines_append (x ∷ xs) ys none = ap (λ (b : Bool). is_lines x.value || b) (lines_append xs ys none)

pub any_append : (p : OutAttr → Bool) (xs ys : List OutAttr) → list_any p ys ≡ false → list_any p (xs ++ ys) ≡ list_any p xs
any_append p [] ys none = none
any_append p (x ∷ xs) ys none = ap (λ (b : Bool). p x || b) (any_append p xs ys none)

pub first_append : (xs ys : List OutAttr) → names_lines_first xs ≡ true → names_lines_first ys ≡ true → lines_out ys ≡ false → names_lines_first (xs ++ ys) ≡ true
first_append [] ys h h' none = h'
first_append (x ∷ xs) ys h h' none = by (λ first. first_append xs ys first h' none) (eqb x.name DW_AT_stmt_list) h
  where
    by : (names_lines_first xs ≡ true → names_lines_first (xs ++ ys) ≡ true) → (s : Bool) → cond s (not (lines_out xs)) (not (is_lines x.value) && names_lines_first xs) ≡ true → cond s (not (lines_out (xs ++ ys))) (not (is_lines x.value) && names_lines_first (xs ++ ys)) ≡ true
    by rest true h = ap not (lines_append xs ys none) ∙ h
    by rest false h =
        let parts = and_parts (not (is_lines x.value)) (names_lines_first xs) h in
        ap (λ (b : Bool). b && names_lines_first (xs ++ ys)) parts.0 ∙ rest parts.1
