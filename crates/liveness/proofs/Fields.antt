-- Address fields of some operations, told operation by operation.
use Rattle.std.proofs.Common.{◌≡◌, suc, ◌||◌, ◌&&◌, not, eqb, Bool, cond, true, false, List, [], ◌∷◌, ◌++◌, length, slice_get, Option, Some, None, is_some, refl, sym, ap, ◌∙◌, arith}
use Rattle.std.specs.List.{cons_option, filter_map, find, flat_map, list_any, list_all}
use Rattle.std.specs.Option.{option_map, option_map_or, option_to_list}
use Rattle.std.proofs.lemmas.Bool.{ne_eqb}
use Rattle.std.proofs.lemmas.List.Folds.{list_all-append}
use Rattle.ds_base.specs.DwarfNumbers.{DW_AT_location}
use Rattle.dwarf_types.specs.declared.address.Place.{Place}
use Rattle.dwarf_types.specs.declared.expr.Op.{Op}
use Rattle.dwarf_types.specs.declared.expr.PlainOp.{PlainOp}
use Rattle.dwarf_types.specs.declared.entry.Attr.{Attr}
use Rattle.dwarf_types.specs.declared.entry.Entry.{Entry}
use Rattle.dwarf_types.specs.Moves.{has_location, location_fields, location_in, location_moves, op_fields, operations_in}

abbrev is_linked : Place → Bool
is_linked place = is_some place.linked

-- two lists hold something where one of them does
some_joined : {A : Type 0} (xs ys : List A) → (not (eqb (length xs) 0) || not (eqb (length ys) 0)) ≡ not (eqb (length (xs ++ ys)) 0)
some_joined [] ys = refl
some_joined (x ∷ xs) ys = rw (ne_eqb (suc (length xs)) 0 (omega arith), ne_eqb (suc (length (xs ++ ys))) 0 (omega arith)) refl

option_some : {A : Type 0} (o : Option A) → is_some o ≡ not (eqb (length (option_to_list o)) 0)
option_some None = refl
option_some (Some x) = refl

-- a list of what there is, by the first and the others
filter_map_first : {A B : Type 0} (f : A → Option B) (x : A) (xs : List A) → option_to_list (f x) ++ filter_map f xs ≡ filter_map f (x ∷ xs)
filter_map_first f x xs = elim (f x) as (λ o. option_to_list o ++ filter_map f xs ≡ cons_option o (filter_map f xs)) [ None ↦ refl | Some y ↦ refl ]

some_inner : (inner : List PlainOp) → list_any (λ plain. is_some plain.address) inner ≡ not (eqb (length (filter_map (λ plain. plain.address) inner)) 0)
some_inner [] = refl
some_inner (plain ∷ inner) =
    rw (option_some plain.address, some_inner inner, some_joined (option_to_list plain.address) (filter_map (λ p. p.address) inner))
    (ap (λ (fields : List Place). not (eqb (length fields) 0)) (filter_map_first (λ p. p.address) plain inner))

pub some_field : (op : Op) → (is_some op.address || list_any (λ plain. is_some plain.address) op.inner) ≡ not (eqb (length (op_fields op)) 0)
some_field op =
    rw (option_some op.address, some_inner op.inner)
    (some_joined (option_to_list op.address) (filter_map (λ p. p.address) op.inner))

pub some_fields : (ops : List Op) → list_any (λ op. not (eqb (length (op_fields op)) 0)) ops ≡ not (eqb (length (flat_map op_fields ops)) 0)
some_fields [] = refl
some_fields (op ∷ ops) = rw (some_fields ops) (some_joined (op_fields op) (flat_map op_fields ops))

all_inner : (inner : List PlainOp) → list_all (λ plain. list_all (λ place. is_some place.linked) (option_to_list plain.address)) inner ≡ list_all (λ place. is_some place.linked) (filter_map (λ plain. plain.address) inner)
all_inner [] = refl
all_inner (plain ∷ inner) =
    rw (all_inner inner) (sym (list_all-append is_linked (option_to_list plain.address) (filter_map (λ p. p.address) inner))
    ∙ ap (list_all is_linked) (filter_map_first (λ p. p.address) plain inner))

pub all_field : (op : Op) → (list_all (λ place. is_some place.linked) (option_to_list op.address) && list_all (λ plain. list_all (λ place. is_some place.linked) (option_to_list plain.address)) op.inner) ≡ list_all (λ place. is_some place.linked) (op_fields op)
all_field op = rw (all_inner op.inner) (sym (list_all-append is_linked (option_to_list op.address) (filter_map (λ p. p.address) op.inner)))

pub all_fields : (ops : List Op) → list_all (λ op. list_all (λ place. is_some place.linked) (op_fields op)) ops ≡ list_all (λ place. is_some place.linked) (flat_map op_fields ops)
all_fields [] = refl
all_fields (op ∷ ops) = rw (all_fields ops) (sym (list_all-append is_linked (op_fields op) (flat_map op_fields ops)))

-- ---- as the code tells it

pub some_field_else : (op : Op) → is_some op.address ≡ false → list_any (λ plain. is_some plain.address) op.inner ≡ not (eqb (length (op_fields op)) 0)
some_field_else op e = ap (λ b. b || list_any (λ plain. is_some plain.address) op.inner) (sym e) ∙ some_field op

pub all_field_then : (op : Op) → list_all (λ place. is_some place.linked) (option_to_list op.address) ≡ true → list_all (λ plain. list_all (λ place. is_some place.linked) (option_to_list plain.address)) op.inner ≡ list_all (λ place. is_some place.linked) (op_fields op)
all_field_then op e = ap (λ b. b && list_all (λ plain. list_all (λ place. is_some place.linked) (option_to_list plain.address)) op.inner) (sym e) ∙ all_field op

pub fields_of : (e : Entry) (ops : List Op) → Some ops ≡ slice_get (filter_map location_in e.attrs) 0 → flat_map op_fields ops ≡ location_fields e
fields_of e ops is = ap (λ o. option_map_or (flat_map op_fields) o []) is

pub has_location_at : (e : Entry) (ops : List Op) → Some ops ≡ slice_get (filter_map location_in e.attrs) 0 → list_any (λ op. not (eqb (length (op_fields op)) 0)) ops ≡ has_location e
has_location_at e ops is = some_fields ops ∙ ap (λ (fields : List Place). not (eqb (length fields) 0)) (fields_of e ops is)

pub location_moves_at : (e : Entry) (ops : List Op) → Some ops ≡ slice_get (filter_map location_in e.attrs) 0 → (list_any (λ op. not (eqb (length (op_fields op)) 0)) ops && list_all (λ op. list_all (λ place. is_some place.linked) (op_fields op)) ops) ≡ location_moves e
location_moves_at e ops is = rw (has_location_at e ops is, all_fields ops, fields_of e ops is) refl

-- ---- entries without a location

unnamed_first : (b : Bool) (a : Attr) (others : Option Attr) (ops : Option (List Op)) → cond b (Some a) others ≡ None → (others ≡ None) × (cond b ops None ≡ None)
unnamed_first true a others ops e = absurd cc
unnamed_first false a others ops e = (e, refl)

none_located : (attrs : List Attr) → find (λ a. eqb a.name DW_AT_location) attrs ≡ None → filter_map location_in attrs ≡ []
none_located [] e = refl
none_located (a ∷ attrs) e =
    let it = unnamed_first (eqb a.name DW_AT_location) a (find (λ b. eqb b.name DW_AT_location) attrs) (operations_in a.value) e in
    ap (λ (o : Option (List Op)). cons_option o (filter_map location_in attrs)) it.1 ∙ none_located attrs it.0

pub no_location : {A : Type 0} (seen : A → Attr) (found : Option A) (attrs : List Attr) → is_some found ≡ false → option_map seen found ≡ find (λ a. eqb a.name DW_AT_location) attrs → None ≡ slice_get (filter_map location_in attrs) 0
no_location seen None attrs t e = ap (λ (locations : List (List Op)). slice_get locations 0) (sym (none_located attrs (sym e)))
no_location seen (Some x) attrs t e = absurd cc
