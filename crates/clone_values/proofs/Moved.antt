-- Of operations whose address fields moved, each field did.
use Rattle.std.proofs.Common.{◌≡◌, zero, suc, Bool, true, List, [], ◌∷◌, ◌++◌, Option, Some, None, is_some, All, refl, sym, ap, ◌∙◌, arith}
use Rattle.std.specs.List.{cons_option, filter_map, list_all}
use Rattle.std.specs.Option.{option_to_list}
use Rattle.std.proofs.lemmas.Bool.{and_parts}
use Rattle.std.proofs.lemmas.Option.{same_Some}
use Rattle.clone_values.specs.Cut.{HasMoved}
use Rattle.dwarf_types.specs.declared.address.Place.{Place}
use Rattle.dwarf_types.specs.declared.expr.Op.{Op}
use Rattle.dwarf_types.specs.declared.expr.PlainOp.{PlainOp}
use Rattle.dwarf_types.specs.Moves.{op_fields}

abbrev is_linked : Place → Bool
is_linked place = is_some place.linked

first_moved : (address : Option Place) (fields : List Place) → list_all is_linked (cons_option address fields) ≡ true → HasMoved address × (list_all is_linked fields ≡ true)
first_moved None fields all = ((λ place is. absurd cc), all)
first_moved (Some p) fields all =
    let both = and_parts (is_linked p) (list_all is_linked fields) all in
    ((λ place is. ap is_linked (sym (same_Some p place is)) ∙ both.0), both.1)

before_fields : (address : Option Place) (fields : List Place) → option_to_list address ++ fields ≡ cons_option address fields
before_fields None fields = refl
before_fields (Some p) fields = refl

each_moved : (inner : List PlainOp) → list_all is_linked (filter_map (λ p. p.address) inner) ≡ true → All (λ p. HasMoved p.address) inner
each_moved [] all k d lt = absurd (omega (arith, lt))
each_moved (p ∷ ps) all zero d lt = (first_moved p.address (filter_map (λ q. q.address) ps) all).0
each_moved (p ∷ ps) all (suc k) d lt = each_moved ps (first_moved p.address (filter_map (λ q. q.address) ps) all).1 k d (omega (arith, lt))

-- its own address, and those of the operations inside
pub op_moved : (op : Op) → list_all (λ place. is_some place.linked) (op_fields op) ≡ true → HasMoved op.address × All (λ p. HasMoved p.address) op.inner
op_moved op all =
    let inner : List Place = filter_map (λ p. p.address) op.inner in
    let parts = first_moved op.address inner (ap (list_all is_linked) (sym (before_fields op.address inner)) ∙ all) in
    (parts.0, each_moved op.inner parts.1)
