-- Paths that are the same, and the path above one.
use Rattle.std.proofs.Common.{◌≡◌, ◌==◌, ◌&&◌, Bool, true, false, List, [], ◌∷◌, ◌++◌, length, Option, Some, None, refl, sym, ap, ◌∙◌, arith}
use Rattle.std.specs.Option.{option_map, option_map_or}
use Rattle.std.proofs.lemmas.Bool.{both_ways, eq-eqb, eqb-true}
use Rattle.std.proofs.lemmas.List.{length_push}
use Rattle.std.proofs.lemmas.Option.{none-some, same_Some}
use Rattle.type_names.specs.Names.{Named}
use Rattle.type_names.specs.Paths.{Piece, same_parts}
use Rattle.odr_names.proofs.Counting.{parts_same, same_parts_self}
use Rattle.link_graph.specs.Pool.{is_child, path_above, same_path, same_piece}

pub both : (a b : Bool) → (a && b) ≡ true → (a ≡ true) × (b ≡ true)
both true b is = (refl, is)
both false b is = absurd (both_ways _ refl is)

piece_same : (a b : Piece) → same_piece a b ≡ true → a ≡ b
piece_same a b is =
    let each = both (same_parts a.parts b.parts) (a.ordinal == b.ordinal) is in
    let parts : a.parts ≡ b.parts = parts_same a.parts b.parts each.0 in
    let ordinal : a.ordinal ≡ b.ordinal = eqb-true a.ordinal b.ordinal each.1 in
    (λ i. record { parts = parts i; ordinal = ordinal i })

same_piece_self : (a : Piece) → same_piece a a ≡ true
same_piece_self a = ap (λ (b : Bool). b && a.ordinal == a.ordinal) (same_parts_self a.parts) ∙ eq-eqb a.ordinal a.ordinal refl

pub path_same : (a b : List Piece) → same_path a b ≡ true → a ≡ b
path_same [] [] is = refl
path_same [] (q ∷ b) is = absurd (both_ways _ refl is)
path_same (p ∷ a) [] is = absurd (both_ways _ refl is)
path_same (p ∷ a) (q ∷ b) is =
    let each = both (same_piece p q) (same_path a b) is in
    let piece = piece_same p q each.0 in
    let rest = path_same a b each.1 in
    (λ i. piece i ∷ rest i)

pub same_path_self : (a : List Piece) → same_path a a ≡ true
same_path_self [] = refl
same_path_self (p ∷ a) = ap (λ (b : Bool). b && same_path a a) (same_piece_self p) ∙ same_path_self a

pub same_path_from : (a b : List Piece) → a ≡ b → same_path a b ≡ true
same_path_from a b e = ap (same_path a) (sym e) ∙ same_path_self a

-- ---- the path above

pub above_push : (path : List Piece) (p : Piece) → path_above (path ++ p ∷ []) ≡ Some path
above_push [] p = refl
above_push (q ∷ []) p = refl
above_push (q ∷ r ∷ path) p = ap (option_map (λ (above : List Piece). q ∷ above)) (above_push (r ∷ path) p)

pub above_is : (path up : List Piece) → path_above path ≡ Some up → (p : Piece) × (path ≡ up ++ p ∷ [])
above_is [] up is = absurd (none-some up is)
above_is (p ∷ []) up is = (p, ap (λ (above : List Piece). above ++ p ∷ []) (same_Some [] up is))
above_is (p ∷ q ∷ path) up is = go (path_above (q ∷ path)) refl is (above_is (q ∷ path)) where
  go : (o : Option (List Piece)) → path_above (q ∷ path) ≡ o → option_map (λ (above : List Piece). p ∷ above) o ≡ Some up → ((above : List Piece) → path_above (q ∷ path) ≡ Some above → (r : Piece) × (q ∷ path ≡ above ++ r ∷ []))
      → (r : Piece) × (p ∷ q ∷ path ≡ up ++ r ∷ [])
  go None found e rest = absurd (none-some up e)
  go (Some above) found e rest =
      let it = rest above found in
      (it.0, ap (λ (xs : List Piece). p ∷ xs) it.1 ∙ ap (λ (xs : List Piece). xs ++ it.0 ∷ []) (same_Some (p ∷ above) up e))

pub child_path : (path : List Piece) (w : Named) → is_child path w ≡ true → (p : Piece) × (w.path ≡ path ++ p ∷ [])
child_path path w is = go (path_above w.path) refl is where
  go : (o : Option (List Piece)) → path_above w.path ≡ o → option_map_or (same_path path) o false ≡ true → (p : Piece) × (w.path ≡ path ++ p ∷ [])
  go None found e = absurd (both_ways _ refl e)
  go (Some up) found e =
      let it = above_is w.path up found in
      (it.0, it.1 ∙ ap (λ (xs : List Piece). xs ++ it.0 ∷ []) (sym (path_same path up e)))

pub is_child_from : (path : List Piece) (w : Named) (p : Piece) → w.path ≡ path ++ p ∷ [] → is_child path w ≡ true
is_child_from path w p is = ap (λ (o : Option (List Piece)). option_map_or (same_path path) o false) (ap path_above is ∙ above_push path p) ∙ same_path_self path

pub not_empty : (path : List Piece) (p : Piece) → [] ≡ path ++ p ∷ [] → ⊥
not_empty path p e = (let long : 0 ≡ length (path ++ p ∷ []) = ap length e in omega (arith, long, length_push path p))
