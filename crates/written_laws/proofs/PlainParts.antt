-- The parts of an expression, one after the other.
use Rattle.std.proofs.Common.{ℕ, suc, Bool, true, false, List, [], ◌∷◌, ◌++◌, map, Option, refl, ap, ap₂, ◌∙◌, arith}
use Rattle.std.specs.List.{All}
use Rattle.std.proofs.lemmas.List.Concat.{flat_map-append}
use Rattle.dwarf_types.specs.declared.expr.PlainOp.{PlainOp}
use Rattle.dwarf_types.specs.declared.graph.Node.{Node}
use Rattle.dwarf_types.specs.declared.parts.PlainPart.{PlainPart}
use Rattle.dwarf_types.specs.declared.parts.PlainPart.TheVariants as plain
use Rattle.dwarf_types.specs.LinkedExpressions.{joined_plain}
use Rattle.dwarf_types.specs.WholeParts.{AreApart, IsWholeInner, IsWholePlainPart, is_plain_stretch}
use Rattle.expr_walk.specs.Spelling.{Each, IsPlain}
use Rattle.written_laws.specs.ReadParts.{AreCodes, LeadBack, SaysAgain}
use Rattle.written_laws.proofs.BaseTypes.{TypedAgain, typed_again}
use Rattle.written_laws.proofs.Stretches.{BeginsApart, joined_again, stretch_cut}

each_both : (version : ℕ) (xs ys : List PlainOp) → Each (IsPlain version) xs → Each (IsPlain version) ys → Each (IsPlain version) (xs ++ ys)
each_both version [] ys h g = g
each_both version (x ∷ xs) ys h g = (h.0, each_both version xs ys h.1 g)

-- behind a stretch no other begins
behind_stretch : (parts : List PlainPart) → AreApart (true ∷ map is_plain_stretch parts) → BeginsApart parts
behind_stretch [] h = tt
behind_stretch (plain.Plain bytes ∷ parts) h = absurd h
behind_stretch (plain.Typed code before base after ∷ parts) h = tt

apart_behind : (b : Bool) (bs : List Bool) → AreApart (b ∷ bs) → AreApart bs
apart_behind true [] h = tt
apart_behind true (true ∷ bs) h = absurd h
apart_behind true (false ∷ bs) h = h
apart_behind false bs h = h

module _ (nodes : List Node) (place : ℕ → ℕ) (node : ℕ → Option ℕ) (version : ℕ) (lead : LeadBack nodes place node) where
  again : (parts : List PlainPart) → All (IsWholePlainPart nodes) parts → AreApart (map is_plain_stretch parts) → AreCodes parts → SaysAgain place node version parts
  again [] each apart codes = record { ops = []; whole = refl; each = tt; back = refl }
  again (plain.Plain bytes ∷ parts) each apart codes =
      let c = stretch_cut version bytes (each 0 (plain.Plain bytes) (omega arith)) in
      let r = again parts (λ i d within. each (suc i) d (omega (arith, within))) (apart_behind true (map is_plain_stretch parts) apart) codes.1 in
      record {
        ops = c.ops ++ r.ops;
        whole = flat_map-append (λ (op : PlainOp). op.bytes) c.ops r.ops ∙ ap₂ (λ (xs ys : List ℕ). xs ++ ys) c.whole r.whole;
        each = each_both version c.ops r.ops c.each r.each;
        back = joined_again node c.ops r.ops parts c.none c.some r.back (behind_stretch parts apart) ∙ ap (λ (b : List ℕ). plain.Plain b ∷ parts) c.whole;
      }
  again (plain.Typed code before base after ∷ parts) each apart codes =
      let t : TypedAgain place node version code before base after = typed_again nodes place node lead version code before base after codes.0 (each 0 (plain.Typed code before base after) (omega arith)) in
      let r = again parts (λ i d within. each (suc i) d (omega (arith, within))) (apart_behind false (map is_plain_stretch parts) apart) codes.1 in
      record {
        ops = t.op ∷ r.ops;
        whole = ap₂ (λ (xs ys : List ℕ). xs ++ ys) t.is r.whole;
        each = (t.plain_it_is, r.each);
        back = ap₂ (λ (p : PlainPart) (ps : List PlainPart). joined_plain p ps) t.says r.back;
      }

  pub says_again : (inner : List PlainPart) → IsWholeInner nodes inner → AreCodes inner → SaysAgain place node version inner
  says_again inner w codes = again inner w.each w.apart codes
