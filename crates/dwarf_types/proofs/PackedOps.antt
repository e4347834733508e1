-- What packed operations stand for, as their columns grow.
use Rattle.std.proofs.Common.{◌≡◌, ◌<◌, Bool, true, false, List, [], ◌∷◌, ◌++◌, map, length, get_or, All, refl, arith}
use Rattle.std.specs.Prelude.{if◌then◌else◌}
use Rattle.std.proofs.lemmas.List.{get_or_push}
use Rattle.dwarf_types.specs.declared.packed_op.PackedOp.{PackedOp}
use Rattle.dwarf_types.specs.declared.sides.OpRow.{OpRow}
use Rattle.dwarf_types.specs.Cells.{Begins}
use Rattle.dwarf_types.specs.PackedOps.{RowWithin, own_row, row_of, wide_at}
use Rattle.dwarf_types.proofs.Kept.{get_begins, longer}
use Rattle.dwarf_types.proofs.LineRows.{Keeps, means_put}

row_kept : (old new : List OpRow) → Begins old new → (p : PackedOp) → RowWithin old p → row_of new p ≡ row_of old p
row_kept old new b p w = kept p.is_wide w.1 where
  kept : (wide : Bool) → (wide ≡ true → p.from < length old)
      → (if wide then get_or new p.from (own_row p) else own_row p) ≡ (if wide then get_or old p.from (own_row p) else own_row p)
  kept true lt = get_begins old new p.from (own_row p) b (lt refl)
  kept false lt = refl

packed_keep : Keeps row_of RowWithin
packed_keep = record {
  same = row_kept;
  within = λ old new b p w. let more = longer old new b in (w.0, λ is. let lt : p.from < length old = w.1 is in omega arith);
}

-- a wide one, behind the others, and what stands for it
module _ (wide : List OpRow) (row : OpRow) (packed : List PackedOp) (are : All (RowWithin wide) packed) where
  pub wide_put : map (row_of (wide ++ row ∷ [])) (packed ++ wide_at (length wide) ∷ []) ≡ map (row_of wide) packed ++ row ∷ []
  wide_put = means_put row_of RowWithin packed_keep wide (wide ++ row ∷ []) (row ∷ [], refl) packed are (wide_at (length wide)) row (get_or_push wide row (own_row (wide_at (length wide))) (length wide) refl)
