use Rattle.std.proofs.Common.{◌≡◌, ℕ, List, [], ◌++◌, drop, fold, map}
use Rattle.ds_base.specs.Texts.{with_text}
use Rattle.text_pool.specs.Joins.{IsJoining, place_in}
use Rattle.text_pool.proofs.joining.join_names.Given as goal

-- the texts of the part that are left come next, and the places are those of the others
abbrev pub invariant-loop-i : goal.invariant-loop-i
invariant-loop-i l = (all rest : List (List ℕ)) → IsJoining all (l.names ++ rest) l.fn.shards l.fn.section
    → IsJoining all (drop l.i l.names ++ rest) l.shards l.section × (l.places ++ map (place_in (fold with_text [] all)) (drop l.i l.names) ≡ map (place_in (fold with_text [] all)) l.names)
