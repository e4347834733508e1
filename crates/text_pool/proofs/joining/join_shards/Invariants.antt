use Rattle.std.proofs.Common.{◌≡◌, [], ◌++◌, drop, fold, map}
use Rattle.ds_base.specs.Texts.{with_text}
use Rattle.text_pool.specs.Joins.{IsJoining, place_in}
use Rattle.text_pool.specs.Shards.{texts_in}
use Rattle.text_pool.proofs.joining.join_shards.Given as goal

-- the texts of the parts that are left come next, and the places are those of the others
abbrev pub invariant-loop-names : goal.invariant-loop-names
invariant-loop-names l = record {
  joining : IsJoining (texts_in l.parts) (texts_in (drop l.names-index l.parts)) l.shards l.section;
  told : l.places ++ map (λ names. map (place_in (fold with_text [] (texts_in l.parts))) names.now) (drop l.names-index l.parts) ≡ map (λ names. map (place_in (fold with_text [] (texts_in l.parts))) names.now) l.parts;
}
