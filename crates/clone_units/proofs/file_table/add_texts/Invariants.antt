use Rattle.std.proofs.Common.{◌≡◌, ◌++◌, drop, map}
use Rattle.clone_units.proofs.file_table.add_texts.Given as goal

-- the names so far and those that are left
abbrev pub invariant-loop-dir : goal.invariant-loop-dir
invariant-loop-dir l = l.texts ++ map (λ dir. dir.now) (drop l.dir-index l.dir-items) ≡ l.fn.texts ++ map (λ dir. dir.now) l.dir-items
