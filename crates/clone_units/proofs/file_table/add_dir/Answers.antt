use Rattle.std.proofs.Common.{List, ℕ, ap, map, ◌∙◌}
use Rattle.std.specs.Str.{bytes_eq}
use denote.Ref.{Bor}
use Rattle.clone_units.proofs.FirstUses.{insert_key-map}
use Rattle.clone_units.proofs.file_table.add_dir.Goals as goal

pub returns : goal.returns
returns c = ap (map (λ (dir : Bor (List ℕ)). dir.now)) c.in_ok-insert.ensures.keys ∙ insert_key-map (λ (dir : Bor (List ℕ)). dir.now) bytes_eq c.args.dirs.now.keys c.args.dir
