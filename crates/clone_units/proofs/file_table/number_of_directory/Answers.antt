use Rattle.std.proofs.Common.{ℕ, ◌+◌, List, Option, sym, ap, ◌∙◌}
use Rattle.std.specs.Option.{option_map_or}
use Rattle.std.specs.Str.{bytes_eq}
use denote.Ref.{Bor}
use Rattle.clone_units.proofs.FirstUses.{position-map}
use Rattle.clone_units.proofs.file_table.number_of_directory.Goals as goal

pub returns-in-Some : goal.returns-in-Some
returns-in-Some c =
    ap (λ (o : Option ℕ). option_map_or (λ (i : ℕ). i + 1) o 0) (c.in-Some.ensures.index ∙ sym (position-map (λ (dir : Bor (List ℕ)). dir.now) (bytes_eq c.args.dir.now) c.args.dirs.now.keys))

pub returns-in-None : goal.returns-in-None
returns-in-None c =
    ap (λ (o : Option ℕ). option_map_or (λ (i : ℕ). i + 1) o 0) (c.in-None.ensures.index ∙ sym (position-map (λ (dir : Bor (List ℕ)). dir.now) (bytes_eq c.args.dir.now) c.args.dirs.now.keys))
