use Rattle.std.proofs.Common.{◌≡◌, ◌++◌, take}
use Rattle.std.specs.List.{flat_map}
use Rattle.link_cli.specs.Texts.{entry_text}
use Rattle.link_cli.proofs.texts.push_entries.Given as goal

-- the texts of the entries so far
abbrev pub invariant-loop-entry : goal.invariant-loop-entry
invariant-loop-entry l = l.text ≡ l.fn.text ++ flat_map entry_text (take l.entry-index l.entries)
