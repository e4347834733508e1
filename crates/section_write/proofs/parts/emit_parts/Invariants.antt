use Rattle.std.proofs.Common.{take}
use Rattle.std.specs.List.{flat_map}
use Rattle.ds_base.specs.Room.{Adds}
use Rattle.section_write.specs.Copied.{part_in}
use Rattle.section_write.proofs.parts.emit_parts.Given as goal

abbrev pub invariant-loop-draft : goal.invariant-loop-draft
invariant-loop-draft l = Adds l.fn.room l.start (flat_map (part_in l.part) (take l.draft-index l.drafts)) l.room l.at
