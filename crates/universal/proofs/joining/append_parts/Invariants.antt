use Rattle.std.proofs.Common.{◌≡◌, take}
use Rattle.universal.specs.Joined.{unheaded}
use Rattle.universal.proofs.joining.append_parts.Given as goal

-- the parts up to here stand behind the page
abbrev pub invariant-loop-part : goal.invariant-loop-part
invariant-loop-part l = l.file ≡ unheaded (take l.part-index l.parts)
