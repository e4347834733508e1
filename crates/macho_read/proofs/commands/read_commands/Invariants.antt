use Rattle.std.proofs.Common.{◌≡◌, ◌+◌, ◌-◌, length}
use Rattle.macho_read.specs.Commands.{area_of, commands_of, gathered_of}
use Rattle.macho_read.proofs.Gathering.{adding}
use Rattle.macho_read.proofs.commands.read_commands.Given as goal

-- what is kept of the commands from here on, behind what was kept, is what is kept of all; the area ends where it ended
abbrev pub invariant-loop : goal.invariant-loop
invariant-loop l = (adding l.commands (commands_of (l.fn.header.ncmds - l.counter) l.place l.area) ≡ gathered_of (commands_of l.fn.header.ncmds 32 (area_of l.fn.header l.bytes))) × (l.place + length l.area ≡ 32 + l.fn.header.sizeofcmds)
