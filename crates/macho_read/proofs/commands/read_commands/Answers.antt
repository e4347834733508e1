use Rattle.std.proofs.Common.{◌≡◌, ◌-◌, arith}
use Rattle.std.proofs.lemmas.Result.{err_from_is_err_and}
use Rattle.macho_read.proofs.Gathering.{adding_first, commands_more, commands_fail, commands_end}
use Rattle.macho_read.proofs.commands.read_commands.Goals as goal

pub loop-init : goal.loop-init
loop-init c =
    let whole : c.args.header.ncmds - 0 ≡ c.args.header.ncmds = omega arith in
    (rw (whole, c.new.ensures, c.new-2.ensures, c.from-place.ensures, c.cut-area.ensures.is) (adding_first _), omega (arith, c.cut-area.ensures.len, c.from-place.ensures))

pub returns-in_err-command : goal.returns-in_err-command
returns-in_err-command c =
    let p = err_from_is_err_and c.from_residual.result c.from_residual.ensures.1 in
    rw (p.1, p.2) (commands_fail c.args.header.ncmds c.loop.counter c.loop.place c.loop.area.now c.loop.commands _ _ (omega arith) c.in_err-command.ensures.read c.loop.invariant.0)

pub loop-preserved : goal.loop-preserved
loop-preserved c = (
  rw (c.bytes_from-area.ensures.is, c.in_ok-take_command.ensures)
      (commands_more c.args.header.ncmds c.loop.counter c.loop.place c.loop.area.now c.loop.commands c.in_ok-command.command.now _ (omega arith) c.in_ok-command.ensures.read c.loop.invariant.0),
  omega (arith, c.loop.invariant.1, c.bytes_from-area.ensures.len),
)

pub returns : goal.returns
returns c = commands_end c.args.header.ncmds c.loop.counter c.loop.place c.loop.area.now c.loop.commands _ c.loop-test.false c.loop.invariant.0
