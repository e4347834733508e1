use Rattle.std.proofs.Common.{arith}
use Rattle.dwarf_types.specs.Encode.{encode}
use Rattle.dsym_write.proofs.TheFile.{added_size, file_written, front_before, front_length}
use Rattle.dsym_write.proofs.Told.{graph_told}
use Rattle.dsym_write.proofs.image.write_image.Goals as goal

pub emit_front-at-requires : goal.emit_front-at-requires
emit_front-at-requires g c =
    let told = graph_told c.requires.measured.graph c.args.layout.now c.requires.measured.measured in
    omega (
      arith,
      front_length c.args.program.now (encode c.requires.measured.graph) c.args.layout.now c.args.places c.requires.sound c.requires.places told c.args.commands.now c.requires.commands,
      front_before c.args.program.now (encode c.requires.measured.graph) c.args.layout.now c.args.places c.requires.sound c.requires.places told c.args.commands.now c.requires.commands,
      c.requires.places.size,
      c.requires.size,
    )

pub emit_zeros-at-requires-clause-behind : goal.emit_zeros-at-requires-clause-behind
emit_zeros-at-requires-clause-behind g c =
    let told = graph_told c.requires.measured.graph c.args.layout.now c.requires.measured.measured in
    omega (
      arith,
      front_length c.args.program.now (encode c.requires.measured.graph) c.args.layout.now c.args.places c.requires.sound c.requires.places told c.args.commands.now c.requires.commands,
      front_before c.args.program.now (encode c.requires.measured.graph) c.args.layout.now c.args.places c.requires.sound c.requires.places told c.args.commands.now c.requires.commands,
      c.emit_front-at.ensures.behind,
    )

pub add_sections-requires-clause-size : goal.add_sections-requires-clause-size
add_sections-requires-clause-size g c κs within = λ graph measured.
    let told = graph_told graph c.args.layout.now measured in
    added_size c.args.program.now (encode graph) c.args.layout.now c.args.places c.requires.sound c.requires.places told c.args.commands.now c.requires.commands _ _ _ _ _ c.requires.size c.emit_front-at.ensures c.emit_zeros-at.ensures

pub returns : goal.returns
returns g c = λ graph measured.
    let told = graph_told graph c.args.layout.now measured in
    file_written c.args.program.now (encode graph) c.args.layout.now c.args.places c.requires.sound c.requires.places told c.args.commands.now c.requires.commands _ _ _ _ _ c.requires.size c.emit_front-at.ensures c.emit_zeros-at.ensures _ _ (c.add_sections.ensures graph measured)
