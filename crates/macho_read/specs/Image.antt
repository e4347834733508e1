-- The image of a file's bytes, or the first fault in the order header, commands, symbols.
use Rattle.std.specs.Prelude.{ℕ, List, Result, Ok}
use Rattle.ds_base.specs.declared.fault.Fault.{Fault}
use Rattle.ds_base.specs.MachONumbers.{MACH_HEADER_64_SIZE}
use Rattle.ds_base.specs.Reading.{◌>>=◌}
use Rattle.macho_read.specs.declared.image.Image.{Image}
use Rattle.macho_read.specs.Header.{header_of}
use Rattle.macho_read.specs.Commands.{commands_of, area_of, gathered_of}
use Rattle.macho_read.specs.Symbols.{symbols_of}

unfoldable pub image_of : List ℕ → Result Image Fault
image_of bytes = do
  header ← header_of bytes
  commands ← gathered_of (commands_of header.ncmds MACH_HEADER_64_SIZE (area_of header bytes))
  symbols ← symbols_of commands.symtab bytes
  Ok
      (record {
        cpu = header.cpu;
        sub = header.sub;
        filetype = header.filetype;
        uuid = commands.uuid;
        segments = commands.segments;
        sections = commands.sections;
        symbols = symbols;
      })
