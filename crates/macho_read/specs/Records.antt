-- The records of commands, each cut at the offsets of mach-o/loader.h from its first byte on.
use Rattle.std.specs.Prelude.{ℕ, List, take, drop}
use Rattle.macho_read.specs.declared.image.Segment.{Segment}
use Rattle.macho_read.specs.declared.image.Section.{Section}
use Rattle.macho_read.specs.declared.records.Symtab.{Symtab}
use Rattle.macho_read.specs.Fields.{number_of, name_of}

-- segment_command_64: cmd, cmdsize, segname, vmaddr, vmsize, fileoff, filesize, maxprot, initprot, nsects, flags
unfoldable pub segment_of : List ℕ → Segment
segment_of command =
    record {
      name = name_of 8 command;
      vmaddr = number_of 8 24 command;
      vmsize = number_of 8 32 command;
      maxprot = number_of 4 56 command;
      initprot = number_of 4 60 command;
      flags = number_of 4 68 command;
      sections = number_of 4 64 command;
    }

-- section_64: sectname, segname, addr, size, offset, align, reloff, nreloc, flags, reserved1, reserved2, reserved3
unfoldable pub section_of : List ℕ → Section
section_of bytes =
    record {
      name = name_of 0 bytes;
      segment = name_of 16 bytes;
      addr = number_of 8 32 bytes;
      size = number_of 8 40 bytes;
      offset = number_of 4 48 bytes;
      align = number_of 4 52 bytes;
      reloff = number_of 4 56 bytes;
      nreloc = number_of 4 60 bytes;
      flags = number_of 4 64 bytes;
      reserved1 = number_of 4 68 bytes;
      reserved2 = number_of 4 72 bytes;
      reserved3 = number_of 4 76 bytes;
    }

-- symtab_command: cmd, cmdsize, symoff, nsyms, stroff, strsize
unfoldable pub symtab_of : List ℕ → Symtab
symtab_of command =
    record {
      symoff = number_of 4 8 command;
      nsyms = number_of 4 12 command;
      stroff = number_of 4 16 command;
      strsize = number_of 4 20 command;
    }

-- uuid_command: cmd, cmdsize, uuid
unfoldable pub uuid_of : List ℕ → List ℕ
uuid_of command = take 16 (drop 8 command)
