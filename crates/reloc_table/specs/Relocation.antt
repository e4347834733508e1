-- A relocation of a debug section (mach-o/reloc.h), or what is wrong with it.
use Rattle.std.specs.Prelude.{ℕ, ◌+◌, ◌/◌, ◌%◌, ◌^◌, ◌==◌, ◌&&◌, not, Bool, List, length, Result, Ok, nat_lt, nat_le}
use Rattle.ds_base.specs.declared.fault.Fault.{Fault}
use Rattle.ds_base.specs.declared.fault.Kind.{Kind}
use Rattle.ds_base.specs.declared.fault.Kind.TheVariants as kinds
use Rattle.ds_base.specs.declared.fault.Part.{Part}
use Rattle.ds_base.specs.MachONumbers.{R_SCATTERED, RELOC_LENGTH_8, X86_64_RELOC_UNSIGNED}
use Rattle.ds_base.specs.Reading.{◌>>=◌, refuse_if}
use Rattle.macho_read.specs.declared.image.Image.{Image}
use Rattle.macho_read.specs.declared.image.Section.{Section}
use Rattle.macho_read.specs.Fields.{number_of}
use Rattle.reloc_table.specs.declared.relocation.Reloc.{Reloc}
use Rattle.reloc_table.specs.declared.relocation.RelocationInfo.{RelocationInfo}
use Rattle.ds_base.specs.DwarfNumbers.{ADDRESS_SIZE}

-- relocation_info: r_address, and then in one word from the low bit on r_symbolnum (24 bits), r_pcrel (1), r_length (2), r_extern (1), r_type (4)
unfoldable pub info_of : List ℕ → RelocationInfo
info_of entry =
    record {
      address = number_of 4 0 entry;
      symbolnum = number_of 4 4 entry % 2 ^ 24;
      pcrel = number_of 4 4 entry / 2 ^ 24 % 2 == 1;
      length = number_of 4 4 entry / 2 ^ 25 % 4;
      outer = number_of 4 4 entry / 2 ^ 27 % 2 == 1;
      kind = number_of 4 4 entry / 2 ^ 28;
    }

-- it is of 8 bytes and absolute, and not scattered; the type has one number on both CPUs
abbrev pub is_plain : RelocationInfo → Bool
is_plain info = nat_lt info.address R_SCATTERED && info.kind == X86_64_RELOC_UNSIGNED && info.length == RELOC_LENGTH_8 && not info.pcrel

-- the relocation of an index in the section that is a part of the file
abbrev pub reloc_fault : Part → Kind → ℕ → Fault
reloc_fault part kind index = record { kind = kind; section = part; place = index }

-- the relocation whose entry some bytes begin with
unfoldable pub reloc_of : Image → Section → Part → ℕ → List ℕ → Result Reloc Fault
reloc_of image section part index entry = do
  _ ← refuse_if (not (is_plain (info_of entry))) (reloc_fault part kinds.RelocKind index)
  _ ← refuse_if (nat_lt section.size ((info_of entry).address + ADDRESS_SIZE)) (reloc_fault part kinds.RelocPlace index)
  _ ← refuse_if ((info_of entry).outer && nat_le (length image.symbols) (info_of entry).symbolnum) (reloc_fault part kinds.RelocSymbol index)
  Ok (record { place = (info_of entry).address; symbol = (info_of entry).symbolnum; outer = (info_of entry).outer })
