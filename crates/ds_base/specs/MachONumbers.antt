-- The numbers of Mach-O under the names of Apple's headers.
use Rattle.std.specs.Prelude.{ℕ, ◌-◌, List, [], ◌∷◌, ◌++◌, codes, length, replicate}

-- a name of a segment or a section, with zeros behind it up to 16 bytes
abbrev pub padded : List ℕ → List ℕ
padded name = name ++ replicate (16 - length name) 0

-- mach-o/loader.h: the header of a 64-bit file.
abbrev pub MH_MAGIC_64 : ℕ
MH_MAGIC_64 = 0xfeedfacf

abbrev pub MH_OBJECT : ℕ
MH_OBJECT = 1

abbrev pub MH_EXECUTE : ℕ
MH_EXECUTE = 2

abbrev pub MH_DYLIB : ℕ
MH_DYLIB = 6

abbrev pub MH_BUNDLE : ℕ
MH_BUNDLE = 8

abbrev pub MH_DSYM : ℕ
MH_DSYM = 10

-- mach/machine.h: the CPU types that are read.
abbrev pub CPU_TYPE_X86_64 : ℕ
CPU_TYPE_X86_64 = 0x01000007

abbrev pub CPU_TYPE_ARM64 : ℕ
CPU_TYPE_ARM64 = 0x0100000c

-- mach-o/loader.h: load commands.
abbrev pub LC_SYMTAB : ℕ
LC_SYMTAB = 0x02

abbrev pub LC_SEGMENT_64 : ℕ
LC_SEGMENT_64 = 0x19

abbrev pub LC_UUID : ℕ
LC_UUID = 0x1b

-- mach-o/loader.h, mach-o/nlist.h, mach-o/reloc.h, ar.h: sizes of records in bytes.
abbrev pub MACH_HEADER_64_SIZE : ℕ
MACH_HEADER_64_SIZE = 32

abbrev pub SEGMENT_COMMAND_64_SIZE : ℕ
SEGMENT_COMMAND_64_SIZE = 72

abbrev pub SECTION_64_SIZE : ℕ
SECTION_64_SIZE = 80

abbrev pub SYMTAB_COMMAND_SIZE : ℕ
SYMTAB_COMMAND_SIZE = 24

abbrev pub UUID_COMMAND_SIZE : ℕ
UUID_COMMAND_SIZE = 24

abbrev pub NLIST_64_SIZE : ℕ
NLIST_64_SIZE = 16

abbrev pub RELOCATION_INFO_SIZE : ℕ
RELOCATION_INFO_SIZE = 8

abbrev pub AR_HDR_SIZE : ℕ
AR_HDR_SIZE = 60

-- mach-o/fat.h: what a universal file begins with, and the sizes of its header and of a record in bytes. Its numbers have the highest byte first.
abbrev pub FAT_MAGIC : ℕ
FAT_MAGIC = 0xcafebabe

abbrev pub FAT_HEADER_SIZE : ℕ
FAT_HEADER_SIZE = 8

abbrev pub FAT_ARCH_SIZE : ℕ
FAT_ARCH_SIZE = 20

-- mach/machine.h: the bits of a CPU subtype that say what the code may do, and not which CPU it is for.
abbrev pub CPU_SUBTYPE_MASK : ℕ
CPU_SUBTYPE_MASK = 0xff000000

-- mach-o/loader.h: names of segments and sections, padded with zeros to 16 bytes.
abbrev pub SEG_TEXT : List ℕ
SEG_TEXT = padded (codes "__TEXT")

abbrev pub SEG_DWARF : List ℕ
SEG_DWARF = padded (codes "__DWARF")

abbrev pub SECT_TEXT : List ℕ
SECT_TEXT = padded (codes "__text")

abbrev pub SECT_DEBUG_ABBREV : List ℕ
SECT_DEBUG_ABBREV = padded (codes "__debug_abbrev")

abbrev pub SECT_DEBUG_INFO : List ℕ
SECT_DEBUG_INFO = padded (codes "__debug_info")

abbrev pub SECT_DEBUG_STR : List ℕ
SECT_DEBUG_STR = padded (codes "__debug_str")

abbrev pub SECT_DEBUG_STR_OFFS : List ℕ
SECT_DEBUG_STR_OFFS = padded (codes "__debug_str_offs")

abbrev pub SECT_DEBUG_ADDR : List ℕ
SECT_DEBUG_ADDR = padded (codes "__debug_addr")

abbrev pub SECT_DEBUG_LINE : List ℕ
SECT_DEBUG_LINE = padded (codes "__debug_line")

abbrev pub SECT_DEBUG_LINE_STR : List ℕ
SECT_DEBUG_LINE_STR = padded (codes "__debug_line_str")

abbrev pub SECT_DEBUG_RANGES : List ℕ
SECT_DEBUG_RANGES = padded (codes "__debug_ranges")

abbrev pub SECT_DEBUG_RNGLISTS : List ℕ
SECT_DEBUG_RNGLISTS = padded (codes "__debug_rnglists")

abbrev pub SECT_DEBUG_LOC : List ℕ
SECT_DEBUG_LOC = padded (codes "__debug_loc")

abbrev pub SECT_DEBUG_LOCLISTS : List ℕ
SECT_DEBUG_LOCLISTS = padded (codes "__debug_loclists")

abbrev pub SECT_DEBUG_ARANGES : List ℕ
SECT_DEBUG_ARANGES = padded (codes "__debug_aranges")

abbrev pub SECT_DEBUG_FRAME : List ℕ
SECT_DEBUG_FRAME = padded (codes "__debug_frame")

abbrev pub SECT_APPLE_NAMES : List ℕ
SECT_APPLE_NAMES = padded (codes "__apple_names")

abbrev pub SECT_APPLE_TYPES : List ℕ
SECT_APPLE_TYPES = padded (codes "__apple_types")

abbrev pub SECT_APPLE_NAMESPACES : List ℕ
SECT_APPLE_NAMESPACES = padded (codes "__apple_namespac")

-- What the name of each compressed debug section begins with.
abbrev pub SECT_ZDEBUG : List ℕ
SECT_ZDEBUG = codes "__zdebug"

-- mach-o/loader.h: a type, which is the lowest byte of a section's flags, and attributes there.
abbrev pub S_ZEROFILL : ℕ
S_ZEROFILL = 0x01

abbrev pub S_ATTR_DEBUG : ℕ
S_ATTR_DEBUG = 0x02000000

-- mach/vm_prot.h: protections of a segment.
abbrev pub VM_PROT_READ : ℕ
VM_PROT_READ = 0x01

abbrev pub VM_PROT_WRITE : ℕ
VM_PROT_WRITE = 0x02

abbrev pub VM_PROT_EXECUTE : ℕ
VM_PROT_EXECUTE = 0x04

-- Reading, writing and running.
abbrev pub VM_PROT_ALL : ℕ
VM_PROT_ALL = 0x07

-- Reading and writing.
abbrev pub VM_PROT_DEFAULT : ℕ
VM_PROT_DEFAULT = 0x03

-- mach-o/nlist.h: the fields and the values of a symbol's n_type.
abbrev pub N_STAB : ℕ
N_STAB = 0xe0

abbrev pub N_TYPE : ℕ
N_TYPE = 0x0e

abbrev pub N_EXT : ℕ
N_EXT = 0x01

abbrev pub N_UNDF : ℕ
N_UNDF = 0x00

abbrev pub N_ABS : ℕ
N_ABS = 0x02

abbrev pub N_SECT : ℕ
N_SECT = 0x0e

-- mach-o/stab.h: the kinds of stabs.
abbrev pub N_GSYM : ℕ
N_GSYM = 0x20

abbrev pub N_FUN : ℕ
N_FUN = 0x24

abbrev pub N_STSYM : ℕ
N_STSYM = 0x26

abbrev pub N_LCSYM : ℕ
N_LCSYM = 0x28

abbrev pub N_BNSYM : ℕ
N_BNSYM = 0x2e

abbrev pub N_AST : ℕ
N_AST = 0x32

abbrev pub N_ENSYM : ℕ
N_ENSYM = 0x4e

abbrev pub N_SO : ℕ
N_SO = 0x64

abbrev pub N_OSO : ℕ
N_OSO = 0x66

-- mach-o/x86_64/reloc.h and mach-o/arm64/reloc.h: the plain relocation, and the length of 8 bytes in powers of two (mach-o/reloc.h).
abbrev pub X86_64_RELOC_UNSIGNED : ℕ
X86_64_RELOC_UNSIGNED = 0

abbrev pub ARM64_RELOC_UNSIGNED : ℕ
ARM64_RELOC_UNSIGNED = 0

abbrev pub RELOC_LENGTH_8 : ℕ
RELOC_LENGTH_8 = 3

-- mach-o/reloc.h: the bit of `r_address` that is set in a scattered relocation.
abbrev pub R_SCATTERED : ℕ
R_SCATTERED = 0x80000000

-- ar.h: the bytes an archive begins with, those that end a member's header, and those that a long name's length follows.
abbrev pub ARMAG : List ℕ
ARMAG = 0x21 ∷ 0x3c ∷ 0x61 ∷ 0x72 ∷ 0x63 ∷ 0x68 ∷ 0x3e ∷ 0x0a ∷ []

abbrev pub ARFMAG : List ℕ
ARFMAG = 0x60 ∷ 0x0a ∷ []

abbrev pub AR_EFMT1 : List ℕ
AR_EFMT1 = codes "#1/"
