-- The line that tells how a link ended.
use Rattle.std.specs.Prelude.{ℕ, ◌-◌, ◌==◌, List, [], ◌∷◌, ◌++◌, codes, decimal, slice_get, if◌then◌else◌}
use Rattle.std.specs.Option.{option_map_or}
use Rattle.ds_base.specs.declared.fault.Fault.{Fault}
use Rattle.ds_base.specs.declared.fault.Kind.{Kind}
use Rattle.ds_base.specs.declared.fault.Kind.TheVariants as kinds
use Rattle.ds_base.specs.declared.fault.Part.{Part}
use Rattle.ds_base.specs.declared.fault.Part.TheVariants as parts
use Rattle.stab_map.specs.declared.object.MapObject.{MapObject}
use Rattle.link_status.specs.declared.refusal.LimitKind.{LimitKind}
use Rattle.link_status.specs.declared.refusal.LimitKind.TheVariants as limits
use Rattle.link_status.specs.declared.status.Status.{Status}
use Rattle.link_status.specs.declared.status.Status.TheVariants as statuses
use Rattle.link_status.specs.Names.{image_name, plist_name}

-- ---- words

abbrev pub kind_text : Kind → List ℕ
kind_text kinds.Truncated = codes "Truncated"
kind_text kinds.LebTooWide = codes "LebTooWide"
kind_text kinds.NotMachO = codes "NotMachO"
kind_text kinds.WrongCpu = codes "WrongCpu"
kind_text kinds.BadFileType = codes "BadFileType"
kind_text kinds.BadCommand = codes "BadCommand"
kind_text kinds.AlreadyLinked = codes "AlreadyLinked"
kind_text kinds.BadSection = codes "BadSection"
kind_text kinds.CompressedSection = codes "CompressedSection"
kind_text kinds.BadSymbols = codes "BadSymbols"
kind_text kinds.NotArchive = codes "NotArchive"
kind_text kinds.BadMember = codes "BadMember"
kind_text kinds.NoMember = codes "NoMember"
kind_text kinds.BadStab = codes "BadStab"
kind_text kinds.BadPath = codes "BadPath"
kind_text kinds.RelocKind = codes "RelocKind"
kind_text kinds.RelocPlace = codes "RelocPlace"
kind_text kinds.RelocSymbol = codes "RelocSymbol"
kind_text kinds.RelocOverlap = codes "RelocOverlap"
kind_text kinds.BadAbbrev = codes "BadAbbrev"
kind_text kinds.DuplicateCode = codes "DuplicateCode"
kind_text kinds.LimitAttributes = codes "LimitAttributes"
kind_text kinds.UnsupportedVersion = codes "UnsupportedVersion"
kind_text kinds.BadUnit = codes "BadUnit"
kind_text kinds.SplitUnit = codes "SplitUnit"
kind_text kinds.UnknownCode = codes "UnknownCode"
kind_text kinds.UnclosedSiblings = codes "UnclosedSiblings"
kind_text kinds.LimitDepth = codes "LimitDepth"
kind_text kinds.LimitEntries = codes "LimitEntries"
kind_text kinds.UnknownForm = codes "UnknownForm"
kind_text kinds.FormOutsideProfile = codes "FormOutsideProfile"
kind_text kinds.BadOffset = codes "BadOffset"
kind_text kinds.BadReference = codes "BadReference"
kind_text kinds.UnknownOp = codes "UnknownOp"
kind_text kinds.OpOutsideProfile = codes "OpOutsideProfile"
kind_text kinds.BranchOverRewrite = codes "BranchOverRewrite"
kind_text kinds.BadOperandType = codes "BadOperandType"
kind_text kinds.LongExpression = codes "LongExpression"
kind_text kinds.LineVersion = codes "LineVersion"
kind_text kinds.BadLineHeader = codes "BadLineHeader"
kind_text kinds.VliwLine = codes "VliwLine"
kind_text kinds.BadLineOp = codes "BadLineOp"
kind_text kinds.LineBackwards = codes "LineBackwards"
kind_text kinds.BadList = codes "BadList"
kind_text kinds.BadFrame = codes "BadFrame"
kind_text kinds.BadIndex = codes "BadIndex"
kind_text kinds.BadEntryFormat = codes "BadEntryFormat"
kind_text kinds.UnknownListEntry = codes "UnknownListEntry"
kind_text kinds.BadOutput = codes "BadOutput"
kind_text kinds.BadTable = codes "BadTable"
kind_text kinds.BadUniversal = codes "BadUniversal"

abbrev pub part_text : Part → List ℕ
part_text parts.Header = codes "header"
part_text parts.Commands = codes "commands"
part_text parts.Symbols = codes "symbols"
part_text parts.Archive = codes "archive"
part_text parts.Map = codes "map"
part_text parts.Info = codes "__debug_info"
part_text parts.Abbrev = codes "__debug_abbrev"
part_text parts.Str = codes "__debug_str"
part_text parts.StrOffs = codes "__debug_str_offs"
part_text parts.Addr = codes "__debug_addr"
part_text parts.Line = codes "__debug_line"
part_text parts.LineStr = codes "__debug_line_str"
part_text parts.Ranges = codes "__debug_ranges"
part_text parts.Rnglists = codes "__debug_rnglists"
part_text parts.Loc = codes "__debug_loc"
part_text parts.Loclists = codes "__debug_loclists"
part_text parts.Aranges = codes "__debug_aranges"
part_text parts.Frame = codes "__debug_frame"
part_text parts.AppleNames = codes "__apple_names"
part_text parts.AppleTypes = codes "__apple_types"
part_text parts.AppleNamespac = codes "__apple_namespac"

abbrev pub limit_text : LimitKind → List ℕ
limit_text limits.Objects = codes "Objects"
limit_text limits.Input = codes "Input"
limit_text limits.Pooled = codes "Pooled"
limit_text limits.Unit = codes "Unit"
limit_text limits.Section = codes "Section"
limit_text limits.File = codes "File"

-- the words of the command
abbrev pub usage : List ℕ
usage = codes "usage: dsymlink [-o OUT] [-j N] [--no-odr] [--keep-going] [--statistics] [--dump-map] [--generate N] EXE"

-- ---- names

-- the name of the file of a number: 0 is the program, and its objects follow; a number behind them has none
abbrev pub name_of : (MapObject → List ℕ) → List ℕ → List MapObject → ℕ → List ℕ
name_of name exe objects file = if file == 0 then exe else option_map_or name (slice_get objects (file - 1)) []

-- the name of the file that was to be read, which may be an archive
abbrev pub read_name : List ℕ → List MapObject → ℕ → List ℕ
read_name exe objects file = name_of (λ object. object.file) exe objects file

-- the program, or the path of an object as it stands in the program
abbrev pub whole_name : List ℕ → List MapObject → ℕ → List ℕ
whole_name exe objects file = name_of (λ object. object.path) exe objects file

-- the name of the bundle's file of a number: 0 is Info.plist, and 1 the image
abbrev pub written_name : List ℕ → List ℕ → ℕ → List ℕ
written_name exe out file = if file == 0 then plist_name out else image_name out exe

-- ---- lines

-- a text as a line of the program
abbrev pub line : List ℕ → List ℕ
line text = codes "dsymlink: " ++ (text ++ 0x0a ∷ [])

-- where a fault is
abbrev pub fault_text : Fault → List ℕ
fault_text fault = kind_text fault.kind ++ (codes " in " ++ (part_text fault.section ++ (codes " at " ++ decimal fault.place)))

-- The line of a status, for a program, its bundle and its objects. There is none where the link is done, where memory ran out, and where the message could not be put out.
abbrev pub status_line : Status → List ℕ → List ℕ → List MapObject → List ℕ
status_line statuses.Done exe out objects = []
status_line statuses.Usage exe out objects = line usage
status_line (statuses.Missing file) exe out objects = line (codes "missing: " ++ read_name exe objects file)
status_line (statuses.ReadFault file) exe out objects = line (codes "read fault: " ++ read_name exe objects file)
status_line (statuses.Faulty file fault) exe out objects = line (codes "faulty: " ++ (whole_name exe objects file ++ (codes ": " ++ fault_text fault)))
status_line (statuses.Limit which number) exe out objects = line (codes "limit: " ++ (limit_text which ++ (codes " " ++ decimal number)))
status_line (statuses.WriteFault file) exe out objects = line (codes "write fault: " ++ written_name exe out file)
status_line statuses.NoMemory exe out objects = []
status_line statuses.MessageFault exe out objects = []
