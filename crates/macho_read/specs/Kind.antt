-- Whether an image can be the program, one of its objects, or the image of a bundle: the first fault, if there is one.
use Rattle.std.specs.Prelude.{ℕ, ◌==◌, ◌||◌, not, Bool, List, [], ◌∷◌, take, drop, Option, Some, None, Result, Ok, Err}
use Rattle.std.specs.List.{list_any, position}
use Rattle.ds_base.specs.declared.fault.Fault.{Fault}
use Rattle.ds_base.specs.declared.fault.Kind.TheVariants as kinds
use Rattle.ds_base.specs.declared.fault.Part.TheVariants as parts
use Rattle.ds_base.specs.MachONumbers.{MH_DSYM, MH_OBJECT, SEG_DWARF}
use Rattle.ds_base.specs.Reading.{◌>>=◌, refuse_if}
use Rattle.macho_read.specs.declared.image.Image.{Image}
use Rattle.macho_read.specs.declared.image.Segment.{Segment}
use Rattle.macho_read.specs.declared.image.Section.{Section}
use Rattle.macho_read.specs.declared.kind.Role.{Role}
use Rattle.macho_read.specs.declared.kind.Role.TheVariants as roles
use Rattle.macho_read.specs.Fields.{is_named}
use Rattle.macho_read.specs.Header.{header_fault, is_known_cpu}

-- the segment of an index
abbrev pub already_linked : ℕ → Fault
already_linked k = record { kind = kinds.AlreadyLinked; section = parts.Commands; place = k }

-- one of the sections has the segment name `__DWARF`
abbrev pub has_dwarf : List Section → Bool
has_dwarf sections = list_any (λ s. is_named SEG_DWARF s.segment) sections

-- each segment with its own sections; those of all segments stand one segment after the other
abbrev pub with_sections : List Segment → List Section → List (Segment × List Section)
with_sections [] sections = []
with_sections (segment ∷ others) sections = (segment, take segment.sections sections) ∷ with_sections others (drop segment.sections sections)

-- a segment is named `__DWARF`, or one of its own sections has that segment name
abbrev pub is_dwarf_part : Segment × List Section → Bool
is_dwarf_part segment = is_named SEG_DWARF segment.0.name || has_dwarf segment.1

-- the index of the first such segment
abbrev pub dwarf_at : List Segment → List Section → Option ℕ
dwarf_at segments sections = position is_dwarf_part (with_sections segments sections)

-- there is none
abbrev pub not_linked : Option ℕ → Result (Unit {0}) Fault
not_linked None = Ok tt
not_linked (Some k) = Err (already_linked k)

-- the CPU type is none of the two, or an object's isn't the program's
abbrev pub is_wrong_cpu : Role → ℕ → Bool
is_wrong_cpu roles.Program cpu = not (is_known_cpu cpu)
is_wrong_cpu (roles.Object program) cpu = not (is_known_cpu cpu) || not (cpu == program)
is_wrong_cpu roles.Bundle cpu = not (is_known_cpu cpu)

-- a program is no object, an object is nothing else, and a bundle's image is a dSYM
abbrev pub is_wrong_type : Role → ℕ → Bool
is_wrong_type roles.Program filetype = filetype == MH_OBJECT
is_wrong_type (roles.Object program) filetype = not (filetype == MH_OBJECT)
is_wrong_type roles.Bundle filetype = not (filetype == MH_DSYM)

-- a program has no debug information yet; of an object and of a bundle's image nothing is asked
abbrev pub holds_no_dwarf : Role → Image → Result (Unit {0}) Fault
holds_no_dwarf roles.Program image = not_linked (dwarf_at image.segments image.sections)
holds_no_dwarf (roles.Object program) image = Ok tt
holds_no_dwarf roles.Bundle image = Ok tt

abbrev pub kind_of : Image → Role → Result (Unit {0}) Fault
kind_of image role = do
  _ ← refuse_if (is_wrong_cpu role image.cpu) (header_fault kinds.WrongCpu 4)
  _ ← refuse_if (is_wrong_type role image.filetype) (header_fault kinds.BadFileType 12)
  holds_no_dwarf role image
