-- What the content of a program's file refuses, in its order: its first fault, and that its map has too many objects.
use Rattle.std.specs.Prelude.{◌≡◌, ℕ, List, Result, Ok, Err}
use Rattle.ds_base.specs.declared.fault.Fault.{Fault}
use Rattle.ds_base.specs.Reading.{◌>>=◌}
use Rattle.macho_read.specs.declared.image.Image.{Image}
use Rattle.macho_read.specs.declared.kind.Role.TheVariants as roles
use Rattle.macho_read.specs.Image.{image_of}
use Rattle.macho_read.specs.Kind.{kind_of}
use Rattle.stab_map.specs.declared.object.MapObject.{MapObject}
use Rattle.stab_map.specs.declared.object.MapError.{MapError}
use Rattle.stab_map.specs.declared.object.MapError.TheVariants as map_errors
use Rattle.stab_map.specs.DebugMap.{map_of, max_objects}
use Rattle.link_status.specs.declared.refusal.Refusal.{Refusal}
use Rattle.link_status.specs.declared.refusal.Refusal.TheVariants as refusals
use Rattle.link_status.specs.declared.refusal.LimitKind.TheVariants as limits
use Rattle.link_program.specs.declared.program.MappedProgram.{MappedProgram}

-- What a call answered, seen by view, is what is wanted or why it is refused, unless memory ran out.
abbrev pub Answers : {X Y : Type 0} → (X → Y) → Result X Refusal → Result Y Refusal → Type 0
Answers view (Ok x) wanted = wanted ≡ Ok (view x)
Answers view (Err (refusals.Faulty file fault)) wanted = wanted ≡ Err (refusals.Faulty file fault)
Answers view (Err (refusals.Limit which number)) wanted = wanted ≡ Err (refusals.Limit which number)
Answers view (Err refusals.NoMemory) wanted = Unit {0}

-- ---- the program, which is file 0

-- its image, which can be that of a program
unfoldable pub program_image : List ℕ → Result Image Fault
program_image bytes = do
  image ← image_of bytes
  _ ← kind_of image roles.Program
  Ok image

abbrev pub map_refusal : MapError → Refusal
map_refusal (map_errors.Faulty fault) = refusals.Faulty 0 fault
map_refusal map_errors.Objects = refusals.Limit limits.Objects max_objects
map_refusal map_errors.NoMemory = refusals.NoMemory

abbrev pub with_map : Image → Result (List MapObject) MapError → Result MappedProgram Refusal
with_map image (Ok objects) = Ok (record { image = image; objects = objects })
with_map image (Err error) = Err (map_refusal error)

abbrev pub with_image : Result Image Fault → Result MappedProgram Refusal
with_image (Ok image) = with_map image (map_of image)
with_image (Err fault) = Err (refusals.Faulty 0 fault)

-- the program in a file's bytes: its image and its debug map
unfoldable pub program_of : List ℕ → Result MappedProgram Refusal
program_of bytes = with_image (program_image bytes)
