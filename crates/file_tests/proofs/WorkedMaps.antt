-- The debug map of the program, or the fault.
use Rattle.std.proofs.Common.{◌≡◌, [], ◌∷◌, Some, None, Ok, Err, refl}
use Rattle.std.specs.Prelude.{codes}
use Rattle.std.specs.Char.{encode_utf8}
use Rattle.std.specs.Str.{chars, is_utf8}
use Rattle.ds_base.specs.declared.fault.Kind.TheVariants as kinds
use Rattle.ds_base.specs.declared.fault.Part.TheVariants as parts
use Rattle.macho_read.specs.Standings.{standing_of}
use Rattle.stab_map.specs.declared.object.MapError.TheVariants as errors
use Rattle.stab_map.specs.declared.object.MapObject.{MapObject}
use Rattle.stab_map.specs.Stab.{stab_of}
use Rattle.stab_map.specs.Origin.{origin_of}
use Rattle.stab_map.specs.DebugMap.{map_of, objects_of}
use Rattle.file_tests.proofs.Images.{program}

-- what a map computes with
mapping : Unit {0}
unfolding objects_of stab_of origin_of standing_of is_utf8 chars encode_utf8
mapping = tt

-- its one object, with a function of 0x20 bytes and a variable elsewhere
abbrev pub mapped : MapObject
mapped = record {
  path = codes "/tmp/m.o";
  file = codes "/tmp/m.o";
  member = None;
  entries = record { name = codes "_a"; linked = 0x100002000; size = Some 0x20 } ∷ record { name = codes "a"; linked = 0x100008010; size = None } ∷ [];
}

a_map : map_of (program (codes "/tmp/m.o")) ≡ Ok (mapped ∷ [])
unfolding mapping
a_map = refl

a_path_that_is_no_text : map_of (program (0xff ∷ codes "tmp/m.o")) ≡ Err (errors.Faulty (record { kind = kinds.BadPath; section = parts.Map; place = 0 }))
unfolding mapping
a_path_that_is_no_text = refl
