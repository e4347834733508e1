-- What each object of a link gives to its shape by itself: its units are counted from 0, until those of all objects stand behind one another.
use Rattle.std.specs.Prelude.{◌≡◌, ℕ, ◌+◌, ◌^◌, ◌<◌, Bool, List, length, slice_get, Option, Some}
use Rattle.std.specs.List.{All}
use Rattle.std.specs.Option.{option_map}
use Rattle.dwarf_types.specs.declared.analysis.Analysis.{Analysis}
use Rattle.dwarf_types.specs.declared.graph.Target.{Target}
use Rattle.dwarf_types.specs.LinkedShape.{AreMarked, plain_in}
use Rattle.dwarf_types.specs.LinkedUnits.{Object}
use Rattle.dwarf_types.specs.Sound.{IsSound}
use Rattle.type_names.specs.Names.{Named}
use Rattle.link_graph.specs.declared.object.ObjectShape.{ObjectShape}
use Rattle.link_graph.specs.Merged.{kept_objects, linked_names}
use Rattle.link_graph.specs.Passes.{images_of, units_of}

-- what object i gives, as if no unit stood before its own
pub record IsOwnShape (i : ℕ) (o : Object) (own : ObjectShape) : Type 0 where
  pub units : own.units.items ≡ units_of i o
  pub plain : own.plain ≡ plain_in o
  pub images : own.images ≡ images_of 0 i o

-- what the object at a place gives
abbrev pub IsOwnShapeAt : List Object → ℕ → ObjectShape → Type 0
IsOwnShapeAt objects i own = (o : Object) → slice_get objects i ≡ Some o → IsOwnShape i o own

-- what each object of a link gives, and the names of its merged entries
pub record AreOwnShapes (odr : Bool) (seen : List Analysis) (live : List (List Bool)) (names : List Named) (own : List ObjectShape) : Type 0 where
  pub sound : All IsSound seen
  pub marked : AreMarked seen live
  pub few : length seen < 2 ^ 16
  pub named : names ≡ linked_names odr seen live
  pub len : length own ≡ length seen
  pub each : (i : ℕ) (one : ObjectShape) → slice_get own i ≡ Some one → IsOwnShapeAt (kept_objects odr seen live) i one

-- an object with its live entries, behind others with theirs
pub record StandsBehind (seen : List Analysis) (live : List (List Bool)) (object : Analysis) (row : List Bool) : Type 0 where
  pub sound : All IsSound seen
  pub marked : AreMarked seen live
  pub its_sound : IsSound object
  pub its_marks : length row ≡ length object.entries

-- a node of a unit that stands behind so many others
abbrev pub target_behind : ℕ → Option Target → Option Target
target_behind before image = option_map (λ target. record { unit = before + target.unit; node = target.node }) image
