-- The objects of a link: each is what the analysis of its bytes gives, with its live entries marked.
use Rattle.std.specs.Prelude.{◌≡◌, ◌<◌, ◌^◌, ◌↔◌, ℕ, true, false, List, length, slice_index_or, Ok}
use Rattle.dwarf_types.specs.LinkedUnits.{Object}
use Rattle.dwarf_types.specs.Live.{IsLive}
use Rattle.dwarf_types.specs.Spelled.{AreBytes}
use Rattle.stab_map.specs.declared.object.MapObject.{MapObject}
use Rattle.object_view.specs.Analysis.{analysis_of}

pub record IsAnalysed (o : Object) : Type 0 where
  pub bytes : List ℕ
  pub few : length bytes < 2 ^ 32
  pub are : AreBytes bytes
  pub part : MapObject
  pub cpu : ℕ
  pub seen : analysis_of bytes part cpu ≡ Ok o.seen
  pub live : (k : ℕ) → (slice_index_or o.kept k false ≡ true) ↔ IsLive o.seen.entries k
