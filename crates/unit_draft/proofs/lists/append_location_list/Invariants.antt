use Rattle.std.proofs.Common.{◌≡◌, ◌++◌, ℕ, drop}
use Rattle.std.specs.List.{flat_map}
use Rattle.dwarf_types.specs.Lists.{location_bytes}
use Rattle.patches.specs.declared.hole.Own.TheVariants as own
use Rattle.patches.specs.Filling.{Filling, filled}
use Rattle.unit_draft.proofs.lists.append_location_list.Given as goal

abbrev pub invariant-loop-item : goal.invariant-loop-item
invariant-loop-item l = (f : Filling) (place : ℕ → ℕ) → ((k : ℕ) → f.own (own.Base k) ≡ place k)
    → filled l.out f ++ flat_map (location_bytes l.version place) (drop l.item-index l.items) ≡ filled l.fn.out f ++ flat_map (location_bytes l.version place) l.items
