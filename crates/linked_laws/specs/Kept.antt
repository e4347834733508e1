-- Objects whose entries that are written keep to each other, and where references to their entries may lead.
use Rattle.std.specs.Prelude.{◌≡◌, ℕ, true, List, length, Option, Some}
use Rattle.std.specs.List.{Contains}
use Rattle.ds_base.specs.DwarfNumbers.{DW_TAG_base_type}
use Rattle.dwarf_types.specs.declared.entry.Entry.{Entry}
use Rattle.dwarf_types.specs.declared.graph.OutUnit.{OutUnit}
use Rattle.dwarf_types.specs.declared.graph.Target.{Target}
use Rattle.dwarf_types.specs.Live.{Stands, bases_of}
use Rattle.dwarf_types.specs.LinkedGraph.{linked_behind}
use Rattle.dwarf_types.specs.LinkedUnits.{Object, is_kept, plain_target}
use Rattle.dwarf_types.specs.Sound.{IsSound}
use Rattle.dwarf_types.specs.WellValues.{IsTarget}
use Rattle.linked_laws.specs.Spellable.{IsSpellable}

-- the parent of an entry that is written is written too, and so are the base types that its expressions name
pub record IsWhole (o : Object) : Type 0 where
  pub sound : IsSound o.seen
  pub given : IsSpellable o.seen
  pub parents : (k p : ℕ) (e : Entry) → is_kept o k ≡ true → Stands o.seen.entries k e → e.parent ≡ Some p → is_kept o p ≡ true
  pub bases : (k j : ℕ) (e : Entry) → is_kept o k ≡ true → Stands o.seen.entries k e → Contains (bases_of e) j → is_kept o j ≡ true

-- the units before those of the objects, and the image of each entry of each object
module _ (units : List OutUnit) (image : ℕ → ℕ → Option Target) (objects : List Object) where
  -- a reference leads to a node, and one to a base type that is written to its own node
  pub record Leads (i : ℕ) (o : Object) : Type 0 where
    pub targets : (k : ℕ) (target : Target) → image i k ≡ Some target → IsTarget (linked_behind units image objects) target
    pub bases : (j : ℕ) (e : Entry) → is_kept o j ≡ true → Stands o.seen.entries j e → e.tag ≡ DW_TAG_base_type → image i j ≡ plain_target (length units) objects i j
