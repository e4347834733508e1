-- Nodes that are prepared stretch by stretch, and their entries, which are appended so.
use Rattle.std.specs.Prelude.{◌≡◌, ℕ, ◌+◌, ◌<◌, ◌≤◌, ◌^◌, false, List, ◌++◌, drop, fold, length, map, slice_index_or, Result, OnOk}
use Rattle.std.specs.List.{enumerate_from, sum_by}
use Rattle.abbrev_write.specs.Table.{with_declaration}
use Rattle.dwarf_types.specs.declared.abbrev.Declaration.{Declaration}
use Rattle.dwarf_types.specs.declared.graph.Node.{Node}
use Rattle.dwarf_types.specs.declared.graph.OutUnit.{OutUnit}
use Rattle.dwarf_types.specs.Abbreviations.{declaration_of, has_children, table_of}
use Rattle.dwarf_types.specs.Entries.{OutEntry, entries_of, entry_len}
use Rattle.unit_source.specs.Given.{attr_given}
use Rattle.unit_draft.specs.declared.drafting.Drafting.{Drafting}
use Rattle.unit_draft.specs.declared.entries.Appender.{Appender}
use Rattle.unit_draft.specs.declared.error.DraftError.{DraftError}
use Rattle.unit_draft.specs.declared.preparer.Preparer.{Preparer}
use Rattle.unit_draft.specs.declared.stretch.Prepared.{Prepared}
use Rattle.unit_draft.specs.declared.stretch.Stretch.{Stretch}
use Rattle.unit_draft.specs.Appends.{AppendsEntries, attrs_of, len_of, places_from}
use Rattle.unit_draft.specs.Depths.{depths_of}
use Rattle.unit_draft.specs.Long.{RefusesLong}

-- ---- stretches

-- what is known of the node of an entry, beside its attributes
abbrev pub prepared : OutEntry → Prepared
prepared e = record { code = e.code; ended = e.ended; attrs = length e.node.attrs }

-- the nodes of a stretch are those of these entries
pub record IsStretch (entries : List OutEntry) (s : Stretch) : Type 0 where
  pub attrs : map attr_given s.attrs.items ≡ attrs_of entries
  pub nodes : s.nodes.items ≡ map prepared entries

-- they are those of some entries
abbrev pub HoldsStretch : Stretch → Type 0
HoldsStretch s = (entries : List OutEntry) × IsStretch entries s

-- ---- preparing

-- what declares the nodes of the unit of a number, from one on
abbrev pub declared_from : ℕ → List Node → ℕ → List Declaration
declared_from number nodes k = map (λ n. declaration_of number nodes n.0 n.1) (enumerate_from k (drop k nodes))

module _ {S : Type 0} where
  -- it prepares the unit of a number, and has prepared the nodes before the next one
  pub record IsReady (given : S → OutUnit) (number : ℕ) (unit : OutUnit) (it : Preparer S) : Type 0 where
    pub source : given it.unit.now ≡ unit
    pub numbered : it.number ≡ number
    pub few : length unit.nodes < 2 ^ 28
    pub some : 0 < it.most
    pub within : it.next ≤ length unit.nodes
    pub marks : length it.parents ≡ length unit.nodes
    pub parents : (k : ℕ) → k < length unit.nodes → slice_index_or it.parents k false ≡ has_children unit.nodes k
    pub depths : it.depths ≡ depths_of unit.nodes
    -- with what declares the others, the declarations are those of all nodes
    pub declared : fold with_declaration it.declared (declared_from number unit.nodes it.next) ≡ table_of number unit.nodes
    pub few_declared : length it.declared ≤ it.next

  -- its stretch has the nodes from one up to the next
  pub record HasFrom (number : ℕ) (unit : OutUnit) (from : ℕ) (it : Preparer S) : Type 0 where
    pub entries : List OutEntry
    pub stretch : IsStretch entries it.stretch
    pub cut : drop from (entries_of number unit) ≡ entries ++ drop it.next (entries_of number unit)

  -- the next nodes were prepared, one at least where there is one
  pub record PreparesStretch (given : S → OutUnit) (number : ℕ) (unit : OutUnit) (old new : Preparer S) : Type 0 where
    pub ready : IsReady given number unit new
    pub has : HasFrom number unit old.next new
    pub further : old.next < length unit.nodes → old.next < new.next

-- ---- appending

-- Where these entries were left to be appended, and their places to be told, those are left now.
pub record GoesOn (number version : ℕ) (old new : Drafting) (before after : List ℕ) (those these : List OutEntry) : Type 0 where
  pub appended : (last : Drafting) → AppendsEntries number version new last these → AppendsEntries number version old last those
  pub placed : after ++ places_from (len_of new) these ≡ before ++ places_from (len_of old) those
  pub long : len_of new + sum_by entry_len these ≡ len_of old + sum_by entry_len those

-- the entries of a stretch were appended, or they are too long, whichever others are left
pub record AppendsStretch (old : Appender) (result : Result (Unit {0}) DraftError) (new : Appender) : Type 0 where
  pub number : new.number ≡ old.number
  pub version : new.version ≡ old.version
  pub appended : (es rest : List OutEntry) → IsStretch es old.stretch → OnOk result (GoesOn old.number old.version old.drafting new.drafting old.places new.places (es ++ rest) rest)
  pub long : (es rest : List OutEntry) → IsStretch es old.stretch → RefusesLong result (len_of old.drafting + sum_by entry_len (es ++ rest))
