-- An analysis is that of the trees that its object's sections spell.
use Rattle.std.proofs.Common.{◌≡◌, ℕ, List, Ok, Err, Result, sym, subst, ◌∙◌}
use Rattle.std.specs.Prelude.{IfOk}
use Rattle.ds_base.specs.declared.fault.ReadError.{ReadError}
use Rattle.ds_base.specs.Reading.{Gives}
use Rattle.dwarf_types.specs.declared.analysis.Analysis.{Analysis}
use Rattle.dwarf_types.specs.declared.entry.RawUnits.{RawUnits}
use Rattle.addr_map.specs.declared.map.AddrMap.{AddrMap}
use Rattle.unit_tree.specs.Inside.{AreInside}
use Rattle.unit_tree.specs.Spelling.{IsSpelled, raw_units}
use Rattle.object_read.specs.Opened.{Opened, opened_of}
use Rattle.object_view.specs.Spelled.{IsOfObject}
use Rattle.object_view.specs.Stages.{analysed}
use Rattle.object_view.proofs.Definitions.{analysed_same}
use Rattle.object_view.proofs.Outlines.{IsOfRaw, analysis_of_raw}
use Rattle.object_view.proofs.Trees.{begins}

of_trees : (bytes : List ℕ) (cpu : ℕ) (o : Opened) (raw : RawUnits) (a : Analysis) → opened_of bytes cpu ≡ Ok o → IsSpelled o.sections raw → IsOfRaw raw a → IsOfObject bytes cpu a
of_trees bytes cpu o raw a opened s h =
    let of : IsOfRaw (raw_units s.trees) a = subst (λ (r : RawUnits). IsOfRaw r a) s.is h in
    record {
      opened = o;
      is = opened;
      trees = s.trees;
      spelled = record { spells = s.spells; units = of.units; entries = of.entries; starts = begins o.sections s.trees s.spells.spells };
    }

pub gives_spelled : (bytes : List ℕ) (cpu : ℕ) (o : Opened) (m : AddrMap) (raw : RawUnits) (r : Result Analysis ReadError) → opened_of bytes cpu ≡ Ok o → IsSpelled o.sections raw → AreInside o.sections raw → Gives (λ (a : Analysis). a) r (analysed o m raw)
    → IfOk r (IsOfObject bytes cpu)
gives_spelled bytes cpu o m raw (Ok a) opened spelled inside gives = of_trees bytes cpu o raw a opened spelled (analysis_of_raw o m raw a inside (sym (analysed_same o m raw) ∙ gives))
gives_spelled bytes cpu o m raw (Err e) opened spelled inside gives = tt
