-- References that are tried last: their fault is that of all units.
use Rattle.std.proofs.Common.{◌≡◌, List, refl, Ok, Err}
use Rattle.ds_base.specs.declared.fault.ReadError.{ReadError}
use Rattle.ds_base.specs.declared.fault.ReadError.TheVariants as errors
use Rattle.ds_base.specs.Reading.{Gives}
use Rattle.dwarf_types.specs.declared.entry.InUnit.{InUnit}
use Rattle.dwarf_types.specs.declared.entry.RawEntry.{RawEntry}
use Rattle.dwarf_types.specs.declared.entry.RawUnits.{RawUnits}
use Rattle.dwarf_types.specs.SectionBytes.{SectionBytes}
use Rattle.unit_tree.specs.Entry.{Parsed}
use Rattle.unit_tree.specs.Reference.{resolved}
use Rattle.unit_tree.specs.Unit.{parsed_of, units_of}

pub refused_last : (sections : SectionBytes) (units : List InUnit) (read : Parsed) (entries : List RawEntry) (error : ReadError) → parsed_of sections ≡ Ok (units, read) → entries ≡ read.entries
    → Gives {X = Unit {0}} (λ u. entries) (Err error) (resolved entries read.references) → Gives {X = RawUnits} (λ (raw : RawUnits). raw) (Err error) (units_of sections)
unfolding units_of
refused_last sections units read entries (errors.Faulty f) is same refused = rw (is, ← same, refused) refl
refused_last sections units read entries errors.NoMemory is same refused = tt
