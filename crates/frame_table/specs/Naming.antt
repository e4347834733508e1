-- Which FDEs name a CIE (DWARF 4, section 6.4.1, CIE_pointer).
use Rattle.std.specs.Prelude.{ℕ, ◌==◌, ◌&&◌, ◌||◌, not, Bool, List, Option, Some, None, is_none, Result, Ok, Err, nat_lt, nat_le, if◌then◌else◌}
use Rattle.std.specs.List.{find}
use Rattle.ds_base.specs.declared.fault.Fault.{Fault}
use Rattle.frame_table.specs.declared.entry.FrameEntry.{FrameEntry}
use Rattle.frame_table.specs.Entry.{bad_frame, is_cie}

-- it, if it is a CIE
abbrev pub if_cie : Option FrameEntry → Option FrameEntry
if_cie None = None
if_cie (Some entry) = if is_cie entry then Some entry else None

-- the CIE that begins at a place
abbrev pub cie_at : List FrameEntry → ℕ → Option FrameEntry
cie_at entries place = if_cie (find (λ entry. entry.place == place) entries)

-- An FDE's CIE is due where the entries reach behind the place that is named, and at once where the section itself doesn't.
abbrev pub is_due : ℕ → ℕ → FrameEntry → Bool
is_due size end fde = nat_lt fde.id end || nat_le size fde.id

-- an FDE whose CIE is due where the entries up to here end, and is none of them
abbrev pub lacks_cie : ℕ → ℕ → List FrameEntry → FrameEntry → Bool
lacks_cie size end entries entry = not (is_cie entry) && (is_due size end entry && is_none (cie_at entries entry.id))

-- no FDE, or the fault at the one that is there
abbrev pub refuse_any : Option FrameEntry → Result (Unit {0}) Fault
refuse_any None = Ok tt
refuse_any (Some entry) = Err (bad_frame entry.place)

-- the entries up to here have each CIE that is due; else the first FDE that lacks its own is the fault
abbrev pub all_named : ℕ → ℕ → List FrameEntry → Result (Unit {0}) Fault
all_named size end entries = refuse_any (find (lacks_cie size end entries) entries)
