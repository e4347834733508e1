-- Of which kinds the faults of a section are.
use Rattle.std.proofs.Common.{ℕ, zero, suc, ◌+◌, ◌-◌, ◌||◌, Bool, true, false, List, [], ◌∷◌, length, nat_lt, nat_le, Option, Some, None, Result, Ok, Err, refl, arith}
use Rattle.std.specs.Prelude.{◌==◌, if◌then◌else◌}
use Rattle.std.specs.List.{Contains, find}
use Rattle.ds_base.specs.DwarfNumbers.{LENGTH_RESERVED}
use Rattle.ds_base.specs.declared.fault.Fault.{Fault}
use Rattle.ds_base.specs.declared.fault.Kind.{Kind}
use Rattle.ds_base.specs.declared.fault.Kind.TheVariants.{Truncated, BadFrame}
use Rattle.ds_base.specs.Reading.{◌>>=◌, number_at, bytes_at}
use Rattle.ds_base.proofs.FaultKinds.{FaultsAre, ok_kinds, err_kinds, bind_kinds, refuse_kinds, either_kinds, bytes_kinds, number_kinds}
use Rattle.macho_read.specs.declared.image.Image.{Image}
use Rattle.reloc_table.specs.declared.relocation.Relocs.{Relocs}
use Rattle.frame_table.specs.declared.entry.FrameEntry.{FrameEntry}
use Rattle.frame_table.specs.Entry.{entry_at, bad_frame, behind_id, frame_spot, is_cie}
use Rattle.frame_table.specs.Naming.{lacks_cie, refuse_any, all_named}
use Rattle.frame_table.specs.Description.{description_at, values_at}
use Rattle.frame_table.specs.Frames.{Listing, listed, entries_from, entries_of, up_to, tried, in_turn, unless_stopped, frames_of}

-- the kinds
abbrev IsOne : Kind → Type 0
IsOne = Contains (Truncated ∷ BadFrame ∷ [])

cut : IsOne Truncated
cut = (0, omega arith, refl)

bad : IsOne BadFrame
bad = (1, omega arith, refl)

-- ---- an entry

entry_kinds : (bytes : List ℕ) (place : ℕ) → FaultsAre IsOne (entry_at bytes place)
unfolding entry_at
entry_kinds bytes place =
    bind_kinds IsOne (number_at 4 (frame_spot bytes place (length bytes))) _ (number_kinds IsOne 4 _ cut)
    (λ len. bind_kinds IsOne _ _ (refuse_kinds IsOne (nat_le LENGTH_RESERVED len.0 || nat_lt (len.1.end - len.1.place) len.0) (bad_frame place) bad)
    (λ u. bind_kinds IsOne (number_at 4 (frame_spot bytes len.1.place (len.1.place + len.0))) _ (number_kinds IsOne 4 _ cut) (λ id. ok_kinds IsOne _)))

values_kinds : (bytes : List ℕ) (entry : FrameEntry) → FaultsAre IsOne (values_at bytes entry)
unfolding description_at
values_kinds bytes entry =
    either_kinds IsOne (is_cie entry) (Ok tt) (description_at bytes entry >>= λ said. Ok tt) (ok_kinds IsOne tt)
    (bind_kinds IsOne (description_at bytes entry) _
    (bind_kinds IsOne (number_at 8 (behind_id bytes entry)) _ (number_kinds IsOne 8 _ cut)
    (λ location. bind_kinds IsOne (number_at 8 location.1) _ (number_kinds IsOne 8 _ cut)
    (λ len. bind_kinds IsOne (bytes_at (len.1.end - len.1.place) len.1) _ (bytes_kinds IsOne _ _ cut) (λ code. ok_kinds IsOne _))))
    (λ said. ok_kinds IsOne tt))

named_kinds : (o : Option FrameEntry) → FaultsAre IsOne (refuse_any o)
named_kinds None = ok_kinds IsOne tt
named_kinds (Some entry) = err_kinds IsOne (bad_frame entry.place) bad

tried_kinds : (bytes : List ℕ) (entries : List FrameEntry) (entry : FrameEntry) → FaultsAre IsOne (tried bytes entries entry)
tried_kinds bytes entries entry =
    bind_kinds IsOne (all_named (length bytes) entry.end (up_to entries entry)) _ (named_kinds (find (lacks_cie (length bytes) entry.end (up_to entries entry)) (up_to entries entry))) (λ u. values_kinds bytes entry)

-- ---- a section

turn_kinds : (try : FrameEntry → Result (Unit {0}) Fault) → ((e : FrameEntry) → FaultsAre IsOne (try e)) → (es : List FrameEntry) → FaultsAre IsOne (in_turn try es)
turn_kinds try each [] = ok_kinds IsOne tt
turn_kinds try each (e ∷ es) = bind_kinds IsOne (try e) (λ u. in_turn try es) (each e) (λ u. turn_kinds try each es)

-- what stops a listing
abbrev StopsSo : Option Fault → Type 0
StopsSo stop = FaultsAre IsOne (unless_stopped stop)

listed_kinds : (one : Result FrameEntry Fault) (more : ℕ → Listing) → FaultsAre IsOne one → ((from : ℕ) → StopsSo (more from).stop) → StopsSo (listed one more).stop
listed_kinds (Ok e) more here later = later e.end
listed_kinds (Err f) more here later = err_kinds IsOne f (here f refl)

at_end : (b : Bool) (l : Listing) → StopsSo l.stop → StopsSo (if b then record { entries = []; stop = None } else l).stop
at_end true l h = ok_kinds IsOne tt
at_end false l h = h

from_kinds : (left : ℕ) (bytes : List ℕ) (place : ℕ) → StopsSo (entries_from left bytes place).stop
from_kinds zero bytes place = err_kinds IsOne _ cut
from_kinds (suc left) bytes place = at_end (place == length bytes) (listed (entry_at bytes place) (λ end. entries_from left bytes end))
    (listed_kinds (entry_at bytes place) (λ end. entries_from left bytes end) (entry_kinds bytes place) (λ from. from_kinds left bytes from))

pub frame_kinds : (image : Image) (relocs : Relocs) (bytes : List ℕ) → FaultsAre IsOne (frames_of image relocs bytes)
unfolding frames_of
frame_kinds image relocs bytes =
    let listing = entries_of bytes in
    bind_kinds IsOne (in_turn (tried bytes listing.entries) listing.entries) _ (turn_kinds (tried bytes listing.entries) (tried_kinds bytes listing.entries) listing.entries)
    (λ u. bind_kinds IsOne (unless_stopped listing.stop) _ (from_kinds (suc (length bytes)) bytes 0) (λ u. ok_kinds IsOne _))
