-- The frames of a section are bytes and numbers, and so are those that went to the linked program.
use Rattle.std.proofs.Common.{◌≡◌, ℕ, ◌-◌, ◌^◌, ◌<◌, List, [], ◌∷◌, Option, Some, None, IfSome, Result, Ok, Err, refl, subst, inl, inr}
use Rattle.std.specs.List.{All, AllByRecursion, filter_map}
use Rattle.std.specs.Option.{option_map}
use Rattle.std.proofs.lemmas.Bool.{cases_Bool}
use Rattle.std.proofs.lemmas.List.Elements.{All-from_recursion}
use Rattle.ds_base.specs.declared.fault.Fault.{Fault}
use Rattle.ds_base.specs.Reading.{bytes_at, number_at}
use Rattle.ds_base.proofs.Passing.{bind_ok, ok_is}
use Rattle.dwarf_types.specs.declared.frames.RawFrame.{RawFrame}
use Rattle.dwarf_types.specs.Spelled.{AreBytes}
use Rattle.dwarf_types.specs.WellLines.{IsFrame}
use Rattle.dwarf_types.proofs.Readers.{IsBytes, IsBytes-from, AreBytes-from}
use Rattle.macho_read.specs.declared.image.Image.{Image}
use Rattle.reloc_table.specs.declared.relocation.Relocs.{Relocs}
use Rattle.addr_map.specs.declared.map.AddrMap.{AddrMap}
use Rattle.addr_map.specs.Moved.{moved}
use Rattle.addr_map.specs.Sound.{IsSound}
use Rattle.frame_table.specs.Description.{Said, description_at}
use Rattle.frame_table.specs.Entry.{behind_id, is_cie}
use Rattle.frame_table.specs.Frames.{entries_of, tried, in_turn, unless_stopped, frame_from, frame_of, frames_of}
use Rattle.frame_table.specs.Naming.{cie_at}
use Rattle.moved_parts.specs.Frames.{framed_at, frame_moved, frames_moved}
use Rattle.object_laws.proofs.FramesMoved.{Fits, moved_fits}
use Rattle.object_laws.proofs.LinesReads.{Holds, rest_holds, number_holds, number_below, bytes_are}
use Rattle.object_laws.proofs.Spans.{each_given, more_if}

record IsSaid (said : Said) : Type 0 where
  length : said.length < 2 ^ 64
  code : AreBytes said.code

said_is : (bytes : List ℕ) (entry : _) (said : Said) → IsBytes bytes → description_at bytes entry ≡ Ok said → IsSaid said
unfolding description_at
said_is bytes entry said h e =
    let location = bind_ok (number_at 8 (behind_id bytes entry)) _ said e in
    let len = bind_ok (number_at 8 location.0.1) _ said location.2 in
    let code = bind_ok (bytes_at (len.0.1.end - len.0.1.place) len.0.1) _ said len.2 in
    let first : Holds location.0.1 = number_holds 8 (behind_id bytes entry) location.0 h location.1 in
    let second : Holds len.0.1 = number_holds 8 location.0.1 len.0 first len.1 in
    subst IsSaid (ok_is _ said code.2) (record {
      length = number_below 8 location.0.1 len.0 first len.1;
      code = bytes_are (len.0.1.end - len.0.1.place) len.0.1 code.0 second code.1;
    })

record IsRaw (frame : RawFrame) : Type 0 where
  cie : AreBytes frame.cie
  length : frame.length < 2 ^ 64
  code : AreBytes frame.code

from_is : (image : Image) (relocs : Relocs) (bytes : List ℕ) (entry : _) (cie : _) (said : Result Said Fault) → IsBytes bytes
    → ((x : Said) → said ≡ Ok x → IsSaid x) → IfSome (frame_from image relocs bytes entry cie said) IsRaw
from_is image relocs bytes entry None said h known = tt
from_is image relocs bytes entry (Some cie) (Err f) h known = tt
from_is image relocs bytes entry (Some cie) (Ok said) h known =
    let k = known said refl in
    record { cie = AreBytes-from _ (rest_holds (behind_id bytes cie) h); length = k.length; code = k.code }

frame_is : (image : Image) (relocs : Relocs) (bytes : List ℕ) (entries : _) (entry : _) → IsBytes bytes → IfSome (frame_of image relocs bytes entries entry) IsRaw
frame_is image relocs bytes entries entry h = elim (cases_Bool (is_cie entry)) [
  | inl is ↦ rw is tt
  | inr other ↦ rw other (from_is image relocs bytes entry (cie_at entries entry.id) (description_at bytes entry) h (λ x e. said_is bytes entry x h e))
]

all_raw : (image : Image) (relocs : Relocs) (bytes : List ℕ) (entries : _) (some : _) → IsBytes bytes → AllByRecursion IsRaw (filter_map (frame_of image relocs bytes entries) some)
all_raw image relocs bytes entries [] h = tt
all_raw image relocs bytes entries (e ∷ es) h = more_if IsRaw (frame_of image relocs bytes entries e) (filter_map (frame_of image relocs bytes entries) es) (frame_is image relocs bytes entries e h) (all_raw image relocs bytes entries es h)

raw_frames : (image : Image) (relocs : Relocs) (bytes : List ℕ) (frames : List RawFrame) → IsBytes bytes → frames_of image relocs bytes ≡ Ok frames → AllByRecursion IsRaw frames
unfolding frames_of
raw_frames image relocs bytes frames h e =
    let listing = entries_of bytes in
    let trials = bind_ok (in_turn (tried bytes listing.entries) listing.entries) _ frames e in
    let stop = bind_ok (unless_stopped listing.stop) _ frames trials.2 in
    subst (AllByRecursion IsRaw) (ok_is (filter_map (frame_of image relocs bytes listing.entries) listing.entries) frames stop.2) (all_raw image relocs bytes listing.entries listing.entries h)

moved_is : (frame : RawFrame) (o : Option ℕ) → IsRaw frame → IfSome o Fits → IfSome (option_map (framed_at frame) o) IsFrame
moved_is frame None raw fits = tt
moved_is frame (Some n) raw fits = record { cie = raw.cie; address = fits; length = raw.length; code = raw.code }

pub frames_are : (image : Image) (relocs : Relocs) (bytes : List ℕ) (frames : List RawFrame) (map : AddrMap)
    → frames_of image relocs bytes ≡ Ok frames → AreBytes bytes → IsSound map → All IsFrame (frames_moved map frames)
frames_are image relocs bytes frames map e are sound = All-from_recursion IsFrame (frames_moved map frames)
    (each_given IsRaw IsFrame (frame_moved map) (λ frame raw. moved_is frame (moved map frame.at) raw (moved_fits map frame.at sound)) frames (raw_frames image relocs bytes frames (IsBytes-from bytes are) e))
