-- Written frames are read again.
use Rattle.std.proofs.Common.{◌≡◌, ◌<◌, List, [], length, All, Ok}
use Rattle.ds_base.specs.DwarfNumbers.{LENGTH_RESERVED}
use Rattle.dwarf_types.specs.declared.frames.OutFrame.{OutFrame}
use Rattle.dwarf_types.specs.Frames.{frames_bytes}
use Rattle.dwarf_types.specs.WellLines.{IsFrame}
use Rattle.macho_read.specs.declared.image.Image.{Image}
use Rattle.reloc_table.specs.declared.relocation.Relocs.{Relocs}
use Rattle.frame_table.specs.Frames.{frames_of}
use Rattle.frame_laws.specs.Again.{read_frames}
use Rattle.frame_laws.proofs.Framed.{spelled_read}
use Rattle.frame_laws.proofs.Written.{frames_spelled}

pub written_read : (frames : List OutFrame) (image : Image) (relocs : Relocs) → All IsFrame frames → length (frames_bytes frames) < LENGTH_RESERVED → relocs.list ≡ [] → frames_of image relocs (frames_bytes frames) ≡ Ok (read_frames frames)
written_read frames image relocs all small none = spelled_read image relocs (frames_bytes frames) (read_frames frames) none (frames_spelled frames all small)
