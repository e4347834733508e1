-- The map of every object is sound, and places that it gives are below 2^64.
use Rattle.addr_map.proofs.Soundness.{map_sound}
use Rattle.addr_map.specs.Ranges.{map_of}
use Rattle.addr_map.specs.Sound.{IsSound}
use Rattle.addr_map.specs.declared.map.AddrMap.{AddrMap}
use Rattle.dwarf_types.specs.declared.address.Addr.{Addr}
use Rattle.linked_laws.specs.Spellable.{IsSpellablePlace}
use Rattle.macho_read.specs.declared.image.Image.{Image}
use Rattle.moved_parts.specs.Places.{place_of}
use Rattle.object_laws.proofs.FramesMoved.{moved_end_fits, moved_fits}
use Rattle.stab_map.specs.declared.object.MapObject.{MapObject}

pub map_is_sound : (object : MapObject) (image : Image) → IsSound (map_of object image)
unfolding map_of
map_is_sound object image = map_sound image object.entries

pub place_is_given : (map : AddrMap) (at : Addr) → IsSound map → IsSpellablePlace (place_of map at)
place_is_given map at sound = record { linked = moved_fits map at sound; linked_end = moved_end_fits map at sound }
