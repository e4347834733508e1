-- An object that is sound makes contexts that are ready for each of its units.
use Rattle.std.proofs.Common.{◌≡◌, ℕ, Bool, true, false, List, sym, subst}
use Rattle.std.specs.Prelude.{◌==◌, IsSome, if◌then◌else◌}
use Rattle.ds_base.specs.declared.fault.Part.{Part}
use Rattle.ds_base.specs.declared.fault.Part.TheVariants as parts
use Rattle.macho_read.specs.declared.image.Image.{Image}
use Rattle.reloc_table.specs.declared.relocation.Relocs.{Relocs}
use Rattle.reloc_table.specs.Sound.{IsSound as AreSoundRelocs}
use Rattle.addr_map.specs.declared.map.AddrMap.{AddrMap}
use Rattle.expr_resolve.specs.declared.context.BaseType.{BaseType}
use Rattle.dwarf_types.specs.SectionBytes.{bytes_in}
use Rattle.index_tables.specs.Tables.{address_place}
use Rattle.expr_resolve.specs.Context.{AreInOrder, Context}
use Rattle.loc_lists.specs.Reading.{location_part}
use Rattle.object_view.specs.declared.expressions.Expressions.{Expressions}
use Rattle.ds_base.specs.DwarfNumbers.{DWARF_5}
use Rattle.object_view.specs.declared.units.UnitContext.{UnitContext}
use Rattle.object_view.specs.Attributes.{context_at, locations_relocs, ranges_relocs}
use Rattle.object_read.specs.Opened.{Opened}
use Rattle.object_view.specs.Seen.{opened_seen}
use Rattle.object_view.specs.Ready.{IsOpen, IsReady, context_among, info_seen, locations_seen}

-- one of two tables of relocations
one_sound : (b : Bool) (image : Image) (five four : Relocs) → AreSoundRelocs image five → AreSoundRelocs image four → AreSoundRelocs image (if b then five else four)
one_sound true image five four h k = h
one_sound false image five four h k = k

module _ (o : Opened) (m : AddrMap) (sound : IsOpen o m) where
  pub ready : (types : List BaseType) (part : Part) (relocs : Relocs) (unit : ℕ) (u : UnitContext) → AreInOrder types → AreSoundRelocs o.image relocs → IsReady (context_at o m types part relocs unit u)
  ready types part relocs unit u order theirs = record {
    image = sound.sound_image;
    relocs = theirs;
    addresses = sound.sound_relocs.addr;
    map = sound.sound_map;
    order = order;
    small = sound.small;
  }

  -- the relocations of the lists of a version
  pub ranges_sound : (version : ℕ) → AreSoundRelocs o.image (ranges_relocs o.relocs version)
  ranges_sound version = one_sound (version == DWARF_5) o.image o.relocs.rnglists o.relocs.ranges sound.sound_relocs.rnglists sound.sound_relocs.ranges

  pub locations_sound : (version : ℕ) → AreSoundRelocs o.image (locations_relocs o.relocs version)
  locations_sound version = one_sound (version == DWARF_5) o.image o.relocs.loclists o.relocs.loc sound.sound_relocs.loclists sound.sound_relocs.loc

-- the contexts of the expressions of an object
pub info_ready : (e : Expressions) → IsOpen (opened_seen e.object.now) e.map.now → AreInOrder e.types.now → (unit : ℕ) → IsReady (info_seen e unit)
info_ready e sound order unit = ready (opened_seen e.object.now) e.map.now sound e.types.now parts.Info e.object.now.relocs.now.info unit (context_among e.units.now unit) order sound.sound_relocs.info

pub locations_ready : (e : Expressions) → IsOpen (opened_seen e.object.now) e.map.now → AreInOrder e.types.now → (unit : ℕ) → IsReady (locations_seen e unit)
locations_ready e sound order unit =
    let u = context_among e.units.now unit in
    ready (opened_seen e.object.now) e.map.now sound e.types.now (location_part u.version) (locations_relocs e.object.now.relocs.now u.version) unit u order
    (locations_sound (opened_seen e.object.now) e.map.now sound u.version)

-- an index that leads to an address does so in the context of its unit
pub index_there : (e : Expressions) (unit : ℕ) (s : Context) (n : ℕ) → s ≡ info_seen e unit → IsSome (address_place (bytes_in e.object.now.sections) (context_among e.units.now unit).addr_base n) → IsSome (address_place s.sections s.addr_base n)
index_there e unit s n is there = subst (λ (c : Context). IsSome (address_place c.sections c.addr_base n)) (sym is) there
