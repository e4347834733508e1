-- Of which kinds the faults of relocations are.
use Rattle.std.proofs.Common.{ℕ, ◌+◌, ◌*◌, ◌&&◌, not, List, [], ◌∷◌, length, drop, nat_lt, nat_le, Option, Some, None, refl, arith}
use Rattle.std.specs.List.{Contains}
use Rattle.ds_base.specs.declared.fault.Kind.{Kind}
use Rattle.ds_base.specs.declared.fault.Kind.TheVariants as kinds
use Rattle.ds_base.specs.declared.fault.Part.{Part}
use Rattle.ds_base.specs.MachONumbers.{RELOCATION_INFO_SIZE}
use Rattle.macho_read.specs.declared.image.Image.{Image}
use Rattle.macho_read.specs.declared.image.Section.{Section}
use Rattle.macho_read.specs.Debug.{debug_part}
use Rattle.macho_read.specs.Symbols.{each}
use Rattle.ds_base.proofs.FaultKinds.{FaultsAre, ok_kinds, bind_kinds, refuse_kinds}
use Rattle.macho_read.proofs.Refused.{each_kinds}
use Rattle.reloc_table.specs.declared.relocation.Reloc.{Reloc}
use Rattle.ds_base.specs.DwarfNumbers.{ADDRESS_SIZE}
use Rattle.reloc_table.specs.Relocation.{info_of, is_plain, reloc_fault, reloc_of}
use Rattle.reloc_table.specs.Table.{all_apart, by_place, named_relocs, overlap, relocs_in, relocs_of, table_cut, table_in}

abbrev IsOne : Kind → Type 0
IsOne = Contains (kinds.Truncated ∷ kinds.RelocKind ∷ kinds.RelocPlace ∷ kinds.RelocSymbol ∷ kinds.RelocOverlap ∷ [])

reloc_kinds : (image : Image) (section : Section) (part : Part) (index : ℕ) (entry : List ℕ) → FaultsAre IsOne (reloc_of image section part index entry)
unfolding reloc_of
reloc_kinds image section part index entry =
    bind_kinds IsOne _ _ (refuse_kinds IsOne (not (is_plain (info_of entry))) (reloc_fault part kinds.RelocKind index) (1, omega arith, refl))
    (λ u. bind_kinds IsOne _ _ (refuse_kinds IsOne (nat_lt section.size ((info_of entry).address + ADDRESS_SIZE)) (reloc_fault part kinds.RelocPlace index) (2, omega arith, refl))
    (λ u. bind_kinds IsOne _ _ (refuse_kinds IsOne ((info_of entry).outer && nat_le (length image.symbols) (info_of entry).symbolnum) (reloc_fault part kinds.RelocSymbol index) (3, omega arith, refl)) (λ u. ok_kinds IsOne _)))

table_kinds : (bytes : List ℕ) (section : Section) (part : Part) → FaultsAre IsOne (table_in bytes section part)
unfolding table_in
table_kinds bytes section part = bind_kinds IsOne _ _ (refuse_kinds IsOne (nat_lt (length bytes) (section.reloff + RELOCATION_INFO_SIZE * section.nreloc)) (table_cut part) (0, omega arith, refl)) (λ u. ok_kinds IsOne (drop section.reloff bytes))

apart_kinds : (part : Part) (rs : List Reloc) → FaultsAre IsOne (all_apart part rs)
apart_kinds part [] = ok_kinds IsOne tt
apart_kinds part (r ∷ []) = ok_kinds IsOne tt
apart_kinds part (r ∷ next ∷ rs) =
    bind_kinds IsOne _ _ (refuse_kinds IsOne (nat_lt next.place (r.place + ADDRESS_SIZE)) (overlap part next.place) (4, omega arith, refl)) (λ u. apart_kinds part (next ∷ rs))

in_kinds : (bytes : List ℕ) (image : Image) (section : Section) (part : Part) → FaultsAre IsOne (relocs_in bytes image section part)
unfolding relocs_in
in_kinds bytes image section part =
    bind_kinds IsOne (table_in bytes section part) _ (table_kinds bytes section part)
    (λ table. bind_kinds IsOne (each (λ i. reloc_of image section part i (drop (RELOCATION_INFO_SIZE * i) table)) section.nreloc 0) _
    (each_kinds IsOne (λ i. reloc_of image section part i (drop (RELOCATION_INFO_SIZE * i) table)) (λ i. reloc_kinds image section part i (drop (RELOCATION_INFO_SIZE * i) table)) section.nreloc 0)
    (λ relocs. bind_kinds IsOne (all_apart part (by_place relocs)) _ (apart_kinds part (by_place relocs)) (λ u. ok_kinds IsOne _)))

named_kinds : (bytes : List ℕ) (image : Image) (section : Section) (part : Option Part) → FaultsAre IsOne (named_relocs bytes image section part)
named_kinds bytes image section (Some part) = in_kinds bytes image section part
named_kinds bytes image section None = ok_kinds IsOne _

pub relocs_kinds : (bytes : List ℕ) (image : Image) (section : Section) → FaultsAre IsOne (relocs_of bytes image section)
unfolding relocs_of
relocs_kinds bytes image section = named_kinds bytes image section (debug_part section.name)
