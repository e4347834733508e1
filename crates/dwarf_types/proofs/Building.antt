-- What columns stand for as they grow, and as heads and cells are put.
use Rattle.std.proofs.Common.{◌≡◌, ℕ, ◌+◌, ◌-◌, ◌*◌, ◌^◌, ◌<◌, ◌≤◌, List, [], ◌∷◌, ◌++◌, map, length, drop, ap, ap₂, sym, ◌∙◌, arith}
use Rattle.std.specs.List.{zip}
use Rattle.std.proofs.lemmas.List.{append-nil, drop-append-le, drop_all, length-append, length-drop, length-map, map_push}
use Rattle.std.proofs.lemmas.List.Elements.{All-drop}
use Rattle.dwarf_types.specs.declared.abbrev.TheConstants.{MOST_FIELDS}
use Rattle.dwarf_types.specs.declared.columns.Cell.{Cell}
use Rattle.dwarf_types.specs.declared.columns.Head.{Head}
use Rattle.dwarf_types.specs.declared.entry.Attr.{Attr}
use Rattle.dwarf_types.specs.declared.entry.TheConstants.{MOST_ENTRIES}
use Rattle.dwarf_types.specs.declared.entry.RawAttr.{RawAttr}
use Rattle.dwarf_types.specs.declared.entry.RawEntry.{RawEntry}
use Rattle.dwarf_types.specs.declared.sides.Sides.{Sides}
use Rattle.dwarf_types.specs.declared.value.Value.{Value}
use Rattle.dwarf_types.specs.Built.{Built}
use Rattle.dwarf_types.specs.Cells.{Grows}
use Rattle.dwarf_types.specs.Columns.{CellWithin, IsBuilt, IsFlat, IsRaw, attr_of, built_of, entries_of, entry_with, raw_attr_of, raw_entries_of, raw_entry_with, row}
use Rattle.dwarf_types.proofs.Ends.{RawWithin, raw_flat, zip_long, zip_push}
use Rattle.dwarf_types.proofs.Growing.{grows_not}
use Rattle.dwarf_types.proofs.Heads.{flat_as, flat_close, maps_same, rows_close, rows_kept}
use Rattle.dwarf_types.proofs.Kept.{held_kept, within_kept}

attr_kept : (old new : Sides) → Grows old new → (c : Cell) → CellWithin old c → attr_of new c ≡ attr_of old c
attr_kept old new g c w =
    let with_value : Value → Attr = λ value. record { name = c.name; form = c.form; value = value } in
    ap with_value (held_kept old new g c.kind c.form c.payload w)

raw_attr_kept : (old new : Sides) → Grows old new → (c : Cell × ℕ) → RawWithin old c → raw_attr_of new c ≡ raw_attr_of old c
raw_attr_kept old new g c w =
    let with_value : Value → RawAttr = λ value. record { name = c.0.name; form = c.0.form; end = c.1; value = value } in
    ap with_value (held_kept old new g c.0.kind c.0.form c.0.payload w)

cell_within : (old new : Sides) → Grows old new → (c : Cell) → CellWithin old c → CellWithin new c
cell_within old new g c w = within_kept old new g c.kind c.payload w

-- ---- columns that grow

pub flat_grows : (old new : Sides) (heads : List Head) (cells : List Cell) (at : ℕ) → Grows old new → IsFlat (CellWithin old) heads cells at → IsFlat (CellWithin new) heads cells at
flat_grows old new heads cells at g f = flat_as (CellWithin old) (CellWithin new) (cell_within old new g) heads cells at f

pub raw_grows : (old new : Sides) (heads : List Head) (cells : List Cell) (ends : List ℕ) (at : ℕ) → Grows old new → IsRaw old heads cells ends at → IsRaw new heads cells ends at
raw_grows old new heads cells ends at g r = record { flat = flat_grows old new heads cells at g r.flat; beside = r.beside }

pub entries_grow : (old new : Sides) (heads : List Head) (cells : List Cell) (at : ℕ) → Grows old new → IsFlat (CellWithin old) heads cells at → entries_of new heads cells ≡ entries_of old heads cells
entries_grow old new heads cells at g f =
    ap (λ (cs : List Cell). entries_of new heads cs) (sym (append-nil cells)) ∙ rows_kept (CellWithin old) entry_with (attr_of old) (attr_of new) (attr_kept old new g) cells [] f.within 0 heads at f.follow f.few

rows_more : (old new : Sides) (heads : List Head) (cells : List Cell) (ends : List ℕ) (more : List (Cell × ℕ)) (at : ℕ) → Grows old new → IsRaw old heads cells ends at → map (row (raw_attr_of new) raw_entry_with (zip cells ends ++ more)) heads ≡ raw_entries_of old heads cells ends
rows_more old new heads cells ends more at g r =
    let f = raw_flat old heads cells ends at r in
    rows_kept (RawWithin old) raw_entry_with (raw_attr_of old) (raw_attr_of new) (raw_attr_kept old new g) (zip cells ends) more f.within 0 heads at f.follow f.few

pub raw_entries_grow : (old new : Sides) (heads : List Head) (cells : List Cell) (ends : List ℕ) (at : ℕ) → Grows old new → IsRaw old heads cells ends at → raw_entries_of new heads cells ends ≡ raw_entries_of old heads cells ends
raw_entries_grow old new heads cells ends at g r =
    ap (λ (cs : List (Cell × ℕ)). map (row (raw_attr_of new) raw_entry_with cs) heads) (sym (append-nil (zip cells ends))) ∙ rows_more old new heads cells ends [] at g r

-- ---- a builder's steps

abbrev built_with : List RawEntry → List RawAttr → Built
built_with entries attrs = record { entries = entries; attrs = attrs }

pub built_grows : (old new : Sides) (heads : List Head) (cells : List Cell) (ends : List ℕ) (at : ℕ) → Grows old new → IsRaw old heads cells ends at → built_of new heads cells ends at ≡ built_of old heads cells ends at
built_grows old new heads cells ends at g r =
    let f = raw_flat old heads cells ends at r in
    let attrs = maps_same (RawWithin old) (raw_attr_of old) (raw_attr_of new) (raw_attr_kept old new g) (drop at (zip cells ends)) (All-drop (RawWithin old) at (zip cells ends) f.within) in
    ap₂ built_with (raw_entries_grow old new heads cells ends at g r) attrs

pub built_cell : (s : Sides) (heads : List Head) (cells : List Cell) (ends : List ℕ) (at : ℕ) (c : Cell) (e : ℕ) → IsRaw s heads cells ends at → built_of s heads (cells ++ c ∷ []) (ends ++ e ∷ []) at ≡ record { entries = raw_entries_of s heads cells ends; attrs = map (raw_attr_of s) (drop at (zip cells ends)) ++ raw_attr_of s (c, e) ∷ [] }
built_cell s heads cells ends at c e r =
    let pair : Cell × ℕ = (c, e) in
    let put : zip (cells ++ c ∷ []) (ends ++ e ∷ []) ≡ zip cells ends ++ pair ∷ [] = zip_push cells ends c e r.beside in
    let few : at ≤ length (zip cells ends) = (raw_flat s heads cells ends at r).few in
    let attrs = ap (λ (cs : List (Cell × ℕ)). map (raw_attr_of s) (drop at cs)) put ∙ (ap (map (raw_attr_of s)) (drop-append-le at (zip cells ends) (pair ∷ []) few) ∙ map_push (raw_attr_of s) (drop at (zip cells ends)) pair) in
    let entries = ap (λ (cs : List (Cell × ℕ)). map (row (raw_attr_of s) raw_entry_with cs) heads) put ∙ rows_more s s heads cells ends (pair ∷ []) at (grows_not s) r in
    ap₂ built_with entries attrs

pub built_close : (s : Sides) (heads : List Head) (cells : List Cell) (ends : List ℕ) (at : ℕ) (h : Head) → h.first ≡ at → at + h.count ≡ length cells → length ends ≡ length cells → built_of s (heads ++ h ∷ []) cells ends (length cells) ≡ record { entries = raw_entries_of s heads cells ends ++ raw_entry_with h (map (raw_attr_of s) (drop at (zip cells ends))) ∷ []; attrs = [] }
built_close s heads cells ends at h first count beside =
    let long = zip_long cells ends beside in
    let attrs = ap (map (raw_attr_of s)) (drop_all (length cells) (zip cells ends) (omega arith)) in
    ap₂ built_with (rows_close (RawWithin s) raw_entry_with (raw_attr_of s) heads (zip cells ends) at h first (omega arith)) attrs

-- the next entry has an attribute a cell
pub open_long : (s : Sides) (heads : List Head) (cells : List Cell) (ends : List ℕ) (at : ℕ) → length ends ≡ length cells → length (built_of s heads cells ends at).attrs ≡ length cells - at
open_long s heads cells ends at beside = omega (arith, length-map (drop at (zip cells ends)) (raw_attr_of s), length-drop at (zip cells ends), zip_long cells ends beside)

pub still_built : (s : Sides) (heads : List Head) (cells : List Cell) (ends : List ℕ) (at : ℕ) (h : Head) → h.first ≡ at → at + h.count ≡ length cells → h.count ≤ MOST_FIELDS → IsBuilt s heads cells ends at → IsBuilt s (heads ++ h ∷ []) cells ends (length cells)
still_built s heads cells ends at h first count few b =
    record { raw = record { flat = flat_close (CellWithin s) heads cells at h first count b.raw.flat; beside = b.raw.beside }; few = omega (arith, b.few, length-append heads (h ∷ [])); columns = b.columns }

-- a cell has room while entries and attributes have
pub few_cells : (s : Sides) (heads : List Head) (cells : List Cell) (ends : List ℕ) (at : ℕ) → IsBuilt s heads cells ends at → length (built_of s heads cells ends at).attrs < MOST_FIELDS → length (built_of s heads cells ends at).entries < MOST_ENTRIES → length cells < 2 ^ 32
few_cells s heads cells ends at b attrs entries =
    let long = open_long s heads cells ends at b.raw.beside in
    let rows = length-map heads (row (raw_attr_of s) raw_entry_with (zip cells ends)) in
    let few : at ≤ MOST_FIELDS * length heads = b.few in
    omega (arith, long, rows, few, attrs, entries)
