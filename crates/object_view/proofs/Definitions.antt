-- The stations of an analysis make what the definition says.
use Rattle.std.proofs.Common.{◌≡◌, ℕ, List, map, Option, Some, None, slice_get, Result, Ok, Err, refl, ap, ◌∙◌}
use Rattle.std.specs.Option.{option_and_then, option_map, option_map_or, unwrap_or}
use Rattle.std.proofs.Math.Path.{fun_ext}
use Rattle.std.proofs.lemmas.Option.{slice_get-map}
use Rattle.ds_base.specs.declared.fault.Fault.{Fault}
use Rattle.ds_base.specs.Reading.{◌>>=◌}
use Rattle.dwarf_types.specs.declared.address.Addr.{Addr}
use Rattle.dwarf_types.specs.declared.address.Addr.TheVariants as addrs
use Rattle.dwarf_types.specs.declared.analysis.Analysis.{Analysis}
use Rattle.dwarf_types.specs.declared.entry.Attr.{Attr}
use Rattle.dwarf_types.specs.declared.entry.Entry.{Entry}
use Rattle.dwarf_types.specs.declared.entry.InUnit.{InUnit}
use Rattle.dwarf_types.specs.declared.entry.RawUnits.{RawUnits}
use Rattle.dwarf_types.specs.declared.entry.RawAttr.{RawAttr}
use Rattle.dwarf_types.specs.declared.entry.RawEntry.{RawEntry}
use Rattle.dwarf_types.specs.declared.value.Value.{Value}
use Rattle.dwarf_types.specs.Raw.{entry_of, places_of}
use Rattle.addr_map.specs.declared.map.AddrMap.{AddrMap}
use Rattle.frame_table.specs.Frames.{frames_of}
use Rattle.moved_parts.specs.Frames.{frames_moved}
use Rattle.object_view.specs.Analysis.{units_analysed}
use Rattle.object_view.specs.Attributes.{all_marked, base_of, entries_by, entries_meant, info_context, info_step, locations_context, locations_meant, locations_step, ranges_meant, ranges_step, raw_entries_by, unit_base, units_meant, value_meant}
use Rattle.object_read.specs.Opened.{Opened}
use Rattle.object_view.specs.Ready.{base_at, context_among}
use Rattle.object_view.specs.Code.{code_of}
use Rattle.object_view.specs.Stages.{MadeOnce, analysed, bases_of, finished, info_done, info_meant, lists_meant, location_meant, made_of, range_meant, tables_meant}
use Rattle.object_view.specs.declared.units.UnitContext.{UnitContext}
use Rattle.object_view.specs.Units.{base_types, context_of, contexts_of, no_unit, unit_context}

-- ---- look-ups in lists

mapped_or : {X Y : Type 0} (f : X → Y) (o : Option X) (d : Y) → unwrap_or (option_map f o) d ≡ option_map_or f o d
mapped_or f None d = refl
mapped_or f (Some x) d = refl

look_up : {X Y : Type 0} (f : X → Y) (xs : List X) (i : ℕ) (d : Y) → unwrap_or (slice_get (map f xs) i) d ≡ option_map_or f (slice_get xs i) d
look_up f xs i d = ap (λ (o : Option _). unwrap_or o d) (slice_get-map f xs i) ∙ mapped_or f (slice_get xs i) d

base_found : (entries : List Entry) (o : Option InUnit)
    → option_map_or (λ (u : InUnit). option_map_or base_of (slice_get entries u.first) (addrs.Fixed 0)) o (addrs.Fixed 0) ≡ option_map_or base_of (option_and_then (λ (u : InUnit). slice_get entries u.first) o) (addrs.Fixed 0)
base_found entries None = refl
base_found entries (Some u) = refl

pub base_same : (units : List InUnit) (entries : List Entry) (unit : ℕ) → base_at (bases_of units entries) unit ≡ unit_base units entries unit
base_same units entries unit = look_up (λ (u : InUnit). option_map_or base_of (slice_get entries u.first) (addrs.Fixed 0)) units unit (addrs.Fixed 0) ∙ base_found entries (slice_get units unit)

pub context_same : (units : List InUnit) (entries : List RawEntry) (unit : ℕ) → context_among (contexts_of entries units) unit ≡ unit_context units entries unit
context_same units entries unit = look_up (context_of entries) units unit no_unit

-- ---- values made of others

pub from_made : {A B C : Type 0} (a : Result A Fault) (make : A → B) (f : B → Result C Fault) → ((a >>= λ x. Ok (make x)) >>= f) ≡ (a >>= λ x. f (make x))
from_made (Ok x) make f = refl
from_made (Err e) make f = refl

pub from_both : {A B C D : Type 0} (a : Result A Fault) (b : A → Result B Fault) (make : A → B → C) (f : C → Result D Fault) → ((a >>= λ x. b x >>= λ y. Ok (make x y)) >>= f) ≡ (a >>= λ x. b x >>= λ y. f (make x y))
from_both (Ok x) b make f = from_made (b x) (make x) f
from_both (Err e) b make f = refl

-- ---- steps

abbrev Meant : Type 0
Meant = ℕ → Attr → Result Value Fault

same_step : {A : Type 0} (f g : ℕ → A → Result Value Fault) → ((unit : ℕ) (a : A) → f unit a ≡ g unit a) → f ≡ g
same_step f g same = fun_ext (λ unit. fun_ext (λ a. same unit a))

module _ (o : Opened) (m : AddrMap) (raw : RawUnits) where
  abbrev made : MadeOnce
  made = made_of raw.units raw.entries

  -- the attributes of a unit, by what is known of it
  abbrev info_in : UnitContext → ℕ → RawAttr → Result Value Fault
  info_in u unit a = value_meant (info_context o m (base_types raw.entries) unit u) (places_of raw.entries) a a.value

  abbrev range_in : UnitContext → Addr → Attr → Result Value Fault
  range_in u base a = ranges_meant o m u base a a.value

  abbrev location_in : UnitContext → Addr → ℕ → Attr → Result Value Fault
  location_in u base unit a = locations_meant (locations_context o m (base_types raw.entries) unit u) base a a.value

  -- what is known of the unit of a number
  abbrev known : ℕ → UnitContext
  known unit = unit_context raw.units raw.entries unit

  known_same : (unit : ℕ) → context_among made.units unit ≡ known unit
  known_same unit = context_same raw.units raw.entries unit

  info_same : info_done o m made raw.entries ≡ entries_meant o m raw
  info_same = ap (λ (step : ℕ → RawAttr → Result Value Fault). raw_entries_by step raw.entries >>= λ done. Ok (map entry_of done))
      (same_step (info_meant o m made (places_of raw.entries)) (info_step o m raw) (λ unit a. ap (λ (u : UnitContext). info_in u unit a) (known_same unit)))

  module _ (meant : List Entry) where
    abbrev bases : List Addr
    bases = bases_of raw.units meant

    range_same : range_meant o m made bases ≡ ranges_step o m raw meant
    range_same = same_step (range_meant o m made bases) (ranges_step o m raw meant)
        (λ unit a. ap (λ (u : UnitContext). range_in u (base_at bases unit) a) (known_same unit) ∙ ap (λ (base : Addr). range_in (known unit) base a) (base_same raw.units meant unit))

    location_same : location_meant o m made bases ≡ locations_step o m raw meant
    location_same = same_step (location_meant o m made bases) (locations_step o m raw meant)
        (λ unit a. ap (λ (u : UnitContext). location_in u (base_at bases unit) unit a) (known_same unit) ∙ ap (λ (base : Addr). location_in (known unit) base unit a) (base_same raw.units meant unit))

    abbrev ranged : Result (List Entry) Fault
    ranged = entries_by (ranges_step o m raw meant) (all_marked meant)

    abbrev located : List Entry → Result (List Entry) Fault
    located entries = entries_by (locations_step o m raw meant) entries

    lists_same : lists_meant o m made bases meant ≡ (ranged >>= located)
    lists_same =
        ap (λ (step : Meant). entries_by step (all_marked meant) >>= λ entries. entries_by (location_meant o m made bases) entries) range_same
        ∙ ap (λ (step : Meant). ranged >>= λ entries. entries_by step entries) location_same

    -- the end, as the definition has it
    abbrev last : List InUnit → List Entry → Result Analysis Fault
    last units entries = do
      frames ← frames_of o.image o.relocs.frame o.sections.frame
      Ok (record { units = units; entries = entries; code = code_of m entries; frames = frames_moved m frames })

    last_same : finished o m ≡ last
    last_same = fun_ext (λ units. fun_ext (λ entries.
        from_made (frames_of o.image o.relocs.frame o.sections.frame) (λ frames. (frames_moved m frames, code_of m entries)) (λ r. Ok (record { units = units; entries = entries; code = r.1; frames = r.0 }))))

    -- what is left once attributes of `__debug_info` are understood
    abbrev behind_info : Result Analysis Fault
    behind_info = do
      read ← tables_meant o m made raw.units meant
      finished o m read.0 read.1

    abbrev by_end : (List InUnit → List Entry → Result Analysis Fault) → Result Analysis Fault
    by_end end = do
      with_lines ← units_meant o m meant raw.units
      entries ← ranged
      listed ← located entries
      end with_lines listed

    abbrev defined : Result Analysis Fault
    defined = by_end last

    grouped : (a : Result (List Entry) Fault) (f : List Entry → Result (List Entry) Fault) (g : List Entry → Result Analysis Fault) → ((a >>= f) >>= g) ≡ (a >>= λ x. f x >>= g)
    grouped (Ok x) f g = refl
    grouped (Err e) f g = refl

    after_lists : (with_lines : List InUnit) → (lists_meant o m made bases meant >>= λ listed. finished o m with_lines listed) ≡ (ranged >>= λ entries. located entries >>= λ listed. finished o m with_lines listed)
    after_lists with_lines = ap (λ (r : Result (List Entry) Fault). r >>= λ listed. finished o m with_lines listed) lists_same ∙ grouped ranged located (λ listed. finished o m with_lines listed)

    behind_same : behind_info ≡ defined
    behind_same =
        from_both (units_meant o m meant raw.units) (λ with_lines. lists_meant o m made bases meant) (λ with_lines listed. (with_lines, listed)) (λ r. finished o m r.0 r.1)
        ∙ ap (λ (f : List InUnit → Result Analysis Fault). units_meant o m meant raw.units >>= f) (fun_ext (λ with_lines. after_lists with_lines)) ∙ ap by_end last_same

-- the stations make the analysis
pub analysed_same : (o : Opened) (m : AddrMap) (raw : RawUnits) → analysed o m raw ≡ units_analysed o m raw
unfolding units_analysed
analysed_same o m raw =
    ap (λ (f : List Entry → Result Analysis Fault). info_done o m (made_of raw.units raw.entries) raw.entries >>= f) (fun_ext (λ meant. behind_same o m raw meant))
    ∙ ap (λ (r : Result (List Entry) Fault). r >>= defined o m raw) (info_same o m raw)
