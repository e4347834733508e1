-- The steps of an analysis, one after the other.
use Rattle.std.proofs.Common.{◌≡◌, ◌<◌, ℕ, false, List, length, Result, Ok, refl, ap, subst, ◌∙◌}
use Rattle.std.specs.List.{All}
use Rattle.ds_base.proofs.Passing.{bind_ok, ok_is}
use Rattle.ds_base.proofs.Refusals.{Refused}
use Rattle.ds_base.specs.declared.fault.Fault.{Fault}
use Rattle.ds_base.specs.declared.fault.ReadError.{ReadError}
use Rattle.ds_base.specs.declared.fault.ReadError.TheVariants as errors
use Rattle.ds_base.specs.Reading.{◌>>=◌}
use Rattle.dwarf_types.specs.declared.address.Addr.{Addr}
use Rattle.dwarf_types.specs.declared.entry.Attr.{Attr}
use Rattle.dwarf_types.specs.declared.entry.Entry.{Entry}
use Rattle.dwarf_types.specs.declared.entry.InUnit.{InUnit}
use Rattle.dwarf_types.specs.declared.entry.RawEntry.{RawEntry}
use Rattle.dwarf_types.specs.Raw.{attr_of, places_of}
use Rattle.addr_map.specs.declared.map.AddrMap.{AddrMap}
use Rattle.expr_resolve.specs.Context.{Context}
use Rattle.unit_tree.specs.Inside.{AreInside}
use Rattle.unit_tree.specs.Meaning.{is_address_index}
use Rattle.object_view.specs.Attributes.{info_context, units_meant}
use Rattle.object_read.specs.Opened.{Opened}
use Rattle.object_view.specs.Ready.{AllAttrs, AllRawAttrs, AreOfUnits, IsLinesInside, IsListAttr, IsRooted, context_among}
use Rattle.object_view.specs.Stages.{MadeOnce, bases_of, info_done, info_meant, lists_meant, tables_meant}
use Rattle.object_view.proofs.Fitting.{info_count, info_listed, info_units, lists_count, units_lines}
use Rattle.object_view.proofs.Understood.{given_is}

-- line tables were read, and the bases of lists are those of the units
module _ (o : Opened) (m : AddrMap) (t : MadeOnce) (units : List InUnit) (meant : List Entry) (with_lines : List InUnit) (bases : List Addr)
    (lines : units_meant o m meant units ≡ Ok with_lines) (are : bases ≡ bases_of units meant) where
  left_to_list : tables_meant o m t units meant ≡ (lists_meant o m t bases meant >>= λ listed. Ok (with_lines, listed))
  left_to_list = rw (lines, are) refl

  pub listed_is : (listed : List Entry) → lists_meant o m t bases meant ≡ Ok listed → tables_meant o m t units meant ≡ Ok (with_lines, listed)
  listed_is listed e = rw (left_to_list, e) refl

  pub unlisted_is : (e : ReadError) → Refused e (lists_meant o m t bases meant) → Refused e (tables_meant o m t units meant)
  unlisted_is (errors.Faulty f) refused = left_to_list ∙ ap (λ (r : Result (List Entry) Fault). r >>= λ listed. Ok (with_lines, listed)) refused
  unlisted_is errors.NoMemory refused = tt

-- entries that are understood
module _ (o : Opened) (m : AddrMap) (t : MadeOnce) (raw : List RawEntry) (now : List Entry) (done : info_done o m t raw ≡ Ok now) where
  abbrev context : ℕ → Context
  context unit = info_context o m t.types unit (context_among t.units unit)

  pub done_lines : (units : List InUnit) → AreInside o.sections (record { units = units; entries = raw }) → All (IsRooted raw) units → All (IsLinesInside o.sections now) units
  done_lines units inside rooted = units_lines o.sections context (places_of raw) raw now units (given_is (info_meant o m t (places_of raw)) raw now done) inside.lines rooted

  abbrev IsListed : ℕ → Attr → Type 0
  IsListed unit a = IsListAttr o.sections (context_among t.units unit).version a

  pub done_listed : AllRawAttrs (λ unit a. is_address_index a.form ≡ false → IsListed unit (attr_of a)) raw → AllAttrs IsListed now
  done_listed listed = info_listed o.sections (λ unit. (context_among t.units unit).version) context (places_of raw) raw now (given_is (info_meant o m t (places_of raw)) raw now done) listed

  pub done_units : (count : ℕ) → All (λ (e : RawEntry). e.unit < count) raw → AreOfUnits count now
  done_units count h = info_units context (places_of raw) count raw now (given_is (info_meant o m t (places_of raw)) raw now done) h

  pub done_count : length now ≡ length raw
  done_count = info_count context (places_of raw) raw now (given_is (info_meant o m t (places_of raw)) raw now done)

-- tables and lists take no entry away
pub tables_count : (o : Opened) (m : AddrMap) (t : MadeOnce) (units : List InUnit) (meant : List Entry) (read : List InUnit × List Entry) → tables_meant o m t units meant ≡ Ok read → length read.1 ≡ length meant
tables_count o m t units meant read e =
    let with_lines = bind_ok (units_meant o m meant units) (λ with_lines. lists_meant o m t (bases_of units meant) meant >>= λ listed. Ok (with_lines, listed)) read e in
    let listed = bind_ok (lists_meant o m t (bases_of units meant) meant) (λ listed. Ok (with_lines.0, listed)) read with_lines.2 in
    let made : List InUnit × List Entry = (with_lines.0, listed.0) in
    subst (λ (r : List InUnit × List Entry). length r.1 ≡ length meant) (ok_is made read listed.2) (lists_count o m t (bases_of units meant) meant listed.0 listed.1)
