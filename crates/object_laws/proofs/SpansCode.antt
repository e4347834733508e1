-- The code of subprograms in the linked program has spans that are some.
use Rattle.std.proofs.Common.{ℕ, ◌+◌, ◌==◌, Bool, true, false, List, [], ◌∷◌, ◌++◌, map, nat_le, Option, Some, None, inl, inr}
use Rattle.std.specs.Prelude.{if◌then◌else◌}
use Rattle.std.specs.List.{All, AllByRecursion, find, enumerate_from}
use Rattle.std.specs.Option.{option_and_then, option_map, option_map_or}
use Rattle.std.proofs.lemmas.Bool.{cases_Bool}
use Rattle.std.proofs.lemmas.List.Elements.{All-from_recursion, recursion_from_All}
use Rattle.ds_base.specs.DwarfNumbers.{DW_AT_high_pc, DW_AT_low_pc, DW_AT_ranges, DW_TAG_subprogram}
use Rattle.dwarf_types.specs.declared.address.Span.{Span}
use Rattle.dwarf_types.specs.declared.analysis.CodeRange.{CodeRange}
use Rattle.dwarf_types.specs.declared.entry.Attr.{Attr}
use Rattle.dwarf_types.specs.declared.entry.Entry.{Entry}
use Rattle.dwarf_types.specs.declared.value.Value.{Value}
use Rattle.dwarf_types.specs.declared.value.Value.TheVariants as values
use Rattle.dwarf_types.specs.Moves.{spans_in, value_of}
use Rattle.dwarf_types.specs.WellValues.{IsSpan}
use Rattle.addr_map.specs.declared.map.AddrMap.{AddrMap}
use Rattle.addr_map.specs.Moved.{pieces}
use Rattle.addr_map.specs.Sound.{IsSound}
use Rattle.object_view.specs.Code.{code_of, code_ranges, end_from, low_high_pieces, object_address, pieces_to, ranges_pieces}
use Rattle.linked_laws.specs.Spellable.{IsSpellableAttr, IsSpellableEntry, IsSpellableValue}
use Rattle.object_laws.proofs.Spans.{both_all, all_given, pieces_in}

-- ---- from an address to an end

to_end : (m : AddrMap) (low high : ℕ) → IsSound m → AllByRecursion IsSpan (pieces_to m low high)
to_end m low high sound = elim (cases_Bool (nat_le low high)) [
  | inl is ↦ rw is (pieces_in m low high sound)
  | inr other ↦ rw other tt
]

from_low : (m : AddrMap) (low : ℕ) (high : Option ℕ) → IsSound m → AllByRecursion IsSpan (option_map_or (pieces_to m low) high [])
from_low m low None sound = tt
from_low m low (Some high) sound = to_end m low high sound

from_both : (m : AddrMap) (low : Option ℕ) (high : ℕ → Option ℕ) → IsSound m → AllByRecursion IsSpan (option_map_or (λ low. option_map_or (pieces_to m low) (high low) []) low [])
from_both m None high sound = tt
from_both m (Some low) high sound = from_low m low (high low) sound

low_high_in : (m : AddrMap) (e : Entry) → IsSound m → AllByRecursion IsSpan (low_high_pieces m e)
low_high_in m e sound = from_both m (option_and_then object_address (value_of DW_AT_low_pc e)) (λ low. option_and_then (end_from low) (value_of DW_AT_high_pc e)) sound

-- ---- code ranges

-- the range list of an entry has spans that are some
abbrev pub HasSpans : Entry → Type 0
HasSpans e = All IsSpan (ranges_pieces e)

numbered : (k : ℕ) (spans : List Span) → AllByRecursion IsSpan spans → AllByRecursion (λ (piece : CodeRange). IsSpan piece.span) (map (λ span. record { entry = k; span = span }) spans)
numbered k [] all = tt
numbered k (span ∷ spans) all = (all.0, numbered k spans all.1)

chosen : (b : Bool) (pieces : List CodeRange) → AllByRecursion (λ (piece : CodeRange). IsSpan piece.span) pieces → AllByRecursion (λ (piece : CodeRange). IsSpan piece.span) (if b then pieces else [])
chosen true pieces all = all
chosen false pieces all = tt

code_in : (m : AddrMap) → IsSound m → (e : ℕ × Entry) → HasSpans e.1 → AllByRecursion (λ (piece : CodeRange). IsSpan piece.span) (code_ranges m e)
code_in m sound e has = chosen (e.1.tag == DW_TAG_subprogram) _
    (numbered e.0 (ranges_pieces e.1 ++ low_high_pieces m e.1) (both_all IsSpan (ranges_pieces e.1) (low_high_pieces m e.1) (recursion_from_All IsSpan (ranges_pieces e.1) has) (low_high_in m e.1 sound)))

counted : (k : ℕ) (entries : List Entry) → AllByRecursion HasSpans entries → AllByRecursion (λ (e : ℕ × Entry). HasSpans e.1) (enumerate_from k entries)
counted k [] all = tt
counted k (e ∷ entries) all = (all.0, counted (k + 1) entries all.1)

pub code_has : (m : AddrMap) (entries : List Entry) → IsSound m → All HasSpans entries → All (λ (piece : CodeRange). IsSpan piece.span) (code_of m entries)
code_has m entries sound has = All-from_recursion (λ (piece : CodeRange). IsSpan piece.span) (code_of m entries)
    (all_given (λ (e : ℕ × Entry). HasSpans e.1) (λ (piece : CodeRange). IsSpan piece.span) (code_ranges m) (code_in m sound) (enumerate_from 0 entries) (counted 0 entries (recursion_from_All HasSpans entries has)))

-- ---- of entries that are given

spans_given : (version name : ℕ) (value : Value) → IsSpellableValue version name value → All IsSpan (spans_in value)
spans_given version name (values.Ranges spans) given = given.1
spans_given version name (values.Address place) given = All-from_recursion IsSpan [] tt
spans_given version name (values.Text text) given = All-from_recursion IsSpan [] tt
spans_given version name (values.Number form bits) given = All-from_recursion IsSpan [] tt
spans_given version name (values.Wide bytes) given = All-from_recursion IsSpan [] tt
spans_given version name (values.Block form bytes) given = All-from_recursion IsSpan [] tt
spans_given version name (values.Expr ops) given = All-from_recursion IsSpan [] tt
spans_given version name (values.Ref k) given = All-from_recursion IsSpan [] tt
spans_given version name (values.Locations items) given = All-from_recursion IsSpan [] tt
spans_given version name values.Lines given = All-from_recursion IsSpan [] tt
spans_given version name (values.Offset n) given = All-from_recursion IsSpan [] tt

found_given : (version : ℕ) (p : Attr → Bool) (attrs : List Attr) → AllByRecursion (IsSpellableAttr version) attrs → All IsSpan (option_map_or spans_in (option_map (λ (a : Attr). a.value) (find p attrs)) [])
found_given version p [] all = All-from_recursion IsSpan [] tt
found_given version p (a ∷ attrs) all = elim (cases_Bool (p a)) [
  | inl is ↦ let given = all.0 in rw is (spans_given version a.name a.value given.value)
  | inr other ↦ rw other (found_given version p attrs all.1)
]

-- entries of units that have versions
abbrev pub IsSpellableIn : (ℕ → ℕ) → Entry → Type 0
IsSpellableIn v e = IsSpellableEntry (v e.unit) e

has_given : (v : ℕ → ℕ) (entries : List Entry) → AllByRecursion (IsSpellableIn v) entries → AllByRecursion HasSpans entries
has_given v [] all = tt
has_given v (e ∷ entries) all =
    let given = all.0 in
    (found_given (v e.unit) (λ (a : Attr). a.name == DW_AT_ranges) e.attrs (recursion_from_All (IsSpellableAttr (v e.unit)) e.attrs given.attrs), has_given v entries all.1)

pub code_given : (v : ℕ → ℕ) (m : AddrMap) (entries : List Entry) → IsSound m → All (IsSpellableIn v) entries → All (λ (piece : CodeRange). IsSpan piece.span) (code_of m entries)
code_given v m entries sound given = code_has m entries sound (All-from_recursion HasSpans entries (has_given v entries (recursion_from_All (IsSpellableIn v) entries given)))
