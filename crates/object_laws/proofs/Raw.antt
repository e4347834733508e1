-- Entries that were read, without the places of their values.
use Rattle.std.proofs.Common.{◌≡◌, ◌∙◌, ℕ, List, [], ◌∷◌, map, Option, Some, None, slice_get, refl, sym, ap}
use Rattle.std.specs.Option.{option_map}
use Rattle.std.proofs.lemmas.Option.{slice_get-map}
use Rattle.dwarf_types.specs.declared.entry.Entry.{Entry}
use Rattle.dwarf_types.specs.declared.entry.RawEntry.{RawEntry}
use Rattle.dwarf_types.specs.Raw.{entry_of}
use Rattle.object_view.proofs.Kept.{Kept, KeptRaw, bare, raw_bare}

-- an entry stands where the one that was read does
pub raw_stands : (raw : List RawEntry) (k : ℕ) (e : RawEntry) → slice_get raw k ≡ Some e → slice_get (map entry_of raw) k ≡ Some (entry_of e)
raw_stands raw k e is = slice_get-map entry_of raw k ∙ ap (option_map entry_of) is

found : (o : Option RawEntry) (e : Entry) → option_map entry_of o ≡ Some e → (x : RawEntry) × (o ≡ Some x) × (e ≡ entry_of x)
found None e is = absurd cc
found (Some x) e is = (x, refl, cc)

-- and only there
pub raw_stood : (raw : List RawEntry) (k : ℕ) (e : Entry) → slice_get (map entry_of raw) k ≡ Some e → (x : RawEntry) × (slice_get raw k ≡ Some x) × (e ≡ entry_of x)
raw_stood raw k e is = found (slice_get raw k) e (sym (slice_get-map entry_of raw k) ∙ is)

bare_same : (raw : List RawEntry) → map bare (map entry_of raw) ≡ map raw_bare raw
bare_same [] = refl
bare_same (e ∷ raw) = ap (λ (es : List Entry). raw_bare e ∷ es) (bare_same raw)

pub kept_entries : (now : List Entry) (raw : List RawEntry) → KeptRaw now raw → Kept now (map entry_of raw)
kept_entries now raw kept = kept ∙ sym (bare_same raw)
