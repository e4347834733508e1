-- Frames written one after the other are the section.
use Rattle.std.proofs.Common.{◌≡◌, ℕ, ◌+◌, ◌-◌, Bool, true, false, List, [], ◌∷◌, ◌++◌, length, fold, Option, None, Some, is_some, if◌then◌else◌, refl, sym, ap, ◌∙◌, append_assoc, arith, length-append, ◌<◌, ◌≤◌, drop, get_or}
use Rattle.std.specs.List.{flat_map, sum_by}
use Rattle.std.specs.Option.{option_map, option_or, unwrap_or}
use Rattle.std.specs.Str.{bytes_eq}
use Rattle.std.specs.Cmp.Lexicographic.{nat_list_eq_equiv}
use Rattle.std.proofs.lemmas.List.{append-nil}
use Rattle.std.proofs.lemmas.List.Concat.{flat_map-append}
use Rattle.std.proofs.lemmas.List.Sums.{sum_by-append}
use Rattle.ds_base.proofs.Lookups.{lookup-push}
use Rattle.ds_base.proofs.Walking.{drop_one}
use Rattle.dwarf_types.specs.declared.frames.OutFrame.{OutFrame}
use Rattle.dwarf_types.specs.Frames.{FrameEntry, cie_place, frame_entries, frame_entry_bytes, frame_entry_len, frames_bytes}
use Rattle.frame_write.specs.Known.{Known, bytes_from, cie_bytes, fde_bytes, frame_bytes, new_bytes, place_in, told, with_cie}
use Rattle.frame_write.proofs.Entries.{added, among-append, among_is, entries_stay, frame_entries_are, place_among, with_frame, with_frame_is}

abbrev AreKnown : Known → List FrameEntry → Type 0
AreKnown known es = (cie : List ℕ) → place_in known cie ≡ place_among es cie

-- the place of an FDE's CIE is that of an entry
added_place : (o : Option ℕ) (f : OutFrame) (cie : List ℕ) → place_among (added o f) cie ≡ (if is_some o then None else if bytes_eq f.cie cie then Some 0 else None)
added_place (Some place) f cie = refl
added_place None f cie = refl

module _ (known : Known) (es : List FrameEntry) (f : OutFrame) (at : ℕ) (same : AreKnown known es) (is : at ≡ sum_by frame_entry_len es) where
  mine : List FrameEntry
  mine = added (place_among es f.cie) f

  -- the places of the CIEs stay known
  still_known : AreKnown (with_cie known f.cie at) (es ++ added (place_among es f.cie) f)
  still_known cie =
      ap (λ (o : Option ℕ). place_in (if is_some o then known else known ++ (f.cie, at) ∷ []) cie) (same f.cie)
      ∙ by (place_among es f.cie)
      ∙ sym (among-append es (added (place_among es f.cie) f) cie)
    where
      by : (o : Option ℕ) → place_in (if is_some o then known else known ++ (f.cie, at) ∷ []) cie ≡ option_or (place_among es cie) (option_map (λ n. sum_by frame_entry_len es + n) (place_among (added o f) cie))
      by (Some place) = same cie ∙ last (place_among es cie)
        where
          last : (o : Option ℕ) → o ≡ option_or o None
          last None = refl
          last (Some n) = refl
      by None =
          lookup-push (bytes_eq cie) known f.cie at
          ∙ ap (λ (o : Option ℕ). option_or o (if bytes_eq cie f.cie then Some at else None)) (same cie)
          ∙ ap (λ (b : Bool). option_or (place_among es cie) (if b then Some at else None)) (nat_list_eq_equiv.symm cie f.cie)
          ∙ ap (option_or (place_among es cie)) (here (bytes_eq f.cie cie))
        where
          here : (b : Bool) → (if b then Some at else None) ≡ option_map (λ n. sum_by frame_entry_len es + n) (if b then Some 0 else None)
          here true = ap (λ (n : ℕ). Some n) (omega (arith, is))
          here false = refl

  -- the CIE stands where it is told
  told_there : (more : List FrameEntry) → cie_place ((es ++ added (place_among es f.cie) f) ++ more) f.cie ≡ told known f.cie at
  told_there more =
      among_is (es ++ added (place_among es f.cie) f) more f.cie (told known f.cie at)
      (among-append es (added (place_among es f.cie) f) f.cie ∙ by (place_among es f.cie) ∙ ap (λ (o : Option ℕ). Some (unwrap_or o at)) (sym (same f.cie)))
    where
      by : (o : Option ℕ) → option_or o (option_map (λ n. sum_by frame_entry_len es + n) (place_among (added o f) f.cie)) ≡ Some (unwrap_or o at)
      by (Some place) = refl
      by None = rw (nat_list_eq_equiv.refl f.cie) (ap (λ (n : ℕ). Some n) (omega (arith, is)))

  -- what is written of a frame are the entries that it adds
  bytes_added : (all : List FrameEntry) → cie_place all f.cie ≡ told known f.cie at → flat_map (frame_entry_bytes all) (added (place_among es f.cie) f) ≡ frame_bytes known f at
  bytes_added all there =
      by (place_among es f.cie)
      ∙ ap (λ (o : Option ℕ). (if is_some o then [] else cie_bytes f.cie) ++ fde_bytes (cie_place all f.cie) f) (sym (same f.cie))
      ∙ ap (λ (place : ℕ). new_bytes known f.cie ++ fde_bytes place f) there
    where
      by : (o : Option ℕ) → flat_map (frame_entry_bytes all) (added o f) ≡ (if is_some o then [] else cie_bytes f.cie) ++ fde_bytes (cie_place all f.cie) f
      by (Some place) = append-nil (fde_bytes (cie_place all f.cie) f)
      by None = ap (λ (bytes : List ℕ). cie_bytes f.cie ++ bytes) (append-nil (fde_bytes (cie_place all f.cie) f))

  length_added : sum_by frame_entry_len (added (place_among es f.cie) f) ≡ length (frame_bytes known f at)
  length_added = by (place_among es f.cie) ∙ ap (λ (o : Option ℕ). length ((if is_some o then [] else cie_bytes f.cie) ++ fde_bytes (told known f.cie at) f)) (sym (same f.cie))
    where
      by : (o : Option ℕ) → sum_by frame_entry_len (added o f) ≡ length ((if is_some o then [] else cie_bytes f.cie) ++ fde_bytes (told known f.cie at) f)
      by (Some place) = omega arith
      by None = omega (arith, length-append (cie_bytes f.cie) (fde_bytes (told known f.cie at) f))

-- behind the entries so far, the rest of the frames gives the rest of the section
rest_is : (frames : List OutFrame) (known : Known) (es : List FrameEntry) (at : ℕ) (all : List FrameEntry) → AreKnown known es → at ≡ sum_by frame_entry_len es → fold with_frame es frames ≡ all
    → flat_map (frame_entry_bytes all) es ++ bytes_from known at frames ≡ flat_map (frame_entry_bytes all) all
rest_is [] known es at all same is whole = append-nil (flat_map (frame_entry_bytes all) es) ∙ ap (flat_map (frame_entry_bytes all)) whole
rest_is (f ∷ frames) known es at all same is whole =
    let mine = added (place_among es f.cie) f in
    let step = frame_bytes known f at in
    let more = entries_stay (with_frame es f) frames in
    let entries : all ≡ (es ++ mine) ++ more.0 = sym whole ∙ more.1 ∙ ap (λ (front : List FrameEntry). front ++ more.0) (with_frame_is es f) in
    let there : cie_place all f.cie ≡ told known f.cie at = ap (λ (xs : List FrameEntry). cie_place xs f.cie) entries ∙ told_there known es f at same is more.0 in
    let rest = bytes_from (with_cie known f.cie at) (at + length step) frames in
    let next : flat_map (frame_entry_bytes all) (es ++ mine) ≡ flat_map (frame_entry_bytes all) es ++ step =
    flat_map-append (frame_entry_bytes all) es mine ∙ ap (λ (bytes : List ℕ). flat_map (frame_entry_bytes all) es ++ bytes) (bytes_added known es f at same is all there) in
    let ends : at + length step ≡ sum_by frame_entry_len (es ++ mine) = omega (arith, is, sum_by-append frame_entry_len es mine, length_added known es f at same is) in
    sym (append_assoc (flat_map (frame_entry_bytes all) es) step rest)
    ∙ ap (λ (front : List ℕ). front ++ rest) (sym next)
    ∙ rest_is frames (with_cie known f.cie at) (es ++ mine) (at + length step) all (still_known known es f at same is) ends (ap (λ (xs : List FrameEntry). fold with_frame xs frames) (sym (with_frame_is es f)) ∙ whole)

pub frames_bytes_are : (frames : List OutFrame) → bytes_from [] 0 frames ≡ frames_bytes frames
frames_bytes_are frames = rest_is frames [] [] 0 (frame_entries frames) (λ cie. refl) refl (sym (frame_entries_are frames))

-- ---- the loop

-- what a frame adds, and what the frames behind it add
pub next_frame : (known : Known) (at : ℕ) (frames : List OutFrame) (i : ℕ) (f : OutFrame) → i < length frames → f ≡ get_or frames i f
    → bytes_from known at (drop i frames) ≡ frame_bytes known f at ++ bytes_from (with_cie known f.cie at) (at + length (frame_bytes known f at)) (drop (i + 1) frames)
next_frame known at frames i f lt is = ap (bytes_from known at) (drop_one frames i f lt is)

-- frame i is appended, and the others are still to come
pub frame_appended : (known after : Known) (out new all : List ℕ) (start at : ℕ) (frames : List OutFrame) (i : ℕ) (f : OutFrame) → i < length frames → f ≡ get_or frames i f
    → start ≤ length out → at ≡ length out - start → new ≡ out ++ frame_bytes known f at → after ≡ with_cie known f.cie at
    → out ++ bytes_from known (length out - start) (drop i frames) ≡ all
    → (start ≤ length new) × (new ++ bytes_from after (length new - start) (drop (i + 1) frames) ≡ all)
frame_appended known after out new all start at frames i f lt is le at_is new_is after_is so_far =
    let step = frame_bytes known f at in
    let others = drop (i + 1) frames in
    let len : length new ≡ length out + length step = ap length new_is ∙ length-append out step in
    let next : length new - start ≡ at + length step = omega (arith, len, le, at_is) in (
      omega (arith, len, le),
      ap (λ (bytes : List ℕ). bytes ++ bytes_from after (length new - start) others) new_is
          ∙ append_assoc out step (bytes_from after (length new - start) others)
          ∙ ap (λ (k : Known). out ++ (step ++ bytes_from k (length new - start) others)) after_is
          ∙ ap (λ (n : ℕ). out ++ (step ++ bytes_from (with_cie known f.cie at) n others)) next
          ∙ ap (λ (bytes : List ℕ). out ++ bytes) (sym (next_frame known at frames i f lt is))
          ∙ ap (λ (n : ℕ). out ++ bytes_from known n (drop i frames)) at_is
          ∙ so_far,
    )
