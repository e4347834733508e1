-- What rows of frames stand for, as their columns grow and are put behind others.
use Rattle.std.proofs.Common.{◌≡◌, ℕ, ◌+◌, ◌-◌, ◌<◌, ◌≤◌, List, [], ◌∷◌, ◌++◌, Option, Some, None, map, length, append_assoc, drop, take, get_or, slice_get, All, refl, ap, ap₂, sym, ◌∙◌, arith}
use Rattle.std.proofs.Math.Seq.{drop-append-add}
use Rattle.std.proofs.lemmas.List.{get_or-append-add, get_or-map, get_or_default, length-append, length-map, map-append, map_push}
use Rattle.std.proofs.lemmas.List.Elements.{All-append, All-cons, All-head, All-map, All-nil, All-tail, All-weaker}
use Rattle.std.proofs.lemmas.Option.{slice_get-get_or, slice_get-map}
use Rattle.std.specs.Option.{option_map}
use Rattle.ds_base.proofs.Walking.{drop_one}
use Rattle.dwarf_types.specs.declared.address.Addr.TheVariants as addrs
use Rattle.dwarf_types.specs.declared.frame_columns.Before.{Before}
use Rattle.dwarf_types.specs.declared.frame_columns.FrameParts.{FrameParts}
use Rattle.dwarf_types.specs.declared.frame_columns.FrameSides.{FrameSides}
use Rattle.dwarf_types.specs.declared.runs.Run.{Run}
use Rattle.dwarf_types.specs.declared.frames.OutFrame.{OutFrame}
use Rattle.dwarf_types.specs.declared.frames.OutRow.{OutRow}
use Rattle.dwarf_types.specs.declared.frames.RawFrame.{RawFrame}
use Rattle.dwarf_types.specs.declared.frames.RawRow.{RawRow}
use Rattle.dwarf_types.specs.Cells.{Begins}
use Rattle.dwarf_types.specs.FrameColumns.{AreCies, IsHeld, OutHeld, RawHeld, SidesGrow, code_of, content_of, linked_rows, out_frame_of, out_row_moved, raw_frame_of, run_moved}
use Rattle.dwarf_types.specs.Runs.{InRun, no_run, run_of}
use Rattle.dwarf_types.specs.SeenFrames.{at_addresses}
use Rattle.dwarf_types.proofs.Heads.{maps_same}
use Rattle.dwarf_types.proofs.Kept.{get_begins, longer, range_begins}

-- ---- columns that grow

begins_twice : {A : Type 0} (xs ys zs : List A) → Begins xs ys → Begins ys zs → Begins xs zs
begins_twice xs ys zs b c = (b.0 ++ c.0, c.1 ∙ (ap (λ ws. ws ++ c.0) b.1 ∙ append_assoc xs b.0 c.0))

pub grows_twice : (r s t : FrameSides) → SidesGrow r s → SidesGrow s t → SidesGrow r t
grows_twice r s t g h = record { cies = begins_twice _ _ _ g.cies h.cies; bytes = begins_twice _ _ _ g.bytes h.bytes }

pub content_kept : (old new : FrameSides) → SidesGrow old new → AreCies old → (n : ℕ) → n < length old.cies.items → content_of new n ≡ content_of old n
content_kept old new g cies n lt =
    let run : Run = get_or old.cies.items n no_run in
    let within : InRun old.bytes.items run = cies n no_run lt in
    rw (get_begins _ _ n no_run g.cies lt) (range_begins _ _ run.from run.to g.bytes within.0 within.1)

code_kept : (old new : FrameSides) → SidesGrow old new → (p : FrameParts) → IsHeld old p → code_of new p ≡ code_of old p
code_kept old new g p w = range_begins _ _ p.code.from p.code.to g.bytes w.1.0 w.1.1

pub held_grows : (old new : FrameSides) → SidesGrow old new → (p : FrameParts) → IsHeld old p → IsHeld new p
held_grows old new g p w =
    let cies = longer _ _ g.cies in
    let bytes = longer _ _ g.bytes in
    let lt : p.cie < length old.cies.items = w.0 in
    let up : p.code.from ≤ p.code.to = w.1.0 in
    let inside : p.code.to ≤ length old.bytes.items = w.1.1 in
    (omega arith, (up, omega arith))

abbrev raw_with : RawRow → List ℕ → List ℕ → RawFrame
raw_with r cie code = record { cie = cie; at = r.at; length = r.parts.length; code = code }

abbrev out_with : OutRow → List ℕ → List ℕ → OutFrame
out_with r cie code = record { cie = cie; address = r.address; length = r.parts.length; code = code }

raw_kept : (old new : FrameSides) → SidesGrow old new → AreCies old → (r : RawRow) → RawHeld old r → raw_frame_of new r ≡ raw_frame_of old r
raw_kept old new g cies r w = ap₂ (raw_with r) (content_kept old new g cies r.parts.cie w.0) (code_kept old new g r.parts w)

out_kept : (old new : FrameSides) → SidesGrow old new → AreCies old → (r : OutRow) → OutHeld old r → out_frame_of new r ≡ out_frame_of old r
out_kept old new g cies r w = ap₂ (out_with r) (content_kept old new g cies r.parts.cie w.0) (code_kept old new g r.parts w)

pub raw_grows : (old new : FrameSides) → SidesGrow old new → AreCies old → (rows : List RawRow) → All (RawHeld old) rows → map (raw_frame_of new) rows ≡ map (raw_frame_of old) rows
raw_grows old new g cies = maps_same (RawHeld old) (raw_frame_of old) (raw_frame_of new) (raw_kept old new g cies)

pub out_grows : (old new : FrameSides) → SidesGrow old new → AreCies old → (rows : List OutRow) → All (OutHeld old) rows → map (out_frame_of new) rows ≡ map (out_frame_of old) rows
out_grows old new g cies = maps_same (OutHeld old) (out_frame_of old) (out_frame_of new) (out_kept old new g cies)

pub raw_held_grow : (old new : FrameSides) → SidesGrow old new → (rows : List RawRow) → All (RawHeld old) rows → All (RawHeld new) rows
raw_held_grow old new g = All-weaker (RawHeld old) (RawHeld new) (λ r. held_grows old new g r.parts)

pub out_held_grow : (old new : FrameSides) → SidesGrow old new → (rows : List OutRow) → All (OutHeld old) rows → All (OutHeld new) rows
out_held_grow old new g = All-weaker (OutHeld old) (OutHeld new) (λ r. held_grows old new g r.parts)

-- ---- a row that is put last

pub raw_push : (old new : FrameSides) → SidesGrow old new → AreCies old → (rows : List RawRow) (r : RawRow) (cie code : List ℕ) → All (RawHeld old) rows → content_of new r.parts.cie ≡ cie → code_of new r.parts ≡ code → map (raw_frame_of new) (rows ++ r ∷ []) ≡ map (raw_frame_of old) rows ++ raw_with r cie code ∷ []
raw_push old new g cies rows r cie code held content own =
    map_push (raw_frame_of new) rows r ∙ ap₂ (λ (xs : List RawFrame) (x : RawFrame). xs ++ x ∷ []) (raw_grows old new g cies rows held) (ap₂ (raw_with r) content own)

-- the content that a frame has of its row
pub content_read : (s : FrameSides) (rows : List RawRow) (k : ℕ) (r : RawRow) (f : RawFrame) → k < length rows → r ≡ get_or rows k r → slice_get (map (raw_frame_of s) rows) k ≡ Some f → content_of s r.parts.cie ≡ f.cie
content_read s rows k r f lt is its =
    let read : slice_get (map (raw_frame_of s) rows) k ≡ Some (raw_frame_of s r) = slice_get-map (raw_frame_of s) rows k ∙ ap (option_map (raw_frame_of s)) (slice_get-get_or rows k r lt ∙ ap Some (sym is)) in
    let same : Some (raw_frame_of s r) ≡ Some f = sym read ∙ its in
    let frame : raw_frame_of s r ≡ f = cc in
    ap (λ (x : RawFrame). x.cie) frame

-- ---- rows with addresses

pub linked_means : (s : FrameSides) (rows : List RawRow) (addresses : List (Option ℕ)) → map (out_frame_of s) (linked_rows rows addresses) ≡ at_addresses (map (raw_frame_of s) rows) addresses
linked_means s [] addresses = refl
linked_means s (r ∷ rows) [] = refl
linked_means s (r ∷ rows) (Some address ∷ addresses) = ap (λ (fs : List OutFrame). out_frame_of s (record { address = address; parts = r.parts }) ∷ fs) (linked_means s rows addresses)
linked_means s (r ∷ rows) (None ∷ addresses) = linked_means s rows addresses

pub linked_held : (s : FrameSides) (rows : List RawRow) (addresses : List (Option ℕ)) → All (RawHeld s) rows → All (OutHeld s) (linked_rows rows addresses)
linked_held s [] addresses held = All-nil (OutHeld s)
linked_held s (r ∷ rows) [] held = All-nil (OutHeld s)
linked_held s (r ∷ rows) (Some address ∷ addresses) held =
    All-cons (OutHeld s) (record { address = address; parts = r.parts }) (linked_rows rows addresses) (All-head (RawHeld s) r rows held) (linked_held s rows addresses (All-tail (RawHeld s) r rows held))
linked_held s (r ∷ rows) (None ∷ addresses) held = linked_held s rows addresses (All-tail (RawHeld s) r rows held)

abbrev no_row : RawRow
no_row = record { at = addrs.Fixed 0; parts = record { cie = 0; length = 0; code = no_run } }

-- the rows from one on, by whether it has an address
linked_from : (rows : List RawRow) (addresses : List (Option ℕ)) (i : ℕ) (r : RawRow) (a : Option ℕ) → length addresses ≡ length rows → i < length rows → r ≡ get_or rows i r → a ≡ get_or addresses i a
    → linked_rows (drop i rows) (drop i addresses) ≡ linked_rows (r ∷ drop (i + 1) rows) (a ∷ drop (i + 1) addresses)
linked_from rows addresses i r a same lt is its = ap₂ linked_rows (drop_one rows i r lt is) (drop_one addresses i a (omega arith) its)

module _ (rows : List RawRow) (addresses : List (Option ℕ)) (i : ℕ) (same : length addresses ≡ length rows) (lt : i < length rows) (so_far total : List OutRow) (before : so_far ++ linked_rows (drop i rows) (drop i addresses) ≡ total) where
  pub linked_one : (d : RawRow) (address : ℕ) (new : List OutRow) → get_or addresses i None ≡ Some address → new ≡ so_far ++ record { address = address; parts = (get_or rows i d).parts } ∷ [] → new ++ linked_rows (drop (i + 1) rows) (drop (i + 1) addresses) ≡ total
  linked_one d address new its pushed =
      let r : RawRow = get_or rows i d in
      let row : OutRow = record { address = address; parts = r.parts } in
      ap (λ (xs : List OutRow). xs ++ linked_rows (drop (i + 1) rows) (drop (i + 1) addresses)) pushed
      ∙ append_assoc so_far (row ∷ []) (linked_rows (drop (i + 1) rows) (drop (i + 1) addresses))
      ∙ ap (λ (xs : List OutRow). so_far ++ xs) (sym (linked_from rows addresses i r (Some address) same lt (get_or_default rows i d r lt) (sym its ∙ get_or_default addresses i None (Some address) (omega arith))))
      ∙ before

  pub linked_none : get_or addresses i None ≡ None → so_far ++ linked_rows (drop (i + 1) rows) (drop (i + 1) addresses) ≡ total
  linked_none its =
      let r : RawRow = get_or rows i no_row in
      ap (λ (xs : List OutRow). so_far ++ xs) (sym (linked_from rows addresses i r None same lt (get_or_default rows i no_row r lt) (sym its))) ∙ before

-- ---- columns behind others

range_moved : (xs ys : List ℕ) (r : Run) → run_of (xs ++ ys) (run_moved (length xs) r) ≡ run_of ys r
range_moved xs ys r =
    let count : length xs + r.to - (length xs + r.from) ≡ r.to - r.from = omega arith in
    ap (λ (n : ℕ). take n (drop (length xs + r.from) (xs ++ ys))) count ∙ ap (take (r.to - r.from)) (drop-append-add xs ys r.from)

run_within : (xs ys : List ℕ) (r : Run) → InRun ys r → InRun (xs ++ ys) (run_moved (length xs) r)
run_within xs ys r w =
    let up : r.from ≤ r.to = w.0 in
    let inside : r.to ≤ length ys = w.1 in
    (omega arith, omega (arith, length-append xs ys))

module _ (old other new : FrameSides) (cies : new.cies.items ≡ old.cies.items ++ map (run_moved (length old.bytes.items)) other.cies.items) (bytes : new.bytes.items ≡ old.bytes.items ++ other.bytes.items) where
  by : ℕ
  by = length old.bytes.items

  count : length new.cies.items ≡ length old.cies.items + length other.cies.items
  count = ap length cies ∙ (length-append old.cies.items (map (run_moved (length old.bytes.items)) other.cies.items) ∙ ap (λ (n : ℕ). length old.cies.items + n) (length-map other.cies.items (run_moved (length old.bytes.items))))

  pub cies_behind : AreCies old → AreCies other → AreCies new
  cies_behind a b =
      rw (cies, bytes) (All-append (InRun (old.bytes.items ++ other.bytes.items)) old.cies.items (map (run_moved (length old.bytes.items)) other.cies.items)
      (All-weaker (InRun old.bytes.items) (InRun (old.bytes.items ++ other.bytes.items)) (λ r w. let up : r.from ≤ r.to = w.0 in let inside : r.to ≤ length old.bytes.items = w.1 in (up, omega (arith, length-append old.bytes.items other.bytes.items))) old.cies.items a)
      (All-map (InRun (old.bytes.items ++ other.bytes.items)) (run_moved (length old.bytes.items)) other.cies.items
      (All-weaker (InRun other.bytes.items) (λ r. InRun (old.bytes.items ++ other.bytes.items) (run_moved (length old.bytes.items) r)) (run_within old.bytes.items other.bytes.items) other.cies.items b)))

  content_behind : (n : ℕ) → n < length other.cies.items → content_of new (length old.cies.items + n) ≡ content_of other n
  content_behind n lt =
      let f = run_moved (length old.bytes.items) in
      let run : get_or new.cies.items (length old.cies.items + n) no_run ≡ f (get_or other.cies.items n no_run) =
      rw cies (get_or-append-add old.cies.items (map f other.cies.items) n no_run ∙ get_or-map f other.cies.items n no_run no_run lt) in
      ap₂ run_of bytes run ∙ range_moved old.bytes.items other.bytes.items (get_or other.cies.items n no_run)

  module _ (before : Before) (first : before.cies ≡ length old.cies.items) (from : before.bytes ≡ length old.bytes.items) where
    out_behind : (r : OutRow) → OutHeld other r → out_frame_of new (out_row_moved before r) ≡ out_frame_of other r
    out_behind r w =
        let content : content_of new (before.cies + r.parts.cie) ≡ content_of other r.parts.cie = rw first (content_behind r.parts.cie w.0) in
        let code : run_of new.bytes.items (run_moved before.bytes r.parts.code) ≡ run_of other.bytes.items r.parts.code = rw (from, bytes) (range_moved old.bytes.items other.bytes.items r.parts.code) in
        ap₂ (out_with r) content code

    held_behind : (r : OutRow) → OutHeld other r → OutHeld new (out_row_moved before r)
    held_behind r w =
        let lt : r.parts.cie < length other.cies.items = w.0 in
        (omega (arith, count, first), rw (from, bytes) (run_within old.bytes.items other.bytes.items r.parts.code w.1))

    pub rows_behind : (rows : List OutRow) → All (OutHeld other) rows → map (out_frame_of new) (map (out_row_moved before) rows) ≡ map (out_frame_of other) rows
    rows_behind [] held = refl
    rows_behind (r ∷ rows) held = ap₂ ◌∷◌ (out_behind r (All-head (OutHeld other) r rows held)) (rows_behind rows (All-tail (OutHeld other) r rows held))

    pub all_behind : (rows : List OutRow) → All (OutHeld other) rows → All (OutHeld new) (map (out_row_moved before) rows)
    all_behind rows held = All-map (OutHeld new) (out_row_moved before) rows (All-weaker (OutHeld other) (λ r. OutHeld new (out_row_moved before r)) held_behind rows held)

  -- frames of one list, and behind them those of another
  pub frames_behind : SidesGrow old new → AreCies old → (before : Before) → before.cies ≡ length old.cies.items → before.bytes ≡ length old.bytes.items → (rows more : List OutRow) → All (OutHeld old) rows → All (OutHeld other) more
      → map (out_frame_of new) (rows ++ map (out_row_moved before) more) ≡ map (out_frame_of old) rows ++ map (out_frame_of other) more
  frames_behind g own before first from rows more held others =
      map-append (out_frame_of new) rows (map (out_row_moved before) more) ∙ ap₂ ◌++◌ (out_grows old new g own rows held) (rows_behind before first from more others)

  pub held_all : SidesGrow old new → (before : Before) → before.cies ≡ length old.cies.items → before.bytes ≡ length old.bytes.items → (rows more : List OutRow) → All (OutHeld old) rows → All (OutHeld other) more → All (OutHeld new) (rows ++ map (out_row_moved before) more)
  held_all g before first from rows more held others =
      All-append (OutHeld new) rows (map (out_row_moved before) more) (out_held_grow old new g rows held) (all_behind before first from more others)
