-- What rows of line tables stand for, as their columns grow.
use Rattle.std.proofs.Common.{◌≡◌, ℕ, ◌-◌, ◌<◌, ◌≤◌, Bool, true, false, List, [], ◌∷◌, ◌++◌, Option, Some, None, map, length, drop, take, get_or, All, refl, ap, ap₂, sym, ◌∙◌, arith}
use Rattle.std.specs.Prelude.{IfSome, if◌then◌else◌}
use Rattle.std.specs.Option.{option_map}
use Rattle.std.proofs.lemmas.List.{drop-append-le, drop-map, get_or_push, map_push, take-map}
use Rattle.std.proofs.lemmas.List.Elements.{All-push, All-weaker}
use Rattle.dwarf_types.specs.declared.files.FileRow.{FileRow}
use Rattle.dwarf_types.specs.declared.lines.FileName.{FileName}
use Rattle.dwarf_types.specs.declared.lines.RawRow.{RawRow}
use Rattle.dwarf_types.specs.declared.lines.RawSequence.{RawSequence}
use Rattle.dwarf_types.specs.declared.lines.Row.{Row}
use Rattle.dwarf_types.specs.declared.lines.Sequence.{Sequence}
use Rattle.dwarf_types.specs.declared.packed_row.PackedRow.{PackedRow}
use Rattle.dwarf_types.specs.declared.runs.Run.{Run}
use Rattle.dwarf_types.specs.declared.runs.TextRun.{TextRun}
use Rattle.dwarf_types.specs.declared.runs.TextRun.TheVariants as texts
use Rattle.dwarf_types.specs.declared.sequences.RawSequenceRow.{RawSequenceRow}
use Rattle.dwarf_types.specs.declared.sequences.SequenceRow.{SequenceRow}
use Rattle.dwarf_types.specs.Cells.{Begins}
use Rattle.dwarf_types.specs.LineColumns.{FileWithin, RawSequenceWithin, SequenceWithin, built_of, file_of, raw_built_of, raw_sequence_of, sequence_of}
use Rattle.dwarf_types.specs.Packed.{RowWithin, own_row, row_of, wide_at}
use Rattle.dwarf_types.specs.Runs.{InRun, InTexts, run_of, text_of}
use Rattle.dwarf_types.proofs.Heads.{maps_same}
use Rattle.dwarf_types.proofs.Kept.{get_begins, longer, range_begins}

-- ---- rows whose column grows

-- a row keeps what it stands for, and lies in the longer column too
pub record Keeps {T R A : Type 0} (mean : List T → R → A) (Within : List T → R → Type 0) : Type 0 where
  pub same : (old new : List T) → Begins old new → (r : R) → Within old r → mean new r ≡ mean old r
  pub within : (old new : List T) → Begins old new → (r : R) → Within old r → Within new r

module _ {T R A : Type 0} (mean : List T → R → A) (Within : List T → R → Type 0) (k : Keeps mean Within) (old new : List T) (b : Begins old new) (rows : List R) (are : All (Within old) rows) where
  pub means_kept : map (mean new) rows ≡ map (mean old) rows
  means_kept = maps_same (Within old) (mean old) (mean new) (k.same old new b) rows are

  pub within_kept : All (Within new) rows
  within_kept = All-weaker (Within old) (Within new) (k.within old new b) rows are

  -- a row that is put last
  pub means_put : (r : R) (part : A) → mean new r ≡ part → map (mean new) (rows ++ r ∷ []) ≡ map (mean old) rows ++ part ∷ []
  means_put r part is = map_push (mean new) rows r ∙ ap₂ (λ (xs : List A) (x : A). xs ++ x ∷ []) means_kept is

  pub within_put : (r : R) → Within new r → All (Within new) (rows ++ r ∷ [])
  within_put r is = All-push (Within new) rows r within_kept is

-- ---- runs, texts, files and sequences

pub runs_keep : {T : Type 0} → Keeps {T = T} run_of InRun
runs_keep = record {
  same = λ old new b r w. range_begins old new r.from r.to b w.0 w.1;
  within = λ old new b r w.
      let more = longer old new b in
      let up : r.from ≤ r.to = w.0 in
      let inside : r.to ≤ length old = w.1 in
      (up, omega arith);
}

text_kept : (shared old new : List ℕ) → Begins old new → (t : TextRun) → InTexts shared old t → text_of shared new t ≡ text_of shared old t
text_kept shared old new b (texts.Own r) w = runs_keep.same old new b r w
text_kept shared old new b (texts.Shared r) w = refl

text_within : (shared old new : List ℕ) → Begins old new → (t : TextRun) → InTexts shared old t → InTexts shared new t
text_within shared old new b (texts.Own r) w = runs_keep.within old new b r w
text_within shared old new b (texts.Shared r) w = w

-- shared texts stay
pub texts_keep : (shared : List ℕ) → Keeps (text_of shared) (InTexts shared)
texts_keep shared = record { same = text_kept shared; within = text_within shared }

digest_kept : (old new : List ℕ) → Begins old new → (d : Option Run) → IfSome d (InRun old) → option_map (run_of new) d ≡ option_map (run_of old) d
digest_kept old new b None w = refl
digest_kept old new b (Some r) w = ap Some (runs_keep.same old new b r w)

digest_within : (old new : List ℕ) → Begins old new → (d : Option Run) → IfSome d (InRun old) → IfSome d (InRun new)
digest_within old new b None w = tt
digest_within old new b (Some r) w = runs_keep.within old new b r w

abbrev pub file_with : FileRow → List ℕ → Option (List ℕ) → FileName
file_with r name digest = record { name = name; dir = r.dir; time = r.time; size = r.size; digest = digest }

pub files_keep : (shared : List ℕ) → Keeps (file_of shared) (FileWithin shared)
files_keep shared = record {
  same = λ old new b r w. ap₂ (file_with r) ((texts_keep shared).same old new b r.name w.0) (digest_kept old new b r.digest w.1);
  within = λ old new b r w. ((texts_keep shared).within old new b r.name w.0, digest_within old new b r.digest w.1);
}

abbrev sequence_with : SequenceRow → List Row → Sequence
sequence_with s rows = record { rows = rows; end = s.end }

abbrev raw_sequence_with : RawSequenceRow → List RawRow → RawSequence
raw_sequence_with s rows = record { rows = rows; end = s.end }

pub sequences_keep : Keeps sequence_of SequenceWithin
sequences_keep = record {
  same = λ old new b s w. ap (sequence_with s) (runs_keep.same old new b s.rows w);
  within = λ old new b s w. runs_keep.within old new b s.rows w;
}

pub raw_sequences_keep : Keeps raw_sequence_of RawSequenceWithin
raw_sequences_keep = record {
  same = λ old new b s w. ap (raw_sequence_with s) (runs_keep.same old new b s.rows w);
  within = λ old new b s w. runs_keep.within old new b s.rows w;
}

-- ---- packed rows

row_kept : (old new : List Row) → Begins old new → (p : PackedRow) → RowWithin old p → row_of new p ≡ row_of old p
row_kept old new b p w = kept p.is_wide w where
  kept : (wide : Bool) → (wide ≡ true → p.address < length old)
      → (if wide then get_or new p.address (own_row p) else own_row p) ≡ (if wide then get_or old p.address (own_row p) else own_row p)
  kept true lt = get_begins old new p.address (own_row p) b (lt refl)
  kept false lt = refl

pub packed_keep : Keeps row_of RowWithin
packed_keep = record {
  same = row_kept;
  within = λ old new b p w is. let more = longer old new b in let lt : p.address < length old = w is in omega arith;
}

-- a wide row, behind the others, and what stands for it
module _ (wide : List Row) (row : Row) (packed : List PackedRow) (are : All (RowWithin wide) packed) where
  pub wide_put : map (row_of (wide ++ row ∷ [])) (packed ++ wide_at (length wide) ∷ []) ≡ map (row_of wide) packed ++ row ∷ []
  wide_put = means_put row_of RowWithin packed_keep wide (wide ++ row ∷ []) (row ∷ [], refl) packed are (wide_at (length wide)) row (get_or_push wide row (own_row (wide_at (length wide))) (length wide) refl)

-- the rows of a run
pub run_mapped : {A B : Type 0} (f : A → B) (items : List A) (r : Run) → map f (run_of items r) ≡ run_of (map f items) r
run_mapped f items r = sym (ap (take (r.to - r.from)) (drop-map f r.from items) ∙ take-map f (r.to - r.from) (drop r.from items))

-- ---- a row of the next sequence, behind its others

module _ (rows : List Row) (row : Row) (open_from : ℕ) (le : open_from ≤ length rows) (ended : List SequenceRow) (are : All (SequenceWithin rows) ended) where
  pub row_put : built_of (rows ++ row ∷ []) ended open_from ≡ record { ended = map (sequence_of rows) ended; rows = drop open_from rows ++ row ∷ [] }
  row_put = rw (means_kept sequence_of SequenceWithin sequences_keep rows (rows ++ row ∷ []) (row ∷ [], refl) ended are, drop-append-le open_from rows (row ∷ []) le) refl

module _ (rows : List RawRow) (row : RawRow) (open_from : ℕ) (le : open_from ≤ length rows) (ended : List RawSequenceRow) (are : All (RawSequenceWithin rows) ended) where
  pub raw_row_put : raw_built_of (rows ++ row ∷ []) ended open_from ≡ record { ended = map (raw_sequence_of rows) ended; rows = drop open_from rows ++ row ∷ [] }
  raw_row_put = rw (means_kept raw_sequence_of RawSequenceWithin raw_sequences_keep rows (rows ++ row ∷ []) (row ∷ [], refl) ended are, drop-append-le open_from rows (row ∷ []) le) refl
