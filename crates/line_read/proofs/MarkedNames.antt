-- The directories and files of a table before version 5 follow each other up to the empty name, or to the first that is wrong.
use Rattle.std.proofs.Common.{◌≡◌, ℕ, zero, suc, ◌+◌, ◌-◌, ◌<◌, ◌≤◌, Bool, true, false, List, [], ◌∷◌, ◌++◌, length, take, Option, Some, None, Result, Ok, Err, refl, sym, ap, subst, ◌∙◌, arith, append_assoc, append-nil}
use Rattle.std.specs.Prelude.{◌==◌, if◌then◌else◌}
use Rattle.std.specs.Option.{option_map_or}
use Rattle.std.proofs.lemmas.Bool.{lt-leb}
use Rattle.ds_base.specs.declared.fault.Fault.{Fault}
use Rattle.ds_base.specs.declared.fault.Kind.TheVariants as kinds
use Rattle.ds_base.specs.Reading.{◌>>=◌, or_fault, index_below, text_at, uleb_at}
use Rattle.ds_base.specs.Spot.{Spot, rest, after, fault_at}
use Rattle.ds_base.proofs.Onward.{Onward, Further, end_kept, onward_then, further_then, text_onward, uleb_onward}
use Rattle.ds_base.proofs.Passing.{bind_ok, ok_is}
use Rattle.dwarf_types.specs.declared.lines.FileName.{FileName}
use Rattle.dwarf_types.specs.SectionBytes.{SectionBytes}
use Rattle.line_read.specs.declared.names.HeaderEnd.{HeaderEnd}
use Rattle.line_read.specs.Marked.{Follow, AreListed}
use Rattle.line_read.specs.Names.{within, dir_at, file_of, file_at, listed_at}
use Rattle.line_read.specs.Tables.{dirs_at, files_at}
use Rattle.line_read.proofs.EntryTables.{within_ok}

-- ---- an item

text_further : (s : Spot) (y : List ℕ × Spot) → text_at s ≡ Ok y → Further s y.1
unfolding text_at
text_further s y e =
    let b = bind_ok (or_fault (index_below 1 (rest s)) (fault_at s kinds.Truncated)) (λ n. Ok (take n (rest s), after s (n + 1))) y e in
    record {
      onward = text_onward s y e;
      some = subst (λ (r : List ℕ × Spot). s.place < r.1.place) (ok_is (take b.0 (rest s), after s (b.0 + 1)) y b.2) (omega arith);
    }

name_further : (header : HeaderEnd) (s : Spot) (y : List ℕ × Spot) → within header (text_at s) ≡ Ok y → Further s y.1
name_further header s y e = text_further s y (within_ok header (text_at s) y e)

number_onward : (header : HeaderEnd) (s : Spot) (y : ℕ × Spot) → within header (uleb_at s) ≡ Ok y → Onward s y.1
number_onward header s y e = uleb_onward s y (within_ok header (uleb_at s) y e)

dir_further : (header : HeaderEnd) (s : Spot) (y : Option (List ℕ) × Spot) → dir_at header s ≡ Ok y → Further s y.1
unfolding dir_at
dir_further header s y e =
    let name = bind_ok (within header (text_at s)) _ y e in
    subst (λ (r : Option (List ℕ) × Spot). Further s r.1) (ok_is _ y name.2) (name_further header s name.0 name.1)

file_of_onward : (header : HeaderEnd) (name : List ℕ) (s : Spot) (y : Option FileName × Spot) → file_of header name s ≡ Ok y → Onward s y.1
unfolding file_of
file_of_onward header name s y e =
    let dir = bind_ok (within header (uleb_at s)) _ y e in
    let time = bind_ok (within header (uleb_at dir.0.1)) _ y dir.2 in
    let size = bind_ok (within header (uleb_at time.0.1)) _ y time.2 in
    let two = onward_then s dir.0.1 time.0.1 (number_onward header s dir.0 dir.1) (number_onward header dir.0.1 time.0 time.1) in
    subst (λ (r : Option FileName × Spot). Onward s r.1) (ok_is _ y size.2) (onward_then s time.0.1 size.0.1 two (number_onward header time.0.1 size.0 size.1))

marked : {A : Type 0} (b : Bool) (s t : Spot) (one : Result (Option A × Spot) Fault) (y : Option A × Spot) → Further s t → ((y : Option A × Spot) → one ≡ Ok y → Onward t y.1)
    → (if b then Ok (None, t) else one) ≡ Ok y → Further s y.1
marked {A = A} true s t one y f known e = subst (λ (r : Option A × Spot). Further s r.1) (ok_is (None, t) y e) f
marked false s t one y f known e = further_then s t y.1 f (known y e)

file_further : (header : HeaderEnd) (s : Spot) (y : Option FileName × Spot) → file_at header s ≡ Ok y → Further s y.1
unfolding file_at
file_further header s y e =
    let name = bind_ok (within header (text_at s)) _ y e in
    marked (length name.0.0 == 0) s name.0.1 (file_of header name.0.0 name.0.1) y (name_further header s name.0 name.1) (file_of_onward header name.0.0 name.0.1) name.2

-- ---- where no byte is left

text_cut : (s : Spot) → s.end - s.place ≡ 0 → text_at s ≡ Err (fault_at s kinds.Truncated)
unfolding text_at
text_cut s none = rw none refl

dir_cut : (header : HeaderEnd) (s : Spot) → s.end - s.place ≡ 0 → dir_at header s ≡ Err (fault_at s kinds.Truncated)
unfolding dir_at
dir_cut header s none = rw (text_cut s none) refl

file_cut : (header : HeaderEnd) (s : Spot) → s.end - s.place ≡ 0 → file_at header s ≡ Err (fault_at s kinds.Truncated)
unfolding file_at
file_cut header s none = rw (text_cut s none) refl

-- ---- items in turn

fewer_left : (s t : Spot) → Further s t → (left : ℕ) → s.end - s.place ≤ suc left → t.end - t.place ≤ left
fewer_left s t f left le =
    let o = f.onward in
    omega (arith, le, f.some, o.fits, end_kept s t o, ap (λ (x : Spot). x.place) o.is)

module _ {A : Type 0} (read : Spot → Result (Option A × Spot) Fault) where
  -- items behind those before, which a count lists
  abbrev Behind : List A → Spot → Result (List A × Spot) Fault → Type 0
  Behind before s (Ok (all, t)) = (items : List A) × (all ≡ before ++ items) × Follow read s items (Ok t)
  Behind before s (Err f) = (items : List A) × Follow read s items (Err f)

  one_more : (before : List A) (x : A) (s t : Spot) (r : Result (List A × Spot) Fault) → read s ≡ Ok (Some x, t) → s.place < t.place → Behind (before ++ x ∷ []) t r → Behind before s r
  one_more before x s t (Ok (all, u)) is lt (items, e, more) = (x ∷ items, e ∙ append_assoc before (x ∷ []) items, (t, is, lt, more))
  one_more before x s t (Err f) is lt (items, more) = (x ∷ items, (t, is, lt, more))

  one_read : (before : List A) (s : Spot) (one : Result (Option A × Spot) Fault) (more : A → Spot → Result (List A × Spot) Fault) → read s ≡ one
      → ((y : Option A × Spot) → one ≡ Ok y → Further s y.1) → ((x : A) (t : Spot) → Further s t → Behind (before ++ x ∷ []) t (more x t))
      → Behind before s (one >>= λ item. option_map_or (λ x. more x item.1) item.0 (Ok (before, item.1)))
  one_read before s (Err f) more is further later = ([], is)
  one_read before s (Ok (None, t)) more is further later = ([], sym (append-nil before), is)
  one_read before s (Ok (Some x, t)) more is further later = let f = further (Some x, t) refl in one_more before x s t (more x t) is f.some (later x t f)

  all_read : ((s : Spot) (y : Option A × Spot) → read s ≡ Ok y → Further s y.1) → ((s : Spot) → s.end - s.place ≡ 0 → read s ≡ Err (fault_at s kinds.Truncated))
      → (left : ℕ) (before : List A) (s : Spot) → s.end - s.place ≤ left → Behind before s (listed_at read left before s)
  all_read further cut zero before s few = ([], cut s (omega (arith, few)))
  all_read further cut (suc left) before s few =
      one_read before s (read s) (λ x t. listed_at read left (before ++ x ∷ []) t) refl (further s)
      (λ x t f. all_read further cut left (before ++ x ∷ []) t (fewer_left s t f left few))

  listed : (s : Spot) (r : Result (List A × Spot) Fault) → Behind [] s r → AreListed read s r
  listed s (Ok (all, t)) (items, e, more) = subst (λ (xs : List A). Follow read s xs (Ok t)) (sym e) more
  listed s (Err f) h = h

-- ---- the tables

pub dirs_listed : (header : HeaderEnd) (sections : SectionBytes) (version : ℕ) (s : Spot) → version < 5 → AreListed (dir_at header) s (dirs_at header sections version s)
unfolding dirs_at
dirs_listed header sections version s old =
    rw (lt-leb 5 version old) (listed (dir_at header) s (listed_at (dir_at header) (s.end - s.place) [] s) (all_read (dir_at header) (dir_further header) (dir_cut header) (s.end - s.place) [] s (omega arith)))

pub files_listed : (header : HeaderEnd) (sections : SectionBytes) (version : ℕ) (s : Spot) → version < 5 → AreListed (file_at header) s (files_at header sections version s)
unfolding files_at
files_listed header sections version s old =
    rw (lt-leb 5 version old) (listed (file_at header) s (listed_at (file_at header) (s.end - s.place) [] s) (all_read (file_at header) (file_further header) (file_cut header) (s.end - s.place) [] s (omega arith)))
