-- A section's entries fill it, and where it is read, each FDE has its CIE, its values and its frame.
use Rattle.std.proofs.Common.{◌≡◌, ℕ, zero, suc, ◌+◌, ◌-◌, ◌<◌, ◌≤◌, ◌||◌, not, Bool, true, false, cond, List, [], ◌∷◌, length, get_or, map, nat_lt, nat_le, Option, Some, None, is_none, is_some, Result, Ok, Err, refl, sym, subst, ap, ◌∙◌, arith, inl, inr}
use Rattle.std.specs.List.{All, AllByRecursion, cons_option, filter, filter_map, find}
use Rattle.std.proofs.lemmas.Bool.{eq-eqb, ne_eqb, lt-ltb, le-leb, ltb-false, cases_lt, or_left, or_parts, or_right}
use Rattle.std.proofs.lemmas.List.Elements.{All-from_recursion, recursion_from_All}
use Rattle.ds_base.specs.declared.fault.Fault.{Fault}
use Rattle.ds_base.specs.Spot.{Spot, after}
use Rattle.ds_base.specs.Reading.{◌>>=◌, number_at}
use Rattle.ds_base.proofs.Onward.{number_fits}
use Rattle.ds_base.proofs.Passing.{bind_ok, passed as let_through, ok_is}
use Rattle.ds_base.proofs.Finding.{none_of}
use Rattle.dwarf_types.specs.declared.frames.RawFrame.{RawFrame}
use Rattle.macho_read.specs.declared.image.Image.{Image}
use Rattle.reloc_table.specs.declared.relocation.Relocs.{Relocs}
use Rattle.frame_table.specs.declared.entry.FrameEntry.{FrameEntry}
use Rattle.frame_table.specs.Entry.{entry_at, bad_frame, frame_spot, is_cie}
use Rattle.ds_base.specs.DwarfNumbers.{LENGTH_RESERVED}
use Rattle.frame_table.specs.Naming.{cie_at, is_due, lacks_cie, refuse_any, all_named}
use Rattle.frame_table.specs.Description.{Said, description_at, values_at}
use Rattle.frame_table.specs.Frames.{Listing, listed, entries_from, entries_of, Fill, up_to, tried, in_turn, unless_stopped, frame_from, frame_of, frames_of}

-- ---- parts of what is read

cond_moves : {A : Type 0} (b : Bool) (f : Fault) (x : A) (behind : Spot) (r : A × Spot) → cond b (Err f) (Ok (x, behind)) ≡ Ok r → behind ≡ r.1
cond_moves true f x behind r is = absurd cc
cond_moves false f x behind r is = ap (λ (p : _ × Spot). p.1) (ok_is (x, behind) r is)

-- ---- an entry begins at its place, and ends behind its first byte and in the section

number_moves : (n : ℕ) (s : Spot) (r : ℕ × Spot) → number_at n s ≡ Ok r → after s n ≡ r.1
unfolding number_at
number_moves n s r is = cond_moves (nat_lt (s.end - s.place) n) _ _ (after s n) r is

record Stands (bytes : List ℕ) (place : ℕ) (e : FrameEntry) : Type 0 where
  begins : e.place ≡ place
  some : place < e.end
  inside : e.end ≤ length bytes

entry_stands : (bytes : List ℕ) (place : ℕ) (e : FrameEntry) → entry_at bytes place ≡ Ok e → Stands bytes place e
unfolding entry_at
entry_stands bytes place e is =
    let s = frame_spot bytes place (length bytes) in
    let len = bind_ok (number_at 4 s) _ e is in
    let moved = number_moves 4 s len.0 len.1 in
    let from : place + 4 ≡ len.0.1.place = ap (λ (t : Spot). t.place) moved in
    let to : length bytes ≡ len.0.1.end = ap (λ (t : Spot). t.end) moved in
    let reserved = nat_le LENGTH_RESERVED len.0.0 in
    let long = nat_lt (len.0.1.end - len.0.1.place) len.0.0 in
    let sized = let_through (reserved || long) (bad_frame place) _ e len.2 in
    let fits : len.0.0 ≤ len.0.1.end - len.0.1.place = ltb-false _ _ (or_parts reserved long sized.0).1 in
    let id = bind_ok (number_at 4 (frame_spot bytes len.0.1.place (len.0.1.place + len.0.0))) _ e sized.1 in
    let same = ok_is _ e id.2 in
    let begins : place ≡ e.place = ap (λ (x : FrameEntry). x.place) same in
    let ends : len.0.1.place + len.0.0 ≡ e.end = ap (λ (x : FrameEntry). x.end) same in
    record { begins = sym begins; some = omega (arith, from, ends); inside = omega (arith, from, to, fits, ends, number_fits 4 s len.0 len.1) }

-- ---- entries fill the section

listed_fill : (bytes : List ℕ) (place : ℕ) (one : Result FrameEntry Fault) (more : ℕ → Listing) → entry_at bytes place ≡ one → place < length bytes
    → ((e : FrameEntry) → one ≡ Ok e → Fill bytes e.end (more e.end).entries (more e.end).stop) → Fill bytes place (listed one more).entries (listed one more).stop
listed_fill bytes place (Ok e) more is lt later = let stands = entry_stands bytes place e is in (is, stands.begins, stands.some, later e refl)
listed_fill bytes place (Err f) more is lt later = (lt, is)

from_fill : (left : ℕ) (bytes : List ℕ) (place : ℕ) → place ≤ length bytes → length bytes - place < left → Fill bytes place (entries_from left bytes place).entries (entries_from left bytes place).stop
from_fill zero bytes place le few = absurd (omega arith)
from_fill (suc left) bytes place le few = elim (cases_lt place (length bytes)) [
  | inl lt ↦
      rw (ne_eqb place (length bytes) (λ end. omega (arith, lt, end)))
      (listed_fill bytes place (entry_at bytes place) (λ end. entries_from left bytes end) refl lt
      (λ e is.
      let stands = entry_stands bytes place e is in
      from_fill left bytes e.end stands.inside (omega (arith, few, stands.some))))
  | inr ge ↦ let end : place ≡ length bytes = omega (arith, le, ge) in rw (eq-eqb place (length bytes) end) end
]

pub entries_fill : (bytes : List ℕ) → Fill bytes 0 (entries_of bytes).entries (entries_of bytes).stop
entries_fill bytes = from_fill (suc (length bytes)) bytes 0 (omega arith) (omega arith)

-- the listing of a section that is read, and its trials
record Read (image : Image) (relocs : Relocs) (bytes : List ℕ) (listing : Listing) (frames : List RawFrame) : Type 0 where
  whole : listing.stop ≡ None
  passed : in_turn (tried bytes listing.entries) listing.entries ≡ Ok tt
  framed : filter_map (frame_of image relocs bytes listing.entries) listing.entries ≡ frames

not_stopped : (stop : Option Fault) (u : Unit {0}) → unless_stopped stop ≡ Ok u → stop ≡ None
not_stopped None u is = refl
not_stopped (Some f) u is = absurd cc

section_read : (image : Image) (relocs : Relocs) (bytes : List ℕ) (frames : List RawFrame) → frames_of image relocs bytes ≡ Ok frames → Read image relocs bytes (entries_of bytes) frames
unfolding frames_of
section_read image relocs bytes frames is =
    let listing = entries_of bytes in
    let trials = bind_ok (in_turn (tried bytes listing.entries) listing.entries) _ frames is in
    let stop = bind_ok (unless_stopped listing.stop) _ frames trials.2 in
    record { whole = not_stopped listing.stop stop.0 stop.1; passed = trials.1; framed = ok_is _ frames stop.2 }

pub section_whole : (image : Image) (relocs : Relocs) (bytes : List ℕ) (frames : List RawFrame) → frames_of image relocs bytes ≡ Ok frames → (entries_of bytes).stop ≡ None
section_whole image relocs bytes frames is = let r = section_read image relocs bytes frames is in r.whole

-- ---- the last entry, up to which all are

record IsLast (P : FrameEntry → Type 0) (from : ℕ) (es : List FrameEntry) (to : ℕ) (e : FrameEntry) : Type 0 where
  here : AllByRecursion (λ x. x.place ≤ e.place) es
  ends : e.end ≡ to
  behind : from ≤ e.place
  has : P e

last_of : (P : FrameEntry → Type 0) (bytes : List ℕ) (from : ℕ) (x : FrameEntry) (es : List FrameEntry) → Fill bytes from (x ∷ es) None → AllByRecursion P (x ∷ es) → (e : FrameEntry) × IsLast P from (x ∷ es) (length bytes) e
last_of P bytes from x [] fill all = (x, record { here = (omega arith, tt); ends = fill.3; behind = omega (arith, fill.1); has = all.0 })
last_of P bytes from x (y ∷ es) fill all =
    let later = last_of P bytes x.end y es fill.3 all.1 in
    let l = later.1 in (
      later.0,
      record {
        here = (omega (arith, fill.1, fill.2, l.behind), l.here);
        ends = l.ends;
        behind = omega (arith, fill.2, l.behind);
        has = l.has;
      },
    )

all_up_to : (es : List FrameEntry) (e : FrameEntry) → AllByRecursion (λ x. x.place ≤ e.place) es → up_to es e ≡ es
all_up_to [] e all = refl
all_up_to (x ∷ es) e all = rw (le-leb x.place e.place all.0) (ap (λ xs. x ∷ xs) (all_up_to es e all.1))

-- ---- what was tried

all_tried : (try : FrameEntry → Result (Unit {0}) Fault) (es : List FrameEntry) → in_turn try es ≡ Ok tt → AllByRecursion (λ e. try e ≡ Ok tt) es
all_tried try [] is = tt
all_tried try (e ∷ es) is = let b = bind_ok (try e) (λ _. in_turn try es) tt is in (b.1, all_tried try es b.2)

none_refused : (o : Option FrameEntry) (u : Unit {0}) → refuse_any o ≡ Ok u → o ≡ None
none_refused None u is = refl
none_refused (Some e) u is = absurd cc

-- an FDE whose CIE is due at the section's end has it, and its values are there
record Known (bytes : List ℕ) (es : List FrameEntry) (place : ℕ) : Type 0 where
  named : All (λ e. lacks_cie (length bytes) place es e ≡ false) es
  values : All (λ e. values_at bytes e ≡ Ok tt) es

values_tried : (bytes : List ℕ) (all es : List FrameEntry) → AllByRecursion (λ e. tried bytes all e ≡ Ok tt) es → AllByRecursion (λ e. values_at bytes e ≡ Ok tt) es
values_tried bytes all [] h = tt
values_tried bytes all (e ∷ es) h = let b = bind_ok (all_named (length bytes) e.end (up_to all e)) (λ _. values_at bytes e) tt h.0 in (b.2, values_tried bytes all es h.1)

all_known : (bytes : List ℕ) (es : List FrameEntry) → Fill bytes 0 es None → in_turn (tried bytes es) es ≡ Ok tt → Known bytes es (length bytes)
all_known bytes [] fill is = record { named = λ k d lt. absurd (omega arith); values = λ k d lt. absurd (omega arith) }
all_known bytes (x ∷ es) fill is =
    let trials = all_tried (tried bytes (x ∷ es)) (x ∷ es) is in
    let last = last_of (λ e. tried bytes (x ∷ es) e ≡ Ok tt) bytes 0 x es fill trials in
    let e = last.0 in
    let l = last.1 in
    let named = bind_ok (all_named (length bytes) e.end (up_to (x ∷ es) e)) (λ _. values_at bytes e) tt l.has in
    let whole : all_named (length bytes) (length bytes) (x ∷ es) ≡ Ok tt =
    ap (λ (xs : List FrameEntry). all_named (length bytes) (length bytes) xs) (sym (all_up_to (x ∷ es) e l.here))
    ∙ ap (λ (end : ℕ). all_named (length bytes) end (up_to (x ∷ es) e)) (sym l.ends) ∙ named.1 in
    record {
      named = none_of (lacks_cie (length bytes) (length bytes) (x ∷ es)) (x ∷ es) (none_refused (find (lacks_cie (length bytes) (length bytes) (x ∷ es)) (x ∷ es)) tt whole);
      values = All-from_recursion (λ e. values_at bytes e ≡ Ok tt) (x ∷ es) (values_tried bytes (x ∷ es) (x ∷ es) trials);
    }

-- ---- the frame of an entry

due_at_end : (size place : ℕ) (e : FrameEntry) → size ≤ place → is_due size place e ≡ true
due_at_end size place e le = elim (cases_lt e.id place) [
  | inl before ↦ or_left _ _ (lt-ltb e.id place before)
  | inr behind ↦ or_right _ _ (le-leb size e.id (omega arith))
]

abbrev all_there : Result Said Fault → Result (Unit {0}) Fault
all_there said = said >>= λ _. Ok tt

framed_by : (image : Image) (relocs : Relocs) (bytes : List ℕ) (e : FrameEntry) (cie : Option FrameEntry) (said : Result Said Fault) → is_none cie ≡ false → all_there said ≡ Ok tt
    → is_some (frame_from image relocs bytes e cie said) ≡ true
framed_by image relocs bytes e (Some cie) (Ok said) there values = refl
framed_by image relocs bytes e (Some cie) (Err f) there values = absurd cc
framed_by image relocs bytes e None said there values = absurd cc

frame_is : (image : Image) (relocs : Relocs) (bytes : List ℕ) (entries : List FrameEntry) (place : ℕ) (e : FrameEntry) (cie : Bool) → is_cie e ≡ cie → length bytes ≤ place
    → lacks_cie (length bytes) place entries e ≡ false → values_at bytes e ≡ Ok tt → is_some (frame_of image relocs bytes entries e) ≡ not cie
frame_is image relocs bytes entries place e true is le lacks values = rw is refl
frame_is image relocs bytes entries place e false is le lacks values =
    let due : is_due (length bytes) place e ≡ true = due_at_end (length bytes) place e le in
    let there : is_none (cie_at entries e.id) ≡ false = sym (rw (is, due) refl) ∙ lacks in
    let said : all_there (description_at bytes e) ≡ Ok tt = rw is at values in
    rw is (framed_by image relocs bytes e (cie_at entries e.id) (description_at bytes e) there said)

-- ---- the frames

one_more : (o : Option RawFrame) (fde : Bool) (frames : List RawFrame) (more : List (Option RawFrame)) → is_some o ≡ fde → map Some frames ≡ more → map Some (cons_option o frames) ≡ cond fde (o ∷ more) more
one_more (Some f) true frames more is so_far = ap (λ (fs : List (Option RawFrame)). Some f ∷ fs) so_far
one_more None false frames more is so_far = so_far
one_more (Some f) false frames more is so_far = absurd cc
one_more None true frames more is so_far = absurd cc

map_cond : (h : FrameEntry → Option RawFrame) (b : Bool) (e : FrameEntry) (es : List FrameEntry) → cond b (h e ∷ map h es) (map h es) ≡ map h (cond b (e ∷ es) es)
map_cond h true e es = refl
map_cond h false e es = refl

-- one each, of those that have one
each_framed : (h : FrameEntry → Option RawFrame) (fde : FrameEntry → Bool) (es : List FrameEntry) → AllByRecursion (λ e. is_some (h e) ≡ fde e) es → map Some (filter_map h es) ≡ map h (filter fde es)
each_framed h fde [] all = refl
each_framed h fde (e ∷ es) all = one_more (h e) (fde e) (filter_map h es) (map h (filter fde es)) all.0 (each_framed h fde es all.1) ∙ map_cond h (fde e) e (filter fde es)

pub frames_told : (image : Image) (relocs : Relocs) (bytes : List ℕ) (frames : List RawFrame) → frames_of image relocs bytes ≡ Ok frames
    → map Some frames ≡ map (frame_of image relocs bytes (entries_of bytes).entries) (filter (λ e. not (is_cie e)) (entries_of bytes).entries)
frames_told image relocs bytes frames is =
    let entries = (entries_of bytes).entries in
    let r = section_read image relocs bytes frames is in
    let known = all_known bytes entries (subst (λ (stop : Option Fault). Fill bytes 0 entries stop) r.whole (entries_fill bytes)) r.passed in
    let all : All (λ e. is_some (frame_of image relocs bytes entries e) ≡ not (is_cie e)) entries =
    (λ k d lt. frame_is image relocs bytes entries (length bytes) (get_or entries k d) (is_cie (get_or entries k d)) refl (omega arith) (known.named k d lt) (known.values k d lt)) in
    ap (map Some) (sym r.framed) ∙ each_framed (frame_of image relocs bytes entries) (λ e. not (is_cie e)) entries (recursion_from_All _ entries all)
