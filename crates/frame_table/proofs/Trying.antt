-- Entries that are listed one after the other, and entries tried in turn.
use Rattle.std.proofs.Common.{◌≡◌, ℕ, zero, suc, ◌+◌, ◌-◌, ◌<◌, ◌≤◌, Bool, true, false, List, [], ◌∷◌, ◌++◌, length, take, drop, get_or, Option, Some, None, IfSome, Result, Ok, Err, refl, sym, ap, ◌∙◌, arith, inl, inr, append_assoc, append-nil}
use Rattle.std.specs.Prelude.{nat_le}
use Rattle.std.specs.List.{cons_option, filter, filter_map}
use Rattle.std.proofs.lemmas.Bool.{eq-eqb, ne_eqb, le-leb, lt-leb, cases_lt}
use Rattle.std.proofs.lemmas.List.{take_more, drop_more}
use Rattle.std.proofs.lemmas.List.Elements.{filter_map-append}
use Rattle.dwarf_types.specs.declared.frames.RawFrame.{RawFrame}
use Rattle.ds_base.specs.declared.fault.Fault.{Fault}
use Rattle.ds_base.specs.declared.fault.ReadError.{ReadError}
use Rattle.ds_base.specs.declared.fault.ReadError.TheVariants as errors
use Rattle.ds_base.specs.Reading.{◌>>=◌}
use Rattle.ds_base.proofs.Refusals.{Refused}
use Rattle.macho_read.specs.declared.image.Image.{Image}
use Rattle.reloc_table.specs.declared.relocation.Relocs.{Relocs}
use Rattle.frame_table.specs.declared.entry.FrameEntry.{FrameEntry}
use Rattle.frame_table.specs.declared.naming.Missed.{Missed}
use Rattle.frame_table.specs.Entry.{entry_at}
use Rattle.frame_table.specs.Frames.{Listing, entries_from, entries_of, up_to, tried, in_turn, frame_of}
use Rattle.frame_table.specs.Naming.{all_named}
use Rattle.frame_table.specs.Description.{values_at}
use Rattle.frame_table.specs.Order.{StandApart, end_of, entry_of, frame_at, frames_among}

-- ---- entries from a place on

abbrev with_entries : Option Fault → List FrameEntry → Listing
with_entries stop entries = record { entries = entries; stop = stop }

-- entries before those of a listing
abbrev pub before : List FrameEntry → Listing → Listing
before es l = with_entries l.stop (es ++ l.entries)

-- what is listed in all is what is listed from a place on, behind entries so far
abbrev pub Behind : List ℕ → ℕ → List FrameEntry → ℕ → Type 0
Behind bytes left es place = entries_of bytes ≡ before es (entries_from (suc left) bytes place)

-- the count is no less than the bytes that are left
pub record Goes (bytes : List ℕ) (es : List FrameEntry) (place : ℕ) : Type 0 where
  pub left : ℕ
  pub enough : length bytes - place ≤ left
  pub is : Behind bytes left es place

pub read_more : (bytes : List ℕ) (es : List FrameEntry) (place : ℕ) (e : FrameEntry) → place < length bytes → place < e.end → entry_at bytes place ≡ Ok e
    → Goes bytes es place → Goes bytes (es ++ e ∷ []) e.end
read_more bytes es place e lt further is g =
    let turn : g.left ≡ suc (g.left - 1) = omega (arith, g.enough, lt) in
    let more : Listing = entries_from (suc (g.left - 1)) bytes e.end in
    record {
      left = g.left - 1;
      enough = omega (arith, g.enough, lt, further);
      is = g.is ∙ ap (λ (k : ℕ). before es (entries_from (suc k) bytes place)) turn
          ∙ rw (ne_eqb place (length bytes) (λ end. omega (arith, lt, end)), is) refl
          ∙ ap (with_entries more.stop) (sym (append_assoc es (e ∷ []) more.entries));
    }

-- the next entry's length or id is faulty
pub read_fault : (bytes : List ℕ) (left : ℕ) (es : List FrameEntry) (place : ℕ) (f : Fault) → (place ≡ length bytes → ⊥) → entry_at bytes place ≡ Err f
    → Behind bytes left es place → entries_of bytes ≡ record { entries = es; stop = Some f }
read_fault bytes left es place f inside is so_far =
    so_far ∙ rw (ne_eqb place (length bytes) inside, is) refl ∙ ap (with_entries (Some f)) (append-nil es)

-- the section ends
pub read_end : (bytes : List ℕ) (left : ℕ) (es : List FrameEntry) (place : ℕ) → place ≡ length bytes
    → Behind bytes left es place → entries_of bytes ≡ record { entries = es; stop = None }
read_end bytes left es place end so_far =
    so_far ∙ rw (eq-eqb place (length bytes) end) refl ∙ ap (with_entries None) (append-nil es)

-- ---- the entries up to one

-- a test that the first n pass, and none behind them
passes_first : {A : Type 0} (p : A → Bool) (n : ℕ) (xs : List A) (d : A) → ((k : ℕ) → k < n → k < length xs → p (get_or xs k d) ≡ true)
    → ((k : ℕ) → n ≤ k → k < length xs → p (get_or xs k d) ≡ false) → filter p xs ≡ take n xs
passes_first p zero [] d first later = refl
passes_first p (suc n) [] d first later = refl
passes_first p zero (x ∷ xs) d first later =
    rw (later 0 (omega arith) (omega arith)) (passes_first p zero xs d (λ k lt in_xs. absurd (omega arith)) (λ k le in_xs. later (suc k) (omega arith) (omega arith)))
passes_first p (suc n) (x ∷ xs) d first later =
    rw (first 0 (omega arith) (omega arith)) (ap (λ ys. x ∷ ys) (passes_first p n xs d (λ k lt in_xs. first (suc k) (omega arith) (omega arith)) (λ k le in_xs. later (suc k) (omega arith) (omega arith))))

up_to_is : (es : List FrameEntry) (i : ℕ) → StandApart es → i < length es → up_to es (entry_of es i) ≡ take (i + 1) es
up_to_is es i apart lt =
    let d : FrameEntry = record { place = 0; end = 0; id = 0 } in
    passes_first (λ e. nat_le e.place (entry_of es i).place) (i + 1) es d
    (λ k before_it in_es. elim (cases_lt k i) [
      | inl less ↦ let filled = apart.filled k d in_es in let rise = apart.rise k i d less lt in le-leb _ _ (omega arith)
      | inr more ↦ let same : k ≡ i = omega arith in rw same (le-leb _ _ (omega arith))
    ])
    (λ k behind in_es. let filled = apart.filled i d lt in let rise = apart.rise i k d (omega arith) in_es in lt-leb _ _ (omega arith))

-- ---- the entries so far, and those that are left

in_turn_next : (try : FrameEntry → Result (Unit {0}) Fault) (es : List FrameEntry) (i : ℕ) → i < length es
    → in_turn try (drop i es) ≡ (try (entry_of es i) >>= λ _. in_turn try (drop (i + 1) es))
in_turn_next try es i lt = ap (in_turn try) (drop_more es i (record { place = 0; end = 0; id = 0 }) lt)

tried_as : (bytes : List ℕ) (es : List FrameEntry) (i : ℕ) → StandApart es → i < length es
    → tried bytes es (entry_of es i) ≡ (all_named (length bytes) (end_of es i) (take (i + 1) es) >>= λ _. values_at bytes (entry_of es i))
tried_as bytes es i apart lt =
    ap (λ (upto : List FrameEntry). all_named (length bytes) (end_of es i) upto >>= λ _. values_at bytes (entry_of es i)) (up_to_is es i apart lt)

-- an entry has its CIEs and its values
pub tried_more : (bytes : List ℕ) (es : List FrameEntry) (i : ℕ) (total : Result (Unit {0}) Fault) → StandApart es → i < length es
    → all_named (length bytes) (end_of es i) (take (i + 1) es) ≡ Ok tt → values_at bytes (entry_of es i) ≡ Ok tt
    → in_turn (tried bytes es) (drop i es) ≡ total → in_turn (tried bytes es) (drop (i + 1) es) ≡ total
tried_more bytes es i total apart lt named values so_far =
    let here : tried bytes es (entry_of es i) ≡ Ok tt = tried_as bytes es i apart lt ∙ rw (named, values) refl in
    sym (in_turn_next (tried bytes es) es i lt ∙ rw here refl) ∙ so_far

bind_err : {A : Type 0} (r : Result (Unit {0}) Fault) (x : A) (f : Fault) → (r >>= λ _. Ok x) ≡ Err f → r ≡ Err f
bind_err (Ok u) x f is = absurd cc
bind_err (Err e) x f is = let h : e ≡ f = cc in ap (λ (g : Fault). Err g) h

-- an entry lacks one
pub named_refused : (image : Image) (relocs : Relocs) (bytes : List ℕ) (es : List FrameEntry) (i : ℕ) (f : Fault) → StandApart es → i < length es
    → all_named (length bytes) (end_of es i) (take (i + 1) es) ≡ Err f → in_turn (tried bytes es) (drop i es) ≡ in_turn (tried bytes es) es → frames_among image relocs bytes es ≡ Err f
named_refused image relocs bytes es i f apart lt named so_far =
    let here : tried bytes es (entry_of es i) ≡ Err f = tried_as bytes es i apart lt ∙ rw named refl in
    let all : in_turn (tried bytes es) es ≡ Err f = sym so_far ∙ in_turn_next (tried bytes es) es i lt ∙ rw here refl in
    rw all refl

-- there is no memory, or an entry's values are faulty
pub values_refused : (image : Image) (relocs : Relocs) (bytes : List ℕ) (es : List FrameEntry) (i : ℕ) (e : ReadError) → StandApart es → i < length es
    → all_named (length bytes) (end_of es i) (take (i + 1) es) ≡ Ok tt → Refused e (frame_at image relocs bytes es (entry_of es i))
    → in_turn (tried bytes es) (drop i es) ≡ in_turn (tried bytes es) es → Refused e (frames_among image relocs bytes es)
values_refused image relocs bytes es i errors.NoMemory apart lt named frame so_far = tt
values_refused image relocs bytes es i (errors.Faulty f) apart lt named frame so_far =
    let values : values_at bytes (entry_of es i) ≡ Err f = bind_err (values_at bytes (entry_of es i)) (frame_of image relocs bytes es (entry_of es i)) f frame in
    let here : tried bytes es (entry_of es i) ≡ Err f = tried_as bytes es i apart lt ∙ rw (named, values) refl in
    let all : in_turn (tried bytes es) es ≡ Err f = sym so_far ∙ in_turn_next (tried bytes es) es i lt ∙ rw here refl in
    rw all refl

pub bind_ok : {A : Type 0} (r : Result (Unit {0}) Fault) (x y : A) → (r >>= λ _. Ok x) ≡ Ok y → (r ≡ Ok tt) × (x ≡ y)
bind_ok (Ok u) x y is = (refl, cc)
bind_ok (Err e) x y is = absurd cc

-- ---- the frames so far

pub frames_more : (h : FrameEntry → Option RawFrame) (es : List FrameEntry) (i : ℕ) → i < length es → filter_map h (take (i + 1) es) ≡ filter_map h (take i es) ++ cons_option (h (entry_of es i)) []
frames_more h es i lt = ap (filter_map h) (take_more es i (record { place = 0; end = 0; id = 0 }) lt) ∙ filter_map-append h (take i es) (entry_of es i ∷ [])

pub past : (o : Option Missed) (i : ℕ) → IfSome o (λ m. i < m.at) → IfSome o (λ m. i + 1 ≤ m.at)
past None i h = h
past (Some m) i h = let lt : i < m.at = h in omega arith
