-- FDEs that name no CIE, and which of them shows first.
use Rattle.std.proofs.Common.{◌≡◌, ℕ, ◌+◌, ◌<◌, ◌≤◌, ◌==◌, ◌&&◌, not, Bool, true, false, List, length, take, get_or, Option, Some, None, is_none, refl, sym, ap, subst, ◌∙◌, arith, inl, inr, le_refl, ◌⊎◌}
use Rattle.std.specs.List.{All, find}
use Rattle.std.proofs.lemmas.Bool.{leb-true, le-leb, lt-leb, lt-ltb, le-ltb, ne_eqb, cases_lt, and_left, and_right, and_from, and_parts, or_left, or_right, or_from}
use Rattle.std.proofs.lemmas.List.{get_or-take, length-take-le}
use Rattle.std.proofs.lemmas.List.Recursion.{found_at, found_nowhere}
use Rattle.ds_base.proofs.Finding.{find_take}
use Rattle.frame_table.specs.declared.entry.FrameEntry.{FrameEntry}
use Rattle.frame_table.specs.declared.naming.Missed.{Missed}
use Rattle.frame_table.specs.Entry.{is_cie}
use Rattle.frame_table.specs.Naming.{if_cie, is_due, lacks_cie}
use Rattle.frame_table.specs.Order.{StandApart, IsFirst, IsFirstMissed, IsLeast, earlier_of, end_of, entry_of, is_due_at, is_missed}

-- ---- where a CIE is due

-- not before the entry that holds its place, and not before the FDE
pub due_never : (size : ℕ) (es : List FrameEntry) (i at : ℕ) → at < length es → (at < i) ⊎ ((end_of es at) ≤ (entry_of es i).id × ((entry_of es i).id < size)) → is_due_at size es i at ≡ false
due_never size es i at lt (inl before) = and_left _ _ (lt-leb i at before)
due_never size es i at lt (inr out) = and_right _ _ (or_from _ _ (le-ltb (entry_of es i).id (end_of es at) out.0) (lt-leb size (entry_of es i).id out.1))

pub due_here : (size : ℕ) (es : List FrameEntry) (i at : ℕ) → i ≤ at → (entry_of es i).id < end_of es at → is_due_at size es i at ≡ true
due_here size es i at le lt = and_from _ _ (le-leb i at le) (or_left _ _ (lt-ltb (entry_of es i).id (end_of es at) lt))

pub due_past : (size : ℕ) (es : List FrameEntry) (i : ℕ) → size ≤ (entry_of es i).id → is_due_at size es i i ≡ true
due_past size es i le = and_from _ _ (le-leb i i (le_refl i)) (or_right _ _ (le-leb size (entry_of es i).id le))

-- ---- the first of a row of tests

pub first_same : (p q : ℕ → Bool) (n : ℕ) (first : Option ℕ) → ((k : ℕ) → p k ≡ q k) → IsFirst p n first → IsFirst q n first
first_same p q n None same none = λ k lt. sym (same k) ∙ none k lt
first_same p q n (Some at) same first = (first.0, sym (same at) ∙ first.1, λ k lt. sym (same k) ∙ first.2 k lt)

-- ---- the first of several

pub earlier_first : (p : ℕ → ℕ → Bool) (n k : ℕ) (first : Option Missed) (at : Option ℕ) → IsFirstMissed p n k first → IsFirst (λ j. p j k) n at → IsFirstMissed p n (k + 1) (earlier_of first at k)
earlier_first p n k None None so_far none = λ at i lt below. elim (cases_lt i k) [
  | inl less ↦ so_far at i lt less
  | inr more ↦ let same : k ≡ i = omega arith in subst (λ (j : ℕ). p at j ≡ false) same (none at lt)
]
earlier_first p n k (Some m) None so_far none = record {
  within = so_far.within;
  below = let h = so_far.below in omega arith;
  is = so_far.is;
  before = λ at i lt below. elim (cases_lt i k) [
    | inl less ↦ so_far.before at i lt less
    | inr more ↦ let same : k ≡ i = omega arith in let w = so_far.within in subst (λ (j : ℕ). p at j ≡ false) same (none at (omega arith))
  ];
  first = so_far.first;
}
earlier_first p n k None (Some here) so_far first = record {
  within = first.0;
  below = omega arith;
  is = first.1;
  before = λ at i lt below. elim (cases_lt i k) [
    | inl less ↦ let w = first.0 in so_far at i (omega arith) less
    | inr more ↦ let same : k ≡ i = omega arith in subst (λ (j : ℕ). p at j ≡ false) same (first.2 at lt)
  ];
  first = λ i lt. so_far here i first.0 lt;
}
earlier_first p n k (Some m) (Some here) so_far first = elim (cases_lt here m.at) [
  | inl less ↦ rw (lt-leb m.at here less) (record {
    within = first.0;
    below = omega arith;
    is = first.1;
    before = λ at i lt below. elim (cases_lt i k) [
      | inl j ↦ so_far.before at i (omega arith) j
      | inr more ↦ let same : k ≡ i = omega arith in subst (λ (j : ℕ). p at j ≡ false) same (first.2 at lt)
    ];
    first = λ i lt. so_far.before here i less lt;
  })
  | inr more ↦ rw (le-leb m.at here more) (record {
    within = so_far.within;
    below = let h = so_far.below in omega arith;
    is = so_far.is;
    before = λ at i lt below. elim (cases_lt i k) [
      | inl j ↦ so_far.before at i lt j
      | inr past ↦ let same : k ≡ i = omega arith in subst (λ (j : ℕ). p at j ≡ false) same (first.2 at (omega arith))
    ];
    first = so_far.first;
  })
]

-- ---- the entries up to one, and all entries

cases_due : (size end : ℕ) (fde : FrameEntry) → ((fde.id < end) ⊎ (size ≤ fde.id)) ⊎ (is_due size end fde ≡ false)
cases_due size end fde = elim (cases_lt fde.id end) [
  | inl before ↦ inl (inl before)
  | inr behind ↦ elim (cases_lt fde.id size) [
    | inl inside ↦ inr (or_from _ _ (le-ltb fde.id end behind) (lt-leb size fde.id inside))
    | inr past ↦ inl (inr past)
  ]
]

-- a CIE that is due stands among the entries so far, or nowhere
lacks_same : (size : ℕ) (es : List FrameEntry) (at : ℕ) (fde d : FrameEntry) → StandApart es → All (λ e. e.end ≤ size) es → at < length es
    → lacks_cie size (get_or es at d).end (take (at + 1) es) fde ≡ lacks_cie size (get_or es at d).end es fde
lacks_same size es at fde d apart within lt = elim (cases_due size (get_or es at d).end fde) [
  | inl due ↦ ap (λ (o : Option FrameEntry). not (is_cie fde) && (is_due size (get_or es at d).end fde && is_none (if_cie o)))
      (find_take (λ e. e.place == fde.id) (at + 1) es d (λ k from below.
      let filled = apart.filled k d below in let end = within k d below in let rise = apart.rise at k d (omega arith) below in
      elim due [
        | inl before ↦ ne_eqb _ _ (λ same. omega arith)
        | inr past ↦ ne_eqb _ _ (λ same. omega arith)
      ]))
  | inr not_due ↦ and_right _ _ (and_left _ _ not_due) ∙ sym (and_right _ _ (and_left _ _ not_due))
]

abbrev default : FrameEntry
default = record { place = 0; end = 0; id = 0 }

lacks_among : (size : ℕ) (es : List FrameEntry) (i k : ℕ) → StandApart es → All (λ e. e.end ≤ size) es → i < length es → k ≤ i
    → lacks_cie size (end_of es i) (take (i + 1) es) (get_or (take (i + 1) es) k default) ≡ lacks_cie size (end_of es i) es (entry_of es k)
lacks_among size es i k apart within lt le =
    ap (λ (e : FrameEntry). lacks_cie size (end_of es i) (take (i + 1) es) e) (get_or-take (i + 1) es k default (omega arith))
    ∙ lacks_same size es i (entry_of es k) default apart within lt

missed_is : (size : ℕ) (es : List FrameEntry) (at i : ℕ) (b : Bool) → i ≤ at → is_missed size es at i ≡ b → lacks_cie size (end_of es at) es (entry_of es i) ≡ b
missed_is size es at i b le is = sym (ap (λ (x : Bool). x && lacks_cie size (end_of es at) es (entry_of es i)) (le-leb i at le)) ∙ is

-- the one that is missed first is the first of those that lack a CIE where it is missed
pub found_missed : (size : ℕ) (es : List FrameEntry) (i : ℕ) (m : Missed) → StandApart es → All (λ e. e.end ≤ size) es → i < length es → IsLeast (is_missed size es) (length es) (length es) m → m.at ≡ i
    → find (lacks_cie size (end_of es i) (take (i + 1) es)) (take (i + 1) es) ≡ Some (entry_of es m.entry)
found_missed size es i m apart within lt least at =
    let is : is_missed size es i m.entry ≡ true = subst (λ (k : ℕ). is_missed size es k m.entry ≡ true) at least.is in
    let le : m.entry ≤ i = leb-true m.entry i (and_parts _ _ is).0 in
    let len : length (take (i + 1) es) ≡ i + 1 = length-take-le (i + 1) es (omega arith) in
    found_at (find (lacks_cie size (end_of es i) (take (i + 1) es))) (lacks_cie size (end_of es i) (take (i + 1) es)) (λ e. Some e) None refl (λ e es. refl) (take (i + 1) es) m.entry default (omega arith)
    (λ k before. lacks_among size es i k apart within lt (omega arith) ∙ missed_is size es i k false (omega arith) (subst (λ (j : ℕ). is_missed size es j k ≡ false) at (least.first k before)))
    (lacks_among size es i m.entry apart within lt le ∙ missed_is size es i m.entry true le is)
    ∙ ap (λ (e : FrameEntry). Some e) (get_or-take (i + 1) es m.entry default (omega arith))

none_found : (size : ℕ) (es : List FrameEntry) (i : ℕ) → StandApart es → All (λ e. e.end ≤ size) es → i < length es → ((k : ℕ) → k < length es → is_missed size es i k ≡ false)
    → find (lacks_cie size (end_of es i) (take (i + 1) es)) (take (i + 1) es) ≡ None
none_found size es i apart within lt none =
    let len : length (take (i + 1) es) ≡ i + 1 = length-take-le (i + 1) es (omega arith) in
    found_nowhere (find (lacks_cie size (end_of es i) (take (i + 1) es))) (lacks_cie size (end_of es i) (take (i + 1) es)) (λ e. Some e) None refl (λ e es. refl) (take (i + 1) es) default
    (λ k below. lacks_among size es i k apart within lt (omega arith) ∙ missed_is size es i k false (omega arith) (none k (omega arith)))

-- none lacks one where none is missed yet
pub none_missed : (size : ℕ) (es : List FrameEntry) (i : ℕ) (m : Missed) → StandApart es → All (λ e. e.end ≤ size) es → i < length es → IsLeast (is_missed size es) (length es) (length es) m → i < m.at
    → find (lacks_cie size (end_of es i) (take (i + 1) es)) (take (i + 1) es) ≡ None
none_missed size es i m apart within lt least before = none_found size es i apart within lt (λ k below. least.before i k before below)

pub never_missed : (size : ℕ) (es : List FrameEntry) (i : ℕ) → StandApart es → All (λ e. e.end ≤ size) es → i < length es → IsFirstMissed (is_missed size es) (length es) (length es) None
    → find (lacks_cie size (end_of es i) (take (i + 1) es)) (take (i + 1) es) ≡ None
never_missed size es i apart within lt never = none_found size es i apart within lt (λ k below. never i k lt below)
