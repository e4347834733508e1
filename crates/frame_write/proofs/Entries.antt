-- The entries of a frame section: one frame at a time, and all at once; and where each CIE stands.
use Rattle.std.proofs.Common.{◌≡◌, ℕ, ◌+◌, Bool, true, false, not, ◌||◌, ◌&&◌, List, [], ◌∷◌, ◌++◌, filter, fold, Option, None, Some, is_some, if◌then◌else◌, refl, sym, ap, ◌∙◌, append_assoc, arith}
use Rattle.std.specs.List.{flat_map, list_any, sum_by}
use Rattle.std.specs.Option.{option_map, option_or}
use Rattle.std.proofs.lemmas.List.{append-nil}
use Rattle.std.proofs.lemmas.List.Elements.{filter-append}
use Rattle.std.proofs.lemmas.List.Sums.{sum_by-cons}
use Rattle.std.proofs.lemmas.Map.Views.{any-filter_same}
use Rattle.std.proofs.lemmas.Slice.Eq.{bytes_eq-Decides}
use Rattle.ds_base.specs.FirstUse.{once}
use Rattle.dwarf_types.specs.declared.frames.OutFrame.{OutFrame}
use Rattle.dwarf_types.specs.Frames.{FrameEntry, Common, Description, cie_place, frame_entries, frame_entry_len, same_entry}

-- ---- entries by first use

abbrev pub with_entry : List FrameEntry → FrameEntry → List FrameEntry
with_entry es e = if list_any (λ x. same_entry x e) es then es else es ++ e ∷ []

abbrev other : FrameEntry → FrameEntry → Bool
other x y = not (same_entry x y)

same_on : (x y t : FrameEntry) → same_entry y t ≡ true → same_entry x y ≡ same_entry x t
same_on x (Common b) (Common c) e = ap (λ (bytes : List ℕ). same_entry x (Common bytes)) ((bytes_eq-Decides b c).0 e)
same_on x (Common b) (Description f) e = absurd cc
same_on x (Description f) t e = absurd cc

any-others : (x t : FrameEntry) (es : List FrameEntry) → list_any (λ y. same_entry y t) (filter (other x) es) ≡ (other x t && list_any (λ y. same_entry y t) es)
any-others x t es = any-filter_same (λ y. same_entry y t) (other x) (other x t) (λ y e. ap not (same_on x y t e)) es

first-with : (x : FrameEntry) (es : List FrameEntry) (t : FrameEntry) → x ∷ filter (other x) (with_entry es t) ≡ with_entry (x ∷ filter (other x) es) t
first-with x es t = rw (any-others x t es) (by (same_entry x t) refl (list_any (λ y. same_entry y t) es))
  where
    by : (same : Bool) → same_entry x t ≡ same → (known : Bool)
        → x ∷ filter (other x) (if known then es else es ++ t ∷ []) ≡ (if same || (not same && known) then x ∷ filter (other x) es else x ∷ filter (other x) es ++ t ∷ [])
    by true e true = refl
    by false e true = refl
    by true e false = rw (filter-append (other x) es (t ∷ []), e, append-nil) refl
    by false e false = rw (filter-append (other x) es (t ∷ []), e) refl

once-push : (es : List FrameEntry) (t : FrameEntry) → once same_entry (es ++ t ∷ []) ≡ with_entry (once same_entry es) t
once-push [] t = refl
once-push (x ∷ es) t = ap (λ (others : List FrameEntry). x ∷ filter (other x) others) (once-push es t) ∙ first-with x (once same_entry es) t

once-append : (before uses : List FrameEntry) → fold with_entry (once same_entry before) uses ≡ once same_entry (before ++ uses)
once-append before [] = sym (ap (once same_entry) (append-nil before))
once-append before (t ∷ uses) =
    ap (λ (es : List FrameEntry). fold with_entry es uses) (sym (once-push before t)) ∙ once-append (before ++ t ∷ []) uses ∙ ap (once same_entry) (append_assoc before (t ∷ []) uses)

-- ---- where a CIE stands among entries

abbrev pub place_among : List FrameEntry → List ℕ → Option ℕ
place_among [] cie = None
place_among (e ∷ es) cie = if same_entry e (Common cie) then Some 0 else option_map (λ n. frame_entry_len e + n) (place_among es cie)

pub among_any : (es : List FrameEntry) (cie : List ℕ) → is_some (place_among es cie) ≡ list_any (λ x. same_entry x (Common cie)) es
among_any [] cie = refl
among_any (e ∷ es) cie = by (same_entry e (Common cie)) (place_among es cie) ∙ ap (λ (b : Bool). same_entry e (Common cie) || b) (among_any es cie)
  where
    by : (first : Bool) (rest : Option ℕ) → is_some (if first then Some 0 else option_map (λ n. frame_entry_len e + n) rest) ≡ (first || is_some rest)
    by true rest = refl
    by false (Some n) = refl
    by false None = refl

-- where it is among the first ones, it stands there, and else behind them
pub among-append : (xs ys : List FrameEntry) (cie : List ℕ) → place_among (xs ++ ys) cie ≡ option_or (place_among xs cie) (option_map (λ n. sum_by frame_entry_len xs + n) (place_among ys cie))
among-append [] ys cie = by (place_among ys cie)
  where
    by : (o : Option ℕ) → o ≡ option_map (λ n. 0 + n) o
    by None = refl
    by (Some n) = ap (λ (m : ℕ). Some m) (omega arith)
among-append (x ∷ xs) ys cie =
    ap (λ (o : Option ℕ). if same_entry x (Common cie) then Some 0 else option_map (λ n. frame_entry_len x + n) o) (among-append xs ys cie)
    ∙ by (same_entry x (Common cie)) (place_among xs cie) (place_among ys cie)
  where
    by : (first : Bool) (rest more : Option ℕ)
        → (if first then Some 0 else option_map (λ n. frame_entry_len x + n) (option_or rest (option_map (λ n. sum_by frame_entry_len xs + n) more)))
        ≡ option_or (if first then Some 0 else option_map (λ n. frame_entry_len x + n) rest) (option_map (λ n. sum_by frame_entry_len (x ∷ xs) + n) more)
    by true rest more = refl
    by false (Some n) more = refl
    by false None None = refl
    by false None (Some n) = ap (λ (m : ℕ). Some m) (omega (arith, sum_by-cons frame_entry_len x xs))

-- and so does the section say
pub among_is : (es more : List FrameEntry) (cie : List ℕ) (n : ℕ) → place_among es cie ≡ Some n → cie_place (es ++ more) cie ≡ n
among_is [] more cie n e = absurd cc
among_is (x ∷ es) more cie n e = by (same_entry x (Common cie)) (place_among es cie) (λ m. among_is es more cie m) e
  where
    by : (first : Bool) (rest : Option ℕ) → ((m : ℕ) → rest ≡ Some m → cie_place (es ++ more) cie ≡ m) → (if first then Some 0 else option_map (λ n. frame_entry_len x + n) rest) ≡ Some n
        → (if first then 0 else frame_entry_len x + cie_place (es ++ more) cie) ≡ n
    by true rest known e = cc
    by false None known e = absurd cc
    by false (Some m) known e =
        let is : frame_entry_len x + m ≡ n = cc in
        omega (arith, known m refl, is)

-- ---- frames

abbrev pub with_frame : List FrameEntry → OutFrame → List FrameEntry
with_frame es f = with_entry (with_entry es (Common f.cie)) (Description f)

abbrev entries_of : OutFrame → List FrameEntry
entries_of f = Common f.cie ∷ Description f ∷ []

frame_by_frame : (es : List FrameEntry) (frames : List OutFrame) → fold with_entry es (flat_map entries_of frames) ≡ fold with_frame es frames
frame_by_frame es [] = refl
frame_by_frame es (f ∷ frames) = frame_by_frame (with_frame es f) frames

pub frame_entries_are : (frames : List OutFrame) → frame_entries frames ≡ fold with_frame [] frames
frame_entries_are frames = sym (once-append [] (flat_map entries_of frames)) ∙ frame_by_frame [] frames

-- what a frame adds to the entries: its CIE where that is new, and itself
abbrev pub added : Option ℕ → OutFrame → List FrameEntry
added (Some place) f = Description f ∷ []
added None f = Common f.cie ∷ Description f ∷ []

no_description : (f : OutFrame) (es : List FrameEntry) → list_any (λ x. same_entry x (Description f)) es ≡ false
no_description f [] = refl
no_description f (Common c ∷ es) = no_description f es
no_description f (Description g ∷ es) = no_description f es

pub with_frame_is : (es : List FrameEntry) (f : OutFrame) → with_frame es f ≡ es ++ added (place_among es f.cie) f
with_frame_is es f =
    rw (no_description f (with_entry es (Common f.cie)), ← among_any es f.cie) (by (place_among es f.cie))
  where
    by : (o : Option ℕ) → (if is_some o then es else es ++ Common f.cie ∷ []) ++ Description f ∷ [] ≡ es ++ added o f
    by (Some place) = refl
    by None = append_assoc es (Common f.cie ∷ []) (Description f ∷ [])

-- those that were there stay
pub entries_stay : (es : List FrameEntry) (frames : List OutFrame) → (more : List FrameEntry) × (fold with_frame es frames ≡ es ++ more)
entries_stay es [] = ([], sym (append-nil es))
entries_stay es (f ∷ frames) =
    let mine = added (place_among es f.cie) f in
    let rest = entries_stay (with_frame es f) frames in
    (mine ++ rest.0, rest.1 ∙ ap (λ (front : List FrameEntry). front ++ rest.0) (with_frame_is es f) ∙ append_assoc es mine rest.0)
