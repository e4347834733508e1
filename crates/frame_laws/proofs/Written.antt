-- Written frames are spelled so.
use Rattle.std.proofs.Common.{◌≡◌, ℕ, ◌+◌, ◌<◌, ◌≤◌, ◌==◌, ◌||◌, not, Bool, true, false, List, [], ◌∷◌, ◌++◌, length, map, filter, filter_map, Option, Some, None, All, if◌then◌else◌, refl, sym, ap, ap₂, subst, ◌∙◌, length-append, arith}
use Rattle.std.specs.List.{cons_option, flat_map, list_any}
use Rattle.std.specs.Option.{option_map}
use Rattle.std.proofs.lemmas.Bool.{eq-eqb, ne_eqb}
use Rattle.std.proofs.lemmas.List.Elements.{All-cons, All-head, All-nil, All-tail}
use Rattle.std.proofs.lemmas.Slice.Eq.{bytes_eq-Decides}
use Rattle.byteorder.specs.Endian.{little_bytes}
use Rattle.ds_base.specs.DwarfNumbers.{DW_CIE_ID, LENGTH_RESERVED}
use Rattle.ds_base.specs.FirstUse.{once}
use Rattle.dwarf_types.specs.declared.address.Addr.TheVariants as addrs
use Rattle.dwarf_types.specs.declared.frames.OutFrame.{OutFrame}
use Rattle.dwarf_types.specs.declared.frames.RawFrame.{RawFrame}
use Rattle.dwarf_types.specs.Frames.{Common, Description, FrameEntry, cie_place, frame_entries, frame_entry_bytes, frame_entry_len, frames_bytes, same_entry}
use Rattle.dwarf_types.specs.WellLines.{IsFrame}
use Rattle.written_laws.proofs.Firsts.{all_once, once_any}
use Rattle.frame_laws.specs.Again.{read_frame, read_frames}
use Rattle.frame_laws.specs.Spelling.{Entry, IsNamed, IsSpelled, SpellsFrames, cie, cie_content, entry_bytes, fde, frame_told}
use Rattle.frame_laws.proofs.Rows.{entry_size}

-- ---- entries as they are stored

abbrev stored : List FrameEntry → FrameEntry → Entry
stored all (Common content) = cie content
stored all (Description f) = fde (cie_place all f.cie) f.address f.length f.code

same_bytes : (all : List FrameEntry) (e : FrameEntry) → frame_entry_bytes all e ≡ entry_bytes (stored all e)
same_bytes all (Common content) = refl
same_bytes all (Description f) =
    let len : 20 + length f.code ≡ 4 + length (little_bytes 8 f.address ++ (little_bytes 8 f.length ++ f.code)) = omega (arith, length-append (little_bytes 8 f.address) (little_bytes 8 f.length ++ f.code), length-append (little_bytes 8 f.length) f.code) in
    ap (λ (n : ℕ). little_bytes 4 n ++ (little_bytes 4 (cie_place all f.cie) ++ (little_bytes 8 f.address ++ (little_bytes 8 f.length ++ f.code)))) len

all_bytes : (all es : List FrameEntry) → flat_map (frame_entry_bytes all) es ≡ flat_map entry_bytes (map (stored all) es)
all_bytes all [] = refl
all_bytes all (e ∷ es) = ap₂ (λ (a b : List ℕ). a ++ b) (same_bytes all e) (all_bytes all es)

stored_len : (all : List FrameEntry) (e : FrameEntry) → length (entry_bytes (stored all e)) ≡ frame_entry_len e
stored_len all (Common content) = entry_size (cie content)
stored_len all (Description f) =
    omega (arith, entry_size (fde (cie_place all f.cie) f.address f.length f.code), length-append (little_bytes 8 f.address) (little_bytes 8 f.length ++ f.code), length-append (little_bytes 8 f.length) f.code)

-- ---- the CIE of each FDE

-- one of a content is among them
abbrev HasCie : List FrameEntry → List ℕ → Type 0
HasCie es content = list_any (λ e. same_entry e (Common content)) es ≡ true

placed : (all : List FrameEntry) (content : List ℕ) (from : ℕ) (es : List FrameEntry) → HasCie es content → cie_content from (map (stored all) es) (from + cie_place es content) ≡ Some content
placed all content from [] has = absurd cc
placed all content from (e ∷ es) has = by e (same_entry e (Common content)) refl has (placed all content (from + length (entry_bytes (stored all e))) es)
  where
    by : (e : FrameEntry) (b : Bool) → same_entry e (Common content) ≡ b → (b || list_any (λ x. same_entry x (Common content)) es) ≡ true
        → (HasCie es content → cie_content (from + length (entry_bytes (stored all e))) (map (stored all) es) (from + length (entry_bytes (stored all e)) + cie_place es content) ≡ Some content)
        → cie_content from (stored all e ∷ map (stored all) es) (from + (if same_entry e (Common content) then 0 else frame_entry_len e + cie_place es content)) ≡ Some content
    by (Common c) true is has later =
        let same : c ≡ content = (bytes_eq-Decides c content).0 is in
        ap (λ (b : Bool). cie_content from (cie c ∷ map (stored all) es) (from + (if b then 0 else frame_entry_len (Common c) + cie_place es content))) is
        ∙ ap (λ (b : Bool). if b then Some c else cie_content (from + length (entry_bytes (cie c))) (map (stored all) es) (from + 0)) (eq-eqb from (from + 0) (omega arith)) ∙ ap (λ (xs : List ℕ). Some xs) same
    by (Description f) true is has later = absurd cc
    by e false is has later = further e is (stored all e) refl (later has)
      where
        further : (e : FrameEntry) → same_entry e (Common content) ≡ false → (x : Entry) → stored all e ≡ x
            → cie_content (from + length (entry_bytes (stored all e))) (map (stored all) es) (from + length (entry_bytes (stored all e)) + cie_place es content) ≡ Some content
            → cie_content from (stored all e ∷ map (stored all) es) (from + (if same_entry e (Common content) then 0 else frame_entry_len e + cie_place es content)) ≡ Some content
        further e is x at later =
            let len = stored_len all e in
            let some = entry_size (stored all e) in
            let place : from + (frame_entry_len e + cie_place es content) ≡ from + length (entry_bytes (stored all e)) + cie_place es content = omega (arith, len) in
            let not_here : (from == from + length (entry_bytes (stored all e)) + cie_place es content) ≡ false = ne_eqb from (from + length (entry_bytes (stored all e)) + cie_place es content) (λ e. absurd (omega (arith, e, some))) in
            ap (λ (b : Bool). cie_content from (stored all e ∷ map (stored all) es) (from + (if b then 0 else frame_entry_len e + cie_place es content))) is
            ∙ ap (cie_content from (stored all e ∷ map (stored all) es)) place
            ∙ skip (stored all e) not_here ∙ later
          where
            skip : (x : Entry) → (from == from + length (entry_bytes x) + cie_place es content) ≡ false
                → cie_content from (x ∷ map (stored all) es) (from + length (entry_bytes x) + cie_place es content) ≡ cie_content (from + length (entry_bytes x)) (map (stored all) es) (from + length (entry_bytes x) + cie_place es content)
            skip (cie c) not_here = ap (λ (b : Bool). if b then Some c else cie_content (from + length (entry_bytes (cie c))) (map (stored all) es) (from + length (entry_bytes (cie c)) + cie_place es content)) not_here
            skip (fde p a r c) not_here = ap (λ (b : Bool). if b then None else cie_content (from + length (entry_bytes (fde p a r c))) (map (stored all) es) (from + length (entry_bytes (fde p a r c)) + cie_place es content)) not_here

placed_first : (all : List FrameEntry) (content : List ℕ) → HasCie all content → cie_content 0 (map (stored all) all) (cie_place all content) ≡ Some content
placed_first all content has = let zero_first : cie_place all content ≡ 0 + cie_place all content = omega arith in ap (cie_content 0 (map (stored all) all)) zero_first ∙ placed all content 0 all has

-- an FDE has its CIE among all, and each entry keeps to its numbers
abbrev pub IsKept : List FrameEntry → FrameEntry → Type 0
IsKept all (Common content) = Unit {0}
IsKept all (Description f) = HasCie all f.cie × IsFrame f

abbrev pair : OutFrame → List FrameEntry
pair f = Common f.cie ∷ Description f ∷ []

kept_more : (a b : FrameEntry) (all es : List FrameEntry) → All (IsKept all) es → All (IsKept (a ∷ b ∷ all)) es
kept_more a b all [] is = All-nil (IsKept (a ∷ b ∷ all))
kept_more a b all (e ∷ es) is = All-cons (IsKept (a ∷ b ∷ all)) e es (one e (All-head (IsKept all) e es is)) (kept_more a b all es (All-tail (IsKept all) e es is))
  where
    right : (x y : Bool) → y ≡ true → (x || y) ≡ true
    right true y e = refl
    right false y e = e

    one : (e : FrameEntry) → IsKept all e → IsKept (a ∷ b ∷ all) e
    one (Common content) is = tt
    one (Description f) is =
        (right (same_entry a (Common f.cie)) (same_entry b (Common f.cie) || list_any (λ e. same_entry e (Common f.cie)) all) (right (same_entry b (Common f.cie)) (list_any (λ e. same_entry e (Common f.cie)) all) is.0), is.1)

kept : (frames : List OutFrame) → All IsFrame frames → All (IsKept (flat_map pair frames)) (flat_map pair frames)
kept [] all = All-nil (IsKept [])
kept (f ∷ frames) all =
    let whole : List FrameEntry = Common f.cie ∷ Description f ∷ flat_map pair frames in
    let first : HasCie (Common f.cie ∷ Description f ∷ flat_map pair frames) f.cie = ap (λ (b : Bool). b || (false || list_any (λ e. same_entry e (Common f.cie)) (flat_map pair frames))) ((bytes_eq-Decides f.cie f.cie).1 refl) in
    All-cons (IsKept (Common f.cie ∷ Description f ∷ flat_map pair frames)) (Common f.cie) (Description f ∷ flat_map pair frames) tt
    (All-cons (IsKept (Common f.cie ∷ Description f ∷ flat_map pair frames)) (Description f) (flat_map pair frames) (first, All-head IsFrame f frames all)
    (kept_more (Common f.cie) (Description f) (flat_map pair frames) (flat_map pair frames) (kept frames (All-tail IsFrame f frames all))))

same_is : (a b : FrameEntry) → same_entry a b ≡ true → a ≡ b
same_is (Common a) (Common b) e = ap Common ((bytes_eq-Decides a b).0 e)
same_is (Common a) (Description f) e = absurd cc
same_is (Description f) b e = absurd cc

kept_once : (all : List FrameEntry) (es : List FrameEntry) → All (IsKept all) es → All (IsKept (once same_entry all)) es
kept_once all [] is = All-nil (IsKept (once same_entry all))
kept_once all (e ∷ es) is = All-cons (IsKept (once same_entry all)) e es (one e (All-head (IsKept all) e es is)) (kept_once all es (All-tail (IsKept all) e es is))
  where
    one : (e : FrameEntry) → IsKept all e → IsKept (once same_entry all) e
    one (Common content) is = tt
    one (Description f) is = (once_any same_entry same_is (Common f.cie) all is.0, is.1)

pub all_kept : (frames : List OutFrame) → All IsFrame frames → All (IsKept (frame_entries frames)) (frame_entries frames)
all_kept frames all = kept_once (flat_map pair frames) (frame_entries frames) (all_once same_entry (IsKept (flat_map pair frames)) (flat_map pair frames) (kept frames all))

-- ---- the frames

abbrev described : FrameEntry → Option OutFrame
described (Common content) = None
described (Description f) = Some f

-- a test that lets each FDE through
filter_described : (p : FrameEntry → Bool) → ((f : OutFrame) → p (Description f) ≡ true) → (es : List FrameEntry) → filter_map described (filter p es) ≡ filter_map described es
filter_described p through [] = refl
filter_described p through (Common c ∷ es) = by (p (Common c)) (filter_described p through es)
  where
    by : (b : Bool) → filter_map described (filter p es) ≡ filter_map described es → filter_map described (if b then Common c ∷ filter p es else filter p es) ≡ filter_map described es
    by true e = e
    by false e = e
filter_described p through (Description f ∷ es) =
    ap (λ (b : Bool). filter_map described (if b then Description f ∷ filter p es else filter p es)) (through f) ∙ ap (λ (xs : List OutFrame). f ∷ xs) (filter_described p through es)

once_described : (frames : List OutFrame) → filter_map described (frame_entries frames) ≡ frames
once_described [] = refl
once_described (f ∷ frames) =
    let rest = filter (λ y. not (same_entry (Description f) y)) (once same_entry (flat_map pair frames)) in
    filter_described (λ y. not (same_entry (Common f.cie) y)) (λ g. refl) (Description f ∷ rest)
    ∙ ap (λ (xs : List OutFrame). f ∷ xs) (filter_described (λ y. not (same_entry (Description f) y)) (λ g. refl) (once same_entry (flat_map pair frames)) ∙ once_described frames)

module _ (all : List FrameEntry) where
  abbrev entries : List Entry
  entries = map (stored all) all

  told : (es : List FrameEntry) → All (IsKept all) es → filter_map (frame_told entries) (map (stored all) es) ≡ map read_frame (filter_map described es)
  told [] is = refl
  told (Common c ∷ es) is = told es (All-tail (IsKept all) (Common c) es is)
  told (Description f ∷ es) is =
      let found = placed_first all f.cie (All-head (IsKept all) (Description f) es is).0 in
      ap (λ (o : Option (List ℕ)). cons_option (option_map (λ content. raw f content) o) (filter_map (frame_told entries) (map (stored all) es))) found ∙ ap (λ (xs : List RawFrame). read_frame f ∷ xs) (told es (All-tail (IsKept all) (Description f) es is))
    where
      raw : OutFrame → List ℕ → RawFrame
      raw f content = record { cie = content; at = addrs.Fixed f.address; length = f.length; code = f.code }

  named : (es : List FrameEntry) → All (IsKept all) es → All (IsNamed entries) (map (stored all) es)
  named [] is = All-nil (IsNamed entries)
  named (e ∷ es) is = All-cons (IsNamed entries) (stored all e) (map (stored all) es) (one e (All-head (IsKept all) e es is)) (named es (All-tail (IsKept all) e es is))
    where
      one : (e : FrameEntry) → IsKept all e → IsNamed entries (stored all e)
      one (Common c) is = tt
      one (Description f) is = (f.cie, placed_first all f.cie is.0)

  -- where a CIE stands, with all of its bytes
  place_small : (content : List ℕ) (es : List FrameEntry) → HasCie es content → cie_place es content + 8 ≤ length (flat_map entry_bytes (map (stored all) es))
  place_small content [] has = absurd cc
  place_small content (e ∷ es) has = by (same_entry e (Common content)) has (place_small content es)
    where
      by : (b : Bool) → (b || list_any (λ x. same_entry x (Common content)) es) ≡ true → (HasCie es content → cie_place es content + 8 ≤ length (flat_map entry_bytes (map (stored all) es)))
          → (if b then 0 else frame_entry_len e + cie_place es content) + 8 ≤ length (entry_bytes (stored all e) ++ flat_map entry_bytes (map (stored all) es))
      by true has later = omega (arith, length-append (entry_bytes (stored all e)) (flat_map entry_bytes (map (stored all) es)), entry_size (stored all e))
      by false has later = let le = later has in omega (arith, le, length-append (entry_bytes (stored all e)) (flat_map entry_bytes (map (stored all) es)), stored_len all e)

  module _ (small : length (flat_map entry_bytes (map (stored all) all)) < LENGTH_RESERVED) where
    spelled : (es : List FrameEntry) → All (IsKept all) es → length (flat_map entry_bytes (map (stored all) es)) < LENGTH_RESERVED → All IsSpelled (map (stored all) es)
    spelled [] is fits = All-nil IsSpelled
    spelled (e ∷ es) is fits =
        let len = length-append (entry_bytes (stored all e)) (flat_map entry_bytes (map (stored all) es)) in
        All-cons IsSpelled (stored all e) (map (stored all) es) (one e (All-head (IsKept all) e es is) (omega (arith, len, fits))) (spelled es (All-tail (IsKept all) e es is) (omega (arith, len, fits)))
      where
        one : (e : FrameEntry) → IsKept all e → length (entry_bytes (stored all e)) < LENGTH_RESERVED → IsSpelled (stored all e)
        one (Common c) is fits = omega (arith, fits, entry_size (cie c))
        one (Description f) is fits =
            let within = place_small f.cie all is.0 in
            let frame = is.1 in
            let len = stored_len all (Description f) in
            (omega (arith, fits, len), omega (arith, within, small), ne_eqb (cie_place all f.cie) DW_CIE_ID (λ e. absurd (omega (arith, e, within, small))), frame.address, frame.length)

pub frames_spelled : (frames : List OutFrame) → All IsFrame frames → length (frames_bytes frames) < LENGTH_RESERVED → SpellsFrames (frames_bytes frames) (read_frames frames)
frames_spelled frames all small =
    let es = frame_entries frames in
    let is = all_kept frames all in
    let bytes = all_bytes (frame_entries frames) (frame_entries frames) in
    let fits = subst (λ (b : List ℕ). length b < LENGTH_RESERVED) bytes small in
    record {
      entries = map (stored (frame_entries frames)) (frame_entries frames);
      whole = bytes;
      each = spelled (frame_entries frames) fits (frame_entries frames) is fits;
      named = named (frame_entries frames) (frame_entries frames) is;
      told = ap (map read_frame) (sym (once_described frames)) ∙ sym (told (frame_entries frames) (frame_entries frames) is);
    }
