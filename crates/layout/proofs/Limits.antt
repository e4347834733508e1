-- The first section that is too long.
use Rattle.std.proofs.Common.{◌≡◌, ℕ, zero, suc, ◌+◌, ◌-◌, ◌^◌, ◌<◌, ◌==◌, nat_le, Bool, true, false, List, [], ◌∷◌, length, map, Option, Some, None, slice_get, if◌then◌else◌, refl, sym, ap, ◌∙◌, arith}
use Rattle.std.specs.List.{find}
use Rattle.std.specs.Option.{option_map}
use Rattle.std.proofs.lemmas.Bool.{eqb-true, leb-false}
use Rattle.ds_base.specs.declared.fault.Part.{Part}
use Rattle.ds_base.specs.declared.fault.Part.TheVariants as parts
use Rattle.dwarf_types.specs.declared.graph.Graph.{Graph}
use Rattle.dwarf_types.specs.declared.graph.Written.{Written}
use Rattle.dwarf_types.specs.Encode.{abbrev_section, line_section, str_section}
use Rattle.layout.specs.declared.sizes.Sizes.{Sizes}
use Rattle.layout.specs.declared.table.Common.TheVariants as commons
use Rattle.layout.specs.declared.table.Content.{Content}
use Rattle.layout.specs.declared.table.Content.TheVariants as contents
use Rattle.layout.specs.declared.table.Section.{Section}
use Rattle.layout.specs.declared.table.TheConstants.{SECTIONS}
use Rattle.layout.specs.Lengths.{lists_size, long_section, size_in}
use Rattle.layout.specs.Pass.{AreBelow, first_long, is_long, long_in}
use Rattle.layout.specs.Sections.{content_bytes, written_in}

-- ---- tests

-- the same sections are long
module _ (a b : Content → Bool) (same : (c : Content) → a c ≡ b c) where
  same_in : (sections : List Section) → long_in a sections ≡ long_in b sections
  same_in [] = refl
  same_in (s ∷ sections) = ap (λ (t : Bool). if t then Some s.part else long_in a sections) (same s.content) ∙ ap (λ (o : Option Part). if b s.content then Some s.part else o) (same_in sections)

  pub same_long : first_long a ≡ first_long b
  same_long =
      ap (λ (t : Bool). if t then Some parts.Str else long_in a SECTIONS) (same (contents.Common commons.Texts))
      ∙ ap (λ (o : Option Part). if b (contents.Common commons.Texts) then Some parts.Str else o) (same_in SECTIONS)

passed : (b : Bool) (part : Part) (rest : Option Part) → (if b then Some part else rest) ≡ None → (b ≡ false) × (rest ≡ None)
passed true part rest e = absurd cc
passed false part rest e = (refl, e)

-- none of them is long
none_in : (t : Content → Bool) (sections : List Section) (i : ℕ) (s : Section) → slice_get sections i ≡ Some s → long_in t sections ≡ None → t s.content ≡ false
none_in t [] i s at e = absurd cc
none_in t (x ∷ sections) zero s at e =
    let same : x ≡ s = cc in
    sym (ap (λ (y : Section). t y.content) same) ∙ (passed (t x.content) x.part (long_in t sections) e).0
none_in t (x ∷ sections) (suc i) s at e = none_in t sections i s at (passed (t x.content) x.part (long_in t sections) e).1

pub none_at : (t : Content → Bool) (i : ℕ) (s : Section) → slice_get SECTIONS i ≡ Some s → first_long t ≡ None → t s.content ≡ false
none_at t i s at e = none_in t SECTIONS i s at (passed (t (contents.Common commons.Texts)) parts.Str (long_in t SECTIONS) e).1

-- ---- those that are made late

abbrev pub late : Content → Bool
late (contents.Common commons.Aranges) = true
late (contents.Common commons.Frames) = true
late _ = false

abbrev all_late : List Section → Bool
all_late [] = true
all_late (s ∷ sections) = if late s.content then all_late sections else false

-- they stand behind the others
abbrev stand_last : List Section → Bool
stand_last [] = true
stand_last (s ∷ sections) = if late s.content then all_late sections else stand_last sections

-- where nothing is known of these, and all is known of the others, the first long section is known
module _ (t g : Content → Bool) (known : (c : Content) → late c ≡ false → t c ≡ g c) (silent : (c : Content) → late c ≡ true → t c ≡ false) where
  none_late : (sections : List Section) → all_late sections ≡ true → long_in t sections ≡ None
  none_late [] e = refl
  none_late (s ∷ sections) e = by (late s.content) refl e (none_late sections)
    where
      by : (l : Bool) → late s.content ≡ l → (if l then all_late sections else false) ≡ true → (all_late sections ≡ true → long_in t sections ≡ None) → (if t s.content then Some s.part else long_in t sections) ≡ None
      by true is e more = ap (λ (b : Bool). if b then Some s.part else long_in t sections) (silent s.content is) ∙ more e
      by false is e more = absurd cc

  -- a late section is not the first
  never : (part : Part) (s : Section) (sections : List Section) → late s.content ≡ true → all_late sections ≡ true → (if t s.content then Some s.part else long_in t sections) ≡ Some part → ⊥
  never part s sections is last e =
      let none : (if t s.content then Some s.part else long_in t sections) ≡ None = ap (λ (b : Bool). if b then Some s.part else long_in t sections) (silent s.content is) ∙ none_late sections last in
      cc

  early_in : (part : Part) (sections : List Section) → stand_last sections ≡ true → long_in t sections ≡ Some part → long_in g sections ≡ Some part
  early_in part [] last e = absurd cc
  early_in part (s ∷ sections) last e = by (late s.content) refl last (early_in part sections)
    where
      here : (b : Bool) → (if b then Some s.part else long_in t sections) ≡ Some part → (long_in t sections ≡ Some part → long_in g sections ≡ Some part) → (if b then Some s.part else long_in g sections) ≡ Some part
      here true e more = e
      here false e more = more e

      by : (l : Bool) → late s.content ≡ l → (if l then all_late sections else stand_last sections) ≡ true → (stand_last sections ≡ true → long_in t sections ≡ Some part → long_in g sections ≡ Some part)
          → (if g s.content then Some s.part else long_in g sections) ≡ Some part
      by true is last more = absurd (never part s sections is last e)
      by false is last more = ap (λ (b : Bool). if b then Some s.part else long_in g sections) (sym (known s.content is)) ∙ here (t s.content) e (more last)

  pub early : (part : Part) → first_long t ≡ Some part → first_long g ≡ Some part
  early part e = ap (λ (b : Bool). if b then Some parts.Str else long_in g SECTIONS) (sym (known (contents.Common commons.Texts) refl)) ∙ by (t (contents.Common commons.Texts)) e
    where
      by : (b : Bool) → (if b then Some parts.Str else long_in t SECTIONS) ≡ Some part → (if b then Some parts.Str else long_in g SECTIONS) ≡ Some part
      by true e = e
      by false e = early_in part SECTIONS refl e

-- ---- a graph

abbrev part_of : Option Written → Option Part
part_of found = option_map (λ s. s.part) found

module _ (graph : Graph) where
  found_in : (sections : List Section) → part_of (find (λ s. nat_le (2 ^ 32 - 1) (length s.bytes)) (map (written_in graph) sections)) ≡ long_in (λ content. is_long (length (content_bytes graph content))) sections
  found_in [] = refl
  found_in (s ∷ sections) = by (is_long (length (content_bytes graph s.content))) (found_in sections)
    where
      by : (b : Bool) → part_of (find (λ w. nat_le (2 ^ 32 - 1) (length w.bytes)) (map (written_in graph) sections)) ≡ long_in (λ content. is_long (length (content_bytes graph content))) sections
          → part_of (if b then Some (written_in graph s) else find (λ w. nat_le (2 ^ 32 - 1) (length w.bytes)) (map (written_in graph) sections)) ≡ (if b then Some s.part else long_in (λ content. is_long (length (content_bytes graph content))) sections)
      by true more = refl
      by false more = more

  -- the table of sections is the order of the output
  pub long_is : long_section graph ≡ first_long (λ content. is_long (length (content_bytes graph content)))
  long_is = by (is_long (length (str_section graph)))
    where
      by : (b : Bool) → part_of (if b then Some (record { part = parts.Str; bytes = str_section graph }) else find (λ w. nat_le (2 ^ 32 - 1) (length w.bytes)) (map (written_in graph) SECTIONS)) ≡ (if b then Some parts.Str else long_in (λ content. is_long (length (content_bytes graph content))) SECTIONS)
      by true = refl
      by false = found_in SECTIONS

  -- where no section is too long, none of them is
  pub short_at : (i : ℕ) (s : Section) → slice_get SECTIONS i ≡ Some s → long_section graph ≡ None → length (content_bytes graph s.content) < 2 ^ 32 - 1
  short_at i s at e = leb-false (2 ^ 32 - 1) (length (content_bytes graph s.content)) (none_at (λ content. is_long (length (content_bytes graph content))) i s at (sym long_is ∙ e))

  pub line_short : long_section graph ≡ None → length (line_section graph) < 2 ^ 32 - 1
  line_short = short_at 3 _ refl

  pub tables_short : long_section graph ≡ None → length (abbrev_section graph) < 2 ^ 32 - 1
  tables_short = short_at 0 _ refl

-- ---- drafts

-- lists that fit with their header
with_header : (lists : ℕ) → is_long (lists_size lists) ≡ false → 12 + lists < 2 ^ 32
with_header lists e = by (lists == 0) refl
  where
    by : (b : Bool) → (lists == 0) ≡ b → 12 + lists < 2 ^ 32
    by true none = let zero : lists ≡ 0 = eqb-true lists 0 none in omega (arith, zero)
    by false some =
        let size : lists_size lists ≡ 12 + lists = ap (λ (b : Bool). if b then 0 else 12 + lists) some in
        omega (arith, leb-false (2 ^ 32 - 1) (lists_size lists) e, size)

-- no place behind all drafts is too long
pub ends_small : (sizes : Sizes) → first_long (λ content. is_long (size_in sizes content)) ≡ None → AreBelow (2 ^ 32) sizes.ends
ends_small sizes e =
    let t : Content → Bool = λ content. is_long (size_in sizes content) in
    let below : (n : ℕ) → is_long n ≡ false → n < 2 ^ 32 = λ n short. let lt = leb-false (2 ^ 32 - 1) n short in omega (arith, lt) in
    record {
      info = below sizes.ends.info (none_at t 1 _ refl e);
      tables = below sizes.ends.tables (none_at t 0 _ refl e);
      line = below sizes.ends.line (none_at t 3 _ refl e);
      ranges = below sizes.ends.ranges (none_at t 5 _ refl e);
      rnglists = with_header sizes.ends.rnglists (none_at t 6 _ refl e);
      loc = below sizes.ends.loc (none_at t 7 _ refl e);
      loclists = with_header sizes.ends.loclists (none_at t 8 _ refl e);
    }
