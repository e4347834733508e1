-- Sections told by their sizes, and what can't be.
use Rattle.std.proofs.Common.{◌≡◌, ◌≤◌, ◌<◌, ◌-◌, ◌*◌, ◌^◌, ℕ, Bool, true, false, List, [], ◌∷◌, length, filter, map, Option, Some, None, Ok, if◌then◌else◌, nat_le, cond, arith, refl, sym, ap, ◌∙◌, length-append}
use Rattle.std.specs.List.{AllByRecursion, find, sum_by}
use Rattle.std.specs.Option.{option_map}
use Rattle.std.proofs.lemmas.Bool.{leb-false}
use Rattle.std.proofs.lemmas.List.Sums.{sum_by-cons}
use Rattle.ds_base.specs.declared.fault.Part.{Part}
use Rattle.ds_base.specs.declared.fault.Part.TheVariants as parts
use Rattle.dsym_write.specs.Bundle.{contents}
use Rattle.dsym_write.specs.Pieces.{with_size}
use Rattle.dwarf_types.specs.declared.graph.Graph.{Graph}
use Rattle.dwarf_types.specs.declared.graph.Written.{Written}
use Rattle.dwarf_types.specs.Encode.{encode, has_bytes, str_section}
use Rattle.layout.specs.declared.table.Section.{Section}
use Rattle.layout.specs.declared.table.TheConstants.{SECTIONS}
use Rattle.layout.specs.Laid.{Laid, Measures}
use Rattle.layout.specs.Lengths.{long_section}
use Rattle.layout.specs.Sections.{content_bytes, written_in}
use Rattle.layout.proofs.SectionLengths.{layout_sizes}
use Rattle.sample_objects.specs.ObjectFile.{sized_of}
use Rattle.sample_objects.specs.Sized.{has_size}

size_told : (ws : List Written) → sum_by (λ s. s.1) (sized_of ws) ≡ length (contents ws)
size_told [] = refl
size_told (s ∷ ws) =
    let one : Part × ℕ = (s.part, length s.bytes) in
    omega (arith, sum_by-cons (λ (t : Part × ℕ). t.1) one (sized_of ws), size_told ws, length-append s.bytes (contents ws))

-- a number of bytes that is the sum of the sizes
pub whole_told : (ws : List Written) (sized : List (Part × ℕ)) (n : ℕ) → n ≡ sum_by (λ s. s.1) sized → sized ≡ sized_of ws → n ≡ length (contents ws)
whole_told ws sized n sum is = sum ∙ ap (sum_by (λ (s : Part × ℕ). s.1)) is ∙ size_told ws

kept_told : (ws : List Written) → filter has_size (sized_of ws) ≡ sized_of (filter has_bytes ws)
kept_told [] = refl
kept_told (s ∷ ws) = by (has_bytes s) (filter has_size (sized_of ws)) (filter has_bytes ws) (kept_told ws)
  where
    by : (b : Bool) (some : List (Part × ℕ)) (rest : List Written) → some ≡ sized_of rest → (if b then (s.part, length s.bytes) ∷ some else some) ≡ sized_of (if b then s ∷ rest else rest)
    by true some rest e = ap (λ (more : List (Part × ℕ)). (s.part, length s.bytes) ∷ more) e
    by false some rest e = e

module _ (graph : Graph) (layout : Laid) (measured : Measures graph (Ok layout)) where
  all_told : (sections : List Section) → map (with_size layout) sections ≡ sized_of (map (written_in graph) sections)
  all_told [] = refl
  all_told (s ∷ sections) =
      ap (λ (n : ℕ). (s.part, n) ∷ map (with_size layout) sections) (layout_sizes graph layout measured s.content)
      ∙ ap (λ (rest : List (Part × ℕ)). (s.part, length (content_bytes graph s.content)) ∷ rest) (all_told sections)

  -- the sections that have bytes, by the sizes that a layout tells
  pub parts_told : filter has_size (map (with_size layout) SECTIONS) ≡ sized_of (encode graph)
  parts_told = ap (filter has_size) (all_told SECTIONS) ∙ kept_told (map (written_in graph) SECTIONS)

-- ---- sections that are not too long

none_passes : {X : Type 0} (test : X → Bool) (xs : List X) → find test xs ≡ None → AllByRecursion (λ x. test x ≡ false) xs
none_passes test [] none = tt
none_passes {X = X} test (x ∷ xs) none = by (test x) (find test xs) none (none_passes test xs)
  where
    by : (b : Bool) (rest : Option X) → cond b (Some x) rest ≡ None → (rest ≡ None → AllByRecursion (λ y. test y ≡ false) xs) → (b ≡ false) × AllByRecursion (λ y. test y ≡ false) xs
    by true rest none more = absurd cc
    by false rest none more = (refl, more none)

abbrev AreShort : List (Part × ℕ) → Type 0
AreShort sized = AllByRecursion (λ s. s.1 < 2 ^ 32) sized

none_found : (found : Option Written) → option_map (λ s. s.part) found ≡ None → found ≡ None
none_found None none = refl
none_found (Some s) none = absurd cc

shorts : (ws : List Written) → AllByRecursion (λ s. nat_le (2 ^ 32 - 1) (length s.bytes) ≡ false) ws → AreShort (sized_of ws)
shorts [] h = tt
shorts (s ∷ ws) h = let few = leb-false (2 ^ 32 - 1) (length s.bytes) h.0 in (omega (arith, few), shorts ws h.1)

all_short : (graph : Graph) → long_section graph ≡ None → AreShort (sized_of (map (written_in graph) SECTIONS))
all_short graph none =
    let all : List Written = map (written_in graph) SECTIONS in
    let test : Written → Bool = λ s. nat_le (2 ^ 32 - 1) (length s.bytes) in
    let texts : Written = record { part = parts.Str; bytes = str_section graph } in
    shorts all (none_passes test (texts ∷ all) (none_found (find test (texts ∷ all)) none)).1

kept_few : (sized : List (Part × ℕ)) → AreShort sized → sum_by (λ s. s.1) (filter has_size sized) ≤ length sized * 2 ^ 32
kept_few [] short = omega arith
kept_few (s ∷ sized) short = by (has_size s) short.0 (kept_few sized short.1)
  where
    by : (b : Bool) → s.1 < 2 ^ 32 → sum_by (λ t. t.1) (filter has_size sized) ≤ length sized * 2 ^ 32
        → sum_by (λ t. t.1) (if b then s ∷ filter has_size sized else filter has_size sized) ≤ length (s ∷ sized) * 2 ^ 32
    by true few h = omega (arith, few, h, sum_by-cons (λ (t : Part × ℕ). t.1) s (filter has_size sized))
    by false few h = omega (arith, h)

pub sizes_small : (graph : Graph) (sized : List (Part × ℕ)) → sized ≡ sized_of (encode graph) → long_section graph ≡ None → sum_by (λ s. s.1) sized < 2 ^ 64
sizes_small graph sized is none =
    let all : List Written = map (written_in graph) SECTIONS in
    let kept : sized ≡ filter has_size (sized_of all) = is ∙ sym (kept_told all) in
    let few : sum_by (λ s. s.1) (filter has_size (sized_of all)) ≤ 11 * 2 ^ 32 = kept_few (sized_of all) (all_short graph none) in
    omega (arith, ap (sum_by (λ (s : Part × ℕ). s.1)) kept, few)

-- ---- answers that differ

pub not_both : {A : Type 0} (o : Option A) (x : A) → o ≡ None → o ≡ Some x → ⊥
not_both None x none some = cc
not_both (Some y) x none some = cc
