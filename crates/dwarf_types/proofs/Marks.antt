-- Where no entry is merged, the entries that are kept are the live ones.
use Rattle.std.proofs.Common.{◌≡◌, ◌<◌, ◌||◌, ◌&&◌, ℕ, suc, ◌+◌, Bool, true, false, List, [], ◌∷◌, length, map, slice_index_or, refl, ap, ◌∙◌, arith}
use Rattle.std.specs.List.{enumerate_from}
use Rattle.dwarf_types.specs.declared.entry.Entry.{Entry}
use Rattle.dwarf_types.specs.Kept.{kept_of}

as_marked : (b : Bool) → ((b && true) || false) ≡ b
as_marked true = refl
as_marked false = refl

marks_from : (all : List Bool) (n : ℕ) (es : List Entry) (marks : List Bool) → length marks ≡ length es → ((j : ℕ) → j < length marks → slice_index_or all (n + j) false ≡ slice_index_or marks j false)
    → map (λ (e : ℕ × Entry). (slice_index_or all e.0 false && true) || false) (enumerate_from n es) ≡ marks
marks_from all n [] [] same are = refl
marks_from all n [] (m ∷ marks) same are = absurd (omega (arith, same))
marks_from all n (e ∷ es) [] same are = absurd (omega (arith, same))
marks_from all n (e ∷ es) (m ∷ marks) same are =
    let here : slice_index_or all n false ≡ m = ap (λ (k : ℕ). slice_index_or all k false) (omega arith) ∙ are 0 (omega arith) in
    let rest = marks_from all (n + 1) es marks (omega (arith, same)) (λ j lt. ap (λ (k : ℕ). slice_index_or all k false) (omega arith) ∙ are (suc j) (omega (arith, lt))) in
    ap (λ (b : Bool). b ∷ map (λ (e : ℕ × Entry). (slice_index_or all e.0 false && true) || false) (enumerate_from (n + 1) es)) (as_marked (slice_index_or all n false) ∙ here) ∙ ap (λ (bs : List Bool). m ∷ bs) rest

pub nothing_merged : (entries : List Entry) (live : List Bool) → length live ≡ length entries → kept_of entries live [] ≡ live
nothing_merged entries live same = marks_from live 0 entries live same (λ j lt. ap (λ (k : ℕ). slice_index_or live k false) (omega arith))
