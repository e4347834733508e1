-- Pages, and parts that stand at them.
use Rattle.std.proofs.Common.{◌≡◌, ℕ, ◌+◌, ◌-◌, ◌%◌, ◌^◌, ◌<◌, ◌≤◌, List, [], ◌∷◌, ◌++◌, length, take, get_or, replicate, refl, sym, ap, ap₂, ◌∙◌, append_assoc, append-nil, length-append, arith}
use Rattle.std.specs.List.{AllByRecursion}
use Rattle.std.proofs.lemmas.List.{length-replicate, take_more}
use Rattle.universal.specs.declared.parts.Appended.{Appended}
use Rattle.universal.specs.declared.parts.Thin.{Thin}
use Rattle.universal.specs.Records.{head_size}
use Rattle.universal.specs.Joined.{page_end, page_zeros, paged, placed, unheaded}

-- ---- pages

pub page_behind : (n : ℕ) → n ≤ page_end n
page_behind n = omega arith

pub page_near : (n : ℕ) → page_end n ≤ n + 0xfff
page_near n = omega arith

-- no zeros at a page, and elsewhere what is left of one
pub page_here : (n : ℕ) → n % 0x1000 ≡ 0 → page_end n - n ≡ 0
page_here n e = omega (arith, e)

pub page_ahead : (n : ℕ) → (n % 0x1000 ≡ 0 → ⊥) → page_end n - n ≡ 0x1000 - n % 0x1000
page_ahead n e = omega (arith, e)

-- header and records of 1 to 16 parts take the first page
pub head_page : (count : ℕ) → 1 ≤ count → count ≤ 16 → page_end (head_size count) ≡ 0x1000
head_page count some few = omega (arith, some, few)

pub length_zeros : (n : ℕ) → length (page_zeros n) ≡ page_end n - n
length_zeros n = length-replicate {A = ℕ} (page_end n - n) 0

-- ---- parts

-- where the first of some parts ends, the others go on
pub end_kept : (p : Thin) (parts : List Thin) (at : ℕ) → (page_end at + length p.bytes) + length (paged (page_end at + length p.bytes) parts) ≡ at + length (paged at (p ∷ parts))
end_kept p parts at =
    let rest : List ℕ = paged (page_end at + length p.bytes) parts in
    omega (arith, page_behind at, length_zeros at, length-append (page_zeros at) (p.bytes ++ rest), length-append p.bytes rest)

-- one part more
pub paged_more : (parts : List Thin) (p : Thin) (at : ℕ) → paged at (parts ++ p ∷ []) ≡ paged at parts ++ (page_zeros (at + length (paged at parts)) ++ p.bytes)
paged_more [] p at =
    let here : at ≡ at + 0 = omega arith in
    ap (λ (xs : List ℕ). page_zeros at ++ xs) (append-nil p.bytes) ∙ ap (λ (n : ℕ). page_zeros n ++ p.bytes) here
paged_more (q ∷ parts) p at =
    let next : ℕ = page_end at + length q.bytes in
    let last : ℕ → List ℕ = λ n. page_zeros n ++ p.bytes in
    ap (λ (xs : List ℕ). page_zeros at ++ (q.bytes ++ xs)) (paged_more parts p next ∙ ap (λ (n : ℕ). paged next parts ++ last n) (end_kept q parts at))
    ∙ ap (λ (xs : List ℕ). page_zeros at ++ xs) (sym (append_assoc q.bytes (paged next parts) (last (at + length (paged at (q ∷ parts))))))
    ∙ sym (append_assoc (page_zeros at) (q.bytes ++ paged next parts) (last (at + length (paged at (q ∷ parts)))))

-- the same behind some bytes
behind_more : (front : List ℕ) (at : ℕ) (parts : List Thin) (p : Thin) → length front ≡ at → front ++ paged at (parts ++ p ∷ []) ≡ (front ++ paged at parts) ++ (page_zeros (length (front ++ paged at parts)) ++ p.bytes)
behind_more front at parts p len =
    let end : at + length (paged at parts) ≡ length (front ++ paged at parts) = omega (arith, len, length-append front (paged at parts)) in
    ap (λ (xs : List ℕ). front ++ xs) (paged_more parts p at ∙ ap (λ (n : ℕ). paged at parts ++ (page_zeros n ++ p.bytes)) end)
    ∙ sym (append_assoc front (paged at parts) (page_zeros (length (front ++ paged at parts)) ++ p.bytes))

pub unheaded_more : (parts : List Thin) (p : Thin) → unheaded (parts ++ p ∷ []) ≡ unheaded parts ++ (page_zeros (length (unheaded parts)) ++ p.bytes)
unheaded_more parts p = behind_more (replicate 0x1000 0) 0x1000 parts p (length-replicate {A = ℕ} 0x1000 0)

-- one part more of a list
pub part_more : (parts : List Thin) (i : ℕ) (d : Thin) (file filled new bytes : List ℕ) → i < length parts → bytes ≡ (get_or parts i d).bytes → file ≡ unheaded (take i parts) → filled ≡ file ++ page_zeros (length file) → new ≡ filled ++ bytes
    → new ≡ unheaded (take (i + 1) parts)
part_more parts i d file filled new bytes lt its was zeros is =
    is ∙ ap (λ (xs : List ℕ). xs ++ bytes) zeros ∙ append_assoc file (page_zeros (length file)) bytes ∙ ap₂ (λ (xs ys : List ℕ). xs ++ (page_zeros (length xs) ++ ys)) was its
    ∙ sym (unheaded_more (take i parts) (get_or parts i d)) ∙ ap unheaded (sym (take_more parts i d lt))

-- ---- sizes

pub parts_fit : (parts : List Thin) (at : ℕ) → at + length (paged at parts) < 2 ^ 32 → AllByRecursion (λ (p : Thin). length p.bytes < 2 ^ 32) parts
parts_fit [] at lt = tt
parts_fit (p ∷ parts) at lt =
    (omega (arith, lt, end_kept p parts at), parts_fit parts (page_end at + length p.bytes) (omega (arith, lt, end_kept p parts at)))

pub length_placed : (at : ℕ) (parts : List Appended) → length (placed at parts) ≡ length parts
length_placed at [] = refl
length_placed at (p ∷ parts) = let e = length_placed (page_end at + p.size) parts in omega (arith, e)
