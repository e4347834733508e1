-- Names padded with zeros.
use Rattle.std.proofs.Common.{◌≡◌, ◌≤◌, ◌-◌, ℕ, List, ◌++◌, length, drop, min, replicate, append_assoc, append-nil, arith, ap, ◌∙◌, length-append}
use Rattle.std.proofs.lemmas.List.{drop-replicate, length-replicate}
use Rattle.macho_read.specs.Spelling.{padded}

left_of : (n : ℕ) → 16 - min n 16 ≡ 16 - n
left_of n = omega arith

-- what sixteen zeros have behind a name of this length
padding : (n : ℕ) → drop (min n 16) (replicate {A = ℕ} 16 0) ≡ replicate (16 - n) 0
padding n = drop-replicate (min n 16) 16 0 ∙ ap (λ (k : ℕ). replicate {A = ℕ} k 0) (left_of n)

pub padded_is : (out name mid new pad : List ℕ) (len : ℕ) → len ≡ min (length name) 16 → mid ≡ out ++ name → pad ≡ drop len (replicate {A = ℕ} 16 0) → new ≡ mid ++ pad → new ≡ out ++ padded name
padded_is out name mid new pad len short named zeros is =
    is ∙ ap (λ (front : List ℕ). front ++ pad) named
    ∙ ap (λ (back : List ℕ). (out ++ name) ++ back) (zeros ∙ ap (λ (n : ℕ). drop n (replicate {A = ℕ} 16 0)) short ∙ padding (length name))
    ∙ append_assoc out name (replicate (16 - length name) 0)

pub length-padded : (name : List ℕ) → length name ≤ 16 → length (padded name) ≡ 16
length-padded name few = omega (arith, few, length-append name (replicate (16 - length name) 0), length-replicate {A = ℕ} (16 - length name) 0)

-- a name that is padded has no room left
pub padded_once : (name : List ℕ) → length name ≤ 16 → padded (padded name) ≡ padded name
padded_once name few =
    let none : 16 - length (padded name) ≡ 0 = omega (arith, length-padded name few) in
    ap (λ (n : ℕ). padded name ++ replicate n 0) none ∙ append-nil (padded name)
