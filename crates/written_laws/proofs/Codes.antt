-- The code of a declaration finds it.
use Rattle.std.proofs.Common.{◌≡◌, ◌<◌, ◌+◌, ◌-◌, ◌==◌, ◌&&◌, ◌||◌, ℕ, Bool, true, false, List, [], ◌∷◌, Some, refl, sym, ap, ap₂, subst, nat_eq, cond, arith}
use Rattle.std.specs.Bool.{Decides}
use Rattle.std.specs.Cmp.Lexicographic.{pointwise, pointwise_decides}
use Rattle.std.specs.List.{find, list_any}
use Rattle.std.proofs.lemmas.Bool.{eq-eqb, ne_eqb}
use Rattle.std.proofs.lemmas.Bool.Decides.{Decides-and, Decides-eqb, Decides-like}
use Rattle.dwarf_types.specs.declared.abbrev.Abbrev.{Abbrev}
use Rattle.dwarf_types.specs.declared.abbrev.Declaration.{Declaration}
use Rattle.dwarf_types.specs.Abbreviations.{code_in, same_declaration, same_flag}
use Rattle.written_laws.specs.ReadDeclarations.{abbrev_of, abbrevs_from}

-- ---- the same are equal, as in `abbrev_write`

same_pair : ℕ × ℕ → ℕ × ℕ → Bool
same_pair p q = nat_eq p.0 q.0 && nat_eq p.1 q.1

flag_same : (a b : Bool) → same_flag a b ≡ true → a ≡ b
flag_same true true e = refl
flag_same true false e = sym e
flag_same false true e = e
flag_same false false e = refl

and_both : (a b : Bool) → (a && b) ≡ true → (a ≡ true) × (b ≡ true)
and_both true b e = (refl, e)
and_both false b e = absurd cc

pair_decides : (p q : ℕ × ℕ) → Decides (nat_eq p.0 q.0 && nat_eq p.1 q.1) (p ≡ q)
pair_decides p q = Decides-like (nat_eq p.0 q.0 && nat_eq p.1 q.1) (λ h i. (h.0 i, h.1 i)) (λ e. (ap (λ (r : ℕ × ℕ). r.0) e, ap (λ (r : ℕ × ℕ). r.1) e)) (Decides-and (nat_eq p.0 q.0) (nat_eq p.1 q.1) (Decides-eqb p.0 q.0) (Decides-eqb p.1 q.1))

pairs_same : (xs ys : List (ℕ × ℕ)) → pointwise (λ p q. nat_eq p.0 q.0 && nat_eq p.1 q.1) xs ys ≡ true → xs ≡ ys
pairs_same xs ys e = (pointwise_decides pair_decides xs ys).0 e

pub same_is : (a b : Declaration) → same_declaration a b ≡ true → a ≡ b
same_is a b e =
    let first = and_both (nat_eq a.tag b.tag && same_flag a.children b.children) (pointwise (λ p q. nat_eq p.0 q.0 && nat_eq p.1 q.1) a.attributes b.attributes) e in
    let heads = and_both (nat_eq a.tag b.tag) (same_flag a.children b.children) first.0 in
    made ((Decides-eqb a.tag b.tag).0 heads.0) (flag_same a.children b.children heads.1) (pairs_same a.attributes b.attributes first.1)
  where
    made : a.tag ≡ b.tag → a.children ≡ b.children → a.attributes ≡ b.attributes → a ≡ b
    made tag children attributes = λ i. record { tag = tag i; children = children i; attributes = attributes i }

flag_itself : (a : Bool) → same_flag a a ≡ true
flag_itself true = refl
flag_itself false = refl

pub same_itself : (d : Declaration) → same_declaration d d ≡ true
same_itself d =
    let heads : (nat_eq d.tag d.tag && same_flag d.children d.children) ≡ true = ap₂ (λ (a b : Bool). a && b) ((Decides-eqb d.tag d.tag).1 refl) (flag_itself d.children) in
    ap₂ (λ (a b : Bool). a && b) heads ((pointwise_decides pair_decides d.attributes d.attributes).1 refl)

-- ---- codes

pub some_code : (ds : List Declaration) (d : Declaration) → 0 < code_in ds d
some_code [] d = omega arith
some_code (x ∷ ds) d = by (same_declaration x d)
  where
    by : (b : Bool) → 0 < cond b 1 (code_in ds d + 1)
    by true = omega arith
    by false = omega arith

found_by : (code : ℕ) (x : Declaration) (ds : List Declaration) (d : Declaration) (b : Bool) → same_declaration x d ≡ b → (b || list_any (λ y. same_declaration y d) ds) ≡ true
    → (list_any (λ y. same_declaration y d) ds ≡ true → find (λ a. a.code == code + 1 + code_in ds d - 1) (abbrevs_from (code + 1) ds) ≡ Some (abbrev_of (code + 1 + code_in ds d - 1) d))
    → find (λ a. a.code == code + cond b 1 (code_in ds d + 1) - 1) (abbrevs_from code (x ∷ ds)) ≡ Some (abbrev_of (code + cond b 1 (code_in ds d + 1) - 1) d)
found_by code x ds d true e any others =
    let here : find (λ (a : Abbrev). a.code == code) (abbrevs_from code (x ∷ ds)) ≡ Some (abbrev_of code d) = rw (eq-eqb code code refl) (ap (λ (y : Declaration). Some (abbrev_of code y)) (same_is x d e)) in
    let same : code ≡ code + 1 - 1 = omega arith in
    subst (λ (n : ℕ). find (λ (a : Abbrev). a.code == n) (abbrevs_from code (x ∷ ds)) ≡ Some (abbrev_of n d)) same here
found_by code x ds d false e any others =
    let later : (code == code + 1 + code_in ds d - 1) ≡ false = ne_eqb code (code + 1 + code_in ds d - 1) (λ e. absurd (omega (arith, e, some_code ds d))) in
    let here : find (λ (a : Abbrev). a.code == code + 1 + code_in ds d - 1) (abbrevs_from code (x ∷ ds)) ≡ Some (abbrev_of (code + 1 + code_in ds d - 1) d) = rw later (others any) in
    let same : code + 1 + code_in ds d - 1 ≡ code + (code_in ds d + 1) - 1 = omega arith in
    subst (λ (n : ℕ). find (λ (a : Abbrev). a.code == n) (abbrevs_from code (x ∷ ds)) ≡ Some (abbrev_of n d)) same here

found_from : (code : ℕ) (ds : List Declaration) (d : Declaration) → list_any (λ x. same_declaration x d) ds ≡ true → find (λ a. a.code == code + code_in ds d - 1) (abbrevs_from code ds) ≡ Some (abbrev_of (code + code_in ds d - 1) d)
found_from code [] d e = absurd cc
found_from code (x ∷ ds) d e = found_by code x ds d (same_declaration x d) refl e (λ any. found_from (code + 1) ds d any)

pub code_finds : (ds : List Declaration) (d : Declaration) → list_any (λ x. same_declaration x d) ds ≡ true → find (λ a. a.code == code_in ds d) (abbrevs_from 1 ds) ≡ Some (abbrev_of (code_in ds d) d)
code_finds ds d e = let same : 1 + code_in ds d - 1 ≡ code_in ds d = omega arith in subst (λ (n : ℕ). find (λ (a : Abbrev). a.code == n) (abbrevs_from 1 ds) ≡ Some (abbrev_of n d)) same (found_from 1 ds d e)
