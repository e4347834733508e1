-- What a declaration feeds to a hasher; equal ones feed the same.
use Rattle.std.specs.Prelude.{◌≡◌, ℕ, ◌+◌, ◌*◌, Bool, true, ◌&&◌, List, ◌∷◌, map, nat_eq, if◌then◌else◌}
use Rattle.std.specs.Bool.{Decides}
use Rattle.std.specs.Cmp.{booleans_Decides}
use Rattle.std.specs.Cmp.Lexicographic.{pointwise, pointwise_decides}
use Rattle.std.specs.Hash.{HashWrites, le_bytes}
use Rattle.std.proofs.Common.{ap, ◌∙◌}
use Rattle.std.proofs.lemmas.Bool.{and_parts}
use Rattle.std.proofs.lemmas.Bool.Decides.{Decides-and, Decides-eqb, Decides-like}
use mathlib.Core.Bool.{beq}

-- two numbers of 16 bits as one of 32
abbrev pub pair_fed : ℕ → ℕ → List ℕ
pair_fed a b = le_bytes 4 (a * 0x10000 + b)

abbrev pub pairs_fed : List (ℕ × ℕ) → HashWrites
pairs_fed pairs = map (λ p. pair_fed p.0 p.1) pairs

-- the tag with whether children follow, and each name with its form
abbrev pub fed : ℕ → Bool → List (ℕ × ℕ) → HashWrites
fed tag children pairs = pair_fed tag (if children then 1 else 0) ∷ pairs_fed pairs

abbrev pub same_pair : ℕ × ℕ → ℕ × ℕ → Bool
same_pair p q = nat_eq p.0 q.0 && nat_eq p.1 q.1

pub pair_decides : (p q : ℕ × ℕ) → Decides (same_pair p q) (p ≡ q)
pair_decides p q = Decides-like (same_pair p q) (λ h i. (h.0 i, h.1 i)) (λ e. (ap (λ (r : ℕ × ℕ). r.0) e, ap (λ (r : ℕ × ℕ). r.1) e)) (Decides-and (nat_eq p.0 q.0) (nat_eq p.1 q.1) (Decides-eqb p.0 q.0) (Decides-eqb p.1 q.1))

pub pairs_decide : (xs ys : List (ℕ × ℕ)) → Decides (pointwise same_pair xs ys) (xs ≡ ys)
pairs_decide xs ys = pointwise_decides pair_decides xs ys

pub same_fed : (t u : ℕ) (b c : Bool) (xs ys : List (ℕ × ℕ)) → (nat_eq t u && (beq b c && pointwise same_pair xs ys)) ≡ true → fed t b xs ≡ fed u c ys
same_fed t u b c xs ys same =
    let tags = and_parts (nat_eq t u) (beq b c && pointwise same_pair xs ys) same in
    let rest = and_parts (beq b c) (pointwise same_pair xs ys) tags.1 in
    ap (λ n. fed n b xs) ((Decides-eqb t u).0 tags.0) ∙ ap (λ flag. fed u flag xs) ((booleans_Decides b c).0 rest.0) ∙ ap (fed u c) ((pairs_decide xs ys).0 rest.1)
