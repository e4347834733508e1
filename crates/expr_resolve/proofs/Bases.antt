-- The base type of a unit at a place: places rise, so it is the one that stands there, where that one is of the unit.
use Rattle.std.proofs.Common.{◌≡◌, ℕ, ◌<◌, ◌∙◌, ◌&&◌, Bool, true, false, cond, List, [], ◌∷◌, Option, Some, None, get_or, length, refl, arith, suc}
use Rattle.std.specs.Prelude.{◌==◌}
use Rattle.std.specs.List.{find}
use Rattle.std.specs.Option.{option_map}
use Rattle.std.proofs.lemmas.Bool.{eq-eqb, eqb-true, ne_eqb}
use Rattle.dwarf_types.specs.declared.expr.Base.TheVariants as bases
use Rattle.reloc_table.proofs.Found.{Rises, has_key}
use Rattle.expr_resolve.specs.declared.context.BaseType.{BaseType}
use Rattle.expr_resolve.specs.Context.{AreInOrder}

-- what is found, where it passes
abbrev pub passing : {X : Type 0} → (X → Bool) → Option X → Option X
passing p None = None
passing p (Some x) = cond (p x) (Some x) None

abbrev both : {X : Type 0} → (X → Bool) → (X → ℕ) → ℕ → X → Bool
both p key n x = p x && key x == n

none_here : {X : Type 0} (a b : Bool) (x : X) (others : Option X) → b ≡ false → others ≡ None → cond (a && b) (Some x) others ≡ None
none_here true b x others e none = rw e none
none_here false b x others e none = none

-- among keys above one none has it
none_above : {X : Type 0} (p : X → Bool) (key : X → ℕ) (n : ℕ) (xs : List X) → ((i : ℕ) (d : X) → i < length xs → n < key (get_or xs i d)) → find (both p key n) xs ≡ None
none_above p key n [] above = refl
none_above p key n (x ∷ xs) above =
    none_here (p x) (key x == n) x (find (both p key n) xs) (ne_eqb (key x) n (λ e. let lt : n < key x = above 0 x (omega arith) in omega arith)) (none_above p key n xs (λ i d lt. above (suc i) d (omega arith)))

here_or_behind : {X : Type 0} (p : X → Bool) (x : X) (a b : Bool) (others rest : Option X) → p x ≡ a → (b ≡ true → others ≡ None) → (b ≡ false → others ≡ passing p rest)
    → cond (a && b) (Some x) others ≡ passing p (cond b (Some x) rest)
here_or_behind p x true true others rest e none behind = rw e refl
here_or_behind p x false true others rest e none behind = rw e (none refl)
here_or_behind p x true false others rest e none behind = behind refl
here_or_behind p x false false others rest e none behind = behind refl

pub passing_found : {X : Type 0} (p : X → Bool) (key : X → ℕ) (n : ℕ) (xs : List X) → Rises key xs → find (λ x. p x && key x == n) xs ≡ passing p (find (has_key key n) xs)
passing_found p key n [] rise = refl
passing_found p key n (x ∷ xs) rise =
    here_or_behind p x (p x) (key x == n) (find (both p key n) xs) (find (has_key key n) xs) refl
    (λ same. none_above p key n xs (λ i d lt. let h : key x < key (get_or xs i d) = rise 0 (suc i) d (omega arith) (omega arith) in let e = eqb-true (key x) n same in omega arith))
    (λ differs. passing_found p key n xs (λ i j d before lt. rise (suc i) (suc j) d (omega arith) (omega arith)))

abbrev pub at_place : List BaseType → ℕ → Option BaseType
at_place bases place = find (λ b. b.place == place) bases

-- of the base types that stand in order, the one of the unit at a place is what stands there
of_unit : (bases : List BaseType) (unit place : ℕ) → AreInOrder bases → find (λ b. b.unit == unit && b.place == place) bases ≡ passing (λ b. b.unit == unit) (at_place bases place)
of_unit bases unit place order = passing_found (λ b. b.unit == unit) (λ b. b.place) place bases order

pub of_the_unit : (bases : List BaseType) (unit place : ℕ) (b : BaseType) → AreInOrder bases → at_place bases place ≡ Some b → b.unit ≡ unit → find (λ b. b.unit == unit && b.place == place) bases ≡ Some b
of_the_unit bases unit place b order e same = of_unit bases unit place order ∙ rw (e, eq-eqb b.unit unit same) refl

pub of_another_unit : (bases : List BaseType) (unit place : ℕ) (b : BaseType) → AreInOrder bases → at_place bases place ≡ Some b → (b.unit ≡ unit → ⊥) → find (λ b. b.unit == unit && b.place == place) bases ≡ None
of_another_unit bases unit place b order e differs = of_unit bases unit place order ∙ rw (e, ne_eqb b.unit unit differs) refl

pub of_no_unit : (bases : List BaseType) (unit place : ℕ) → AreInOrder bases → at_place bases place ≡ None → find (λ b. b.unit == unit && b.place == place) bases ≡ None
of_no_unit bases unit place order e = of_unit bases unit place order ∙ rw e refl

-- a base type that is found, told by its entry
pub told_by_entry : (found : Option BaseType) → option_map (λ b. bases.Entry b.entry) found ≡ option_map (λ n. bases.Entry n) (option_map (λ b. b.entry) found)
told_by_entry None = refl
told_by_entry (Some b) = refl
