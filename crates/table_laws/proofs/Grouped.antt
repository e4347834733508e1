-- Neighbours of one key in groups: what the groups hold.
use Rattle.std.proofs.Common.{◌≡◌, ℕ, ◌<◌, ◌≤◌, ◌==◌, Bool, true, false, cond, List, [], ◌∷◌, ◌++◌, length, refl, sym, ap, ◌∙◌, subst, arith}
use Rattle.std.specs.Bool.{⊤}
use Rattle.std.specs.List.{flat_map, AllByRecursion}
use Rattle.std.proofs.lemmas.Bool.{eqb-true}
use Rattle.accel_tables.specs.Table.{groups, key_of, with_group}
use Rattle.table_laws.proofs.Sifted.{all_map}

-- all items of some groups
abbrev pub flat : {A : Type 0} → List (List A) → List A
flat gs = flat_map (λ g. g) gs

-- a group has an item, and all of it have its key
abbrev pub IsGroup : {A : Type 0} → (A → ℕ) → List A → Type 0
IsGroup key g = (0 < length g) × AllByRecursion (λ x. key x ≡ key_of key g) g

with_flat : {A : Type 0} (key : A → ℕ) (x : A) (gs : List (List A)) → flat (with_group key x gs) ≡ x ∷ flat gs
with_flat key x [] = refl
with_flat key x ([] ∷ gs) = refl
with_flat {A} key x ((y ∷ ys) ∷ gs) = by (key x == key y)
  where
    by : (b : Bool) → flat (cond b ((x ∷ y ∷ ys) ∷ gs) ((x ∷ []) ∷ (y ∷ ys) ∷ gs)) ≡ x ∷ flat ((y ∷ ys) ∷ gs)
    by true = refl
    by false = refl

pub groups_flat : {A : Type 0} (key : A → ℕ) (xs : List A) → flat (groups key xs) ≡ xs
groups_flat key [] = refl
groups_flat {A} key (x ∷ xs) = with_flat key x (groups key xs) ∙ ap (λ (ys : List A). x ∷ ys) (groups_flat key xs)

with_groups : {A : Type 0} (key : A → ℕ) (x : A) (gs : List (List A)) → AllByRecursion (IsGroup key) gs → AllByRecursion (IsGroup key) (with_group key x gs)
with_groups key x [] all = ((omega arith, (refl, tt)), tt)
with_groups key x ([] ∷ gs) all = ((omega arith, (refl, tt)), all.1)
with_groups {A} key x ((y ∷ ys) ∷ gs) all = by (key x == key y) refl
  where
    by : (b : Bool) → (key x == key y) ≡ b → AllByRecursion (IsGroup key) (cond b ((x ∷ y ∷ ys) ∷ gs) ((x ∷ []) ∷ (y ∷ ys) ∷ gs))
    by true e =
        let same : key x ≡ key y = eqb-true (key x) (key y) e in
        ((omega arith, (refl, (sym same, all_map (λ z. key z ≡ key y) (λ z. key z ≡ key x) (λ z h. h ∙ sym same) ys all.0.1.1))), all.1)
    by false e = ((omega arith, (refl, tt)), all)

pub groups_are : {A : Type 0} (key : A → ℕ) (xs : List A) → AllByRecursion (IsGroup key) (groups key xs)
groups_are key [] = tt
groups_are key (x ∷ xs) = with_groups key x (groups key xs) (groups_are key xs)

-- ---- what holds of all items

pub all_behind : {A : Type 0} (P : A → Type 0) (xs ys : List A) → AllByRecursion P (xs ++ ys) → AllByRecursion P ys
all_behind P [] ys all = all
all_behind P (x ∷ xs) ys all = all_behind P xs ys all.1

pub all_before : {A : Type 0} (P : A → Type 0) (xs ys : List A) → AllByRecursion P (xs ++ ys) → AllByRecursion P xs
all_before P [] ys all = tt
all_before P (x ∷ xs) ys all = (all.0, all_before P xs ys all.1)

all_flat : {A : Type 0} (P : A → Type 0) (gs : List (List A)) → AllByRecursion P (flat gs) → AllByRecursion (AllByRecursion P) gs
all_flat P [] all = tt
all_flat P (g ∷ gs) all = (all_before P g (flat gs) all, all_flat P gs (all_behind P g (flat gs) all))

pub all_grouped : {A : Type 0} (P : A → Type 0) (key : A → ℕ) (xs : List A) → AllByRecursion P xs → AllByRecursion (AllByRecursion P) (groups key xs)
all_grouped {A} P key xs all = all_flat P (groups key xs) (subst (λ (ys : List A). AllByRecursion P ys) (sym (groups_flat key xs)) all)

pub all_both : {A : Type 0} (P Q : A → Type 0) (xs : List A) → AllByRecursion P xs → AllByRecursion Q xs → AllByRecursion (λ x. P x × Q x) xs
all_both P Q [] ps qs = tt
all_both P Q (x ∷ xs) ps qs = ((ps.0, qs.0), all_both P Q xs ps.1 qs.1)

-- ---- a number that doesn't fall

abbrev pub Stays : {A : Type 0} → (A → ℕ) → List A → Type 0
Stays f [] = ⊤
Stays f (x ∷ xs) = AllByRecursion (λ later. f x ≤ f later) xs × Stays f xs

stays_behind : {A : Type 0} (f : A → ℕ) (xs ys : List A) → Stays f (xs ++ ys) → Stays f ys
stays_behind f [] ys stays = stays
stays_behind f (x ∷ xs) ys stays = stays_behind f xs ys stays.1

-- of all items of a group, so of its key
of_keys : {A : Type 0} (n : ℕ) (h : ℕ → ℕ) (key : A → ℕ) (gs : List (List A)) → AllByRecursion (IsGroup key) gs → AllByRecursion (λ x. n ≤ h (key x)) (flat gs) → AllByRecursion (λ g. n ≤ h (key_of key g)) gs
of_keys n h key [] groups all = tt
of_keys n h key ([] ∷ gs) groups all = absurd (let none : 0 < 0 = groups.0.0 in omega (arith, none))
of_keys n h key ((x ∷ xs) ∷ gs) groups all = (all.0, of_keys n h key gs groups.1 (all_behind (λ x. n ≤ h (key x)) (x ∷ xs) (flat gs) all))

pub stays_of_groups : {A : Type 0} (h : ℕ → ℕ) (key : A → ℕ) (gs : List (List A)) → AllByRecursion (IsGroup key) gs → Stays (λ x. h (key x)) (flat gs) → Stays (λ g. h (key_of key g)) gs
stays_of_groups h key [] groups stays = tt
stays_of_groups h key ([] ∷ gs) groups stays = absurd (let none : 0 < 0 = groups.0.0 in omega (arith, none))
stays_of_groups h key ((x ∷ xs) ∷ gs) groups stays =
    (of_keys (h (key x)) h key gs groups.1 (all_behind (λ l. h (key x) ≤ h (key l)) xs (flat gs) stays.0), stays_of_groups h key gs groups.1 (stays_behind (λ x. h (key x)) (x ∷ xs) (flat gs) stays))
