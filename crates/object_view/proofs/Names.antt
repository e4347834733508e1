-- What holds of all items of lists that are made of others.
use Rattle.std.proofs.Common.{◌≡◌, ℕ, suc, ◌+◌, List, [], ◌∷◌, map, Option, Some, None, Result, Ok, refl, sym, subst, arith}
use Rattle.std.specs.List.{All, filter_map, flat_map}
use Rattle.std.proofs.lemmas.List.Concat.{flat_map-cons}
use Rattle.std.proofs.lemmas.List.Elements.{All-nil, All-cons, All-append}
use Rattle.ds_base.specs.declared.fault.Fault.{Fault}
use Rattle.ds_base.specs.Reading.{◌>>=◌}
use Rattle.ds_base.proofs.Passing.{bind_ok, ok_is}
use Rattle.expr_resolve.specs.Expressions.{each_from}
use Rattle.object_view.specs.Attributes.{each_of}

pub all_flat : {X Y : Type 0} (P : Y → Type 0) (f : X → List Y) (xs : List X) → All (λ (x : X). All P (f x)) xs → All P (flat_map f xs)
all_flat P f [] h = All-nil P
all_flat P f (x ∷ xs) h = subst (All P) (sym (flat_map-cons f x xs)) (All-append P (f x) (flat_map f xs) (h 0 x (omega arith)) (all_flat P f xs (λ k d lt. h (suc k) d (omega arith))))

pub all_map : {X Y : Type 0} (P : Y → Type 0) (f : X → Y) (xs : List X) → ((x : X) → P (f x)) → All P (map f xs)
all_map P f [] h = All-nil P
all_map P f (x ∷ xs) h = All-cons P (f x) (map f xs) (h x) (all_map P f xs h)

abbrev with_some : {Y : Type 0} → Option Y → List Y → List Y
with_some (Some y) ys = y ∷ ys
with_some None ys = ys

some_step : {X Y : Type 0} (f : X → Option Y) (x : X) (xs : List X) (o : Option Y) → f x ≡ o → filter_map f (x ∷ xs) ≡ with_some o (filter_map f xs)
some_step f x xs (Some y) e = rw e refl
some_step f x xs None e = rw e refl

all_some : {Y : Type 0} (P : Y → Type 0) (o : Option Y) (ys : List Y) → ((y : Y) → o ≡ Some y → P y) → All P ys → All P (with_some o ys)
all_some P (Some y) ys here behind = All-cons P y ys (here y refl) behind
all_some P None ys here behind = behind

pub all_filtered : {X Y : Type 0} (P : Y → Type 0) (f : X → Option Y) (xs : List X) → All (λ (x : X). (y : Y) → f x ≡ Some y → P y) xs → All P (filter_map f xs)
all_filtered P f [] h = All-nil P
all_filtered P f (x ∷ xs) h = subst (All P) (sym (some_step f x xs (f x) refl)) (all_some P (f x) (filter_map f xs) (h 0 x (omega arith)) (all_filtered P f xs (λ k d lt. h (suc k) d (omega arith))))

-- each of some items, by what it was made of
pub each_all : {X Y : Type 0} (f : X → Result Y Fault) (R : X → Type 0) (P : Y → Type 0) → ((x : X) (y : Y) → R x → f x ≡ Ok y → P y) → (xs : List X) (ys : List Y) → each_of f xs ≡ Ok ys → All R xs → All P ys
each_all f R P keeps [] ys e h = subst (All P) (ok_is [] ys e) (All-nil P)
each_all f R P keeps (x ∷ xs) ys e h =
    let first = bind_ok (f x) (λ here. each_of f xs >>= λ others. Ok (here ∷ others)) ys e in
    let others = bind_ok (each_of f xs) (λ others. Ok (first.0 ∷ others)) ys first.2 in
    subst (All P) (ok_is (first.0 ∷ others.0) ys others.2)
    (All-cons P first.0 others.0 (keeps x first.0 (h 0 x (omega arith)) first.1) (each_all f R P keeps xs others.0 others.1 (λ k d lt. h (suc k) d (omega arith))))

pub each_from_all : {X Y : Type 0} (len : X → ℕ) (f : ℕ → X → Result Y Fault) (P : Y → Type 0) → ((place : ℕ) (x : X) (y : Y) → f place x ≡ Ok y → P y) → (place : ℕ) (xs : List X) (ys : List Y) → each_from len f place xs ≡ Ok ys → All P ys
each_from_all len f P keeps place [] ys e = subst (All P) (ok_is [] ys e) (All-nil P)
each_from_all len f P keeps place (x ∷ xs) ys e =
    let first = bind_ok (f place x) (λ here. each_from len f (place + len x) xs >>= λ others. Ok (here ∷ others)) ys e in
    let others = bind_ok (each_from len f (place + len x) xs) (λ others. Ok (first.0 ∷ others)) ys first.2 in
    subst (All P) (ok_is (first.0 ∷ others.0) ys others.2)
    (All-cons P first.0 others.0 (keeps place x first.0 first.1) (each_from_all len f P keeps (place + len x) xs others.0 others.1))
