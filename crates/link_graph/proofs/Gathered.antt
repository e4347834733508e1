-- What is gathered from a list, element by element.
use Rattle.std.proofs.Common.{◌≡◌, ℕ, ◌+◌, ◌<◌, ◌≤◌, List, [], ◌∷◌, ◌++◌, length, map, take, drop, get_or, slice_get, Option, Some, None, is_some, refl, sym, ap, subst, ◌∙◌, arith, append-nil, length-append}
use Rattle.std.specs.List.{All, cons_option, enumerate_from, filter_map, flat_map}
use Rattle.std.specs.Option.{option_and_then, option_to_list}
use Rattle.std.proofs.lemmas.List.{drop-take, drop_all, drop_more, get_or-drop, get_or-take, length-drop, length-take, take-append-drop, take-take, take_all, take_more}
use Rattle.std.proofs.lemmas.List.Elements.{All-append, All-cons, All-head, All-nil, All-tail, filter_map-append}
use Rattle.std.proofs.lemmas.List.FromFn.{get_or-enumerate_from, length-enumerate_from}
use Rattle.std.proofs.lemmas.Option.{get_or_from_slice_get, slice_get-get_or, slice_get_within}

pub map_same : {A B : Type 0} (f g : A → B) (xs : List A) → All (λ x. f x ≡ g x) xs → map f xs ≡ map g xs
map_same f g [] h = refl
map_same f g (x ∷ xs) h =
    let here : f x ≡ g x = All-head (λ y. f y ≡ g y) x xs h in
    let rest : map f xs ≡ map g xs = map_same f g xs (All-tail (λ y. f y ≡ g y) x xs h) in
    rw (here, rest) refl

pub filter_map_same : {A B : Type 0} (f g : A → Option B) (xs : List A) → All (λ x. f x ≡ g x) xs → filter_map f xs ≡ filter_map g xs
filter_map_same f g [] h = refl
filter_map_same f g (x ∷ xs) h =
    let here : f x ≡ g x = All-head (λ y. f y ≡ g y) x xs h in
    let rest : filter_map f xs ≡ filter_map g xs = filter_map_same f g xs (All-tail (λ y. f y ≡ g y) x xs h) in
    rw (here, rest) refl

flat_map_same : {A B : Type 0} (f g : A → List B) (xs : List A) → All (λ x. f x ≡ g x) xs → flat_map f xs ≡ flat_map g xs
flat_map_same f g [] h = refl
flat_map_same f g (x ∷ xs) h =
    let here : f x ≡ g x = All-head (λ y. f y ≡ g y) x xs h in
    let rest : flat_map f xs ≡ flat_map g xs = flat_map_same f g xs (All-tail (λ y. f y ≡ g y) x xs h) in
    rw (here, rest) refl

pub take_on : {A : Type 0} (m n : ℕ) (xs : List A) → take (m + n) xs ≡ take m xs ++ take n (drop m xs)
take_on m n xs = sym (take-append-drop m (take (m + n) xs)) ∙ ap (λ ys. ys ++ drop m (take (m + n) xs)) (take-take m (m + n) xs (omega arith)) ∙ ap (λ ys. take m xs ++ ys) (drop-take m n xs)

option_or_none : {B : Type 0} (o : Option B) → cons_option o [] ≡ option_to_list o
option_or_none None = refl
option_or_none (Some y) = refl

pub one_or_none : {A B : Type 0} (f : A → Option B) (x : A) → filter_map f (x ∷ []) ≡ option_to_list (f x)
one_or_none f x = option_or_none (f x)

-- ---- one gathering after another

cons_then : {B C : Type 0} (g : B → Option C) (o : Option B) (ys : List B) → filter_map g (cons_option o ys) ≡ cons_option (option_and_then g o) (filter_map g ys)
cons_then g None ys = refl
cons_then g (Some y) ys = refl

pub filter_map_then : {A B C : Type 0} (f : A → Option B) (g : B → Option C) (xs : List A) → filter_map g (filter_map f xs) ≡ filter_map (λ x. option_and_then g (f x)) xs
filter_map_then f g [] = refl
filter_map_then f g (x ∷ xs) = cons_then g (f x) (filter_map f xs) ∙ ap (cons_option (option_and_then g (f x))) (filter_map_then f g xs)

flat_map_then : {A B C : Type 0} (f : A → List B) (g : B → Option C) (xs : List A) → filter_map g (flat_map f xs) ≡ flat_map (λ x. filter_map g (f x)) xs
flat_map_then f g [] = refl
flat_map_then f g (x ∷ xs) = filter_map-append g (f x) (flat_map f xs) ∙ ap (λ ys. filter_map g (f x) ++ ys) (flat_map_then f g xs)

pub flat_map_gives : {A B C : Type 0} (f : A → List B) (g : B → Option C) (h : A → List C) (xs : List A) → All (λ x. filter_map g (f x) ≡ h x) xs → filter_map g (flat_map f xs) ≡ flat_map h xs
flat_map_gives f g h xs each = flat_map_then f g xs ∙ flat_map_same (λ x. filter_map g (f x)) h xs each

-- ---- as many

cons_long : {B C : Type 0} (o : Option B) (p : Option C) (ys : List B) (zs : List C) → is_some o ≡ is_some p → length ys ≡ length zs → length (cons_option o ys) ≡ length (cons_option p zs)
cons_long None None ys zs e l = l
cons_long None (Some z) ys zs e l = absurd cc
cons_long (Some y) None ys zs e l = absurd cc
cons_long (Some y) (Some z) ys zs e l = omega (arith, l)

pub as_many : {A B C : Type 0} (f : A → Option B) (g : A → Option C) (xs : List A) → ((x : A) → is_some (f x) ≡ is_some (g x)) → length (filter_map f xs) ≡ length (filter_map g xs)
as_many f g [] h = refl
as_many f g (x ∷ xs) h = cons_long (f x) (g x) (filter_map f xs) (filter_map g xs) (h x) (as_many f g xs h)

pub as_many_in_all : {A B C : Type 0} (f : A → List B) (g : A → List C) (xs : List A) → ((x : A) → length (f x) ≡ length (g x)) → length (flat_map f xs) ≡ length (flat_map g xs)
as_many_in_all f g [] h = refl
as_many_in_all f g (x ∷ xs) h = omega (arith, length-append (f x) (flat_map f xs), length-append (g x) (flat_map g xs), h x, as_many_in_all f g xs h)

-- ---- what holds of all that is gathered

cons_all : {B : Type 0} (P : B → Type 0) (o : Option B) (ys : List B) → ((y : B) → o ≡ Some y → P y) → All P ys → All P (cons_option o ys)
cons_all P None ys here rest = rest
cons_all P (Some y) ys here rest = All-cons P y ys (here y refl) rest

pub All-filter_map : {A B : Type 0} (P : B → Type 0) (f : A → Option B) (xs : List A) → All (λ x. (y : B) → f x ≡ Some y → P y) xs → All P (filter_map f xs)
All-filter_map P f [] h = All-nil P
All-filter_map P f (x ∷ xs) h =
    cons_all P (f x) (filter_map f xs) (All-head (λ x. (y : _) → f x ≡ Some y → P y) x xs h) (All-filter_map P f xs (All-tail (λ x. (y : _) → f x ≡ Some y → P y) x xs h))

pub All-flat_map : {A B : Type 0} (P : B → Type 0) (f : A → List B) (xs : List A) → All (λ x. All P (f x)) xs → All P (flat_map f xs)
All-flat_map P f [] h = All-nil P
All-flat_map P f (x ∷ xs) h = All-append P (f x) (flat_map f xs) (All-head (λ x. All P (f x)) x xs h) (All-flat_map P f xs (All-tail (λ x. All P (f x)) x xs h))

-- ---- lists with numbers from 0

pub enumerate_at : {A : Type 0} (xs : List A) (i : ℕ) (d : ℕ × A) → i < length xs → get_or (enumerate_from 0 xs) i d ≡ (i, get_or xs i d.1)
enumerate_at xs i d lt = let same : 0 + i ≡ i = omega arith in get_or-enumerate_from 0 xs i d lt ∙ ap (λ (n : ℕ). (n, get_or xs i d.1)) same

pub All-enumerate : {A : Type 0} (xs : List A) → All (λ e. slice_get xs e.0 ≡ Some e.1) (enumerate_from 0 xs)
All-enumerate {A} xs i d lt =
    let within : i < length xs = omega (arith, lt, length-enumerate_from 0 xs) in
    let P : ℕ × A → Type 0 = λ e. slice_get xs e.0 ≡ Some e.1 in
    subst P (sym (enumerate_at xs i d within)) (slice_get-get_or xs i d.1 within)

pub parts_at : {A : Type 0} (xs : List A) (i : ℕ) (x : A) → slice_get xs i ≡ Some x → enumerate_from 0 xs ≡ take i (enumerate_from 0 xs) ++ (i, x) ∷ drop (i + 1) (enumerate_from 0 xs)
parts_at xs i x at =
    let within : i < length xs = slice_get_within xs i x at in
    sym (take-append-drop i (enumerate_from 0 xs))
    ∙ ap (λ ys. take i (enumerate_from 0 xs) ++ ys) (drop_more (enumerate_from 0 xs) i (i, x) (omega (arith, length-enumerate_from 0 xs))
    ∙ ap (λ y. y ∷ drop (i + 1) (enumerate_from 0 xs)) (enumerate_at xs i (i, x) within ∙ ap (λ y. (i, y)) (get_or_from_slice_get xs i x x at)))

pub numbers_below : {A : Type 0} (xs : List A) (i : ℕ) → All (λ e. e.0 < i) (take i (enumerate_from 0 xs))
numbers_below xs i j d lt =
    let below : j < i = omega (arith, lt, length-take i (enumerate_from 0 xs)) in
    let within : j < length xs = omega (arith, lt, length-take i (enumerate_from 0 xs), length-enumerate_from 0 xs) in
    subst (λ (n : ℕ). n < i) (sym (ap (λ e. e.0) (get_or-take i (enumerate_from 0 xs) j d below ∙ enumerate_at xs j d within))) below

pub numbers_before : {A : Type 0} (n : ℕ) (xs : List A) (i : ℕ) → All (λ e. e.0 < n + i) (take i (enumerate_from n xs))
numbers_before n xs i j d lt =
    let below : j < i = omega (arith, lt, length-take i (enumerate_from n xs)) in
    let within : j < length xs = omega (arith, lt, length-take i (enumerate_from n xs), length-enumerate_from n xs) in
    let number : (get_or (take i (enumerate_from n xs)) j d).0 ≡ n + j = ap (λ e. e.0) (get_or-take i (enumerate_from n xs) j d below ∙ get_or-enumerate_from n xs j d within) in
    omega (arith, number, below)

pub numbers_behind : {A : Type 0} (n : ℕ) (xs : List A) (i : ℕ) → All (λ e. n + i ≤ e.0) (drop i (enumerate_from n xs))
numbers_behind n xs i j d lt =
    let within : i + j < length xs = omega (arith, lt, length-drop i (enumerate_from n xs), length-enumerate_from n xs) in
    let number : (get_or (drop i (enumerate_from n xs)) j d).0 ≡ n + (i + j) = ap (λ e. e.0) (get_or-drop i (enumerate_from n xs) j d ∙ get_or-enumerate_from n xs (i + j) d within) in
    omega (arith, number)

pub enumerate_more : {A : Type 0} (xs : List A) (i : ℕ) (x : A) → slice_get xs i ≡ Some x → take (i + 1) (enumerate_from 0 xs) ≡ take i (enumerate_from 0 xs) ++ (i, x) ∷ []
enumerate_more xs i x at =
    let within : i < length xs = slice_get_within xs i x at in
    take_more (enumerate_from 0 xs) i (i, x) (omega (arith, length-enumerate_from 0 xs))
    ∙ ap (λ y. take i (enumerate_from 0 xs) ++ y ∷ []) (enumerate_at xs i (i, x) within ∙ ap (λ y. (i, y)) (get_or_from_slice_get xs i x x at))

-- ---- lent lists

-- a list that comes back as long as it was
pub lent_all : {A : Type 0} (became was : List A) → length became ≡ length was → take (length was) (became ++ drop (length became) was) ≡ became
lent_all {A} became was same =
    ap (λ (rest : List A). take (length was) (became ++ rest)) (drop_all (length became) was (omega (arith, same)))
    ∙ ap (take (length was)) (append-nil became) ∙ take_all (length was) became (omega (arith, same))
