-- A loop that puts what each item means behind the others: the items so far, and what the rest means.
use Rattle.std.proofs.Common.{◌≡◌, ℕ, ◌+◌, ◌<◌, ◌≤◌, ◌∙◌, List, [], ◌∷◌, ◌++◌, take, drop, get_or, Some, length, Result, Ok, Err, refl, sym, subst, ap, append_assoc, arith}
use Rattle.std.specs.List.{All, sum_by}
use Rattle.std.proofs.lemmas.List.Elements.{All-get_or}
use Rattle.std.proofs.lemmas.List.Sums.{sum_by_more, sum_by-take-le}
use Rattle.ds_base.specs.declared.fault.Fault.{Fault}
use Rattle.ds_base.specs.declared.fault.ReadError.{ReadError}
use Rattle.ds_base.specs.declared.fault.ReadError.TheVariants as errors
use Rattle.ds_base.proofs.Passing.{ok_is}
use Rattle.ds_base.proofs.Refusals.{Refused}
use Rattle.dwarf_types.specs.declared.expr.Op.{Op}
use Rattle.dwarf_types.specs.declared.expr.PlainOp.{PlainOp}
use Rattle.dwarf_types.specs.Gathered.{Gathered}
use Rattle.ds_base.specs.Reading.{◌>>=◌}
use Rattle.ds_base.proofs.Walking.{drop_one}
use Rattle.expr_resolve.specs.Expressions.{each_from, op_size}
use Rattle.expr_resolve.specs.Steps.{put_behind}

abbrev pub with_front : {A : Type 0} → List A → Result (List A) Fault → Result (List A) Fault
with_front xs (Ok ys) = Ok (xs ++ ys)
with_front xs (Err f) = Err f

front_more : {A : Type 0} (xs : List A) (y : A) (others : Result (List A) Fault) → with_front xs (others >>= λ ys. Ok (y ∷ ys)) ≡ with_front (xs ++ y ∷ []) others
front_more {A = A} xs y (Ok ys) = ap (λ (zs : List A). Ok zs) (sym (append_assoc xs (y ∷ []) ys))
front_more xs y (Err f) = refl

meant_first : {A : Type 0} (len : A → ℕ) (meant : ℕ → A → Result A Fault) (place : ℕ) (x y : A) (xs : List A) → meant place x ≡ Ok y
    → each_from len meant place (x ∷ xs) ≡ (each_from len meant (place + len x) xs >>= λ ys. Ok (y ∷ ys))
meant_first len meant place x y xs e = rw e refl

first_fails : {A : Type 0} (len : A → ℕ) (meant : ℕ → A → Result A Fault) (place : ℕ) (x : A) (xs : List A) (f : Fault) → meant place x ≡ Err f → each_from len meant place (x ∷ xs) ≡ Err f
first_fails len meant place x xs f e = rw e refl

-- ---- items that are told one by one behind others

-- what is told so far and what is left make what all items make; the next one begins at a place
pub record Told {A : Type 0} (len : A → ℕ) (meant : ℕ → A → Result A Fault) (first : ℕ) (all out : List A) (j place : ℕ) : Type 0 where
  pub makes : with_front out (each_from len meant place (drop j all)) ≡ each_from len meant first all
  pub stands : place ≡ first + sum_by len (take j all)

pub told_more : {A : Type 0} (len : A → ℕ) (meant : ℕ → A → Result A Fault) (first : ℕ) (all out : List A) (j place : ℕ) (x y : A) → Told len meant first all out j place → j < length all → x ≡ get_or all j x → meant place x ≡ Ok y
    → Told len meant first all (out ++ y ∷ []) (j + 1) (place + len x)
told_more {A = A} len meant first all out j place x y t lt here is =
    record {
      makes = sym (front_more out y (each_from len meant (place + len x) (drop (j + 1) all)))
          ∙ ap (with_front out) (sym (meant_first len meant place x y (drop (j + 1) all) is))
          ∙ ap (λ (xs : List A). with_front out (each_from len meant place xs)) (sym (drop_one all j x lt here))
          ∙ t.makes;
      stands = omega (arith, t.stands, sum_by_more len all j x lt, ap len here);
    }

-- the next one ends before the end of all
pub told_ends : {A : Type 0} (len : A → ℕ) (meant : ℕ → A → Result A Fault) (first : ℕ) (all out : List A) (j place : ℕ) (x : A) → Told len meant first all out j place → j < length all → x ≡ get_or all j x → place + len x ≤ first + sum_by len all
told_ends len meant first all out j place x t lt here =
    omega (arith, t.stands, ap len here, sum_by_more len all j x lt, sum_by-take-le len all (j + 1))

-- an operation that will stand inside the next one
abbrev pub put_inside : Gathered → PlainOp → Gathered
put_inside gathered op = record gathered { inner = gathered.inner ++ op ∷ [] }

-- the next operation is put behind the others, as what it becomes
put_of : (meant : ℕ → Op → Result Op Fault) (first : ℕ) (all out : List Op) (k place : ℕ) (op : Op) (r : Result Op Fault) (after : Gathered) → Told op_size meant first all out k place → k < length all → op ≡ get_or all k op → meant place op ≡ r → put_behind out r ≡ Ok after
    → Told op_size meant first all after.ops (k + 1) (place + op_size op) × (after.inner ≡ [])
put_of meant first all out k place op (Ok y) after t lt here is put =
    let made : Gathered = record { ops = out ++ y ∷ []; inner = [] } in
    subst (λ (g : Gathered). Told op_size meant first all g.ops (k + 1) (place + op_size op) × (g.inner ≡ [])) (ok_is made after put) (told_more op_size meant first all out k place op y t lt here is, refl)
put_of meant first all out k place op (Err f) after t lt here is put = absurd cc

pub told_put : (meant : ℕ → Op → Result Op Fault) (first : ℕ) (all out : List Op) (k place : ℕ) (op : Op) (after : Gathered) → Told op_size meant first all out k place → k < length all → op ≡ get_or all k op → put_behind out (meant place op) ≡ Ok after
    → Told op_size meant first all after.ops (k + 1) (place + op_size op) × (after.inner ≡ [])
told_put meant first all out k place op after t lt here put = put_of meant first all out k place op (meant place op) after t lt here refl put

put_fails : (out : List Op) (read : Result Op Fault) (f : Fault) → put_behind out read ≡ Err f → read ≡ Err f
put_fails out (Ok op) f e = absurd cc
put_fails out (Err g) f e = cc

-- the next operation is refused
pub told_refused : (meant : ℕ → Op → Result Op Fault) (first : ℕ) (all out : List Op) (k place : ℕ) (op : Op) (error : ReadError) → Told op_size meant first all out k place → k < length all → op ≡ get_or all k op → Refused error (put_behind out (meant place op))
    → Refused error (each_from op_size meant first all)
told_refused meant first all out k place op (errors.Faulty f) t lt here h =
    let fails : each_from op_size meant place (drop k all) ≡ Err f = ap (each_from op_size meant place) (drop_one all k op lt here) ∙ first_fails op_size meant place op (drop (k + 1) all) f (put_fails out (meant place op) f h) in
    sym t.makes ∙ ap (with_front out) fails
told_refused meant first all out k place op errors.NoMemory t lt here h = tt

-- ---- what stands at a place

pub some_same : {A : Type 0} (x y : A) → Some x ≡ Some y → x ≡ y
some_same x y e = cc

pub all_at_place : {A : Type 0} (P : A → Type 0) (xs : List A) (j : ℕ) (x : A) → All P xs → j < length xs → x ≡ get_or xs j x → P x
all_at_place P xs j x all lt here = subst P (sym here) (All-get_or P xs j x lt all)
