-- What a table has of a key, by its entries.
use Rattle.std.proofs.Common.{◌≡◌, Bool, true, false, List, [], ◌∷◌, ◌++◌, Option, None, Some, is_some, if◌then◌else◌, refl}
use Rattle.std.specs.Map.{lookup}
use Rattle.std.specs.Option.{option_or}

-- one more entry, behind the others
pub lookup-push : {K X : Type 0} (test : K → Bool) (es : List (K × X)) (k : K) (v : X)
    → lookup test (es ++ (k, v) ∷ []) ≡ option_or (lookup test es) (if test k then Some v else None)
lookup-push test [] k v = refl
lookup-push test (e ∷ es) k v = rw (lookup-push test es k v) (by (test e.0))
  where
    by : (first : Bool) → (if first then Some e.1 else option_or (lookup test es) (if test k then Some v else None))
        ≡ option_or (if first then Some e.1 else lookup test es) (if test k then Some v else None)
    by true = refl
    by false = refl

pub none_from : {X : Type 0} (o : Option X) → is_some o ≡ false → o ≡ None
none_from None e = refl
none_from (Some x) e = absurd cc
