-- Steps of a reader that did not fail.
use Rattle.std.proofs.Common.{◌≡◌, Bool, true, false, cond, Option, Some, None, Result, Ok, Err, refl}
use Rattle.ds_base.specs.declared.fault.Fault.{Fault}
use Rattle.ds_base.specs.Reading.{◌>>=◌, refuse_if, or_fault}

-- the value of such a step
pub bind_ok : {A B : Type 0} (r : Result A Fault) (f : A → Result B Fault) (y : B) → (r >>= f) ≡ Ok y → (x : A) × (r ≡ Ok x) × (f x ≡ Ok y)
bind_ok (Ok x) f y e = (x, refl, e)
bind_ok (Err d) f y e = absurd cc

-- a test that let through what follows
pub passed : {A : Type 0} (b : Bool) (f : Fault) (next : Result A Fault) (y : A) → (refuse_if b f >>= λ u. next) ≡ Ok y → (b ≡ false) × (next ≡ Ok y)
passed true f next y e = absurd cc
passed false f next y e = (refl, e)

-- a test that did not fail
pub guard_ok : {A : Type 0} (b : Bool) (d : Fault) (x y : A) → cond b (Err d) (Ok x) ≡ Ok y → (b ≡ false) × (x ≡ y)
guard_ok true d x y e = absurd cc
guard_ok false d x y e = (refl, cc)

abbrev done : {A : Type 0} → A → Result A Fault
done x = Ok x

pub ok_is : {A : Type 0} (x y : A) → done x ≡ done y → x ≡ y
ok_is x y e = cc

-- what is there
pub found_ok : {A : Type 0} (o : Option A) (f : Fault) (x : A) → or_fault o f ≡ Ok x → o ≡ Some x
found_ok (Some y) f x e = cc
found_ok None f x e = absurd cc
