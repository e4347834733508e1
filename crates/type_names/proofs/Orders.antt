-- Tests that are made in another order than they are stated in.
use Rattle.std.proofs.Common.{◌≡◌, ◌∙◌, ◌&&◌, ◌||◌, not, Bool, true, false, refl, sym, ap}

pub and_so : (a b : Bool) → b ≡ true → a ≡ (a && b)
and_so true b is = sym is
and_so false b is = refl

pub and_not : (a b : Bool) → b ≡ false → false ≡ (a && b)
and_not true b is = sym is
and_not false b is = refl

pub or_so : (a b : Bool) → b ≡ true → a ≡ (a || not b)
or_so true b is = refl
or_so false b is = sym (ap not is)

pub or_not : (a b : Bool) → b ≡ false → true ≡ (a || not b)
or_not true b is = refl
or_not false b is = sym (ap not is)

last_third : (type part told reached clean : Bool) → ((type && (part && (reached && clean))) && told) ≡ (part && (type && (told && (reached && clean))))
last_third false false told reached clean = refl
last_third false true told reached clean = refl
last_third true false told reached clean = refl
last_third true true false false clean = refl
last_third true true false true false = refl
last_third true true false true true = refl
last_third true true true false clean = refl
last_third true true true true false = refl
last_third true true true true true = refl

-- where those but the third are known
pub third_left : (type part told reached clean : Bool) → (type && (part && (reached && clean))) ≡ true → told ≡ (part && (type && (told && (reached && clean))))
third_left type part told reached clean is = ap (λ (b : Bool). b && told) (sym is) ∙ last_third type part told reached clean

pub none_left : (type part told reached clean : Bool) → (type && (part && (reached && clean))) ≡ false → false ≡ (part && (type && (told && (reached && clean))))
none_left type part told reached clean is = ap (λ (b : Bool). b && told) (sym is) ∙ last_third type part told reached clean
