-- A message that goes out.
use Rattle.std.proofs.Common.{◌≡◌, ◌≢◌, ℕ, true, false, true≢false, List, [], ◌∷◌, ◌++◌, length, Option, nat_eq, refl, sym, ap, subst, ◌∙◌, arith}
use Rattle.std.specs.Option.{option_map}
use Rattle.std.proofs.lemmas.Bool.{eqb-true}
use Rattle.ds_files.specs.Outside.{PrefixAdded, Rose, one_more}
use Rattle.link_status.specs.declared.status.Status.TheVariants as statuses
use Rattle.link_cli.specs.declared.ending.Ending.{Ending}
use Rattle.link_cli.specs.Endings.{Puts, Said, nothing, put, failed, said}

none_left : (xs : List ℕ) → nat_eq (length xs) 0 ≡ true → xs ≡ []
none_left [] is = refl
none_left (x ∷ xs) is = absurd (let same = eqb-true (length (x ∷ xs)) 0 is in omega (arith, same))

some_left : (xs : List ℕ) → nat_eq (length xs) 0 ≡ false → xs ≢ []
some_left xs is empty = true≢false (sym (ap (λ (n : ℕ). nat_eq n 0) (ap length empty)) ∙ is)

module _ (ending : Ending) where
  pub nothing_told : (now : Said) → nat_eq (length ending.message) 0 ≡ true → Puts ending now now ending.status
  nothing_told now is = nothing (none_left ending.message is) refl

  module _ (is : nat_eq (length ending.message) 0 ≡ false) (bytes : List ℕ) (same : bytes ≡ ending.message) (old new : Option (List ℕ)) (before now first calls : ℕ)
      (once : calls ≡ one_more first)
    where
      pub told : new ≡ option_map (λ text. text ++ bytes) old → now ≡ before → Puts ending (said old before first) (said new now calls) ending.status
      told done quiet = put (some_left ending.message is) once (done ∙ ap (λ (more : List ℕ). option_map (λ text. text ++ more) old) same) quiet

      pub not_told : Rose before now → PrefixAdded bytes old new → Puts ending (said old before first) (said new now calls) statuses.MessageFault
      not_told rose prefix = failed (some_left ending.message is) once rose (subst (λ (more : List ℕ). PrefixAdded more old new) same prefix)
