-- What the command answers of the words.
use Rattle.std.proofs.Common.{◌≡◌, ◌⊎◌, inl, inr, true, List, [], ◌∷◌, None, Result, Err, refl, sym, subst}
use Rattle.clap.specs.Words.{IsAmong, Kinds, Row, is_simple, is_simple_and_free}
use Rattle.clap.specs.declared.error.kind.ErrorKind.{ErrorKind}
use Rattle.clap.specs.declared.error.kind.ErrorKind.TheVariants as kinds
use Rattle.clap.proofs.OnLiterals.{clap_on_literals}
use Rattle.batch_list.specs.declared.plan.BatchPlan.{BatchPlan}
use Rattle.batch_list.specs.declared.plan.PlanError.{PlanError}
use Rattle.batch_list.specs.declared.plan.PlanError.TheVariants as errors
use Rattle.batch_list.specs.Plan.{command, plan_given, plan_in}
use Rattle.batch_list.specs.Plans.{Plans, refusal}

pub command_simple : is_simple command ≡ true
unfolding clap_on_literals
command_simple = refl

pub command_free : is_simple_and_free command ≡ true
unfolding clap_on_literals
command_free = refl

-- nothing is refused
pub accepted : (faults : Kinds) (rows found : List Row) (result : Result BatchPlan PlanError) → faults ≡ [] → found ≡ rows → Plans result (plan_in found) → Plans result (plan_given faults rows)
accepted faults rows found result none are plans =
    subst (λ (ks : Kinds). Plans result (plan_given ks rows)) (sym none) (subst (λ (rs : List Row). Plans result (plan_in rs)) are plans)

no_plan : (why : PlanError) → Plans (Err why) None
no_plan errors.Usage = refl
no_plan errors.NoMemory = tt

-- it is refused, or memory ran out
pub refused : (kind : ErrorKind) (why : PlanError) (faults : Kinds) (rows : List Row) → why ≡ refusal kind → (kind ≡ kinds.OutOfMemory) ⊎ IsAmong kind faults → Plans (Err why) (plan_given faults rows)
refused kind why faults rows is (inl memory) = rw (is, memory) tt
refused kind why [] rows is (inr among) = absurd among
refused kind why (fault ∷ faults) rows is (inr among) = no_plan why
