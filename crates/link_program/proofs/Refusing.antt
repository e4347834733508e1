-- What is refused has its cause.
use Rattle.std.proofs.Common.{◌≡◌, ℕ, Bool, List, Some, None, Result, Ok, Err, is_some, sym, ap, subst, ◌∙◌, refl}
use Rattle.std.specs.Prelude.{is_ok}
use Rattle.dwarf_types.specs.declared.analysis.Analysis.{Analysis}
use Rattle.macho_read.specs.declared.image.Image.{Image}
use Rattle.link_status.specs.declared.refusal.Refusal.{Refusal}
use Rattle.link_status.specs.declared.refusal.Refusal.TheVariants as refusals
use Rattle.link_core.specs.Linked.{limit_of}
use Rattle.link_program.specs.Making.{Bundles, HasNoRefusal, fault, limit, no_memory}
use Rattle.object_reads.specs.Marks.{MarkLive}
use Rattle.object_reads.specs.Sources.{Source}

abbrev the_result : (A E : Type 0) → Result A E → Result A E
the_result A E r = r

-- an answer is no error, and what is there is not missing
pub ok_is_no_err : {A E : Type 0} (x : A) (e : E) → the_result A E (Ok x) ≡ Err e → ⊥
ok_is_no_err x e is = absurd (let same = ap is_ok is in cc)

pub some_is_not_none : {A : Type 0} (x : A) → Some x ≡ None → ⊥
some_is_not_none x is = absurd (let same = ap is_some is in cc)

pub ok_is_one : {A E : Type 0} (x y : A) → the_result A E (Ok x) ≡ Ok y → x ≡ y
ok_is_one {A} {E} x y is = ap (or_first x) is
  where
    or_first : A → Result A E → A
    or_first x (Ok y) = y
    or_first x (Err e) = x

-- where nothing refuses a link, memory ran out
pub refused_for_memory : {odr : Bool} {program : Image} {name : List ℕ} {sources : List Source} {refusal : Refusal} → HasNoRefusal odr program sources → Bundles odr program name sources (Err refusal)
    → refusal ≡ refusals.NoMemory
refused_for_memory can (fault file why is) = absurd (ok_is_no_err can.seen (refusals.Faulty file why) (sym can.sound ∙ is))
refused_for_memory {odr} {program} can (limit seen marks refusal are marked reached) =
    let same : can.seen ≡ seen = ok_is_one can.seen seen (sym can.sound ∙ are) in
    let fits : limit_of odr program seen marks ≡ None = subst (λ (s : List Analysis). MarkLive s marks → limit_of odr program s marks ≡ None) same (can.fits marks) marked in
    absurd (some_is_not_none refusal (sym reached ∙ fits))
refused_for_memory can no_memory = refl
