use Rattle.std.proofs.Common.{◌≡◌, ℕ, ◌+◌, List, ◌++◌, length, take, Err, sym, subst, ◌∙◌, ap, arith, append_assoc, length-append}
use Rattle.std.proofs.lemmas.List.{length-take-le}
use Rattle.std.proofs.lemmas.Result.{err_from_is_err_and}
use Rattle.std.proofs.Math.Seq.{take-append_seam}
use Rattle.dsym_write.specs.declared.error.WriteError.TheVariants as errors
use Rattle.dsym_write.specs.Bundle.{Writes}
use Rattle.dsym_write.proofs.FileRoom.{refused, size_is}
use Rattle.dsym_write.proofs.image.image_in.Goals as goal

pub returns-in_err-file : goal.returns-in_err-file
returns-in_err-file g c = λ graph measured.
    let given = err_from_is_err_and c.from_residual.result c.from_residual.ensures.1 in
    subst (Writes (take c.args.start c.args.room.items) c.args.program.now graph) (sym (given.1 ∙ ap Err given.2))
    (refused c.args.program.now c.args.layout.now c.places_of-places.result c.requires.sound c.places_of-places.ensures graph measured (take c.args.start c.args.room.items) c.in_err-file.field-0.0 c.in_err-file.ensures.refused)

pub returns-in_err-commands : goal.returns-in_err-commands
returns-in_err-commands g c = λ graph measured.
    let given = err_from_is_err_and c.from_residual-in_err-commands.result c.from_residual-in_err-commands.ensures.1 in
    subst (Writes (take c.args.start c.args.room.items) c.args.program.now graph) (sym (given.1 ∙ ap Err given.2))
    (refused c.args.program.now c.args.layout.now c.places_of-places.result c.requires.sound c.places_of-places.ensures graph measured (take c.args.start c.args.room.items) errors.NoMemory c.in_ok-file.ensures.small)

-- what a room holds whose end was written
behind : (front new rest more : List ℕ) (len : ℕ) → length front + length new ≡ len → take len ((front ++ (new ++ rest)) ++ more) ≡ front ++ new
behind front new rest more len e =
    let whole : (front ++ (new ++ rest)) ++ more ≡ (front ++ new) ++ (rest ++ more) = simp append_assoc in
    ap (λ (n : ℕ). take n ((front ++ (new ++ rest)) ++ more)) (sym (length-append front new ∙ e)) ∙ ap (take (length (front ++ new))) whole ∙ take-append_seam (front ++ new) (rest ++ more)

pub returns : goal.returns
returns g c = λ graph measured.
    let written = c.write_image.ensures graph measured in
    let size = size_is c.args.program.now c.args.layout.now c.places_of-places.result c.requires.sound c.places_of-places.ensures graph measured in
    let lent : c.deref_mut.result.now ≡ c.in_ok-file.file.items = c.deref_mut.ensures.value in
    let front : take c.args.start c.deref_mut.result.now ≡ take c.args.start c.args.room.items = ap (take c.args.start) lent ∙ c.in_ok-file.ensures.front in
    let start : length (take c.args.start c.args.room.items) ≡ c.args.start = length-take-le c.args.start c.args.room.items c.requires.start in
    let long : length (take c.args.start c.deref_mut.result.now) + length c.write_image.new.room ≡ c.in_ok-file.file.len =
    omega (arith, ap length front, start, ap length written, size, c.in_ok-file.ensures.len, c.in_ok-file.file.ok) in
    (c.from_vec.ensures ∙ behind _ c.write_image.new.room _ _ _ long ∙ ap (λ (bytes : List ℕ). bytes ++ c.write_image.new.room) front ∙ ap (λ (bytes : List ℕ). take c.args.start c.args.room.items ++ bytes) written, omega (arith, size, c.in_ok-file.ensures.small))
