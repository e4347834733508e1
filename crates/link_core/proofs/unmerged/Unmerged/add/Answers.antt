use Rattle.std.proofs.Common.{◌+◌, ℕ, refl, ap, ◌∙◌, arith}
use Rattle.link_core.proofs.Unmerging.{entries_fit, live_fit, unmerged_more}
use Rattle.link_core.proofs.unmerged.Unmerged.add.Goals as goal

pub overflow_add-self : goal.overflow_add-self
overflow_add-self c =
    let fit = entries_fit c.requires.0 c.requires.1 c.args.self.now c.args.object c.requires.2 in
    omega (arith, fit, c.from.ensures, c.len-entries.ensures)

pub overflow_add-self-2 : goal.overflow_add-self-2
overflow_add-self-2 c =
    let fit = live_fit c.requires.0 c.requires.1 c.args.self.now c.args.object c.requires.2 in
    omega (arith, fit, c.from-2.ensures, c.count_marks.ensures)

pub returns : goal.returns
returns c =
    λ seen marks may.
    let number = c.len-number.ensures ∙ may.so_far.objects in
    let units = c.in_ok-self.ensures seen marks may.behind number may.so_far.units in
    unmerged_more seen marks c.args.object.analysis c.args.object.live may.behind c.args.self.now _ may.so_far c.in_ok-push.ensures.ok (ap (λ (n : ℕ). c.args.self.now.entries + n) (c.from.ensures ∙ c.len-entries.ensures))
    (ap (λ (n : ℕ). c.args.self.now.live + n) (c.from-2.ensures ∙ c.count_marks.ensures)) c.in_ok-append.ensures.ok refl refl units
