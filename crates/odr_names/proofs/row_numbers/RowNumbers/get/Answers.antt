use Rattle.std.proofs.Common.{ap, ◌∙◌, List, ℕ, None, Option, arith, get_or, length}
use Rattle.std.proofs.lemmas.List.{length-map}
use Rattle.odr_names.specs.Entering.{number_held}
use Rattle.odr_names.proofs.HeldNumbers.{held_at}
use Rattle.odr_names.proofs.row_numbers.RowNumbers.get.Goals as goal

pub returns : goal.returns
returns c =
    c.number_at.ensures ∙ ap (λ (xs : List ℕ). number_held (get_or xs c.args.k 0)) c.deref.ensures.value ∙ held_at c.self.inside.held.items c.args.k
    ∙ ap (λ (xs : List (Option ℕ)). get_or xs c.args.k None) c.self.view_is

pub number_at-requires : goal.number_at-requires
number_at-requires c = rw c.deref.ensures.value (omega (arith, length-map c.self.inside.held.items number_held, ap (λ (xs : List (Option ℕ)). length xs) c.self.view_is, c.requires))
