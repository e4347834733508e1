use Rattle.std.proofs.Common.{◌≡◌, ◌<◌, ◌+◌, ◌++◌, ◌∷◌, [], ℕ, length, get_or, refl, ap, ◌∙◌, arith}
use Rattle.std.specs.Vec.{with_item}
use Rattle.std.proofs.lemmas.List.{get_or_default}
use Rattle.odr_names.specs.declared.ordinals.Chains.{Chains}
use Rattle.odr_names.specs.Twins.{cell_of}
use Rattle.odr_names.proofs.Siblings.{chained_more}
use Rattle.odr_names.proofs.ordinals.hang.Goals as goal

pub returns : goal.returns
returns c =
    let newest = c.args.chains.now.newest.items in
    let cell = c.cell_of-cell.result in
    let new : Chains = record { newest = with_item c.args.chains.now.newest cell (c.args.i + 1); before = c.push.new.self } in
    let within : cell < length newest = omega (arith, c.cell_of-cell.ensures.within, c.len.ensures) in
    let len : c.len.result ≡ length newest = omega (arith, c.len.ensures) in
    let is : cell ≡ cell_of (length newest) c.rank_at.result = c.cell_of-cell.ensures.cell ∙ ap (λ (cells : ℕ). cell_of cells c.rank_at.result) len in
    let link : c.index-newest.result.now ≡ get_or newest cell 0 = c.index-newest.ensures ∙ get_or_default newest cell c.index-newest.result.now 0 within in
    chained_more c.args.ranks.now c.args.chains.now new c.rank_at.result c.args.i cell c.rank_at.ensures is within refl
    (c.in_ok-push.ensures.items ∙ ap (λ (x : ℕ). c.args.chains.now.before.items ++ x ∷ []) link) c.requires.chained
