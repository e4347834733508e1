use Rattle.std.proofs.Common.{◌≡◌, ◌∙◌, ◌+◌, ◌++◌, [], ◌∷◌, Bor, Err, List, ℕ, ap, drop, fold, map, subst}
use Rattle.std.proofs.lemmas.List.{drop_all}
use Rattle.std.proofs.lemmas.Result.{err_from_is_err_and}
use Rattle.ds_base.proofs.Walking.{drop_one}
use Rattle.ds_base.specs.Texts.{with_text}
use Rattle.text_pool.specs.declared.error.TextError.TheVariants as errors
use Rattle.text_pool.specs.Joins.{IsJoining, place_in}
use Rattle.text_pool.specs.Shards.{texts_in}
use Rattle.text_pool.proofs.AllShards.{all_joined}
use Rattle.text_pool.proofs.Joints.{joined_is}
use Rattle.text_pool.proofs.Turns.{map_done, map_more}
use Rattle.text_pool.proofs.joining.join_shards.Goals as goal

pub returns-in_err-theirs-clause-long : goal.returns-in_err-theirs-clause-long
returns-in_err-theirs-clause-long c = λ failed.
    let p = err_from_is_err_and c.from_residual-in_err-theirs.result c.from_residual-in_err-theirs.ensures.1 in
    let told = rw (p.1, p.2) at failed in
    let same : c.in_err-theirs.field-0.0 ≡ errors.Long = cc in
    let parts : List (Bor (List (List ℕ))) = c.args.parts.now in
    let cut = drop_one parts c.loop-names.names-index c.names-item.result c.loop-names-test.true c.names-item.is in
    c.in_err-theirs.ensures.long (texts_in parts) (texts_in (drop (c.loop-names.names-index + 1) parts))
    (subst (λ (ps : List (Bor (List (List ℕ)))). IsJoining (texts_in parts) (texts_in ps) c.loop-names.shards c.loop-names.section) cut c.loop-names.invariant.joining)
    (ap (λ e. Err e) same)

pub loop-names-preserved : goal.loop-names-preserved
loop-names-preserved c =
    let parts : List (Bor (List (List ℕ))) = c.args.parts.now in
    let cut = drop_one parts c.loop-names.names-index c.names-item.result c.loop-names-test.true c.names-item.is in
    let more = texts_in (drop (c.loop-names.names-index + 1) parts) in
    let so_far = subst (λ (ps : List (Bor (List (List ℕ)))). IsJoining (texts_in parts) (texts_in ps) c.loop-names.shards c.loop-names.section) cut c.loop-names.invariant.joining in
    record {
      joining = c.in_ok-theirs.ensures.joining (texts_in parts) more so_far;
      told = map_more (λ (names : Bor (List (List ℕ))). map (place_in (fold with_text [] (texts_in parts))) names.now) parts c.loop-names.names-index c.names-item.result c.loop-names.places c.push.new.self _ cut
          (c.in_ok-push.ensures.ok ∙ ap (λ (ns : List ℕ). c.loop-names.places ++ ns ∷ []) (c.in_ok-theirs.ensures.places (texts_in parts) more so_far)) c.loop-names.invariant.told;
    }

pub returns-clause-ok : goal.returns-clause-ok
returns-clause-ok c =
    let parts : List (Bor (List (List ℕ))) = c.args.parts.now in
    let none = drop_all c.loop-names.names-index parts c.loop-names-test.false in
    joined_is parts c.loop-names.section c.loop-names.places
    (all_joined (texts_in parts) c.loop-names.shards c.loop-names.section (subst (λ (ps : List (Bor (List (List ℕ)))). IsJoining (texts_in parts) (texts_in ps) c.loop-names.shards c.loop-names.section) none c.loop-names.invariant.joining))
    (map_done (λ (names : Bor (List (List ℕ))). map (place_in (fold with_text [] (texts_in parts))) names.now) parts c.loop-names.names-index c.loop-names.places _ c.loop-names-test.false c.loop-names.invariant.told)
