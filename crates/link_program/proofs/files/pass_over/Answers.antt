use Rattle.std.proofs.Common.{◌≡◌, List, ℕ, ◌∷◌, [], ◌++◌, ap, rules, sym, true, ◌∙◌}
use Rattle.indexmap.proofs.CallerLemmas.{insert_entry-new}
use Rattle.ds_base.proofs.Lookups.{none_from}
use Rattle.link_program.specs.Files.{passes_over}
use Rattle.link_program.specs.Seen.{missing_seen}
use Rattle.link_program.proofs.Holding.{missing_is, missing_more, pass_over_as}
use Rattle.link_program.proofs.files.pass_over.Goals as goal

pub returns-in-Ok : goal.returns-in-Ok
returns-in-Ok c =
    let goes : passes_over c.args.keep_going c.args.error ≡ true = search rules in
    let more = missing_more c.args.held.now.missing c.insert.new.self c.as_slice.result _
    (c.in-Ok.ensures.entries ∙ insert_entry-new _ c.args.held.now.missing c.as_slice.result _
    (none_from _ (sym (missing_is c.args.held.now.missing c.as_slice.result.now) ∙ (rw c.as_slice.ensures c.requires.new)))) in
    pass_over_as c.args.keep_going c.args.number c.args.object.now c.args.error c.args.held.now c.warn.new.held (missing_seen c.insert.new.self) c.warn.result goes
    (more ∙ ap (λ (name : List ℕ). missing_seen c.args.held.now.missing ++ name ∷ []) c.as_slice.ensures) c.warn.ensures
