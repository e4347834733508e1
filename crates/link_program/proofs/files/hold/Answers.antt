use Rattle.std.proofs.Common.{◌-◌, ℕ, ap, sym, ◌∙◌}
use Rattle.indexmap.proofs.CallerLemmas.{insert_entry-new}
use Rattle.link_program.specs.Seen.{missing_seen}
use Rattle.link_program.proofs.Holding.{content_is, held_more}
use Rattle.link_program.proofs.files.hold.Goals as goal

pub returns-in-Ok : goal.returns-in-Ok
returns-in-Ok c =
    let files = held_more c.args.held.now.files c.insert.new.self c.args.name c.args.bytes
    (c.in-Ok.ensures.entries ∙ insert_entry-new _ c.args.held.now.files c.args.name c.args.bytes (sym (content_is c.args.held.now.files c.args.name.now) ∙ c.requires.new)) in
    let left = ap (λ (n : ℕ). c.args.held.now.left - n) c.len.ensures in
    λ i. record { files = files i; missing = missing_seen c.args.held.now.missing; left = left i; warnings = c.args.held.now.warnings }
