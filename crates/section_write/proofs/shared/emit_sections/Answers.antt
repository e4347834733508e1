use Rattle.std.proofs.Common.{◌≡◌, ◌+◌, ◌++◌, ◌∙◌, ap, ap₂, arith, length, sym}
use Rattle.layout.specs.declared.table.TheConstants.{SECTIONS}
use Rattle.layout.specs.Laid.{sizes_in}
use Rattle.layout.specs.Lengths.{run_size}
use Rattle.section_write.specs.Runs.{back_run}
use Rattle.section_write.proofs.InTurn.{front_and_back, run_len, sections_are}
use Rattle.section_write.proofs.shared.emit_sections.Goals as goal

pub fill_in_turn-requires-clause-size : goal.fill_in_turn-requires-clause-size
fill_in_turn-requires-clause-size g c κs within =
    let m = c.requires.measured in
    c.requires.size m.graph m.measured ∙ ap length (sections_are m.graph) ∙ sym (run_len m.graph c.args.layout.now m.measured SECTIONS)

pub returns-then-workers-lt2 : goal.returns-then-workers-lt2
returns-then-workers-lt2 g c = λ graph measured. c.fill_in_turn.ensures.bytes graph measured ∙ sym (sections_are graph)

pub overflow_add-tables : goal.overflow_add-tables
overflow_add-tables g c =
    let m = c.requires.measured in
    let ends = c.args.layout.now.ends in
    let all : length c.args.room.now ≡ ends.tables + (ends.info + run_size (sizes_in c.args.layout.now) back_run) = c.requires.size m.graph m.measured ∙ ap length (sections_are m.graph) ∙ sym (run_len m.graph c.args.layout.now m.measured SECTIONS) in
    record { fits = omega (arith, all, c.section_size-tables.ensures, c.section_size-units.ensures) }

pub split_at_mut-front-requires : goal.split_at_mut-front-requires
split_at_mut-front-requires g c =
    let m = c.requires.measured in
    let ends = c.args.layout.now.ends in
    let all : length c.args.room.now ≡ ends.tables + (ends.info + run_size (sizes_in c.args.layout.now) back_run) = c.requires.size m.graph m.measured ∙ ap length (sections_are m.graph) ∙ sym (run_len m.graph c.args.layout.now m.measured SECTIONS) in
    omega (arith, all, c.section_size-tables.ensures, c.section_size-units.ensures)

pub fill_both-requires-clause-back : goal.fill_both-requires-clause-back
fill_both-requires-clause-back g c κs within =
    let m = c.requires.measured in
    let ends = c.args.layout.now.ends in
    let all : length c.args.room.now ≡ ends.tables + (ends.info + run_size (sizes_in c.args.layout.now) back_run) = c.requires.size m.graph m.measured ∙ ap length (sections_are m.graph) ∙ sym (run_len m.graph c.args.layout.now m.measured SECTIONS) in
    omega (arith, all, c.section_size-tables.ensures, c.section_size-units.ensures, c.split_at_mut-front.ensures.back_len)

pub returns : goal.returns
returns g c = λ graph measured. ap₂ ◌++◌ (c.fill_both.ensures.front.bytes graph measured) (c.fill_both.ensures.back.bytes graph measured) ∙ front_and_back graph ∙ sym (sections_are graph)
