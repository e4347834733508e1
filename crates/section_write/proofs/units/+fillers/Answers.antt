use Rattle.std.proofs.Common.{◌++◌, ◌∙◌, ap₂, length, sym}
use Rattle.section_write.proofs.Between.{bytes_cut, size_before, size_behind}
use Rattle.section_write.proofs.units.+fillers.Goals as goal

pub fill_units-split_at_mut-front-requires : goal.fill_units-split_at_mut-front-requires
fill_units-split_at_mut-front-requires g t c =
    size_before c.args.layout.now c.args.first c.cut_at-cut.result.unit c.args.end (length c.args.room.now) c.cut_at-cut.result.bytes c.requires c.cut_at-cut.ensures.before c.cut_at-cut.ensures.inside

pub fill_units-fill_both-requires-clause-back : goal.fill_units-fill_both-requires-clause-back
fill_units-fill_both-requires-clause-back g t c κs within =
    size_behind c.args.layout.now c.args.first c.cut_at-cut.result.unit c.args.end (length c.args.room.now) c.cut_at-cut.result.bytes c.requires c.cut_at-cut.ensures.before c.cut_at-cut.ensures.inside _ c.split_at_mut-front.ensures.back_len

pub fill_units-returns : goal.fill_units-returns
fill_units-returns g t c = record {
  bytes = λ graph measured.
      ap₂ ◌++◌ (c.fill_both.ensures.front.bytes graph measured) (c.fill_both.ensures.back.bytes graph measured)
      ∙ sym (bytes_cut graph c.args.first c.cut_at-cut.result.unit c.args.end c.cut_at-cut.ensures.before.ordered c.cut_at-cut.ensures.inside);
}
