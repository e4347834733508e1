use Rattle.std.proofs.Common.{◌∙◌, not, sym, ap}
use Rattle.type_names.proofs.HeadTests.{clean_by_rows}
use Rattle.type_names.proofs.heads.is_clean.Goals as goal

pub returns : goal.returns
returns c = ap not c.is_spoilt.ensures ∙ sym (clean_by_rows c.args.seen.now c.args.live.now c.args.rows.now c.args.k c.requires.parents c.requires.rows)
