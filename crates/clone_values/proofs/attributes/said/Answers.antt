use Rattle.clone_values.specs.Images.{image_at}
use Rattle.clone_values.proofs.attributes.said.Goals as goal

pub returns-in-Others : goal.returns-in-Others
returns-in-Others c = rw (c.in-Others.is, c.if-attr-eq-DW_AT_decl_file.true) (c.file_written.ensures (image_at c.args.images.now) c.args.entry.now)
