use Rattle.image_laws.proofs.Whole.{bundle, image_read, sections, tried}
use Rattle.image_laws.proofs.laws.image_files_give_their_sections.Goals as goal

pub returns : goal.returns
returns c = record {
  image = image_read;
  bundle = bundle;
  tried = tried;
  sections = sections;
}
