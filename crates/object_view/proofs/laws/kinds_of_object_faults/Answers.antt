use Rattle.object_view.proofs.Refused.{analysis_kinds}
use Rattle.object_view.proofs.laws.kinds_of_object_faults.Goals as goal

pub returns : goal.returns
returns c =
    analysis_kinds (record {
      image = c.kinds_of_image_faults.ensures;
      section = c.kinds_of_section_faults.ensures;
      relocs = c.kinds_of_reloc_faults.ensures;
      units = c.kinds_of_unit_faults.ensures;
      expression = c.kinds_of_expression_faults.ensures;
      lines = c.kinds_of_line_faults.ensures;
      ranges = c.kinds_of_range_faults.ensures;
      locations = c.kinds_of_location_faults.ensures;
      frames = c.kinds_of_frame_faults.ensures;
    })
