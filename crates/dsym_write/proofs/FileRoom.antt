-- Why there is no room for the file of a graph, told of the file.
use Rattle.std.proofs.Common.{◌≡◌, ℕ, List, Ok, Err, length, arith, refl, sym, ◌∙◌}
use Rattle.dwarf_types.specs.declared.graph.Graph.{Graph}
use Rattle.dwarf_types.specs.Encode.{encode}
use Rattle.layout.specs.Laid.{Laid, Measures}
use Rattle.macho_read.specs.declared.image.Image.{Image}
use Rattle.macho_read.specs.Sound.{IsSound}
use Rattle.dsym_write.specs.declared.error.WriteError.{WriteError}
use Rattle.dsym_write.specs.declared.error.WriteError.TheVariants as errors
use Rattle.dsym_write.specs.declared.places.Places.{Places}
use Rattle.dsym_write.specs.Bundle.{Writes, image_file}
use Rattle.dsym_write.specs.Pieces.{ArePlaces, HasNoRoom, commands_front}
use Rattle.dsym_write.proofs.TheFile.{file_length}
use Rattle.dsym_write.proofs.Told.{graph_told}

module _ (program : Image) (layout : Laid) (p : Places) (sound : IsSound program) (places : ArePlaces program layout p) (graph : Graph) (measured : Measures graph (Ok layout)) where
  pub size_is : p.size ≡ length (image_file program graph)
  size_is = sym (file_length program (encode graph) layout p sound places (graph_told graph layout measured) (commands_front program p layout) refl)

  pub refused : (front : List ℕ) (error : WriteError) → HasNoRoom p.size error → Writes front program graph (Err error)
  refused front (errors.File size) h = (h.0 ∙ size_is, omega (arith, h.0, h.1))
  refused front errors.NoMemory h = omega (arith, h, size_is)
