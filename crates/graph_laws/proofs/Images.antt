-- The image of a graph tells it.
use Rattle.std.proofs.Common.{◌≡◌, ◌<◌, ◌≤◌, ◌^◌, ◌==◌, not, ℕ, Bool, true, false, List, [], ◌∷◌, length, filter, if◌then◌else◌, Ok, refl, sym, subst, length-append, arith}
use Rattle.std.proofs.lemmas.Bool.{eqb-true}
use Rattle.ds_base.specs.declared.fault.Part.TheVariants as parts
use Rattle.ds_base.specs.DwarfNumbers.{LENGTH_RESERVED}
use Rattle.dwarf_types.specs.declared.graph.Graph.{Graph}
use Rattle.dwarf_types.specs.declared.graph.Written.{Written}
use Rattle.dwarf_types.specs.Encode.{all_sections, encode, frame_section, has_bytes}
use Rattle.dwarf_types.specs.SectionBytes.{SectionBytes}
use Rattle.dwarf_types.specs.Well.{IsWell}
use Rattle.dsym_write.specs.Bundle.{contents, file_of, image_file, page_end, strings_end}
use Rattle.image_laws.specs.Fitting.{FitsRecords}
use Rattle.image_laws.proofs.Commands.{file_length}
use Rattle.image_laws.proofs.Whole.{bundle, image_read, sections, tried}
use Rattle.macho_read.specs.declared.image.Image.{Image}
use Rattle.macho_read.specs.declared.kind.Role.TheVariants as roles
use Rattle.macho_read.specs.ImageSpelling.{image_kept}
use Rattle.macho_read.specs.Kind.{kind_of}
use Rattle.written_laws.specs.ReadUnits.{IsReadable}
use Rattle.written_laws.proofs.Cuts.{ends_within}
use Rattle.graph_laws.specs.Telling.{TellsGraph, TellsImage}
use Rattle.graph_laws.proofs.Whole.{graph_told}

-- sections without bytes have no part in the length of all
same_length : (ws : List Written) → length (contents (filter has_bytes ws)) ≡ length (contents ws)
same_length [] = refl
same_length (w ∷ ws) = by (length w.bytes == 0) refl (same_length ws)
  where
    by : (b : Bool) → (length w.bytes == 0) ≡ b → length (contents (filter has_bytes ws)) ≡ length (contents ws) → length (contents (if not b then w ∷ filter has_bytes ws else filter has_bytes ws)) ≡ length (contents (w ∷ ws))
    by true none rest = omega (arith, eqb-true (length w.bytes) 0 none, rest, length-append w.bytes (contents ws))
    by false some rest = omega (arith, rest, length-append w.bytes (contents ws), length-append w.bytes (contents (filter has_bytes ws)))

first_page : (n : ℕ) → 0 < n → 0x1000 ≤ page_end n
first_page n some = omega (arith, some)

module _ (program : Image) (graph : Graph) (fits : FitsRecords program) (kind : kind_of program roles.Program ≡ Ok tt) (well : IsWell graph) (readable : IsReadable graph) (small : length (image_file program graph) < 2 ^ 32) where
  frames_short : length (frame_section graph) < LENGTH_RESERVED
  frames_short =
      let whole = file_length program (encode graph) fits small in
      let page = first_page (strings_end program (encode graph)) (omega arith) in
      let one : Written = record { part = parts.Frame; bytes = frame_section graph } in
      let within = ends_within (λ (w : Written). w.bytes) (λ (w : Written). length w.bytes) (λ (w : Written). refl) (all_sections graph) 10 (record { part = parts.Frame; bytes = frame_section graph }) refl in
      omega (arith, whole, page, within, same_length (all_sections graph), small)

  pub image_told : TellsImage (image_file program graph) graph
  image_told = record {
    image = image_kept (file_of program (encode graph));
    is = image_read program graph fits small;
    bundle = bundle program graph fits;
    inside = tried program graph fits kind small;
    tells = λ relocs none. subst (λ (s : SectionBytes). TellsGraph (image_kept (file_of program (encode graph))) relocs s graph) (sym (sections program graph fits kind small))
        (graph_told graph well readable (image_kept (file_of program (encode graph))) relocs none frames_short);
  }
