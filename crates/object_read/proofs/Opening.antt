-- The steps by which an object is opened, and what it is then.
use Rattle.std.proofs.Common.{◌≡◌, ℕ, List, [], Ok, refl, sym, ap, subst}
use Rattle.ds_base.specs.Reading.{◌>>=◌}
use Rattle.ds_base.proofs.Passing.{bind_ok, ok_is}
use Rattle.dwarf_types.specs.SectionBytes.{SectionBytes}
use Rattle.macho_read.specs.declared.image.Image.{Image}
use Rattle.macho_read.specs.declared.kind.Role.TheVariants as roles
use Rattle.macho_read.specs.Image.{image_of}
use Rattle.macho_read.specs.Kind.{kind_of}
use Rattle.object_read.specs.declared.open.DebugRelocs.{DebugRelocs}
use Rattle.object_read.specs.Opened.{Opened, relocs_in, opened_of}
use Rattle.reloc_table.specs.declared.sections.Compressed.TheVariants as compressed
use Rattle.reloc_table.specs.Parts.{sections_in}
use Rattle.reloc_table.specs.Parts.{all_tried}

pub opened_as : (bytes : List ℕ) (cpu : ℕ) (image : Image) (sections : SectionBytes) (relocs : DebugRelocs) → image_of bytes ≡ Ok image → kind_of image (roles.Object cpu) ≡ Ok tt
    → all_tried compressed.Tried bytes [] image.sections ≡ Ok tt → relocs_in bytes image ≡ Ok relocs → sections ≡ sections_in bytes image.sections
    → opened_of bytes cpu ≡ Ok (record { image = image; sections = sections; relocs = relocs })
unfolding opened_of
opened_as bytes cpu image sections relocs read kind tried moved is =
    rw (read, kind, tried, moved) (ap (λ (s : SectionBytes). Ok (record { image = image; sections = s; relocs = relocs })) (sym is))

-- its sections are those of its image, and were tried
pub record IsOpened (bytes : List ℕ) (o : Opened) : Type 0 where
  pub are : o.sections ≡ sections_in bytes o.image.sections
  pub tried : all_tried compressed.Tried bytes [] o.image.sections ≡ Ok tt

pub opened_is : (bytes : List ℕ) (cpu : ℕ) (o : Opened) → opened_of bytes cpu ≡ Ok o → IsOpened bytes o
unfolding opened_of
opened_is bytes cpu o e =
    let image = bind_ok (image_of bytes) (λ image. kind_of image (roles.Object cpu) >>= λ k. all_tried compressed.Tried bytes [] image.sections >>= λ t. relocs_in bytes image >>= λ relocs. Ok (record { image = image; sections = sections_in bytes image.sections; relocs = relocs })) o e in
    let kind = bind_ok (kind_of image.0 (roles.Object cpu)) (λ k. all_tried compressed.Tried bytes [] image.0.sections >>= λ t. relocs_in bytes image.0 >>= λ relocs. Ok (record { image = image.0; sections = sections_in bytes image.0.sections; relocs = relocs })) o image.2 in
    let tried = bind_ok (all_tried compressed.Tried bytes [] image.0.sections) (λ t. relocs_in bytes image.0 >>= λ relocs. Ok (record { image = image.0; sections = sections_in bytes image.0.sections; relocs = relocs })) o kind.2 in
    let relocs = bind_ok (relocs_in bytes image.0) (λ relocs. Ok (record { image = image.0; sections = sections_in bytes image.0.sections; relocs = relocs })) o tried.2 in
    subst (IsOpened bytes) (ok_is (record { image = image.0; sections = sections_in bytes image.0.sections; relocs = relocs.0 }) o relocs.2) (record { are = refl; tried = tried.1 })
