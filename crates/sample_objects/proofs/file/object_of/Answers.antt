use Rattle.std.proofs.Common.{◌<◌, ◌^◌, ◌∙◌}
use Rattle.std.proofs.lemmas.List.Elements.{All-same}
use Rattle.reloc_table.specs.declared.relocation.Reloc.{Reloc}
use Rattle.sample_objects.specs.ObjectFile.{line_relocs}
use Rattle.sample_objects.proofs.LineSizes.{relocs_small}
use Rattle.sample_objects.proofs.TheFile.{whole}
use Rattle.sample_objects.proofs.file.object_of.Goals as goal

pub append_relocs-requires-2 : goal.append_relocs-requires-2
append_relocs-requires-2 c = All-same (λ (r : Reloc). r.symbol < 2 ^ 24) c.args.moved.now (line_relocs c.args.spec.now.unit) c.requires.moved (relocs_small c.args.spec.now.unit)

pub returns : goal.returns
returns c =
    whole c.args.spec.now c.places_of-places.result c.args.sized.now c.args.contents.now c.as_slice-2.result.now c.as_slice.result.now c.args.moved.now c.places_of-places.ensures.places c.requires.sized c.requires.contents
    (c.as_slice-2.ensures ∙ c.in_ok-symbols.ensures) c.as_slice.ensures c.requires.moved _ _ _ _ _ _ _ _ c.new-out.ensures c.in_ok-append_header.ensures c.in_ok-append_object_segment.ensures c.in_ok-append_symtab.ensures
    c.in_ok-extend.ensures.ok c.in_ok-append_relocs.ensures c.in_ok-append_relocs-2.ensures c.in_ok-extend-2.ensures.ok
