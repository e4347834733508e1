-- The generated objects meet what writing them asks for.
use Rattle.std.proofs.Common.{◌≡◌, ◌≤◌, ◌<◌, ◌^◌, ℕ, None, arith, refl}
use Rattle.std.specs.List.{All}
use Rattle.std.proofs.lemmas.List.Elements.{All-map}
use Rattle.layout.specs.Lengths.{long_section, long_unit}
use Rattle.reloc_table.specs.declared.relocation.Reloc.{Reloc}
use Rattle.sample_objects.specs.GeneratedProgram.{reloc_of, spec_of}
use Rattle.sample_objects.specs.GeneratedUnit.{all_numbers, unit_of}
use Rattle.sample_objects.specs.ObjectFile.{graph_of}
use Rattle.sample_objects.proofs.Short.{AreShort, all_short, none_long, unit_short}
use Rattle.sample_objects.proofs.SmallNodes.{nodes_few, nodes_small}

pub spec_unit : (i : ℕ) → i ≤ 1000 → long_unit (graph_of (spec_of i).unit) ≡ None
spec_unit i object = unit_short (unit_of i) (nodes_few i) (nodes_small i object) refl refl

pub spec_short : (i : ℕ) → i ≤ 1000 → AreShort (graph_of (spec_of i).unit)
spec_short i object = all_short (unit_of i) (nodes_few i) (nodes_small i object) refl refl

pub spec_sections : (i : ℕ) → i ≤ 1000 → long_section (graph_of (spec_of i).unit) ≡ None
spec_sections i object = none_long (graph_of (spec_of i).unit) (spec_short i object)

pub spec_symbols : (i : ℕ) → All (λ r. r.symbol < 2 ^ 24) (spec_of i).relocs
spec_symbols i = All-map (λ (r : Reloc). r.symbol < 2 ^ 24) (reloc_of i) all_numbers (λ k d lt. omega arith)
