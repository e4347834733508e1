use Rattle.std.proofs.Common.{◌≡◌, ◌++◌, drop, map}
use Rattle.std.specs.List.{filter_map}
use Rattle.dwarf_types.specs.LinkedValues.{attr_written}
use Rattle.clone_values.specs.Files.{numbers_of}
use Rattle.clone_values.specs.Images.{image_at}
use Rattle.unit_source.specs.Given.{attr_given}
use Rattle.clone_values.proofs.attributes.add_attrs.Given as goal

-- the attributes so far and those that are left
abbrev pub invariant-loop-j : goal.invariant-loop-j
invariant-loop-j l =
    map attr_given l.attrs.items ++ filter_map (attr_written (image_at l.images) (numbers_of l.files) l.entry) (drop l.j l.entry.attrs)
    ≡ map attr_given l.fn.attrs.items ++ filter_map (attr_written (image_at l.images) (numbers_of l.files) l.entry) l.entry.attrs
