-- How long the ranges of a set are.
use Rattle.std.proofs.Common.{◌≡◌, ◌*◌, List, [], ◌∷◌, length, refl, arith}
use Rattle.std.specs.List.{flat_map}
use Rattle.dwarf_types.specs.declared.address.Span.{Span}
use Rattle.dwarf_types.specs.Aranges.{arange_bytes}

pub length-aranges : (spans : List Span) → length (flat_map arange_bytes spans) ≡ 16 * length spans
length-aranges [] = refl
length-aranges (s ∷ spans) = let h = length-aranges spans in omega (arith, h)
