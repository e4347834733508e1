-- A graph whose image reaches no limit.
use Rattle.std.proofs.Common.{◌≡◌, ◌-◌, ◌<◌, ◌^◌, Bool, true, false, length, is_some, nat_le, Option, Some, None, if◌then◌else◌, refl}
use Rattle.std.proofs.lemmas.Bool.{lt-leb}
use Rattle.dwarf_types.specs.declared.graph.Graph.{Graph}
use Rattle.layout.specs.Lengths.{long_section}
use Rattle.macho_read.specs.declared.image.Image.{Image}
use Rattle.dsym_write.specs.Bundle.{image_file}
use Rattle.link_status.specs.declared.refusal.LimitKind.TheVariants as limits
use Rattle.link_status.specs.declared.refusal.Refusal.{Refusal}
use Rattle.link_status.specs.declared.refusal.Refusal.TheVariants as refusals
use Rattle.link_core.specs.Linked.{image_limit}

none_of : {P : Type 0} (b : Bool) (s : Option P) (y z : Refusal) → s ≡ None → b ≡ false → (if is_some s then Some y else if b then Some z else None) ≡ None
none_of b (Some p) y z section file = absurd cc
none_of true None y z section file = absurd cc
none_of false None y z section file = refl

pub within_limits : (program : Image) (graph : Graph) → long_section graph ≡ None → length (image_file program graph) < 2 ^ 32 → image_limit program graph ≡ None
within_limits program graph section small =
    none_of (nat_le (2 ^ 32) (length (image_file program graph))) (long_section graph) (refusals.Limit limits.Section (2 ^ 32 - 1)) (refusals.Limit limits.File (2 ^ 32)) section (lt-leb _ _ small)
