-- The frames whose first instruction moved are those with an address.
use Rattle.std.proofs.Common.{◌≡◌, ℕ, List, [], ◌∷◌, Option, Some, None, map, refl, ap, ◌∙◌}
use Rattle.std.specs.List.{cons_option, filter_map}
use Rattle.std.specs.Option.{option_map}
use Rattle.dwarf_types.specs.declared.frames.OutFrame.{OutFrame}
use Rattle.dwarf_types.specs.declared.frames.RawFrame.{RawFrame}
use Rattle.dwarf_types.specs.SeenFrames.{at_address, at_addresses}

kept_one : (f : RawFrame) (frames : List RawFrame) (a : Option ℕ) (addresses : List (Option ℕ)) → at_addresses (f ∷ frames) (a ∷ addresses) ≡ cons_option (option_map (at_address f) a) (at_addresses frames addresses)
kept_one f frames (Some address) addresses = refl
kept_one f frames None addresses = refl

pub kept_are : (start : RawFrame → Option ℕ) (frames : List RawFrame) → at_addresses frames (map start frames) ≡ filter_map (λ f. option_map (at_address f) (start f)) frames
kept_are start [] = refl
kept_are start (f ∷ frames) =
    kept_one f frames (start f) (map start frames) ∙ ap (λ (fs : List OutFrame). cons_option (option_map (at_address f) (start f)) fs) (kept_are start frames)
