use Rattle.std.proofs.Common.{◌≡◌, ◌-◌, ◌∙◌, ◌++◌, ◌∷◌, List, ℕ, ap, length, replicate, arith, length-append, refl}
use Rattle.std.specs.List.{flat_map}
use Rattle.byteorder.specs.Endian.{little_bytes}
use Rattle.dwarf_types.specs.Aranges.{arange_bytes, set_len}
use Rattle.appending.proofs.Places.{append_more, length_filled}
use Rattle.layout.proofs.Ranges.{length-aranges}
use Rattle.layout.proofs.address_sets.append_set.Goals as goal

pub returns : goal.returns
returns c =
    let out = c.args.out.now in
    let spans = c.args.spans.now in
    let behind : List ℕ = little_bytes 2 2 ++ (little_bytes 4 c.args.start ++ (8 ∷ 0 ∷ (replicate 4 0 ++ (flat_map arange_bytes spans ++ replicate 16 0)))) in
    let len : length behind ≡ set_len spans - 4 = omega (arith, length-aranges spans, length-append (flat_map arange_bytes spans) (replicate 16 0)) in
    length_filled out (replicate 4 0) behind c.append_behind_length.new.out _ _ c.in_ok-unit_length.ensures.place
    (append_more out c.open_length.new.out c.append_behind_length.new.out (replicate 4 0) behind c.in_ok-unit_length.ensures.opened c.in_ok-append_behind_length.ensures)
    refl c.close_length.ensures
    ∙ ap (λ n. out ++ (little_bytes 4 n ++ behind)) len
