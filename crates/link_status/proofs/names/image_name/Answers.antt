use Rattle.std.proofs.Common.{◌≡◌, ℕ, List, ◌++◌, ap, append_assoc, codes, ◌∙◌}
use Rattle.std.specs.String.{string_bytes}
use Rattle.link_status.specs.Names.{last_part}
use Rattle.link_status.proofs.names.image_name.Goals as goal

pub returns : goal.returns
returns c =
    let grown : string_bytes c.push_str.new.self ≡ string_bytes c.in_ok-name.name ++ c.last_part.result.now = c.in_ok-push_str.ensures.bytes in
    grown ∙ ap (λ (name : List ℕ). name ++ c.last_part.result.now) c.in_ok-name.ensures
    ∙ ap (λ (part : List ℕ). (c.args.out.now ++ codes "/Contents/Resources/DWARF/") ++ part) c.last_part.ensures
    ∙ append_assoc c.args.out.now (codes "/Contents/Resources/DWARF/") (last_part c.args.exe.now)
