use Rattle.std.proofs.Common.{◌≡◌, ◌++◌, [], ◌∷◌, ◌∙◌, List, ℕ, ap}
use Rattle.dwarf_types.specs.declared.abbrev.Declaration.{Declaration}
use Rattle.abbrev_write.specs.declared.key.Key.{Key}
use Rattle.abbrev_write.specs.Keys.{all_declared, code_among, declared_by}
use Rattle.abbrev_write.proofs.Codes.{put_new}
use Rattle.abbrev_write.proofs.declarations.put_last.Goals as goal

pub returns-clause-added : goal.returns-clause-added
returns-clause-added c =
    let key : Key = c.args.key.now in
    let keys = c.args.declarations.now.keys in
    let kept : Key = record { tag = key.tag; children = key.children; attributes = c.in_ok-attributes.attributes } in
    let made : List (ℕ × ℕ) → Declaration = λ pairs. record { tag = key.tag; children = key.children; attributes = pairs } in
    let same : declared_by kept ≡ declared_by key = ap made (c.in_ok-attributes.ensures.items ∙ c.as_slice.ensures.value) in
    ap all_declared c.in_ok-insert.ensures.keys ∙ put_new kept keys (ap (code_among (all_declared keys)) same ∙ c.requires.new) ∙ ap (λ d. all_declared keys ++ d ∷ []) same
