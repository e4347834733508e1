use Rattle.std.proofs.Common.{◌≡◌, ◌++◌, [], ◌∷◌, ◌+◌, ◌∙◌, Bool, List, ℕ, suc, map, Some, None, sym, ap, arith}
use Rattle.std.specs.Option.{option_map}
use Rattle.std.proofs.lemmas.List.{length-map}
use Rattle.dwarf_types.specs.declared.abbrev.Declaration.{Declaration}
use Rattle.dwarf_types.specs.Abbreviations.{code_in}
use Rattle.unit_source.specs.declared.given.OutAttrRef.{OutAttrRef}
use Rattle.unit_source.specs.Given.{attr_given}
use Rattle.abbrev_write.specs.Keys.{all_declared, code_among}
use Rattle.abbrev_write.specs.Table.{declaring, with_declaration}
use Rattle.abbrev_write.proofs.Codes.{among_is, looked_up, new_code, with_known, with_new}
use Rattle.abbrev_write.proofs.declarations.Declared.code_of.Goals as goal

abbrev mine : ℕ → ℕ → Bool → List OutAttrRef → Declaration
mine number tag children attrs = declaring number tag children (map attr_given attrs)

-- the declaration was known
found : (c : goal.Else-prove) → code_among (all_declared c.self.inside.declarations.keys) (mine c.args.number c.args.tag c.args.children c.args.attrs.now) ≡ Some (c.in-Some.i + 1)
found c =
    let keys = c.self.inside.declarations.keys in
    let next : suc c.in-Some.i ≡ c.in-Some.i + 1 = omega arith in
    ap (code_among (all_declared keys)) (sym c.in_ok-make_key.ensures) ∙ sym (looked_up c.make_key.new.key keys) ∙ ap (option_map suc) (sym c.in-Some.ensures.index) ∙ ap (λ n. Some n) next

pub returns-in-Some-clause-grown : goal.returns-in-Some-clause-grown
returns-in-Some-clause-grown c =
    let declared : Declaration = mine c.args.number c.args.tag c.args.children c.args.attrs.now in
    with_known (all_declared c.self.inside.declarations.keys) declared (c.in-Some.i + 1) (found c) ∙ ap (λ ds. with_declaration ds declared) c.self.view_is

pub returns-in-Some-clause-code : goal.returns-in-Some-clause-code
returns-in-Some-clause-code c = sym (among_is (all_declared c.self.inside.declarations.keys) (mine c.args.number c.args.tag c.args.children c.args.attrs.now) (c.in-Some.i + 1) (found c))

pub put_last-requires-clause-new : goal.put_last-requires-clause-new
put_last-requires-clause-new c = sym (looked_up c.make_key.new.key c.self.inside.declarations.keys) ∙ ap (option_map suc) (sym c.in_default.ensures.index)

-- the declaration is new, and goes last
new : (c : goal.In_ok-code) → code_among (all_declared c.self.inside.declarations.keys) (mine c.args.number c.args.tag c.args.children c.args.attrs.now) ≡ None
new c =
    let keys = c.self.inside.declarations.keys in
    ap (code_among (all_declared keys)) (sym c.in_ok-make_key.ensures) ∙ sym (looked_up c.make_key.new.key keys) ∙ ap (option_map suc) (sym c.in_default.ensures.index)

added : (c : goal.In_ok-code) → all_declared c.put_last.new.declarations.keys ≡ all_declared c.self.inside.declarations.keys ++ mine c.args.number c.args.tag c.args.children c.args.attrs.now ∷ []
added c = c.in_ok-code.ensures.added ∙ ap (λ d. all_declared c.self.inside.declarations.keys ++ d ∷ []) c.in_ok-make_key.ensures

pub returns-clause-grown : goal.returns-clause-grown
returns-clause-grown c =
    let declared : Declaration = mine c.args.number c.args.tag c.args.children c.args.attrs.now in
    added c ∙ with_new (all_declared c.self.inside.declarations.keys) declared (new c) ∙ ap (λ ds. with_declaration ds declared) c.self.view_is

pub returns-clause-code : goal.returns-clause-code
returns-clause-code c =
    let declared : Declaration = mine c.args.number c.args.tag c.args.children c.args.attrs.now in
    let ds = all_declared c.self.inside.declarations.keys in
    c.in_ok-code.ensures.code ∙ ap (λ n. n + 1) (sym (length-map _ _)) ∙ sym (ap (λ more. code_in more declared) (added c) ∙ new_code ds declared (new c))
