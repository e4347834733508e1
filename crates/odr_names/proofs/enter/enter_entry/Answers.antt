use Rattle.std.proofs.Common.{◌≡◌, ◌∙◌, ◌++◌, ◌∷◌, [], ℕ, List, Bool, Option, Some, None, refl, length, get_or, ap, arith, sym, subst}
use Rattle.std.specs.Option.{option_and_then}
use Rattle.odr_names.specs.declared.path_book.Row.{Row}
use Rattle.odr_names.specs.Entering.{IsEntered, new_row}
use Rattle.type_names.specs.Heads.{Object, entries_of, is_pooled}
use Rattle.type_names.specs.Objects.{object_of}
use Rattle.type_names.specs.Tree.{parent_of}
use Rattle.odr_names.proofs.Siblings.{parent_at}
use Rattle.odr_names.proofs.enter.enter_entry.Goals as goal

pub returns-then-not-get : goal.returns-then-not-get
returns-then-not-get c = λ e at. (
    let o : Object = object_of c.args.seen.now c.args.live.now in
    let k = c.args.k in
    let told : c.get.result ≡ is_pooled o k = c.get.ensures ∙ c.requires.names.pooled.each k c.requires.place in
    let rows = c.args.rows.now.items in
    let parent : Option ℕ = option_and_then (λ (p : ℕ). get_or c.args.numbers.now p None) (parent_of (entries_of o) k) in
    subst (λ (b : Bool). IsEntered b (new_row c.args.object o k e rows parent) rows rows None) (sym (sym told ∙ c.if-not-get.true)) (refl, refl))

pub returns : goal.returns
returns c = λ e at. (
    let o : Object = object_of c.args.seen.now c.args.live.now in
    let k = c.args.k in
    let told : c.get.result ≡ is_pooled o k = c.get.ensures ∙ c.requires.names.pooled.each k c.requires.place in
    let rows = c.args.rows.now.items in
    let parent : Option ℕ = option_and_then (λ (p : ℕ). get_or c.args.numbers.now p None) (parent_of (entries_of o) k) in
    let its : c.number_of-parent.result ≡ parent = c.number_of-parent.ensures ∙ ap (option_and_then (λ (p : ℕ). get_or c.args.numbers.now p None)) (c.parent.ensures ∙ sym (parent_at o k c.entry.result c.entry.ensures.stands)) in
    let row : c.row_of-row.result ≡ new_row c.args.object o k e rows parent =
    c.row_of-row.ensures e at ∙ ap (λ (rows : List Row). new_row c.args.object o k e rows c.number_of-parent.result) c.deref.ensures.value
    ∙ ap (λ (parent : Option ℕ). new_row c.args.object o k e rows parent) its in
    let pushed = c.in_ok-push.ensures.items ∙ ap (λ (row : Row). rows ++ row ∷ []) row in
    let small : c.len-number.result ≡ length rows = omega (arith, c.len-number.ensures) in
    subst (λ (b : Bool). IsEntered b (new_row c.args.object o k e rows parent) rows c.push.new.self.items (Some c.len-number.result)) (sym (sym told ∙ c.if-not-get.false)) (ap (λ (x : ℕ). Some x) small, pushed))

pub number_of-parent-requires : goal.number_of-parent-requires
number_of-parent-requires c = λ p is. (
    let lower = c.requires.parents c.args.k p c.entry.result c.entry.ensures.stands (sym c.parent.ensures ∙ is) in
    omega (arith, lower, c.requires.known))
