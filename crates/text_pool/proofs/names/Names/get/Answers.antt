use Rattle.std.proofs.Common.{◌≡◌, ◌-◌, ◌≤◌, ◌∙◌, Bor, List, ℕ, Some, Option, option_map, length, slice_get, take, drop, sym, ap, arith}
use Rattle.text_pool.specs.Named.{start_of}
use Rattle.text_pool.proofs.Ends.{start_before, text_at, text_behind}
use Rattle.text_pool.proofs.names.Names.get.Goals as goal

pub returns-in_err-end : goal.returns-in_err-end
returns-in_err-end c =
    let none = ap (λ (es : List ℕ). slice_get es c.args.number) (sym c.as_slice.ensures.value) ∙ sym c.in_err-end.ensures in
    ap (λ (o : Option (Bor (List ℕ))). option_map (λ (text : Bor (List ℕ)). text.now) o) c.from_residual.ensures
    ∙ sym (text_behind 0 c.self.inside.ends.items c.self.inside.bytes.items c.args.number none) ∙ ap (λ (texts : List (List ℕ)). slice_get texts c.args.number) c.self.view_is

found_in : (ends : List ℕ) (number end : ℕ) (seen : List ℕ) → seen ≡ ends → Some end ≡ slice_get seen number → slice_get ends number ≡ Some end
found_in ends number end seen same is = ap (λ (es : List ℕ). slice_get es number) (sym same) ∙ sym is

found : (c : goal.After-as_slice-3) → slice_get c.self.inside.ends.items c.args.number ≡ Some c.in_ok-end.end
found c = ap (λ (es : List ℕ). slice_get es c.args.number) (sym c.as_slice.ensures.value) ∙ sym c.in_ok-end.ensures

start : (c : goal.After-as_slice-3) → c.start_of-start.result ≡ start_of 0 c.self.inside.ends.items c.args.number
start c = c.start_of-start.ensures ∙ ap (λ (es : List ℕ). start_of 0 es c.args.number) c.as_slice-2.ensures.value

bounds : (c : goal.After-as_slice-3) → (start_of 0 c.self.inside.ends.items c.args.number ≤ c.in_ok-end.end) × (c.in_ok-end.end ≤ length c.self.inside.bytes.items)
bounds c = start_before 0 c.self.inside.ends.items (length c.self.inside.bytes.items) c.args.number c.in_ok-end.end c.self.invariant (found c)

pub overflow_sub-end : goal.overflow_sub-end
overflow_sub-end c = omega (arith, start c, (bounds c).0)

pub cut-requires : goal.cut-requires
cut-requires c = omega (arith, start c, (bounds c).0, (bounds c).1, ap length c.as_slice-3.ensures.value)

pub returns : goal.returns
returns c =
    let start_is = c.start_of-start.ensures ∙ ap (λ (es : List ℕ). start_of 0 es c.args.number) c.as_slice-2.ensures.value in
    let bytes = c.self.inside.bytes.items in
    let number = c.args.number in
    let end = c.in_ok-end.end in
    let cut_is = c.cut.ensures.is ∙ ap (λ (n : ℕ). take (end - n) (drop n c.as_slice-3.result.now)) start_is
    ∙ ap (λ (bs : List ℕ). take (end - start_of 0 c.self.inside.ends.items number) (drop (start_of 0 c.self.inside.ends.items number) bs)) c.as_slice-3.ensures.value in
    ap (λ (text : List ℕ). Some text) cut_is ∙ sym (text_at 0 c.self.inside.ends.items bytes number end (found_in c.self.inside.ends.items number end c.as_slice.result.now c.as_slice.ensures.value c.in_ok-end.ensures))
    ∙ ap (λ (texts : List (List ℕ)). slice_get texts number) c.self.view_is
