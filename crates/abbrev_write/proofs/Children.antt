-- Which nodes have children, node by node.
use Rattle.std.proofs.Common.{◌≡◌, ℕ, suc, ◌+◌, ◌<◌, Bool, true, false, ◌||◌, List, [], ◌∷◌, length, drop, get_or, drop-cons, slice_get, Option, None, Some, refl, sym, ap, ◌∙◌, arith}
use Rattle.std.proofs.lemmas.Option.{slice_get-get_or}
use Rattle.dwarf_types.specs.declared.graph.Node.{Node}
use Rattle.dwarf_types.specs.Abbreviations.{has_children, is_number}

blank : Node
blank = record { parent = None; tag = 0; attrs = [] }

or_assoc : (a b c : Bool) → ((a || b) || c) ≡ (a || (b || c))
or_assoc true b c = refl
or_assoc false b c = refl

-- what is marked and what the nodes from one on mark, by what is marked behind that node
pub marks_on : (nodes : List Node) (i k : ℕ) (parent : Option ℕ) (before after all : Bool) → i < length nodes → ((n : Node) → slice_get nodes i ≡ Some n → parent ≡ n.parent)
    → after ≡ (before || is_number k parent) → (before || has_children (drop i nodes) k) ≡ all → (after || has_children (drop (i + 1) nodes) k) ≡ all
marks_on nodes i k parent before after all lt is marked so_far =
    let next : suc i ≡ i + 1 = omega arith in
    let node : Node = get_or nodes i blank in
    let left : drop i nodes ≡ node ∷ drop (i + 1) nodes = drop-cons nodes i blank lt ∙ ap (λ (n : ℕ). node ∷ drop n nodes) next in
    ap (λ (b : Bool). b || has_children (drop (i + 1) nodes) k) marked ∙ or_assoc before (is_number k parent) (has_children (drop (i + 1) nodes) k)
    ∙ ap (λ (p : Option ℕ). before || (is_number k p || has_children (drop (i + 1) nodes) k)) (is node (slice_get-get_or nodes i blank lt))
    ∙ ap (λ (ns : List Node). before || has_children ns k) (sym left) ∙ so_far
