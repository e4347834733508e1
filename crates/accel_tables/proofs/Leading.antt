-- A turn of the walk over the entries that may have an entry's name.
use Rattle.std.proofs.Common.{◌≡◌, ℕ, zero, suc, List, [], ◌∷◌, ◌++◌, reverse, Option, Some, None, refl, sym, ap, ◌∙◌}
use Rattle.std.proofs.lemmas.List.{reverse-append}
use Rattle.dwarf_types.specs.declared.graph.Graph.{Graph}
use Rattle.dwarf_types.specs.declared.graph.Node.{Node}
use Rattle.dwarf_types.specs.declared.graph.Target.{Target}
use Rattle.accel_tables.specs.EnteredNames.{called_among, leads, node_at, text_at}

-- the last of those that wait comes next
last_first : (waiting left : List Target) (t : Target) → waiting ≡ left ++ t ∷ [] → reverse waiting ≡ t ∷ reverse left
last_first waiting left t is = ap reverse is ∙ reverse-append left (t ∷ [])

pub none_waits : (n : ℕ) (graph : Graph) (at : ℕ) (waiting : List Target) (whole : Option (List ℕ)) → waiting ≡ [] → called_among n graph at (reverse waiting) ≡ whole → None ≡ whole
unfolding called_among
none_waits zero graph at waiting whole none so_far = so_far
none_waits (suc n) graph at waiting whole none so_far = ap (λ (ts : List Target). called_among (suc n) graph at (reverse ts)) (sym none) ∙ so_far

pub none_left : (n : ℕ) (graph : Graph) (at : ℕ) (waiting : List Target) (whole : Option (List ℕ)) → n ≡ 0 → called_among n graph at (reverse waiting) ≡ whole → None ≡ whole
unfolding called_among
none_left n graph at waiting whole none so_far = ap (λ (m : ℕ). called_among m graph at (reverse waiting)) (sym none) ∙ so_far

pub has_text : (n m : ℕ) (graph : Graph) (at : ℕ) (waiting left : List Target) (t : Target) (node : Node) (text : List ℕ) (whole : Option (List ℕ)) → n ≡ suc m → waiting ≡ left ++ t ∷ [] → node_at graph t ≡ Some node → text_at at node ≡ Some text
    → called_among n graph at (reverse waiting) ≡ whole → Some text ≡ whole
unfolding called_among
has_text n m graph at waiting left t node text whole count is there read so_far =
    let turn : called_among (suc m) graph at (t ∷ reverse left) ≡ Some text = rw (there, read) refl in
    sym turn ∙ ap (called_among (suc m) graph at) (sym (last_first waiting left t is)) ∙ ap (λ (k : ℕ). called_among k graph at (reverse waiting)) (sym count) ∙ so_far

pub has_none : (n m : ℕ) (graph : Graph) (at : ℕ) (waiting left next : List Target) (t : Target) (node : Node) (whole : Option (List ℕ)) → n ≡ suc m → waiting ≡ left ++ t ∷ [] → node_at graph t ≡ Some node → text_at at node ≡ None
    → reverse next ≡ leads node ++ reverse left → called_among n graph at (reverse waiting) ≡ whole → called_among m graph at (reverse next) ≡ whole
unfolding called_among
has_none n m graph at waiting left next t node whole count is there read put so_far =
    let turn : called_among (suc m) graph at (t ∷ reverse left) ≡ called_among m graph at (leads node ++ reverse left) = rw (there, read) refl in
    ap (called_among m graph at) put ∙ sym turn ∙ ap (called_among (suc m) graph at) (sym (last_first waiting left t is)) ∙ ap (λ (k : ℕ). called_among k graph at (reverse waiting)) (sym count) ∙ so_far

pub no_node : (n m : ℕ) (graph : Graph) (at : ℕ) (waiting left : List Target) (t : Target) (whole : Option (List ℕ)) → n ≡ suc m → waiting ≡ left ++ t ∷ [] → node_at graph t ≡ None
    → called_among n graph at (reverse waiting) ≡ whole → called_among m graph at (reverse left) ≡ whole
unfolding called_among
no_node n m graph at waiting left t whole count is there so_far =
    let turn : called_among (suc m) graph at (t ∷ reverse left) ≡ called_among m graph at (reverse left) = rw there refl in
    sym turn ∙ ap (called_among (suc m) graph at) (sym (last_first waiting left t is)) ∙ ap (λ (k : ℕ). called_among k graph at (reverse waiting)) (sym count) ∙ so_far
