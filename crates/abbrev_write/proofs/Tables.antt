-- A table, declaration by declaration.
use Rattle.std.proofs.Common.{◌≡◌, ℕ, suc, ◌+◌, ◌≤◌, Bool, true, false, List, [], ◌∷◌, ◌++◌, length, drop, fold, drop-cons, map, slice_get, Some, sym, ap, ◌∙◌, arith}
use Rattle.std.specs.Prelude.{if◌then◌else◌}
use Rattle.std.specs.List.{enumerate_from, list_any}
use Rattle.std.proofs.lemmas.List.{length_push}
use Rattle.std.proofs.lemmas.Option.{get_or_from_slice_get, slice_get_within}
use Rattle.dwarf_types.specs.declared.abbrev.Declaration.{Declaration}
use Rattle.dwarf_types.specs.declared.graph.Node.{Node}
use Rattle.dwarf_types.specs.declared.graph.OutAttr.{OutAttr}
use Rattle.dwarf_types.specs.Abbreviations.{code_in, declaration_of, has_children, same_declaration, table_of}
use Rattle.abbrev_write.specs.Keys.{code_among}
use Rattle.abbrev_write.specs.Table.{declared, declaring, with_declaration}
use Rattle.abbrev_write.proofs.Codes.{with_among}
use Rattle.abbrev_write.proofs.FirstUses.{all_once, code_stays}

-- what declares the nodes from a number on
abbrev pub declared_from : ℕ → List Node → ℕ → List Node → List Declaration
declared_from u nodes k ns = map (λ n. declaration_of u nodes n.0 n.1) (enumerate_from k ns)

more_if : (b : Bool) (ds : List Declaration) (d : Declaration) → length (if b then ds else ds ++ d ∷ []) ≤ length ds + 1
more_if true ds d = omega arith
more_if false ds d = omega (arith, length_push ds d)

-- one more declaration at most
pub one_more : (ds : List Declaration) (d : Declaration) → length (with_declaration ds d) ≤ length ds + 1
one_more ds d = more_if (list_any (λ x. same_declaration x d) ds) ds d

pub table_is : (u : ℕ) (nodes : List Node) → fold with_declaration [] (declared u nodes) ≡ table_of u nodes
table_is u nodes = all_once (declared u nodes)

-- what declares a node, and what declares those behind it
declared_more : (u : ℕ) (nodes : List Node) (i : ℕ) (node : Node) → slice_get nodes i ≡ Some node → declared_from u nodes i (drop i nodes) ≡ declaration_of u nodes i node ∷ declared_from u nodes (i + 1) (drop (i + 1) nodes)
declared_more u nodes i node at =
    let next : suc i ≡ i + 1 = omega arith in
    ap (declared_from u nodes i)
    (drop-cons nodes i node (slice_get_within nodes i node at) ∙ ap (λ (n : Node). n ∷ drop (suc i) nodes) (get_or_from_slice_get nodes i node node at) ∙ ap (λ (n : ℕ). node ∷ drop n nodes) next)

-- one more node: the declarations of those that are left still make the table, and it has the code that was told
pub node_step : (u : ℕ) (nodes : List Node) (i code : ℕ) (node : Node) (children : Bool) (attrs : List OutAttr) (before after table : List Declaration)
    → slice_get nodes i ≡ Some node → children ≡ has_children nodes i → attrs ≡ node.attrs
    → after ≡ with_declaration before (declaring u node.tag children attrs) → code ≡ code_in after (declaring u node.tag children attrs) → fold with_declaration before (declared_from u nodes i (drop i nodes)) ≡ table
    → (fold with_declaration after (declared_from u nodes (i + 1) (drop (i + 1) nodes)) ≡ table) × (code ≡ code_in table (declaration_of u nodes i node))
node_step u nodes i code node children attrs before after table at parent given after_is code_is folded =
    let more = declared_from u nodes (i + 1) (drop (i + 1) nodes) in
    let mine : Declaration = declaration_of u nodes i node in
    let same : declaring u node.tag children attrs ≡ mine = ap (λ (b : Bool). declaring u node.tag b attrs) parent ∙ ap (declaring u node.tag (has_children nodes i)) given in
    let grown : after ≡ with_declaration before mine = after_is ∙ ap (with_declaration before) same in
    let rest : fold with_declaration after more ≡ table =
    ap (λ (ds : List Declaration). fold with_declaration ds more) grown ∙ ap (fold with_declaration before) (sym (declared_more u nodes i node at)) ∙ folded in
    let w = with_among before mine in
    let there : code_among after mine ≡ Some w.0 = ap (λ (ds : List Declaration). code_among ds mine) grown ∙ w.1 in
    (rest, code_is ∙ ap (code_in after) same ∙ sym (code_stays after more mine w.0 there) ∙ ap (λ (ds : List Declaration). code_in ds mine) rest)
