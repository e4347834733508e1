-- The abbreviations of an output unit (DWARF 4, section 7.5.3): by first use in preorder, with codes from 1.
use Rattle.std.specs.Prelude.{ℕ, ◌+◌, Bool, true, false, not, ◌&&◌, List, [], ◌∷◌, ◌++◌, map, Option, Some, None, nat_eq, if◌then◌else◌}
use Rattle.std.specs.List.{enumerate_from, flat_map, list_any}
use Rattle.std.specs.Cmp.Lexicographic.{pointwise}
use Rattle.ds_base.specs.Leb.{uleb}
use Rattle.ds_base.specs.FirstUse.{once}
use Rattle.dwarf_types.specs.declared.abbrev.Declaration.{Declaration}
use Rattle.dwarf_types.specs.declared.graph.Node.{Node}
use Rattle.dwarf_types.specs.declared.graph.OutUnit.{OutUnit}
use Rattle.dwarf_types.specs.Forms.{form_of}

abbrev pub same_flag : Bool → Bool → Bool
same_flag true b = b
same_flag false b = not b

abbrev pub same_declaration : Declaration → Declaration → Bool
same_declaration a b = nat_eq a.tag b.tag && same_flag a.children b.children && pointwise (λ p q. nat_eq p.0 q.0 && nat_eq p.1 q.1) a.attributes b.attributes

abbrev pub is_number : ℕ → Option ℕ → Bool
is_number k None = false
is_number k (Some p) = nat_eq p k

-- some node has node k as its parent
abbrev pub has_children : List Node → ℕ → Bool
has_children nodes k = list_any (λ n. is_number k n.parent) nodes

-- what declares node k of the unit of a number; the forms of references depend on that number
abbrev pub declaration_of : ℕ → List Node → ℕ → Node → Declaration
declaration_of u nodes k node = record { tag = node.tag; children = has_children nodes k; attributes = map (λ a. (a.name, form_of u a.value)) node.attrs }

-- the unit's declarations, each once, by first use
abbrev pub table_of : ℕ → List Node → List Declaration
table_of u nodes = once same_declaration (map (λ n. declaration_of u nodes n.0 n.1) (enumerate_from 0 nodes))

-- the code of a declaration: its place in the table, counted from 1
abbrev pub code_in : List Declaration → Declaration → ℕ
code_in [] d = 1
code_in (x ∷ xs) d = if same_declaration x d then 1 else code_in xs d + 1

-- the code, the tag, whether children follow, the pairs of name and form, and two zeros
abbrev pub declaration_bytes : ℕ → Declaration → List ℕ
declaration_bytes code d = uleb code ++ (uleb d.tag ++ ((if d.children then 1 else 0) ∷ (flat_map (λ p. uleb p.0 ++ uleb p.1) d.attributes ++ (0 ∷ 0 ∷ []))))

-- declarations with their codes, and the zero byte that ends the table
abbrev pub declarations_bytes : List Declaration → List ℕ
declarations_bytes ds = flat_map (λ d. declaration_bytes d.0 d.1) (enumerate_from 1 ds) ++ (0 ∷ [])

-- the table of the unit of a number
abbrev pub table_bytes : ℕ → OutUnit → List ℕ
table_bytes u unit = declarations_bytes (table_of u unit.nodes)
