-- The declarations of an output unit, node by node (DWARF 4, section 7.5.3).
use Rattle.std.specs.Prelude.{ℕ, Bool, List, [], ◌∷◌, ◌++◌, map, if◌then◌else◌}
use Rattle.std.specs.List.{enumerate_from, list_any}
use Rattle.dwarf_types.specs.declared.abbrev.Declaration.{Declaration}
use Rattle.dwarf_types.specs.declared.graph.Node.{Node}
use Rattle.dwarf_types.specs.declared.graph.OutAttr.{OutAttr}
use Rattle.dwarf_types.specs.Abbreviations.{declaration_of, same_declaration}
use Rattle.dwarf_types.specs.Forms.{form_of}

-- what declares a node of the unit of a number, by its tag, with or without children, and by its attributes
abbrev pub declaring : ℕ → ℕ → Bool → List OutAttr → Declaration
declaring u tag children attrs = record { tag = tag; children = children; attributes = map (λ a. (a.name, form_of u a.value)) attrs }

-- the declarations and one more, last, where it is new
abbrev pub with_declaration : List Declaration → Declaration → List Declaration
with_declaration ds d = if list_any (λ x. same_declaration x d) ds then ds else ds ++ d ∷ []

-- the declarations of all nodes of the unit of a number
abbrev pub declared : ℕ → List Node → List Declaration
declared u nodes = map (λ n. declaration_of u nodes n.0 n.1) (enumerate_from 0 nodes)
