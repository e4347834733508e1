-- Where references lead beside the nodes to which they lead.
use Rattle.std.proofs.Common.{◌≡◌, ℕ, ◌++◌, List, [], ◌∷◌, length, map, drop, take, ◌-◌, Option, Some, None, refl, sym, ap, ◌∙◌, arith}
use Rattle.std.proofs.Math.Seq.{drop-append_seam}
use Rattle.std.proofs.lemmas.List.{length-drop, length-map, map-append, take_all}
use Rattle.std.proofs.lemmas.Simd.{map-map}
use Rattle.dwarf_types.specs.declared.entry.Entry.{Entry}
use Rattle.dwarf_types.specs.declared.graph.Target.{Target}
use Rattle.dwarf_types.specs.LinkedUnits.{Object, node_number}
use Rattle.link_graph.specs.Passes.{images_in_unit, node_in, plain_in_unit, target_in}

-- where a reference leads tells the node
pub node_back : (number : ℕ) (node : Option ℕ) → node_in (target_in number node) ≡ node
node_back number None = refl
node_back number (Some n) = refl

nodes_back : (number : ℕ) (nodes : List (Option ℕ)) → map node_in (map (target_in number) nodes) ≡ nodes
nodes_back number [] = refl
nodes_back number (n ∷ nodes) = ap (λ (x : Option ℕ). x ∷ map node_in (map (target_in number) nodes)) (node_back number n) ∙ ap (λ (xs : List (Option ℕ)). n ∷ xs) (nodes_back number nodes)

behind : (images : List (Option Target)) (plain more : List (Option ℕ)) → plain ≡ map node_in images ++ more → drop (length images) plain ≡ more
behind images plain more is = ap (drop (length images)) is ∙ ap (λ (n : ℕ). drop n (map node_in images ++ more)) (sym (length-map images node_in)) ∙ drop-append_seam (map node_in images) more

-- the images of a unit's entries put behind those before
pub images_added : (number : ℕ) (o : Object) (u : ℕ) (es : List (ℕ × Entry)) (images later : List (Option Target)) (plain : List (Option ℕ)) → plain ≡ map node_in images ++ plain_in_unit o u es
    → later ≡ images ++ map (target_in number) (drop (length images) plain) → later ≡ images ++ images_in_unit number o u es
images_added number o u es images later plain is made =
    made ∙ ap (λ (xs : List (Option ℕ)). images ++ map (target_in number) xs) (behind images plain (plain_in_unit o u es) is)
    ∙ ap (λ (xs : List (Option Target)). images ++ xs) (map-map (target_in number) (λ (e : ℕ × Entry). node_number o u e.0) es)

pub plain_added : (number : ℕ) (more : List (Option ℕ)) (images later : List (Option Target)) (plain : List (Option ℕ)) → plain ≡ map node_in images ++ more → later ≡ images ++ map (target_in number) (drop (length images) plain)
    → plain ≡ map node_in later
plain_added number more images later plain is made =
    is ∙ sym (ap (map node_in) made ∙ ap (λ (xs : List (Option ℕ)). map node_in (images ++ map (target_in number) xs)) (behind images plain more is)
    ∙ map-append node_in images (map (target_in number) more) ∙ ap (λ (xs : List (Option ℕ)). map node_in images ++ xs) (nodes_back number more))

-- as they are read
pub images_read : (number number' begun : ℕ) (images later : List (Option Target)) (lent plain : List (Option ℕ)) → number ≡ number' → begun ≡ length images → lent ≡ plain
    → later ≡ images ++ map (target_in number) (take (length lent - begun) (drop begun lent)) → later ≡ images ++ map (target_in number') (drop (length images) plain)
images_read number number' begun images later lent plain same from are made =
    let whole : take (length lent - begun) (drop begun lent) ≡ drop begun lent = take_all (length lent - begun) (drop begun lent) (omega (arith, length-drop begun lent)) in
    rw (sym same, sym from, sym are) (made ∙ ap (λ (xs : List (Option ℕ)). images ++ map (target_in number) xs) whole)
