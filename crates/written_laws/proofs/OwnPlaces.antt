-- Where the entries of a unit are made, and that each stands where it is said to.
use Rattle.std.proofs.Common.{◌≡◌, ◌<◌, ◌+◌, ◌==◌, ◌||◌, ℕ, zero, suc, Bool, true, List, [], ◌∷◌, length, map, take, Option, refl, ap, length-append, arith}
use Rattle.std.specs.List.{enumerate_from, list_any, sum_by}
use Rattle.std.proofs.lemmas.Bool.{eq-eqb}
use Rattle.std.proofs.lemmas.List.Sums.{sum_by-cons}
use Rattle.ds_base.specs.Leb.{uleb}
use Rattle.ds_base.proofs.LebLengths.{length-uleb}
use Rattle.dwarf_types.specs.declared.graph.Node.{Node}
use Rattle.dwarf_types.specs.Entries.{OutEntry, behind_node, entry_len, entry_of, lists_ended}
use Rattle.dwarf_types.specs.Places.{ListPlaces, Places}
use Rattle.dwarf_types.specs.Values.{values_bytes}
use Rattle.dwarf_types.proofs.Lengths.{length-values}
use Rattle.unit_tree.specs.Spelling.{Node as TreeNode}
use Rattle.written_laws.specs.ReadEntries.{code_of, head_bytes, made, made_from}
use Rattle.written_laws.proofs.Cuts.{any_rest}

module _ (places : Places) (nodes : List Node) where
  abbrev entries : ℕ → List Node → List OutEntry
  entries k ns = map (λ n. entry_of places.unit nodes n.0 n.1) (enumerate_from k ns)

  pub head_len : (next : ListPlaces) (k : ℕ) (node : Node) → length (head_bytes places nodes next k node) + lists_ended nodes k ≡ entry_len (entry_of places.unit nodes k node)
  head_len next k node =
      omega (
        arith,
        length-append (uleb (code_of places.unit nodes k node)) (values_bytes places next node.attrs),
        length-uleb (code_of places.unit nodes k node),
        length-values places next node.attrs,
      )

  pub length-made : (ns : List Node) (next : ListPlaces) (place k : ℕ) → length (made_from places nodes next place k ns) ≡ length ns
  length-made [] next place k = refl
  length-made (n ∷ ns) next place k = ap suc (length-made ns (behind_node places.version next n) (place + length (head_bytes places nodes next k n) + lists_ended nodes k) (k + 1))

  -- an entry begins where the entries before it end
  pub begins : (ns : List Node) (next : ListPlaces) (place k i at : ℕ) → i < length ns → at ≡ place + sum_by entry_len (take i (entries k ns)) → list_any (λ e. e.1.place == at) (made_from places nodes next place k ns) ≡ true
  begins [] next place k i at lt is = absurd (omega (arith, lt))
  begins (n ∷ ns) next place k zero at lt is =
      let same : place ≡ at = omega (arith, is) in
      ap (λ (b : Bool). b || list_any (λ (e : Option ℕ × TreeNode). e.1.place == at) (made_from places nodes (behind_node places.version next n) (place + length (head_bytes places nodes next k n) + lists_ended nodes k) (k + 1) ns)) (eq-eqb place at same)
  begins (n ∷ ns) next place k (suc i) at lt is =
      let sum = sum_by-cons entry_len (entry_of places.unit nodes k n) (take i (entries (k + 1) ns)) in
      any_rest (λ (e : Option ℕ × TreeNode). e.1.place == at) (n.parent, made places nodes next place k n) (made_from places nodes (behind_node places.version next n) (place + length (head_bytes places nodes next k n) + lists_ended nodes k) (k + 1) ns)
      (begins ns (behind_node places.version next n) (place + length (head_bytes places nodes next k n) + lists_ended nodes k) (k + 1) i at (omega (arith, lt)) (omega (arith, is, sum, head_len next k n)))
