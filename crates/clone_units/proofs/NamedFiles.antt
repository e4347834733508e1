-- The files that the attributes of an entry name, one attribute at a time.
use Rattle.std.proofs.Common.{◌≡◌, ◌+◌, ◌<◌, ◌∷◌, ℕ, suc, List, Option, Some, None, drop, length, slice_get, inl, inr, refl, sym, ap, ◌∙◌, arith}
use Rattle.std.specs.List.{cons_option, filter_map}
use Rattle.std.proofs.lemmas.Option.{slice_get_cases}
use Rattle.std.proofs.Math.Seq.{drop-cons}
use Rattle.dwarf_types.specs.declared.entry.Attr.{Attr}
use Rattle.indexmap.specs.IndexSet.{insert_all}
use Rattle.clone_units.specs.Sourced.{with_named}
use Rattle.link_graph.specs.PoolFiles.{SourceFile, same_file}

named_first : (files rest : List SourceFile) (named : Option SourceFile) → insert_all same_file (with_named files named) rest ≡ insert_all same_file files (cons_option named rest)
named_first files rest None = refl
named_first files rest (Some file) = refl

module _ (f : Attr → Option SourceFile) (xs : List Attr) (j : ℕ) (named : Option SourceFile) (files : List SourceFile) where
  -- the attribute at a place, and those behind it
  pub named_next : j < length xs → ((a : Attr) → slice_get xs j ≡ Some a → named ≡ f a) → insert_all same_file (with_named files named) (filter_map f (drop (j + 1) xs)) ≡ insert_all same_file files (filter_map f (drop j xs))
  named_next lt is = elim (slice_get_cases xs j).1 [
    | inl w ↦ (
        let one : suc j ≡ j + 1 = omega arith in
        let cut : drop j xs ≡ w.0 ∷ drop (j + 1) xs = drop-cons xs j w.0 lt ∙ (ap (λ (a : Attr). a ∷ drop (suc j) xs) w.3 ∙ ap (λ (n : ℕ). w.0 ∷ drop n xs) one) in
        let own : insert_all same_file files (filter_map f (w.0 ∷ drop (j + 1) xs)) ≡ insert_all same_file files (cons_option named (filter_map f (drop (j + 1) xs))) = ap (λ (o : Option SourceFile). insert_all same_file files (cons_option o (filter_map f (drop (j + 1) xs)))) (sym (is w.0 w.2)) in
        named_first files (filter_map f (drop (j + 1) xs)) named ∙ sym own ∙ ap (λ (l : List Attr). insert_all same_file files (filter_map f l)) (sym cut))
    | inr w ↦ absurd (omega (arith, w.0, lt))
  ]
