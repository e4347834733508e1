-- One entry more of which it is told whether it is a head, whether one stands above it, and what its piece spells.
use Rattle.std.proofs.Common.{◌≡◌, ℕ, ◌+◌, ◌<◌, ◌&&◌, ◌||◌, Bool, true, false, List, [], ◌∷◌, ◌++◌, length, replicate, Option, Some, None, is_some, slice_get, refl, sym, ap, ◌∙◌, subst}
use Rattle.std.specs.Prelude.{if◌then◌else◌}
use Rattle.std.specs.Option.{option_and_then, option_map_or}
use Rattle.std.proofs.lemmas.Option.{slice_get_within}
use Rattle.dwarf_types.specs.declared.entry.Entry.{Entry}
use Rattle.dwarf_types.specs.Tree.{ParentsStandBefore}
use Rattle.type_names.specs.Entries.{Text}
use Rattle.type_names.specs.Heads.{Object, derived_name, entries_of, is_head, is_in_head, is_named_head}
use Rattle.type_names.specs.Paths.{is_overloaded, piece_text, spelled_of}
use Rattle.type_names.specs.Pooled.{IsToldTo, text_if}
use Rattle.type_names.specs.Rows.{IsRow, IsRowTo, marked_if}
use Rattle.type_names.specs.Spell.{spelled_parameters}
use Rattle.type_names.specs.TextTable.{AreTexts}
use Rattle.type_names.specs.Tree.{is_marked}
use Rattle.type_names.proofs.Lineages.{inside_more}
use Rattle.type_names.proofs.MarkRows.{row_more, row_none}
use Rattle.type_names.proofs.TextRows.{texts_more, texts_none}

neither : (a b : Bool) → (a || b) ≡ false → (a ≡ false) × (b ≡ false)
neither true b is = absurd (cc)
neither false b is = (refl, is)

there_some : (there : Bool) (out : Text) → is_some (text_if there out) ≡ there
there_some true out = refl
there_some false out = refl

-- where nothing is derived outside of heads, the parameters alone ask where an entry stands
chosen : (inside overloaded : Bool) (parameters derived : Option Text) → (inside ≡ false → derived ≡ None)
    → (if inside && overloaded then parameters else derived) ≡ (if inside then (if overloaded then parameters else derived) else None)
chosen true true parameters derived outside = refl
chosen true false parameters derived outside = refl
chosen false overloaded parameters derived outside = outside refl

pub told_none : (o : Object) (n m : ℕ) (heads in_heads : List Bool) (texts : List (Option Text)) → n ≡ length (entries_of o) → m ≡ length (entries_of o) → heads ≡ replicate n false → in_heads ≡ replicate m false → texts ≡ []
    → IsToldTo o heads in_heads texts 0
told_none o n m heads in_heads texts one two none nowhere missing = record {
  its_heads = subst (λ (row : List Bool). IsRowTo (is_head o) (length (entries_of o)) row 0) (sym (none ∙ ap (λ (k : ℕ). replicate k false) one)) (row_none (is_head o) (length (entries_of o)));
  inside = subst (λ (row : List Bool). IsRowTo (is_in_head o) (length (entries_of o)) row 0) (sym (nowhere ∙ ap (λ (k : ℕ). replicate k false) two)) (row_none (is_in_head o) (length (entries_of o)));
  spelled = subst (λ (ts : List (Option Text)). AreTexts ts (piece_text o) 0) (sym missing) (texts_none (piece_text o));
}

pub told_more : (o : Object) (named heads in_heads : List Bool) (texts : List (Option Text)) (i : ℕ) (e : Entry) (derived head inside : Bool) (out : Text) (text : Option Text)
    → ParentsStandBefore (entries_of o) → slice_get (entries_of o) i ≡ Some e → IsRow (is_named_head o) (length (entries_of o)) named
    → text_if derived out ≡ derived_name o i → head ≡ (is_marked named i || derived) → inside ≡ (head || option_map_or (is_marked in_heads) e.parent false)
    → text ≡ (if inside && is_overloaded e then spelled_parameters (entries_of o) i else text_if derived out)
    → IsToldTo o heads in_heads texts i → IsToldTo o (marked_if heads i head) (marked_if in_heads i inside) (texts ++ text ∷ []) (i + 1)
told_more o named heads in_heads texts i e derived head inside out text before at named_row derived_is head_is inside_is text_is so_far =
    let within : i < length (entries_of o) = slice_get_within (entries_of o) i e at in
    let some : derived ≡ is_some (derived_name o i) = sym (there_some derived out) ∙ ap is_some derived_is in
    let is_its_head : head ≡ is_head o i = head_is ∙ (λ j. named_row.each i within j || some j) in
    let is_inside : inside ≡ is_in_head o i =
    inside_is ∙ inside_more (entries_of o) (is_head o) in_heads i e head e.parent before at (λ p lt. so_far.inside.each p lt) is_its_head refl in
    let outside : inside ≡ false → derived_name o i ≡ None = λ no. (
    let not_head = (neither head _ (sym inside_is ∙ no)).0 in
    let not_derived = (neither (is_marked named i) derived (sym head_is ∙ not_head)).1 in
    sym derived_is ∙ ap (λ (b : Bool). text_if b out) not_derived) in
    let is_text : text ≡ piece_text o i =
    text_is
    ∙ ap (λ (t : Option Text). if inside && is_overloaded e then spelled_parameters (entries_of o) i else t) derived_is
    ∙ chosen inside (is_overloaded e) (spelled_parameters (entries_of o) i) (derived_name o i) outside
    ∙ (λ j. if is_inside j then option_and_then (spelled_of o i) (sym at j) else None) in
    record {
      its_heads = row_more (is_head o) (length (entries_of o)) heads i head so_far.its_heads within is_its_head;
      inside = row_more (is_in_head o) (length (entries_of o)) in_heads i inside so_far.inside within is_inside;
      spelled = texts_more texts (piece_text o) i text is_text so_far.spelled;
    }
