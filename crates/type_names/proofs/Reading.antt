-- Children that are written one after the other.
use Rattle.std.proofs.Common.{◌≡◌, ℕ, ◌+◌, ◌-◌, ◌<◌, ◌==◌, ◌||◌, Bool, true, false, cond, List, [], ◌∷◌, length, map, Option, Some, None, Err, slice_get, refl, sym, ap, ◌∙◌, arith, subst}
use Rattle.std.specs.Prelude.{codes, if◌then◌else◌}
use Rattle.std.specs.List.{enumerate_from, filter}
use Rattle.std.specs.Option.{option_and_then, option_map_or}
use Rattle.std.proofs.lemmas.Bool.{both_ways, eq-eqb, eqb-true}
use Rattle.std.proofs.lemmas.Option.{slice_get_within}
use Rattle.ds_base.specs.DwarfNumbers.{DW_TAG_array_type, DW_TAG_formal_parameter, DW_TAG_unspecified_parameters}
use Rattle.dwarf_types.specs.declared.entry.Entry.{Entry}
use Rattle.type_names.specs.declared.spell.SpellError.{SpellError}
use Rattle.type_names.specs.Children.{IsListed, has_tag, holder, is_parameter, listed_from, next_listed}
use Rattle.type_names.specs.Entries.{Text}
use Rattle.type_names.specs.Onto.{Writes, onto}
use Rattle.type_names.specs.Spell.{◌&◌, all_of, parameter_in, parameters_in, subrange_in, subranges_in, type_in}
use Rattle.type_names.proofs.Listed.{IsNext, held_true, holder_is_parent, is_held, listed_at, listed_here, next_is}
use Rattle.type_names.proofs.Texts.{onto_joined, stopped}

abbrev pub rest_of : (Entry → Option Text) → List Entry → ℕ → ℕ → Option Text
rest_of one entries k j = all_of (map (λ (child : ℕ × Entry). one child.1) (listed_from entries k j))

-- what is left to write, from the next child on, makes the whole
pub record IsReading (one : Entry → Option Text) (entries : List Entry) (k : ℕ) (next : Option ℕ) (out : List ℕ) (whole : Option (List ℕ)) : Type 0 where
  pub at : ℕ
  pub is : next ≡ next_listed entries k at
  pub rest : onto out (rest_of one entries k at) ≡ whole

-- ---- all children, and those that are read

empty_first : (text : Option Text) → (Some []) & text ≡ text
empty_first None = refl
empty_first (Some text) = refl

all_read : (one : Entry → Option Text) (p q : Entry → Bool) (es : List Entry) (n : ℕ) → ((e : Entry) → q e ≡ true → p e ≡ true) → ((e : Entry) → p e ≡ true → q e ≡ false → one e ≡ Some [])
    → all_of (map (λ (c : ℕ × Entry). one c.1) (filter (λ (c : ℕ × Entry). q c.1) (enumerate_from n es))) ≡ all_of (map (λ (c : ℕ × Entry). one c.1) (filter (λ (c : ℕ × Entry). p c.1) (enumerate_from n es)))
all_read one p q [] n wide empty = refl
all_read one p q (e ∷ es) n wide empty = go (p e) refl (q e) refl (all_read one p q es (n + 1) wide empty) where
  left : List (ℕ × Entry)
  left = filter (λ (c : ℕ × Entry). q c.1) (enumerate_from (n + 1) es)

  right : List (ℕ × Entry)
  right = filter (λ (c : ℕ × Entry). p c.1) (enumerate_from (n + 1) es)

  text : List (ℕ × Entry) → Option Text
  text cs = all_of (map (λ (c : ℕ × Entry). one c.1) cs)

  go : (a : Bool) → p e ≡ a → (b : Bool) → q e ≡ b → text left ≡ text right → text (cond (q e) ((n, e) ∷ left) left) ≡ text (cond (p e) ((n, e) ∷ right) right)
  go true pe true qe same = rw (pe, qe) (ap (λ (t : Option Text). one e & t) same)
  go true pe false qe same = rw (pe, qe) (same ∙ sym (empty_first (text right)) ∙ ap (λ (t : Option Text). t & text right) (sym (empty e pe qe)))
  go false pe true qe same = absurd (both_ways _ pe (wide e qe))
  go false pe false qe same = rw (pe, qe) same

child_true : (k : ℕ) (e : Entry) → e.parent ≡ Some k → option_map_or (λ p. p == k) e.parent false ≡ true
child_true k e is = rw is (eq-eqb k k refl)

child_of : (k : ℕ) (e : Entry) → option_map_or (λ p. p == k) e.parent false ≡ true → e.parent ≡ Some k
child_of k e is = go e.parent refl is where
  go : (o : Option ℕ) → e.parent ≡ o → option_map_or (λ p. p == k) o false ≡ true → o ≡ Some k
  go None at t = absurd (cc)
  go (Some p) at t = ap (λ (n : ℕ). Some n) (eqb-true p k t)

wider : (entries : List Entry) (k : ℕ) (e : Entry) → is_held entries k e ≡ true → option_map_or (λ p. p == k) e.parent false ≡ true
wider entries k e held = child_true k e (holder_is_parent entries k e (held_true entries k e held))

-- a child that is not read is no parameter, and its parent no array
unread : (entries : List Entry) (k : ℕ) (e : Entry) → e.parent ≡ Some k → is_held entries k e ≡ false → (is_parameter e.tag || has_tag entries DW_TAG_array_type k) ≡ false
unread entries k e child not_read = go (is_parameter e.tag || has_tag entries DW_TAG_array_type k) refl where
  go : (b : Bool) → (is_parameter e.tag || has_tag entries DW_TAG_array_type k) ≡ b → b ≡ false
  go false is = refl
  go true is = (
      let held : holder entries e ≡ Some k = ap (λ (o : Option ℕ). option_and_then (λ (p : ℕ). if is_parameter e.tag || has_tag entries DW_TAG_array_type p then Some p else None) o) child ∙ ap (λ (b : Bool). cond b (Some k) None) is in
      absurd (both_ways _ not_read (ap (λ (o : Option ℕ). option_map_or (λ p. p == k) o false) held ∙ eq-eqb k k refl)))

pub parameters_read : (spelled : ℕ → Option Text) (entries : List Entry) (k : ℕ) → rest_of (parameter_in spelled) entries k 0 ≡ parameters_in spelled entries k
parameters_read spelled entries k = all_read (parameter_in spelled) (λ e. option_map_or (λ p. p == k) e.parent false) (is_held entries k) entries 0 (wider entries k) (λ e child not_read. empty e (unread entries k e (child_of k e child) not_read)) where
  none : (a b c : Bool) (e : Entry) → ((a || b) || c) ≡ false → cond a (type_in spelled e & Some (codes ";")) (cond b (Some (codes "...;")) (Some [])) ≡ Some []
  none true b c e is = absurd (cc)
  none false true c e is = absurd (cc)
  none false false c e is = refl

  empty : (e : Entry) → (is_parameter e.tag || has_tag entries DW_TAG_array_type k) ≡ false → parameter_in spelled e ≡ Some []
  empty e is = none (e.tag == DW_TAG_formal_parameter) (e.tag == DW_TAG_unspecified_parameters) (has_tag entries DW_TAG_array_type k) e is

pub subranges_read : (entries : List Entry) (k : ℕ) → has_tag entries DW_TAG_array_type k ≡ true → rest_of subrange_in entries k 0 ≡ subranges_in entries k
subranges_read entries k array = all_read subrange_in (λ e. option_map_or (λ p. p == k) e.parent false) (is_held entries k) entries 0 (wider entries k) (λ e child not_read. absurd (never (is_parameter e.tag) (has_tag entries DW_TAG_array_type k) array (unread entries k e (child_of k e child) not_read))) where
  never : (a b : Bool) → b ≡ true → (a || b) ≡ false → ⊥
  never true b t f = absurd (cc)
  never false b t f = both_ways b f t

-- ---- one child after the other

next_at : (entries : List Entry) (k j : ℕ) → IsNext entries k j (next_listed entries k j)
next_at entries k j = next_is (length entries) entries k j (omega arith)

pub reading_child : (one : Entry → Option Text) (entries : List Entry) (k j : ℕ) (out : List ℕ) (whole : Option (List ℕ)) → IsReading one entries k (Some j) out whole → IsListed entries k j
reading_child one entries k j out whole so_far = (next_at entries k so_far.at).listed j (sym so_far.is)

split : (one : Entry → Option Text) (entries : List Entry) (k j : ℕ) (e : Entry) (out : List ℕ) (whole : Option (List ℕ)) → slice_get entries j ≡ Some e → IsReading one entries k (Some j) out whole
    → onto out (one e & rest_of one entries k (j + 1)) ≡ whole
split one entries k j e out whole at so_far =
    let next = next_at entries k so_far.at in
    let child = next.listed j (sym so_far.is) in
    let rest : listed_from entries k so_far.at ≡ listed_from entries k j = next.rest ∙ ap (listed_at entries k) (sym so_far.is) in
    let held : is_held entries k e ≡ true = ap (λ (o : Option ℕ). option_map_or (λ p. p == k) o false) (ap (λ (o : Option Entry). option_and_then (holder entries) o) (sym at ∙ child.stands) ∙ child.held) ∙ eq-eqb k k refl in
    let all : listed_from entries k so_far.at ≡ (j, e) ∷ listed_from entries k (j + 1) = rest ∙ listed_here entries k j e at held in
    ap (λ (cs : List (ℕ × Entry)). onto out (all_of (map (λ (child : ℕ × Entry). one child.1) cs))) (sym all) ∙ so_far.rest

pub reading_more : (one : Entry → Option Text) (entries : List Entry) (k j : ℕ) (e : Entry) (out new : List ℕ) (whole : Option (List ℕ)) → slice_get entries j ≡ Some e → onto out (one e) ≡ Some new
    → IsReading one entries k (Some j) out whole → IsReading one entries k (next_listed entries k (j + 1)) new whole
reading_more one entries k j e out new whole at written so_far = record {
  at = j + 1;
  is = refl;
  rest = sym (onto_joined out (one e) (rest_of one entries k (j + 1)) ∙ ap (option_and_then (λ more. onto more (rest_of one entries k (j + 1)))) written) ∙ split one entries k j e out whole at so_far;
}

pub reading_stops : (one : Entry → Option Text) (entries : List Entry) (k j : ℕ) (e : Entry) (out new : List ℕ) (whole : Option (List ℕ)) (error : SpellError) → slice_get entries j ≡ Some e
    → IsReading one entries k (Some j) out whole → Writes {A = Unit {0}} (Err error) new (onto out (one e)) → Writes {A = Unit {0}} (Err error) new whole
reading_stops one entries k j e out new whole error at so_far is =
    subst (Writes {A = Unit {0}} (Err error) new) (split one entries k j e out whole at so_far) (stopped out new new (one e) (rest_of one entries k (j + 1)) error is)

pub reading_ends : (one : Entry → Option Text) (entries : List Entry) (k : ℕ) (out : List ℕ) (whole : Option (List ℕ)) → IsReading one entries k None out whole → onto out (Some []) ≡ whole
reading_ends one entries k out whole so_far =
    let none : listed_from entries k so_far.at ≡ [] = (next_at entries k so_far.at).rest ∙ ap (listed_at entries k) (sym so_far.is) in
    ap (λ (cs : List (ℕ × Entry)). onto out (all_of (map (λ (child : ℕ × Entry). one child.1) cs))) (sym none) ∙ so_far.rest

-- how much is left
abbrev pub left_of : List Entry → Option ℕ → ℕ
left_of entries next = option_map_or (λ j. length entries - j) next 0

pub reading_falls : (one : Entry → Option Text) (entries : List Entry) (k j : ℕ) (out : List ℕ) (whole : Option (List ℕ)) → IsReading one entries k (Some j) out whole → left_of entries (next_listed entries k (j + 1)) < left_of entries (Some j)
reading_falls one entries k j out whole so_far = go (next_listed entries k (j + 1)) refl where
  inside : j < length entries
  inside = slice_get_within entries j (reading_child one entries k j out whole so_far).entry (reading_child one entries k j out whole so_far).stands

  go : (o : Option ℕ) → next_listed entries k (j + 1) ≡ o → left_of entries o < length entries - j
  go None is = omega (arith, inside)
  go (Some c) is = omega (arith, inside, (next_at entries k (j + 1)).later c is)
