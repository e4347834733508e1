-- Tables of texts, text by text.
use Rattle.std.proofs.Common.{◌≡◌, ◌==◌, ℕ, zero, suc, ◌+◌, ◌-◌, ◌<◌, ◌≤◌, Bool, false, List, [], ◌∷◌, ◌++◌, length, map, take, drop, get_or, Option, Some, None, refl, sym, ap, ◌∙◌, arith, inl, inr, subst}
use Rattle.std.specs.Prelude.{if◌then◌else◌}
use Rattle.std.specs.List.{All}
use Rattle.std.proofs.lemmas.Bool.{cases_eq, cases_lt, ne_eqb}
use Rattle.std.proofs.lemmas.List.{drop-append-le, get_or_append_left, get_or_push, length-append, length-drop, length_push, map_push, take-append-le, take_all}
use Rattle.std.proofs.Math.Seq.{drop-append_seam}
use Rattle.type_names.specs.Entries.{Text}
use Rattle.type_names.specs.TextTable.{AreEnds, AreHeld, AreTexts, begin_of, end_of, text_numbered, text_of}

pub texts_none : (told : ℕ → Option Text) → AreTexts [] told 0
texts_none told = record { len = refl; each = λ k lt. absurd (omega arith) }

pub texts_more : (texts : List (Option Text)) (told : ℕ → Option Text) (i : ℕ) (text : Option Text) → text ≡ told i → AreTexts texts told i → AreTexts (texts ++ text ∷ []) told (i + 1)
texts_more texts told i text is so_far = record {
  len = length_push texts text ∙ ap (λ n. n + 1) so_far.len;
  each = λ k lt. elim (cases_eq k i) [
    | inl same ↦ get_or_push texts text None k (so_far.len ∙ sym same) ∙ is ∙ ap told (sym same)
    | inr other ↦ get_or_append_left texts (text ∷ []) None k (omega (arith, so_far.len)) ∙ so_far.each k (omega arith)
  ];
}

-- ---- where texts begin, and which is of a number

positive : (i : ℕ) → (suc i == 0) ≡ false
positive i = ne_eqb (suc i) 0 (λ same. absurd (omega arith))

begin_after : (ends : List ℕ) (i : ℕ) → begin_of ends (suc i) ≡ get_or ends i 0
begin_after ends i = ap (λ (b : Bool). if b then 0 else get_or ends (suc i - 1) 0) (positive i) ∙ ap (λ (k : ℕ). get_or ends k 0) (omega arith)

numbered_after : (bytes ends : List ℕ) (i : ℕ) → text_numbered bytes ends (suc i) ≡ Some (text_of bytes ends i)
numbered_after bytes ends i = ap (λ (b : Bool). if b then None else Some (text_of bytes ends (suc i - 1))) (positive i) ∙ ap (λ (k : ℕ). Some (text_of bytes ends k)) (omega arith)

-- ---- one text more among the bytes

module _ (bytes more ends : List ℕ) (are : AreEnds (length bytes) ends) where
  abbrev end : ℕ
  end = length (bytes ++ more)

  begin_kept : (i : ℕ) → i ≤ length ends → begin_of (ends ++ end ∷ []) i ≡ begin_of ends i
  begin_kept zero le = refl
  begin_kept (suc i) le = begin_after (ends ++ end ∷ []) i ∙ get_or_append_left ends (end ∷ []) 0 i (omega arith) ∙ sym (begin_after ends i)

  end_kept : (i : ℕ) → i < length ends → end_of (ends ++ end ∷ []) i ≡ end_of ends i
  end_kept i lt = get_or_append_left ends (end ∷ []) 0 i lt

  last_begin : begin_of (ends ++ end ∷ []) (length ends) ≡ length bytes
  last_begin = begin_kept (length ends) (omega arith) ∙ are.last

  last_end : end_of (ends ++ end ∷ []) (length ends) ≡ end
  last_end = get_or_push ends end 0 (length ends) refl

  -- no text that stands is changed
  text_kept : (i : ℕ) → i < length ends → text_of (bytes ++ more) (ends ++ end ∷ []) i ≡ text_of bytes ends i
  text_kept i lt = (
      let inside = are.inside i lt in
      (λ j. take (end_kept i lt j - begin_kept i (omega arith) j) (drop (begin_kept i (omega arith) j) (bytes ++ more)))
      ∙ ap (take (end_of ends i - begin_of ends i)) (drop-append-le (begin_of ends i) bytes more (omega (arith, inside.0, inside.1)))
      ∙ take-append-le (end_of ends i - begin_of ends i) (drop (begin_of ends i) bytes) more (omega (arith, inside.0, inside.1, length-drop (begin_of ends i) bytes)))

  -- the last one
  text_pushed : text_of (bytes ++ more) (ends ++ end ∷ []) (length ends) ≡ more
  text_pushed =
      (λ j. take (last_end j - last_begin j) (drop (last_begin j) (bytes ++ more)))
      ∙ ap (take (end - length bytes)) (drop-append_seam bytes more)
      ∙ take_all (end - length bytes) more (omega (arith, length-append bytes more))

  numbered_kept : (n : ℕ) → n ≤ length ends → text_numbered (bytes ++ more) (ends ++ end ∷ []) n ≡ text_numbered bytes ends n
  numbered_kept zero le = refl
  numbered_kept (suc i) le = numbered_after (bytes ++ more) (ends ++ end ∷ []) i ∙ ap (λ (t : Text). Some t) (text_kept i (omega arith)) ∙ sym (numbered_after bytes ends i)

  numbered_pushed : text_numbered (bytes ++ more) (ends ++ end ∷ []) (suc (length ends)) ≡ Some more
  numbered_pushed = numbered_after (bytes ++ more) (ends ++ end ∷ []) (length ends) ∙ ap (λ (t : Text). Some t) text_pushed

  texts_kept : (numbers : List ℕ) → All (λ n. n ≤ length ends) numbers → map (text_numbered (bytes ++ more) (ends ++ end ∷ [])) numbers ≡ map (text_numbered bytes ends) numbers
  texts_kept [] within = refl
  texts_kept (n ∷ numbers) within = (λ j. numbered_kept n (within 0 n (omega arith)) j ∷ texts_kept numbers (λ k d lt. within (suc k) d (omega arith)) j)

  ends_pushed : AreEnds end (ends ++ end ∷ [])
  ends_pushed = record {
    inside = λ i lt. elim (cases_lt i (length ends)) [
      | inl earlier ↦ (let at = are.inside i earlier in (omega (arith, begin_kept i (omega arith), end_kept i earlier, at.0), omega (arith, end_kept i earlier, at.1, length-append bytes more)))
      | inr later ↦ (
          let same : i ≡ length ends = omega (arith, length_push ends end) in
          let first = ap (begin_of (ends ++ end ∷ [])) same ∙ last_begin in
          let second = ap (end_of (ends ++ end ∷ [])) same ∙ last_end in
          (omega (arith, first, second, length-append bytes more), omega (arith, second)))
    ];
    last = (let grown : length (ends ++ end ∷ []) ≡ suc (length ends) = omega (arith, length_push ends end) in ap (begin_of (ends ++ end ∷ [])) grown ∙ begin_after (ends ++ end ∷ []) (length ends) ∙ last_end);
  }

  held_pushed : (numbers : List ℕ) → AreHeld bytes ends numbers → AreHeld (bytes ++ more) (ends ++ end ∷ []) (numbers ++ suc (length ends) ∷ [])
  held_pushed numbers held = record {
    are_ends = ends_pushed;
    each = λ k d lt. elim (cases_lt k (length numbers)) [
      | inl earlier ↦ omega (arith, get_or_append_left numbers (suc (length ends) ∷ []) d k earlier, held.each k d earlier, length_push ends end)
      | inr later ↦ omega (arith, get_or_push numbers (suc (length ends)) d k (omega (arith, length_push numbers (suc (length ends)))), length_push ends end)
    ];
    few = omega (arith, held.few, length_push ends end, length_push numbers (suc (length ends)));
  }

  view_pushed : (numbers : List ℕ) → All (λ n. n ≤ length ends) numbers
      → map (text_numbered (bytes ++ more) (ends ++ end ∷ [])) (numbers ++ suc (length ends) ∷ []) ≡ map (text_numbered bytes ends) numbers ++ Some more ∷ []
  view_pushed numbers within =
      map_push (text_numbered (bytes ++ more) (ends ++ end ∷ [])) numbers (suc (length ends))
      ∙ (λ j. texts_kept numbers within j ++ numbered_pushed j ∷ [])

-- what became of the three columns
pub record Pushed (bytes more now ends then_ends numbers then_numbers : List ℕ) : Type 0 where
  pub bytes_is : now ≡ bytes ++ more
  pub ends_is : then_ends ≡ ends ++ length (bytes ++ more) ∷ []
  pub numbers_is : then_numbers ≡ numbers ++ suc (length ends) ∷ []

pub pushed : (bytes more now ends room then_ends numbers space then_numbers : List ℕ) (n count : ℕ) → now ≡ bytes ++ more → room ≡ ends → then_ends ≡ room ++ n ∷ [] → n ≡ length now → space ≡ numbers → then_numbers ≡ space ++ count ∷ [] → count ≡ length then_ends
    → Pushed bytes more now ends then_ends numbers then_numbers
pushed bytes more now ends room then_ends numbers space then_numbers n count is same put at also counted number =
    let ends_is : then_ends ≡ ends ++ length (bytes ++ more) ∷ [] = put ∙ (λ j. same j ++ (at ∙ ap length is) j ∷ []) in
    let one : count ≡ suc (length ends) = omega (arith, number, ap length ends_is, length_push ends (length (bytes ++ more))) in
    record {
      bytes_is = is;
      ends_is = ends_is;
      numbers_is = counted ∙ (λ j. also j ++ one j ∷ []);
    }

pub held_then : (bytes more now ends then_ends numbers then_numbers : List ℕ) → AreHeld bytes ends numbers → Pushed bytes more now ends then_ends numbers then_numbers → AreHeld now then_ends then_numbers
held_then bytes more now ends then_ends numbers then_numbers held p =
    subst (λ (xs : List ℕ). AreHeld xs then_ends then_numbers) (sym p.bytes_is)
    (subst (λ (xs : List ℕ). AreHeld (bytes ++ more) xs then_numbers) (sym p.ends_is)
    (subst (AreHeld (bytes ++ more) (ends ++ length (bytes ++ more) ∷ [])) (sym p.numbers_is) (held_pushed bytes more ends held.are_ends numbers held)))

pub view_then : (bytes more now ends then_ends numbers then_numbers : List ℕ) → AreHeld bytes ends numbers → Pushed bytes more now ends then_ends numbers then_numbers
    → map (text_numbered now then_ends) then_numbers ≡ map (text_numbered bytes ends) numbers ++ Some more ∷ []
view_then bytes more now ends then_ends numbers then_numbers held p =
    (λ j. map (text_numbered (p.bytes_is j) (p.ends_is j)) (p.numbers_is j))
    ∙ view_pushed bytes more ends held.are_ends numbers held.each
