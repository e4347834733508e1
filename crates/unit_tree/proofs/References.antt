-- Where a reference leads among entries in rising order, and the loop that resolves references.
use Rattle.std.proofs.Common.{◌==◌, ◌≡◌, ℕ, zero, suc, ◌+◌, ◌<◌, ◌≤◌, ◌||◌, Bool, true, false, not, cond, List, [], ◌∷◌, length, get_or, drop, Option, Some, None, refl, sym, ap, ◌∙◌, drop-cons, inl, inr, arith}
use Rattle.std.specs.List.{find, list_any, position, position_or_len}
use Rattle.std.proofs.lemmas.List.{drop_all, get_or-map, length-map}
use Rattle.std.proofs.lemmas.List.Quantifiers.{position-Some}
use Rattle.std.proofs.lemmas.Bool.{cases_lt, eq-eqb, eqb-true, ltb-false, ne_eqb}
use Rattle.dwarf_types.specs.declared.entry.RawEntry.{RawEntry}
use Rattle.dwarf_types.specs.Raw.{places_of}
use Rattle.unit_tree.specs.declared.reference.Reference.{Reference}
use Rattle.unit_tree.specs.Reference.{reaches, leads_to, leads, IsRising}

-- none passes
any_none : {X : Type 0} (p : X → Bool) (xs : List X) (d : X) → ((j : ℕ) → j < length xs → p (get_or xs j d) ≡ false) → list_any p xs ≡ false
any_none p [] d fails = refl
any_none p (x ∷ xs) d fails = rw (fails 0 (omega arith)) (any_none p xs d (λ j lt. fails (suc j) (omega arith)))

or_false : (b : Bool) → (b || false) ≡ b
or_false true = refl
or_false false = refl

-- no other passes
any_one : {X : Type 0} (p : X → Bool) (xs : List X) (i : ℕ) (d : X) → i < length xs → ((j : ℕ) → j < length xs → (j ≡ i → ⊥) → p (get_or xs j d) ≡ false) → list_any p xs ≡ p (get_or xs i d)
any_one p [] i d lt fails = absurd (omega arith)
any_one p (x ∷ xs) zero d lt fails = rw (any_none p xs d (λ j below. fails (suc j) (omega arith) (λ e. omega (arith, e)))) (or_false (p x))
any_one p (x ∷ xs) (suc i) d lt fails = rw (fails 0 (omega arith) (λ e. omega (arith, e))) (any_one p xs i d (omega arith) (λ j below ne. fails (suc j) (omega arith) (λ e. ne (omega (arith, e)))))

abbrev none : RawEntry
none = record { parent = None; unit = 0; place = 0; tag = 0; attrs = [] }

place_at : (entries : List RawEntry) (i : ℕ) (d : RawEntry) → i < length entries → get_or (places_of entries) i 0 ≡ (get_or entries i d).place
place_at entries i d lt = get_or-map (λ (e : RawEntry). e.place) entries i d 0 lt

-- an entry that begins elsewhere is none to which a reference leads
elsewhere : (r : Reference) (e : RawEntry) → (e.place ≡ r.target → ⊥) → leads_to r e ≡ false
elsewhere r e ne = rw (ne_eqb e.place r.target ne) refl

abbrev is_there : Reference → ℕ → Bool
is_there r p = p == r.target

pub leads_there : (entries : List RawEntry) (r : Reference) (i : ℕ) (d : RawEntry) → IsRising entries → position (is_there r) (places_of entries) ≡ Some i → leads entries r ≡ reaches r.unit (get_or entries i d).unit
leads_there entries r i d rising found =
    let at = position-Some (is_there r) (places_of entries) i 0 found in
    let within : i < length entries = omega (arith, at.0, length-map entries (λ (e : RawEntry). e.place)) in
    let here : (get_or entries i d).place ≡ r.target = sym (place_at entries i d within) ∙ eqb-true _ _ at.1 in
    let others : (j : ℕ) → j < length entries → (j ≡ i → ⊥) → leads_to r (get_or entries j d) ≡ false = λ j lt ne. elsewhere r (get_or entries j d) (λ e.
    elim (cases_lt j i) [
      | inl before ↦ omega (arith, rising j i d before within, e, here)
      | inr le ↦ omega (arith, rising i j d (omega (arith, ne)) lt, e, here)
    ]) in
    any_one (leads_to r) entries i d within others ∙ rw (eq-eqb _ _ here) refl

-- where none is the first to pass, none passes
none_step : (p : ℕ → Bool) (x : ℕ) (xs : List ℕ) (b : Bool) → p x ≡ b → (length xs ≤ position_or_len p xs → (j : ℕ) → j < length xs → p (get_or xs j 0) ≡ false)
    → suc (length xs) ≤ cond (not b) (1 + position_or_len p xs) 0 → (j : ℕ) → j < suc (length xs) → p (get_or (x ∷ xs) j 0) ≡ false
none_step p x xs true is later le j lt = absurd (omega arith)
none_step p x xs false is later le zero lt = is
none_step p x xs false is later le (suc j) lt = later (omega arith) j (omega arith)

none_passes : (p : ℕ → Bool) (xs : List ℕ) → length xs ≤ position_or_len p xs → (j : ℕ) → j < length xs → p (get_or xs j 0) ≡ false
none_passes p [] le j lt = absurd (omega arith)
none_passes p (x ∷ xs) le j lt = none_step p x xs (p x) refl (none_passes p xs) le j lt

none_found : (b : Bool) (n : ℕ) → cond b (Some n) None ≡ None → b ≡ false
none_found true n e = absurd (let no : ⊥ = cc in no)
none_found false n e = refl

position-None : (p : ℕ → Bool) (xs : List ℕ) → position p xs ≡ None → (j : ℕ) → j < length xs → p (get_or xs j 0) ≡ false
position-None p xs none = none_passes p xs (ltb-false _ _ (none_found _ (position_or_len p xs) none))

pub leads_nowhere : (entries : List RawEntry) (r : Reference) → position (is_there r) (places_of entries) ≡ None → leads entries r ≡ false
leads_nowhere entries r none_there =
    any_none (leads_to r) entries none (λ j lt. elsewhere r (get_or entries j none) (λ e.
    let passed = position-None (is_there r) (places_of entries) none_there j (omega (arith, lt, length-map entries (λ (x : RawEntry). x.place))) in
    let here : is_there r (get_or (places_of entries) j 0) ≡ true = eq-eqb _ _ (place_at entries j none lt ∙ e) in
    let no : ⊥ = cc in
    no))

-- the references from one on are still to be tried
abbrev pub dangling : List RawEntry → List Reference → Option Reference
dangling entries references = find (λ r. not (leads entries r)) references

next_reference : (entries : List RawEntry) (references : List Reference) (i : ℕ) (d : Reference) → i < length references
    → dangling entries (drop i references) ≡ cond (not (leads entries (get_or references i d))) (Some (get_or references i d)) (dangling entries (drop (i + 1) references))
next_reference entries references i d lt =
    let next : suc i ≡ i + 1 = omega arith in
    ap (dangling entries) (drop-cons references i d lt ∙ ap (λ (n : ℕ). get_or references i d ∷ drop n references) next)

pub reference_dangles : (entries : List RawEntry) (references : List Reference) (i : ℕ) (d : Reference) → i < length references → leads entries (get_or references i d) ≡ false
    → dangling entries (drop i references) ≡ dangling entries references → dangling entries references ≡ Some (get_or references i d)
reference_dangles entries references i d lt nowhere so_far = sym so_far ∙ next_reference entries references i d lt ∙ rw nowhere refl

pub reference_leads : (entries : List RawEntry) (references : List Reference) (i : ℕ) (d : Reference) → i < length references → leads entries (get_or references i d) ≡ true
    → dangling entries (drop i references) ≡ dangling entries references → dangling entries (drop (i + 1) references) ≡ dangling entries references
reference_leads entries references i d lt there so_far = sym (next_reference entries references i d lt ∙ rw there refl) ∙ so_far

pub all_lead : (entries : List RawEntry) (references : List Reference) (i : ℕ) → length references ≤ i → dangling entries (drop i references) ≡ dangling entries references → dangling entries references ≡ None
all_lead entries references i le so_far = sym so_far ∙ ap (dangling entries) (drop_all i references le)
