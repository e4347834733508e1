-- One cell written: one attribute of one entry changes.
use Rattle.std.proofs.Common.{◌≡◌, ℕ, zero, suc, ◌+◌, ◌-◌, ◌<◌, ◌≤◌, List, [], ◌∷◌, map, length, subst, drop, take, get_or, set, slice_get, Some, refl, ap, ap₂, sym, ◌∙◌, arith}
use Rattle.std.proofs.lemmas.List.{length-map, length-take, length-set, get_or-take, get_or-drop, drop-set-lt, drop-set-add, take-set-le, map-set, length-drop}
use Rattle.std.proofs.lemmas.List.Elements.{All-set}
use Rattle.std.proofs.lemmas.Option.{slice_get-get_or, slice_get-map, slice_get_within}
use Rattle.std.specs.Option.{option_map}
use Rattle.dwarf_types.specs.declared.columns.Head.{Head}
use Rattle.dwarf_types.specs.Columns.{Follow, IsFlat, cells_of, row}
use Rattle.dwarf_types.proofs.Heads.{follow_begins, head_read, row_read}

take_set : {A : Type 0} (n : ℕ) (xs : List A) (j : ℕ) (a : A) → take n (set xs j a) ≡ set (take n xs) j a
take_set zero [] j a = refl
take_set zero (x ∷ xs) j a = refl
take_set (suc n) [] j a = refl
take_set (suc n) (x ∷ xs) zero a = refl
take_set (suc n) (x ∷ xs) (suc j) a = ap (λ ys. x ∷ ys) (take_set n xs j a)

some_same : {A : Type 0} (x y : A) → Some x ≡ Some y → x ≡ y
some_same x y e = cc

-- the cells of a head that begins behind the cell, and of one that ends before it
past_same : {X : Type 0} (cells : List X) (k : ℕ) (c : X) (h : Head) → k < h.first → cells_of (set cells k c) h ≡ cells_of cells h
past_same cells k c h lt = ap (take (h.first + h.count - h.first)) (drop-set-lt h.first cells k c lt)

before_same : {X : Type 0} (cells : List X) (k : ℕ) (c : X) (h : Head) → h.first + h.count ≤ k → cells_of (set cells k c) h ≡ cells_of cells h
before_same cells k c h le =
    let there : h.first + (k - h.first) ≡ k = omega arith in
    let moved : drop h.first (set cells k c) ≡ set (drop h.first cells) (k - h.first) c = subst (λ (n : ℕ). drop h.first (set cells n c) ≡ set (drop h.first cells) (k - h.first) c) there (drop-set-add h.first cells (k - h.first) c) in
    ap (take (h.first + h.count - h.first)) moved ∙ take-set-le (h.first + h.count - h.first) (drop h.first cells) (k - h.first) c (omega arith)

here_set : {X : Type 0} (cells : List X) (j : ℕ) (c : X) (h : Head) → cells_of (set cells (h.first + j) c) h ≡ set (cells_of cells h) j c
here_set cells j c h =
    ap (take (h.first + h.count - h.first)) (drop-set-add h.first cells j c) ∙ take_set (h.first + h.count - h.first) (drop h.first cells) j c

pub flat_set : {X : Type 0} (Within : X → Type 0) (heads : List Head) (cells : List X) (at k : ℕ) (to : X) → Within to → IsFlat Within heads cells at → IsFlat Within heads (set cells k to) at
flat_set Within heads cells at k to w f =
    let few : at ≤ length cells = f.few in
    record { follow = f.follow; few = omega (arith, length-set cells k to); within = All-set Within cells k to w f.within }

-- what an entry is made of, and how its attributes are seen again
module _ {X A E : Type 0} (f : X → A) (with_attrs : Head → List A → E) (attrs : E → List A) (seen : (h : Head) (xs : List A) → attrs (with_attrs h xs) ≡ xs) where
  rows_past : (cells : List X) (k : ℕ) (c : X) (at : ℕ) (heads : List Head) (end : ℕ) → Follow at heads end → k < at → map (row f with_attrs (set cells k c)) heads ≡ map (row f with_attrs cells) heads
  rows_past cells k c at [] end follow lt = refl
  rows_past cells k c at (h ∷ heads) end follow lt =
      let here : at ≡ h.first = follow.0 in
      let same = past_same cells k c h (omega arith) in
      ap₂ ◌∷◌ (ap (λ (cs : List X). with_attrs h (map f cs)) same) (rows_past cells k c (h.first + h.count) heads end follow.1 (omega arith))

  rows_set : (cells : List X) (j : ℕ) (c : X) (at : ℕ) (heads : List Head) (end i : ℕ) (d : Head) → Follow at heads end → i < length heads → j < (get_or heads i d).count → map (row f with_attrs (set cells ((get_or heads i d).first + j) c)) heads ≡ set (map (row f with_attrs cells) heads) i (with_attrs (get_or heads i d) (set (map f (cells_of cells (get_or heads i d))) j (f c)))
  rows_set cells j c at [] end i d follow lt below = absurd (omega arith)
  rows_set cells j c at (h ∷ heads) end zero d follow lt below =
      let here : map f (cells_of (set cells (h.first + j) c) h) ≡ set (map f (cells_of cells h)) j (f c) = ap (map f) (here_set cells j c h) ∙ map-set f (cells_of cells h) j c in
      ap₂ ◌∷◌ (ap (with_attrs h) here) (rows_past cells (h.first + j) c (h.first + h.count) heads end follow.1 (omega arith))
  rows_set cells j c at (h ∷ heads) end (suc i) d follow lt below =
      let k = (get_or heads i d).first + j in
      let begins : h.first + h.count ≤ (get_or heads i d).first = follow_begins (h.first + h.count) heads end i d follow.1 (omega arith) in
      let same = before_same cells k c h (omega arith) in
      ap₂ ◌∷◌ (ap (λ (cs : List X). with_attrs h (map f cs)) same) (rows_set cells j c (h.first + h.count) heads end i d follow.1 (omega arith) below)

  count_read : (cells : List X) (h : Head) → h.first + h.count ≤ length cells → length (map f (cells_of cells h)) ≡ h.count
  count_read cells h le = simp (length-map, length-take, length-drop) (omega arith)

  attr_read : (cells : List X) (h : Head) (j : ℕ) (cell : X) → j < h.count → h.first + h.count ≤ length cells → cell ≡ get_or cells (h.first + j) cell → slice_get (map f (cells_of cells h)) j ≡ Some (f cell)
  attr_read cells h j cell lt le is =
      let n : ℕ = h.first + h.count - h.first in
      let inside : j < n = omega arith in
      let some : j < length (cells_of cells h) = simp (length-take, length-drop) (omega arith) in
      let here : get_or (cells_of cells h) j cell ≡ cell = get_or-take n (drop h.first cells) j cell inside ∙ (get_or-drop h.first cells j cell ∙ sym is) in
      slice_get-map f (cells_of cells h) j ∙ ap (option_map f) (slice_get-get_or (cells_of cells h) j cell some ∙ ap Some here)

  -- where there is the attribute j of the entry i, there is its cell
  pub cell_place : (Within : X → Type 0) (heads : List Head) (cells : List X) (at i j : ℕ) (h : Head) (e : E) → IsFlat Within heads cells at → h ≡ get_or heads i h → slice_get (map (row f with_attrs cells) heads) i ≡ Some e → j < length (attrs e) → (i < length heads) × (j < h.count) × (h.first + h.count ≤ length cells)
  cell_place Within heads cells at i j h e flat is read lt =
      let some = slice_get_within (map (row f with_attrs cells) heads) i e read in
      let few : i < length heads = rw length-map at some in
      let ends = head_read Within heads cells at i h flat few is in
      let same : row f with_attrs cells h ≡ e = some_same _ _ (sym (row_read Within with_attrs f heads cells i h few is) ∙ read) in
      let count : length (attrs e) ≡ h.count = ap (λ (x : E). length (attrs x)) (sym same) ∙ (ap length (seen h (map f (cells_of cells h))) ∙ count_read cells h ends) in
      (few, omega arith, ends)

  -- and the attribute is the cell's
  pub attr_stands : (Within : X → Type 0) (heads : List Head) (cells : List X) (at i j : ℕ) (h : Head) (cell : X) (e : E) → IsFlat Within heads cells at → h ≡ get_or heads i h → slice_get (map (row f with_attrs cells) heads) i ≡ Some e → j < length (attrs e) → cell ≡ get_or cells (h.first + j) cell → slice_get (attrs e) j ≡ Some (f cell)
  attr_stands Within heads cells at i j h cell e flat is read lt here =
      let there = cell_place Within heads cells at i j h e flat is read lt in
      let same : row f with_attrs cells h ≡ e = some_same _ _ (sym (row_read Within with_attrs f heads cells i h there.0 is) ∙ read) in
      let own : map f (cells_of cells h) ≡ attrs e = sym (seen h (map f (cells_of cells h))) ∙ ap attrs same in
      ap (λ (xs : List A). slice_get xs j) (sym own) ∙ attr_read cells h j cell there.1 there.2 here

  -- one cell written: the entry of before, with another attribute at its place
  pub row_set : (Within : X → Type 0) (heads : List Head) (cells : List X) (at i j : ℕ) (h : Head) (cell to : X) (e : E) (a : A) → IsFlat Within heads cells at → h ≡ get_or heads i h → slice_get (map (row f with_attrs cells) heads) i ≡ Some e → slice_get (attrs e) j ≡ Some a → cell ≡ get_or cells (h.first + j) cell
      → (map (row f with_attrs (set cells (h.first + j) to)) heads ≡ set (map (row f with_attrs cells) heads) i (with_attrs h (set (attrs e) j (f to)))) × (with_attrs h (attrs e) ≡ e) × (f cell ≡ a)
  row_set Within heads cells at i j h cell to e a flat is read this here =
      let there = cell_place Within heads cells at i j h e flat is read (slice_get_within (attrs e) j a this) in
      let same : row f with_attrs cells h ≡ e = some_same _ _ (sym (row_read Within with_attrs f heads cells i h there.0 is) ∙ read) in
      let attr : slice_get (map f (cells_of cells h)) j ≡ Some (f cell) = attr_read cells h j cell there.1 there.2 here in
      let own : map f (cells_of cells h) ≡ attrs e = sym (seen h (map f (cells_of cells h))) ∙ ap attrs same in
      let it : f cell ≡ a = some_same _ _ (sym attr ∙ (ap (λ (xs : List A). slice_get xs j) own ∙ this)) in
      let below : j < (get_or heads i h).count = subst (λ (x : Head). j < x.count) is there.1 in
      let written = rows_set cells j to 0 heads at i h flat.follow there.0 below in
      let P : Head → Type 0 = λ x. map (row f with_attrs (set cells (x.first + j) to)) heads ≡ set (map (row f with_attrs cells) heads) i (with_attrs x (set (map f (cells_of cells x)) j (f to))) in
      (subst P (sym is) written ∙ ap (λ (xs : List A). set (map (row f with_attrs cells) heads) i (with_attrs h (set xs j (f to)))) own, ap (with_attrs h) (sym own) ∙ same, it)
