-- Holes at the end of bytes, and bytes behind holes.
use Rattle.std.proofs.Common.{◌≡◌, ◌≤◌, ◌<◌, ◌+◌, ◌++◌, ℕ, List, [], ◌∷◌, length, take, drop, replicate, append_assoc, append-nil, arith, refl, sym, ap, ◌∙◌, length-append, All, get_or, map}
use Rattle.std.proofs.lemmas.List.{take-append-le, drop-append-le, drop_more, drop_all}
use Rattle.std.proofs.lemmas.List.Elements.{All-head, All-tail, All-weaker}
use Rattle.std.proofs.Math.Seq.{take-append_seam, take-append-add, drop-append-add, drop-length}
use Rattle.ds_base.specs.Room.{put}
use Rattle.ds_base.proofs.Adding.{length-put}
use Rattle.patches.specs.declared.hole.Own.{Own}
use Rattle.patches.specs.declared.hole.Own.TheVariants as own
use Rattle.patches.specs.declared.hole.Outer.{Outer}
use Rattle.patches.specs.declared.hole.OwnPatch.{OwnPatch}
use Rattle.patches.specs.declared.hole.OuterPatch.{OuterPatch}
use Rattle.patches.specs.Filling.{AreInside, Filling, Holey, fill, fill_own, fill_outer, filled, own_behind, own_bytes, outer_behind, outer_bytes}

put-append : (room more xs : List ℕ) (at : ℕ) → at + length xs ≤ length room → put (room ++ more) at xs ≡ put room at xs ++ more
put-append room more xs at fits =
    rw (take-append-le at room more (omega (arith, fits)), drop-append-le (at + length xs) room more fits) (simp append_assoc)

put_over : (room xs zeros : List ℕ) → length zeros ≡ length xs → put (room ++ zeros) (length room) xs ≡ room ++ xs
put_over room xs zeros same =
    let end : length room + length xs ≡ length (room ++ zeros) = omega (arith, same, length-append room zeros) in
    rw (take-append_seam room zeros, end, drop-length (room ++ zeros)) (simp append-nil)

module _ {P : Type 0} (at : P → ℕ) (part : P → List ℕ) (four : (p : P) → length (part p) ≡ 4) where
  abbrev Inside : List ℕ → P → Type 0
  Inside bytes p = at p + 4 ≤ length bytes

  kept : (p : P) (ps : List P) (bytes : List ℕ) → All (Inside bytes) (p ∷ ps) → length (put bytes (at p) (part p)) ≡ length bytes
  kept p ps bytes h = length-put bytes (part p) (at p) (omega (arith, four p, All-head (Inside bytes) p ps h))

  still : (p : P) (ps : List P) (bytes : List ℕ) → All (Inside bytes) (p ∷ ps) → All (Inside (put bytes (at p) (part p))) ps
  still p ps bytes h = All-weaker (Inside bytes) (Inside (put bytes (at p) (part p))) (λ q is. omega (arith, is, kept p ps bytes h)) ps (All-tail (Inside bytes) p ps h)

  pub length-fill : (ps : List P) (bytes : List ℕ) → All (Inside bytes) ps → length (fill at part ps bytes) ≡ length bytes
  length-fill [] bytes h = refl
  length-fill (p ∷ ps) bytes h = length-fill ps (put bytes (at p) (part p)) (still p ps bytes h) ∙ kept p ps bytes h

  pub fill-append : (ps : List P) (bytes more : List ℕ) → All (Inside bytes) ps → fill at part ps (bytes ++ more) ≡ fill at part ps bytes ++ more
  fill-append [] bytes more h = refl
  fill-append (p ∷ ps) bytes more h =
      ap (fill at part ps) (put-append bytes more (part p) (at p) (omega (arith, four p, All-head (Inside bytes) p ps h)))
      ∙ fill-append ps (put bytes (at p) (part p)) more (still p ps bytes h)

  fill-push : (ps : List P) (p : P) (bytes : List ℕ) → fill at part (ps ++ p ∷ []) bytes ≡ put (fill at part ps bytes) (at p) (part p)
  fill-push [] p bytes = refl
  fill-push (q ∷ ps) p bytes = fill-push ps p (put bytes (at q) (part q))

  pub fill_last : (ps : List P) (p : P) (bytes zeros : List ℕ) → All (Inside bytes) ps → at p ≡ length bytes → length zeros ≡ 4
      → fill at part (ps ++ p ∷ []) (bytes ++ zeros) ≡ fill at part ps bytes ++ part p
  fill_last ps p bytes zeros h is four_zeros =
      let where_it_is : at p ≡ length (fill at part ps bytes) = is ∙ sym (length-fill ps bytes h) in
      fill-push ps p (bytes ++ zeros) ∙ ap (λ (room : List ℕ). put room (at p) (part p)) (fill-append ps bytes zeros h)
      ∙ ap (λ (n : ℕ). put (fill at part ps bytes ++ zeros) n (part p)) where_it_is
      ∙ put_over (fill at part ps bytes) (part p) zeros (four_zeros ∙ sym (four p))

four_own : (f : Own → ℕ) (hole : Own) → length (own_bytes f hole) ≡ 4
four_own f own.Size = refl
four_own f (own.Node k) = refl
four_own f (own.Base k) = refl

four_outer : (f : Outer → ℕ) (hole : Outer) → length (outer_bytes f hole) ≡ 4
four_outer f hole = refl

abbrev pub holey : List ℕ → List OwnPatch → List OuterPatch → Holey
holey bytes owns outers = record { bytes = bytes; own = owns; outer = outers }

abbrev pub at_own : OwnPatch → ℕ
at_own p = p.at

abbrev pub at_outer : OuterPatch → ℕ
at_outer p = p.at

module _ (bytes : List ℕ) (owns : List OwnPatch) (outers : List OuterPatch) (h : AreInside (holey bytes owns outers)) where
  outer_inside : (f : Filling) → All (λ p. p.at + 4 ≤ length (fill_own f.own owns bytes)) outers
  outer_inside f = All-weaker (λ (p : OuterPatch). p.at + 4 ≤ length bytes) (λ (p : OuterPatch). p.at + 4 ≤ length (fill_own f.own owns bytes))
      (λ p is. omega (arith, is, length-fill at_own (λ p. own_bytes f.own p.hole) (λ p. four_own f.own p.hole) owns bytes h.own)) outers h.outer

  pub length-filled : (f : Filling) → length (filled (holey bytes owns outers) f) ≡ length bytes
  length-filled f =
      length-fill at_outer (λ p. outer_bytes f.outer p.hole) (λ p. four_outer f.outer p.hole) outers (fill_own f.own owns bytes) (outer_inside f)
      ∙ length-fill at_own (λ p. own_bytes f.own p.hole) (λ p. four_own f.own p.hole) owns bytes h.own

  pub filled-append : (more : List ℕ) (f : Filling) → filled (holey (bytes ++ more) owns outers) f ≡ filled (holey bytes owns outers) f ++ more
  filled-append more f =
      ap (fill_outer f.outer outers) (fill-append at_own (λ p. own_bytes f.own p.hole) (λ p. four_own f.own p.hole) owns bytes more h.own)
      ∙ fill-append at_outer (λ p. outer_bytes f.outer p.hole) (λ p. four_outer f.outer p.hole) outers (fill_own f.own owns bytes) more (outer_inside f)

  pub filled-own : (at : ℕ) (hole : Own) (f : Filling) → at ≡ length bytes
      → filled (holey (bytes ++ replicate 4 0) (owns ++ record { at = at; hole = hole } ∷ []) outers) f ≡ filled (holey bytes owns outers) f ++ own_bytes f.own hole
  filled-own at hole f is =
      ap (fill_outer f.outer outers) (fill_last at_own (λ p. own_bytes f.own p.hole) (λ p. four_own f.own p.hole) owns (record { at = at; hole = hole }) bytes (replicate 4 0) h.own is refl)
      ∙ fill-append at_outer (λ p. outer_bytes f.outer p.hole) (λ p. four_outer f.outer p.hole) outers (fill_own f.own owns bytes) (own_bytes f.own hole) (outer_inside f)

  pub filled-outer : (at : ℕ) (hole : Outer) (f : Filling) → at ≡ length bytes
      → filled (holey (bytes ++ replicate 4 0) owns (outers ++ record { at = at; hole = hole } ∷ [])) f ≡ filled (holey bytes owns outers) f ++ outer_bytes f.outer hole
  filled-outer at hole f is =
      let own_part = λ (p : OwnPatch). own_bytes f.own p.hole in
      let four = λ (p : OwnPatch). four_own f.own p.hole in
      ap (fill_outer f.outer (outers ++ record { at = at; hole = hole } ∷ [])) (fill-append at_own own_part four owns bytes (replicate 4 0) h.own)
      ∙ fill_last at_outer (λ p. outer_bytes f.outer p.hole) (λ p. four_outer f.outer p.hole) outers (record { at = at; hole = hole }) (fill_own f.own owns bytes) (replicate 4 0)
      (outer_inside f) (is ∙ sym (length-fill at_own own_part four owns bytes h.own)) refl

  -- holes of longer bytes
  pub inside_longer : (more : List ℕ) → AreInside (holey (bytes ++ more) owns outers)
  inside_longer more = record {
    own = All-weaker (λ (p : OwnPatch). p.at + 4 ≤ length bytes) (λ (p : OwnPatch). p.at + 4 ≤ length (bytes ++ more)) (λ p is. omega (arith, is, length-append bytes more)) owns h.own;
    outer = All-weaker (λ (p : OuterPatch). p.at + 4 ≤ length bytes) (λ (p : OuterPatch). p.at + 4 ≤ length (bytes ++ more)) (λ p is. omega (arith, is, length-append bytes more)) outers h.outer;
  }

-- ---- loops

module _ {P : Type 0} (at : P → ℕ) (part : P → List ℕ) (ps : List P) (i : ℕ) where
  pub fill_step : (d : P) (room new all : List ℕ) → i < length ps → new ≡ put room (at (get_or ps i d)) (part (get_or ps i d))
      → fill at part (drop i ps) room ≡ all → fill at part (drop (i + 1) ps) new ≡ all
  fill_step d room new all lt written so_far =
      ap (fill at part (drop (i + 1) ps)) written ∙ sym (ap (λ (qs : List P). fill at part qs room) (drop_more ps i d lt)) ∙ so_far

  pub fill_done : (room all : List ℕ) → length ps ≤ i → fill at part (drop i ps) room ≡ all → room ≡ all
  fill_done room all past so_far = sym (ap (λ (qs : List P). fill at part qs room) (drop_all i ps past)) ∙ so_far

-- ---- holes behind holes

put_behind : (xs ys bs : List ℕ) (at : ℕ) → put (xs ++ ys) (length xs + at) bs ≡ xs ++ put ys at bs
put_behind xs ys bs at =
    let end : length xs + at + length bs ≡ length xs + (at + length bs) = omega arith in
    rw (take-append-add xs ys at, end, drop-append-add xs ys (at + length bs)) (append_assoc xs (take at ys) (bs ++ drop (at + length bs) ys))

module _ {P : Type 0} (at : P → ℕ) (part : P → List ℕ) where
  fill-more : (ps qs : List P) (room : List ℕ) → fill at part (ps ++ qs) room ≡ fill at part qs (fill at part ps room)
  fill-more [] qs room = refl
  fill-more (p ∷ ps) qs room = fill-more ps qs (put room (at p) (part p))

  fill_behind : (shift : P → P) (n : ℕ) → ((p : P) → at (shift p) ≡ n + at p) → ((p : P) → part (shift p) ≡ part p)
      → (ps : List P) (xs ys : List ℕ) → length xs ≡ n → fill at part (map shift ps) (xs ++ ys) ≡ xs ++ fill at part ps ys
  fill_behind shift n moved same [] xs ys len = refl
  fill_behind shift n moved same (p ∷ ps) xs ys len =
      let place : at (shift p) ≡ length xs + at p = moved p ∙ ap (λ (m : ℕ). m + at p) (sym len) in
      ap (λ (bs : List ℕ). fill at part (map shift ps) (put (xs ++ ys) (at (shift p)) bs)) (same p)
      ∙ ap (λ (m : ℕ). fill at part (map shift ps) (put (xs ++ ys) m (part p))) place ∙ ap (fill at part (map shift ps)) (put_behind xs ys (part p) (at p))
      ∙ fill_behind shift n moved same ps xs (put ys (at p) (part p)) len

module _ (bytes : List ℕ) (owns : List OwnPatch) (outers : List OuterPatch) (h : AreInside (holey bytes owns outers)) where
  filled-both : (more : Holey) (f : Filling)
      → filled (holey (bytes ++ more.bytes) (owns ++ map (own_behind (length bytes)) more.own) (outers ++ map (outer_behind (length bytes)) more.outer)) f ≡ filled (holey bytes owns outers) f ++ filled more f
  filled-both more f =
      let own_part = λ (p : OwnPatch). own_bytes f.own p.hole in
      let outer_part = λ (p : OuterPatch). outer_bytes f.outer p.hole in
      let four = λ (p : OwnPatch). four_own f.own p.hole in
      let fours = λ (p : OuterPatch). four_outer f.outer p.hole in
      let n = length bytes in
      let first = fill_own f.own owns bytes in
      let len = length-fill at_own own_part four owns bytes h.own in
      let owned : fill_own f.own (owns ++ map (own_behind n) more.own) (bytes ++ more.bytes) ≡ first ++ fill_own f.own more.own more.bytes =
      fill-more at_own own_part owns (map (own_behind n) more.own) (bytes ++ more.bytes) ∙ ap (fill_own f.own (map (own_behind n) more.own)) (fill-append at_own own_part four owns bytes more.bytes h.own)
      ∙ fill_behind at_own own_part (own_behind n) n (λ p. refl) (λ p. refl) more.own first more.bytes len in
      let second = fill_own f.own more.own more.bytes in
      let inside = outer_inside bytes owns outers h f in
      ap (fill_outer f.outer (outers ++ map (outer_behind n) more.outer)) owned ∙ fill-more at_outer outer_part outers (map (outer_behind n) more.outer) (first ++ second)
      ∙ ap (fill_outer f.outer (map (outer_behind n) more.outer)) (fill-append at_outer outer_part fours outers first second inside)
      ∙ fill_behind at_outer outer_part (outer_behind n) n (λ p. refl) (λ p. refl) more.outer (fill_outer f.outer outers first) second (length-fill at_outer outer_part fours outers first inside ∙ len)

module _ (bytes : List ℕ) (owns : List OwnPatch) (outers : List OuterPatch) (h : AreInside (holey bytes owns outers)) where
  -- and with some bytes between
  pub filled-behind : (front : List ℕ) (more : Holey) (f : Filling)
      → filled (holey ((bytes ++ front) ++ more.bytes) (owns ++ map (own_behind (length (bytes ++ front))) more.own) (outers ++ map (outer_behind (length (bytes ++ front))) more.outer)) f
      ≡ filled (holey bytes owns outers) f ++ (front ++ filled more f)
  filled-behind front more f =
      filled-both (bytes ++ front) owns outers (inside_longer bytes owns outers h front) more f
      ∙ ap (λ (xs : List ℕ). xs ++ filled more f) (filled-append bytes owns outers h front f)
      ∙ append_assoc (filled (holey bytes owns outers) f) front (filled more f)

-- where holes stand in longer bytes

module _ {P : Type 0} (at : P → ℕ) (ps : List P) (len n : ℕ) (h : All (λ p. at p + 4 ≤ len) ps) where
  pub in_longer : len ≤ n → All (λ p. at p + 4 ≤ n) ps
  in_longer le = All-weaker (λ p. at p + 4 ≤ len) (λ p. at p + 4 ≤ n) (λ p is. omega (arith, is, le)) ps h

  pub in_behind : (base : ℕ) → base + len ≤ n → All (λ p. base + at p + 4 ≤ n) ps
  in_behind base le = All-weaker (λ p. at p + 4 ≤ len) (λ p. base + at p + 4 ≤ n) (λ p is. omega (arith, is, le)) ps h
