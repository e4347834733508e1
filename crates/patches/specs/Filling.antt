-- Bytes with holes, as what they are once the holes are filled.
use Rattle.std.specs.Prelude.{ℕ, ◌+◌, ◌≤◌, false, List, [], ◌∷◌, length}
use Rattle.std.specs.List.{All}
use Rattle.byteorder.specs.Endian.{little_bytes}
use Rattle.ds_base.specs.Leb.{leb_digits}
use Rattle.ds_base.specs.Room.{put}
use Rattle.patches.specs.declared.hole.Own.{Own}
use Rattle.patches.specs.declared.hole.Own.TheVariants as own
use Rattle.patches.specs.declared.hole.Outer.{Outer}
use Rattle.patches.specs.declared.hole.OwnPatch.{OwnPatch}
use Rattle.patches.specs.declared.hole.OuterPatch.{OuterPatch}

-- the number of each hole
pub record Filling : Type 0 where
  pub own : Own → ℕ
  pub outer : Outer → ℕ

-- the four bytes of a hole for what the unit tells; the place of a base type is a LEB number
abbrev pub own_bytes : (Own → ℕ) → Own → List ℕ
own_bytes f own.Size = little_bytes 4 (f own.Size)
own_bytes f (own.Node k) = little_bytes 4 (f (own.Node k))
own_bytes f (own.Base k) = leb_digits false 4 (f (own.Base k))

-- the four bytes of a hole for what stands outside
abbrev pub outer_bytes : (Outer → ℕ) → Outer → List ℕ
outer_bytes f hole = little_bytes 4 (f hole)

-- room with something put at the place of each patch
abbrev pub fill : {P : Type 0} → (P → ℕ) → (P → List ℕ) → List P → List ℕ → List ℕ
fill at part [] bytes = bytes
fill at part (p ∷ ps) bytes = fill at part ps (put bytes (at p) (part p))

abbrev pub fill_own : (Own → ℕ) → List OwnPatch → List ℕ → List ℕ
fill_own f = fill (λ p. p.at) (λ p. own_bytes f p.hole)

abbrev pub fill_outer : (Outer → ℕ) → List OuterPatch → List ℕ → List ℕ
fill_outer f = fill (λ p. p.at) (λ p. outer_bytes f p.hole)

-- bytes, and the holes in them
pub record Holey : Type 0 where
  pub bytes : List ℕ
  pub own : List OwnPatch
  pub outer : List OuterPatch

-- what they are, once the holes are filled
abbrev pub filled : Holey → Filling → List ℕ
filled h f = fill_outer f.outer h.outer (fill_own f.own h.own h.bytes)

-- each hole lies within the bytes
pub record AreInside (h : Holey) : Type 0 where
  pub own : All (λ p. p.at + 4 ≤ length h.bytes) h.own
  pub outer : All (λ p. p.at + 4 ≤ length h.bytes) h.outer

-- patches that stand so far behind
abbrev pub own_behind : ℕ → OwnPatch → OwnPatch
own_behind n p = record { at = n + p.at; hole = p.hole }

abbrev pub outer_behind : ℕ → OuterPatch → OuterPatch
outer_behind n p = record { at = n + p.at; hole = p.hole }
