-- Readers of which it is known where they end.
use Rattle.std.proofs.Common.{◌≡◌, ℕ, ◌+◌, ◌-◌, ◌≤◌, List, ◌++◌, length, drop, Result, Ok, refl, sym, ap, subst, ◌∙◌, length-append, arith}
use Rattle.std.proofs.lemmas.List.{drop_at, length-drop}
use Rattle.ds_base.specs.declared.fault.Fault.{Fault}
use Rattle.ds_base.specs.Spot.{Spot, after, rest}
use Rattle.ds_base.proofs.Onward.{Onward}
use Rattle.dwarf_types.proofs.Readers.{Reader, Stands, length_rest, rest_after, stands_after}

-- behind some bytes stands what follows them
pub behind_it : (s : Spot) (bytes more : List ℕ) → Stands s → rest s ≡ bytes ++ more → (rest (after s (length bytes)) ≡ more) × Stands (after s (length bytes))
behind_it s bytes more h parts =
    let fits : length bytes ≤ s.end - s.place = omega (arith, length_rest s h, ap length parts, length-append bytes more) in
    (rest_after s (length bytes) h fits ∙ ap (drop (length bytes)) parts ∙ drop_at bytes more (length bytes) refl, stands_after s (length bytes) h fits)

-- from s to t was taken a spelling of a, which may speak of its place
pub record Placed {A : Type 0} (Spells : ℕ → List ℕ → A → Type 0) (s : Spot) (a : A) (t : Spot) : Type 0 where
  pub bytes : List ℕ
  pub spells : Spells s.place bytes a
  pub parts : rest s ≡ bytes ++ rest t
  pub ends : t ≡ after s (length bytes)
  pub stands : Stands t

-- what is read is spelled so, and what is spelled so is read
pub record PlacedReader {A : Type 0} (read : Spot → Result (A × Spot) Fault) (Spells : ℕ → List ℕ → A → Type 0) : Type 0 where
  pub takes : (s : Spot) (a : A) (t : Spot) → Stands s → read s ≡ Ok (a, t) → Placed Spells s a t
  pub again : (s : Spot) (bytes : List ℕ) (a : A) (more : List ℕ) → Stands s → Spells s.place bytes a → rest s ≡ bytes ++ more → read s ≡ Ok (a, after s (length bytes))

moved_by : (s t : Spot) (bytes more : List ℕ) → Stands s → (o : Onward s t) → rest s ≡ bytes ++ more → rest t ≡ more → o.by ≡ length bytes
moved_by s t bytes more h o parts left =
    let there : rest t ≡ drop o.by (rest s) = ap rest o.is ∙ rest_after s o.by h o.fits in
    omega (arith, length_rest s h, ap length parts, length-append bytes more, ap length there, length-drop o.by (rest s), ap length left, o.fits)

pub placed_from : {A : Type 0} (read : Spot → Result (A × Spot) Fault) (Spells : List ℕ → A → Type 0) → Reader read Spells → ((s : Spot) (y : A × Spot) → read s ≡ Ok y → Onward s y.1) → PlacedReader read (λ place. Spells)
placed_from {A = A} read Spells r on = record {
  takes = λ s a t h e.
      let f = r.takes s a t h e in
      let o = on s (a, t) e in
      record { bytes = f.bytes; spells = f.spells; parts = f.parts; ends = o.is ∙ ap (after s) (moved_by s t f.bytes (rest t) h o f.parts refl); stands = f.stands };
  again = λ s bytes a more h spells parts.
      let g = r.again s bytes a more h spells parts in
      let o = on s (a, g.next) g.reads in
      g.reads ∙ ap (λ (t : Spot). Ok (a, t)) (o.is ∙ ap (after s) (moved_by s g.next bytes more h o parts g.left));
}

-- one behind the other
pub ends_both : (s m t : Spot) (first second : List ℕ) → m ≡ after s (length first) → t ≡ after m (length second) → t ≡ after s (length (first ++ second))
ends_both s m t first second one two =
    let sum : s.place + length first + length second ≡ s.place + length (first ++ second) = omega (arith, length-append first second) in
    two ∙ ap (λ (x : Spot). after x (length second)) one ∙ ap (λ (p : ℕ). record s { place = p }) sum

-- what is made of what is read
pub made_placed : {A B : Type 0} (made : A → B) (read : Spot → Result (A × Spot) Fault) (other : Spot → Result (B × Spot) Fault) (Spells : ℕ → List ℕ → A → Type 0) (Others : ℕ → List ℕ → B → Type 0)
    → ((s : Spot) (b : B) (t : Spot) → other s ≡ Ok (b, t) → (a : A) × (read s ≡ Ok (a, t)) × (b ≡ made a))
    → ((s : Spot) (a : A) (t : Spot) → read s ≡ Ok (a, t) → other s ≡ Ok (made a, t))
    → ((place : ℕ) (bytes : List ℕ) (a : A) → Spells place bytes a → Others place bytes (made a))
    → ((place : ℕ) (bytes : List ℕ) (b : B) → Others place bytes b → (a : A) × Spells place bytes a × (b ≡ made a))
    → PlacedReader read Spells → PlacedReader other Others
made_placed {A = A} {B = B} made read other Spells Others from to said told r = record {
  takes = λ s b t h e.
      let a = from s b t e in
      let f = r.takes s a.0 t h a.1 in
      record { bytes = f.bytes; spells = subst (Others s.place f.bytes) (sym a.2) (said s.place f.bytes a.0 f.spells); parts = f.parts; ends = f.ends; stands = f.stands };
  again = λ s bytes b more h spells parts.
      let a = told s.place bytes b spells in
      to s a.0 (after s (length bytes)) (r.again s bytes a.0 more h a.1 parts) ∙ ap (λ (x : B). Ok (x, after s (length bytes))) (sym a.2);
}
