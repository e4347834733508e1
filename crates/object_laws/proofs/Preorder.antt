-- The entries of an object stand in preorder.
use Rattle.std.proofs.Common.{◌≡◌, ◌+◌, ℕ, zero, suc, List, [], ◌∷◌, ◌++◌, length, map, get_or, slice_get, Option, Some, None, refl, sym, ap, subst, ◌∙◌, arith}
use Rattle.std.specs.Prelude.{IfSome}
use Rattle.std.specs.List.{All}
use Rattle.dwarf_types.specs.declared.entry.Entry.{Entry}
use Rattle.dwarf_types.specs.declared.entry.InUnit.{InUnit}
use Rattle.dwarf_types.specs.declared.entry.RawEntry.{RawEntry}
use Rattle.dwarf_types.specs.Live.{Stands}
use Rattle.dwarf_types.specs.Raw.{entry_of as as_entry}
use Rattle.linked_laws.specs.Spellable.{ArePreorder, IsUp}
use Rattle.unit_tree.specs.Spelling.{Forest, UnitTree, entries_of, entry_of, in_units, no_more, preorder, size, tree, unit_entries}
use Rattle.unit_tree.proofs.TreeLaws.{length_preorder}
use Rattle.object_view.proofs.Trees.{StandFrom, all_stand, behind_stand, first_stands, left_stand, right_stand, trees_rooted as rooted}
use Rattle.object_laws.proofs.Raw.{raw_stands, raw_stood}

module _ (all : List RawEntry) where
  -- entry p is entry k, or one above it
  abbrev Up : ℕ → ℕ → Type 0
  Up k p = (n : ℕ) × IsUp (map as_entry all) n k p

  -- an entry's parent is right before it, or above that
  abbrev IsFine : ℕ → RawEntry → Type 0
  IsFine number e = (k p : ℕ) → number ≡ k + 1 → e.parent ≡ Some p → Up k p

  abbrev AreFine : ℕ → List RawEntry → Type 0
  AreFine number [] = Unit {0}
  AreFine number (e ∷ es) = IsFine number e × AreFine (number + 1) es

  fine_both : (number : ℕ) (xs ys : List RawEntry) → AreFine number xs → AreFine (number + length xs) ys → AreFine number (xs ++ ys)
  fine_both number [] ys h k = subst (λ (n : ℕ). AreFine n ys) (omega arith) k
  fine_both number (x ∷ xs) ys h k = (h.0, fine_both (number + 1) xs ys h.1 (subst (λ (n : ℕ). AreFine n ys) (omega arith) k))

  -- one more parent up
  up_more : (n k a p : ℕ) (e : RawEntry) → IsUp (map as_entry all) n k a → slice_get all a ≡ Some e → e.parent ≡ Some p → Up k p
  up_more zero k a p e up stands parent = (1, (as_entry e, p, subst (λ (x : ℕ). slice_get (map as_entry all) x ≡ Some (as_entry e)) up (raw_stands all a e stands), parent, refl))
  up_more (suc n) k a p e up stands parent =
      let more = up_more n up.1 a p e up.4 stands parent in
      (suc more.0, (up.0, up.1, up.2, up.3, more.1))

  same_some : (p q : ℕ) (o : Option ℕ) → o ≡ Some p → o ≡ Some q → p ≡ q
  same_some p q o e f = cc

  -- trees whose entries stand from a number on, below an entry to which the one right before them leads up: so does their last one
  trees_fine : (unit : ℕ) (forest : Forest) (k p : ℕ) → StandFrom (k + 1) (preorder unit (Some p) (k + 1) forest) all → Up k p
      → AreFine (k + 1) (preorder unit (Some p) (k + 1) forest) × Up (k + size forest) p
  trees_fine unit no_more k p h up = (tt, subst (λ (n : ℕ). Up n p) (omega arith) up)
  trees_fine unit (tree node kids others) k p h up =
      let here = entry_of unit (Some p) node in
      let below = preorder unit (Some (k + 1)) (k + 1 + 1) kids in
      let behind = preorder unit (Some p) (k + 1 + 1 + size kids) others in
      let rest = behind_stand (k + 1) here (below ++ behind) all h in
      let first = trees_fine unit kids (k + 1) (k + 1) (left_stand (k + 1 + 1) below behind all rest) (0, refl) in
      let above = up_more first.1.0 (k + 1 + size kids) (k + 1) p here first.1.1 (first_stands (k + 1) here (below ++ behind) all h) refl in
      let long : length below ≡ size kids = length_preorder unit (Some (k + 1)) (k + 1 + 1) kids in
      let moved : k + 1 + 1 + size kids ≡ k + 1 + size kids + 1 = omega arith in
      let there = subst (λ (n : ℕ). StandFrom n behind all) (ap (λ (n : ℕ). k + 1 + 1 + n) long) (right_stand (k + 1 + 1) below behind all rest) in
      let last = trees_fine unit others (k + 1 + size kids) p (subst (λ (n : ℕ). StandFrom n (preorder unit (Some p) n others) all) moved there) above in
      let fine_behind : AreFine (k + 1 + 1 + length below) behind =
      subst (λ (n : ℕ). AreFine n behind) (ap (λ (n : ℕ). k + 1 + 1 + n) (sym long)) (subst (λ (n : ℕ). AreFine n (preorder unit (Some p) n others)) (sym moved) last.0) in (
        ((λ j q is parent. subst (λ (x : ℕ). Up x q) (omega (arith, is)) (subst (Up k) (same_some p q (Some p) refl parent) up)), fine_both (k + 1 + 1) below behind first.0 fine_behind),
        subst (λ (n : ℕ). Up n p) (omega arith) last.1,
      )

  unit_fine : (unit number : ℕ) (t : UnitTree) → StandFrom number (unit_entries unit number t) all → AreFine number (unit_entries unit number t)
  unit_fine unit number t h =
      let kids = trees_fine unit t.kids number number (behind_stand number (entry_of unit None t.root) (preorder unit (Some number) (number + 1) t.kids) all h) (0, refl) in
      ((λ k p is parent. absurd cc), kids.0)

  units_fine : (ts : List UnitTree) (unit number : ℕ) → StandFrom number (entries_of unit number ts) all → AreFine number (entries_of unit number ts)
  units_fine [] unit number h = tt
  units_fine (t ∷ ts) unit number h =
      let here = unit_entries unit number t in
      let others = entries_of (suc unit) (number + 1 + size t.kids) ts in
      let long : length here ≡ 1 + size t.kids = let l = length_preorder unit (Some number) (number + 1) t.kids in omega (arith, l) in
      let place : number + length here ≡ number + 1 + size t.kids = omega (arith, long) in
      let there = subst (λ (n : ℕ). StandFrom n others all) place (right_stand number here others all h) in
      fine_both number here others (unit_fine unit number t (left_stand number here others all h)) (subst (λ (n : ℕ). AreFine n others) (sym place) (units_fine ts (suc unit) (number + 1 + size t.kids) there))

-- ---- roots

-- the first entry of a unit has no parent
abbrev pub HasRoot : List Entry → InUnit → Type 0
HasRoot all u = (e : Entry) → Stands all u.first e → e.parent ≡ None

pub trees_rooted : (ts : List UnitTree) → All (HasRoot (map as_entry (entries_of 0 0 ts))) (in_units 0 ts)
trees_rooted ts k d lt e stands =
    let was = raw_stood (entries_of 0 0 ts) (get_or (in_units 0 ts) k d).first e stands in
    ap (λ (x : Entry). x.parent) was.2 ∙ subst (λ (o : Option RawEntry). IfSome o (λ x. x.parent ≡ None)) was.1 (rooted ts k d lt)

-- ---- all entries

fine_at : (all : List RawEntry) (number : ℕ) (xs : List RawEntry) (i : ℕ) (e : RawEntry) → AreFine all number xs → slice_get xs i ≡ Some e → IsFine all (number + i) e
fine_at all number [] i e h is = absurd cc
fine_at all number (x ∷ xs) zero e h is = let same : x ≡ e = cc in let at : number ≡ number + 0 = omega arith in subst (IsFine all (number + 0)) same (subst (λ (n : ℕ). IsFine all n x) at h.0)
fine_at all number (x ∷ xs) (suc i) e h is = let at : number + 1 + i ≡ number + suc i = omega arith in subst (λ (n : ℕ). IsFine all n e) at (fine_at all (number + 1) xs i e h.1 is)

pub trees_preorder : (ts : List UnitTree) → ArePreorder (map as_entry (entries_of 0 0 ts))
trees_preorder ts k p e stands parent =
    let all = entries_of 0 0 ts in
    let fine = units_fine all ts 0 0 (all_stand all) in
    let was = raw_stood all (k + 1) e stands in
    fine_at all 0 all (k + 1) was.0 fine was.1 k p (omega arith) (ap (λ (x : Entry). x.parent) (sym was.2) ∙ parent)
