-- The file of an object of the debug map has a name that is text.
use Rattle.std.proofs.Common.{◌≡◌, ℕ, zero, suc, ◌+◌, ◌-◌, ◌<◌, ◌≤◌, Bool, true, false, not, nat_lt, List, [], ◌∷◌, length, take, get_or, Option, Some, None, Result, Ok, Err, refl, sym, ap, subst, ◌∙◌, arith}
use Rattle.std.specs.List.{All, suffix_len, before_last, ends_with, cons_option}
use Rattle.std.specs.Prelude.{nat_eq}
use Rattle.std.specs.Str.{is_utf8, IsUtf8}
use Rattle.std.proofs.lemmas.Bool.{eqb-true, ltb-true}
use Rattle.std.proofs.lemmas.List.{length-take, length-take-le, take-take, get_or-take}
use Rattle.std.proofs.Math.Seq.{take-length}
use Rattle.std.proofs.lemmas.List.Elements.{All-cons, All-nil}
use Rattle.std.proofs.lemmas.List.Sums.{suffix_len-le-length, suffix_len-take_no, suffix_len-take_yes}
use Rattle.std.proofs.lemmas.Str.{IsUtf8-from_is_utf8, is_utf8-from_IsUtf8, IsUtf8-take, IsCharBoundary-before_ascii}
use Rattle.ds_base.specs.declared.fault.Fault.{Fault}
use Rattle.ds_base.specs.Reading.{◌>>=◌, refuse_if}
use Rattle.macho_read.specs.declared.image.Image.{Image}
use Rattle.macho_read.specs.declared.image.Symbol.{Symbol}
use Rattle.stab_map.specs.declared.object.MapObject.{MapObject}
use Rattle.stab_map.specs.declared.object.MapEntry.{MapEntry}
use Rattle.stab_map.specs.declared.stab.Stab.{Stab}
use Rattle.stab_map.specs.declared.stab.Stab.TheVariants as stabs
use Rattle.stab_map.specs.Stab.{stab_of}
use Rattle.stab_map.specs.Origin.{origin_of, inside, is_open, closes}
use Rattle.stab_map.specs.DebugMap.{gather, stretch, entry_at, object_of, object_by, object_at, objects_of}
use Rattle.stab_map.specs.Addresses.{address_of}

-- ---- a path up to its last `(`

abbrev passes : ℕ → Bool
passes b = not (is_open b)

suc_less : (m : ℕ) → suc m - 1 ≡ m
suc_less m = omega arith

-- of the first m bytes, the last that doesn't pass
last_stops : (xs : List ℕ) (m : ℕ) → m ≤ length xs → 0 < m - suffix_len passes (take m xs) → passes (get_or xs (m - suffix_len passes (take m xs) - 1) 0) ≡ false
last_stops xs zero le some = absurd (omega arith)
last_stops xs (suc m) le some = by (λ some. last_stops xs m (omega arith) some) (passes (get_or xs m 0)) refl
  where
    by : (0 < m - suffix_len passes (take m xs) → passes (get_or xs (m - suffix_len passes (take m xs) - 1) 0) ≡ false) → (b : Bool) → passes (get_or xs m 0) ≡ b → passes (get_or xs (suc m - suffix_len passes (take (suc m) xs) - 1) 0) ≡ false
    by before false e =
        let here : passes (get_or xs (suc m - 1) 0) ≡ passes (get_or xs m 0) = ap (λ (i : ℕ). passes (get_or xs i 0)) (suc_less m) in
        let none : suffix_len passes (take (suc m) xs) ≡ 0 = suffix_len-take_no passes xs (suc m) 0 (omega arith) le (here ∙ e) in
        let at : suc m - suffix_len passes (take (suc m) xs) - 1 ≡ m = omega (arith, none) in
        ap (λ (i : ℕ). passes (get_or xs i 0)) at ∙ e
    by before true e =
        let here : passes (get_or xs (suc m - 1) 0) ≡ passes (get_or xs m 0) = ap (λ (i : ℕ). passes (get_or xs i 0)) (suc_less m) in
        let one : suffix_len passes (take (suc m) xs) ≡ 1 + suffix_len passes (take (suc m - 1) xs) = suffix_len-take_yes passes xs (suc m) 0 (omega arith) le (here ∙ e) in
        let front : suffix_len passes (take (suc m - 1) xs) ≡ suffix_len passes (take m xs) = ap (λ (i : ℕ). suffix_len passes (take i xs)) (suc_less m) in
        let at : suc m - suffix_len passes (take (suc m) xs) - 1 ≡ m - suffix_len passes (take m xs) - 1 = omega (arith, one, front) in
        ap (λ (i : ℕ). passes (get_or xs i 0)) at ∙ before (omega (arith, one, front))

-- of all bytes
all_stop : (xs : List ℕ) → 0 < length xs - suffix_len passes xs → passes (get_or xs (length xs - suffix_len passes xs - 1) 0) ≡ false
all_stop xs some =
    let same : suffix_len passes (take (length xs) xs) ≡ suffix_len passes xs = ap (suffix_len passes) (take-length xs) in
    sym (ap (λ (i : ℕ). passes (get_or xs (length xs - i - 1) 0)) same) ∙ last_stops xs (length xs) (omega arith) (omega (arith, same))

open_is : (b : ℕ) → passes b ≡ false → b ≡ 40
open_is b e = eqb-true b 40 (by (nat_eq b 40) e)
  where
    by : (t : Bool) → not t ≡ false → t ≡ true
    by true e = refl
    by false e = absurd (cc)

-- what stands before the `(` is text where the whole is
cut_is_text : (path : List ℕ) (n j : ℕ) → IsUtf8 path → n ≤ length path → j < n → get_or (take n path) j 0 ≡ 40 → IsUtf8 (take j (take n path))
cut_is_text path n j text le lt is =
    let same : get_or path j 0 ≡ 40 = sym (get_or-take n path j 0 lt) ∙ is in
    let cut : IsUtf8 (take j path) = IsUtf8-take path j text (IsCharBoundary-before_ascii path j (omega arith) (omega (arith, same))) in
    subst IsUtf8 (sym (take-take j n path (omega arith))) cut

front_is_text : (path : List ℕ) → IsUtf8 path → 0 < length (before_last is_open (take (length path - 1) path)) → IsUtf8 (before_last is_open (take (length path - 1) path))
front_is_text path text some =
    let inner = take (length path - 1) path in
    let len = length-take-le (length path - 1) path (omega arith) in
    let stops : 0 < length inner - suffix_len passes inner = omega (arith, length-take (length inner - suffix_len passes inner - 1) inner, suffix_len-le-length passes inner) in
    cut_is_text path (length path - 1) (length inner - suffix_len passes inner - 1) text (omega arith) (omega (arith, len)) (open_is _ (all_stop inner stops))

inside_is_text : (path : List ℕ) → IsUtf8 path → IsUtf8 (inside path (take (length path - 1) path)).file
inside_is_text path text = by (nat_lt 0 (length (before_last is_open (take (length path - 1) path)))) refl
  where
    by : (b : Bool) → nat_lt 0 (length (before_last is_open (take (length path - 1) path))) ≡ b → IsUtf8 (inside path (take (length path - 1) path)).file
    by false e = rw e text
    by true e = rw e (front_is_text path text (ltb-true _ _ e))

pub file_is_text : (path : List ℕ) → IsUtf8 path → IsUtf8 (origin_of path).file
unfolding origin_of
file_is_text path text = by (ends_with nat_eq path closes) refl
  where
    by : (b : Bool) → ends_with nat_eq path closes ≡ b → IsUtf8 (origin_of path).file
    by false e = rw e text
    by true e = rw e (inside_is_text path text)

-- ---- the objects of the map

abbrev ok_of : {X : Type 0} → X → Result X Fault
ok_of x = Ok x

the_ok : {X : Type 0} (x y : X) → ok_of x ≡ ok_of y → x ≡ y
the_ok x y e = cc

abbrev IsNamed : MapObject → Type 0
IsNamed o = is_utf8 o.file ≡ true

opened_is_named : (s : Symbol) (fault : Fault) (read : Result (List MapEntry) Fault) (o : MapObject)
    → (refuse_if (not (is_utf8 s.name)) fault >>= λ ok. read >>= λ entries. Ok (Some (object_of s.name entries))) ≡ Ok (Some o) → IsNamed o
opened_is_named s fault read o e = by (is_utf8 s.name) refl read e
  where
    by : (b : Bool) → is_utf8 s.name ≡ b → (r : Result (List MapEntry) Fault) → (refuse_if (not b) fault >>= λ ok. r >>= λ entries. Ok (Some (object_of s.name entries))) ≡ Ok (Some o) → IsNamed o
    by false is r e = absurd (cc)
    by true is (Err f) e = absurd (cc)
    by true is (Ok entries) e =
        let same : object_of s.name entries ≡ o = cc in
        subst IsNamed same (is_utf8-from_IsUtf8 _ (file_is_text s.name (IsUtf8-from_is_utf8 s.name is)))

module _ (address : List ℕ → Option ℕ) where
  object_is_named : (stab : Stab) (index : ℕ) (s : Symbol) (rest : List Symbol) (o : MapObject) → object_by address stab index s rest ≡ Ok (Some o) → IsNamed o
  object_is_named stabs.Object index s rest o e = opened_is_named s _ (gather (entry_at address) (index + 1) (stretch rest)) o e
  object_is_named stabs.End index s rest o e = absurd (cc)
  object_is_named stabs.Function index s rest o e = absurd (cc)
  object_is_named stabs.Size index s rest o e = absurd (cc)
  object_is_named stabs.Static index s rest o e = absurd (cc)
  object_is_named stabs.Global index s rest o e = absurd (cc)
  object_is_named stabs.Silent index s rest o e = absurd (cc)
  object_is_named stabs.Other index s rest o e = absurd (cc)

  objects_are_named : (index : ℕ) (symbols : List Symbol) (objects : List MapObject) → gather (object_at address) index symbols ≡ Ok objects → All IsNamed objects
  objects_are_named index [] objects e = subst (All IsNamed) (the_ok [] objects e) (All-nil IsNamed)
  objects_are_named index (s ∷ rest) objects e =
      by (object_at address index s rest) (gather (object_at address) (index + 1) rest) (λ o is. object_is_named (stab_of s) index s rest o is) (λ others is. objects_are_named (index + 1) rest others is) objects e
    where
      by : (r : Result (Option MapObject) Fault) (more : Result (List MapObject) Fault) → ((o : MapObject) → r ≡ Ok (Some o) → IsNamed o) → ((others : List MapObject) → more ≡ Ok others → All IsNamed others)
          → (objects : List MapObject) → (r >>= λ found. more >>= λ others. Ok (cons_option found others)) ≡ Ok objects → All IsNamed objects
      by (Err f) more one all objects e = absurd (cc)
      by (Ok found) (Err f) one all objects e = absurd (cc)
      by (Ok None) (Ok others) one all objects e = subst (All IsNamed) (the_ok others objects e) (all others refl)
      by (Ok (Some o)) (Ok others) one all objects e = subst (All IsNamed) (the_ok (o ∷ others) objects e) (All-cons IsNamed o others (one o refl) (all others refl))

pub all_are_named : (image : Image) (objects : List MapObject) → objects_of image ≡ Ok objects → All (λ o. is_utf8 o.file ≡ true) objects
unfolding objects_of
all_are_named image objects e = objects_are_named (address_of image) 0 image.symbols objects e
