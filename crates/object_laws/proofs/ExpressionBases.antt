-- What stands around a base type in the operands of an operation, and how long it is.
use Rattle.std.proofs.Common.{◌≡◌, ℕ, suc, ◌+◌, List, [], ◌∷◌, ◌++◌, length, take, drop, Some, refl, sym, ap, ap₂, subst, ◌∙◌, append-nil, length-append, arith}
use Rattle.std.proofs.lemmas.Bool.{lt-ltb, le-ltb}
use Rattle.ds_base.specs.Leb.{IsSpelled, last, more}
use Rattle.dwarf_types.specs.Spelled.{Followed, IsUleb, IsNumber, IsCopy}
use Rattle.dwarf_types.specs.SpelledOperands.{SpellsOperands}
use Rattle.dwarf_types.specs.declared.operands.Named.TheVariants.{BaseType}
use Rattle.dwarf_types.specs.declared.operands.Operands.{Operands}
use Rattle.dwarf_types.specs.declared.operands.Operands.TheVariants as operands
use Rattle.dwarf_types.specs.Expressions.{typed_len}
use Rattle.dwarf_types.specs.LinkedExpressions.{front_leb, before_base, behind_base}
use Rattle.dwarf_types.specs.WholeParts.{SpellsAround}
use Rattle.expr_walk.specs.Length.{front_leb_len, plain_len}

-- ---- the LEB number at the front of some bytes

pub front_is : (leb behind : List ℕ) → IsSpelled leb → front_leb (leb ++ behind) ≡ leb
front_is _ behind (last b lt) = rw (lt-ltb b 128 lt) refl
front_is _ behind (more b bs ge fits spelled) = rw (le-ltb b 128 ge) (ap (λ (xs : List ℕ). b ∷ xs) (front_is bs behind spelled))

pub front_long : (leb behind : List ℕ) → IsSpelled leb → front_leb_len (leb ++ behind) ≡ length leb
front_long _ behind (last b lt) = rw (lt-ltb b 128 lt) refl
front_long _ behind (more b bs ge fits spelled) = let rest = front_long bs behind spelled in rw (le-ltb b 128 ge) (omega (arith, rest))

drop_front : (front behind : List ℕ) → drop (length front) (front ++ behind) ≡ behind
drop_front [] behind = refl
drop_front (x ∷ xs) behind = drop_front xs behind

take_front : (front behind : List ℕ) → take (length front) (front ++ behind) ≡ front
take_front [] behind = refl
take_front (x ∷ xs) behind = ap (λ (ys : List ℕ). x ∷ ys) (take_front xs behind)

-- ---- the operands behind the code

pub around : (row : Operands) (bytes : List ℕ) (base : ℕ) → SpellsOperands row bytes (BaseType base) → SpellsAround row (before_base (Some row) bytes) (behind_base (Some row) bytes)
around operands.Empty bytes base spells = absurd (let e = spells.1 in cc)
around operands.Address bytes base spells = absurd (let e = spells.is in cc)
around (operands.Fixed width) bytes base spells = absurd (let e = spells.is in cc)
around operands.Uleb bytes base spells = absurd (let e = spells.is in cc)
around operands.Sleb bytes base spells = absurd (let e = spells.is in cc)
around operands.UlebSleb bytes base spells = absurd (let e = spells.second.is in cc)
around operands.UlebUleb bytes base spells = absurd (let e = spells.second.is in cc)
around operands.Block bytes base spells = absurd (let e = spells.is in cc)
around operands.BaseBlock bytes base spells =
    let f = spells.front in let b = spells.back in
    let front : front_leb bytes ≡ f = ap front_leb spells.is ∙ front_is f b spells.first.spelled in
    let behind : drop (length (front_leb bytes)) bytes ≡ b = ap₂ (λ (xs ys : List ℕ). drop (length xs) ys) front spells.is ∙ drop_front f b in
    let made = spells.second.second in (
      refl,
      made.of,
      subst (λ (xs : List ℕ). Followed (IsNumber 1) (λ n. IsCopy n) xs made.of) (sym behind)
          (record { value = spells.second.value; front = spells.second.front; back = spells.second.back; is = spells.second.is; first = spells.second.first; second = made.spells }),
    )
around operands.UlebBase bytes base spells =
    let f = spells.front in let b = spells.back in
    let front : front_leb bytes ≡ f = ap front_leb spells.is ∙ front_is f b spells.first.spelled in
    (spells.value, subst (λ (xs : List ℕ). IsUleb xs spells.value) (sym front) spells.first, refl)
around operands.ByteBase bytes base spells =
    let f = spells.front in let b = spells.back in
    let one : length f ≡ 1 = ap length spells.first.is in
    let front : take 1 bytes ≡ f = ap₂ (λ (n : ℕ) (xs : List ℕ). take n xs) (sym one) spells.is ∙ take_front f b in
    (spells.value, subst (λ (xs : List ℕ). IsNumber 1 xs spells.value) (sym front) spells.first, refl)
around operands.Base bytes base spells = (refl, refl)
around operands.Index bytes base spells = absurd (let e = spells.is in cc)
around operands.Expression bytes base spells = absurd spells
around operands.Outside bytes base spells = absurd spells

-- ---- lengths

-- behind a code the operands are as long as they are told to be with four bytes for the base type
pub around_long : (row : Operands) (code : ℕ) (bytes : List ℕ) (base : ℕ) → SpellsOperands row bytes (BaseType base)
    → typed_len (before_base (Some row) bytes) (behind_base (Some row) bytes) ≡ plain_len (Some row) (code ∷ bytes)
around_long operands.Empty code bytes base spells = absurd (let e = spells.1 in cc)
around_long operands.Address code bytes base spells = absurd (let e = spells.is in cc)
around_long (operands.Fixed width) code bytes base spells = absurd (let e = spells.is in cc)
around_long operands.Uleb code bytes base spells = absurd (let e = spells.is in cc)
around_long operands.Sleb code bytes base spells = absurd (let e = spells.is in cc)
around_long operands.UlebSleb code bytes base spells = absurd (let e = spells.second.is in cc)
around_long operands.UlebUleb code bytes base spells = absurd (let e = spells.second.is in cc)
around_long operands.Block code bytes base spells = absurd (let e = spells.is in cc)
around_long operands.BaseBlock code bytes base spells =
    let f = spells.front in let b = spells.back in
    let front : front_leb bytes ≡ f = ap front_leb spells.is ∙ front_is f b spells.first.spelled in
    let behind : length (drop (length (front_leb bytes)) bytes) ≡ length b = ap length (ap₂ (λ (xs ys : List ℕ). drop (length xs) ys) front spells.is ∙ drop_front f b) in
    let leb : front_leb_len bytes ≡ length f = ap front_leb_len spells.is ∙ front_long f b spells.first.spelled in
    omega (arith, behind, leb, ap length spells.is, length-append f b)
around_long operands.UlebBase code bytes base spells =
    let f = spells.front in let b = spells.back in
    let front : length (front_leb bytes) ≡ length f = ap length (ap front_leb spells.is ∙ front_is f b spells.first.spelled) in
    let leb : front_leb_len bytes ≡ length f = ap front_leb_len spells.is ∙ front_long f b spells.first.spelled in
    let behind : drop (front_leb_len bytes) bytes ≡ b = ap₂ (λ (n : ℕ) (ys : List ℕ). drop n ys) leb spells.is ∙ drop_front f b in
    let next : 1 + front_leb_len bytes ≡ suc (front_leb_len bytes) = omega arith in
    let there : front_leb_len (drop (1 + front_leb_len bytes) (code ∷ bytes)) ≡ length b =
    ap (λ (n : ℕ). front_leb_len (drop n (code ∷ bytes))) next ∙ ap front_leb_len (behind ∙ sym (append-nil b)) ∙ front_long b [] spells.second.spells.spelled in
    omega (arith, front, there, ap length spells.is, length-append f b)
around_long operands.ByteBase code bytes base spells =
    let f = spells.front in let b = spells.back in
    let one : length f ≡ 1 = ap length spells.first.is in
    let front : length (take 1 bytes) ≡ 1 = ap length (ap₂ (λ (n : ℕ) (xs : List ℕ). take n xs) (sym one) spells.is ∙ take_front f b) ∙ one in
    let behind : drop 1 bytes ≡ b = ap₂ (λ (n : ℕ) (xs : List ℕ). drop n xs) (sym one) spells.is ∙ drop_front f b in
    let there : front_leb_len (drop 1 bytes) ≡ length b = ap front_leb_len (behind ∙ sym (append-nil b)) ∙ front_long b [] spells.second.spells.spelled in
    omega (arith, front, there, one, ap length spells.is, length-append f b)
around_long operands.Base code bytes base spells =
    let leb : front_leb_len bytes ≡ length bytes = ap front_leb_len (sym (append-nil bytes)) ∙ front_long bytes [] spells.spells.spelled in
    omega (arith, leb)
around_long operands.Index code bytes base spells = absurd (let e = spells.is in cc)
around_long operands.Expression code bytes base spells = absurd spells
around_long operands.Outside code bytes base spells = absurd spells
