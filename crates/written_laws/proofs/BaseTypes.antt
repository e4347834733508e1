-- Operations that name a base type.
use Rattle.std.proofs.Common.{◌≡◌, ◌==◌, ℕ, ◌<◌, ◌-◌, ◌%◌, ◌^◌, false, List, [], ◌∷◌, ◌++◌, length, take, drop, min, Option, Some, None, refl, sym, ap, ap₂, subst, ◌∙◌, append-nil, arith}
use Rattle.std.specs.Option.{option_map_or}
use Rattle.std.proofs.lemmas.Bool.{lt-ltb, le-ltb, ne_eqb}
use Rattle.ds_base.specs.Leb.{IsSpelled, last, more, leb_digits}
use Rattle.ds_base.proofs.LebShortest.{digits_spelled}
use Rattle.ds_base.proofs.LebValues.{value-four_digits}
use Rattle.dwarf_types.specs.declared.expr.PlainOp.{PlainOp}
use Rattle.dwarf_types.specs.declared.graph.Node.{Node}
use Rattle.dwarf_types.specs.declared.operands.Named.TheVariants.{BaseType}
use Rattle.dwarf_types.specs.declared.operands.Operands.{Operands}
use Rattle.dwarf_types.specs.declared.operands.Operands.TheVariants as operands
use Rattle.dwarf_types.specs.declared.parts.PlainPart.TheVariants as plain
use Rattle.dwarf_types.specs.Expressions.{typed_bytes}
use Rattle.dwarf_types.specs.LinkedExpressions.{front_leb, before_base, behind_base}
use Rattle.dwarf_types.specs.Spelled.{IsNumber, IsUleb}
use Rattle.dwarf_types.specs.SpelledOperands.{SpellsOperands}
use Rattle.dwarf_types.specs.WholeParts.{IsBase, IsTyped, SpellsAround}
use Rattle.expr_walk.specs.Reading.{base_of, is_outside}
use Rattle.expr_walk.specs.Spelling.{IsPlain}
use Rattle.written_laws.specs.ReadParts.{LeadBack, base_told, part_told}

-- ---- the LEB number at the front of some bytes

front_is : (leb behind : List ℕ) → IsSpelled leb → front_leb (leb ++ behind) ≡ leb
front_is _ behind (last b lt) = rw (lt-ltb b 128 lt) refl
front_is _ behind (more b bs ge fits spelled) = rw (le-ltb b 128 ge) (ap (λ (xs : List ℕ). b ∷ xs) (front_is bs behind spelled))

drop_front : (front behind : List ℕ) → drop (length front) (front ++ behind) ≡ behind
drop_front [] behind = refl
drop_front (x ∷ xs) behind = drop_front xs behind

-- ---- four digits

abbrev leb : ℕ → List ℕ
leb n = leb_digits false 4 n

is_leb : (n : ℕ) → n < 2 ^ 28 → IsUleb (leb n) n
is_leb n lt = record { spelled = digits_spelled false 4 n (omega arith); value = value-four_digits n lt; fits = omega (arith, lt) }

-- ---- the operands

-- what stands around a base type, with it
spelled_around : (row : Operands) (before after : List ℕ) (n : ℕ) → n < 2 ^ 28 → SpellsAround row before after → SpellsOperands row (before ++ (leb n ++ after)) (BaseType n)
spelled_around operands.Base before after n lt h =
    let whole : before ++ (leb n ++ after) ≡ leb n = ap₂ (λ (xs ys : List ℕ). xs ++ (leb n ++ ys)) h.0 h.1 ∙ append-nil (leb n) in
    record { of = n; spells = subst (λ (b : List ℕ). IsUleb b n) (sym whole) (is_leb n lt); is = refl }
spelled_around operands.BaseBlock before after n lt (none, constant, c) =
    let whole : before ++ (leb n ++ after) ≡ leb n ++ after = ap (λ (xs : List ℕ). xs ++ (leb n ++ after)) none in
    record {
      value = n;
      front = leb n;
      back = after;
      is = whole;
      first = is_leb n lt;
      second = record { value = c.value; front = c.front; back = c.back; is = c.is; first = c.first; second = record { of = constant; spells = c.second; is = refl } };
    }
spelled_around operands.UlebBase before after n lt (m, u, none) =
    let whole : leb n ++ after ≡ leb n = ap (λ (ys : List ℕ). leb n ++ ys) none ∙ append-nil (leb n) in
    record { value = m; front = before; back = leb n ++ after; is = refl; first = u; second = record { of = n; spells = subst (λ (b : List ℕ). IsUleb b n) (sym whole) (is_leb n lt); is = refl } }
spelled_around operands.ByteBase before after n lt (m, u, none) =
    let whole : leb n ++ after ≡ leb n = ap (λ (ys : List ℕ). leb n ++ ys) none ∙ append-nil (leb n) in
    record { value = m; front = before; back = leb n ++ after; is = refl; first = u; second = record { of = n; spells = subst (λ (b : List ℕ). IsUleb b n) (sym whole) (is_leb n lt); is = refl } }
spelled_around row before after n lt h = absurd h

-- and taken apart again
before_again : (row : Operands) (before after : List ℕ) (n : ℕ) → SpellsAround row before after → before_base (Some row) (before ++ (leb n ++ after)) ≡ before
before_again operands.Base before after n h = sym h.0
before_again operands.BaseBlock before after n h = sym h.0
before_again operands.UlebBase before after n (m, u, none) = front_is before (leb n ++ after) u.spelled
before_again operands.ByteBase before after n (m, u, none) = ap (λ (b : List ℕ). take 1 (b ++ (leb n ++ after))) u.is ∙ sym u.is
before_again row before after n h = absurd h

behind_again : (row : Operands) (before after : List ℕ) (n : ℕ) → n < 2 ^ 28 → SpellsAround row before after → behind_base (Some row) (before ++ (leb n ++ after)) ≡ after
behind_again operands.Base before after n lt h = sym h.1
behind_again operands.BaseBlock before after n lt h =
    let whole : before ++ (leb n ++ after) ≡ leb n ++ after = ap (λ (xs : List ℕ). xs ++ (leb n ++ after)) h.0 in
    ap (λ (b : List ℕ). drop (length (front_leb b)) b) whole
    ∙ ap (λ (b : List ℕ). drop (length b) (leb n ++ after)) (front_is (leb n) after (is_leb n lt).spelled) ∙ drop_front (leb n) after
behind_again operands.UlebBase before after n lt (m, u, none) = sym none
behind_again operands.ByteBase before after n lt (m, u, none) = sym none
behind_again row before after n lt h = absurd h

inside_row : (version : ℕ) (row : Operands) (before after : List ℕ) → SpellsAround row before after → is_outside version row ≡ false
inside_row version operands.Index before after h = absurd h
inside_row version row before after h = refl

is_code : (code : ℕ) → code < 256 → IsNumber 1 (code ∷ []) code
is_code code lt = record { is = ap (λ (b : ℕ). b ∷ []) (let same : code ≡ code % 256 = omega (arith, lt) in same); fits = lt }

-- ---- an operation

-- the operation that a part is, and the part that it says
pub record TypedAgain (place : ℕ → ℕ) (node : ℕ → Option ℕ) (version code : ℕ) (before : List ℕ) (base : Option ℕ) (after : List ℕ) : Type 0 where
  pub op : PlainOp
  pub is : op.bytes ≡ typed_bytes place code before base after
  pub plain_it_is : IsPlain version op
  pub says : part_told node op ≡ plain.Typed code before base after

module _ (nodes : List Node) (place : ℕ → ℕ) (node : ℕ → Option ℕ) (lead : LeadBack nodes place node) where
  small : (row : Operands) (base : Option ℕ) → IsBase nodes row base → option_map_or place base 0 < 2 ^ 28
  small row None h = omega arith
  small row (Some k) h = (lead k h).fits

  base_again : (row : Operands) (base : Option ℕ) → IsBase nodes row base → base_told node (base_of (option_map_or place base 0)) ≡ base
  base_again row None h = refl
  base_again row (Some k) h =
      let l = lead k h in
      let some : (place k == 0) ≡ false = ne_eqb (place k) 0 (λ e. absurd (omega (arith, e, l.some))) in
      let same : min (place k) (2 ^ 32 - 1) ≡ place k = omega (arith, l.fits) in
      rw some (ap node same ∙ l.back)

  pub typed_again : (version code : ℕ) (before : List ℕ) (base : Option ℕ) (after : List ℕ) → code < 256 → IsTyped nodes code before base after → TypedAgain place node version code before base after
  typed_again version code before base after byte w =
      let n : ℕ = option_map_or place base 0 in
      let lt : option_map_or place base 0 < 2 ^ 28 = small w.row base w.base_is in
      let behind : List ℕ = before ++ (leb (option_map_or place base 0) ++ after) in
      record {
        op = record { code = code; bytes = typed_bytes place code before base after; address = None; base = Some (base_of (option_map_or place base 0)) };
        is = refl;
        plain_it_is = record {
          row = w.row;
          known = w.known;
          inside = inside_row version w.row before after w.spells;
          named = BaseType (option_map_or place base 0);
          spells = record { front = code ∷ []; back = behind; is = refl; first = is_code code byte; second = spelled_around w.row before after (option_map_or place base 0) lt w.spells };
          address = refl;
          base = refl;
        };
        says =
            ap (λ (row : Option Operands). plain.Typed code (before_base row (before ++ (leb (option_map_or place base 0) ++ after))) (base_told node (base_of (option_map_or place base 0))) (behind_base row (before ++ (leb (option_map_or place base 0) ++ after)))) w.known
            ∙ ap₂ (λ (xs : List ℕ) (b : Option ℕ). plain.Typed code xs b (behind_base (Some w.row) (before ++ (leb (option_map_or place base 0) ++ after)))) (before_again w.row before after (option_map_or place base 0) w.spells) (base_again w.row base w.base_is)
            ∙ ap (plain.Typed code before base) (behind_again w.row before after (option_map_or place base 0) lt w.spells);
      }
