-- Stretches of operations: cut into operations, and joined again.
use Rattle.std.proofs.Common.{◌≡◌, ℕ, suc, ◌<◌, false, List, [], ◌∷◌, ◌++◌, length, Option, None, refl, sym, ap, subst, ◌∙◌, append-nil, arith}
use Rattle.std.specs.List.{All, concat, flat_map}
use Rattle.dwarf_types.specs.declared.expr.PlainOp.{PlainOp}
use Rattle.dwarf_types.specs.declared.operands.Named.{Named}
use Rattle.dwarf_types.specs.declared.operands.Named.TheVariants.{Nothing, Address, BaseType, Index}
use Rattle.dwarf_types.specs.declared.operands.Operands.{Operands}
use Rattle.dwarf_types.specs.declared.operands.Operands.TheVariants as operands
use Rattle.dwarf_types.specs.declared.parts.PlainPart.{PlainPart}
use Rattle.dwarf_types.specs.declared.parts.PlainPart.TheVariants as plain
use Rattle.dwarf_types.specs.LinkedExpressions.{joined_plain}
use Rattle.dwarf_types.specs.SpelledOperands.{SpellsOperands}
use Rattle.dwarf_types.specs.WholeParts.{AreOperations, IsOperation, StandsAlone}
use Rattle.expr_walk.specs.Reading.{address_in, base_in, is_outside}
use Rattle.expr_walk.specs.Spelling.{Each, IsPlain}
use Rattle.written_laws.specs.ReadParts.{part_told, parts_told}

-- an operation that stands alone is read in every version
inside_row : (version : ℕ) (row : Operands) (bytes : List ℕ) (named : Named) → SpellsOperands row bytes named → StandsAlone named → is_outside version row ≡ false
inside_row version operands.Index bytes named h alone = absurd (subst StandsAlone h.is alone)
inside_row version row bytes named h alone = refl

no_base : (named : Named) → StandsAlone named → base_in named ≡ None
no_base Nothing h = refl
no_base (Address n) h = refl
no_base (BaseType n) h = absurd h
no_base (Index n) h = refl

-- bytes as one operation that names no base type
pub record Cut (version : ℕ) (bytes : List ℕ) : Type 0 where
  pub op : PlainOp
  pub is : op.bytes ≡ bytes
  pub none : op.base ≡ None
  pub plain_it_is : IsPlain version op

pub cut : (version : ℕ) (bytes : List ℕ) → IsOperation bytes → Cut version bytes
cut version bytes w = record {
  op = record { code = w.code; bytes = bytes; address = address_in w.named; base = base_in w.named };
  is = refl;
  none = no_base w.named w.alone;
  plain_it_is = record { row = w.row; known = w.known; inside = inside_row version w.row w.spells.back w.named w.spells.second w.alone; named = w.named; spells = w.spells; address = refl; base = refl };
}

-- so is each of some
pub record AllCut (version : ℕ) (bytes : List ℕ) : Type 0 where
  pub ops : List PlainOp
  pub whole : flat_map (λ op. op.bytes) ops ≡ bytes
  pub none : Each (λ op. op.base ≡ None) ops
  pub each : Each (IsPlain version) ops
  pub some : 0 < length ops

all_cut : (version : ℕ) (operations : List (List ℕ)) → All IsOperation operations → (ops : List PlainOp) × (flat_map (λ op. op.bytes) ops ≡ concat operations) × Each (λ op. op.base ≡ None) ops × Each (IsPlain version) ops × (length ops ≡ length operations)
all_cut version [] h = ([], refl, tt, tt, refl)
all_cut version (bytes ∷ more) h =
    let c = cut version bytes (h 0 bytes (omega arith)) in
    let r = all_cut version more (λ i d within. h (suc i) d (omega (arith, within))) in
    (c.op ∷ r.0, ap (λ (b : List ℕ). b ++ flat_map (λ (op : PlainOp). op.bytes) r.0) c.is ∙ ap (λ (b : List ℕ). bytes ++ b) r.1, (c.none, r.2), (c.plain_it_is, r.3), ap suc r.4)

pub stretch_cut : (version : ℕ) (bytes : List ℕ) → AreOperations bytes → AllCut version bytes
stretch_cut version bytes w =
    let r = all_cut version w.operations w.each in
    record { ops = r.0; whole = r.1 ∙ sym w.is; none = r.2; each = r.3; some = omega (arith, w.some, r.4) }

-- ---- joined again

-- no stretch stands first
abbrev pub BeginsApart : List PlainPart → Type 0
BeginsApart (plain.Plain bytes ∷ parts) = ⊥
BeginsApart parts = Unit {0}

-- a stretch of one operation before parts that begin otherwise
one_before : (bytes : List ℕ) (rest : List PlainPart) → BeginsApart rest → joined_plain (plain.Plain bytes) rest ≡ plain.Plain bytes ∷ rest
one_before bytes [] h = refl
one_before bytes (plain.Plain more ∷ rest) h = absurd h
one_before bytes (plain.Typed code before base after ∷ rest) h = refl

pub part_of_none : (node : ℕ → Option ℕ) (op : PlainOp) → op.base ≡ None → part_told node op ≡ plain.Plain op.bytes
part_of_none node op e = rw e refl

-- operations that name none are one stretch, before what begins otherwise
pub joined_again : (node : ℕ → Option ℕ) (ops more : List PlainOp) (rest : List PlainPart) → Each (λ op. op.base ≡ None) ops → 0 < length ops → parts_told node more ≡ rest → BeginsApart rest
    → parts_told node (ops ++ more) ≡ plain.Plain (flat_map (λ op. op.bytes) ops) ∷ rest
joined_again node [] more rest none some is apart = absurd (omega (arith, some))
joined_again node (op ∷ []) more rest none some is apart =
    ap (λ (p : PlainPart). joined_plain p (parts_told node more)) (part_of_none node op none.0) ∙ ap (joined_plain (plain.Plain op.bytes)) is ∙ one_before op.bytes rest apart
    ∙ ap (λ (b : List ℕ). plain.Plain b ∷ rest) (sym (append-nil op.bytes))
joined_again node (op ∷ (next ∷ ops)) more rest none some is apart =
    let r = joined_again node (next ∷ ops) more rest none.1 (omega arith) is apart in
    ap (λ (p : PlainPart). joined_plain p (parts_told node ((next ∷ ops) ++ more))) (part_of_none node op none.0) ∙ ap (joined_plain (plain.Plain op.bytes)) r
