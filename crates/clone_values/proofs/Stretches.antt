-- Parts that are cut one after another make the whole expression.
use Rattle.std.proofs.Common.{◌≡◌, ℕ, ◌+◌, ◌<◌, List, [], ◌∷◌, ◌++◌, length, drop, get_or, Option, Some, None, refl, sym, ap, ◌∙◌, append_assoc}
use Rattle.ds_base.proofs.Walking.{drop_one}
use Rattle.dwarf_types.specs.declared.expr.Op.{Op}
use Rattle.dwarf_types.specs.declared.expr.PlainOp.{PlainOp}
use Rattle.dwarf_types.specs.declared.graph.Target.{Target}
use Rattle.dwarf_types.specs.declared.operands.Operands.{Operands}
use Rattle.dwarf_types.specs.declared.operands.Operands.TheVariants as operands
use Rattle.dwarf_types.specs.declared.parts.ExprPart.{ExprPart}
use Rattle.dwarf_types.specs.declared.parts.ExprPart.TheVariants as parts
use Rattle.dwarf_types.specs.declared.parts.PlainPart.{PlainPart}
use Rattle.dwarf_types.specs.declared.parts.PlainPart.TheVariants as plain
use Rattle.dwarf_types.specs.LinkedExpressions.{as_part, joined, joined_plain, op_part, outside, parts_of, plain_part, plain_parts}
use Rattle.dwarf_types.specs.Operations.{operands_of}
use Rattle.clone_values.specs.Cut.{ended, with_op, with_plain}
use Rattle.clone_values.specs.declared.cutting.Cutting.{Cutting}

-- ---- any kind of parts, by how one is put before others

module _ {P : Type 0} (of_plain : PlainPart → P) (join : P → List P → List P) where
  -- the stretch so far, before what follows
  abbrev pub with_open : Option (List ℕ) → List P → List P
  with_open None rest = rest
  with_open (Some bytes) rest = join (of_plain (plain.Plain bytes)) rest

  -- all parts, of which those that are still to come are given
  abbrev pub whole : Cutting P → List P → List P
  whole cutting rest = cutting.parts ++ with_open cutting.stretch rest

  -- a part that is joined to no other
  record IsApart (part : P) : Type 0 where
    before : (rest : List P) → join part rest ≡ part ∷ rest
    behind : (bytes : List ℕ) (rest : List P) → join (of_plain (plain.Plain bytes)) (part ∷ rest) ≡ of_plain (plain.Plain bytes) ∷ part ∷ rest

  -- stretches become one, and operations that name a base type stay apart
  record Joins : Type 0 where
    twice : (a b : List ℕ) (rest : List P) → join (of_plain (plain.Plain (a ++ b))) rest ≡ join (of_plain (plain.Plain a)) (join (of_plain (plain.Plain b)) rest)
    typed : (code : ℕ) (before : List ℕ) (base : Option ℕ) (after : List ℕ) → IsApart (of_plain (plain.Typed code before base after))

  apart_step : (part : P) → IsApart part → (done : List P) (stretch : Option (List ℕ)) (rest : List P) → (done ++ (ended of_plain stretch ++ part ∷ [])) ++ rest ≡ done ++ with_open stretch (join part rest)
  apart_step part apart done None rest = append_assoc done (part ∷ []) rest ∙ ap (λ ps. done ++ ps) (sym (apart.before rest))
  apart_step part apart done (Some a) rest =
      append_assoc done (of_plain (plain.Plain a) ∷ part ∷ []) rest ∙ ap (λ ps. done ++ ps) (sym (ap (join (of_plain (plain.Plain a))) (apart.before rest) ∙ apart.behind a rest))

  plain_step : Joins → (part : PlainPart) (done : List P) (stretch : Option (List ℕ)) (rest : List P)
      → whole (with_plain of_plain part (record { parts = done; stretch = stretch })) rest ≡ done ++ with_open stretch (join (of_plain part) rest)
  plain_step joins (plain.Plain b) done None rest = refl
  plain_step joins (plain.Plain b) done (Some a) rest = ap (λ ps. done ++ ps) (joins.twice a b rest)
  plain_step joins (plain.Typed code before base after) done stretch rest = apart_step (of_plain (plain.Typed code before base after)) (joins.typed code before base after) done stretch rest

-- ---- inside an entry value

inside_twice : (a b : List ℕ) (rest : List PlainPart) → joined_plain (plain.Plain (a ++ b)) rest ≡ joined_plain (plain.Plain a) (joined_plain (plain.Plain b) rest)
inside_twice a b [] = refl
inside_twice a b (plain.Plain c ∷ rest) = ap (λ bytes. plain.Plain bytes ∷ rest) (append_assoc a b c)
inside_twice a b (plain.Typed code before base after ∷ rest) = refl

inside_joins : Joins (λ part. part) joined_plain
inside_joins = record { twice = inside_twice; typed = λ code before base after. record { before = λ rest. refl; behind = λ bytes rest. refl } }

pub inside_end : (stretch : Option (List ℕ)) → with_open (λ part. part) joined_plain stretch [] ≡ ended (λ part. part) stretch
inside_end None = refl
inside_end (Some a) = refl

-- one operation more of the loop
pub inside_more : (image : ℕ → Option Target) (ops : List PlainOp) (i : ℕ) (op : PlainOp) (before now : Cutting PlainPart) → i < length ops → op ≡ get_or ops i op → now ≡ with_plain (λ part. part) (plain_part image op) before
    → whole (λ part. part) joined_plain now (plain_parts image (drop (i + 1) ops)) ≡ whole (λ part. part) joined_plain before (plain_parts image (drop i ops))
inside_more image ops i op before now lt is made =
    rw (made, drop_one ops i op lt is) (plain_step (λ part. part) joined_plain inside_joins (plain_part image op) before.parts before.stretch (plain_parts image (drop (i + 1) ops)))

-- ---- the whole expression

part_twice : (a b : List ℕ) (rest : List ExprPart) → joined (parts.Plain (a ++ b)) rest ≡ joined (parts.Plain a) (joined (parts.Plain b) rest)
part_twice a b [] = refl
part_twice a b (parts.Plain c ∷ rest) = ap (λ bytes. parts.Plain bytes ∷ rest) (append_assoc a b c)
part_twice a b (parts.Typed code before base after ∷ rest) = refl
part_twice a b (parts.Nested code inner ∷ rest) = refl

part_joins : Joins as_part joined
part_joins = record { twice = part_twice; typed = λ code before base after. record { before = λ rest. refl; behind = λ bytes rest. refl } }

pub part_end : (stretch : Option (List ℕ)) → with_open as_part joined stretch [] ≡ ended as_part stretch
part_end None = refl
part_end (Some a) = refl

op_step : (image : ℕ → Option Target) (row : Option Operands) (op : Op) (cutting : Cutting ExprPart) (rest : List ExprPart)
    → whole as_part joined (with_op image row op cutting) rest ≡ whole as_part joined cutting (joined (op_part image row op) rest)
op_step image (Some operands.Expression) op cutting rest =
    apart_step as_part joined (parts.Nested op.code (plain_parts image op.inner)) (record { before = λ rest. refl; behind = λ bytes rest. refl }) cutting.parts cutting.stretch rest
op_step image row op cutting rest = plain_step as_part joined part_joins (plain_part image (outside op)) cutting.parts cutting.stretch rest

-- one operation more of the loop
pub part_more : (image : ℕ → Option Target) (ops : List Op) (i : ℕ) (op : Op) (before now : Cutting ExprPart) → i < length ops → op ≡ get_or ops i op → now ≡ with_op image (operands_of op.code) op before
    → whole as_part joined now (parts_of image (drop (i + 1) ops)) ≡ whole as_part joined before (parts_of image (drop i ops))
part_more image ops i op before now lt is made = rw (made, drop_one ops i op lt is) (op_step image (operands_of op.code) op before (parts_of image (drop (i + 1) ops)))
