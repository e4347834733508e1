-- Outermost expressions, part by part: an entry value is one operation, and all others are as they are inside of one.
use Rattle.std.proofs.Common.{◌≡◌, ◌<◌, ◌%◌, ◌^◌, ◌++◌, ℕ, suc, Bool, true, false, List, [], ◌∷◌, length, map, Option, Some, None, refl, sym, ap, ap₂, subst, ◌∙◌, append-nil, length-append, arith}
use Rattle.std.specs.List.{All, flat_map}
use Rattle.std.proofs.lemmas.List.Concat.{flat_map-append}
use Rattle.std.proofs.lemmas.List.Sums.{sum_by-cons}
use Rattle.ds_base.specs.Leb.{uleb}
use Rattle.dwarf_types.specs.declared.expr.Op.{Op}
use Rattle.dwarf_types.specs.declared.expr.PlainOp.{PlainOp}
use Rattle.dwarf_types.specs.declared.graph.Node.{Node}
use Rattle.dwarf_types.specs.declared.operands.Named.{Named}
use Rattle.dwarf_types.specs.declared.operands.Operands.{Operands}
use Rattle.dwarf_types.specs.declared.operands.Operands.TheVariants as operands
use Rattle.dwarf_types.specs.declared.parts.ExprPart.{ExprPart}
use Rattle.dwarf_types.specs.declared.parts.ExprPart.TheVariants as parts
use Rattle.dwarf_types.specs.declared.parts.PlainPart.{PlainPart}
use Rattle.dwarf_types.specs.declared.parts.PlainPart.TheVariants as plain
use Rattle.dwarf_types.specs.Expressions.{base_bytes, expression_bytes, expression_len, inner_bytes, inner_len, part_bytes, part_len, plain_part_bytes, plain_part_len}
use Rattle.dwarf_types.specs.LinkedExpressions.{as_part, joined}
use Rattle.dwarf_types.specs.Operations.{operands_of}
use Rattle.dwarf_types.specs.Spelled.{AreBytes, IsNumber}
use Rattle.dwarf_types.specs.SpelledOperands.{SpellsOperands}
use Rattle.dwarf_types.specs.WholeParts.{AreApart, IsWhole, IsWholePart, is_stretch}
use Rattle.expr_walk.specs.Reading.{alone}
use Rattle.expr_walk.specs.Spelling.{Each, IsEntryValue, IsOp, IsPlain, alone_it_is, an_entry_value}
use Rattle.written_laws.specs.ReadParts.{AreCodesOf, IsSaidAgain, LeadBack, SaysAgain, expression_told, op_told, part_told}
use Rattle.written_laws.proofs.BaseTypes.{TypedAgain, typed_again}
use Rattle.written_laws.proofs.Forms.{is_uleb}
use Rattle.written_laws.proofs.PlainParts.{says_again}
use Rattle.written_laws.proofs.Stretches.{part_of_none, stretch_cut}

-- ---- operations with none inside

-- an operation that is no entry value says what it says inside of one
told_row : (node : ℕ → Option ℕ) (row : Operands) (op : PlainOp) (bytes : List ℕ) (named : Named) → SpellsOperands row bytes named → op_told node (Some row) (alone op) ≡ as_part (part_told node op)
told_row node operands.Expression op bytes named h = absurd h
told_row node row op bytes named h = refl

told_alone : (node : ℕ → Option ℕ) (version : ℕ) (op : PlainOp) → IsPlain version op → op_told node (operands_of op.code) (alone op) ≡ as_part (part_told node op)
told_alone node version op w = ap (λ (row : Option Operands). op_told node row (alone op)) w.known ∙ told_row node w.row op w.spells.back w.named w.spells.second

is_alone : (version : ℕ) (op : PlainOp) → IsPlain version op → IsOp version (alone op)
is_alone version op w = alone_it_is (record { plain = w; inner = refl })

all_alone : (version : ℕ) (ops : List PlainOp) → Each (IsPlain version) ops → Each (IsOp version) (map alone ops)
all_alone version [] h = tt
all_alone version (op ∷ ops) h = (is_alone version op h.0, all_alone version ops h.1)

bytes_alone : (ops : List PlainOp) → flat_map (λ op. op.bytes) (map alone ops) ≡ flat_map (λ op. op.bytes) ops
bytes_alone [] = refl
bytes_alone (op ∷ ops) = ap (λ (b : List ℕ). op.bytes ++ b) (bytes_alone ops)

-- ---- joined again

abbrev BeginsOther : List ExprPart → Type 0
BeginsOther (parts.Plain bytes ∷ expression) = ⊥
BeginsOther expression = Unit {0}

one_before : (bytes : List ℕ) (rest : List ExprPart) → BeginsOther rest → joined (parts.Plain bytes) rest ≡ parts.Plain bytes ∷ rest
one_before bytes [] h = refl
one_before bytes (parts.Plain more ∷ rest) h = absurd h
one_before bytes (parts.Typed code before base after ∷ rest) h = refl
one_before bytes (parts.Nested code inner ∷ rest) h = refl

told_none : (node : ℕ → Option ℕ) (version : ℕ) (op : PlainOp) → IsPlain version op → op.base ≡ None → op_told node (operands_of op.code) (alone op) ≡ parts.Plain op.bytes
told_none node version op w none = told_alone node version op w ∙ ap as_part (part_of_none node op none)

-- operations that name no base type are one stretch, before what begins otherwise
joined_ops : (node : ℕ → Option ℕ) (version : ℕ) (ops : List PlainOp) (more : List Op) (rest : List ExprPart) → Each (IsPlain version) ops → Each (λ op. op.base ≡ None) ops → 0 < length ops → expression_told node more ≡ rest → BeginsOther rest
    → expression_told node (map alone ops ++ more) ≡ parts.Plain (flat_map (λ op. op.bytes) ops) ∷ rest
joined_ops node version [] more rest each none some is apart = absurd (omega (arith, some))
joined_ops node version (op ∷ []) more rest each none some is apart =
    ap (λ (p : ExprPart). joined p (expression_told node more)) (told_none node version op each.0 none.0) ∙ ap (joined (parts.Plain op.bytes)) is ∙ one_before op.bytes rest apart
    ∙ ap (λ (b : List ℕ). parts.Plain b ∷ rest) (sym (append-nil op.bytes))
joined_ops node version (op ∷ (next ∷ ops)) more rest each none some is apart =
    let r = joined_ops node version (next ∷ ops) more rest each.1 none.1 (omega arith) is apart in
    ap (λ (p : ExprPart). joined p (expression_told node (map alone (next ∷ ops) ++ more))) (told_none node version op each.0 none.0) ∙ ap (joined (parts.Plain op.bytes)) r

behind_stretch : (expression : List ExprPart) → AreApart (true ∷ map is_stretch expression) → BeginsOther expression
behind_stretch [] h = tt
behind_stretch (parts.Plain bytes ∷ expression) h = absurd h
behind_stretch (parts.Typed code before base after ∷ expression) h = tt
behind_stretch (parts.Nested code inner ∷ expression) h = tt

apart_behind : (b : Bool) (bs : List Bool) → AreApart (b ∷ bs) → AreApart bs
apart_behind true [] h = tt
apart_behind true (true ∷ bs) h = absurd h
apart_behind true (false ∷ bs) h = h
apart_behind false bs h = h

each_both : (version : ℕ) (xs ys : List Op) → Each (IsOp version) xs → Each (IsOp version) ys → Each (IsOp version) (xs ++ ys)
each_both version [] ys h g = g
each_both version (x ∷ xs) ys h g = (h.0, each_both version xs ys h.1 g)

-- ---- entry values

length_part : (place : ℕ → ℕ) (part : PlainPart) → length (plain_part_bytes place part) ≡ plain_part_len part
length_part place (plain.Plain bytes) = refl
length_part place (plain.Typed code before base after) = omega (arith, length-append before (base_bytes place base ++ after), length-append (base_bytes place base) after)

length_inner : (place : ℕ → ℕ) (inner : List PlainPart) → length (inner_bytes place inner) ≡ inner_len inner
length_inner place [] = refl
length_inner place (part ∷ inner) =
    omega (arith, length-append (plain_part_bytes place part) (inner_bytes place inner), length_part place part, length_inner place inner, sum_by-cons plain_part_len part inner)

bytes_back : (xs ys : List ℕ) → AreBytes (xs ++ ys) → AreBytes ys
bytes_back [] ys h = h
bytes_back (x ∷ xs) ys h = bytes_back xs ys h.1

bytes_front : (xs ys : List ℕ) → AreBytes (xs ++ ys) → AreBytes xs
bytes_front [] ys h = tt
bytes_front (x ∷ xs) ys h = (h.0, bytes_front xs ys h.1)

is_code : (code : ℕ) → code < 256 → IsNumber 1 (code ∷ []) code
is_code code lt = record { is = ap (λ (b : ℕ). b ∷ []) (let same : code ≡ code % 256 = omega (arith, lt) in same); fits = lt }

module _ (nodes : List Node) (place : ℕ → ℕ) (node : ℕ → Option ℕ) (version : ℕ) (lead : LeadBack nodes place node) where
  abbrev pub value_op : ℕ → List PlainPart → List PlainOp → Op
  value_op code inner ops = record { code = code; bytes = code ∷ (uleb (inner_len inner) ++ inner_bytes place inner); address = None; base = None; inner = ops }

  entry_value : (code : ℕ) (inner : List PlainPart) → operands_of code ≡ Some operands.Expression → code < 256 → inner_len inner < 2 ^ 64 → AreBytes (inner_bytes place inner) → (s : SaysAgain place node version inner)
      → IsEntryValue version (value_op code inner s.ops)
  entry_value code inner known byte lt bytes s = record {
    known = known;
    spells = record {
      front = code ∷ [];
      back = uleb (inner_len inner) ++ inner_bytes place inner;
      is = refl;
      first = is_code code byte;
      second = record {
        value = inner_len inner;
        front = uleb (inner_len inner);
        back = inner_bytes place inner;
        is = refl;
        first = is_uleb (inner_len inner) lt;
        second = record { is = sym s.whole; sound = subst AreBytes (sym s.whole) bytes; len = ap length s.whole ∙ length_inner place inner };
      };
    };
    each = s.each;
    address = refl;
    base = refl;
  }

  again : (expression : List ExprPart) → All (IsWholePart nodes) expression → AreApart (map is_stretch expression) → AreCodesOf expression → expression_len expression < 2 ^ 64 → AreBytes (expression_bytes place expression) → IsSaidAgain place node version expression
  again [] each apart codes short bytes = record { ops = []; spells = record { whole = refl; each = tt }; back = refl }
  again (parts.Plain stretch ∷ expression) each apart codes short bytes =
      let c = stretch_cut version stretch (each 0 (parts.Plain stretch) (omega arith)) in
      let r = again expression (λ i d within. each (suc i) d (omega (arith, within))) (apart_behind true (map is_stretch expression) apart) codes.1 (omega (arith, short, sum_by-cons part_len (parts.Plain stretch) expression)) (bytes_back stretch (expression_bytes place expression) bytes) in
      record {
        ops = map alone c.ops ++ r.ops;
        spells = record {
          whole = flat_map-append (λ (op : Op). op.bytes) (map alone c.ops) r.ops ∙ ap₂ (λ (xs ys : List ℕ). xs ++ ys) (bytes_alone c.ops ∙ c.whole) r.spells.whole;
          each = each_both version (map alone c.ops) r.ops (all_alone version c.ops c.each) r.spells.each;
        };
        back = joined_ops node version c.ops r.ops expression c.each c.none c.some r.back (behind_stretch expression apart) ∙ ap (λ (b : List ℕ). parts.Plain b ∷ expression) c.whole;
      }
  again (parts.Typed code before base after ∷ expression) each apart codes short bytes =
      let t : TypedAgain place node version code before base after = typed_again nodes place node lead version code before base after codes.0 (each 0 (parts.Typed code before base after) (omega arith)) in
      let r = again expression (λ i d within. each (suc i) d (omega (arith, within))) (apart_behind false (map is_stretch expression) apart) codes.1 (omega (arith, short, sum_by-cons part_len (parts.Typed code before base after) expression)) (bytes_back (part_bytes place (parts.Typed code before base after)) (expression_bytes place expression) bytes) in
      record {
        ops = alone t.op ∷ r.ops;
        spells = record { whole = ap₂ (λ (xs ys : List ℕ). xs ++ ys) t.is r.spells.whole; each = (is_alone version t.op t.plain_it_is, r.spells.each) };
        back = ap₂ (λ (p : ExprPart) (ps : List ExprPart). joined p ps) (told_alone node version t.op t.plain_it_is ∙ ap as_part t.says) r.back;
      }
  again (parts.Nested code inner ∷ expression) each apart codes short bytes =
      let w = each 0 (parts.Nested code inner) (omega arith) in
      let s = says_again nodes place node version lead inner w.1 codes.0.1 in
      let sum = sum_by-cons part_len (parts.Nested code inner) expression in
      let here = bytes_front (part_bytes place (parts.Nested code inner)) (expression_bytes place expression) bytes in
      let r = again expression (λ i d within. each (suc i) d (omega (arith, within))) (apart_behind false (map is_stretch expression) apart) codes.1 (omega (arith, short, sum)) (bytes_back (part_bytes place (parts.Nested code inner)) (expression_bytes place expression) bytes) in
      record {
        ops = value_op code inner s.ops ∷ r.ops;
        spells = record {
          whole = ap (λ (b : List ℕ). part_bytes place (parts.Nested code inner) ++ b) r.spells.whole;
          each = (an_entry_value (entry_value code inner w.0 codes.0.0 (omega (arith, short, sum)) (bytes_back (uleb (inner_len inner)) (inner_bytes place inner) here.1) s), r.spells.each);
        };
        back = ap₂ (λ (p : ExprPart) (ps : List ExprPart). joined p ps) (ap (λ (row : Option Operands). op_told node row (value_op code inner s.ops)) w.0 ∙ ap (parts.Nested code) s.back) r.back;
      }

  pub said_again : (expression : List ExprPart) → IsWhole nodes expression → AreCodesOf expression → expression_len expression < 2 ^ 64 → AreBytes (expression_bytes place expression) → IsSaidAgain place node version expression
  said_again expression w codes short bytes = again expression w.each w.apart codes short bytes
