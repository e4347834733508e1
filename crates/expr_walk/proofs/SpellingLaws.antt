-- What is read of an expression is spelled so, and what is spelled so is read.
use Rattle.std.proofs.Common.{◌≡◌, ℕ, zero, suc, ◌+◌, ◌-◌, ◌<◌, Bool, true, false, cond, eqb, List, [], ◌∷◌, ◌++◌, length, take, Some, None, Result, Ok, Err, refl, sym, ap, ap₂, subst, ◌∙◌, append_assoc, arith}
use Rattle.std.specs.List.{flat_map}
use Rattle.std.proofs.lemmas.Bool.{ne_eqb, eq-eqb}
use Rattle.std.proofs.lemmas.List.{append_cancel_right, append-nil, length-append}
use Rattle.std.proofs.lemmas.List.Concat.{flat_map-cons}
use Rattle.std.proofs.Math.Seq.{take-length}
use Rattle.ds_base.specs.declared.fault.Fault.{Fault}
use Rattle.ds_base.specs.declared.fault.Part.{Part}
use Rattle.ds_base.specs.Spot.{Spot, rest, start}
use Rattle.ds_base.specs.Reading.{◌>>=◌, bytes_at, number_at, uleb_at, sleb_at}
use Rattle.dwarf_types.specs.Spelled.{Followed, Made, IsUleb, IsSleb, IsNumber, IsCopy, AreBytes}
use Rattle.dwarf_types.specs.declared.expr.Op.{Op}
use Rattle.dwarf_types.specs.declared.expr.PlainOp.{PlainOp}
use Rattle.ds_base.proofs.Passing.{bind_ok, ok_is}
use Rattle.dwarf_types.proofs.Readers.{IsBytes-from, Stands, Again, Reader, Both, both_reader, made_reader, nothing_reader, renamed_reader, bytes_reader, number_reader, uleb_reader, sleb_reader, length_rest as length_rest_is}
use Rattle.dwarf_types.specs.declared.operands.Operands.{Operands}
use Rattle.dwarf_types.specs.declared.operands.Operands.TheVariants as operands
use Rattle.dwarf_types.specs.declared.operands.Named.{Named}
use Rattle.dwarf_types.specs.declared.operands.Named.TheVariants.{Nothing, Address, BaseType, Index}
use Rattle.dwarf_types.specs.Operations.{operands_of}
use Rattle.expr_walk.specs.Reading.{naming, block_at, base_block_at, operands_at, bytes_up_to, is_outside, code_at, plain_from, plain_at, all_at, expression_of, placed_from, inner_of, entry_value_from, op_from, op_at, walk_of, address_in, base_in, alone}
use Rattle.dwarf_types.specs.SpelledOperands.{SpellsBlock, SpellsOperands}
use Rattle.expr_walk.specs.Spelling.{IsPlain, Each, IsEntryValue, IsOp, an_entry_value, alone_it_is, SpellsExpression}
use Rattle.expr_walk.specs.Steps.{Ahead}
use Rattle.expr_walk.proofs.Cuts.{Keeps, Takes, Cuts, Items, plain_items, op_items, front, code_is, code_keeps, operands_keep, bytes_keep, uleb_keeps, up_to_is, with_row, plain_cuts, op_cuts, expression_whole}

-- ---- operands

followed_reader : {A B : Type 0} (read : Spot → Result (A × Spot) Fault) (next : A → Spot → Result (B × Spot) Fault) (First : List ℕ → A → Type 0) (Then : A → List ℕ → B → Type 0)
    → Reader read First → ((a : A) → Reader (next a) (Then a)) → Reader (λ s. read s >>= λ x. next x.0 x.1) (Followed First Then)
followed_reader read next First Then one two =
    renamed_reader _ (Both First Then) (Followed First Then)
    (λ bytes b w. record { value = w.value; front = w.front; back = w.back; is = w.is; first = w.first; second = w.second })
    (λ bytes b w. record { value = w.value; front = w.front; back = w.back; is = w.is; first = w.first; second = w.second })
    (both_reader read next First Then one two)

block_reader : Reader block_at SpellsBlock
unfolding block_at
block_reader = followed_reader uleb_at (λ n s. bytes_at n s) IsUleb (λ n. IsCopy n) uleb_reader (λ n. bytes_reader n)

base_block_reader : Reader base_block_at (SpellsOperands operands.BaseBlock)
unfolding base_block_at
base_block_reader =
    followed_reader uleb_at (λ base s. number_at 1 s >>= λ n. bytes_at n.0 n.1 >>= λ constant. Ok (BaseType base, constant.1)) IsUleb (λ base. Followed (IsNumber 1) (λ n. Made (λ constant. BaseType base) (IsCopy n))) uleb_reader
    (λ base. followed_reader (number_at 1) (λ n s. bytes_at n s >>= λ constant. Ok (BaseType base, constant.1)) (IsNumber 1) (λ n. Made (λ constant. BaseType base) (IsCopy n)) (number_reader 1)
    (λ n. made_reader (λ constant. BaseType base) (bytes_at n) (IsCopy n) (bytes_reader n)))

operands_reader : (row : Operands) (first : Spot) → Reader (operands_at row first) (SpellsOperands row)
unfolding operands_at
operands_reader operands.Empty first = nothing_reader Nothing
operands_reader operands.Address first = made_reader (λ n. Address n) (number_at 8) (IsNumber 8) (number_reader 8)
operands_reader (operands.Fixed width) first = made_reader (λ number. Nothing) (bytes_at width) (IsCopy width) (bytes_reader width)
operands_reader operands.Uleb first = made_reader (λ n. Nothing) uleb_at IsUleb uleb_reader
operands_reader operands.Sleb first = made_reader (λ z. Nothing) sleb_at IsSleb sleb_reader
operands_reader operands.UlebSleb first = followed_reader uleb_at (λ n s. naming (λ z. Nothing) (sleb_at s)) IsUleb (λ n. Made (λ z. Nothing) IsSleb) uleb_reader (λ n. made_reader (λ z. Nothing) sleb_at IsSleb sleb_reader)
operands_reader operands.UlebUleb first = followed_reader uleb_at (λ n s. naming (λ m. Nothing) (uleb_at s)) IsUleb (λ n. Made (λ m. Nothing) IsUleb) uleb_reader (λ n. made_reader (λ m. Nothing) uleb_at IsUleb uleb_reader)
operands_reader operands.Block first = made_reader (λ block. Nothing) block_at SpellsBlock block_reader
operands_reader operands.BaseBlock first = base_block_reader
operands_reader operands.UlebBase first = followed_reader uleb_at (λ n s. naming (λ base. BaseType base) (uleb_at s)) IsUleb (λ n. Made (λ base. BaseType base) IsUleb) uleb_reader (λ n. made_reader (λ base. BaseType base) uleb_at IsUleb uleb_reader)
operands_reader operands.ByteBase first = followed_reader (number_at 1) (λ n s. naming (λ base. BaseType base) (uleb_at s)) (IsNumber 1) (λ n. Made (λ base. BaseType base) IsUleb) (number_reader 1) (λ n. made_reader (λ base. BaseType base) uleb_at IsUleb uleb_reader)
operands_reader operands.Base first = made_reader (λ base. BaseType base) uleb_at IsUleb uleb_reader
operands_reader operands.Index first = made_reader (λ index. Index index) uleb_at IsUleb uleb_reader
operands_reader operands.Expression first = record { takes = λ s a t h e. absurd cc; again = λ s bytes a more h spells parts. absurd spells }
operands_reader operands.Outside first = record { takes = λ s a t h e. absurd cc; again = λ s bytes a more h spells parts. absurd spells }

-- ---- the code

code_reads : (version : ℕ) (s t : Spot) (code : ℕ) (row : Operands) → number_at 1 s ≡ Ok (code, t) → operands_of code ≡ Some row → is_outside version row ≡ false → code_at version s ≡ Ok (with_row code row, t)
unfolding code_at
code_reads version s t code row number known allowed = rw (number, known, allowed) refl

-- the bytes that an operation holds are those that were read
held : {A : Type 0} (items : Items A) (s t : Spot) (a : A) → Takes items s a t → items.bytes a ++ rest t ≡ rest s
held items s t a c = ap₂ (λ (xs : List ℕ) (u : Spot). xs ++ rest u) c.holds c.is ∙ front s c.count c.inside

up_to_bytes : (s t : Spot) (bytes : List ℕ) → Ahead s 1 t → rest s ≡ bytes ++ rest t → bytes_up_to s t.place ≡ bytes
up_to_bytes s t bytes a parts =
    let whole : take a.count (rest s) ++ rest t ≡ rest s = ap (λ (u : Spot). take a.count (rest s) ++ rest u) a.is ∙ front s a.count a.inside in
    up_to_is s t a ∙ append_cancel_right (take a.count (rest s)) bytes (rest t) (whole ∙ parts)

abbrev made : ℕ → List ℕ → Named → PlainOp
made code bytes named = record { code = code; bytes = bytes; address = address_in named; base = base_in named }

record PlainParts (first : Spot) (code : ℕ) (row : Operands) (s : Spot) (op : PlainOp) (t : Spot) : Type 0 where
  named : Named
  reads : operands_at row first s ≡ Ok (named, t)
  code_is : op.code ≡ code
  address : op.address ≡ address_in named
  base : op.base ≡ base_in named

plain_parts : (first : Spot) (code : ℕ) (row : Operands) (s : Spot) (op : PlainOp) (t : Spot) → plain_from first code row s ≡ Ok (op, t) → PlainParts first code row s op t
unfolding plain_from
plain_parts first code row s op t e =
    let b = bind_ok (operands_at row first s) (λ named. Ok (made code (bytes_up_to first named.1.place) named.0, named.1)) (op, t) e in
    subst (λ (p : PlainOp × Spot). PlainParts first code row s p.0 p.1) (ok_is (made code (bytes_up_to first b.0.1.place) b.0.0, b.0.1) (op, t) b.2) (record { named = b.0.0; reads = b.1; code_is = refl; address = refl; base = refl })

Each-push : {A : Type 0} (P : A → Type 0) (xs : List A) (x : A) → Each P xs → P x → Each P (xs ++ x ∷ [])
Each-push P [] x each one = (one, tt)
Each-push P (y ∷ xs) x each one = (each.0, Each-push P xs x each.1 one)

found_step : {A : Type 0} (read : Spot → Result (A × Spot) Fault) (P : A → Type 0) (left : ℕ) (before : List A) (ops : List A) (b : Bool) (r : Result (A × Spot) Fault)
    → ((a : A) (t : Spot) → r ≡ Ok (a, t) → P a × Stands t) → ((a : A) (t : Spot) → P a → Stands t → all_at read left (before ++ a ∷ []) t ≡ Ok ops → Each P ops) → Each P before
    → cond b (Ok before) (r >>= λ op. all_at read left (before ++ op.0 ∷ []) op.1) ≡ Ok ops → Each P ops
found_step read P left before ops true r one behind each e = subst (Each P) (ok_is before ops e) each
found_step read P left before ops false (Err f) one behind each e = absurd cc
found_step read P left before ops false (Ok p) one behind each e = let q = one p.0 p.1 refl in behind p.0 p.1 q.0 q.1 e

all_found : {A : Type 0} (read : Spot → Result (A × Spot) Fault) (P : A → Type 0) → ((s : Spot) (a : A) (t : Spot) → Stands s → read s ≡ Ok (a, t) → P a × Stands t) → (left : ℕ) (before : List A) (s : Spot) → Stands s
    → (ops : List A) → Each P before → all_at read left before s ≡ Ok ops → Each P ops
all_found read P takes zero before s h ops each e = absurd cc
all_found read P takes (suc left) before s h ops each e =
    found_step read P left before ops (eqb (s.end - s.place) 0) (read s) (λ a t is. takes s a t h is) (λ a t one stands is. all_found read P takes left (before ++ a ∷ []) t stands ops (Each-push P before a each one) is) each e

all_only : {A : Type 0} (read : Spot → Result (A × Spot) Fault) (items : Items A) (P : A → Type 0) → ((s : Spot) (a : A) (more : List ℕ) → Stands s → P a → rest s ≡ items.bytes a ++ more → Again read s a more)
    → ((a : A) → P a → 0 < length (items.bytes a)) → (ops : List A) (left : ℕ) (before : List A) (s : Spot) → Stands s → s.end - s.place < left → Each P ops → rest s ≡ flat_map items.bytes ops
    → all_at read left before s ≡ Ok (before ++ ops)
all_only read items P again some ops zero before s h enough each parts = absurd (omega (arith, enough))
all_only read items P again some [] (suc left) before s h enough each parts =
    let none : s.end - s.place ≡ 0 = omega (arith, length_rest_is s h, ap length parts) in
    rw (eq-eqb _ _ none) (ap (λ (xs : List _). Ok xs) (sym (append-nil before)))
all_only read items P again some (op ∷ ops) (suc left) before s h enough each parts =
    let whole : rest s ≡ items.bytes op ++ flat_map items.bytes ops = parts ∙ flat_map-cons items.bytes op ops in
    let f = again s op (flat_map items.bytes ops) h each.0 whole in
    let lens : s.end - s.place ≡ length (items.bytes op) + length (flat_map items.bytes ops) = omega (arith, length_rest_is s h, ap length whole, length-append (items.bytes op) (flat_map items.bytes ops)) in
    let one = some op each.0 in
    let fewer : f.next.end - f.next.place < left = omega (arith, length_rest_is f.next f.stands, ap length f.left, lens, one, enough) in
    rw (ne_eqb (s.end - s.place) 0 (λ e. omega (arith, lens, one)), f.reads) (all_only read items P again some ops left (before ++ op ∷ []) f.next f.stands fewer each.1 f.left ∙ ap (λ (xs : List _). Ok xs) (append_assoc before (op ∷ []) ops))

start_stands : (part : Part) (bytes : List ℕ) → AreBytes bytes → Stands (start part bytes)
start_stands part bytes sound =
    let whole : take (length bytes - 0) bytes ≡ bytes = ap (λ (n : ℕ). take n bytes) (omega arith) ∙ take-length bytes in
    record { place = record { before_end = omega arith; in_bytes = omega arith }; bytes = λ i. rw whole (IsBytes-from bytes sound i) }

start_rest : (part : Part) (bytes : List ℕ) → rest (start part bytes) ≡ bytes
start_rest part bytes = ap (λ (n : ℕ). take n bytes) (omega arith) ∙ take-length bytes

placed_ok : {A : Type 0} (first : ℕ) (r : Result A Fault) (x : A) → placed_from first r ≡ Ok x → r ≡ Ok x
placed_ok first (Ok y) x e = e
placed_ok first (Err f) x e = absurd cc

made_is : (op : PlainOp) (named : Named) → op.address ≡ address_in named → op.base ≡ base_in named → made op.code op.bytes named ≡ op
made_is op named address base = sym (ap₂ (λ a b. record { code = op.code; bytes = op.bytes; address = a; base = b }) address base)

coded_some : (code : ℕ) (front back bytes : List ℕ) → bytes ≡ front ++ back → IsNumber 1 front code → 0 < length bytes
coded_some code front back bytes is number =
    let one : length front ≡ 1 = ap length number.is in
    omega (arith, ap length is, length-append front back, one)

abbrev nested : ℕ → List ℕ → List PlainOp → Op
nested code bytes inner = record { code = code; bytes = bytes; address = None; base = None; inner = inner }

block_of : (s : Spot) (len : ℕ × Spot) (block : List ℕ × Spot) → uleb_at s ≡ Ok len → bytes_at len.0 len.1 ≡ Ok block → block_at s ≡ Ok block
unfolding block_at
block_of s len block number bytes = rw number bytes

nested_is : (op : Op) → op.address ≡ None → op.base ≡ None → nested op.code op.bytes op.inner ≡ op
nested_is op address base = sym (ap₂ (λ a b. record { code = op.code; bytes = op.bytes; address = a; base = b; inner = op.inner }) address base)

abbrev plain_of : Op → PlainOp
plain_of op = record { code = op.code; bytes = op.bytes; address = op.address; base = op.base }

alone_is : (op : Op) → op.inner ≡ [] → alone (plain_of op) ≡ op
alone_is op none = sym (ap (λ i. record { code = op.code; bytes = op.bytes; address = op.address; base = op.base; inner = i }) none)

record PlainAgain (version : ℕ) (s : Spot) (op : PlainOp) (more : List ℕ) : Type 0 where
  row : Operands
  behind : Spot
  coded : code_at version s ≡ Ok (with_row op.code row, behind)
  named : Named
  operands_bytes : List ℕ
  spells : SpellsOperands row operands_bytes named
  next : Spot
  reads : plain_from s op.code row behind ≡ Ok (op, next)
  left : rest next ≡ more
  stands : Stands next

record EntryParts (version : ℕ) (part : Part) (s : Spot) (op : Op) (t : Spot) (code : ℕ) : Type 0 where
  inside : List ℕ
  block : block_at s ≡ Ok (inside, t)
  inner : expression_of (plain_at version) part inside ≡ Ok op.inner
  code_is : op.code ≡ code
  address : op.address ≡ None
  base : op.base ≡ None

-- ---- operations of a unit of a version

module _ (version : ℕ) where
  -- ---- what is read

  plain_from_takes : (s c : Spot) (code : ℕ) (row : Operands) → Stands s → number_at 1 s ≡ Ok (code, c) → operands_of code ≡ Some row → is_outside version row ≡ false → (op : PlainOp) (t : Spot) → plain_from s code row c ≡ Ok (op, t) → op.bytes ++ rest t ≡ rest s
      → IsPlain version op × Stands t
  plain_from_takes s c code row h number known allowed op t e whole =
      let n = number_reader 1 in
      let f = n.takes s code c h number in
      let p = plain_parts s code row c op t e in
      let r = operands_reader row s in
      let g = r.takes c p.named t f.stands p.reads in
      let bytes : op.bytes ≡ f.bytes ++ g.bytes =
      append_cancel_right op.bytes (f.bytes ++ g.bytes) (rest t) (whole ∙ f.parts ∙ ap (λ (xs : List ℕ). f.bytes ++ xs) g.parts ∙ sym (append_assoc f.bytes g.bytes (rest t))) in (
        record {
          row = row;
          known = ap operands_of p.code_is ∙ known;
          inside = allowed;
          named = p.named;
          spells = record { front = f.bytes; back = g.bytes; is = bytes; first = subst (λ (k : ℕ). IsNumber 1 f.bytes k) (sym p.code_is) f.spells; second = g.spells };
          address = p.address;
          base = p.base;
        },
        g.stands,
      )

  plain_takes : (s : Spot) (op : PlainOp) (t : Spot) → Stands s → plain_at version s ≡ Ok (op, t) → IsPlain version op × Stands t
  unfolding plain_at
  plain_takes s op t h e =
      let b = bind_ok (code_at version s) (λ code. plain_from s code.0.0 code.0.1 code.1) (op, t) e in
      let c = code_is version s b.0 b.1 in
      plain_from_takes s b.0.1 b.0.0.0 b.0.0.1 h c.number c.known c.inside op t b.2 (held plain_items s t op (subst (Cuts plain_items s) e (plain_cuts version s)))

  -- ---- operations one after the other

  -- ---- what is spelled

  -- a cursor that stands behind the code, which was read
  coded_ahead : (s t : Spot) (code : ℕ) (row : Operands) → code_at version s ≡ Ok (with_row code row, t) → Ahead s 1 t
  coded_ahead s t code row e = subst (Keeps s 1) e (code_keeps version s)

  plain_from_again : (s : Spot) (op : PlainOp) (more : List ℕ) → Stands s → IsPlain version op → rest s ≡ op.bytes ++ more → PlainAgain version s op more
  unfolding plain_from
  plain_from_again s op more h w parts =
      let b = w.spells in
      let n = number_reader 1 in
      let whole = parts ∙ ap (λ (xs : List ℕ). xs ++ more) b.is ∙ append_assoc b.front b.back more in
      let f = n.again s b.front op.code (b.back ++ more) h b.first whole in
      let r = operands_reader w.row s in
      let g = r.again f.next b.back w.named more f.stands b.second f.left in
      let coded = code_reads version s f.next op.code w.row f.reads w.known w.inside in
      let ahead : Ahead s 1 g.next = subst (Keeps s 1) g.reads (operands_keep w.row s 1 f.next (coded_ahead s f.next op.code w.row coded)) in
      let up_to = up_to_bytes s g.next op.bytes ahead (parts ∙ ap (λ (xs : List ℕ). op.bytes ++ xs) (sym g.left)) in
      record {
        row = w.row;
        behind = f.next;
        coded = coded;
        named = w.named;
        operands_bytes = b.back;
        spells = b.second;
        next = g.next;
        reads = rw (g.reads, up_to) (ap (λ (o : PlainOp). Ok (o, g.next)) (made_is op w.named w.address w.base));
        left = g.left;
        stands = g.stands;
      }

  plain_again : (s : Spot) (op : PlainOp) (more : List ℕ) → Stands s → IsPlain version op → rest s ≡ op.bytes ++ more → Again (plain_at version) s op more
  unfolding plain_at
  plain_again s op more h w parts =
      let p = plain_from_again s op more h w parts in
      record { next = p.next; reads = rw p.coded p.reads; left = p.left; stands = p.stands }

  plain_some : (op : PlainOp) → IsPlain version op → 0 < length op.bytes
  plain_some op w = coded_some op.code w.spells.front w.spells.back op.bytes w.spells.is w.spells.first

  -- ---- entry values

  entry_parts : (part : Part) (first : Spot) (code : ℕ) (s : Spot) (op : Op) (t : Spot) → entry_value_from version part first code s ≡ Ok (op, t) → EntryParts version part s op t code
  unfolding entry_value_from inner_of
  entry_parts part first code s op t e =
      let l = bind_ok (uleb_at s) (λ len. bytes_at len.0 len.1 >>= λ inside. inner_of version inside.0 part len.1.place >>= λ inner. Ok (nested code (bytes_up_to first inside.1.place) inner, inside.1)) (op, t) e in
      let len : ℕ × Spot = l.0 in
      let i = bind_ok (bytes_at len.0 len.1) (λ inside. inner_of version inside.0 part len.1.place >>= λ inner. Ok (nested code (bytes_up_to first inside.1.place) inner, inside.1)) (op, t) l.2 in
      let inside : List ℕ × Spot = i.0 in
      let n = bind_ok (inner_of version inside.0 part len.1.place) (λ inner. Ok (nested code (bytes_up_to first inside.1.place) inner, inside.1)) (op, t) i.2 in
      subst (λ (p : Op × Spot). EntryParts version part s p.0 p.1 code) (ok_is (nested code (bytes_up_to first inside.1.place) n.0, inside.1) (op, t) n.2) (record {
        inside = inside.0;
        block = block_of s len inside l.1 i.1;
        inner = placed_ok len.1.place (expression_of (plain_at version) part inside.0) n.0 n.1;
        code_is = refl;
        address = refl;
        base = refl;
      })

  entry_takes : (part : Part) (s c : Spot) (code : ℕ) → Stands s → number_at 1 s ≡ Ok (code, c) → operands_of code ≡ Some operands.Expression → (op : Op) (t : Spot) → entry_value_from version part s code c ≡ Ok (op, t) → op.bytes ++ rest t ≡ rest s
      → IsOp version op × Stands t
  entry_takes part s c code h number known op t e whole =
      let n = number_reader 1 in
      let f = n.takes s code c h number in
      let p = entry_parts part s code c op t e in
      let r = block_reader in
      let g = r.takes c p.inside t f.stands p.block in
      let bytes : op.bytes ≡ f.bytes ++ g.bytes =
      append_cancel_right op.bytes (f.bytes ++ g.bytes) (rest t) (whole ∙ f.parts ∙ ap (λ (xs : List ℕ). f.bytes ++ xs) g.parts ∙ sym (append_assoc f.bytes g.bytes (rest t))) in
      let copy = g.spells.second in
      let all = (expression_whole (plain_at version) plain_items (plain_cuts version) part p.inside op.inner p.inner).0 in (
        an_entry_value (record {
          known = ap operands_of p.code_is ∙ known;
          spells = record { front = f.bytes; back = g.bytes; is = bytes; first = subst (λ (k : ℕ). IsNumber 1 f.bytes k) (sym p.code_is) f.spells; second = subst (λ (xs : List ℕ). SpellsBlock g.bytes xs) (sym all) g.spells };
          each = all_found (plain_at version) (IsPlain version) plain_takes (suc (length p.inside)) [] (start part p.inside) (start_stands part p.inside copy.sound) op.inner tt p.inner;
          address = p.address;
          base = p.base;
        }),
        g.stands,
      )

  inner_reads : (part : Part) (place : ℕ) (inner : List PlainOp) → Each (IsPlain version) inner → AreBytes (flat_map plain_items.bytes inner) → inner_of version (flat_map plain_items.bytes inner) part place ≡ Ok inner
  unfolding inner_of
  inner_reads part place inner each sound =
      let bytes : List ℕ = flat_map plain_items.bytes inner in
      ap (placed_from place) (all_only (plain_at version) plain_items (IsPlain version) plain_again plain_some inner (suc (length bytes)) [] (start part bytes) (start_stands part bytes sound) (omega arith) each (start_rest part bytes))

  entry_again : (part : Part) (s : Spot) (op : Op) (more : List ℕ) → Stands s → IsEntryValue version op → rest s ≡ op.bytes ++ more → Again (op_at version part) s op more
  unfolding op_at op_from entry_value_from
  entry_again part s op more h w parts =
      let b = w.spells in
      let d = b.second in
      let n = number_reader 1 in
      let whole = parts ∙ ap (λ (xs : List ℕ). xs ++ more) b.is ∙ append_assoc b.front b.back more in
      let f = n.again s b.front op.code (b.back ++ more) h b.first whole in
      let behind = f.left ∙ ap (λ (xs : List ℕ). xs ++ more) d.is ∙ append_assoc d.front d.back more in
      let u = uleb_reader in
      let g = u.again f.next d.front d.value (d.back ++ more) f.stands d.first behind in
      let c = bytes_reader d.value in
      let k = c.again g.next d.back (flat_map plain_items.bytes op.inner) more g.stands d.second g.left in
      let coded = code_reads version s f.next op.code operands.Expression f.reads w.known refl in
      let at_len : Ahead s 1 g.next = subst (Keeps s 1) g.reads (uleb_keeps s 1 f.next (coded_ahead s f.next op.code operands.Expression coded)) in
      let ahead : Ahead s 1 k.next = subst (Keeps s 1) k.reads (bytes_keep s 1 d.value g.next at_len) in
      let up_to = up_to_bytes s k.next op.bytes ahead (parts ∙ ap (λ (xs : List ℕ). op.bytes ++ xs) (sym k.left)) in
      let inner = inner_reads part g.next.place op.inner w.each d.second.sound in
      record { next = k.next; reads = rw (coded, g.reads, k.reads, inner, up_to) (ap (λ (o : Op). Ok (o, k.next)) (nested_is op w.address w.base)); left = k.left; stands = k.stands }

  -- ---- operations of an outermost expression

  row_takes : (part : Part) (s c : Spot) (code : ℕ) (row : Operands) → Stands s → number_at 1 s ≡ Ok (code, c) → operands_of code ≡ Some row → is_outside version row ≡ false → (op : Op) (t : Spot) → op_from version part s code row c ≡ Ok (op, t) → op.bytes ++ rest t ≡ rest s
      → IsOp version op × Stands t
  unfolding op_from
  row_takes part s c code operands.Expression h number known allowed op t e whole = entry_takes part s c code h number known op t e whole
  row_takes part s c code row h number known allowed op t e whole =
      let b = bind_ok (plain_from s code row c) (λ plain. Ok (alone plain.0, plain.1)) (op, t) e in
      subst (λ (p : Op × Spot). p.0.bytes ++ rest p.1 ≡ rest s → IsOp version p.0 × Stands p.1) (ok_is (alone b.0.0, b.0.1) (op, t) b.2)
      (λ all. let r = plain_from_takes s c code row h number known allowed b.0.0 b.0.1 b.1 all in (alone_it_is (record { plain = r.0; inner = refl }), r.1)) whole

  op_takes : (part : Part) (s : Spot) (op : Op) (t : Spot) → Stands s → op_at version part s ≡ Ok (op, t) → IsOp version op × Stands t
  unfolding op_at
  op_takes part s op t h e =
      let b = bind_ok (code_at version s) (λ code. op_from version part s code.0.0 code.0.1 code.1) (op, t) e in
      let c = code_is version s b.0 b.1 in
      row_takes part s b.0.1 b.0.0.0 b.0.0.1 h c.number c.known c.inside op t b.2 (held op_items s t op (subst (Cuts op_items s) e (op_cuts version part s)))

  -- the row of an operation that is no entry value
  alone_row : (part : Part) (first : Spot) (code : ℕ) (row : Operands) (s : Spot) (bytes : List ℕ) (named : Named) → SpellsOperands row bytes named → op_from version part first code row s ≡ (plain_from first code row s >>= λ op. Ok (alone op.0, op.1))
  unfolding op_from
  alone_row part first code operands.Expression s bytes named spells = absurd spells
  alone_row part first code row s bytes named spells = refl

  op_again : (part : Part) (s : Spot) (op : Op) (more : List ℕ) → Stands s → IsOp version op → rest s ≡ op.bytes ++ more → Again (op_at version part) s op more
  unfolding op_at
  op_again part s op more h (an_entry_value w) parts = entry_again part s op more h w parts
  op_again part s op more h (alone_it_is w) parts =
      let p = plain_from_again s (plain_of op) more h w.plain parts in
      record {
        next = p.next;
        reads = rw (p.coded, alone_row part s op.code p.row p.behind p.operands_bytes p.named p.spells, p.reads) (ap (λ (o : Op). Ok (o, p.next)) (alone_is op w.inner));
        left = p.left;
        stands = p.stands;
      }

  op_some : (op : Op) → IsOp version op → 0 < length op.bytes
  op_some op (an_entry_value w) = coded_some op.code w.spells.front w.spells.back op.bytes w.spells.is w.spells.first
  op_some op (alone_it_is w) = plain_some (plain_of op) w.plain

  -- ---- expressions

  expression_found : (bytes : List ℕ) (part : Part) (first : ℕ) (ops : List Op) → AreBytes bytes → walk_of bytes part first version ≡ Ok ops → SpellsExpression version bytes ops
  unfolding walk_of
  expression_found bytes part first ops sound e =
      let read : expression_of (op_at version part) part bytes ≡ Ok ops = placed_ok first (expression_of (op_at version part) part bytes) ops e in
      record {
        whole = (expression_whole (op_at version part) op_items (op_cuts version part) part bytes ops read).0;
        each = all_found (op_at version part) (IsOp version) (op_takes part) (suc (length bytes)) [] (start part bytes) (start_stands part bytes sound) ops tt read;
      }

  expression_again : (bytes : List ℕ) (part : Part) (first : ℕ) (ops : List Op) → AreBytes bytes → SpellsExpression version bytes ops → walk_of bytes part first version ≡ Ok ops
  unfolding walk_of
  expression_again bytes part first ops sound w =
      ap (placed_from first) (all_only (op_at version part) op_items (IsOp version) (op_again part) op_some ops (suc (length bytes)) [] (start part bytes) (start_stands part bytes sound) (omega arith) w.each (start_rest part bytes ∙ sym w.whole))

pub expression_spelled : (bytes : List ℕ) (part : Part) (first version : ℕ) (ops : List Op) → AreBytes bytes → walk_of bytes part first version ≡ Ok ops → SpellsExpression version bytes ops
expression_spelled bytes part first version = expression_found version bytes part first

pub expression_read : (bytes : List ℕ) (part : Part) (first version : ℕ) (ops : List Op) → AreBytes bytes → SpellsExpression version bytes ops → walk_of bytes part first version ≡ Ok ops
expression_read bytes part first version = expression_again version bytes part first
