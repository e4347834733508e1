-- Where reading ends, and where its faults stand: not before the first byte and not behind the end.
use Rattle.std.proofs.Common.{◌≡◌, ℕ, zero, suc, ◌+◌, ◌-◌, ◌*◌, ◌^◌, ◌<◌, ◌≤◌, Bool, true, false, cond, ltb, eqb, List, [], ◌∷◌, ◌++◌, length, take, drop, Option, Some, None, Result, Ok, Err, refl, sym, ap, ap₂, subst, ◌∙◌, append_assoc, arith}
use Rattle.std.specs.List.{flat_map, sum_by}
use Rattle.std.proofs.lemmas.List.Sums.{sum_by_push}
use Rattle.std.proofs.Math.Nat.{mul-add}
use Rattle.std.proofs.lemmas.Bool.{ltb-false, eqb-true}
use Rattle.std.proofs.lemmas.List.{take-append-drop, take-take, drop-take, drop-drop, length-take, flat_map_more, append-nil}
use Rattle.std.proofs.Math.Seq.{take-length}
use Rattle.ds_base.proofs.Passing.{bind_ok, passed, guard_ok, found_ok, ok_is}
use Rattle.ds_base.proofs.Onward.{uleb_further}
use Rattle.ds_base.proofs.LebLengths.{few_digits}
use Rattle.ds_base.specs.declared.fault.Fault.{Fault}
use Rattle.ds_base.specs.declared.fault.Kind.{Kind}
use Rattle.ds_base.specs.declared.fault.Kind.TheVariants as kinds
use Rattle.ds_base.specs.declared.fault.Part.{Part}
use Rattle.ds_base.specs.declared.fault.ReadError.{ReadError}
use Rattle.ds_base.specs.declared.fault.ReadError.TheVariants as errors
use Rattle.ds_base.specs.Spot.{Spot, rest, after, fault_at, start}
use Rattle.ds_base.specs.Leb.{uleb_len_of, uleb_value, sleb_value, fits_i64}
use Rattle.ds_base.specs.Reading.{◌>>=◌, Gives, refuse_if, or_fault, index_below, bytes_at, number_at, leb_at, uleb_at, sleb_at}
use Rattle.dwarf_types.specs.declared.expr.Op.{Op}
use Rattle.dwarf_types.specs.declared.expr.PlainOp.{PlainOp}
use Rattle.dwarf_types.specs.declared.operands.Named.{Named}
use Rattle.dwarf_types.specs.declared.operands.Named.TheVariants.{Nothing, Address, BaseType, Index}
use Rattle.dwarf_types.specs.declared.operands.Operands.{Operands}
use Rattle.dwarf_types.specs.declared.operands.Operands.TheVariants as operands
use Rattle.dwarf_types.specs.Operations.{operands_of}
use Rattle.expr_walk.specs.Length.{front_leb_len, respelled_len, plain_len, inner_len, op_len}
use Rattle.expr_walk.specs.Reading.{naming, block_at, base_block_at, operands_at, bytes_up_to, is_outside, code_at, plain_from, plain_at, all_at, expression_of, placed_from, inner_of, entry_value_from, op_from, op_at, address_in, base_in, alone}
use Rattle.expr_walk.specs.Steps.{Ahead, is_placed_below}

-- a fault stands between first and its end
pub record Inside (first : Spot) (f : Fault) : Type 0 where
  pub count : ℕ
  pub is : f.place ≡ first.place + count
  pub inside : count ≤ first.end - first.place

abbrev pub Keeps : {A : Type 0} → Spot → ℕ → Result (A × Spot) Fault → Type 0
Keeps first low (Ok p) = Ahead first low p.1
Keeps first low (Err f) = Inside first f

at_once : (s : Spot) → Ahead s 0 s
at_once s = record { count = 0; is = ap (λ (p : ℕ). record s { place = p }) (omega arith); some = omega arith; inside = omega arith }

step : (first : Spot) (low least : ℕ) (s : Spot) (n : ℕ) → Ahead first low s → least ≤ low + n → n ≤ s.end - s.place → Ahead first least (after s n)
step first low least s n a few le =
    let end : s.end ≡ first.end = ap (λ (u : Spot). u.end) a.is in
    let place : s.place ≡ first.place + a.count = ap (λ (u : Spot). u.place) a.is in
    record {
      count = a.count + n;
      is = ap (λ (u : Spot). after u n) a.is ∙ ap (λ (p : ℕ). record first { place = p }) (omega arith);
      some = omega (arith, a.some);
      inside = omega (arith, a.inside);
    }

here : (first : Spot) (low : ℕ) (s : Spot) (kind : Kind) → Ahead first low s → Inside first (fault_at s kind)
here first low s kind a = record { count = a.count; is = ap (λ (u : Spot). u.place) a.is; inside = a.inside }

keeps_bind : {A B : Type 0} (first : Spot) (low least : ℕ) (r : Result (A × Spot) Fault) (f : A × Spot → Result (B × Spot) Fault) → Keeps first low r
    → ((p : A × Spot) → r ≡ Ok p → Ahead first low p.1 → Keeps first least (f p)) → Keeps first least (r >>= f)
keeps_bind first low least (Ok p) f k next = next p refl k
keeps_bind first low least (Err e) f k next = k

named_keeps : {A : Type 0} (first : Spot) (low : ℕ) (name : A → Named) (r : Result (A × Spot) Fault) → Keeps first low r → Keeps first low (naming name r)
named_keeps first low name (Ok p) k = k
named_keeps first low name (Err e) k = k

either : {A : Type 0} (first : Spot) (low : ℕ) (b : Bool) (x y : Result (A × Spot) Fault) → (b ≡ true → Keeps first low x) → (b ≡ false → Keeps first low y) → Keeps first low (cond b x y)
either first low true x y one other = one refl
either first low false x y one other = other refl

-- ---- items

pub bytes_keep : (first : Spot) (low : ℕ) (n : ℕ) (s : Spot) → Ahead first low s → Keeps first low (bytes_at n s)
unfolding bytes_at
bytes_keep first low n s a =
    either first low (ltb (s.end - s.place) n) (Err (fault_at s kinds.Truncated)) (Ok (take n (rest s), after s n))
    (λ e. here first low s kinds.Truncated a) (λ e. step first low low s n a (omega arith) (ltb-false _ _ e))

number_keeps : (first : Spot) (low least : ℕ) (n : ℕ) (s : Spot) → Ahead first low s → least ≤ low + n → Keeps first least (number_at n s)
unfolding number_at
number_keeps first low least n s a few =
    either first least (ltb (s.end - s.place) n) (Err (fault_at s kinds.Truncated)) (Ok (_, after s n))
    (λ e. here first low s kinds.Truncated a) (λ e. step first low least s n a few (ltb-false _ _ e))

pub length_rest : (s : Spot) → length (rest s) ≤ s.end - s.place
length_rest s = omega (arith, length-take (s.end - s.place) (drop s.place s.bytes))

-- a LEB number in the bytes up to one below 128
abbrev leb_from : {A : Type 0} → (List ℕ → A) → (A → Bool) → Spot → Option ℕ → Result (A × Spot) Fault
leb_from value fits s last = (or_fault last (fault_at s kinds.Truncated) >>= λ n. Ok (take (n + 1) (rest s))) >>= λ bytes. cond (fits (value bytes)) (Ok (value bytes, after s (length bytes))) (Err (fault_at s kinds.LebTooWide))

leb_keeps : {A : Type 0} (value : List ℕ → A) (fits : A → Bool) (first : Spot) (low : ℕ) (s : Spot) (last : Option ℕ) → Ahead first low s → Keeps first low (leb_from value fits s last)
leb_keeps value fits first low s None a = here first low s kinds.Truncated a
leb_keeps value fits first low s (Some n) a =
    either first low (fits (value (take (n + 1) (rest s)))) (Ok (value (take (n + 1) (rest s)), after s (length (take (n + 1) (rest s))))) (Err (fault_at s kinds.LebTooWide))
    (λ e. step first low low s (length (take (n + 1) (rest s))) a (omega arith) (omega (arith, length-take (n + 1) (rest s), length_rest s))) (λ e. here first low s kinds.LebTooWide a)

pub uleb_keeps : (first : Spot) (low : ℕ) (s : Spot) → Ahead first low s → Keeps first low (uleb_at s)
unfolding uleb_at leb_at
uleb_keeps first low s a = leb_keeps uleb_value (λ n. ltb n (2 ^ 64)) first low s (index_below 128 (rest s)) a

sleb_keeps : (first : Spot) (low : ℕ) (s : Spot) → Ahead first low s → Keeps first low (sleb_at s)
unfolding sleb_at leb_at
sleb_keeps first low s a = leb_keeps sleb_value fits_i64 first low s (index_below 128 (rest s)) a

block_keeps : (first : Spot) (low : ℕ) (s : Spot) → Ahead first low s → Keeps first low (block_at s)
unfolding block_at
block_keeps first low s a = keeps_bind first low low (uleb_at s) (λ n. bytes_at n.0 n.1) (uleb_keeps first low s a) (λ n e b. bytes_keep first low n.0 n.1 b)

base_block_keeps : (first : Spot) (low : ℕ) (s : Spot) → Ahead first low s → Keeps first low (base_block_at s)
unfolding base_block_at
base_block_keeps first low s a =
    keeps_bind first low low (uleb_at s) (λ base. number_at 1 base.1 >>= λ n. bytes_at n.0 n.1 >>= λ constant. Ok (BaseType base.0, constant.1)) (uleb_keeps first low s a)
    (λ base e b. keeps_bind first low low (number_at 1 base.1) (λ n. bytes_at n.0 n.1 >>= λ constant. Ok (BaseType base.0, constant.1)) (number_keeps first low low 1 base.1 b (omega arith))
    (λ n i c. keeps_bind first low low (bytes_at n.0 n.1) (λ constant. Ok (BaseType base.0, constant.1)) (bytes_keep first low n.0 n.1 c) (λ constant j d. d)))

pub operands_keep : (row : Operands) (first : Spot) (low : ℕ) (s : Spot) → Ahead first low s → Keeps first low (operands_at row first s)
unfolding operands_at
operands_keep operands.Empty first low s a = a
operands_keep operands.Address first low s a = named_keeps first low (λ n. Address n) (number_at 8 s) (number_keeps first low low 8 s a (omega arith))
operands_keep (operands.Fixed width) first low s a = named_keeps first low (λ n. Nothing) (bytes_at width s) (bytes_keep first low width s a)
operands_keep operands.Uleb first low s a = named_keeps first low (λ n. Nothing) (uleb_at s) (uleb_keeps first low s a)
operands_keep operands.Sleb first low s a = named_keeps first low (λ n. Nothing) (sleb_at s) (sleb_keeps first low s a)
operands_keep operands.UlebSleb first low s a =
    keeps_bind first low low (uleb_at s) (λ n. naming (λ z. Nothing) (sleb_at n.1)) (uleb_keeps first low s a) (λ n e b. named_keeps first low (λ z. Nothing) (sleb_at n.1) (sleb_keeps first low n.1 b))
operands_keep operands.UlebUleb first low s a =
    keeps_bind first low low (uleb_at s) (λ n. naming (λ m. Nothing) (uleb_at n.1)) (uleb_keeps first low s a) (λ n e b. named_keeps first low (λ m. Nothing) (uleb_at n.1) (uleb_keeps first low n.1 b))
operands_keep operands.Block first low s a = named_keeps first low (λ bytes. Nothing) (block_at s) (block_keeps first low s a)
operands_keep operands.BaseBlock first low s a = base_block_keeps first low s a
operands_keep operands.UlebBase first low s a =
    keeps_bind first low low (uleb_at s) (λ n. naming (λ base. BaseType base) (uleb_at n.1)) (uleb_keeps first low s a) (λ n e b. named_keeps first low (λ base. BaseType base) (uleb_at n.1) (uleb_keeps first low n.1 b))
operands_keep operands.ByteBase first low s a =
    keeps_bind first low low (number_at 1 s) (λ n. naming (λ base. BaseType base) (uleb_at n.1)) (number_keeps first low low 1 s a (omega arith)) (λ n e b. named_keeps first low (λ base. BaseType base) (uleb_at n.1) (uleb_keeps first low n.1 b))
operands_keep operands.Base first low s a = named_keeps first low (λ base. BaseType base) (uleb_at s) (uleb_keeps first low s a)
operands_keep operands.Index first low s a = named_keeps first low (λ index. Index index) (uleb_at s) (uleb_keeps first low s a)
operands_keep operands.Expression first low s a = here first 0 first kinds.OpOutsideProfile (at_once first)
operands_keep operands.Outside first low s a = here first 0 first kinds.OpOutsideProfile (at_once first)

-- ---- operations

-- the bytes that an item holds, its length in the output, and how often as long as the bytes that may be
pub record Items (A : Type 0) : Type 0 where
  pub bytes : A → List ℕ
  pub len : A → ℕ
  pub most : ℕ

abbrev pub plain_items : Items PlainOp
plain_items = record { bytes = λ op. op.bytes; len = λ op. plain_len (operands_of op.code) op.bytes; most = 5 }

abbrev pub op_items : Items Op
op_items = record { bytes = λ op. op.bytes; len = λ op. op_len (operands_of op.code) op; most = 16 }

-- an item takes bytes from the front, one at least, and holds them
pub record Takes {A : Type 0} (items : Items A) (s : Spot) (a : A) (t : Spot) : Type 0 where
  pub count : ℕ
  pub is : t ≡ after s count
  pub some : 0 < count
  pub inside : count ≤ s.end - s.place
  pub holds : items.bytes a ≡ take count (rest s)
  pub short : items.len a ≤ items.most * count

abbrev pub Cuts : {A : Type 0} → Items A → Spot → Result (A × Spot) Fault → Type 0
Cuts items s (Ok p) = Takes items s p.0 p.1
Cuts items s (Err f) = Inside s f

cuts_bind : {A B : Type 0} (items : Items B) (first : Spot) (r : Result (A × Spot) Fault) (f : A × Spot → Result (B × Spot) Fault) → Keeps first 1 r
    → ((p : A × Spot) → r ≡ Ok p → Ahead first 1 p.1 → Cuts items first (f p)) → Cuts items first (r >>= f)
cuts_bind items first (Ok p) f k next = next p refl k
cuts_bind items first (Err e) f k next = k

ahead_within : (first t : Spot) → Ahead first 1 t → (first.place ≤ t.place) × (t.place ≤ first.end)
ahead_within first t a =
    let place : t.place ≡ first.place + a.count = ap (λ (u : Spot). u.place) a.is in
    (omega (arith, place), omega (arith, place, a.some, a.inside))

pub up_to_is : (first t : Spot) (a : Ahead first 1 t) → bytes_up_to first t.place ≡ take a.count (rest first)
unfolding bytes_up_to
up_to_is first t a =
    let place : t.place - first.place ≡ a.count = omega (arith, ap (λ (u : Spot). u.place) a.is) in
    ap (λ (n : ℕ). take n (drop first.place first.bytes)) place ∙ sym (take-take a.count (first.end - first.place) (drop first.place first.bytes) a.inside)

-- where the operands of an operation end
pub operands_end : (row : Operands) (first s t : Spot) (named : Named) → Ahead first 1 s → operands_at row first s ≡ Ok (named, t) → (first.place ≤ t.place) × (t.place ≤ first.end)
operands_end row first s t named a e = ahead_within first t (subst (Keeps first 1) e (operands_keep row first 1 s a))

-- where the bytes behind their length end
pub block_end : (first s t : Spot) (len : ℕ × Spot) (bytes : List ℕ) → Ahead first 1 s → uleb_at s ≡ Ok len → bytes_at len.0 len.1 ≡ Ok (bytes, t) → (first.place ≤ t.place) × (t.place ≤ first.end)
block_end first s t len bytes a number e =
    let b : Ahead first 1 len.1 = subst (Keeps first 1) number (uleb_keeps first 1 s a) in
    ahead_within first t (subst (Keeps first 1) e (bytes_keep first 1 len.0 len.1 b))

-- what holds the bytes up to a spot
holds_up_to : {A : Type 0} (items : Items A) (made : List ℕ → A) (first t : Spot) (a : Ahead first 1 t) → ((bytes : List ℕ) → items.bytes (made bytes) ≡ bytes)
    → ((bytes : List ℕ) → length bytes ≤ a.count → items.len (made bytes) ≤ items.most * a.count) → Takes items first (made (bytes_up_to first t.place)) t
holds_up_to items made first t a is short =
    let bytes : List ℕ = bytes_up_to first t.place in
    let up_to = up_to_is first t a in
    record {
      count = a.count;
      is = a.is;
      some = a.some;
      inside = a.inside;
      holds = is bytes ∙ up_to;
      short = short bytes (omega (arith, ap length up_to, length-take a.count (rest first)));
    }

-- ---- lengths in the output

respelled_short : (bytes : List ℕ) (at n : ℕ) → 0 < n → length bytes ≤ n → respelled_len bytes at ≤ 5 * n
respelled_short bytes at n some le = omega (arith, some, le)

-- behind its code an index has a byte at least
index_far : (first s : Spot) (named : Named × Spot) → naming (λ index. Index index) (uleb_at s) ≡ Ok named → Ahead first 1 s → (b : Ahead first 1 named.1) → 2 ≤ b.count
index_far first s named e a b =
    let n = bind_ok (uleb_at s) (λ x. Ok (Index x.0, x.1)) named e in
    let further = uleb_further s n.0 n.1 in
    let there : n.0.1.place ≡ named.1.place = ap (λ (x : Named × Spot). x.1.place) (ok_is (Index n.0.0, n.0.1) named n.2) in
    omega (arith, further.some, there, ap (λ (u : Spot). u.place) a.is, ap (λ (u : Spot). u.place) b.is, a.some)

plain_short : (row : Operands) (first s : Spot) (named : Named × Spot) → operands_at row first s ≡ Ok named → Ahead first 1 s → (b : Ahead first 1 named.1) → (bytes : List ℕ) → length bytes ≤ b.count
    → plain_len (Some row) bytes ≤ 5 * b.count
unfolding operands_at
plain_short operands.Base first s named e a b bytes le = respelled_short bytes 1 b.count b.some le
plain_short operands.BaseBlock first s named e a b bytes le = respelled_short bytes 1 b.count b.some le
plain_short operands.ByteBase first s named e a b bytes le = respelled_short bytes 2 b.count b.some le
plain_short operands.UlebBase first s named e a b bytes le = respelled_short bytes (1 + front_leb_len (drop 1 bytes)) b.count b.some le
plain_short operands.Index first s named e a b bytes le = omega (arith, index_far first s named e a b)
plain_short other first s named e a b bytes le = omega (arith, le)

entry_short : (len n : ℕ) → 0 < n → len ≤ 5 * n → 1 + uleb_len_of len + len ≤ 16 * n
entry_short len n some le = omega (arith, few_digits len)

op_short : (row : Option Operands) (op : Op) (n : ℕ) → 0 < n → plain_len row op.bytes ≤ 5 * n → inner_len op.inner ≤ 5 * n → op_len row op ≤ 16 * n
op_short (Some operands.Expression) op n some le inner = entry_short (inner_len op.inner) n some inner
op_short other op n some le inner = omega (arith, le)

abbrev pub with_row : ℕ → Operands → ℕ × Operands
with_row code row = (code, row)

allowed_keeps : (s : Spot) (code : ℕ × Spot) (row : Operands) (outside : Bool) → Ahead s 1 code.1 → Keeps s 1 (refuse_if outside (fault_at s kinds.OpOutsideProfile) >>= λ u. Ok (with_row code.0 row, code.1))
allowed_keeps s code row true a = here s 0 s kinds.OpOutsideProfile (at_once s)
allowed_keeps s code row false a = a

row_keeps : (version : ℕ) (s : Spot) (code : ℕ × Spot) (row : Option Operands) → Ahead s 1 code.1
    → Keeps s 1 (or_fault row (fault_at s kinds.UnknownOp) >>= λ o. refuse_if (is_outside version o) (fault_at s kinds.OpOutsideProfile) >>= λ u. Ok (with_row code.0 o, code.1))
row_keeps version s code None a = here s 0 s kinds.UnknownOp (at_once s)
row_keeps version s code (Some row) a = allowed_keeps s code row (is_outside version row) a

-- a code that is read, and its row
pub record Coded (version : ℕ) (s : Spot) (c : (ℕ × Operands) × Spot) : Type 0 where
  pub number : number_at 1 s ≡ Ok (c.0.0, c.1)
  pub known : operands_of c.0.0 ≡ Some c.0.1
  pub inside : is_outside version c.0.1 ≡ false

plain_from_cuts : (first : Spot) (code : ℕ) (row : Operands) (s : Spot) → operands_of code ≡ Some row → Ahead first 1 s → Cuts plain_items first (plain_from first code row s)
unfolding plain_from
plain_from_cuts first code row s known a =
    cuts_bind plain_items first (operands_at row first s) (λ named. Ok (record { code = code; bytes = bytes_up_to first named.1.place; address = address_in named.0; base = base_in named.0 }, named.1))
    (operands_keep row first 1 s a)
    (λ named e b. holds_up_to plain_items (λ bytes. record { code = code; bytes = bytes; address = address_in named.0; base = base_in named.0 }) first named.1 b (λ bytes. refl)
    (λ bytes le. subst (λ (o : Option Operands). plain_len o bytes ≤ 5 * b.count) (sym known) (plain_short row first s named e a b bytes le)))

-- ---- operations one after the other

-- the items hold all that was left, and take so much in the output
pub record Whole {A : Type 0} (items : Items A) (before : List A) (s : Spot) (ops : List A) : Type 0 where
  pub holds : flat_map items.bytes ops ≡ flat_map items.bytes before ++ rest s
  pub short : sum_by items.len ops ≤ sum_by items.len before + items.most * (s.end - s.place)

abbrev pub AllCut : {A : Type 0} → Items A → List A → Spot → Result (List A) Fault → Type 0
AllCut items before s (Ok ops) = Whole items before s ops
AllCut items before s (Err f) = Inside s f

none_left : {A : Type 0} (items : Items A) (before : List A) (s : Spot) → s.end - s.place ≡ 0 → Whole items before s before
none_left items before s e =
    let none : rest s ≡ [] = ap (λ (n : ℕ). take n (drop s.place s.bytes)) e in
    record {
      holds = sym (append-nil (flat_map items.bytes before)) ∙ ap (λ (xs : List ℕ). flat_map items.bytes before ++ xs) (sym none);
      short = omega arith;
    }

-- the next n bytes, and what is behind them
pub front : (s : Spot) (n : ℕ) → n ≤ s.end - s.place → take n (rest s) ++ rest (after s n) ≡ rest s
front s n le =
    let left : s.end - s.place ≡ n + (s.end - (s.place + n)) = omega arith in
    let behind : drop n (rest s) ≡ rest (after s n) =
    ap (λ (k : ℕ). drop n (take k (drop s.place s.bytes))) left ∙ drop-take n (s.end - (s.place + n)) (drop s.place s.bytes) ∙ ap (take (s.end - (s.place + n))) (drop-drop n s.place s.bytes) in
    ap (λ (xs : List ℕ). take n (rest s) ++ xs) (sym behind) ∙ take-append-drop n (rest s)

-- what stands inside behind an item stands inside
inside_behind : {A : Type 0} (items : Items A) (s t : Spot) (a : A) (f : Fault) → Takes items s a t → Inside t f → Inside s f
inside_behind items s t a f c i =
    let place : t.place ≡ s.place + c.count = ap (λ (u : Spot). u.place) c.is in
    let end : t.end ≡ s.end = ap (λ (u : Spot). u.end) c.is in
    record { count = c.count + i.count; is = omega (arith, i.is); inside = omega (arith, i.inside, c.inside) }

-- the lengths of an item and of those behind it
in_both : (most before len count left behind pushed all : ℕ) → len ≤ most * count → pushed ≡ before + len → all ≤ pushed + most * behind → left ≡ count + behind → all ≤ before + most * left
in_both most before len count left behind pushed all one is most_all parts =
    let spread : most * left ≡ most * count + most * behind = ap (λ (n : ℕ). most * n) parts ∙ mul-add most count behind in
    omega (arith, spread, one, is, most_all)

behind_item : {A : Type 0} (items : Items A) (before : List A) (s t : Spot) (a : A) (r : Result (List A) Fault) → Takes items s a t → AllCut items (before ++ a ∷ []) t r → AllCut items before s r
behind_item items before s t a (Err f) c all = inside_behind items s t a f c all
behind_item items before s t a (Ok ops) c known =
    let place : t.place ≡ s.place + c.count = ap (λ (u : Spot). u.place) c.is in
    let end : t.end ≡ s.end = ap (λ (u : Spot). u.end) c.is in
    let one : flat_map items.bytes (before ++ a ∷ []) ≡ flat_map items.bytes before ++ items.bytes a = sym (flat_map_more items.bytes [] before a) in
    record {
      holds = known.holds ∙ ap (λ (xs : List ℕ). xs ++ rest t) one ∙ append_assoc (flat_map items.bytes before) (items.bytes a) (rest t)
          ∙ ap (λ (xs : List ℕ). flat_map items.bytes before ++ xs) (ap₂ (λ (xs : List ℕ) (u : Spot). xs ++ rest u) c.holds c.is ∙ front s c.count c.inside);
      short = in_both items.most (sum_by items.len before) (items.len a) c.count (s.end - s.place) (t.end - t.place) _ _ c.short (sum_by_push items.len before a) known.short (omega (arith, c.inside));
    }

all_step : {A : Type 0} (read : Spot → Result (A × Spot) Fault) (items : Items A) (left : ℕ) (before : List A) (s : Spot) (b : Bool) (r : Result (A × Spot) Fault)
    → eqb (s.end - s.place) 0 ≡ b → Cuts items s r → ((a : A) (t : Spot) → AllCut items (before ++ a ∷ []) t (all_at read left (before ++ a ∷ []) t))
    → AllCut items before s (cond b (Ok before) (r >>= λ op. all_at read left (before ++ op.0 ∷ []) op.1))
all_step read items left before s true r e cut next = none_left items before s (eqb-true _ _ e)
all_step read items left before s false (Err f) e cut next = cut
all_step read items left before s false (Ok p) e cut next = behind_item items before s p.1 p.0 (all_at read left (before ++ p.0 ∷ []) p.1) cut (next p.0 p.1)

all_cut : {A : Type 0} (read : Spot → Result (A × Spot) Fault) (items : Items A) → ((s : Spot) → Cuts items s (read s)) → (left : ℕ) (before : List A) (s : Spot)
    → AllCut items before s (all_at read left before s)
all_cut read items cuts zero before s = here s 0 s kinds.Truncated (at_once s)
all_cut read items cuts (suc left) before s =
    all_step read items left before s (eqb (s.end - s.place) 0) (read s) refl (cuts s) (λ a t. all_cut read items cuts left (before ++ a ∷ []) t)

-- operations hold all bytes of their expression, and take so much in the output
pub expression_whole : {A : Type 0} (read : Spot → Result (A × Spot) Fault) (items : Items A) → ((s : Spot) → Cuts items s (read s)) → (part : Part) (bytes : List ℕ) (ops : List A)
    → expression_of read part bytes ≡ Ok ops → (flat_map items.bytes ops ≡ bytes) × (sum_by items.len ops ≤ items.most * length bytes)
expression_whole read items cuts part bytes ops e =
    let c = subst (AllCut items [] (start part bytes)) e (all_cut read items cuts (suc (length bytes)) [] (start part bytes)) in
    let all : take (length bytes - 0) bytes ≡ bytes = ap (λ (n : ℕ). take n bytes) (omega arith) ∙ take-length bytes in
    let len : length bytes - 0 ≡ length bytes = omega arith in
    let short : sum_by items.len ops ≤ items.most * (length bytes - 0) = (let known : sum_by items.len ops ≤ 0 + items.most * (length bytes - 0) = c.short in omega (arith, known)) in
    (c.holds ∙ all, subst (λ (n : ℕ). sum_by items.len ops ≤ items.most * n) len short)

-- a fault of an expression stands in it or at its end
pub expression_faults : {A : Type 0} (read : Spot → Result (A × Spot) Fault) (items : Items A) → ((s : Spot) → Cuts items s (read s)) → (part : Part) (bytes : List ℕ) (f : Fault)
    → expression_of read part bytes ≡ Err f → f.place ≤ length bytes
expression_faults read items cuts part bytes f e =
    let c = subst (AllCut items [] (start part bytes)) e (all_cut read items cuts (suc (length bytes)) [] (start part bytes)) in
    omega (arith, c.is, c.inside)

-- ---- entry values

abbrev Placed : ℕ → ℕ → Result (List PlainOp) Fault → Type 0
Placed place limit (Ok ops) = inner_len ops ≤ 5 * limit
Placed place limit (Err f) = (n : ℕ) × (f.place ≡ place + n) × (n ≤ limit)

placed_is : (place limit : ℕ) (r : Result (List PlainOp) Fault) → ((ops : List PlainOp) → r ≡ Ok ops → inner_len ops ≤ 5 * limit) → ((f : Fault) → r ≡ Err f → f.place ≤ limit) → Placed place limit (placed_from place r)
placed_is place limit (Ok ops) one h = one ops refl
placed_is place limit (Err f) one h = (f.place, refl, h f refl)

-- the bytes are no more than were asked for, and than there were
pub bytes_fit : (n : ℕ) (s : Spot) (p : List ℕ × Spot) → bytes_at n s ≡ Ok p → (length p.0 ≤ s.end - s.place) × (p.1.place ≡ s.place + n) × (length p.0 ≤ n)
unfolding bytes_at
bytes_fit n s p e =
    let g = guard_ok (ltb (s.end - s.place) n) (fault_at s kinds.Truncated) (take n (rest s), after s n) p e in
    let len = ap (λ (q : List ℕ × Spot). length q.0) g.1 in
    (omega (arith, len, length-take n (rest s), length_rest s), ap (λ (q : List ℕ × Spot). q.1.place) (sym g.1), omega (arith, len, length-take n (rest s)))

inner_cuts : (first : Spot) (code : ℕ) (len : ℕ × Spot) (inside : List ℕ × Spot) (r : Result (List PlainOp) Fault) → Placed len.1.place (length inside.0) r → bytes_at len.0 len.1 ≡ Ok inside → operands_of code ≡ Some operands.Expression → Ahead first 1 len.1 → Ahead first 1 inside.1
    → Cuts op_items first (r >>= λ inner. Ok (record { code = code; bytes = bytes_up_to first inside.1.place; address = None; base = None; inner = inner }, inside.1))
inner_cuts first code len inside (Ok inner) few e known a b =
    let place : len.1.place ≡ first.place + a.count = ap (λ (u : Spot). u.place) a.is in
    let end : inside.1.place ≡ first.place + b.count = ap (λ (u : Spot). u.place) b.is in
    let fits = bytes_fit len.0 len.1 inside e in
    let more = fits.1 in
    let len-few = fits.2 in
    let inner-few : inner_len inner ≤ 5 * b.count = omega (arith, few, more, len-few) in
    holds_up_to op_items (λ bytes. record { code = code; bytes = bytes; address = None; base = None; inner = inner }) first inside.1 b (λ bytes. refl)
    (λ bytes le. subst (λ (o : Option Operands). op_len o (record { code = code; bytes = bytes; address = None; base = None; inner = inner }) ≤ 16 * b.count) (sym known) (entry_short (inner_len inner) b.count b.some inner-few))
inner_cuts first code len inside (Err f) placed e known a b =
    let place : len.1.place ≡ first.place + a.count = ap (λ (u : Spot). u.place) a.is in
    let end : len.1.end ≡ first.end = ap (λ (u : Spot). u.end) a.is in
    let fits = (bytes_fit len.0 len.1 inside e).0 in
    let at = placed.1 in
    let few = placed.2 in
    record { count = a.count + placed.0; is = omega (arith, at); inside = omega (arith, fits, few, a.inside) }

alone_cuts : (first : Spot) (r : Result (PlainOp × Spot) Fault) → Cuts plain_items first r → Cuts op_items first (r >>= λ op. Ok (alone op.0, op.1))
alone_cuts first (Ok p) c = record { count = c.count; is = c.is; some = c.some; inside = c.inside; holds = c.holds; short = op_short (operands_of p.0.code) (alone p.0) c.count c.some c.short (omega arith) }
alone_cuts first (Err f) c = c

-- ---- operations of a unit of a version

module _ (version : ℕ) where
  pub code_is : (s : Spot) (c : (ℕ × Operands) × Spot) → code_at version s ≡ Ok c → Coded version s c
  unfolding code_at
  code_is s c e =
      let number = bind_ok (number_at 1 s) _ c e in
      let row = bind_ok (or_fault (operands_of number.0.0) (fault_at s kinds.UnknownOp)) _ c number.2 in
      let allowed = passed (is_outside version row.0) (fault_at s kinds.OpOutsideProfile) (Ok (with_row number.0.0 row.0, number.0.1)) c row.2 in
      subst (Coded version s) (ok_is (with_row number.0.0 row.0, number.0.1) c allowed.1)
      (record { number = number.1; known = found_ok (operands_of number.0.0) (fault_at s kinds.UnknownOp) row.0 row.1; inside = allowed.0 })

  pub code_keeps : (s : Spot) → Keeps s 1 (code_at version s)
  unfolding code_at
  code_keeps s =
      keeps_bind s 1 1 (number_at 1 s)
      (λ code. or_fault (operands_of code.0) (fault_at s kinds.UnknownOp) >>= λ o. refuse_if (is_outside version o) (fault_at s kinds.OpOutsideProfile) >>= λ u. Ok (with_row code.0 o, code.1)) (number_keeps s 0 1 1 s (at_once s) (omega arith))
      (λ code e a. row_keeps version s code (operands_of code.0) a)

  pub plain_cuts : (s : Spot) → Cuts plain_items s (plain_at version s)
  unfolding plain_at
  plain_cuts s = cuts_bind plain_items s (code_at version s) (λ code. plain_from s code.0.0 code.0.1 code.1) (code_keeps s) (λ code e a. let c = code_is s code e in plain_from_cuts s code.0.0 code.0.1 code.1 c.known a)

  inner_placed : (bytes : List ℕ) (part : Part) (place : ℕ) → Placed place (length bytes) (inner_of version bytes part place)
  unfolding inner_of
  inner_placed bytes part place =
      placed_is place (length bytes) (expression_of (plain_at version) part bytes) (λ ops e. (expression_whole (plain_at version) plain_items plain_cuts part bytes ops e).1)
      (λ f e. expression_faults (plain_at version) plain_items plain_cuts part bytes f e)

  entry_value_cuts : (part : Part) (first : Spot) (code : ℕ) (s : Spot) → operands_of code ≡ Some operands.Expression → Ahead first 1 s → Cuts op_items first (entry_value_from version part first code s)
  unfolding entry_value_from
  entry_value_cuts part first code s known a =
      cuts_bind op_items first (uleb_at s)
      (λ len. bytes_at len.0 len.1 >>= λ inside. inner_of version inside.0 part len.1.place >>= λ inner. Ok (record { code = code; bytes = bytes_up_to first inside.1.place; address = None; base = None; inner = inner }, inside.1))
      (uleb_keeps first 1 s a)
      (λ len e b. cuts_bind op_items first (bytes_at len.0 len.1)
      (λ inside. inner_of version inside.0 part len.1.place >>= λ inner. Ok (record { code = code; bytes = bytes_up_to first inside.1.place; address = None; base = None; inner = inner }, inside.1))
      (bytes_keep first 1 len.0 len.1 b)
      (λ inside i c. inner_cuts first code len inside (inner_of version inside.0 part len.1.place) (inner_placed inside.0 part len.1.place) i known b c))

  op_from_cuts : (part : Part) (first : Spot) (code : ℕ) (row : Operands) (s : Spot) → operands_of code ≡ Some row → Ahead first 1 s → Cuts op_items first (op_from version part first code row s)
  unfolding op_from
  op_from_cuts part first code operands.Expression s known a = entry_value_cuts part first code s known a
  op_from_cuts part first code row s known a = alone_cuts first (plain_from first code row s) (plain_from_cuts first code row s known a)

  pub op_cuts : (part : Part) (s : Spot) → Cuts op_items s (op_at version part s)
  unfolding op_at
  op_cuts part s = cuts_bind op_items s (code_at version s) (λ code. op_from version part s code.0.0 code.0.1 code.1) (code_keeps s) (λ code e a. let c = code_is s code e in op_from_cuts part s code.0.0 code.0.1 code.1 c.known a)

-- ---- the places of an expression's faults, in the part

pub placed_below : {A : Type 0} (error : ReadError) (first limit : ℕ) (r : Result (List A) Fault) → Gives (λ (ops : List A). ops) (Err error) r → ((f : Fault) → r ≡ Err f → f.place ≤ limit) → first + limit ≤ 2 ^ 64 - 1
    → is_placed_below (2 ^ 64 - first) error
placed_below (errors.Faulty f) first limit r given h le = let low = h f given in omega (arith, low, le)
placed_below errors.NoMemory first limit r given h le = tt
