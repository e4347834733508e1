-- The loop over the items of a list: what it has, what it still reads, the ways out and the way on.
use Rattle.std.proofs.Common.{◌≡◌, ℕ, true, false, suc, ◌+◌, ◌-◌, ◌<◌, ◌≤◌, List, [], ◌∷◌, ◌++◌, Option, Some, None, Result, Ok, Err, refl, sym, ap, ◌∙◌, append_assoc, append-nil, arith}
use Rattle.std.specs.List.{filter_map}
use Rattle.ds_base.specs.declared.fault.Fault.{Fault}
use Rattle.ds_base.specs.declared.fault.Kind.TheVariants as kinds
use Rattle.ds_base.specs.declared.fault.ReadError.{ReadError}
use Rattle.ds_base.specs.declared.fault.ReadError.TheVariants as errors
use Rattle.ds_base.specs.Spot.{Spot, fault_at}
use Rattle.ds_base.specs.Reading.{◌>>=◌, Gives, ReadsUnlessFull}
use Rattle.dwarf_types.specs.declared.address.Addr.{Addr}
use Rattle.dwarf_types.specs.declared.lists.RawSpan.{RawSpan}
use Rattle.list_items.specs.declared.item.Item.TheVariants as items
use Rattle.list_items.specs.Context.{Context}
use Rattle.list_items.specs.Reading.{item_at}
use Rattle.list_items.specs.Ends.{is_empty}
use Rattle.list_items.specs.Lists.{Behind, whole_at, Listing, behind_it, listed, items_from, given, unless_stopped, list_of}

-- what the items from a spot on give
abbrev pub list_at : {A : Type 0} → Context → Behind A → ℕ → Addr → Spot → Result (List A) Fault
list_at c behind left base s = list_of (items_from (whole_at c behind) left base s)

-- what was read before the rest of the list
abbrev pub before : {A : Type 0} → List A → Result (List A) Fault → Result (List A) Fault
before xs (Ok ys) = Ok (xs ++ ys)
before xs (Err f) = Err f

before_none : {A : Type 0} (r : Result (List A) Fault) → before [] r ≡ r
before_none (Ok ys) = refl
before_none (Err f) = refl

-- nothing is read yet
pub list_starts : {A : Type 0} (c : Context) (behind : Behind A) (left : ℕ) (base : Addr) (s : Spot)
    → before [] (list_at c behind (left - 0) base s) ≡ list_at c behind left base s
list_starts c behind left base s =
    let all : left - 0 ≡ left = omega arith in
    before_none (list_at c behind (left - 0) base s) ∙ ap (λ (n : ℕ). list_at c behind n base s) all

-- one more item, whatever it is
turn : {A : Type 0} (c : Context) (behind : Behind A) (left i : ℕ) (xs : List A) (base : Addr) (s : Spot) (total : Result (List A) Fault) → i < left
    → before xs (list_at c behind (left - i) base s) ≡ total
    → total ≡ before xs (list_of (listed s (whole_at c behind base s) (λ says t. behind_it says base (λ b. items_from (whole_at c behind) (left - (i + 1)) b t))))
turn c behind left i xs base s total lt so_far =
    let k : left - i ≡ suc (left - (i + 1)) = omega arith in
    sym so_far ∙ ap (λ (n : ℕ). before xs (list_at c behind n base s)) k

-- ---- what an item adds to those behind it

-- an item that gives something
one_given : {A : Type 0} (xs : List A) (x : A) (stop : Option Fault) (ys : List A) → before xs (unless_stopped stop >>= λ _. Ok (x ∷ ys)) ≡ before (xs ++ x ∷ []) (unless_stopped stop >>= λ _. Ok ys)
one_given {A = A} xs x None ys = ap (λ (zs : List A). Ok zs) (sym (append_assoc xs (x ∷ []) ys))
one_given xs x (Some f) ys = refl

-- ---- the ways out and the way on

pub item_refused : {A : Type 0} (c : Context) (behind : Behind A) (left i : ℕ) (xs : List A) (base : Addr) (s : Spot) (f : Fault) (total : Result (List A) Fault) → i < left
    → item_at c base s ≡ Err f
    → before xs (list_at c behind (left - i) base s) ≡ total → total ≡ Err f
item_refused c behind left i xs base s f total lt item so_far = turn c behind left i xs base s total lt so_far ∙ rw item refl

pub list_ends : {A : Type 0} (c : Context) (behind : Behind A) (left i : ℕ) (xs : List A) (base : Addr) (s t : Spot) (total : Result (List A) Fault) → i < left
    → item_at c base s ≡ Ok (items.End, t)
    → before xs (list_at c behind (left - i) base s) ≡ total → total ≡ Ok xs
list_ends {A = A} c behind left i xs base s t total lt item so_far = turn c behind left i xs base s total lt so_far ∙ rw item (ap (λ (zs : List A). Ok zs) (append-nil xs))

pub base_selected : {A : Type 0} (c : Context) (behind : Behind A) (left i : ℕ) (xs : List A) (base selected : Addr) (s t : Spot) (total : Result (List A) Fault) → i < left
    → item_at c base s ≡ Ok (items.Base selected, t)
    → before xs (list_at c behind (left - i) base s) ≡ total
    → before xs (list_at c behind (left - (i + 1)) selected t) ≡ total
base_selected c behind left i xs base selected s t total lt item so_far = sym (turn c behind left i xs base s total lt so_far ∙ rw item refl)

-- what follows a default is refused, or memory runs out
pub default_refused : {A : Type 0} (c : Context) (behind : Behind A) (left i : ℕ) (xs : List A) (base : Addr) (s t u : Spot) (e : ReadError) (total : Result (List A) Fault) → i < left
    → item_at c base s ≡ Ok (items.Default, t) → ReadsUnlessFull (λ (x : A). x) (Err e) u (behind s.place None t)
    → before xs (list_at c behind (left - i) base s) ≡ total → Gives (λ (ys : List A). ys) (Err e) total
default_refused c behind left i xs base s t u (errors.Faulty f) total lt item read so_far = turn c behind left i xs base s total lt so_far ∙ rw (item, read) refl
default_refused c behind left i xs base s t u errors.NoMemory total lt item read so_far = tt

pub default_kept : {A : Type 0} (c : Context) (behind : Behind A) (left i : ℕ) (xs : List A) (x : A) (base : Addr) (s t u : Spot) (total : Result (List A) Fault) → i < left
    → item_at c base s ≡ Ok (items.Default, t) → behind s.place None t ≡ Ok (x, u)
    → before xs (list_at c behind (left - i) base s) ≡ total
    → before (xs ++ x ∷ []) (list_at c behind (left - (i + 1)) base u) ≡ total
default_kept {A = A} c behind left i xs x base s t u total lt item read so_far =
    let more : Listing A = items_from (whole_at c behind) (left - (i + 1)) base u in
    sym (turn c behind left i xs base s total lt so_far ∙ rw (item, read) (one_given xs x more.stop (filter_map (λ item. given item.says) more.items)))

-- what follows the span is refused, or memory runs out
pub behind_refused : {A : Type 0} (c : Context) (behind : Behind A) (left i : ℕ) (xs : List A) (base : Addr) (span : RawSpan) (s t u : Spot) (e : ReadError) (total : Result (List A) Fault) → i < left
    → item_at c base s ≡ Ok (items.Span span, t) → ReadsUnlessFull (λ (x : A). x) (Err e) u (behind s.place (Some span) t)
    → before xs (list_at c behind (left - i) base s) ≡ total → Gives (λ (ys : List A). ys) (Err e) total
behind_refused c behind left i xs base span s t u (errors.Faulty f) total lt item read so_far = turn c behind left i xs base s total lt so_far ∙ rw (item, read) refl
behind_refused c behind left i xs base span s t u errors.NoMemory total lt item read so_far = tt

pub span_kept : {A : Type 0} (c : Context) (behind : Behind A) (left i : ℕ) (xs : List A) (x : A) (base : Addr) (span : RawSpan) (s t u : Spot) (total : Result (List A) Fault) → i < left
    → item_at c base s ≡ Ok (items.Span span, t) → behind s.place (Some span) t ≡ Ok (x, u) → is_empty span ≡ false
    → before xs (list_at c behind (left - i) base s) ≡ total
    → before (xs ++ x ∷ []) (list_at c behind (left - (i + 1)) base u) ≡ total
span_kept {A = A} c behind left i xs x base span s t u total lt item read some so_far =
    let more : Listing A = items_from (whole_at c behind) (left - (i + 1)) base u in
    sym (turn c behind left i xs base s total lt so_far ∙ rw (item, read, some) (one_given xs x more.stop (filter_map (λ item. given item.says) more.items)))

pub span_dropped : {A : Type 0} (c : Context) (behind : Behind A) (left i : ℕ) (xs : List A) (x : A) (base : Addr) (span : RawSpan) (s t u : Spot) (total : Result (List A) Fault) → i < left
    → item_at c base s ≡ Ok (items.Span span, t) → behind s.place (Some span) t ≡ Ok (x, u) → is_empty span ≡ true
    → before xs (list_at c behind (left - i) base s) ≡ total
    → before xs (list_at c behind (left - (i + 1)) base u) ≡ total
span_dropped c behind left i xs x base span s t u total lt item read none so_far =
    sym (turn c behind left i xs base s total lt so_far ∙ rw (item, read, none) refl)

-- no byte is left
pub bytes_end : {A : Type 0} (c : Context) (behind : Behind A) (left i : ℕ) (xs : List A) (base : Addr) (s : Spot) (total : Result (List A) Fault) → left ≤ i
    → before xs (list_at c behind (left - i) base s) ≡ total → total ≡ Err (fault_at s kinds.Truncated)
bytes_end c behind left i xs base s total le so_far =
    let none : left - i ≡ 0 = omega arith in
    sym so_far ∙ ap (λ (n : ℕ). before xs (list_at c behind n base s)) none
