-- Columns that grow keep what their cells stand for.
use Rattle.std.proofs.Common.{inl, inr, ◌≡◌, ℕ, suc, nat_lt, if◌then◌else◌, ◌+◌, ◌-◌, ◌<◌, ◌≤◌, List, [], ◌∷◌, ◌++◌, map, length, drop, take, get_or, All, refl, ap, ap₂, subst, sym, arith, slice_range, ◌∙◌, Option, Some, None, Bool, true, false}
use Rattle.std.specs.Prelude.{IsSome}
use Rattle.std.specs.Option.{option_map, unwrap_or}
use Rattle.std.proofs.lemmas.Bool.{cases_lt, le-ltb, lt-ltb}
use Rattle.std.proofs.lemmas.List.{drop-append-le, drop_at, take-append-le, take_all, drop_all, length-drop, length-append, length_push, get_or_append_left, get_or_push}
use Rattle.std.proofs.lemmas.List.Elements.{All-head, All-tail, All-weaker}
use Rattle.ds_base.specs.Reading.{index_below, text_of}
use Rattle.dwarf_types.specs.declared.address.Place.{Place}
use Rattle.dwarf_types.specs.declared.expr.Op.{Op}
use Rattle.dwarf_types.specs.declared.expr.PlainOp.{PlainOp}
use Rattle.dwarf_types.specs.declared.lists.Location.{Location}
use Rattle.dwarf_types.specs.declared.sides.Held.{Held}
use Rattle.dwarf_types.specs.declared.sides.InnerRow.{InnerRow}
use Rattle.dwarf_types.specs.declared.sides.ItemRow.{ItemRow}
use Rattle.dwarf_types.specs.declared.sides.Kind.{Kind}
use Rattle.dwarf_types.specs.declared.sides.Kind.TheVariants as kinds
use Rattle.dwarf_types.specs.declared.sides.OpRow.{OpRow}
use Rattle.dwarf_types.specs.declared.sides.Sides.{Sides}
use Rattle.dwarf_types.specs.declared.runs.Run.{Run}
use Rattle.dwarf_types.specs.declared.value.Value.TheVariants as values
use Rattle.dwarf_types.specs.Cells.{Begins, Grows, InnerWithin, IsAddress, IsList, IsRun, IsWithin, ItemWithin, KeepsOthers, OpWithin, address_at, held_value, inner_of, item_of, list_at, no_place, op_of, run_at}
use Rattle.dwarf_types.specs.Put.{number_form}
use Rattle.dwarf_types.specs.Runs.{InRun, no_run, run_between, run_of}

pub range_begins : {A : Type 0} (old new : List A) (from to : ℕ) → Begins old new → from ≤ to → to ≤ length old → slice_range new from to ≡ slice_range old from to
range_begins old new from to b up within =
    rw (b.1, drop-append-le from old b.0 (omega arith)) (take-append-le _ _ b.0 (omega (arith, length-drop from old)))

pub get_begins : {A : Type 0} (old new : List A) (i : ℕ) (d : A) → Begins old new → i < length old → get_or new i d ≡ get_or old i d
get_begins old new i d b lt = rw b.1 (get_or_append_left old b.0 d i lt)

pub longer : {A : Type 0} (old new : List A) → Begins old new → length old ≤ length new
longer old new b = rw b.1 (omega (arith, length-append old b.0))

part_kept : {A : Type 0} (c d : List A) (s : Run) → Begins c d → InRun c s → run_of d s ≡ run_of c s
part_kept c d s b w = range_begins c d s.from s.to b w.0 w.1

part_within : {A : Type 0} (c d : List A) (s : Run) → Begins c d → InRun c s → InRun d s
part_within c d s b w =
    let m = longer c d b in
    let up : s.from ≤ s.to = w.0 in
    let inside : s.to ≤ length c = w.1 in
    (up, omega arith)

run_kept : {A : Type 0} (old new : Sides) (c d : List A) (i : ℕ) → Grows old new → Begins c d → IsRun old c i → run_of d (run_at new i) ≡ run_of c (run_at old i)
run_kept old new c d i g b w =
    rw (get_begins _ _ i no_run g.runs w.0) (range_begins c d _ _ b w.1.0 w.1.1)

run_within : {A : Type 0} (old new : Sides) (c d : List A) (i : ℕ) → Grows old new → Begins c d → IsRun old c i → IsRun new d i
run_within old new c d i g b w =
    let l = longer _ _ g.runs in
    let lt : i < length old.runs.items = w.0 in
    let P : Run → Type 0 = InRun d in
    let e = get_begins _ _ i no_run g.runs lt in
    (omega arith, subst P (sym e) (part_within c d (run_at old i) b w.1))

list_kept : {A : Type 0} (old new : Sides) (c d : List A) (i : ℕ) → Grows old new → Begins c d → IsList old c i → run_of d (list_at new i) ≡ run_of c (list_at old i)
list_kept old new c d i g b w =
    rw (get_begins _ _ i no_run g.lists w.0) (range_begins c d _ _ b w.1.0 w.1.1)

list_within : {A : Type 0} (old new : Sides) (c d : List A) (i : ℕ) → Grows old new → Begins c d → IsList old c i → IsList new d i
list_within old new c d i g b w =
    let l = longer _ _ g.lists in
    let lt : i < length old.lists.items = w.0 in
    let P : Run → Type 0 = InRun d in
    let e = get_begins _ _ i no_run g.lists lt in
    (omega arith, subst P (sym e) (part_within c d (list_at old i) b w.1))

-- ---- texts

below_step : (here : Bool) (o p : Option ℕ) (len n : ℕ) → ((m : ℕ) → o ≡ Some m → (m < len) × (p ≡ Some m)) → (if here then Some 0 else option_map suc o) ≡ Some n → (n < suc len) × ((if here then Some 0 else option_map suc p) ≡ Some n)
below_step true o p len n same e =
    let is : 0 ≡ n = cc in
    (omega arith, e)
below_step false None p len n same e = absurd (let no : ⊥ = cc in no)
below_step false (Some m) p len n same e =
    let later = same m refl in
    let is : suc m ≡ n = cc in
    (omega (arith, later.0), ap (option_map suc) later.1 ∙ ap Some is)

-- the first byte below a limit stays the first
below_kept : (limit : ℕ) (xs ys : List ℕ) (n : ℕ) → index_below limit xs ≡ Some n → (n < length xs) × (index_below limit (xs ++ ys) ≡ Some n)
below_kept limit [] ys n e = absurd (let no : ⊥ = cc in no)
below_kept limit (b ∷ xs) ys n e = below_step (nat_lt b limit) (index_below limit xs) (index_below limit (xs ++ ys)) (length xs) n (λ m is. below_kept limit xs ys m is) e

abbrev first_text : List ℕ → Option (List ℕ)
first_text bytes = option_map (λ n. take n bytes) (index_below 1 bytes)

text_found : (xs ys : List ℕ) (o : Option ℕ) → index_below 1 xs ≡ o → IsSome (option_map (λ n. take n xs) o) → first_text (xs ++ ys) ≡ first_text xs
text_found xs ys None e w = absurd (let no : ⊥ = cc in no)
text_found xs ys (Some n) e w =
    let found = below_kept 1 xs ys n e in
    rw (found.1, e) (ap Some (take-append-le n xs ys (omega (arith, found.0))))

text_kept : (old new : List ℕ) (place : ℕ) → Begins old new → IsSome (text_of old place) → text_of new place ≡ text_of old place
unfolding text_of
text_kept old new place b w =
    elim (cases_lt (length old) place) [
      | inl lt ↦
          let none : IsSome (first_text []) = subst (λ (bytes : List ℕ). IsSome (first_text bytes)) (drop_all place old (omega arith)) w in
          absurd (let no : ⊥ = cc in no)
      | inr le ↦ rw (b.1, drop-append-le place old b.0 le) (text_found (drop place old) b.0 (index_below 1 (drop place old)) refl w)
    ]

-- ---- operations

address_kept : (old new : Sides) → Grows old new → (at : Option ℕ) → IsAddress old at → address_at new at ≡ address_at old at
address_kept old new g None w = refl
address_kept old new g (Some i) w = ap Some (get_begins _ _ i no_place g.addresses w)

address_within : (old new : Sides) → Grows old new → (at : Option ℕ) → IsAddress old at → IsAddress new at
address_within old new g None w = tt
address_within old new g (Some i) w = let l = longer _ _ g.addresses in omega arith

inner_kept : (old new : Sides) → Grows old new → (r : InnerRow) → InnerWithin old r → inner_of new r ≡ inner_of old r
inner_kept old new g r w =
    let with_parts : List ℕ → Option Place → PlainOp = λ bytes address. record { code = r.code; bytes = bytes; address = address; base = r.base } in
    ap₂ with_parts (part_kept _ _ r.bytes g.bytes w.0) (address_kept old new g r.address w.1)

inner_within : (old new : Sides) → Grows old new → (r : InnerRow) → InnerWithin old r → InnerWithin new r
inner_within old new g r w = (part_within _ _ r.bytes g.bytes w.0, address_within old new g r.address w.1)

-- rows that stand for the same, each by what it keeps to
rows_same : {R A : Type 0} (Within : R → Type 0) (f g : R → A) → ((r : R) → Within r → g r ≡ f r) → (rows : List R) → All Within rows → map g rows ≡ map f rows
rows_same Within f g same [] all = refl
rows_same Within f g same (r ∷ rows) all = ap₂ ◌∷◌ (same r (All-head Within r rows all)) (rows_same Within f g same rows (All-tail Within r rows all))

pub inners_kept : (old new : Sides) → Grows old new → (rows : List InnerRow) → All (InnerWithin old) rows → map (inner_of new) rows ≡ map (inner_of old) rows
inners_kept old new g = rows_same (InnerWithin old) (inner_of old) (inner_of new) (inner_kept old new g)

pub inners_within : (old new : Sides) → Grows old new → (rows : List InnerRow) → All (InnerWithin old) rows → All (InnerWithin new) rows
inners_within old new g = All-weaker (InnerWithin old) (InnerWithin new) (inner_within old new g)

pub op_kept : (old new : Sides) → Grows old new → (r : OpRow) → OpWithin old r → op_of new r ≡ op_of old r
op_kept old new g r w =
    let with_inner : List PlainOp → Op = λ inner. record { code = r.code; bytes = run_of new.bytes.items r.bytes; address = address_at new r.address; base = r.base; inner = inner } in
    let with_parts : List ℕ → Option Place → Op = λ bytes address. record { code = r.code; bytes = bytes; address = address; base = r.base; inner = map (inner_of old) (run_of old.inner.items r.inner) } in
    let rows = part_kept _ _ r.inner g.inner w.1.0 in
    ap with_inner (ap (map (inner_of new)) rows ∙ inners_kept old new g _ w.1.1) ∙ ap₂ with_parts (part_kept _ _ r.bytes g.bytes w.0.0) (address_kept old new g r.address w.0.1)

pub op_within : (old new : Sides) → Grows old new → (r : OpRow) → OpWithin old r → OpWithin new r
op_within old new g r w =
    let rows = part_kept _ _ r.inner g.inner w.1.0 in
    ((part_within _ _ r.bytes g.bytes w.0.0, address_within old new g r.address w.0.1), (part_within _ _ r.inner g.inner w.1.0, rw rows (inners_within old new g _ w.1.1)))

pub ops_kept : (old new : Sides) → Grows old new → (rows : List OpRow) → All (OpWithin old) rows → map (op_of new) rows ≡ map (op_of old) rows
ops_kept old new g = rows_same (OpWithin old) (op_of old) (op_of new) (op_kept old new g)

pub ops_within : (old new : Sides) → Grows old new → (rows : List OpRow) → All (OpWithin old) rows → All (OpWithin new) rows
ops_within old new g = All-weaker (OpWithin old) (OpWithin new) (op_within old new g)

-- ---- items of location lists

item_kept : (old new : Sides) → Grows old new → (r : ItemRow) → ItemWithin old r → item_of new r ≡ item_of old r
item_kept old new g r w =
    let with_ops : List Op → Location = λ ops. record { span = r.span; ops = ops } in
    let rows = part_kept _ _ r.ops g.ops w.0 in
    ap with_ops (ap (map (op_of new)) rows ∙ ops_kept old new g _ w.1)

item_within : (old new : Sides) → Grows old new → (r : ItemRow) → ItemWithin old r → ItemWithin new r
item_within old new g r w =
    let rows = part_kept _ _ r.ops g.ops w.0 in
    (part_within _ _ r.ops g.ops w.0, rw rows (ops_within old new g _ w.1))

pub items_kept : (old new : Sides) → Grows old new → (rows : List ItemRow) → All (ItemWithin old) rows → map (item_of new) rows ≡ map (item_of old) rows
items_kept old new g = rows_same (ItemWithin old) (item_of old) (item_of new) (item_kept old new g)

pub items_within : (old new : Sides) → Grows old new → (rows : List ItemRow) → All (ItemWithin old) rows → All (ItemWithin new) rows
items_within old new g = All-weaker (ItemWithin old) (ItemWithin new) (item_within old new g)

-- ---- values

pub held_kept : (old new : Sides) → Grows old new → (kind : Kind) (form n : ℕ) → IsWithin old kind n → held_value new kind form n ≡ held_value old kind form n
held_kept old new g kinds.Small form n w = refl
held_kept old new g kinds.Large form n w = ap (values.Number (number_form form)) (get_begins _ _ n 0 g.large w)
held_kept old new g kinds.Text form n w = ap values.Text (ap (λ (text : Option (List ℕ)). unwrap_or text []) (text_kept _ _ n g.bytes w))
held_kept old new g kinds.OwnText form n w = ap values.Text (run_kept old new _ _ n g g.bytes w)
held_kept old new g kinds.Wide form n w = ap values.Wide (run_kept old new _ _ n g g.bytes w)
held_kept old new g kinds.Block form n w = ap (values.Block form) (run_kept old new _ _ n g g.bytes w)
held_kept old new g kinds.Stored form n w = refl
held_kept old new g kinds.Address form n w = ap values.Address (get_begins _ _ n no_place g.places w)
held_kept old new g kinds.Ref form n w = refl
held_kept old new g kinds.Expr form n w =
    let rows = list_kept old new _ _ n g g.ops w.0 in
    ap values.Expr (ap (map (op_of new)) rows ∙ ops_kept old new g _ w.1)
held_kept old new g kinds.Ranges form n w = ap values.Ranges (list_kept old new _ _ n g g.spans w)
held_kept old new g kinds.Locations form n w =
    let rows = list_kept old new _ _ n g g.items w.0 in
    ap values.Locations (ap (map (item_of new)) rows ∙ items_kept old new g _ w.1)
held_kept old new g kinds.Lines form n w = refl
held_kept old new g kinds.Offset form n w = refl
held_kept old new g kinds.LargeOffset form n w = ap values.Offset (get_begins _ _ n 0 g.large w)

pub within_kept : (old new : Sides) → Grows old new → (kind : Kind) (n : ℕ) → IsWithin old kind n → IsWithin new kind n
within_kept old new g kinds.Small n w = tt
within_kept old new g kinds.Large n w = let l = longer _ _ g.large in omega arith
within_kept old new g kinds.Text n w = rw (text_kept _ _ n g.bytes w) w
within_kept old new g kinds.OwnText n w = run_within old new _ _ n g g.bytes w
within_kept old new g kinds.Wide n w = run_within old new _ _ n g g.bytes w
within_kept old new g kinds.Block n w = run_within old new _ _ n g g.bytes w
within_kept old new g kinds.Stored n w = tt
within_kept old new g kinds.Address n w = let l = longer _ _ g.places in omega arith
within_kept old new g kinds.Ref n w = tt
within_kept old new g kinds.Expr n w =
    let rows = list_kept old new _ _ n g g.ops w.0 in
    (list_within old new _ _ n g g.ops w.0, rw rows (ops_within old new g _ w.1))
within_kept old new g kinds.Ranges n w = list_within old new _ _ n g g.spans w
within_kept old new g kinds.Locations n w =
    let rows = list_kept old new _ _ n g g.items w.0 in
    (list_within old new _ _ n g g.items w.0, rw rows (items_within old new g _ w.1))
within_kept old new g kinds.Lines n w = tt
within_kept old new g kinds.Offset n w = tt
within_kept old new g kinds.LargeOffset n w = let l = longer _ _ g.large in omega arith

-- where columns grow, no cell loses its value
pub others_kept : (was : Held) (old new : Sides) → Grows old new → KeepsOthers was old new
others_kept was old new g = record { value = λ kind form n w apart. held_kept old new g kind form n w; within = within_kept old new g }

-- ---- parts that are put

-- items behind others, and the run of them
pub appended : {A : Type 0} (xs ys zs : List A) (s : Run) → zs ≡ xs ++ ys → s.from ≡ length xs → s.to ≡ length xs + length ys → (run_of zs s ≡ ys) × InRun zs s
appended xs ys zs s is from to =
    let tail : drop s.from zs ≡ ys = rw (is, from) (drop_at xs ys (length xs) refl) in
    let all : length zs ≡ length xs + length ys = ap length is ∙ length-append xs ys in
    (ap (take (s.to - s.from)) tail ∙ take_all (s.to - s.from) ys (omega arith), (omega arith, omega arith))

-- the run between two places has what stands there, also where that is nothing
pub between_same : {A : Type 0} (items : List A) (from to : ℕ) → from ≤ to → to ≤ length items → (run_of items (run_between from to) ≡ slice_range items from to) × InRun items (run_between from to)
between_same items from to up within =
    elim (cases_lt from to) [
      | inl lt ↦ rw (lt-ltb from to lt) (refl, (up, within))
      | inr le ↦
          let none : to - from ≡ 0 = omega arith in
          rw (le-ltb from to le) (sym (ap (λ n. take n (drop from items)) none), (omega arith, omega arith))
    ]

-- bytes and an address stay, as columns grow
pub parts_kept : (s t : Sides) (bytes : Run) (at : Option ℕ) → Grows s t → InRun s.bytes.items bytes → IsAddress s at → ((run_of t.bytes.items bytes ≡ run_of s.bytes.items bytes) × (address_at t at ≡ address_at s at)) × (InRun t.bytes.items bytes × IsAddress t at)
parts_kept s t bytes at g w a = ((part_kept _ _ bytes g.bytes w, address_kept s t g at a), (part_within _ _ bytes g.bytes w, address_within s t g at a))

-- the run that was put last
pub last_run : (xs ys : List Run) (at : ℕ) (s : Run) → ys ≡ xs ++ s ∷ [] → at ≡ length xs → (at < length ys) × (get_or ys at no_run ≡ s)
last_run xs ys at s is there =
    (rw (is, there) (omega (arith, length_push xs s)), rw (is, there) (get_or_push xs s no_run (length xs) refl))
