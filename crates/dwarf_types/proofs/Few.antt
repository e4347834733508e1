-- Columns beside cells have so few items that 32 bits hold their places.
use Rattle.std.proofs.Common.{inl, inr, ◌≡◌, ℕ, zero, suc, ◌+◌, ◌<◌, ◌≤◌, ◌^◌, List, [], ◌∷◌, ◌++◌, length, get_or, set, All, refl, subst, sym, ◌∙◌, arith}
use Rattle.std.specs.List.{AllPairs, sum_by}
use Rattle.std.proofs.lemmas.Bool.{cases_lt}
use Rattle.std.proofs.lemmas.List.{get_or_default, get_or-set_other, get_or-set_same, length-set, length_push}
use Rattle.std.proofs.lemmas.List.Elements.{All-get_or}
use Rattle.std.proofs.lemmas.List.Quantifiers.{all_pairs_push}
use Rattle.std.proofs.lemmas.List.Sums.{sum_by-cons, sum_by-set, sum_by_push}
use Rattle.dwarf_types.specs.declared.columns.Cell.{Cell}
use Rattle.dwarf_types.specs.declared.put.NewValue.{NewValue}
use Rattle.dwarf_types.specs.declared.put.NewValue.TheVariants as news
use Rattle.dwarf_types.specs.declared.sides.Kind.{Kind}
use Rattle.dwarf_types.specs.declared.sides.Kind.TheVariants as kinds
use Rattle.dwarf_types.specs.declared.sides.Sides.{Sides}
use Rattle.dwarf_types.specs.Cells.{AreAsMany, HaveRoom, IsNew, IsNewOver, IsWithin, MayHold, held_value, own_item, own_items, read_items}
use Rattle.dwarf_types.specs.Columns.{Apart, AreFew, CellWithin, held_of}
use Rattle.dwarf_types.specs.Put.{MayBecome}

-- ---- what may be put

none_holds : (kind : Kind) (new : NewValue) → own_item kind ≡ 0 → MayHold kind new
none_holds kind (news.Address place) none = λ not. none
none_holds kind (news.Expr ops) none = none
none_holds kind (news.Ref k) none = none
none_holds kind (news.Ranges spans) none = none
none_holds kind (news.Locations items) none = none
none_holds kind news.Lines none = none

pub may_hold : (s : Sides) (kind : Kind) (form n : ℕ) (new : NewValue) → MayBecome (held_value s kind form n) new → MayHold kind new
may_hold s kinds.Small form n new m = none_holds kinds.Small new refl
may_hold s kinds.Large form n new m = none_holds kinds.Large new refl
may_hold s kinds.Text form n new m = none_holds kinds.Text new refl
may_hold s kinds.OwnText form n new m = none_holds kinds.OwnText new refl
may_hold s kinds.Wide form n new m = none_holds kinds.Wide new refl
may_hold s kinds.Block form n new m = none_holds kinds.Block new refl
may_hold s kinds.Stored form n new m = none_holds kinds.Stored new refl
may_hold s kinds.Address form n (news.Address place) m = λ not. absurd (not refl)
may_hold s kinds.Address form n (news.Expr ops) m = absurd m
may_hold s kinds.Address form n (news.Ref k) m = absurd m
may_hold s kinds.Address form n (news.Ranges spans) m = absurd m
may_hold s kinds.Address form n (news.Locations items) m = absurd m
may_hold s kinds.Address form n news.Lines m = absurd m
may_hold s kinds.Ref form n new m = none_holds kinds.Ref new refl
may_hold s kinds.Expr form n new m = absurd m
may_hold s kinds.Ranges form n new m = absurd m
may_hold s kinds.Locations form n new m = absurd m
may_hold s kinds.Lines form n new m = none_holds kinds.Lines new refl
may_hold s kinds.Offset form n new m = none_holds kinds.Offset new refl
may_hold s kinds.LargeOffset form n new m = none_holds kinds.LargeOffset new refl

-- ---- how many items cells have of their own

abbrev own_of : Cell → ℕ
own_of c = own_item c.kind

own_one : (kind : Kind) → own_item kind ≤ 1
own_one kinds.Address = omega arith
own_one kinds.Expr = omega arith
own_one kinds.Ranges = omega arith
own_one kinds.Locations = omega arith
own_one kind = omega arith

own_le : (cells : List Cell) → sum_by own_of cells ≤ length cells
own_le [] = omega arith
own_le (c ∷ cells) =
    let rest = own_le cells in
    let one = own_one c.kind in
    omega (arith, sum_by-cons own_of c cells)

-- fewer than there are cells, where one has none
own_less : (cells : List Cell) (k : ℕ) (d : Cell) → k < length cells → own_item (get_or cells k d).kind ≡ 0 → sum_by own_of cells < length cells
own_less [] k d lt none = absurd (omega arith)
own_less (c ∷ cells) zero d lt none =
    let rest = own_le cells in
    omega (arith, sum_by-cons own_of c cells)
own_less (c ∷ cells) (suc k) d lt none =
    let rest = own_less cells k d (omega arith) none in
    let one = own_one c.kind in
    omega (arith, sum_by-cons own_of c cells)

pub room_more : (s : Sides) (cells : List Cell) → AreFew s cells → length cells < 2 ^ 32 → HaveRoom s
room_more s cells few lt =
    let read : read_items s ≤ length cells = few.read in
    let own : own_items s ≤ sum_by own_of cells = few.own in
    let le = own_le cells in
    (omega arith, omega arith)

pub room_own : (s : Sides) (cells : List Cell) (k : ℕ) (cell : Cell) → AreFew s cells → k < length cells → cell ≡ get_or cells k cell → own_item cell.kind ≡ 0 → own_items s < 2 ^ 32
room_own s cells k cell few lt here none =
    let own : own_items s ≤ sum_by own_of cells = few.own in
    let most : length cells ≤ 2 ^ 32 = few.most in
    let less = own_less cells k cell lt (subst (λ (c : Cell). own_item c.kind ≡ 0) here none) in
    omega arith

-- ---- cells apart

module _ {X : Type 0} (R : X → X → Type 0) where
  all_pairs_set : (xs : List X) (k : ℕ) (y : X) → AllPairs R xs → ((i : ℕ) (d : X) → i < k → i < length xs → R (get_or xs i d) y) → ((i : ℕ) (d : X) → k < i → i < length xs → R y (get_or xs i d)) → AllPairs R (set xs k y)
  all_pairs_set xs k y all before behind i j d lt within =
      let inside : j < length xs = omega (arith, length-set xs k y) in
      elim (cases_lt i k) [
        | inl low ↦
            elim (cases_lt j k) [
              | inl both ↦ rw (get_or-set_other xs k i y d (λ is. omega arith), get_or-set_other xs k j y d (λ is. omega arith)) (all i j d lt inside)
              | inr high ↦
                  elim (cases_lt k j) [
                    | inl past ↦ rw (get_or-set_other xs k i y d (λ is. omega arith), get_or-set_other xs k j y d (λ is. omega arith)) (all i j d lt inside)
                    | inr there ↦
                        let same : j ≡ k = omega arith in
                        rw (get_or-set_other xs k i y d (λ is. omega arith), same, get_or-set_same xs k y d (omega arith)) (before i d low (omega arith))
                  ]
            ]
        | inr high ↦
            elim (cases_lt k i) [
              | inl past ↦ rw (get_or-set_other xs k i y d (λ is. omega arith), get_or-set_other xs k j y d (λ is. omega arith)) (all i j d lt inside)
              | inr there ↦
                  let same : i ≡ k = omega arith in
                  rw (get_or-set_other xs k j y d (λ is. omega arith), same, get_or-set_same xs k y d (omega arith)) (behind j d (omega arith) inside)
            ]
      ]

before_or_behind : {P : Type 0} (k l : ℕ) → (l ≡ k → ⊥) → (l < k → P) → (k < l → P) → P
before_or_behind k l other before behind =
    elim (cases_lt l k) [
      | inl low ↦ before low
      | inr le ↦ elim (cases_lt k l) [ inl high ↦ behind high | inr back ↦ absurd (other (omega arith)) ]
    ]

-- an address is not that of any other cell
pub apart_from : (cells : List Cell) (k l : ℕ) (cell d : Cell) → AllPairs Apart cells → k < length cells → l < length cells → (l ≡ k → ⊥) → cell ≡ get_or cells k cell → cell.kind ≡ kinds.Address → (get_or cells l d).kind ≡ kinds.Address → (get_or cells l d).payload ≡ cell.payload → ⊥
apart_from cells k l cell d all within inside other here own there same =
    let stands : cell ≡ get_or cells k d = here ∙ get_or_default cells k cell d within in
    let kind : (get_or cells k d).kind ≡ kinds.Address = subst (λ (c : Cell). c.kind ≡ kinds.Address) stands own in
    let payload : (get_or cells l d).payload ≡ (get_or cells k d).payload = subst (λ (c : Cell). (get_or cells l d).payload ≡ c.payload) stands same in
    before_or_behind k l other (λ low. all l k d low within there kind payload) (λ high. all k l d high inside kind there (sym payload))

-- ---- no cell more

pub few_same : (old new : Sides) (cells : List Cell) → AreFew old cells → AreAsMany old new → AreFew new cells
few_same old new cells few same = record { most = few.most; read = rw same.0 few.read; own = rw same.1 few.own; apart = few.apart }

-- ---- a cell more

put_apart : (old : Sides) (c d : Cell) → CellWithin old c → IsNew old d.kind d.payload → Apart c d
put_apart old c d within is_new there now same =
    let low : c.payload < length old.places.items = subst (λ (kind : Kind). IsWithin old kind c.payload) there within in
    let last : d.payload ≡ length old.places.items = subst (λ (kind : Kind). IsNew old kind d.payload) now is_new in
    omega arith

pub few_put : (old new : Sides) (cells : List Cell) (c : Cell) → AreFew old cells → All (CellWithin old) cells → length cells < 2 ^ 32 → read_items new ≤ read_items old + 1 → own_items new ≡ own_items old + own_item c.kind → IsNew old c.kind c.payload → AreFew new (cells ++ c ∷ [])
few_put old new cells c few within lt read own is_new =
    let was_read : read_items old ≤ length cells = few.read in
    let was_own : own_items old ≤ sum_by own_of cells = few.own in
    let sum = sum_by_push own_of cells c in
    let long = length_push cells c in
    record {
      most = omega arith;
      read = omega arith;
      own = omega arith;
      apart = all_pairs_push Apart cells c few.apart (λ k d inside. put_apart old (get_or cells k d) c (All-get_or (CellWithin old) cells k d inside within) is_new);
    }

-- ---- another value in a cell

over_apart : (old : Sides) (cell c to : Cell) → CellWithin old c → IsNewOver (held_of cell) old to.kind to.payload → (cell.kind ≡ kinds.Address → c.kind ≡ kinds.Address → c.payload ≡ cell.payload → ⊥) → Apart c to
over_apart old cell c to within is_new other there now same =
    let low : c.payload < length old.places.items = subst (λ (kind : Kind). IsWithin old kind c.payload) there within in
    let of_old : to.payload < length old.places.items → (cell.kind ≡ kinds.Address) × (to.payload ≡ cell.payload) = subst (λ (kind : Kind). IsNewOver (held_of cell) old kind to.payload) now is_new in
    let before = of_old (omega arith) in
    other before.0 there (same ∙ before.1)

pub few_over : (old new : Sides) (cells : List Cell) (k : ℕ) (cell : Cell) (kind : Kind) (payload : ℕ) → AreFew old cells → All (CellWithin old) cells → k < length cells → cell ≡ get_or cells k cell → read_items new ≡ read_items old → own_items new + own_item cell.kind ≡ own_items old + own_item kind → IsNewOver (held_of cell) old kind payload → AreFew new (set cells k (record cell { kind = kind; payload = payload }))
few_over old new cells k cell kind payload few within lt here read own is_new =
    let to : Cell = record cell { kind = kind; payload = payload } in
    let most : length cells ≤ 2 ^ 32 = few.most in
    let was_read : read_items old ≤ length cells = few.read in
    let was_own : own_items old ≤ sum_by own_of cells = few.own in
    let sum : sum_by own_of (set cells k to) + own_of (get_or cells k cell) ≡ sum_by own_of cells + own_item kind = sum_by-set own_of cells k to cell lt in
    let one : own_of (get_or cells k cell) ≡ own_item cell.kind = subst (λ (c : Cell). own_of c ≡ own_item cell.kind) here refl in
    let long = length-set cells k to in
    let other : (l : ℕ) (d : Cell) → l < length cells → (l ≡ k → ⊥) → Apart (get_or cells l d) to = λ l d inside no. over_apart old cell (get_or cells l d) to (All-get_or (CellWithin old) cells l d inside within) is_new (apart_from cells k l cell d few.apart lt inside no here) in
    record {
      most = omega arith;
      read = omega arith;
      own = omega arith;
      apart = all_pairs_set Apart cells k to few.apart (λ i d low inside is now same. other i d inside (λ e. omega arith) is now same) (λ i d high inside now is same. other i d inside (λ e. omega arith) is now (sym same));
    }
