-- Items changed in place, each part by part, where a change may be refused: entries as they are read, and entries that are understood.
use Rattle.std.proofs.Common.{◌≡◌, ℕ, zero, suc, ◌+◌, ◌<◌, ◌≤◌, List, [], ◌∷◌, Result, Ok, Err, Some, length, get_or, set, slice_get, refl, sym, ap, subst, ◌∙◌, arith}
use Rattle.std.proofs.Math.Path.{fun_ext}
use Rattle.std.proofs.lemmas.List.{set-set}
use Rattle.std.proofs.lemmas.Option.{get_or_from_slice_get, slice_get_within}
use Rattle.ds_base.proofs.Passing.{bind_ok, ok_is}
use Rattle.ds_base.proofs.Refusals.{Refused}
use Rattle.ds_base.specs.declared.fault.Fault.{Fault}
use Rattle.ds_base.specs.declared.fault.ReadError.{ReadError}
use Rattle.ds_base.specs.declared.fault.ReadError.TheVariants as errors
use Rattle.ds_base.specs.Reading.{◌>>=◌}
use Rattle.dwarf_types.specs.declared.entry.Attr.{Attr}
use Rattle.dwarf_types.specs.declared.entry.Entry.{Entry}
use Rattle.dwarf_types.specs.declared.entry.RawAttr.{RawAttr}
use Rattle.dwarf_types.specs.declared.entry.RawEntry.{RawEntry}
use Rattle.dwarf_types.specs.declared.value.Value.{Value}
use Rattle.object_view.specs.Attributes.{attr_by, each_of, raw_attr_by}
use Rattle.object_view.proofs.EachOf.{Changed, changed_all, changed_err, changed_more, changed_none, unchanged}

-- ---- items at their places

pub some_same : {X : Type 0} (x y : X) → Some x ≡ Some y → x ≡ y
some_same x y e = cc

pub get_some : {X : Type 0} (xs : List X) (i : ℕ) → i < length xs → (x : X) × (slice_get xs i ≡ Some x)
get_some [] i lt = absurd (omega arith)
get_some (x ∷ xs) zero lt = (x, refl)
get_some (x ∷ xs) (suc i) lt = get_some xs i (omega arith)

pub get_set : {X : Type 0} (xs : List X) (i : ℕ) (x : X) → i < length xs → slice_get (set xs i x) i ≡ Some x
get_set [] i x lt = absurd (omega arith)
get_set (y ∷ xs) zero x lt = refl
get_set (y ∷ xs) (suc i) x lt = get_set xs i x (omega arith)

pub set_same : {X : Type 0} (xs : List X) (i : ℕ) (x : X) → slice_get xs i ≡ Some x → set xs i x ≡ xs
set_same [] i x e = refl
set_same {X} (y ∷ xs) zero x e = let same : y ≡ x = cc in ap (λ (z : X). z ∷ xs) (sym same)
set_same (y ∷ xs) (suc i) x e = ap (λ ys. y ∷ ys) (set_same xs i x e)

pub got : {X : Type 0} (xs : List X) (k : ℕ) (d : X) → k < length xs → slice_get xs k ≡ Some (get_or xs k d)
got [] k d lt = absurd (omega (arith, lt))
got (x ∷ xs) zero d lt = refl
got (x ∷ xs) (suc k) d lt = got xs k d (omega (arith, lt))

-- ---- refusals

pub refused_bind : {X Y : Type 0} (e : ReadError) (r : Result X Fault) (f : X → Result Y Fault) → Refused e r → Refused e (r >>= f)
refused_bind {X} (errors.Faulty k) r f h = ap (λ (x : Result X Fault). x >>= f) h
refused_bind errors.NoMemory r f h = tt

pub refused_back : {X Y : Type 0} (e : ReadError) (r : Result X Fault) (f : X → Y) → Refused e (r >>= λ x. Ok (f x)) → Refused e r
refused_back (errors.Faulty k) (Ok x) f h = absurd (let no : ⊥ = cc in no)
refused_back (errors.Faulty k) (Err g) f h = let same : g ≡ k = cc in ap Err same
refused_back errors.NoMemory r f h = tt

-- ---- whole items

module _ {X : Type 0} (meant : X → Result X Fault) (old now : List X) (i : ℕ) (lt : i < length now) (so_far : Changed meant old now i) where
  -- an item that is still to be changed is as it was
  pub item_was : (x : X) → slice_get now i ≡ Some x → slice_get old i ≡ Some x
  item_was x is =
      let long = so_far.long in
      got old i x (omega (arith, lt, long)) ∙ ap Some (sym (unchanged meant old now i x lt so_far) ∙ get_or_from_slice_get now i x x is)

  abbrev OnItem : (Result (List X) Fault → Type 0) → Type 0
  OnItem P = (x : X) → slice_get now i ≡ Some x → P (meant x >>= λ y. Ok (set now i y))

  pub item_more : (new : List X) → OnItem (λ r. r ≡ Ok new) → Changed meant old new (i + 1)
  item_more new step =
      let it = get_some now i lt in
      let made = bind_ok (meant it.0) (λ (y : X). Ok (set now i y)) new (step it.0 it.1) in
      let same : get_or now i it.0 ≡ it.0 = get_or_from_slice_get now i it.0 it.0 it.1 in
      let more = changed_more meant old now i it.0 lt so_far made.0 (ap meant same ∙ made.1) in
      subst (λ (xs : List X). Changed meant old xs (i + 1)) (ok_is (set now i made.0) new made.2) more

  pub item_refused : (err : ReadError) → OnItem (Refused err) → Refused err (each_of meant old)
  item_refused err step =
      let it = get_some now i lt in
      let same : it.0 ≡ get_or now i it.0 = sym (get_or_from_slice_get now i it.0 it.0 it.1) in
      let refused = refused_back err (meant it.0) (λ (y : X). set now i y) (step it.0 it.1) in
      changed_err meant old now i it.0 lt so_far err (subst (λ (x : X). Refused err (meant x)) same refused)

-- ---- the parts of an item

-- the parts of items, an item with other parts, and what becomes of a part of an item
pub record Turn (E A : Type 0) : Type 0 where
  pub parts : E → List A
  pub with_parts : E → List A → E
  pub given : E → A → Result A Fault
  pub whole : (e : E) → with_parts e (parts e) ≡ e
  pub held : (e : E) (xs : List A) → parts (with_parts e xs) ≡ xs
  pub again : (e : E) (xs ys : List A) → with_parts (with_parts e xs) ys ≡ with_parts e ys
  pub kept : (e : E) (xs : List A) → given (with_parts e xs) ≡ given e

abbrev pub turned : {E A : Type 0} → Turn E A → E → Result E Fault
turned t e = each_of (t.given e) (t.parts e) >>= λ xs. Ok (t.with_parts e xs)

abbrev pub entry_turn : (ℕ → Attr → Result Value Fault) → Turn Entry Attr
entry_turn meant = record {
  parts = λ e. e.attrs;
  with_parts = λ e attrs. record e { attrs = attrs };
  given = λ e a. attr_by (meant e.unit) a;
  whole = λ e. refl;
  held = λ e xs. refl;
  again = λ e xs ys. refl;
  kept = λ e xs. refl;
}

abbrev pub raw_turn : (ℕ → RawAttr → Result Value Fault) → Turn RawEntry RawAttr
raw_turn meant = record {
  parts = λ e. e.attrs;
  with_parts = λ e attrs. record e { attrs = attrs };
  given = λ e a. raw_attr_by (meant e.unit) a;
  whole = λ e. refl;
  held = λ e xs. refl;
  again = λ e xs ys. refl;
  kept = λ e xs. refl;
}

-- the item i, of whose parts the first j are changed
pub record Part {E A : Type 0} (t : Turn E A) (old now : List E) (i j : ℕ) (e : E) : Type 0 where
  pub parts : List A
  pub is : now ≡ set old i (t.with_parts e parts)
  pub changed : Changed (t.given e) (t.parts e) parts j

pub part_none : {E A : Type 0} (t : Turn E A) (old : List E) (i : ℕ) (e : E) → slice_get old i ≡ Some e → Part t old old i 0 e
part_none {E} t old i e read = record {
  parts = t.parts e;
  is = sym (ap (λ (x : E). set old i x) (t.whole e) ∙ set_same old i e read);
  changed = changed_none (t.given e) (t.parts e);
}

module _ {E A : Type 0} (t : Turn E A) (old now : List E) (i j : ℕ) (e : E) (read : slice_get old i ≡ Some e) (lt : j < length (t.parts e)) (p : Part t old now i j e) where
  abbrev here : E
  here = t.with_parts e p.parts

  here_stands : slice_get now i ≡ Some here
  here_stands = ap (λ (es : List E). slice_get es i) p.is ∙ get_set old i here (slice_get_within old i e read)

  below : j < length p.parts
  below = let long = p.changed.long in omega (arith, lt, long)

  -- what stands there is the item with its parts
  pub part_here : (x : E) → slice_get now i ≡ Some x → here ≡ x
  part_here x there = some_same here x (sym here_stands ∙ there)

  pub part_stands : (x : E) × (slice_get now i ≡ Some x) × (j < length (t.parts x))
  part_stands = (here, here_stands, subst (λ (xs : List A). j < length xs) (sym (t.held e p.parts)) below)

  -- a part that is still to be changed is as it was
  pub part_was : (x : E) (a : A) → slice_get now i ≡ Some x → slice_get (t.parts x) j ≡ Some a → slice_get (t.parts e) j ≡ Some a
  part_was x a there is =
      let same : here ≡ x = part_here x there in
      let at : slice_get p.parts j ≡ Some a = ap (λ (xs : List A). slice_get xs j) (sym (t.held e p.parts)) ∙ ap (λ (y : E). slice_get (t.parts y) j) same ∙ is in
      item_was (t.given e) (t.parts e) p.parts j below p.changed a at

  abbrev OnPart : (Result (List E) Fault → Type 0) → Type 0
  OnPart P = (x : E) (a : A) → slice_get now i ≡ Some x → slice_get (t.parts x) j ≡ Some a → P (t.given x a >>= λ b. Ok (set now i (t.with_parts x (set (t.parts x) j b))))

  abbrev written : A → List E
  written b = set old i (t.with_parts e (set p.parts j b))

  written_is : (b : A) → set now i (t.with_parts here (set (t.parts here) j b)) ≡ written b
  written_is b =
      ap (λ (xs : List A). set now i (t.with_parts here (set xs j b))) (t.held e p.parts)
      ∙ ap (λ (y : E). set now i y) (t.again e p.parts (set p.parts j b))
      ∙ ap (λ (es : List E). set es i (t.with_parts e (set p.parts j b))) p.is
      ∙ set-set old i here (t.with_parts e (set p.parts j b))

  given_here : (a : A) → (t.given here a >>= λ b. Ok (set now i (t.with_parts here (set (t.parts here) j b)))) ≡ (t.given e a >>= λ b. Ok (written b))
  given_here a =
      ap (λ (g : A → Result A Fault). g a >>= λ b. Ok (set now i (t.with_parts here (set (t.parts here) j b)))) (t.kept e p.parts)
      ∙ ap (λ (f : A → Result (List E) Fault). t.given e a >>= f) (fun_ext (λ b. ap Ok (written_is b)))

  step_here : (P : Result (List E) Fault → Type 0) → OnPart P → (a : A) → slice_get p.parts j ≡ Some a → P (t.given e a >>= λ b. Ok (written b))
  step_here P step a is = subst P (given_here a) (step here a here_stands (ap (λ (xs : List A). slice_get xs j) (t.held e p.parts) ∙ is))

  pub part_more : (new : List E) → OnPart (λ r. r ≡ Ok new) → Part t old new i (j + 1) e
  part_more new step =
      let it = get_some p.parts j below in
      let made = bind_ok (t.given e it.0) (λ (b : A). Ok (written b)) new (step_here (λ r. r ≡ Ok new) step it.0 it.1) in
      let same : get_or p.parts j it.0 ≡ it.0 = get_or_from_slice_get p.parts j it.0 it.0 it.1 in
      record {
        parts = set p.parts j made.0;
        is = sym (ok_is (written made.0) new made.2);
        changed = changed_more (t.given e) (t.parts e) p.parts j it.0 below p.changed made.0 (ap (t.given e) same ∙ made.1);
      }

  pub part_refused : (err : ReadError) → OnPart (Refused err) → Refused err (turned t e >>= λ x. Ok (set old i x))
  part_refused err step =
      let it = get_some p.parts j below in
      let same : it.0 ≡ get_or p.parts j it.0 = sym (get_or_from_slice_get p.parts j it.0 it.0 it.1) in
      let refused = refused_back err (t.given e it.0) written (step_here (Refused err) step it.0 it.1) in
      let parts = changed_err (t.given e) (t.parts e) p.parts j it.0 below p.changed err (subst (λ (a : A). Refused err (t.given e a)) same refused) in
      refused_bind err (turned t e) (λ (x : E). Ok (set old i x)) (refused_bind err (each_of (t.given e) (t.parts e)) (λ (xs : List A). Ok (t.with_parts e xs)) parts)

pub part_all : {E A : Type 0} (t : Turn E A) (old now : List E) (i j : ℕ) (e : E) → length (t.parts e) ≤ j → Part t old now i j e → (turned t e >>= λ x. Ok (set old i x)) ≡ Ok now
part_all {E} {A} t old now i j e le p =
    let long = p.changed.long in
    let all : each_of (t.given e) (t.parts e) ≡ Ok p.parts = changed_all (t.given e) (t.parts e) p.parts j (omega (arith, le, long)) p.changed in
    ap (λ (r : Result (List A) Fault). (r >>= λ xs. Ok (t.with_parts e xs)) >>= λ x. Ok (set old i x)) all ∙ ap Ok (sym p.is)
