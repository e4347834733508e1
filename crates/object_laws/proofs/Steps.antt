-- The steps of an analysis over all entries, and what these keep to behind each.
use Rattle.std.proofs.Common.{◌≡◌, ◌<◌, ◌^◌, ◌||◌, ◌==◌, ℕ, suc, Bool, true, false, List, [], ◌∷◌, map, Option, Result, Ok, refl, sym, ap, subst, ◌∙◌, arith}
use Rattle.std.specs.Prelude.{is_none, if◌then◌else◌}
use Rattle.std.specs.List.{All, list_any}
use Rattle.std.proofs.lemmas.List.Elements.{All-nil, All-cons}
use Rattle.ds_base.specs.DwarfNumbers.{DW_AT_stmt_list, DW_TAG_compile_unit}
use Rattle.ds_base.specs.declared.fault.Fault.{Fault}
use Rattle.ds_base.specs.Reading.{◌>>=◌}
use Rattle.ds_base.proofs.Passing.{bind_ok, ok_is}
use Rattle.dwarf_types.specs.declared.entry.Attr.{Attr}
use Rattle.dwarf_types.specs.declared.entry.Entry.{Entry}
use Rattle.dwarf_types.specs.declared.entry.RawAttr.{RawAttr}
use Rattle.dwarf_types.specs.declared.entry.RawEntry.{RawEntry}
use Rattle.dwarf_types.specs.declared.value.Value.{Value}
use Rattle.dwarf_types.specs.WellRoots.{is_split}
use Rattle.linked_laws.specs.Spellable.{IsSpellableAttr, IsSpellableValue, has_lines, is_lines, names_lines_first}
use Rattle.object_view.specs.Attributes.{all_marked, attr_by, attrs_by, each_of, entries_by, entry_by, entry_marked, lines_marked, lines_value, with_value}
use Rattle.object_view.proofs.Kept.{each_seen as each_made}
use Rattle.object_view.proofs.Names.{each_all}
use Rattle.object_view.proofs.Understood.{as_attr, as_entry, attr_given, entries_given, entry_given}
use Rattle.object_laws.proofs.Marked.{first_kept, has_kept, marked_first, seen}
use Rattle.object_laws.proofs.Read.{IsRawRoot, IsReadAttr, IsReadEntry}
use Rattle.object_laws.proofs.Stored.{IsStored}
use Rattle.object_laws.proofs.Values.{IsSpellableAs, IsPlainly, lines_given}

-- ---- steps

-- what is seen of each item stays, where the items keep to P
each_seen : {X V : Type 0} (view : X → V) (P : X → Type 0) (f : X → Result X Fault) → ((x y : X) → P x → f x ≡ Ok y → view y ≡ view x) → (xs ys : List X) → All P xs → each_of f xs ≡ Ok ys → map view ys ≡ map view xs
each_seen view P f keeps [] ys h e = ap (map view) (sym (ok_is [] ys e))
each_seen view P f keeps (x ∷ xs) ys h e =
    let first = bind_ok (f x) (λ here. each_of f xs >>= λ others. Ok (here ∷ others)) ys e in
    let others = bind_ok (each_of f xs) (λ others. Ok (first.0 ∷ others)) ys first.2 in
    ap (map view) (sym (ok_is (first.0 ∷ others.0) ys others.2)) ∙ rw (keeps x first.0 (h 0 x (omega arith)) first.1, each_seen view P f keeps xs others.0 (λ k d lt. h (suc k) d (omega arith)) others.1) refl

module _ (f : Attr → Result Value Fault) (P Q : Attr → Type 0) (keeps : (a : Attr) (v : Value) → P a → f a ≡ Ok v → Q (with_value a v)) where
  attr_step : (a b : Attr) → P a → attr_by f a ≡ Ok b → Q b
  attr_step a b h e =
      let value = bind_ok (f a) (λ value. Ok (with_value a value)) b e in
      subst Q (ok_is (with_value a value.0) b value.2) (keeps a value.0 h value.1)

  attrs_step : (attrs now : List Attr) → All P attrs → attrs_by f attrs ≡ Ok now → All Q now
  attrs_step attrs now h e = each_all (attr_by f) P Q (λ a b p is. attr_step a b p is) attrs now e h

  attr_seen : {V : Type 0} (view : Attr → V) → ((a : Attr) (v : Value) → P a → f a ≡ Ok v → view (with_value a v) ≡ view a) → (a b : Attr) → P a → attr_by f a ≡ Ok b → view b ≡ view a
  attr_seen {V} view stays a b h e =
      let value = bind_ok (f a) (λ value. Ok (with_value a value)) b e in
      subst (λ (x : Attr). view x ≡ view a) (ok_is (with_value a value.0) b value.2) (stays a value.0 h value.1)

  attrs_seen : {V : Type 0} (view : Attr → V) → ((a : Attr) (v : Value) → P a → f a ≡ Ok v → view (with_value a v) ≡ view a) → (attrs now : List Attr) → All P attrs → attrs_by f attrs ≡ Ok now → map view now ≡ map view attrs
  attrs_seen view stays attrs now h e = each_seen view P (attr_by f) (λ a b p is. attr_seen view stays a b p is) attrs now h e

-- ---- roots

pub record IsReadRoot (e : Entry) : Type 0 where
  pub tag : e.tag ≡ DW_TAG_compile_unit
  pub whole : list_any (λ a. is_split a.name) e.attrs ≡ false

split_by_names : {A : Type 0} (name : A → ℕ) (attrs : List A) → list_any (λ a. is_split (name a)) attrs ≡ list_any is_split (map name attrs)
split_by_names name [] = refl
split_by_names name (a ∷ attrs) = ap (λ (b : Bool). is_split (name a) || b) (split_by_names name attrs)

whole_kept : {A B : Type 0} (name : A → ℕ) (now_name : B → ℕ) (attrs : List A) (now : List B) → map now_name now ≡ map name attrs → list_any (λ a. is_split (name a)) attrs ≡ false → list_any (λ a. is_split (now_name a)) now ≡ false
whole_kept name now_name attrs now same whole = split_by_names now_name now ∙ ap (λ (names : List ℕ). list_any is_split names) same ∙ sym (split_by_names name attrs) ∙ whole

root_kept : (e : Entry) (attrs : List Attr) → map (λ a. a.name) attrs ≡ map (λ a. a.name) e.attrs → IsReadRoot e → IsReadRoot (record e { attrs = attrs })
root_kept e attrs same h = record { tag = h.tag; whole = whole_kept (λ (a : Attr). a.name) (λ (a : Attr). a.name) e.attrs attrs same h.whole }

root_given : (e : RawEntry) (attrs : List Attr) → map (λ a. a.name) attrs ≡ map (λ a. a.name) e.attrs → IsRawRoot e → IsReadRoot (as_entry e attrs)
root_given e attrs same h = record { tag = h.tag; whole = whole_kept (λ (a : RawAttr). a.name) (λ (a : Attr). a.name) e.attrs attrs same h.whole }

-- ---- as units are read, with meanings

pub record IsPlainAttr (version : ℕ) (a : Attr) : Type 0 where
  pub given : IsSpellableAttr version a
  pub plain : is_lines a.value ≡ false

-- an entry of a unit of a version
pub record IsPlainEntry (version : ℕ) (e : Entry) : Type 0 where
  pub some : 0 < e.tag
  pub fits : e.tag < 2 ^ 16
  pub attrs : All (IsPlainAttr version) e.attrs
  pub root : is_none e.parent ≡ true → IsReadRoot e

-- entries of units that have versions
module _ (v : ℕ → ℕ) (meant : ℕ → RawAttr → Result Value Fault) (given : (unit : ℕ) (a : RawAttr) (value : Value) → IsStored (v unit) a.value → meant unit a ≡ Ok value → IsPlainly (v unit) a.name value) where
  attr_plain : (unit : ℕ) (a : RawAttr) (b : Attr) → IsReadAttr (v unit) a → attr_given (meant unit) a ≡ Ok b → IsPlainAttr (v unit) b
  attr_plain unit a b h e =
      let value = bind_ok (meant unit a) (λ value. Ok (as_attr a value)) b e in
      let p = given unit a value.0 h.value value.1 in
      subst (IsPlainAttr (v unit)) (ok_is (as_attr a value.0) b value.2) (record { given = record { some = h.some; fits = h.fits; value = p.0 }; plain = p.1 })

  attr_name : (unit : ℕ) (a : RawAttr) (b : Attr) → attr_given (meant unit) a ≡ Ok b → b.name ≡ a.name
  attr_name unit a b e =
      let value = bind_ok (meant unit a) (λ value. Ok (as_attr a value)) b e in
      ap (λ (x : Attr). x.name) (sym (ok_is (as_attr a value.0) b value.2))

  entry_plain : (e : RawEntry) (now : Entry) → IsReadEntry (v e.unit) e → entry_given (meant e.unit) e ≡ Ok now → IsPlainEntry (v now.unit) now
  entry_plain e now h is =
      let attrs = bind_ok (each_of (attr_given (meant e.unit)) e.attrs) (λ attrs. Ok (as_entry e attrs)) now is in
      let names = each_made (λ (b : Attr). b.name) (λ (a : RawAttr). a.name) (attr_given (meant e.unit)) (λ a b i. attr_name e.unit a b i) e.attrs attrs.0 attrs.1 in
      subst (λ (x : Entry). IsPlainEntry (v x.unit) x) (ok_is (as_entry e attrs.0) now attrs.2) (record {
        some = h.some;
        fits = h.fits;
        attrs = each_all (attr_given (meant e.unit)) (IsReadAttr (v e.unit)) (IsPlainAttr (v e.unit)) (λ a b p i. attr_plain e.unit a b p i) e.attrs attrs.0 attrs.1 h.attrs;
        root = λ none. root_given e attrs.0 names (h.root none);
      })

  pub entries_plain : (raw : List RawEntry) (now : List Entry) → All (λ e. IsReadEntry (v e.unit) e) raw → entries_given meant raw ≡ Ok now → All (λ e. IsPlainEntry (v e.unit) e) now
  entries_plain raw now h e =
      each_all (λ (x : RawEntry). entry_given (meant x.unit) x) (λ (x : RawEntry). IsReadEntry (v x.unit) x) (λ (x : Entry). IsPlainEntry (v x.unit) x) (λ x y p is. entry_plain x y p is) raw now e h

-- ---- with line tables marked

pub record IsMarkedEntry (version : ℕ) (e : Entry) : Type 0 where
  pub some : 0 < e.tag
  pub fits : e.tag < 2 ^ 16
  pub attrs : All (IsSpellableAttr version) e.attrs
  pub root : is_none e.parent ≡ true → IsReadRoot e
  pub first : is_none e.parent ≡ true → names_lines_first e.attrs ≡ true
  pub others : is_none e.parent ≡ false → has_lines e.attrs ≡ false

module _ (version : ℕ) where
  pub unmarked : (attrs : List Attr) → All (IsPlainAttr version) attrs → has_lines attrs ≡ false
  unmarked [] h = refl
  unmarked (a ∷ attrs) h = rw ((h 0 a (omega arith)).plain, unmarked attrs (λ k d lt. h (suc k) d (omega arith))) refl

  pub plain_given : (attrs : List Attr) → All (IsPlainAttr version) attrs → All (IsSpellableAttr version) attrs
  plain_given attrs h k d lt = (h k d lt).given

  first_marked : (b : Bool) (a : Attr) (attrs others : List Attr) → IsPlainAttr version a → All (IsSpellableAttr version) attrs → All (IsSpellableAttr version) others
      → All (IsSpellableAttr version) (if b then with_value a (lines_value a) ∷ attrs else a ∷ others)
  first_marked true a attrs others h behind marked =
      let g = h.given in
      All-cons (IsSpellableAttr version) (with_value a (lines_value a)) attrs (record { some = g.some; fits = g.fits; value = lines_given version a g.value }) behind
  first_marked false a attrs others h behind marked = All-cons (IsSpellableAttr version) a others h.given marked

  marked_given : (attrs : List Attr) → All (IsPlainAttr version) attrs → All (IsSpellableAttr version) (lines_marked attrs)
  marked_given [] h = All-nil (IsSpellableAttr version)
  marked_given (a ∷ attrs) h =
      let behind : All (IsPlainAttr version) attrs = λ k d lt. h (suc k) d (omega arith) in
      first_marked (a.name == DW_AT_stmt_list) a attrs (lines_marked attrs) (h 0 a (omega arith)) (plain_given attrs behind) (marked_given attrs behind)

names_case : (b : Bool) (a : Attr) (attrs : List Attr) → map (λ x. x.name) (lines_marked attrs) ≡ map (λ x. x.name) attrs
    → map (λ x. x.name) (if b then with_value a (lines_value a) ∷ attrs else a ∷ lines_marked attrs) ≡ a.name ∷ map (λ x. x.name) attrs
names_case true a attrs h = refl
names_case false a attrs h = ap (λ (names : List ℕ). a.name ∷ names) h

marked_names : (attrs : List Attr) → map (λ a. a.name) (lines_marked attrs) ≡ map (λ a. a.name) attrs
marked_names [] = refl
marked_names (a ∷ attrs) = names_case (a.name == DW_AT_stmt_list) a attrs (marked_names attrs)

both_ways : (b : Bool) → b ≡ true → b ≡ false → ⊥
both_ways b p q = absurd cc

module _ (v : ℕ → ℕ) where
  abbrev IsMarkedHere : Entry → Type 0
  IsMarkedHere e = IsMarkedEntry (v e.unit) e

  marked_entry : (b : Bool) (e : Entry) → is_none e.parent ≡ b → IsPlainEntry (v e.unit) e → IsMarkedHere (if b then record e { attrs = lines_marked e.attrs } else e)
  marked_entry true e is h = record {
    some = h.some;
    fits = h.fits;
    attrs = marked_given (v e.unit) e.attrs h.attrs;
    root = λ none. root_kept e (lines_marked e.attrs) (marked_names e.attrs) (h.root none);
    first = λ none. marked_first e.attrs (unmarked (v e.unit) e.attrs h.attrs);
    others = λ other. absurd (both_ways (is_none e.parent) is other);
  }
  marked_entry false e is h = record {
    some = h.some;
    fits = h.fits;
    attrs = plain_given (v e.unit) e.attrs h.attrs;
    root = h.root;
    first = λ none. absurd (both_ways (is_none e.parent) none is);
    others = λ other. unmarked (v e.unit) e.attrs h.attrs;
  }

  pub entries_marked : (entries : List Entry) → All (λ e. IsPlainEntry (v e.unit) e) entries → All (λ e. IsMarkedEntry (v e.unit) e) (all_marked entries)
  entries_marked [] h = All-nil IsMarkedHere
  entries_marked (e ∷ entries) h =
      All-cons IsMarkedHere (entry_marked e) (all_marked entries) (marked_entry (is_none e.parent) e refl (h 0 e (omega arith))) (entries_marked entries (λ k d lt. h (suc k) d (omega arith)))

-- ---- with lists

-- an entry's parent, and what is seen of its attributes
abbrev pub entry_seen : Entry → Option ℕ × List (ℕ × Bool)
entry_seen e = (e.parent, map seen e.attrs)

module _ (v : ℕ → ℕ) (meant : ℕ → Attr → Result Value Fault) (given : (unit : ℕ) (a : Attr) (value : Value) → IsSpellableValue (v unit) a.name a.value → meant unit a ≡ Ok value → IsSpellableAs (v unit) a.name a.value value) where
  attr_kept : (unit : ℕ) (a : Attr) (value : Value) → IsSpellableAttr (v unit) a → meant unit a ≡ Ok value → IsSpellableAttr (v unit) (with_value a value)
  attr_kept unit a value h e = record { some = h.some; fits = h.fits; value = (given unit a value h.value e).0 }

  attr_seen_kept : (unit : ℕ) (a : Attr) (value : Value) → IsSpellableAttr (v unit) a → meant unit a ≡ Ok value → seen (with_value a value) ≡ seen a
  attr_seen_kept unit a value h e = ap (λ (b : Bool). (a.name, b)) (given unit a value h.value e).1

  seen_kept : (e : Entry) (attrs : List Attr) → All (IsSpellableAttr (v e.unit)) e.attrs → attrs_by (meant e.unit) e.attrs ≡ Ok attrs → map seen attrs ≡ map seen e.attrs
  seen_kept e attrs h is = attrs_seen (meant e.unit) (IsSpellableAttr (v e.unit)) (IsSpellableAttr (v e.unit)) (attr_kept e.unit) seen (attr_seen_kept e.unit) e.attrs attrs h is

  entry_kept : (e now : Entry) → IsMarkedEntry (v e.unit) e → entry_by (meant e.unit) e ≡ Ok now → IsMarkedEntry (v now.unit) now
  entry_kept e now h is =
      let P : Attr → Type 0 = IsSpellableAttr (v e.unit) in
      let attrs = bind_ok (attrs_by (meant e.unit) e.attrs) (λ attrs. Ok (record e { attrs = attrs })) now is in
      let names = attrs_seen (meant e.unit) P P (attr_kept e.unit) (λ a. a.name) (λ a v p i. refl) e.attrs attrs.0 h.attrs attrs.1 in
      let same = seen_kept e attrs.0 h.attrs attrs.1 in
      subst (λ (x : Entry). IsMarkedEntry (v x.unit) x) (ok_is (record e { attrs = attrs.0 }) now attrs.2) (record {
        some = h.some;
        fits = h.fits;
        attrs = attrs_step (meant e.unit) P P (attr_kept e.unit) e.attrs attrs.0 h.attrs attrs.1;
        root = λ none. root_kept e attrs.0 names (h.root none);
        first = λ none. first_kept attrs.0 e.attrs same ∙ h.first none;
        others = λ other. has_kept attrs.0 e.attrs same ∙ h.others other;
      })

  pub entries_listed : (entries now : List Entry) → All (λ e. IsMarkedEntry (v e.unit) e) entries → entries_by meant entries ≡ Ok now → All (λ e. IsMarkedEntry (v e.unit) e) now
  entries_listed entries now h e =
      each_all (λ (x : Entry). entry_by (meant x.unit) x) (λ (x : Entry). IsMarkedEntry (v x.unit) x) (λ (x : Entry). IsMarkedEntry (v x.unit) x) (λ x y p is. entry_kept x y p is) entries now e h

  entry_seen_kept : (e now : Entry) → IsMarkedEntry (v e.unit) e → entry_by (meant e.unit) e ≡ Ok now → entry_seen now ≡ entry_seen e
  entry_seen_kept e now h is =
      let attrs = bind_ok (attrs_by (meant e.unit) e.attrs) (λ attrs. Ok (record e { attrs = attrs })) now is in
      subst (λ (x : Entry). entry_seen x ≡ entry_seen e) (ok_is (record e { attrs = attrs.0 }) now attrs.2) (ap (λ (vs : List (ℕ × Bool)). (e.parent, vs)) (seen_kept e attrs.0 h.attrs attrs.1))

  pub listed_seen : (entries now : List Entry) → All (λ e. IsMarkedEntry (v e.unit) e) entries → entries_by meant entries ≡ Ok now → map entry_seen now ≡ map entry_seen entries
  listed_seen entries now h e = each_seen entry_seen (λ (x : Entry). IsMarkedEntry (v x.unit) x) (λ (x : Entry). entry_by (meant x.unit) x) (λ x y p is. entry_seen_kept x y p is) entries now h e
