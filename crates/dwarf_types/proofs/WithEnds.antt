-- Entries with the places behind their values.
use Rattle.std.proofs.Common.{◌≡◌, ℕ, zero, suc, ◌+◌, ◌<◌, ◌≤◌, ◌==◌, List, [], ◌∷◌, map, length, drop, take, get_or, set, slice_get, Some, refl, ap, ap₂, subst, sym, ◌∙◌, arith}
use Rattle.std.specs.List.{position, zip}
use Rattle.std.proofs.lemmas.List.{drop-drop, length-drop, length-map, length-set, length-take}
use Rattle.std.proofs.lemmas.List.Sums.{sum_by-cons}
use Rattle.std.proofs.lemmas.Slice.Zip.{length-zip}
use Rattle.dwarf_types.specs.declared.entry.Attr.{Attr}
use Rattle.dwarf_types.specs.declared.entry.Entry.{Entry}
use Rattle.dwarf_types.specs.declared.entry.RawAttr.{RawAttr}
use Rattle.dwarf_types.specs.declared.entry.RawEntry.{RawEntry}
use Rattle.dwarf_types.specs.declared.value.Value.{Value}
use Rattle.dwarf_types.specs.Raw.{attr_count, attr_of, entry_of, places_of, raw_attr, raw_entries, raw_entry}
use Rattle.dwarf_types.proofs.Ends.{position_beside}
use Rattle.dwarf_types.proofs.Heads.{position_map}

some_same : {A : Type 0} (x y : A) → Some x ≡ Some y → x ≡ y
some_same x y e = cc

abbrev attrs_long : Entry → ℕ
attrs_long e = length e.attrs

abbrev with_ends : List Attr → List ℕ → List RawAttr
with_ends attrs ends = map raw_attr (zip attrs ends)

pub there_is : {A : Type 0} (xs : List A) (i : ℕ) → i < length xs → (x : A) × (slice_get xs i ≡ Some x)
there_is [] i lt = absurd (omega arith)
there_is (x ∷ xs) zero lt = (x, refl)
there_is (x ∷ xs) (suc i) lt = there_is xs i (omega arith)

-- ---- one entry

pub with_long : (attrs : List Attr) (ends : List ℕ) → length ends ≡ length attrs → length (with_ends attrs ends) ≡ length attrs
with_long attrs ends beside = omega (arith, length-map (zip attrs ends) raw_attr, length-zip attrs ends)

with_most : (attrs : List Attr) (ends : List ℕ) → length (with_ends attrs ends) ≤ length attrs
with_most attrs ends = omega (arith, length-map (zip attrs ends) raw_attr, length-zip attrs ends)

pub attr_with : (attrs : List Attr) (ends : List ℕ) (j : ℕ) (a : Attr) (d : ℕ) → j < length ends → slice_get attrs j ≡ Some a → slice_get (with_ends attrs ends) j ≡ Some (raw_attr (a, get_or ends j d))
attr_with [] ends j a d lt is = absurd (let no : ⊥ = cc in no)
attr_with (b ∷ attrs) [] j a d lt is = absurd (omega arith)
attr_with (b ∷ attrs) (n ∷ ends) zero a d lt is = ap (λ (x : Attr). Some (raw_attr (x, n))) (some_same b a is)
attr_with (b ∷ attrs) (n ∷ ends) (suc j) a d lt is = attr_with attrs ends j a d (omega arith) is

pub position_with : (name : ℕ) (attrs : List Attr) (ends : List ℕ) → length ends ≡ length attrs → position (λ (a : RawAttr). a.name == name) (with_ends attrs ends) ≡ position (λ (a : Attr). a.name == name) attrs
position_with name attrs ends beside =
    position_map raw_attr (λ (a : RawAttr). a.name == name) (zip attrs ends) ∙ position_beside (λ (a : Attr). a.name == name) attrs ends beside

-- the attribute of which one was made, and another value in it
pub record Rewritten (attrs : List Attr) (ends : List ℕ) (j : ℕ) (raw : RawAttr) : Type 0 where
  pub attr : Attr
  pub stands : slice_get attrs j ≡ Some attr
  pub is : attr.value ≡ raw.value
  pub becomes : (v : Value) → with_ends (set attrs j (record attr { value = v })) ends ≡ set (with_ends attrs ends) j (record raw { value = v })

pub attr_from : (attrs : List Attr) (ends : List ℕ) (j : ℕ) (raw : RawAttr) → slice_get (with_ends attrs ends) j ≡ Some raw → Rewritten attrs ends j raw
attr_from [] ends j raw is = absurd (let no : ⊥ = cc in no)
attr_from (b ∷ attrs) [] j raw is = absurd (let no : ⊥ = cc in no)
attr_from (b ∷ attrs) (n ∷ ends) zero raw is =
    let same : raw_attr (b, n) ≡ raw = some_same (raw_attr (b, n)) raw is in
    record {
      attr = b;
      stands = refl;
      is = ap (λ (x : RawAttr). x.value) same;
      becomes = λ v. ap (λ (x : RawAttr). record x { value = v } ∷ with_ends attrs ends) same;
    }
attr_from (b ∷ attrs) (n ∷ ends) (suc j) raw is =
    let later : Rewritten attrs ends j raw = attr_from attrs ends j raw is in
    record {
      attr = later.attr;
      stands = later.stands;
      is = later.is;
      becomes = λ v. ap (λ (xs : List RawAttr). raw_attr (b, n) ∷ xs) (later.becomes v);
    }

plain_attrs : (attrs : List Attr) (ends : List ℕ) → length attrs ≤ length ends → map attr_of (with_ends attrs ends) ≡ attrs
plain_attrs [] ends le = refl
plain_attrs (a ∷ attrs) [] le = absurd (omega arith)
plain_attrs (a ∷ attrs) (n ∷ ends) le = ap (λ (xs : List Attr). a ∷ xs) (plain_attrs attrs ends (omega arith))

plain_entry : (e : Entry) (ends : List ℕ) → length e.attrs ≤ length ends → entry_of (raw_entry e ends) ≡ e
plain_entry e ends le = ap (λ (attrs : List Attr). record e { attrs = attrs }) (plain_attrs e.attrs ends le)

-- ---- all entries

pub raw_long : (entries : List Entry) (ends : List ℕ) → length (raw_entries entries ends) ≡ length entries
raw_long [] ends = refl
raw_long (e ∷ entries) ends = ap suc (raw_long entries (drop (length e.attrs) ends))

pub raw_places : (entries : List Entry) (ends : List ℕ) → places_of (raw_entries entries ends) ≡ map (λ (e : Entry). e.place) entries
raw_places [] ends = refl
raw_places (e ∷ entries) ends = ap (λ (ps : List ℕ). e.place ∷ ps) (raw_places entries (drop (length e.attrs) ends))

pub plain_entries : (entries : List Entry) (ends : List ℕ) → attr_count entries ≤ length ends → entries ≡ map entry_of (raw_entries entries ends)
plain_entries [] ends le = refl
plain_entries (e ∷ entries) ends le =
    let sum = sum_by-cons attrs_long e entries in
    let own : length e.attrs ≤ length (take (length e.attrs) ends) = omega (arith, sum, length-take (length e.attrs) ends) in
    let others : attr_count entries ≤ length (drop (length e.attrs) ends) = omega (arith, sum, length-drop (length e.attrs) ends) in
    ap₂ ◌∷◌ (sym (plain_entry e (take (length e.attrs) ends) own)) (plain_entries entries (drop (length e.attrs) ends) others)

-- the places of one entry
abbrev pub own_ends : List Entry → List ℕ → ℕ → Entry → List ℕ
own_ends entries ends i e = take (length e.attrs) (drop (attr_count (take i entries)) ends)

pub raw_at : (entries : List Entry) (ends : List ℕ) (i : ℕ) (e : Entry) → slice_get entries i ≡ Some e → slice_get (raw_entries entries ends) i ≡ Some (raw_entry e (own_ends entries ends i e))
raw_at [] ends i e is = absurd (let no : ⊥ = cc in no)
raw_at (f ∷ entries) ends zero e is = ap (λ (x : Entry). Some (raw_entry x (take (length x.attrs) ends))) (some_same f e is)
raw_at (f ∷ entries) ends (suc i) e is =
    let sum : attr_count (take (suc i) (f ∷ entries)) ≡ length f.attrs + attr_count (take i entries) = sum_by-cons attrs_long f (take i entries) in
    let there : drop (attr_count (take i entries)) (drop (length f.attrs) ends) ≡ drop (attr_count (take (suc i) (f ∷ entries))) ends = drop-drop (attr_count (take i entries)) (length f.attrs) ends ∙ ap (λ (n : ℕ). drop n ends) (sym sum) in
    raw_at entries (drop (length f.attrs) ends) i e is ∙ ap (λ (ns : List ℕ). Some (raw_entry e (take (length e.attrs) ns))) there

-- they are all there
pub within_ends : (entries : List Entry) (ends : List ℕ) (i : ℕ) (e : Entry) → attr_count entries ≤ length ends → slice_get entries i ≡ Some e → attr_count (take i entries) + length e.attrs ≤ length ends
within_ends [] ends i e le is = absurd (let no : ⊥ = cc in no)
within_ends (f ∷ entries) ends zero e le is =
    let same : f ≡ e = some_same f e is in
    let long : length f.attrs ≡ length e.attrs = ap attrs_long same in
    omega (arith, sum_by-cons attrs_long f entries)
within_ends (f ∷ entries) ends (suc i) e le is =
    let sum = sum_by-cons attrs_long f entries in
    let sum_before : attr_count (take (suc i) (f ∷ entries)) ≡ length f.attrs + attr_count (take i entries) = sum_by-cons attrs_long f (take i entries) in
    let others : attr_count entries ≤ length (drop (length f.attrs) ends) = omega (arith, sum, length-drop (length f.attrs) ends) in
    let later = within_ends entries (drop (length f.attrs) ends) i e others is in
    omega (arith, sum, length-drop (length f.attrs) ends)

pub own_long : (entries : List Entry) (ends : List ℕ) (i : ℕ) (e : Entry) → attr_count entries ≤ length ends → slice_get entries i ≡ Some e → length (own_ends entries ends i e) ≡ length e.attrs
own_long entries ends i e le is =
    let within = within_ends entries ends i e le is in
    omega (arith, length-take (length e.attrs) (drop (attr_count (take i entries)) ends), length-drop (attr_count (take i entries)) ends)

-- the entry of which one was made
pub raw_from : (entries : List Entry) (ends : List ℕ) (i : ℕ) (raw : RawEntry) → slice_get (raw_entries entries ends) i ≡ Some raw → (e : Entry) × (slice_get entries i ≡ Some e) × (length raw.attrs ≤ length e.attrs)
raw_from [] ends i raw is = absurd (let no : ⊥ = cc in no)
raw_from (f ∷ entries) ends zero raw is =
    let same = some_same (raw_entry f (take (length f.attrs) ends)) raw is in
    (f, refl, subst (λ (x : RawEntry). length x.attrs ≤ length f.attrs) same (with_most f.attrs (take (length f.attrs) ends)))
raw_from (f ∷ entries) ends (suc i) raw is = raw_from entries (drop (length f.attrs) ends) i raw is

-- as many attributes as before
pub count_same : (entries : List Entry) (i : ℕ) (e to : Entry) → slice_get entries i ≡ Some e → length to.attrs ≡ length e.attrs → attr_count (set entries i to) ≡ attr_count entries
count_same [] i e to is long = absurd (let no : ⊥ = cc in no)
count_same (f ∷ entries) zero e to is long =
    let same : length f.attrs ≡ length e.attrs = ap attrs_long (some_same f e is) in
    omega (arith, sum_by-cons attrs_long f entries, sum_by-cons attrs_long to entries)
count_same (f ∷ entries) (suc i) e to is long =
    let later = count_same entries i e to is long in
    omega (arith, later, sum_by-cons attrs_long f entries, sum_by-cons attrs_long f (set entries i to))

-- another value of one attribute of one entry
pub record Written (entries : List Entry) (ends : List ℕ) (i j : ℕ) (raw : RawEntry) (raw_attr : RawAttr) : Type 0 where
  pub entry : Entry
  pub attr : Attr
  pub stands : slice_get entries i ≡ Some entry
  pub has : slice_get entry.attrs j ≡ Some attr
  pub becomes : (v : Value) → raw_entries (set entries i (record entry { attrs = set entry.attrs j (record attr { value = v }) })) ends ≡ set (raw_entries entries ends) i (record raw { attrs = set raw.attrs j (record raw_attr { value = v }) })

pub written : (entries : List Entry) (ends : List ℕ) (i j : ℕ) (raw : RawEntry) (a : RawAttr) → slice_get (raw_entries entries ends) i ≡ Some raw → slice_get raw.attrs j ≡ Some a → Written entries ends i j raw a
written [] ends i j raw a is has = absurd (let no : ⊥ = cc in no)
written (e ∷ entries) ends zero j raw a is has =
    let own : List ℕ = take (length e.attrs) ends in
    let same : raw_entry e own ≡ raw = some_same (raw_entry e own) raw is in
    let there : slice_get (with_ends e.attrs own) j ≡ Some a = subst (λ (x : RawEntry). slice_get x.attrs j ≡ Some a) (sym same) has in
    let one : Rewritten e.attrs own j a = attr_from e.attrs own j a there in
    record {
      entry = e;
      attr = one.attr;
      stands = refl;
      has = one.stands;
      becomes = λ v. let to : Entry = record e { attrs = set e.attrs j (record one.attr { value = v }) } in
          let long : length to.attrs ≡ length e.attrs = length-set e.attrs j (record one.attr { value = v }) in
          ap (λ (n : ℕ). raw_entry to (take n ends) ∷ raw_entries entries (drop n ends)) long
          ∙ ap (λ (xs : List RawAttr). record (raw_entry e own) { attrs = xs } ∷ raw_entries entries (drop (length e.attrs) ends)) (one.becomes v)
          ∙ ap (λ (x : RawEntry). record x { attrs = set x.attrs j (record a { value = v }) } ∷ raw_entries entries (drop (length e.attrs) ends)) same;
    }
written (e ∷ entries) ends (suc i) j raw a is has =
    let later : Written entries (drop (length e.attrs) ends) i j raw a = written entries (drop (length e.attrs) ends) i j raw a is has in
    record {
      entry = later.entry;
      attr = later.attr;
      stands = later.stands;
      has = later.has;
      becomes = λ v. ap (λ (es : List RawEntry). raw_entry e (take (length e.attrs) ends) ∷ es) (later.becomes v);
    }
