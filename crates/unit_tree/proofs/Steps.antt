-- What a reader that did not fail was made of, step by step.
use Rattle.std.proofs.Common.{◌≡◌, ℕ, zero, suc, ◌+◌, ◌-◌, ◌==◌, ◌&&◌, Bool, true, false, not, List, [], ◌∷◌, ◌++◌, length, Option, Some, None, Result, Ok, Err, refl, sym, ap, subst, ◌∙◌, inl, inr, ◌⊎◌}
use Rattle.std.specs.Prelude.{nat_lt, is_none, if◌then◌else◌}
use Rattle.std.specs.List.{list_all}
use Rattle.std.proofs.lemmas.Bool.{cases_eq, eq-eqb, eqb-true, ne_eqb}
use Rattle.ds_base.specs.DwarfNumbers.{DW_TAG_compile_unit, DW_UT_compile}
use Rattle.ds_base.specs.declared.fault.Fault.{Fault}
use Rattle.ds_base.specs.declared.fault.Kind.TheVariants as kinds
use Rattle.ds_base.specs.Spot.{Spot, fault_at}
use Rattle.ds_base.specs.Reading.{◌>>=◌, refuse_if, or_fault, bytes_at, number_at, uleb_at}
use Rattle.dwarf_types.specs.declared.abbrev.Abbrev.{Abbrev}
use Rattle.dwarf_types.specs.declared.entry.InUnit.{InUnit}
use Rattle.dwarf_types.specs.SectionBytes.{SectionBytes}
use Rattle.ds_base.proofs.Passing.{bind_ok, passed, ok_is, found_ok}
use Rattle.abbrev_read.specs.Reading.{table_at}
use Rattle.index_tables.specs.declared.bases.Bases.{Bases}
use Rattle.index_tables.specs.Bases.{bases_in}
use Rattle.unit_tree.specs.declared.attribute.UnitContext.{UnitContext}
use Rattle.unit_tree.specs.declared.profile.Profile.{Profile}
use Rattle.unit_tree.specs.declared.header.Header.{Header}
use Rattle.ds_base.specs.DwarfNumbers.{DWARF_4, DWARF_5, ADDRESS_SIZE}
use Rattle.unit_tree.specs.Attribute.{Described, attrs_at}
use Rattle.unit_tree.specs.Entry.{Parsed, with_entry, entry_at, is_full, is_split, first_at, bases_at, root_at, innermost, closed, opened, Walk, listed_at, child_at, children_at, tree_at}
use Rattle.unit_tree.specs.Header.{info_at, behind_length, is_bad_length, fields_4_at, fields_5_at, fields_at, header_at}
use Rattle.unit_tree.specs.Entry.{declared_as}
use Rattle.unit_tree.specs.Unit.{context_in, is_zero, zeros_at, unit_from, unit_at, units_at}

-- an entry
pub record EntrySteps (sections : SectionBytes) (context : UnitContext) (parent : Option ℕ) (place : ℕ) (declared : Abbrev) (before : Parsed) (s : Spot) (y : Parsed × Spot) : Type 0 where
  pub read : Described × Spot
  pub attrs : attrs_at sections context (is_none parent) declared.fields ([], before.references) s ≡ Ok read
  pub is : (with_entry context parent place declared before read.0, read.1) ≡ y

pub entry_steps : (sections : SectionBytes) (context : UnitContext) (parent : Option ℕ) (place : ℕ) (declared : Abbrev) (before : Parsed) (s : Spot) (y : Parsed × Spot) → entry_at sections context parent place declared before s ≡ Ok y
    → EntrySteps sections context parent place declared before s y
unfolding entry_at
entry_steps sections context parent place declared before s y e =
    let b = bind_ok (attrs_at sections context (is_none parent) declared.fields ([], before.references) s) (λ read. Ok (with_entry context parent place declared before read.0, read.1)) y e in
    record { read = b.0; attrs = b.1; is = ok_is _ y b.2 }

-- a root
pub record RootSteps (start : Spot) (sections : SectionBytes) (context : UnitContext) (table : List Abbrev) (before : Parsed) (s : Spot) (y : (Bool × Parsed) × Spot) : Type 0 where
  pub code : ℕ × Spot
  pub coded : uleb_at s ≡ Ok code
  pub some : (code.0 == 0) ≡ false
  pub declared : Abbrev
  pub found : declared_as code.0 table ≡ Some declared
  pub unit : not (declared.tag == DW_TAG_compile_unit) ≡ false
  pub whole : is_split declared ≡ false
  pub room : is_full before ≡ false
  pub first : first_at start table before s ≡ Ok (declared, code.1)
  pub read : Parsed × Spot
  pub entry : entry_at sections context None s.place declared before code.1 ≡ Ok read
  pub is : ((declared.children, read.0), read.1) ≡ y

-- the declaration of a first entry
pub record FirstSteps (start : Spot) (table : List Abbrev) (before : Parsed) (s : Spot) (y : Abbrev × Spot) : Type 0 where
  pub code : ℕ × Spot
  pub coded : uleb_at s ≡ Ok code
  pub some : (code.0 == 0) ≡ false
  pub declared : Abbrev
  pub found : declared_as code.0 table ≡ Some declared
  pub unit : not (declared.tag == DW_TAG_compile_unit) ≡ false
  pub whole : is_split declared ≡ false
  pub room : is_full before ≡ false
  pub is : (declared, code.1) ≡ y

pub first_steps : (start : Spot) (table : List Abbrev) (before : Parsed) (s : Spot) (y : Abbrev × Spot) → first_at start table before s ≡ Ok y → FirstSteps start table before s y
unfolding first_at
first_steps start table before s y e =
    let last : Abbrev → ℕ × Spot → Result (Abbrev × Spot) Fault = λ declared code. Ok (declared, code.1) in
    let room : Abbrev → ℕ × Spot → Result (Abbrev × Spot) Fault = λ declared code. refuse_if (is_full before) (fault_at s kinds.LimitEntries) >>= λ u. last declared code in
    let whole : Abbrev → ℕ × Spot → Result (Abbrev × Spot) Fault = λ declared code. refuse_if (is_split declared) (fault_at s kinds.SplitUnit) >>= λ u. room declared code in
    let unit : Abbrev → ℕ × Spot → Result (Abbrev × Spot) Fault = λ declared code. refuse_if (not (declared.tag == DW_TAG_compile_unit)) (fault_at start kinds.BadUnit) >>= λ u. whole declared code in
    let found : ℕ × Spot → Result (Abbrev × Spot) Fault = λ code. or_fault (declared_as code.0 table) (fault_at s kinds.UnknownCode) >>= λ declared. unit declared code in
    let a = bind_ok (uleb_at s) (λ code. refuse_if (code.0 == 0) (fault_at start kinds.BadUnit) >>= λ u. found code) y e in
    let b = passed (a.0.0 == 0) (fault_at start kinds.BadUnit) (found a.0) y a.2 in
    let c = bind_ok (or_fault (declared_as a.0.0 table) (fault_at s kinds.UnknownCode)) (λ declared. unit declared a.0) y b.1 in
    let d = passed (not (c.0.tag == DW_TAG_compile_unit)) (fault_at start kinds.BadUnit) (whole c.0 a.0) y c.2 in
    let f = passed (is_split c.0) (fault_at s kinds.SplitUnit) (room c.0 a.0) y d.1 in
    let g = passed (is_full before) (fault_at s kinds.LimitEntries) (last c.0 a.0) y f.1 in
    record { code = a.0; coded = a.1; some = b.0; declared = c.0; found = found_ok (declared_as a.0.0 table) (fault_at s kinds.UnknownCode) c.0 c.1; unit = d.0; whole = f.0; room = g.0; is = ok_is _ y g.1 }

pub root_steps : (start : Spot) (sections : SectionBytes) (context : UnitContext) (table : List Abbrev) (before : Parsed) (s : Spot) (y : (Bool × Parsed) × Spot) → root_at start sections context table before s ≡ Ok y
    → RootSteps start sections context table before s y
unfolding root_at
root_steps start sections context table before s y e =
    let last : Abbrev × Spot → Parsed × Spot → Result ((Bool × Parsed) × Spot) Fault = λ first read. Ok ((first.0.children, read.0), read.1) in
    let a = bind_ok (first_at start table before s) (λ first. entry_at sections context None s.place first.0 before first.1 >>= last first) y e in
    let f = first_steps start table before s a.0 a.1 in
    let b = bind_ok (entry_at sections context None s.place a.0.0 before a.0.1) (last a.0) y a.2 in
    record {
      code = f.code;
      coded = f.coded;
      some = f.some;
      declared = f.declared;
      found = f.found;
      unit = f.unit;
      whole = f.whole;
      room = f.room;
      first = a.1 ∙ ap Ok (sym f.is);
      read = b.0;
      entry = subst (λ (p : Abbrev × Spot). entry_at sections context None s.place p.0 before p.1 ≡ Ok b.0) (sym f.is) b.1;
      is = subst (λ (p : Abbrev × Spot). ((p.0.children, b.0.0), b.0.1) ≡ y) (sym f.is) (ok_is _ y b.2);
    }

-- the bases of a unit
pub record BasesSteps (start : Spot) (sections : SectionBytes) (context : UnitContext) (table : List Abbrev) (before : Parsed) (s : Spot) (y : Bases) : Type 0 where
  pub first : Abbrev × Spot
  pub first_is : first_at start table before s ≡ Ok first
  pub read : Described × Spot
  pub attrs : attrs_at sections context true first.0.fields ([], []) first.1 ≡ Ok read
  pub is : bases_in read.0.0 ≡ y

pub bases_steps : (start : Spot) (sections : SectionBytes) (context : UnitContext) (table : List Abbrev) (before : Parsed) (s : Spot) (y : Bases) → bases_at start sections context table before s ≡ Ok y → BasesSteps start sections context table before s y
unfolding bases_at
bases_steps start sections context table before s y e =
    let last : Described × Spot → Result Bases Fault = λ read. Ok (bases_in read.0.0) in
    let a = bind_ok (first_at start table before s) (λ first. attrs_at sections context true first.0.fields ([], []) first.1 >>= last) y e in
    let b = bind_ok (attrs_at sections context true a.0.0.fields ([], []) a.0.1) last y a.2 in
    record { first = a.0; first_is = a.1; read = b.0; attrs = b.1; is = ok_is _ y b.2 }

-- an entry of an open list, behind its code
pub record ListedSteps (sections : SectionBytes) (context : UnitContext) (declared : Abbrev) (walk : Walk) (first s : Spot) (y : Walk × Spot) : Type 0 where
  pub depth : (declared.children && not (nat_lt (length walk.1) 1000)) ≡ false
  pub room : is_full walk.0 ≡ false
  pub read : Parsed × Spot
  pub entry : entry_at sections context (innermost walk.1) first.place declared walk.0 s ≡ Ok read
  pub is : ((read.0, opened declared.children (length walk.0.entries) walk.1), read.1) ≡ y

pub listed_steps : (sections : SectionBytes) (context : UnitContext) (declared : Abbrev) (walk : Walk) (first s : Spot) (y : Walk × Spot) → listed_at sections context declared walk first s ≡ Ok y → ListedSteps sections context declared walk first s y
unfolding listed_at
listed_steps sections context declared walk first s y e =
    let last : Parsed × Spot → Result (Walk × Spot) Fault = λ read. Ok ((read.0, opened declared.children (length walk.0.entries) walk.1), read.1) in
    let entry = entry_at sections context (innermost walk.1) first.place declared walk.0 s in
    let a = passed (declared.children && not (nat_lt (length walk.1) 1000)) (fault_at first kinds.LimitDepth) (refuse_if (is_full walk.0) (fault_at first kinds.LimitEntries) >>= λ u. entry >>= last) y e in
    let b = passed (is_full walk.0) (fault_at first kinds.LimitEntries) (entry >>= last) y a.1 in
    let c = bind_ok entry last y b.1 in
    record { depth = a.0; room = b.0; read = c.0; entry = c.1; is = ok_is _ y c.2 }

-- the code 0, and another one
pub record ClosingSteps (walk : Walk) (s : Spot) (y : Walk × Spot) : Type 0 where
  pub code : ℕ × Spot
  pub coded : uleb_at s ≡ Ok code
  pub zero_is : code.0 ≡ 0
  pub is : ((walk.0, closed walk.1), code.1) ≡ y

pub record OpeningSteps (sections : SectionBytes) (context : UnitContext) (table : List Abbrev) (walk : Walk) (s : Spot) (y : Walk × Spot) : Type 0 where
  pub code : ℕ × Spot
  pub coded : uleb_at s ≡ Ok code
  pub some : (code.0 == 0) ≡ false
  pub declared : Abbrev
  pub found : declared_as code.0 table ≡ Some declared
  pub listed : listed_at sections context declared walk s code.1 ≡ Ok y

abbrev after_code : SectionBytes → UnitContext → List Abbrev → Walk → Spot → ℕ × Spot → Result (Walk × Spot) Fault
after_code sections context table walk s code =
    if code.0 == 0 then Ok ((walk.0, closed walk.1), code.1) else (or_fault (declared_as code.0 table) (fault_at s kinds.UnknownCode) >>= λ declared. listed_at sections context declared walk s code.1)

pub child_steps : (sections : SectionBytes) (context : UnitContext) (table : List Abbrev) (walk : Walk) (s : Spot) (y : Walk × Spot) → child_at sections context table walk s ≡ Ok y
    → ClosingSteps walk s y ⊎ OpeningSteps sections context table walk s y
unfolding child_at
child_steps sections context table walk s y e =
    let a = bind_ok (uleb_at s) (after_code sections context table walk s) y e in
    elim (cases_eq a.0.0 0) [
      | inl z ↦
          let step : after_code sections context table walk s a.0 ≡ Ok ((walk.0, closed walk.1), a.0.1) = rw (eq-eqb a.0.0 0 z) refl in
          inl (record { code = a.0; coded = a.1; zero_is = z; is = ok_is ((walk.0, closed walk.1), a.0.1) y (sym step ∙ a.2) })
      | inr nz ↦
          let step : after_code sections context table walk s a.0 ≡ (or_fault (declared_as a.0.0 table) (fault_at s kinds.UnknownCode) >>= λ declared. listed_at sections context declared walk s a.0.1) = rw (ne_eqb a.0.0 0 nz) refl in
          let b = bind_ok (or_fault (declared_as a.0.0 table) (fault_at s kinds.UnknownCode)) (λ declared. listed_at sections context declared walk s a.0.1) y (sym step ∙ a.2) in
          inr (record { code = a.0; coded = a.1; some = ne_eqb a.0.0 0 nz; declared = b.0; found = found_ok (declared_as a.0.0 table) (fault_at s kinds.UnknownCode) b.0 b.1; listed = b.2 })
    ]

-- no list is open, or one is and an entry of it is read
pub record ChildrenSteps (sections : SectionBytes) (context : UnitContext) (table : List Abbrev) (left : ℕ) (walk : Walk) (s : Spot) (y : Parsed × Spot) : Type 0 where
  pub still_open : (length walk.1 == 0) ≡ false
  pub read : Walk × Spot
  pub child : child_at sections context table walk s ≡ Ok read
  pub others : children_at sections context table left read.0 read.1 ≡ Ok y

end_is : (b : Bool) (x y : Parsed × Spot) (f : Fault) → (if b then Ok x else Err f) ≡ Ok y → (b ≡ true) × (x ≡ y)
end_is true x y f e = (refl, cc)
end_is false x y f e = absurd cc

either_is : (b c : Bool) (x y : Parsed × Spot) (f : Fault) (next : Result (Parsed × Spot) Fault) → (if b then Ok x else if c then Err f else next) ≡ Ok y → ((b ≡ true) × (x ≡ y)) ⊎ ((b ≡ false) × (next ≡ Ok y))
either_is true c x y f next e = inl (refl, cc)
either_is false true x y f next e = absurd cc
either_is false false x y f next e = inr (refl, e)

pub children_end : (sections : SectionBytes) (context : UnitContext) (table : List Abbrev) (walk : Walk) (s : Spot) (y : Parsed × Spot) → children_at sections context table zero walk s ≡ Ok y → ((length walk.1 == 0) ≡ true) × ((walk.0, s) ≡ y)
unfolding children_at
children_end sections context table walk s y e = end_is (length walk.1 == 0) (walk.0, s) y (fault_at s kinds.UnclosedSiblings) e

pub children_steps : (sections : SectionBytes) (context : UnitContext) (table : List Abbrev) (left : ℕ) (walk : Walk) (s : Spot) (y : Parsed × Spot) → children_at sections context table (suc left) walk s ≡ Ok y
    → (((length walk.1 == 0) ≡ true) × ((walk.0, s) ≡ y)) ⊎ ChildrenSteps sections context table left walk s y
unfolding children_at
children_steps sections context table left walk s y e =
    let next : Result (Parsed × Spot) Fault = child_at sections context table walk s >>= λ read. children_at sections context table left read.0 read.1 in
    elim (either_is (length walk.1 == 0) (s.end - s.place == 0) (walk.0, s) y (fault_at s kinds.UnclosedSiblings) next e) [
      | inl ended ↦ inl ended
      | inr more ↦
          let b = bind_ok (child_at sections context table walk s) (λ read. children_at sections context table left read.0 read.1) y more.1 in
          inr (record { still_open = more.0; read = b.0; child = b.1; others = b.2 })
    ]

-- a tree
pub record TreeSteps (start : Spot) (sections : SectionBytes) (context : UnitContext) (table : List Abbrev) (before : Parsed) (s : Spot) (y : Parsed × Spot) : Type 0 where
  pub root : (Bool × Parsed) × Spot
  pub first : root_at start sections context table before s ≡ Ok root
  pub others : children_at sections context table (root.1.end - root.1.place) (root.0.1, opened root.0.0 (length before.entries) []) root.1 ≡ Ok y

pub tree_steps : (start : Spot) (sections : SectionBytes) (context : UnitContext) (table : List Abbrev) (before : Parsed) (s : Spot) (y : Parsed × Spot) → tree_at start sections context table before s ≡ Ok y → TreeSteps start sections context table before s y
unfolding tree_at
tree_steps start sections context table before s y e =
    let a = bind_ok (root_at start sections context table before s) (λ root. children_at sections context table (root.1.end - root.1.place) (root.0.1, opened root.0.0 (length before.entries) []) root.1) y e in
    record { root = a.0; first = a.1; others = a.2 }

-- a header
pub record Fields4Steps (sections : SectionBytes) (first s : Spot) (y : ℕ × Spot) : Type 0 where
  pub table : ℕ × Spot
  pub table_is : number_at 4 s ≡ Ok table
  pub inside : not (nat_lt table.0 (length sections.abbrev_)) ≡ false
  pub size : ℕ × Spot
  pub size_is : number_at 1 table.1 ≡ Ok size
  pub eight : not (size.0 == ADDRESS_SIZE) ≡ false
  pub is : (table.0, size.1) ≡ y

fields_4_steps : (sections : SectionBytes) (first s : Spot) (y : ℕ × Spot) → fields_4_at sections first s ≡ Ok y → Fields4Steps sections first s y
unfolding fields_4_at
fields_4_steps sections first s y e =
    let last : ℕ × Spot → ℕ × Spot → Result (ℕ × Spot) Fault = λ table size. Ok (table.0, size.1) in
    let eight : ℕ × Spot → ℕ × Spot → Result (ℕ × Spot) Fault = λ table size. refuse_if (not (size.0 == ADDRESS_SIZE)) (fault_at first kinds.BadUnit) >>= λ u. last table size in
    let size : ℕ × Spot → Result (ℕ × Spot) Fault = λ table. number_at 1 table.1 >>= λ n. eight table n in
    let a = bind_ok (number_at 4 s) (λ table. refuse_if (not (nat_lt table.0 (length sections.abbrev_))) (fault_at s kinds.BadOffset) >>= λ u. size table) y e in
    let b = passed (not (nat_lt a.0.0 (length sections.abbrev_))) (fault_at s kinds.BadOffset) (size a.0) y a.2 in
    let c = bind_ok (number_at 1 a.0.1) (eight a.0) y b.1 in
    let d = passed (not (c.0.0 == ADDRESS_SIZE)) (fault_at first kinds.BadUnit) (last a.0 c.0) y c.2 in
    record { table = a.0; table_is = a.1; inside = b.0; size = c.0; size_is = c.1; eight = d.0; is = ok_is _ y d.1 }

pub record Fields5Steps (sections : SectionBytes) (first s : Spot) (y : ℕ × Spot) : Type 0 where
  pub kind : ℕ × Spot
  pub kind_is : number_at 1 s ≡ Ok kind
  pub compile : not (kind.0 == DW_UT_compile) ≡ false
  pub size : ℕ × Spot
  pub size_is : number_at 1 kind.1 ≡ Ok size
  pub eight : not (size.0 == ADDRESS_SIZE) ≡ false
  pub table_is : number_at 4 size.1 ≡ Ok y
  pub inside : not (nat_lt y.0 (length sections.abbrev_)) ≡ false

fields_5_steps : (sections : SectionBytes) (first s : Spot) (y : ℕ × Spot) → fields_5_at sections first s ≡ Ok y → Fields5Steps sections first s y
unfolding fields_5_at
fields_5_steps sections first s y e =
    let inside : ℕ × Spot → ℕ × Spot → Result (ℕ × Spot) Fault = λ size table. refuse_if (not (nat_lt table.0 (length sections.abbrev_))) (fault_at size.1 kinds.BadOffset) >>= λ u. Ok table in
    let table : ℕ × Spot → Result (ℕ × Spot) Fault = λ size. number_at 4 size.1 >>= inside size in
    let eight : ℕ × Spot → Result (ℕ × Spot) Fault = λ size. refuse_if (not (size.0 == ADDRESS_SIZE)) (fault_at first kinds.BadUnit) >>= λ u. table size in
    let size : ℕ × Spot → Result (ℕ × Spot) Fault = λ kind. number_at 1 kind.1 >>= eight in
    let a = bind_ok (number_at 1 s) (λ kind. refuse_if (not (kind.0 == DW_UT_compile)) (fault_at first kinds.BadUnit) >>= λ u. size kind) y e in
    let b = passed (not (a.0.0 == DW_UT_compile)) (fault_at first kinds.BadUnit) (size a.0) y a.2 in
    let c = bind_ok (number_at 1 a.0.1) eight y b.1 in
    let d = passed (not (c.0.0 == ADDRESS_SIZE)) (fault_at first kinds.BadUnit) (table c.0) y c.2 in
    let f = bind_ok (number_at 4 c.0.1) (inside c.0) y d.1 in
    let g = passed (not (nat_lt f.0.0 (length sections.abbrev_))) (fault_at c.0.1 kinds.BadOffset) (Ok f.0) y f.2 in
    let same : f.0 ≡ y = ok_is f.0 y g.1 in
    record { kind = a.0; kind_is = a.1; compile = b.0; size = c.0; size_is = c.1; eight = d.0; table_is = subst (λ (p : ℕ × Spot). number_at 4 c.0.1 ≡ Ok p) same f.1; inside = subst (λ (p : ℕ × Spot). not (nat_lt p.0 (length sections.abbrev_)) ≡ false) same g.0 }

-- what follows the version, by the version
abbrev pub FieldsSteps : SectionBytes → Spot → ℕ × Spot → ℕ × Spot → Type 0
FieldsSteps sections first version y = ((version.0 ≡ DWARF_4) × Fields4Steps sections first version.1 y) ⊎ ((version.0 ≡ DWARF_5) × Fields5Steps sections first version.1 y)

pub record HeaderSteps (sections : SectionBytes) (place : ℕ) (y : Header × Spot) : Type 0 where
  pub len : ℕ × Spot
  pub length_is : number_at 4 (info_at sections place) ≡ Ok len
  pub sound : is_bad_length sections place len.0 ≡ false
  pub version : ℕ × Spot
  pub version_is : number_at 2 (behind_length sections place len.0) ≡ Ok version
  pub table : ℕ × Spot
  pub fields : FieldsSteps sections (info_at sections place) version table
  pub is : (record { version = version.0; table = table.0; end = place + 4 + len.0 }, table.1) ≡ y

is_other : (a b : Bool) → (not a && not b) ≡ false → b ≡ false → a ≡ true
is_other true b e f = refl
is_other false true e f = absurd cc
is_other false false e f = absurd cc

by_version : (sections : SectionBytes) (first : Spot) (version table : ℕ × Spot) (b : Bool) → (version.0 == DWARF_5) ≡ b → (not (version.0 == DWARF_4) && not (version.0 == DWARF_5)) ≡ false
    → (if b then fields_5_at sections first version.1 else fields_4_at sections first version.1) ≡ Ok table → FieldsSteps sections first version table
by_version sections first version table true is known e = inr (eqb-true version.0 DWARF_5 is, fields_5_steps sections first version.1 table e)
by_version sections first version table false is known e = inl (eqb-true version.0 DWARF_4 (is_other (version.0 == DWARF_4) (version.0 == DWARF_5) known is), fields_4_steps sections first version.1 table e)

pub header_steps : (sections : SectionBytes) (place : ℕ) (y : Header × Spot) → header_at sections place ≡ Ok y → HeaderSteps sections place y
unfolding header_at fields_at
header_steps sections place y e =
    let first : Spot = info_at sections place in
    let fields : ℕ × Spot → Result (ℕ × Spot) Fault = λ version. if version.0 == DWARF_5 then fields_5_at sections first version.1 else fields_4_at sections first version.1 in
    let last : ℕ → ℕ × Spot → ℕ × Spot → Result (Header × Spot) Fault = λ len version table. Ok (record { version = version.0; table = table.0; end = place + 4 + len }, table.1) in
    let known : ℕ → ℕ × Spot → Result (Header × Spot) Fault = λ len version. fields version >>= last len version in
    let supported : ℕ → ℕ × Spot → Result (Header × Spot) Fault = λ len version. refuse_if (not (version.0 == DWARF_4) && not (version.0 == DWARF_5)) (fault_at (behind_length sections place len) kinds.UnsupportedVersion) >>= λ u. known len version in
    let version : ℕ → Result (Header × Spot) Fault = λ len. number_at 2 (behind_length sections place len) >>= supported len in
    let a = bind_ok (number_at 4 first) (λ len. refuse_if (is_bad_length sections place len.0) (fault_at first kinds.BadUnit) >>= λ u. version len.0) y e in
    let b = passed (is_bad_length sections place a.0.0) (fault_at first kinds.BadUnit) (version a.0.0) y a.2 in
    let c = bind_ok (number_at 2 (behind_length sections place a.0.0)) (supported a.0.0) y b.1 in
    let d = passed (not (c.0.0 == DWARF_4) && not (c.0.0 == DWARF_5)) (fault_at (behind_length sections place a.0.0) kinds.UnsupportedVersion) (known a.0.0 c.0) y c.2 in
    let f = bind_ok (fields c.0) (last a.0.0 c.0) y d.1 in
    record { len = a.0; length_is = a.1; sound = b.0; version = c.0; version_is = c.1; table = f.0; fields = by_version sections first c.0 f.0 (c.0.0 == DWARF_5) refl d.0 f.1; is = ok_is _ y f.2 }

refused_not : (b : Bool) (f : Fault) (u : Unit {0}) → refuse_if b f ≡ Ok u → b ≡ false
refused_not true f u e = absurd cc
refused_not false f u e = refl

-- a unit
pub record UnitSteps (profile : Profile) (sections : SectionBytes) (number : ℕ) (before : Parsed) (place : ℕ) (y : (InUnit × Parsed) × ℕ) : Type 0 where
  pub header : Header × Spot
  pub header_is : header_at sections place ≡ Ok header
  pub table : List Abbrev
  pub table_is : table_at sections.abbrev_ header.0.table ≡ Ok table
  pub bases : Bases
  pub bases_are : bases_at (info_at sections place) sections (context_in profile number place header.0.version None) table before header.1 ≡ Ok bases
  pub tree : Parsed × Spot
  pub tree_is : tree_at (info_at sections place) sections (context_in profile number place header.0.version (Some bases)) table before header.1 ≡ Ok tree
  pub others : List ℕ × Spot
  pub others_is : bytes_at (tree.1.end - tree.1.place) tree.1 ≡ Ok others
  pub zeros : not (list_all is_zero others.0) ≡ false
  pub is : ((unit_from header.0.version (length before.entries) tree.0.entries, tree.0), header.0.end) ≡ y

pub unit_steps : (profile : Profile) (sections : SectionBytes) (number : ℕ) (before : Parsed) (place : ℕ) (y : (InUnit × Parsed) × ℕ) → unit_at profile sections number before place ≡ Ok y → UnitSteps profile sections number before place y
unfolding unit_at zeros_at
unit_steps profile sections number before place y e =
    let context : Header × Spot → Option Bases → UnitContext = λ header bases. context_in profile number place header.0.version bases in
    let start : Spot = info_at sections place in
    let last : Header × Spot → Parsed × Spot → Result ((InUnit × Parsed) × ℕ) Fault = λ header tree. Ok ((unit_from header.0.version (length before.entries) tree.0.entries, tree.0), header.0.end) in
    let zeros : Parsed × Spot → Result (Unit {0}) Fault = λ tree. bytes_at (tree.1.end - tree.1.place) tree.1 >>= λ others. refuse_if (not (list_all is_zero others.0)) (fault_at start kinds.BadUnit) in
    let tree : Header × Spot → List Abbrev → Bases → Result ((InUnit × Parsed) × ℕ) Fault = λ header table bases. tree_at start sections (context header (Some bases)) table before header.1 >>= λ tree. zeros tree >>= λ u. last header tree in
    let bases : Header × Spot → List Abbrev → Result ((InUnit × Parsed) × ℕ) Fault = λ header table. bases_at start sections (context header None) table before header.1 >>= tree header table in
    let a = bind_ok (header_at sections place) (λ header. table_at sections.abbrev_ header.0.table >>= λ table. bases header table) y e in
    let b = bind_ok (table_at sections.abbrev_ a.0.0.table) (λ table. bases a.0 table) y a.2 in
    let g = bind_ok (bases_at start sections (context a.0 None) b.0 before a.0.1) (tree a.0 b.0) y b.2 in
    let c = bind_ok (tree_at start sections (context a.0 (Some g.0)) b.0 before a.0.1) (λ tree. zeros tree >>= λ u. last a.0 tree) y g.2 in
    let d = bind_ok (zeros c.0) (λ u. last a.0 c.0) y c.2 in
    let f = bind_ok (bytes_at (c.0.1.end - c.0.1.place) c.0.1) (λ others. refuse_if (not (list_all is_zero others.0)) (fault_at start kinds.BadUnit)) d.0 d.1 in
    record { header = a.0; header_is = a.1; table = b.0; table_is = b.1; bases = g.0; bases_are = g.1; tree = c.0; tree_is = c.1; others = f.0; others_is = f.1; zeros = refused_not (not (list_all is_zero f.0.0)) (fault_at start kinds.BadUnit) d.0 f.2; is = ok_is _ y d.2 }

-- units
pub record UnitsSteps (profile : Profile) (sections : SectionBytes) (left : ℕ) (units : List InUnit) (before : Parsed) (place : ℕ) (y : List InUnit × Parsed) : Type 0 where
  pub more : (place == length sections.info) ≡ false
  pub read : (InUnit × Parsed) × ℕ
  pub unit : unit_at profile sections (length units) before place ≡ Ok read
  pub others : units_at profile sections left (units ++ read.0.0 ∷ []) read.0.1 read.1 ≡ Ok y

choice_is : {A : Type 0} (b : Bool) (x y : A) (next : Result A Fault) → (if b then Ok x else next) ≡ Ok y → ((b ≡ true) × (x ≡ y)) ⊎ ((b ≡ false) × (next ≡ Ok y))
choice_is true x y next e = inl (refl, cc)
choice_is false x y next e = inr (refl, e)

-- no units are told where the count ran out
pub some_left : (profile : Profile) (sections : SectionBytes) (units : List InUnit) (before : Parsed) (place : ℕ) (y : List InUnit × Parsed) → units_at profile sections zero units before place ≡ Ok y → ⊥
unfolding units_at
some_left profile sections units before place y e = absurd cc

pub units_steps : (profile : Profile) (sections : SectionBytes) (left : ℕ) (units : List InUnit) (before : Parsed) (place : ℕ) (y : List InUnit × Parsed) → units_at profile sections (suc left) units before place ≡ Ok y
    → (((place == length sections.info) ≡ true) × ((units, before) ≡ y)) ⊎ UnitsSteps profile sections left units before place y
unfolding units_at
units_steps profile sections left units before place y e =
    let next : Result (List InUnit × Parsed) Fault = unit_at profile sections (length units) before place >>= λ read. units_at profile sections left (units ++ read.0.0 ∷ []) read.0.1 read.1 in
    elim (choice_is (place == length sections.info) (units, before) y next e) [
      | inl ended ↦ inl ended
      | inr more ↦
          let b = bind_ok (unit_at profile sections (length units) before place) (λ read. units_at profile sections left (units ++ read.0.0 ∷ []) read.0.1 read.1) y more.1 in
          inr (record { more = more.0; read = b.0; unit = b.1; others = b.2 })
    ]
