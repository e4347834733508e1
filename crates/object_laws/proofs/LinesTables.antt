-- The directories and files of a line table before version 5 have names that are not empty and have no zero byte.
use Rattle.std.proofs.Common.{◌≡◌, ℕ, zero, suc, ◌-◌, ◌^◌, ◌<◌, Bool, true, false, List, [], ◌∷◌, ◌++◌, length, Option, Some, None, IfSome, Result, Ok, refl, subst}
use Rattle.std.specs.Prelude.{◌==◌, if◌then◌else◌}
use Rattle.std.specs.List.{AllByRecursion}
use Rattle.std.specs.Option.{option_map_or}
use Rattle.ds_base.specs.declared.fault.Fault.{Fault}
use Rattle.ds_base.specs.Spot.{Spot}
use Rattle.ds_base.specs.Reading.{text_at, uleb_at}
use Rattle.ds_base.proofs.Passing.{bind_ok, ok_is}
use Rattle.dwarf_types.specs.declared.lines.FileName.{FileName}
use Rattle.dwarf_types.specs.Spelled.{AreTextBytes}
use Rattle.line_read.specs.Names.{within, dir_at, file_of, file_at, listed_at, table_of}
use Rattle.line_read.proofs.EntryTables.{within_ok}
use Rattle.object_laws.proofs.LinesOps.{First, name_some}
use Rattle.object_laws.proofs.LinesReads.{Holds, text_holds, uleb_holds, text_is, uleb_below}
use Rattle.object_laws.proofs.Spans.{both_all}

abbrev pub End : Type 0
End = First dir_at

-- a name of a table before version 5
pub record IsName (name : List ℕ) : Type 0 where
  pub some : 0 < length name
  pub text : AreTextBytes name

-- a file of such a table
pub record IsOldFile (file : FileName) : Type 0 where
  pub name : IsName file.name
  pub dir : file.dir < 2 ^ 64
  pub time : file.time < 2 ^ 64
  pub size : file.size < 2 ^ 64
  pub digest : file.digest ≡ None

-- ---- so many items

-- an item that was read, if it is no end mark, and what is left
pub record ItemIs {A : Type 0} (P : A → Type 0) (y : Option A × Spot) : Type 0 where
  pub item : IfSome y.0 P
  pub left : Holds y.1

pub record TableIs {A : Type 0} (P : A → Type 0) (y : List A × Spot) : Type 0 where
  pub items : AllByRecursion P y.0
  pub left : Holds y.1

abbrev table_here : {A : Type 0} → List A → Spot → Result (List A × Spot) Fault
table_here xs s = Ok (xs, s)

goes_on : {A : Type 0} (P : A → Type 0) (o : Option A) (s : Spot) (before : List A) (more : A → Result (List A × Spot) Fault) (y : List A × Spot) → IfSome o P → Holds s → AllByRecursion P before
    → ((x : A) → P x → more x ≡ Ok y → TableIs P y) → option_map_or more o (table_here before s) ≡ Ok y → TableIs P y
goes_on P None s before more y item h all left e = subst (TableIs P) (ok_is (before, s) y e) (record { items = all; left = h })
goes_on P (Some x) s before more y item h all left e = left x item e

listed_all : {A : Type 0} (P : A → Type 0) (read : Spot → Result (Option A × Spot) Fault) → ((s : Spot) (y : Option A × Spot) → Holds s → read s ≡ Ok y → ItemIs P y)
    → (n : ℕ) (before : List A) (s : Spot) (y : List A × Spot) → Holds s → AllByRecursion P before → listed_at read n before s ≡ Ok y → TableIs P y
listed_all P read known zero before s y h all e = absurd cc
listed_all {A = A} P read known (suc n) before s y h all e =
    let item = bind_ok (read s) (λ (item : Option A × Spot). option_map_or (λ x. listed_at read n (before ++ x ∷ []) item.1) item.0 (Ok (before, item.1))) y e in
    let is = known s item.0 h item.1 in
    goes_on P item.0.0 item.0.1 before (λ x. listed_at read n (before ++ x ∷ []) item.0.1) y is.item is.left all
    (λ x p e. listed_all P read known n (before ++ x ∷ []) item.0.1 y is.left (both_all P before (x ∷ []) all (p, tt)) e) item.2

pub table_all : {A : Type 0} (P : A → Type 0) (read : Spot → Result (Option A × Spot) Fault) → ((s : Spot) (y : Option A × Spot) → Holds s → read s ≡ Ok y → ItemIs P y)
    → (s : Spot) (y : List A × Spot) → Holds s → table_of read s ≡ Ok y → TableIs P y
table_all P read known s y h e = listed_all P read known (s.end - s.place) [] s y h tt e

-- ---- names

path_if : (b : Bool) (name : List ℕ) → (length name == 0) ≡ b → AreTextBytes name → IfSome (if b then None else Some name) IsName
path_if true name is text = tt
path_if false name is text = record { some = name_some name is; text = text }

pub dir_is : (header : End) (s : Spot) (y : Option (List ℕ) × Spot) → Holds s → dir_at header s ≡ Ok y → ItemIs IsName y
unfolding dir_at
dir_is header s y h e =
    let name = bind_ok (within header (text_at s)) _ y e in
    let read = within_ok header (text_at s) name.0 name.1 in
    subst (ItemIs IsName) (ok_is (if length name.0.0 == 0 then None else Some name.0.0, name.0.1) y name.2) (record {
      item = path_if (length name.0.0 == 0) name.0.0 refl (text_is s name.0 h read);
      left = text_holds s name.0 h read;
    })

abbrev item_here : Option FileName → Spot → Result (Option FileName × Spot) Fault
item_here o s = Ok (o, s)

file_here : (name : List ℕ) (dir time size : ℕ) (s : Spot) (y : Option FileName × Spot) → IsName name → dir < 2 ^ 64 → time < 2 ^ 64 → size < 2 ^ 64 → Holds s
    → item_here (Some (record { name = name; dir = dir; time = time; size = size; digest = None })) s ≡ Ok y → ItemIs IsOldFile y
file_here name dir time size s y path a b c h e =
    subst (ItemIs IsOldFile) (ok_is (Some (record { name = name; dir = dir; time = time; size = size; digest = None }), s) y e) (record { item = record { name = path; dir = a; time = b; size = c; digest = refl }; left = h })

file_is_of : (header : End) (name : List ℕ) (s : Spot) (y : Option FileName × Spot) → Holds s → IsName name → file_of header name s ≡ Ok y → ItemIs IsOldFile y
unfolding file_of
file_is_of header name s y h path e =
    let dir = bind_ok (within header (uleb_at s)) _ y e in
    let dir_read = within_ok header (uleb_at s) dir.0 dir.1 in
    let time = bind_ok (within header (uleb_at dir.0.1)) _ y dir.2 in
    let time_read = within_ok header (uleb_at dir.0.1) time.0 time.1 in
    let size = bind_ok (within header (uleb_at time.0.1)) _ y time.2 in
    let size_read = within_ok header (uleb_at time.0.1) size.0 size.1 in
    let dir_left = uleb_holds s dir.0 h dir_read in
    let time_left = uleb_holds dir.0.1 time.0 dir_left time_read in
    file_here name dir.0.0 time.0.0 size.0.0 size.0.1 y path (uleb_below s dir.0 dir_read) (uleb_below dir.0.1 time.0 time_read) (uleb_below time.0.1 size.0 size_read) (uleb_holds time.0.1 size.0 time_left size_read) size.2

file_if : (b : Bool) (header : End) (name : List ℕ) (s : Spot) (y : Option FileName × Spot) → (length name == 0) ≡ b → Holds s → AreTextBytes name
    → (if b then item_here None s else file_of header name s) ≡ Ok y → ItemIs IsOldFile y
file_if true header name s y is h text e = subst (ItemIs IsOldFile) (ok_is (None, s) y e) (record { item = tt; left = h })
file_if false header name s y is h text e = file_is_of header name s y h (record { some = name_some name is; text = text }) e

pub file_is : (header : End) (s : Spot) (y : Option FileName × Spot) → Holds s → file_at header s ≡ Ok y → ItemIs IsOldFile y
unfolding file_at
file_is header s y h e =
    let name = bind_ok (within header (text_at s)) _ y e in
    let read = within_ok header (text_at s) name.0 name.1 in
    file_if (length name.0.0 == 0) header name.0.0 name.0.1 y refl (text_holds s name.0 h read) (text_is s name.0 h read) name.2
