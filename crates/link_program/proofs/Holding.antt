-- The files of a link in their tables, and one more object.
use Rattle.std.proofs.Common.{◌≡◌, inl, inr, ℕ, ◌+◌, ◌≤◌, Bool, true, false, is_some, List, [], ◌∷◌, ◌++◌, length, map, drop, Option, Some, None, Result, Ok, Err, Bor, refl, sym, ap, subst, ◌∙◌}
use Rattle.std.specs.HashMap.{HashMap, get_by}
use Rattle.std.specs.Map.{lookup}
use Rattle.std.specs.Str.{bytes_eq}
use Rattle.std.specs.FinMap as fin
use Rattle.std.proofs.lemmas.List.{map_push, drop_all}
use Rattle.ds_files.specs.Outside.{Contents, Counts, IsLater, IsOneCall, Told, ReadFails, called}
use Rattle.ds_files.specs.declared.files.FileError.{FileError}
use Rattle.stab_map.specs.declared.object.MapObject.{MapObject}
use Rattle.link_status.specs.declared.status.Status.{Status}
use Rattle.link_status.specs.declared.status.Status.TheVariants as statuses
use Rattle.link_program.specs.declared.files.HeldFiles.{HeldFiles}
use Rattle.link_program.specs.declared.files.Stopped.{Stopped}
use Rattle.link_program.specs.Files.{World, world, Held, HeldFile, IsNew, RunsOut, behind_read, behind_miss, MissesFile, content_in, is_missing, passes_over, with_file, with_warning, ReadsFiles, all_held, is_held, was_passed_over, is_read, is_passed_over, is_unread, ran_out_unasked, ran_out_behind}
use Rattle.link_program.specs.Holding.{Becomes, PassesOver, held_of}
use Rattle.link_program.specs.Seen.{missing_seen, held_seen}

abbrev pub file_seen : Bor (List ℕ) × List ℕ → HeldFile
file_seen e = record { name = e.0.now; bytes = e.1 }

content_lookup : (es : List (Bor (List ℕ) × List ℕ)) (name : List ℕ) → content_in (map file_seen es) name ≡ lookup (λ k. bytes_eq name k.now) es
content_lookup [] name = refl
content_lookup (e ∷ es) name = by (bytes_eq name e.0.now) refl (content_lookup es name)
  where
    by : (b : Bool) → bytes_eq name e.0.now ≡ b → content_in (map file_seen es) name ≡ lookup (λ k. bytes_eq name k.now) es → content_in (map file_seen (e ∷ es)) name ≡ lookup (λ k. bytes_eq name k.now) (e ∷ es)
    by true is more = rw is refl
    by false is more = rw is more

-- a look-up finds the bytes of the file
pub content_is : {S : Type 0} (held : HashMap (Bor (List ℕ)) (List ℕ) S) (name : List ℕ) → content_in (held_seen held) name ≡ get_by (λ k. bytes_eq name k.now) held
content_is held name = content_lookup held.entries name

missing_lookup : {V : Type 0} (es : List (Bor (List ℕ) × V)) (name : List ℕ) → is_missing (map (λ (e : Bor (List ℕ) × V). e.0.now) es) name ≡ is_some (lookup (λ k. bytes_eq name k.now) es)
missing_lookup [] name = refl
missing_lookup {V} (e ∷ es) name = by (bytes_eq name e.0.now) refl (missing_lookup es name)
  where
    by : (b : Bool) → bytes_eq name e.0.now ≡ b → is_missing (map (λ (x : Bor (List ℕ) × V). x.0.now) es) name ≡ is_some (lookup (λ k. bytes_eq name k.now) es)
        → is_missing (map (λ (x : Bor (List ℕ) × V). x.0.now) (e ∷ es)) name ≡ is_some (lookup (λ k. bytes_eq name k.now) (e ∷ es))
    by true is more = rw is refl
    by false is more = rw is more

-- a look-up finds that a file was let go
pub missing_is : {S V : Type 0} (missing : HashMap (Bor (List ℕ)) V S) (name : List ℕ) → is_missing (missing_seen missing) name ≡ is_some (get_by (λ k. bytes_eq name k.now) missing)
missing_is missing name = missing_lookup missing.entries name

-- nothing is found
pub none_of : {A : Type 0} (o : Option A) → is_some o ≡ false → o ≡ None
none_of None is = refl
none_of (Some x) is = absurd (cc)

-- ---- one more object, by whether its file is held

module _ (keep_going : Bool) (number : ℕ) (object : MapObject) (old : Held) where
  pub goes_on : (before : World) → is_some (content_in old.files object.file) ≡ true → (objects : List MapObject) (after : World) (answer : Result Held Stopped)
      → ReadsFiles keep_going (number + 1) objects old before after answer → ReadsFiles keep_going number (object ∷ objects) old before after answer
  goes_on before some objects after answer rest = by (content_in old.files object.file) refl some
    where
      by : (o : Option (List ℕ)) → content_in old.files object.file ≡ o → is_some o ≡ true → ReadsFiles keep_going number (object ∷ objects) old before after answer
      by None e s = absurd (cc)
      by (Some bytes) e s = is_held number object objects old before after bytes answer e rest

  module _ (new : HeldFiles) where
    -- what comes of the objects behind it comes of it and them; or it ends here
    abbrev pub Goes : World → World → Result (Unit {0}) Status → Type 0
    Goes before middle (Ok ok) =
        (objects : List MapObject) (after : World) (answer : Result Held Stopped) → ReadsFiles keep_going (number + 1) objects (held_of new) middle after answer
        → ReadsFiles keep_going number (object ∷ objects) old before after answer
    Goes before middle (Err status) = (objects : List MapObject) → ReadsFiles keep_going number (object ∷ objects) old before middle (Err (record { status = status; warnings = new.warnings }))

    -- memory ran out behind the call for its file
    pub out_behind : (status : Status) (before middle : World) → IsNew old object → RunsOut object.file old.left before middle → status ≡ statuses.NoMemory → Goes before middle (Err status)
    out_behind status before middle is_new out is objects =
        subst (λ (s : Status). ReadsFiles keep_going number (object ∷ objects) old before middle (Err (record { status = s; warnings = new.warnings }))) (sym is)
        (ran_out_behind number object objects old before middle new.warnings is_new out)

    pub goes_missing : (now : World) → content_in old.files object.file ≡ None → is_missing old.missing object.file ≡ true → (result : Result (Unit {0}) Status) → Becomes (with_warning old object) new result
        → Goes now now result
    goes_missing now none missing (Ok ok) is = λ objects after answer rest.
        was_passed_over number object objects old now after answer none missing (subst (λ (h : Held). ReadsFiles keep_going (number + 1) objects h now after answer) is rest)
    goes_missing now none missing (Err status) is = λ objects.
        subst (λ (s : Status). ReadsFiles keep_going number (object ∷ objects) old now now (Err (record { status = s; warnings = new.warnings }))) (sym is)
        (ran_out_unasked number (object ∷ objects) old now new.warnings)

    pub goes_read : (path name bytes : List ℕ) (o m : Option Contents) (before middle : Counts) → IsNew old object → path ≡ object.file → name ≡ object.file
        → (length bytes ≤ old.left) × Told o (λ files. fin.get files path ≡ Some bytes) → m ≡ o → middle ≡ called before → IsLater before middle → (result : Result (Unit {0}) Status) → Becomes (with_file old name bytes) new result
        → Goes (world o before) (world m middle) result
    goes_read path name bytes o m before middle is_new is_path is_name found same counted later (Ok ok) is = λ objects after answer rest.
        is_read number object objects old (world o before) (world m middle) after bytes answer is_new
        (record { few = found.0; told = subst (λ (n : List ℕ). Told o (λ files. fin.get files n ≡ Some bytes)) is_path found.1; same = same; counted = counted; later = later })
        (subst (λ (h : Held). ReadsFiles keep_going (number + 1) objects h (world m middle) after answer) (is ∙ ap (λ (n : List ℕ). with_file old n bytes) is_name) rest)
    goes_read path name bytes o m before middle is_new is_path is_name found same counted later (Err status) is =
        out_behind status (world o before) (world m middle) is_new
        (behind_read bytes (record { few = found.0; told = subst (λ (n : List ℕ). Told o (λ files. fin.get files n ≡ Some bytes)) is_path found.1; same = same; counted = counted; later = later })) is

module _ (keep_going : Bool) (number : ℕ) (object : MapObject) (was new : HeldFiles) where
  module _ (path : List ℕ) (error : FileError) (o m : Option Contents) (before middle : Counts) (is_new : IsNew (held_of was) object) (is_path : path ≡ object.file)
      (fails : ReadFails o path was.left before middle error) (same : m ≡ o) (once : IsOneCall before middle) (later : IsLater before middle)
    where
      misses : MissesFile object.file was.left error (world o before) (world m middle)
      misses = record { cause = subst (λ (n : List ℕ). ReadFails o n was.left before middle error) is_path fails; same = same; once = once; later = later }

      pub goes_missed : (result : Result (Unit {0}) Status) → PassesOver keep_going number object error was new result → Goes keep_going number object (held_of was) new (world o before) (world m middle) result
      goes_missed (Ok ok) is = λ objects after answer rest.
          is_passed_over number object objects (held_of was) (world o before) (world m middle) after error answer is_new misses is.0
          (subst (λ (h : Held). ReadsFiles keep_going (number + 1) objects h (world m middle) after answer) is.1 rest)
      goes_missed (Err status) (inl is) = λ objects.
          subst (λ (s : Stopped). ReadsFiles keep_going number (object ∷ objects) (held_of was) (world o before) (world m middle) (Err s)) (sym (λ i. record { status = is.1 i; warnings = is.2 i }))
          (is_unread number object objects (held_of was) (world o before) (world m middle) error is_new misses is.0)
      goes_missed (Err status) (inr memory) =
          out_behind keep_going number object (held_of was) new status (world o before) (world m middle) is_new (behind_miss error misses) memory

-- ---- tables

abbrev one : List ℕ → List ℕ → List HeldFile
one name bytes = record { name = name; bytes = bytes } ∷ []

-- the table with one more file
pub held_more : {S : Type 0} (old new : HashMap (Bor (List ℕ)) (List ℕ) S) (key : Bor (List ℕ)) (bytes : List ℕ) → new.entries ≡ old.entries ++ (key, bytes) ∷ []
    → held_seen new ≡ held_seen old ++ one key.now bytes
held_more old new key bytes grown = ap (map file_seen) grown ∙ map_push file_seen old.entries (key, bytes)

-- the table with one more name
pub missing_more : {S V : Type 0} (old new : HashMap (Bor (List ℕ)) V S) (key : Bor (List ℕ)) (value : V) → new.entries ≡ old.entries ++ (key, value) ∷ []
    → missing_seen new ≡ missing_seen old ++ key.now ∷ []
missing_more {S} {V} old new key value grown =
    ap (map (λ (e : Bor (List ℕ) × V). e.0.now)) grown ∙ map_push (λ (e : Bor (List ℕ) × V). e.0.now) old.entries (key, value)

-- a file was let go, and its object told
pub pass_over_as : (keep_going : Bool) (number : ℕ) (object : MapObject) (error : FileError) (old new : HeldFiles) (missing : List (List ℕ)) (result : Result (Unit {0}) Status) → passes_over keep_going error ≡ true
    → missing ≡ missing_seen old.missing ++ object.file ∷ [] → Becomes (with_warning (record (held_of old) { missing = missing }) object) new result → PassesOver keep_going number object error old new result
pass_over_as keep_going number object error old new missing (Ok ok) goes more is = (goes, is ∙ ap (λ (names : List (List ℕ)). with_warning (record (held_of old) { missing = names }) object) more)
pass_over_as keep_going number object error old new missing (Err status) goes more is = inr is

-- no object is left
pub ends_held : (keep_going : Bool) (number k : ℕ) (objects : List MapObject) (held : Held) (now : World) → length objects ≤ k → ReadsFiles keep_going number (drop k objects) held now now (Ok held)
ends_held keep_going number k objects held now le =
    subst (λ (left : List MapObject). ReadsFiles keep_going number left held now now (Ok held)) (sym (drop_all k objects le)) (all_held number held now)

-- reading ends at an object
pub stops_here : (keep_going : Bool) (number k : ℕ) (objects : List MapObject) (object : MapObject) (held : Held) (before middle : World) (stopped : Stopped)
    → drop k objects ≡ object ∷ drop (k + 1) objects → ((behind : List MapObject) → ReadsFiles keep_going number (object ∷ behind) held before middle (Err stopped))
    → ReadsFiles keep_going number (drop k objects) held before middle (Err stopped)
stops_here keep_going number k objects object held before middle stopped is ends =
    subst (λ (left : List MapObject). ReadsFiles keep_going number left held before middle (Err stopped)) (sym is) (ends (drop (k + 1) objects))
