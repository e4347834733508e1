-- Files that tell their contents, read and written without a failing call.
use Rattle.std.proofs.Common.{◌≡◌, ℕ, ◌+◌, ◌-◌, ◌≤◌, ◌⊎◌, inl, inr, Bool, true, false, true≢false, ◌||◌, is_some, List, [], ◌∷◌, ◌++◌, length, Option, Some, None, Result, Ok, Err, refl, sym, ap, subst, ◌∙◌, append-nil, append_assoc, arith}
use Rattle.std.specs.FinMap as fin
use Rattle.std.specs.Prelude.{IsSome, nat_lt}
use Rattle.std.specs.List.{All, list_any}
use Rattle.std.specs.Str.{bytes_eq}
use Rattle.std.proofs.lemmas.Bool.{le-ltb, lt-ltb}
use Rattle.std.proofs.lemmas.List.Elements.{All-head, All-nil, All-push, All-tail}
use Rattle.std.proofs.lemmas.Slice.Eq.{bytes_eq-Decides}
use Rattle.ds_files.specs.Outside.{Contents, Counts, IsLater, IsLong, IsQuiet, Told, one_more}
use Rattle.ds_files.specs.declared.files.FileError.{FileError}
use Rattle.ds_files.specs.declared.files.FileError.TheVariants as errors
use Rattle.stab_map.specs.declared.object.MapObject.{MapObject}
use Rattle.object_reads.specs.Sources.{Source}
use Rattle.link_status.specs.declared.status.Status.{Status}
use Rattle.link_status.specs.declared.status.Status.TheVariants as statuses
use Rattle.link_program.specs.declared.files.Stopped.{Stopped}
use Rattle.link_program.specs.Files.{World, Held, HeldFile, IsNew, MissesFile, ReadsFiles, all_held, is_held, was_passed_over, is_read, is_passed_over, is_unread, ran_out_unasked, ran_out_behind, content_in, is_missing, passes_over, none_held, unread_status, with_file, with_missing, with_warning}
use Rattle.link_program.specs.Making.{sources_in}
use Rattle.link_cli.specs.Told.{NoFault, file_refusal, first_unread, input_size, is_known, size_of, sources_at, warned, warning_at}
use Rattle.link_cli.proofs.Later.{out_same}

-- ---- counts

rose_wider : (x y z : ℕ) → x ≤ y → one_more y ≤ z → one_more x ≤ z
rose_wider x y z le rose = omega (arith, le, rose)

-- no fault in a call, and none in a later part or in an earlier part of it
pub quiet_behind : (a b c : Counts) → IsLater a b → NoFault a c → NoFault b c
quiet_behind a b c later quiet rose = quiet (rose_wider a.faults b.faults c.faults later.1 rose)

pub quiet_before : (a b c : Counts) → IsLater b c → NoFault a c → NoFault a b
quiet_before a b c later quiet rose = quiet (let le = later.1 in omega (arith, le, rose))

-- ---- what is told

pub told_some : {A : Type 0} (o : Option A) (x : A) (fact : A → Type 0) → o ≡ Some x → Told o fact → fact x
told_some {A = A} o x fact is told = subst (λ (it : Option A). Told it fact) is told

-- ---- names

-- one more file
abbrev one : List ℕ → List ℕ → HeldFile
one name bytes = record { name = name; bytes = bytes }

still : (held : List HeldFile) (f : HeldFile) (name b : List ℕ) → content_in held name ≡ Some b → content_in (held ++ f ∷ []) name ≡ Some b
still [] f name b is = absurd (let clash = ap is_some is in cc)
still (h ∷ held) f name b is = by (bytes_eq name h.name) refl is (still held f name b)
  where
    by : (t : Bool) → bytes_eq name h.name ≡ t → content_in (h ∷ held) name ≡ Some b → (content_in held name ≡ Some b → content_in (held ++ f ∷ []) name ≡ Some b)
        → content_in ((h ∷ held) ++ f ∷ []) name ≡ Some b
    by true e is more = rw e (rw e at is)
    by false e is more = rw e (more (rw e at is))

is_new : (held : List HeldFile) (name bytes : List ℕ) → content_in held name ≡ None → content_in (held ++ one name bytes ∷ []) name ≡ Some bytes
is_new [] name bytes none = let same : bytes_eq name name ≡ true = (bytes_eq-Decides name name).1 refl in rw same refl
is_new (h ∷ held) name bytes none = by (bytes_eq name h.name) refl none (is_new held name bytes)
  where
    by : (t : Bool) → bytes_eq name h.name ≡ t → content_in (h ∷ held) name ≡ None → (content_in held name ≡ None → content_in (held ++ one name bytes ∷ []) name ≡ Some bytes)
        → content_in ((h ∷ held) ++ one name bytes ∷ []) name ≡ Some bytes
    by true e none more = absurd (let clash = ap is_some (rw e at none) in cc)
    by false e none more = rw e (more (rw e at none))

-- the files that are held are those that are told
abbrev pub IsTold : Contents → HeldFile → Type 0
IsTold files f = fin.get files f.name ≡ Some f.bytes

abbrev pub AreTold : Contents → List HeldFile → Type 0
AreTold files held = All (IsTold files) held

found_told : (files : Contents) (held : List HeldFile) → AreTold files held → (name b : List ℕ) → content_in held name ≡ Some b → fin.get files name ≡ Some b
found_told files [] told name b is = absurd (let clash = ap is_some is in cc)
found_told files (h ∷ held) told name b is = by (bytes_eq name h.name) refl is (found_told files held (All-tail (IsTold files) h held told) name b)
  where
    by : (t : Bool) → bytes_eq name h.name ≡ t → content_in (h ∷ held) name ≡ Some b → (content_in held name ≡ Some b → fin.get files name ≡ Some b) → fin.get files name ≡ Some b
    by true e is more = let same : name ≡ h.name = (bytes_eq-Decides name h.name).0 e in rw same (All-head (IsTold files) h held told ∙ (rw e at is))
    by false e is more = more (rw e at is)

-- ---- a file that is not read

-- a file that no failing call kept from being read is let go or refused, or memory ran out
pub misses_told : (keep_going : Bool) (files : Contents) (number : ℕ) (name : List ℕ) (most : ℕ) (error : FileError) (before after : World) → MissesFile name most error before after → before.files ≡ Some files
    → NoFault before.counts after.counts → passes_over keep_going error ≡ false
    → (file_refusal keep_going number most (fin.get files name) ≡ Some (unread_status number error)) ⊎ (unread_status number error ≡ statuses.NoMemory)
misses_told keep_going files number name most errors.Missing before after misses told quiet stays =
    let got : fin.get files name ≡ None = told_some before.files files (λ m. fin.get m name ≡ None) told misses.cause.1 in
    inl (rw (got, stays) refl)
misses_told keep_going files number name most errors.Failed before after misses told quiet stays = absurd (quiet misses.cause)
misses_told keep_going files number name most errors.TooLong before after misses told quiet stays =
    let long = told_some before.files files (λ m. IsLong name most m × IsQuiet before.counts after.counts) told misses.cause.1 in
    let is : nat_lt most (length long.0.0) ≡ true = lt-ltb most (length long.0.0) long.0.2 in
    inl (rw (long.0.1, is) refl)
misses_told keep_going files number name most errors.NoMemory before after misses told quiet stays = inr refl

-- one that is let go isn't there
goes_told : (keep_going : Bool) (files : Contents) (name : List ℕ) (most : ℕ) (error : FileError) (before after : World) → MissesFile name most error before after → before.files ≡ Some files
    → passes_over keep_going error ≡ true → (keep_going ≡ true) × (fin.get files name ≡ None)
goes_told keep_going files name most errors.Missing before after misses told goes = (goes, told_some before.files files (λ m. fin.get m name ≡ None) told misses.cause.1)
goes_told keep_going files name most errors.Failed before after misses told goes = absurd (true≢false (sym goes))
goes_told keep_going files name most errors.TooLong before after misses told goes = absurd (true≢false (sym goes))
goes_told keep_going files name most errors.NoMemory before after misses told goes = absurd (true≢false (sym goes))

-- ---- what is held, by what is told

abbrev source : MapObject → Option (List ℕ) → Source
source o file = record { object = o; file = file }

-- Files that are held are those that are told, those that were let go aren't there, and these are all that are known.
pub record AreSo (files : Contents) (known : List (List ℕ)) (held : Held) : Type 0 where
  pub told : AreTold files held.files
  pub missing : (name : List ℕ) → is_missing held.missing name ≡ true → fin.get files name ≡ None
  pub knows : (name : List ℕ) → is_known known name ≡ (is_some (content_in held.files name) || is_missing held.missing name)

pub none_so : (files : Contents) (most : ℕ) → AreSo files [] (none_held most)
none_so files most = record { told = All-nil (IsTold files); missing = λ name is. absurd (true≢false (sym is)); knows = λ name. refl }

-- what reading the files of objects answers, by what they tell
pub record ReadAll (keep_going : Bool) (files : Contents) (number : ℕ) (objects : List MapObject) (known : List (List ℕ)) (held : Held) (after : World) (all : Held) : Type 0 where
  pub unread : first_unread keep_going files number known held.left objects ≡ None
  pub warnings : all.warnings ≡ held.warnings ++ warned keep_going files number known held.left objects
  pub same : after.files ≡ Some files
  pub grown : (name b : List ℕ) → content_in held.files name ≡ Some b → content_in all.files name ≡ Some b
  pub told : AreTold files all.files
  pub sources : sources_in all.files objects ≡ sources_at files objects

pub record ReadSome (keep_going : Bool) (files : Contents) (number : ℕ) (objects : List MapObject) (known : List (List ℕ)) (held : Held) (after : World) (stopped : Stopped) : Type 0 where
  pub same : after.files ≡ Some files
  pub why : ((first_unread keep_going files number known held.left objects ≡ Some stopped.status) × (stopped.warnings ≡ held.warnings ++ warned keep_going files number known held.left objects))
      ⊎ (stopped.status ≡ statuses.NoMemory)

abbrev pub ReadsTold : Bool → Contents → ℕ → List MapObject → List (List ℕ) → Held → World → Result Held Stopped → Type 0
ReadsTold keep_going files number objects known held after (Ok all) = ReadAll keep_going files number objects known held after all
ReadsTold keep_going files number objects known held after (Err stopped) = ReadSome keep_going files number objects known held after stopped

-- a file that isn't there is not held
not_held : (files : Contents) (all : List HeldFile) → AreTold files all → (name : List ℕ) → fin.get files name ≡ None → content_in all name ≡ None
not_held files all told name none = by (content_in all name) refl
  where
    by : (o : Option (List ℕ)) → content_in all name ≡ o → content_in all name ≡ None
    by None is = is
    by (Some b) is = absurd (let clash = ap is_some (sym (found_told files all told name b is) ∙ none) in cc)

-- One object more: the same is held behind it but for what its file adds, and it tells of its file what is told.
module _ (keep_going : Bool) (files : Contents) (number : ℕ) (o : MapObject) (objects : List MapObject) (known next : List (List ℕ)) (held with_it : Held) (after : World)
    (unread : first_unread keep_going files number known held.left (o ∷ objects) ≡ first_unread keep_going files (number + 1) next with_it.left objects)
    (warns : warned keep_going files number known held.left (o ∷ objects) ≡ warning_at files o ++ warned keep_going files (number + 1) next with_it.left objects)
    (warnings : with_it.warnings ≡ held.warnings ++ warning_at files o)
    (kept : (name b : List ℕ) → content_in held.files name ≡ Some b → content_in with_it.files name ≡ Some b)
    (its : (all : Held) → AreTold files all.files → ((name b : List ℕ) → content_in with_it.files name ≡ Some b → content_in all.files name ≡ Some b) → content_in all.files o.file ≡ fin.get files o.file)
  where
    abbrev behind : List ℕ
    behind = warned keep_going files (number + 1) next with_it.left objects

    told_behind : (total : List ℕ) → total ≡ with_it.warnings ++ behind → total ≡ held.warnings ++ warned keep_going files number known held.left (o ∷ objects)
    told_behind total is =
        is ∙ ap (λ (w : List ℕ). w ++ behind) warnings ∙ append_assoc held.warnings (warning_at files o) behind ∙ ap (λ (w : List ℕ). held.warnings ++ w) (sym warns)

    with_one : (answer : Result Held Stopped) → ReadsTold keep_going files (number + 1) objects next with_it after answer → ReadsTold keep_going files number (o ∷ objects) known held after answer
    with_one (Ok all) rest = record {
      unread = unread ∙ rest.unread;
      warnings = told_behind all.warnings rest.warnings;
      same = rest.same;
      grown = λ name b is. rest.grown name b (kept name b is);
      told = rest.told;
      sources =
          ap (λ (f : Option (List ℕ)). source o f ∷ sources_in all.files objects) (its all rest.told rest.grown) ∙ ap (λ (more : List Source). source o (fin.get files o.file) ∷ more) rest.sources;
    }
    with_one (Err stopped) rest = record {
      same = rest.same;
      why = elim (rest.why) [
        | inl why ↦ inl (unread ∙ why.0, told_behind stopped.warnings why.1)
        | inr memory ↦ inr memory
      ];
    }

-- ---- the four ways on

module _ (keep_going : Bool) (files : Contents) (number : ℕ) (o : MapObject) (objects : List MapObject) (known : List (List ℕ)) (held : Held) (after : World) (so : AreSo files known held) where
  behind_held : (bytes : List ℕ) → content_in held.files o.file ≡ Some bytes → (answer : Result Held Stopped)
      → ReadsTold keep_going files (number + 1) objects known held after answer → ReadsTold keep_going files number (o ∷ objects) known held after answer
  behind_held bytes is =
      let known_it : is_known known o.file ≡ true = so.knows o.file ∙ ap (λ (f : Option (List ℕ)). is_some f || is_missing held.missing o.file) is in
      let got : fin.get files o.file ≡ Some bytes = found_told files held.files so.told o.file bytes is in
      with_one keep_going files number o objects known known held held after (rw known_it refl) (rw known_it refl) (rw got (sym (append-nil held.warnings))) (λ name b there. there)
      (λ all told grown. grown o.file bytes is ∙ sym got)

  behind_missing : is_missing held.missing o.file ≡ true → content_in held.files o.file ≡ None → (answer : Result Held Stopped)
      → ReadsTold keep_going files (number + 1) objects known (with_warning held o) after answer → ReadsTold keep_going files number (o ∷ objects) known held after answer
  behind_missing missing none =
      let known_it : is_known known o.file ≡ true = so.knows o.file ∙ (rw (none, missing) refl) in
      let got : fin.get files o.file ≡ None = so.missing o.file missing in
      with_one keep_going files number o objects known known held (with_warning held o) after (rw known_it refl) (rw known_it refl) (rw got refl) (λ name b there. there)
      (λ all told grown. not_held files all.files told o.file got ∙ sym got)

  module _ (new : IsNew held o) where
    unknown : is_known known o.file ≡ false
    unknown = so.knows o.file ∙ (rw (new.unread, new.kept) refl)

    behind_read : (bytes : List ℕ) → fin.get files o.file ≡ Some bytes → length bytes ≤ held.left → (answer : Result Held Stopped)
        → ReadsTold keep_going files (number + 1) objects (known ++ o.file ∷ []) (with_file held o.file bytes) after answer → ReadsTold keep_going files number (o ∷ objects) known held after answer
    behind_read bytes got few =
        let fits : nat_lt held.left (length bytes) ≡ false = le-ltb held.left (length bytes) few in
        with_one keep_going files number o objects known (known ++ o.file ∷ []) held (with_file held o.file bytes) after (rw (unknown, got, fits) refl) (rw (unknown, got, fits) refl)
        (rw got (sym (append-nil held.warnings))) (λ name b there. still held.files (one o.file bytes) name b there)
        (λ all told grown. grown o.file bytes (is_new held.files o.file bytes new.unread) ∙ sym got)

    behind_passed_over : keep_going ≡ true → fin.get files o.file ≡ None → (answer : Result Held Stopped)
        → ReadsTold keep_going files (number + 1) objects (known ++ o.file ∷ []) (with_missing held o) after answer → ReadsTold keep_going files number (o ∷ objects) known held after answer
    behind_passed_over keeps got =
        let goes : file_refusal keep_going number held.left (fin.get files o.file) ≡ None = rw (got, keeps) refl in
        let same : held.left - size_of (fin.get files o.file) ≡ held.left = rw got (omega arith) in
        with_one keep_going files number o objects known (known ++ o.file ∷ []) held (with_missing held o) after
        (rw (unknown, goes) (ap (λ (left : ℕ). first_unread keep_going files (number + 1) (known ++ o.file ∷ []) left objects) same))
        (rw (unknown, goes) (ap (λ (left : ℕ). warning_at files o ++ warned keep_going files (number + 1) (known ++ o.file ∷ []) left objects) same)) (rw got refl)
        (λ name b there. there) (λ all told grown. not_held files all.files told o.file got ∙ sym got)

    stops : (status : Status) → file_refusal keep_going number held.left (fin.get files o.file) ≡ Some status
        → (first_unread keep_going files number known held.left (o ∷ objects) ≡ Some status) × (held.warnings ≡ held.warnings ++ warned keep_going files number known held.left (o ∷ objects))
    stops status why = (rw (unknown, why) refl, rw (unknown, why) (sym (append-nil held.warnings)))

-- ---- what is held behind an object

any_push : (p : List ℕ → Bool) (xs : List (List ℕ)) (x : List ℕ) → list_any p (xs ++ x ∷ []) ≡ (list_any p xs || p x)
any_push p [] x = or_false (p x)
  where
    or_false : (b : Bool) → (b || false) ≡ b
    or_false true = refl
    or_false false = refl
any_push p (y ∷ ys) x = by (p y) (any_push p ys x)
  where
    by : (b : Bool) → list_any p (ys ++ x ∷ []) ≡ (list_any p ys || p x) → (b || list_any p (ys ++ x ∷ [])) ≡ ((b || list_any p ys) || p x)
    by true is = refl
    by false is = is

some_push : (held : List HeldFile) (name bytes other : List ℕ) → is_some (content_in (held ++ one name bytes ∷ []) other) ≡ (is_some (content_in held other) || bytes_eq other name)
some_push [] name bytes other = by (bytes_eq other name) refl
  where
    by : (b : Bool) → bytes_eq other name ≡ b → is_some (content_in (one name bytes ∷ []) other) ≡ (false || bytes_eq other name)
    by true is = rw is refl
    by false is = rw is refl
some_push (h ∷ held) name bytes other = by (bytes_eq other h.name) refl (some_push held name bytes other)
  where
    by : (b : Bool) → bytes_eq other h.name ≡ b → is_some (content_in (held ++ one name bytes ∷ []) other) ≡ (is_some (content_in held other) || bytes_eq other name)
        → is_some (content_in (h ∷ held ++ one name bytes ∷ []) other) ≡ (is_some (content_in (h ∷ held) other) || bytes_eq other name)
    by true is more = rw is refl
    by false is more = rw is more

or_swap : (a b c : Bool) → ((a || b) || c) ≡ ((a || c) || b)
or_swap true b c = refl
or_swap false true true = refl
or_swap false true false = refl
or_swap false false true = refl
or_swap false false false = refl

or_last : (a b c : Bool) → ((a || b) || c) ≡ (a || (b || c))
or_last true b c = refl
or_last false b c = refl

file_so : (files : Contents) (known : List (List ℕ)) (held : Held) (name bytes : List ℕ) → AreSo files known held → fin.get files name ≡ Some bytes
    → AreSo files (known ++ name ∷ []) (with_file held name bytes)
file_so files known held name bytes so got = record {
  told = All-push (IsTold files) held.files (one name bytes) so.told got;
  missing = so.missing;
  knows = λ other.
      any_push (bytes_eq other) known name ∙ ap (λ (b : Bool). b || bytes_eq other name) (so.knows other)
      ∙ or_swap (is_some (content_in held.files other)) (is_missing held.missing other) (bytes_eq other name)
      ∙ ap (λ (b : Bool). b || is_missing held.missing other) (sym (some_push held.files name bytes other));
}

missing_so : (files : Contents) (known : List (List ℕ)) (held : Held) (o : MapObject) → AreSo files known held → fin.get files o.file ≡ None → AreSo files (known ++ o.file ∷ []) (with_missing held o)
missing_so files known held o so got = record {
  told = so.told;
  missing = λ name is. by name (is_missing held.missing name) (bytes_eq name o.file) refl refl (sym (any_push (bytes_eq name) held.missing o.file) ∙ is);
  knows = λ other.
      any_push (bytes_eq other) known o.file ∙ ap (λ (b : Bool). b || bytes_eq other o.file) (so.knows other)
      ∙ or_last (is_some (content_in held.files other)) (is_missing held.missing other) (bytes_eq other o.file)
      ∙ ap (λ (b : Bool). is_some (content_in held.files other) || b) (sym (any_push (bytes_eq other) held.missing o.file));
}
  where
    by : (name : List ℕ) (a b : Bool) → is_missing held.missing name ≡ a → bytes_eq name o.file ≡ b → (a || b) ≡ true → fin.get files name ≡ None
    by name true b was is some = so.missing name was
    by name false true was is some = let same : name ≡ o.file = (bytes_eq-Decides name o.file).0 is in rw same got
    by name false false was is some = absurd (true≢false (sym some))

-- ---- all objects

pub reads_told : (keep_going : Bool) (files : Contents) (known : List (List ℕ)) {number : ℕ} {objects : List MapObject} {held : Held} (before after : World) {answer : Result Held Stopped}
    → ReadsFiles keep_going number objects held before after answer → before.files ≡ Some files → NoFault before.counts after.counts → AreSo files known held
    → ReadsTold keep_going files number objects known held after answer
reads_told keep_going files known before after (all_held number held now) told quiet so =
    record { unread = refl; warnings = sym (append-nil held.warnings); same = told; grown = λ name b is. is; told = so.told; sources = refl }
reads_told keep_going files known before after (is_held number o objects held b a bytes answer is rest) told quiet so =
    behind_held keep_going files number o objects known held after so bytes is answer (reads_told keep_going files known before after rest told quiet so)
reads_told keep_going files known before after (was_passed_over number o objects held b a answer none missing rest) told quiet so =
    behind_missing keep_going files number o objects known held after so missing none answer
    (reads_told keep_going files known before after rest told quiet (record { told = so.told; missing = so.missing; knows = so.knows }))
reads_told keep_going files known before after (is_read number o objects held b middle a bytes answer new reads rest) told quiet so =
    let got : fin.get files o.file ≡ Some bytes = told_some before.files files (λ m. fin.get m o.file ≡ Some bytes) told reads.told in
    behind_read keep_going files number o objects known held after so new bytes got reads.few answer
    (reads_told keep_going files (known ++ o.file ∷ []) middle after rest (reads.same ∙ told) (quiet_behind before.counts middle.counts after.counts reads.later quiet)
    (file_so files known held o.file bytes so got))
reads_told keep_going files known before after (is_passed_over number o objects held b middle a error answer new misses goes rest) told quiet so =
    let missing = goes_told keep_going files o.file held.left error before middle misses told goes in
    behind_passed_over keep_going files number o objects known held after so new missing.0 missing.1 answer
    (reads_told keep_going files (known ++ o.file ∷ []) middle after rest (misses.same ∙ told) (quiet_behind before.counts middle.counts after.counts misses.later quiet)
    (missing_so files known held o so missing.1))
reads_told keep_going files known before after (is_unread number o objects held b a error new misses stays) told quiet so = record {
  same = misses.same ∙ told;
  why = elim (misses_told keep_going files number o.file held.left error before after misses told quiet stays) [
    | inl why ↦ inl (stops keep_going files number o objects known held after so new (unread_status number error) why)
    | inr memory ↦ inr memory
  ];
}
reads_told keep_going files known before after (ran_out_unasked number objects held now warnings) told quiet so = record { same = told; why = inr refl }
reads_told keep_going files known before after (ran_out_behind number o objects held b a warnings new out) told quiet so = record { same = out_same out ∙ told; why = inr refl }

-- ---- files that are there

-- files that are there or let go, and have few bytes, are read
pub all_read : (keep_going : Bool) (files : Contents) (number : ℕ) (known : List (List ℕ)) (most : ℕ) (objects : List MapObject)
    → (keep_going ≡ true) ⊎ All (λ o. IsSome (fin.get files o.file)) objects → input_size files known objects ≤ most → first_unread keep_going files number known most objects ≡ None
all_read keep_going files number known most [] there few = refl
all_read keep_going files number known most (o ∷ objects) there few =
    by (is_known known o.file) refl (fin.get files o.file) refl (λ fits. all_read keep_going files (number + 1) known most objects later fits)
    (λ left fits. all_read keep_going files (number + 1) (known ++ o.file ∷ []) left objects later fits)
  where
    later : (keep_going ≡ true) ⊎ All (λ p. IsSome (fin.get files p.file)) objects
    later = elim there [
      | inl keeps ↦ inl keeps
      | inr all ↦ inr (All-tail (λ (p : MapObject). IsSome (fin.get files p.file)) o objects all)
    ]

    here : (keep_going ≡ true) ⊎ IsSome (fin.get files o.file)
    here = elim there [
      | inl keeps ↦ inl keeps
      | inr all ↦ inr (All-head (λ (p : MapObject). IsSome (fin.get files p.file)) o objects all)
    ]

    by : (b : Bool) → is_known known o.file ≡ b → (f : Option (List ℕ)) → fin.get files o.file ≡ f
        → (input_size files known objects ≤ most → first_unread keep_going files (number + 1) known most objects ≡ None)
        → ((left : ℕ) → input_size files (known ++ o.file ∷ []) objects ≤ left → first_unread keep_going files (number + 1) (known ++ o.file ∷ []) left objects ≡ None)
        → first_unread keep_going files number known most (o ∷ objects) ≡ None
    by true e f g same more = rw e (same (rw e at few))
    by false e None g same more = elim here [
      | inl keeps ↦
          let size : 0 + input_size files (known ++ o.file ∷ []) objects ≤ most = rw (e, g) at few in
          rw (e, g, keeps) (more (most - 0) (omega (arith, size)))
      | inr some ↦ absurd (let clash = subst IsSome g some in cc)
    ]
    by false e (Some bytes) g same more =
        let size : length bytes + input_size files (known ++ o.file ∷ []) objects ≤ most = rw (e, g) at few in
        let fits : nat_lt most (length bytes) ≡ false = le-ltb most (length bytes) (omega (arith, size)) in
        rw (e, g, fits) (more (most - length bytes) (omega (arith, size)))
