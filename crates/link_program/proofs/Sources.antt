-- The files that are held by their numbers.
use Rattle.std.proofs.Common.{◌≡◌, ℕ, suc, ◌+◌, ◌<◌, ◌≤◌, ◌^◌, Bool, true, false, cond, List, [], ◌∷◌, ◌++◌, length, length-append, map, Option, Some, None, Result, Ok, Err, IfSome, IfOk, Bor, refl, sym, ap, subst, ◌∙◌, arith, nat_lt, slice_index_or}
use Rattle.std.proofs.lemmas.Bool.{lt-ltb, le-ltb, ltb-true, ltb-false}
use Rattle.std.specs.HashMap.{HashMap, values}
use Rattle.std.specs.List.{All, position, position_or_len}
use Rattle.std.specs.Map.{keys_of, values_of}
use Rattle.std.specs.Option.{option_map}
use Rattle.std.specs.Str.{bytes_eq}
use Rattle.std.proofs.lemmas.List.Elements.{All-cons, All-map, All-nil, All-push}
use Rattle.stab_map.specs.declared.object.MapObject.{MapObject}
use Rattle.object_reads.specs.Sources.{Source, sources_of}
use Rattle.link_program.specs.declared.files.Stopped.{Stopped}
use Rattle.link_program.specs.Making.{sources_in}
use Rattle.link_program.specs.Files.{World, Held, HeldFile, none_held, content_in, ReadsFiles, all_held, is_held, was_passed_over, is_read, is_passed_over, is_unread, ran_out_unasked, ran_out_behind}
use Rattle.link_program.specs.Seen.{AreSmall, held_seen, number_in}
use Rattle.link_program.proofs.Holding.{file_seen}

-- ---- numbers

-- a file's number leads to its bytes, and is one of those that are held
record Leads (all : List (List ℕ)) (number : Option ℕ) (bytes : Option (List ℕ)) : Type 0 where
  leads : option_map (λ k. slice_index_or all k []) number ≡ bytes
  among : IfSome number (λ k. k < length all)

-- the same with one more file in front
behind : (x : List ℕ) (all : List (List ℕ)) (n len : ℕ) (bytes : Option (List ℕ)) → Leads all (cond (nat_lt n len) (Some n) None) bytes
    → Leads (x ∷ all) (cond (nat_lt (1 + n) (suc len)) (Some (1 + n)) None) bytes
behind x all n len bytes h = by (nat_lt n len) refl h
  where
    by : (b : Bool) → nat_lt n len ≡ b → Leads all (cond b (Some n) None) bytes → Leads (x ∷ all) (cond (nat_lt (1 + n) (suc len)) (Some (1 + n)) None) bytes
    by true e one =
        let lt = ltb-true n len e in
        let next : 1 + n ≡ suc n = omega arith in
        let is : nat_lt (1 + n) (suc len) ≡ true = lt-ltb (1 + n) (suc len) (omega arith) in
        let within = one.among in
        rw is (record { leads = ap (λ (k : ℕ). Some (slice_index_or (x ∷ all) k [])) next ∙ one.leads; among = omega arith })
    by false e one =
        let le = ltb-false n len e in
        let is : nat_lt (1 + n) (suc len) ≡ false = le-ltb (1 + n) (suc len) (omega arith) in
        rw is (record { leads = one.leads; among = tt })

module _ (name : List ℕ) where
  leads_among : (es : List (Bor (List ℕ) × List ℕ)) → Leads (values_of es) (position (λ k. bytes_eq name k.now) (keys_of es)) (content_in (map file_seen es) name)
  leads_among [] = record { leads = refl; among = tt }
  leads_among (x ∷ es) = by (bytes_eq name x.0.now) refl (leads_among es)
    where
      by : (b : Bool) → bytes_eq name x.0.now ≡ b → Leads (values_of es) (position (λ k. bytes_eq name k.now) (keys_of es)) (content_in (map file_seen es) name)
          → Leads (values_of (x ∷ es)) (position (λ k. bytes_eq name k.now) (keys_of (x ∷ es))) (content_in (map file_seen (x ∷ es)) name)
      by true is more = rw (is, lt-ltb 0 (suc (length (keys_of es))) (omega arith)) (record { leads = refl; among = omega arith })
      by false is more = rw is (behind x.1 (values_of es) (position_or_len (λ k. bytes_eq name k.now) (keys_of es)) (length (keys_of es)) (content_in (map file_seen es) name) more)

leads_in : {S : Type 0} (held : HashMap (Bor (List ℕ)) (List ℕ) S) (name : List ℕ) → Leads (values held) (number_in held name) (content_in (held_seen held) name)
leads_in held name = leads_among name held.entries

-- the numbers of objects' files
module _ {S : Type 0} (held : HashMap (Bor (List ℕ)) (List ℕ) S) where
  pub numbers_lead : (objects : List MapObject) → sources_of objects (values held) (map (λ o. number_in held o.file) objects) ≡ sources_in (held_seen held) objects
  numbers_lead [] = refl
  numbers_lead (o ∷ objects) =
      ap (λ (file : Option (List ℕ)). source_with o file ∷ sources_of objects (values held) (map (λ p. number_in held p.file) objects)) (leads_in held o.file).leads
      ∙ ap (λ (more : List Source). source_with o (content_in (held_seen held) o.file) ∷ more) (numbers_lead objects)
    where
      source_with : MapObject → Option (List ℕ) → Source
      source_with object file = record { object = object; file = file }

  pub numbers_many : (objects : List MapObject) → length (map (λ (o : MapObject). number_in held o.file) objects) ≡ length objects
  numbers_many [] = refl
  numbers_many (o ∷ objects) = ap suc (numbers_many objects)

  pub numbers_within : (objects : List MapObject) → All (λ k. IfSome k (λ n. n < length (values held))) (map (λ (o : MapObject). number_in held o.file) objects)
  numbers_within [] = All-nil (λ (k : Option ℕ). IfSome k (λ n. n < length (values held)))
  numbers_within (o ∷ objects) =
      All-cons (λ (k : Option ℕ). IfSome k (λ n. n < length (values held))) (number_in held o.file) (map (λ (p : MapObject). number_in held p.file) objects)
      (leads_in held o.file).among (numbers_within objects)

-- the same of what is shown of them
module _ {S : Type 0} (held : HashMap (Bor (List ℕ)) (List ℕ) S) (contents : List (List ℕ)) (numbers : List (Option ℕ)) (objects : List MapObject) (is : contents ≡ values held)
    (numbered : numbers ≡ map (λ (o : MapObject). number_in held o.file) objects)
  where
    pub numbers_held : All (λ k. IfSome k (λ n. n < length contents)) numbers
    numbers_held = rw (is, numbered) (numbers_within held objects)

    pub sources_held : (all : List MapObject) → objects ≡ all → sources_of objects contents numbers ≡ sources_in (held_seen held) all
    sources_held all same =
        ap (λ (files : List (List ℕ)). sources_of objects files numbers) is ∙ ap (λ (ns : List (Option ℕ)). sources_of objects (values held) ns) numbered
        ∙ numbers_lead held objects ∙ ap (sources_in (held_seen held)) same

-- ---- how many, and sizes

-- no more files are held than objects name
pub held_few : {keep_going : Bool} {number : ℕ} {objects : List MapObject} {held : Held} {before after : World} {answer : Result Held Stopped}
    → ReadsFiles keep_going number objects held before after answer → IfOk answer (λ all. length all.files ≤ length held.files + length objects)
held_few (all_held number held now) = omega arith
held_few (is_held number object objects held before after bytes answer is rest) = one_more answer (held_few rest)
  where
    one_more : (a : Result Held Stopped) → IfOk a (λ all. length all.files ≤ length held.files + length objects) → IfOk a (λ all. length all.files ≤ length held.files + suc (length objects))
    one_more (Ok all) few = omega (arith, few)
    one_more (Err stopped) few = tt
held_few (was_passed_over number object objects held before after answer none missing rest) = one_more answer (held_few rest)
  where
    one_more : (a : Result Held Stopped) → IfOk a (λ all. length all.files ≤ length held.files + length objects) → IfOk a (λ all. length all.files ≤ length held.files + suc (length objects))
    one_more (Ok all) few = omega (arith, few)
    one_more (Err stopped) few = tt
held_few (is_read number object objects held before middle after bytes answer new reads rest) = one_more answer (held_few rest)
  where
    file : List HeldFile
    file = record { name = object.file; bytes = bytes } ∷ []

    one_more : (a : Result Held Stopped) → IfOk a (λ all. length all.files ≤ length (held.files ++ file) + length objects) → IfOk a (λ all. length all.files ≤ length held.files + suc (length objects))
    one_more (Ok all) few = omega (arith, few, length-append held.files file)
    one_more (Err stopped) few = tt
held_few (is_passed_over number object objects held before middle after error answer new misses goes rest) = one_more answer (held_few rest)
  where
    one_more : (a : Result Held Stopped) → IfOk a (λ all. length all.files ≤ length held.files + length objects) → IfOk a (λ all. length all.files ≤ length held.files + suc (length objects))
    one_more (Ok all) few = omega (arith, few)
    one_more (Err stopped) few = tt
held_few (is_unread number object objects held before after error new misses stays) = tt
held_few (ran_out_unasked number objects held now warnings) = tt
held_few (ran_out_behind number object objects held before after warnings new out) = tt

pub few_files : {keep_going : Bool} {number : ℕ} {objects : List MapObject} {most : ℕ} {before after : World} {all : Held}
    → ReadsFiles keep_going number objects (none_held most) before after (Ok all) → length objects < 2 ^ 16 → length all.files < 2 ^ 16
few_files reads few = let many = held_few reads in omega (arith, many, few)

bytes_seen : (es : List (Bor (List ℕ) × List ℕ)) → map (λ (f : HeldFile). f.bytes) (map file_seen es) ≡ values_of es
bytes_seen [] = refl
bytes_seen (e ∷ es) = ap (λ (more : List (List ℕ)). e.1 ∷ more) (bytes_seen es)

pub contents_small : {S : Type 0} (held : HashMap (Bor (List ℕ)) (List ℕ) S) (contents : List (List ℕ)) → contents ≡ values held → AreSmall (held_seen held)
    → All (λ file. length file < 2 ^ 32) contents
contents_small held contents is small =
    subst (λ (files : List (List ℕ)). All (λ file. length file < 2 ^ 32) files) (bytes_seen held.entries ∙ sym is)
    (All-map (λ (file : List ℕ). length file < 2 ^ 32) (λ (f : HeldFile). f.bytes) (held_seen held) small)

pub none_small : AreSmall []
none_small = All-nil (λ (f : HeldFile). length f.bytes < 2 ^ 32)

-- files that have at most 2 ^ 29 bytes together are small
pub held_small : {keep_going : Bool} {number : ℕ} {objects : List MapObject} {held : Held} {before after : World} {answer : Result Held Stopped}
    → ReadsFiles keep_going number objects held before after answer → held.left ≤ 2 ^ 29 → AreSmall held.files → IfOk answer (λ all. AreSmall all.files)
held_small (all_held number held now) bound small = small
held_small (is_held number object objects held before after bytes answer is rest) bound small = held_small rest bound small
held_small (was_passed_over number object objects held before after answer none missing rest) bound small = held_small rest bound small
held_small (is_read number object objects held before middle after bytes answer new reads rest) bound small =
    let few = reads.few in
    held_small rest (omega arith) (All-push (λ (f : HeldFile). length f.bytes < 2 ^ 32) held.files (record { name = object.file; bytes = bytes }) small (omega arith))
held_small (is_passed_over number object objects held before middle after error answer new misses goes rest) bound small = held_small rest bound small
held_small (is_unread number object objects held before after error new misses stays) bound small = tt
held_small (ran_out_unasked number objects held now warnings) bound small = tt
held_small (ran_out_behind number object objects held before after warnings new out) bound small = tt
