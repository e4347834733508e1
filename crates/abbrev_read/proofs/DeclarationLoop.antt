-- The ways out of the loop over a table's declarations, and the way on.
use Rattle.std.proofs.Common.{◌≡◌, ℕ, suc, ◌+◌, ◌-◌, ◌<◌, ◌≤◌, ◌==◌, Bool, true, false, ◌++◌, [], ◌∷◌, List, Result, Ok, Err, arith, refl, sym, ap, ◌∙◌}
use Rattle.std.specs.Prelude.{if◌then◌else◌, nat_eq, ◌||◌}
use Rattle.std.proofs.lemmas.List.Folds.{list_any-append}
use Rattle.ds_base.specs.declared.fault.Fault.{Fault}
use Rattle.ds_base.specs.declared.fault.ReadError.{ReadError}
use Rattle.ds_base.specs.declared.fault.ReadError.TheVariants as errors
use Rattle.ds_base.specs.declared.fault.Kind.TheVariants.{Truncated, DuplicateCode}
use Rattle.ds_base.specs.Spot.{Spot, fault_at}
use Rattle.ds_base.specs.Reading.{◌>>=◌, refuse_if, uleb_at, ReadsUnlessFull, Gives}
use Rattle.dwarf_types.specs.declared.abbrev.Abbrev.{Abbrev}
use Rattle.abbrev_read.specs.Codes.{is_declared}
use Rattle.abbrev_read.specs.Reading.{declaration_at, declarations_at}

-- what is read where bytes are left
next_at : ℕ → List Abbrev → Spot → Result (List Abbrev) Fault
next_at left before s = uleb_at s >>= λ code. (if code.0 == 0 then Ok before else (refuse_if (is_declared code.0 before) (fault_at s DuplicateCode) >>= λ u. declaration_at code.0 s code.1 >>= λ d. declarations_at left (before ++ d.0 ∷ []) d.1))

bytes_left : (left i : ℕ) (before : List Abbrev) (s : Spot) (total : Result (List Abbrev) Fault) → i < left → declarations_at (left - i) before s ≡ total
    → total ≡ next_at (left - (i + 1)) before s
unfolding declarations_at next_at
bytes_left left i before s total lt so_far =
    let k : left - i ≡ suc (left - (i + 1)) = omega arith in
    sym so_far ∙ ap (λ (n : ℕ). declarations_at n before s) k

pub code_fails : (left i : ℕ) (before : List Abbrev) (s : Spot) (f : Fault) (total : Result (List Abbrev) Fault) → i < left → uleb_at s ≡ Err f
    → declarations_at (left - i) before s ≡ total → total ≡ Err f
unfolding next_at
code_fails left i before s f total lt read so_far = bytes_left left i before s total lt so_far ∙ rw read refl

pub table_ends : (left i : ℕ) (before : List Abbrev) (s t : Spot) (code : ℕ) (total : Result (List Abbrev) Fault) → i < left → uleb_at s ≡ Ok (code, t) → (code == 0) ≡ true
    → declarations_at (left - i) before s ≡ total → total ≡ Ok before
unfolding next_at
table_ends left i before s t code total lt read none so_far = bytes_left left i before s total lt so_far ∙ rw (read, none) refl

pub code_twice : (left i : ℕ) (before : List Abbrev) (s t : Spot) (code : ℕ) (total : Result (List Abbrev) Fault) → i < left → uleb_at s ≡ Ok (code, t) → (code == 0) ≡ false
    → is_declared code before ≡ true → declarations_at (left - i) before s ≡ total → total ≡ Err (fault_at s DuplicateCode)
unfolding next_at
code_twice left i before s t code total lt read some seen so_far = bytes_left left i before s total lt so_far ∙ rw (read, some, seen) refl

declaration_fails : (left i : ℕ) (before : List Abbrev) (s t : Spot) (code : ℕ) (f : Fault) (total : Result (List Abbrev) Fault) → i < left → uleb_at s ≡ Ok (code, t)
    → (code == 0) ≡ false → is_declared code before ≡ false → declaration_at code s t ≡ Err f → declarations_at (left - i) before s ≡ total → total ≡ Err f
unfolding next_at
declaration_fails left i before s t code f total lt read some fresh declared so_far = bytes_left left i before s total lt so_far ∙ rw (read, some, fresh, declared) refl

pub declaration_refused : (left i : ℕ) (before : List Abbrev) (s t u : Spot) (code : ℕ) (e : ReadError) (total : Result (List Abbrev) Fault) → i < left → uleb_at s ≡ Ok (code, t)
    → (code == 0) ≡ false → is_declared code before ≡ false → ReadsUnlessFull (λ (d : Abbrev). d) (Err e) u (declaration_at code s t) → declarations_at (left - i) before s ≡ total
    → Gives (λ (table : List Abbrev). table) (Err e) total
declaration_refused left i before s t u code (errors.Faulty f) total lt read some fresh declared so_far = declaration_fails left i before s t code f total lt read some fresh declared so_far
declaration_refused left i before s t u code errors.NoMemory total lt read some fresh declared so_far = tt

pub declaration_more : (left i : ℕ) (before : List Abbrev) (s t u : Spot) (code : ℕ) (d : Abbrev) (total : Result (List Abbrev) Fault) → i < left → uleb_at s ≡ Ok (code, t)
    → (code == 0) ≡ false → is_declared code before ≡ false → declaration_at code s t ≡ Ok (d, u) → declarations_at (left - i) before s ≡ total
    → declarations_at (left - (i + 1)) (before ++ d ∷ []) u ≡ total
unfolding next_at
declaration_more left i before s t u code d total lt read some fresh declared so_far = sym (bytes_left left i before s total lt so_far ∙ rw (read, some, fresh, declared) refl)

pub bytes_end : (left i : ℕ) (before : List Abbrev) (s : Spot) (total : Result (List Abbrev) Fault) → left ≤ i → declarations_at (left - i) before s ≡ total
    → total ≡ Err (fault_at s Truncated)
unfolding declarations_at
bytes_end left i before s total le so_far =
    let k : left - i ≡ 0 = omega arith in
    sym so_far ∙ ap (λ (n : ℕ). declarations_at n before s) k

either_false : (b c : Bool) → (b || (c || false)) ≡ (b || c)
either_false true c = refl
either_false false true = refl
either_false false false = refl

-- a declaration more, with its code
pub declared_more : (seen now : ℕ → Bool) (table : List Abbrev) (d : Abbrev) (code : ℕ) → d.code ≡ code → ((other : ℕ) → seen other ≡ is_declared other table)
    → ((other : ℕ) → now other ≡ (seen other || nat_eq code other)) → (other : ℕ) → now other ≡ is_declared other (table ++ d ∷ [])
declared_more seen now table d code is same more other =
    let one : nat_eq d.code other ≡ nat_eq code other = ap (λ (n : ℕ). nat_eq n other) is in
    more other ∙ rw (list_any-append (λ (a : Abbrev). nat_eq a.code other) table (d ∷ []), same other, one) (sym (either_false (is_declared other table) (nat_eq code other)))
