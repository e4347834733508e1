-- Loops that read one item after the other: what they have read, and what they still read.
use Rattle.std.proofs.Common.{◌≡◌, ℕ, suc, ◌+◌, ◌-◌, ◌<◌, ◌≤◌, List, [], ◌∷◌, ◌++◌, length, drop, Option, Some, None, Result, Ok, Err, refl, sym, ap, ◌∙◌, append_assoc, arith}
use Rattle.std.specs.Option.{option_or}
use Rattle.std.proofs.lemmas.List.{append-nil}
use Rattle.ds_base.specs.declared.fault.Fault.{Fault}
use Rattle.ds_base.specs.declared.fault.ReadError.{ReadError}
use Rattle.ds_base.specs.declared.fault.ReadError.TheVariants as errors
use Rattle.ds_base.specs.Reading.{◌>>=◌, Gives}
use Rattle.macho_read.specs.declared.commands.Commands.{Commands}
use Rattle.macho_read.specs.Commands.{command_at, commands_of, gathered, gathered_of, joined, nothing, what_is_in}
use Rattle.macho_read.specs.Symbols.{each}

-- ---- items of a list

abbrev pub failed : {A : Type 0} → ReadError → Result A ReadError
failed error = Err error

-- what is still read, behind what was read
abbrev pub behind : {A : Type 0} → List A → Result (List A) Fault → Result (List A) Fault
behind before others = others >>= λ xs. Ok (before ++ xs)

behind_one : {A : Type 0} (before : List A) (item : A) (others : Result (List A) Fault) → behind before (others >>= λ xs. Ok (item ∷ xs)) ≡ behind (before ++ item ∷ []) others
behind_one before item (Ok xs) = ap (λ (ys : _). Ok ys) (sym (append_assoc before (item ∷ []) xs))
behind_one before item (Err f) = refl

pub each_more : {A : Type 0} (read : ℕ → Result A Fault) (count i : ℕ) (before : List A) (item : A) (total : Result (List A) Fault)
    → i < count → read i ≡ Ok item → behind before (each read (count - i) i) ≡ total → behind (before ++ item ∷ []) (each read (count - (i + 1)) (i + 1)) ≡ total
each_more read count i before item total lt is so_far =
    let left : count - i ≡ suc (count - (i + 1)) = omega arith in
    let one : each read (count - i) i ≡ (each read (count - (i + 1)) (i + 1) >>= λ xs. Ok (item ∷ xs)) = rw (left, is) refl in
    sym (behind_one before item (each read (count - (i + 1)) (i + 1))) ∙ sym (ap (behind before) one) ∙ so_far

pub each_fail : {A : Type 0} (read : ℕ → Result A Fault) (count i : ℕ) (before : List A) (error : ReadError) (total : Result (List A) Fault)
    → i < count → Gives (λ x. x) (failed error) (read i) → behind before (each read (count - i) i) ≡ total → Gives (λ xs. xs) (failed error) total
each_fail read count i before (errors.Faulty fault) total lt is so_far =
    let left : count - i ≡ suc (count - (i + 1)) = omega arith in
    sym so_far ∙ rw (left, is) refl
each_fail read count i before errors.NoMemory total lt is so_far = tt

-- ---- commands

-- what is kept of the commands that are still read, behind what was kept
abbrev pub adding : Commands → Result (List (List ℕ)) Fault → Result Commands Fault
adding kept others = gathered_of others >>= λ c. Ok (joined kept c)

option_or_assoc : {A : Type 0} (a b c : Option A) → option_or a (option_or b c) ≡ option_or (option_or a b) c
option_or_assoc None b c = refl
option_or_assoc (Some x) b c = refl

option_or_none : {A : Type 0} (a : Option A) → option_or a None ≡ a
option_or_none None = refl
option_or_none (Some x) = refl

joined_assoc : (a b c : Commands) → joined a (joined b c) ≡ joined (joined a b) c
joined_assoc a b c =
    rw (option_or_assoc a.uuid b.uuid c.uuid, option_or_assoc a.symtab b.symtab c.symtab, append_assoc a.segments b.segments c.segments, append_assoc a.sections b.sections c.sections) refl

adding_one : (kept : Commands) (command : List ℕ) (others : Result (List (List ℕ)) Fault)
    → adding kept (others >>= λ cs. Ok (command ∷ cs)) ≡ adding (joined kept (what_is_in command)) others
adding_one kept command (Ok cs) = ap (λ (c : Commands). Ok c) (joined_assoc kept (what_is_in command) (gathered cs))
adding_one kept command (Err f) = refl

-- nothing is kept before the first
pub adding_first : (others : Result (List (List ℕ)) Fault) → adding nothing others ≡ gathered_of others
adding_first (Ok cs) = refl
adding_first (Err f) = refl

pub commands_more : (count i place : ℕ) (area : List ℕ) (kept : Commands) (command : List ℕ) (total : Result Commands Fault)
    → i < count → command_at place area ≡ Ok command → adding kept (commands_of (count - i) place area) ≡ total
    → adding (joined kept (what_is_in command)) (commands_of (count - (i + 1)) (place + length command) (drop (length command) area)) ≡ total
unfolding commands_of
commands_more count i place area kept command total lt is so_far =
    let left : count - i ≡ suc (count - (i + 1)) = omega arith in
    let others : Result (List (List ℕ)) Fault = commands_of (count - (i + 1)) (place + length command) (drop (length command) area) in
    let one : commands_of (count - i) place area ≡ (others >>= λ cs. Ok (command ∷ cs)) = rw (left, is) refl in
    sym (adding_one kept command others) ∙ sym (ap (adding kept) one) ∙ so_far

pub commands_fail : (count i place : ℕ) (area : List ℕ) (kept : Commands) (fault : Fault) (total : Result Commands Fault)
    → i < count → command_at place area ≡ Err fault → adding kept (commands_of (count - i) place area) ≡ total → total ≡ Err fault
unfolding commands_of
commands_fail count i place area kept fault total lt is so_far =
    let left : count - i ≡ suc (count - (i + 1)) = omega arith in
    sym so_far ∙ rw (left, is) refl

kept_all : (kept : Commands) → joined kept nothing ≡ kept
kept_all kept = rw (option_or_none kept.uuid, option_or_none kept.symtab, append-nil, append-nil) refl

pub commands_end : (count i place : ℕ) (area : List ℕ) (kept : Commands) (total : Result Commands Fault)
    → count ≤ i → adding kept (commands_of (count - i) place area) ≡ total → total ≡ Ok kept
unfolding commands_of
commands_end count i place area kept total le so_far =
    let none : count - i ≡ 0 = omega arith in
    sym so_far ∙ rw none (ap (λ (c : Commands). Ok c) (kept_all kept))
