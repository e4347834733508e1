-- What was read is sound.
use Rattle.std.proofs.Common.{◌≡◌, ℕ, zero, suc, ◌+◌, ◌*◌, ◌^◌, ◌<◌, ◌≤◌, ◌==◌, Bool, true, false, not, ◌||◌, ◌&&◌, cond, nat_le, slice_index, List, [], ◌∷◌, ◌++◌, length, map, take, drop, Option, Some, None, Result, Ok, Err, IfOk, refl, ap, ◌∙◌, subst, arith, ltb, inl, inr}
use Rattle.std.specs.List.{All, flat_map, sum_by, list_any, range_with_len}
use Rattle.std.proofs.lemmas.Bool.{ltb-false, or_parts, cases_Bool}
use Rattle.std.proofs.lemmas.List.{length-append, length-take, length-drop, take-append-drop}
use Rattle.std.proofs.lemmas.List.Elements.{All-append, All-nil}
use Rattle.std.proofs.lemmas.List.Sums.{sum_by-append, sum_by-cons}
use Rattle.std.proofs.lemmas.List.FromFn.{length-map-range_with_len}
use Rattle.ds_base.specs.declared.fault.Fault.{Fault}
use Rattle.ds_base.specs.MachONumbers.{SEG_DWARF, LC_SEGMENT_64, LC_SYMTAB, LC_UUID}
use Rattle.ds_base.specs.declared.fault.ReadError.{ReadError}
use Rattle.ds_base.specs.Reading.{◌>>=◌, refuse_if, Gives}
use Rattle.macho_read.specs.declared.image.Section.{Section}
use Rattle.macho_read.specs.declared.image.Segment.{Segment}
use Rattle.macho_read.specs.declared.image.Symbol.{Symbol}
use Rattle.macho_read.specs.declared.commands.Commands.{Commands}
use Rattle.macho_read.specs.declared.records.Symtab.{Symtab}
use Rattle.macho_read.specs.Fields.{number_of, name_of, text_len, before_zero, is_named}
use Rattle.macho_read.specs.Records.{segment_of, section_of}
use Rattle.macho_read.specs.Commands.{bad_command, command_at, commands_of, gathered, gathered_of, is_bad, is_bad_segment, joined, last_end, nothing, nsects_of, sections_of, what_is_in}
use Rattle.macho_read.specs.Symbols.{each, symbol_of, symbols_in, symbols_of, name_in, bad_symbols, ended_text}
use Rattle.macho_read.specs.Kind.{with_sections}
use Rattle.macho_read.specs.Sound.{IsSoundSegment, IsSoundSection, IsSoundSymbol}

-- ---- steps that did not fail

bind_ok : {A B : Type 0} (r : Result A Fault) (f : A → Result B Fault) (y : B) → (r >>= f) ≡ Ok y → (x : A) × (r ≡ Ok x) × (f x ≡ Ok y)
bind_ok (Ok x) f y e = (x, refl, e)
bind_ok (Err d) f y e = absurd cc

passed : {A : Type 0} (b : Bool) (f : Fault) (next : Result A Fault) (y : A) → (refuse_if b f >>= λ u. next) ≡ Ok y → (b ≡ false) × (next ≡ Ok y)
passed true f next y e = absurd cc
passed false f next y e = (refl, e)

abbrev done : {A : Type 0} → A → Result A Fault
done x = Ok x

ok_is : {A : Type 0} (x y : A) → done x ≡ done y → x ≡ y
ok_is x y e = cc

All-one : {A : Type 0} (P : A → Type 0) (x : A) → P x → All P (x ∷ [])
All-one P x h zero d lt = h
All-one P x h (suc k) d lt = absurd (omega arith)

All-cons : {A : Type 0} (P : A → Type 0) (x : A) (xs : List A) → P x → All P xs → All P (x ∷ xs)
All-cons P x xs h all zero d lt = h
All-cons P x xs h all (suc k) d lt = all k d (omega arith)

All-map : {A B : Type 0} (P : B → Type 0) (f : A → B) (xs : List A) → ((x : A) → P (f x)) → All P (map f xs)
All-map P f [] h = All-nil P
All-map P f (x ∷ xs) h = All-cons P (f x) (map f xs) (h x) (All-map P f xs h)

-- ---- names

name_len : (at : ℕ) (bytes : List ℕ) → length (name_of at bytes) ≤ 16
unfolding name_of
name_len at bytes =
    let field : List ℕ = take 16 (drop at bytes) in
    omega (arith, length-take (text_len field) field, length-take 16 (drop at bytes))

no_zero : (bytes : List ℕ) → list_any (λ b. b == 0) (before_zero bytes) ≡ false
no_zero [] = refl
no_zero (b ∷ bytes) =
    let one_more : 1 + text_len bytes ≡ suc (text_len bytes) = omega arith in
    elim (cases_Bool (b == 0)) [
      | inl here ↦ rw here refl
      | inr other ↦ rw (other, one_more) (rw other (no_zero bytes))
    ]

-- ---- commands

pub record IsSoundKept (kept : Commands) : Type 0 where
  pub counts : sum_by (λ s. s.sections) kept.segments ≡ length kept.sections
  pub segments : All IsSoundSegment kept.segments
  pub sections : All IsSoundSection kept.sections

nothing_sound : IsSoundKept nothing
nothing_sound = record { counts = refl; segments = All-nil IsSoundSegment; sections = All-nil IsSoundSection }

joined_sound : (a b : Commands) → IsSoundKept a → IsSoundKept b → IsSoundKept (joined a b)
joined_sound a b p q =
    record {
      counts = omega (arith, sum_by-append (λ s. s.sections) a.segments b.segments, length-append a.sections b.sections, p.counts, q.counts);
      segments = All-append IsSoundSegment a.segments b.segments p.segments q.segments;
      sections = All-append IsSoundSection a.sections b.sections p.sections q.sections;
    }

sections_sound : (command : List ℕ) → All IsSoundSection (sections_of command)
unfolding section_of
sections_sound command =
    All-map IsSoundSection (λ i. section_of (drop (72 + 80 * i) command)) (range_with_len 0 (nsects_of command)) (λ i.
    record { name = name_len 0 (drop (72 + 80 * i) command); segment = name_len 16 (drop (72 + 80 * i) command) })

-- a test that is not met where a name differs
below : (named : Bool) (limit n : ℕ) → (not named && ltb limit n) ≡ false → named ≡ false → n ≤ limit
below true limit n e f = absurd cc
below false limit n e f = ltb-false limit n e

segment_sound : (command : List ℕ) → is_bad_segment command ≡ false → IsSoundSegment (segment_of command)
unfolding segment_of is_bad_segment
segment_sound command e =
    let p = or_parts _ _ e in
    let q = or_parts _ _ p.1 in
    record { name = name_len 8 command; end = below (is_named SEG_DWARF (name_of 8 command)) last_end (number_of 8 24 command + number_of 8 32 command) q.1 }

segment_kept : (command : List ℕ) → is_bad_segment command ≡ false → IsSoundKept (record nothing { segments = segment_of command ∷ []; sections = sections_of command })
unfolding segment_of
segment_kept command e =
    record {
      counts = omega (arith, length-map-range_with_len (λ i. section_of (drop (72 + 80 * i) command)) 0 (nsects_of command));
      segments = All-one IsSoundSegment (segment_of command) (segment_sound command e);
      sections = sections_sound command;
    }

kept_alone : (uuid : Option (List ℕ)) (symtab : Option Symtab) → IsSoundKept (record { uuid = uuid; symtab = symtab; segments = []; sections = [] })
kept_alone uuid symtab = record { counts = refl; segments = All-nil IsSoundSegment; sections = All-nil IsSoundSection }

what_by : (P : Commands → Type 0) (a b c : Bool) (command : List ℕ) (kept-a kept-b kept-c : Commands) (bad-b bad-c : Bool) → (is_bad_segment command ≡ false → P kept-a) → P kept-b → P kept-c → P nothing
    → cond a (is_bad_segment command) (cond b bad-b (cond c bad-c false)) ≡ false → P (cond a kept-a (cond b kept-b (cond c kept-c nothing)))
what_by P true b c command ka kb kc bb bc pa pb pc pn e = pa e
what_by P false true c command ka kb kc bb bc pa pb pc pn e = pb
what_by P false false true command ka kb kc bb bc pa pb pc pn e = pc
what_by P false false false command ka kb kc bb bc pa pb pc pn e = pn

what_sound : (command : List ℕ) → is_bad command ≡ false → IsSoundKept (what_is_in command)
unfolding is_bad what_is_in
what_sound command e =
    what_by IsSoundKept (number_of 4 0 command == LC_SEGMENT_64) (number_of 4 0 command == LC_SYMTAB) (number_of 4 0 command == LC_UUID) command _ _ _ _ _ (segment_kept command) (kept_alone None _) (kept_alone _ None) nothing_sound e

command_whole : (place : ℕ) (area command : List ℕ) → command_at place area ≡ Ok command → is_bad command ≡ false
unfolding command_at
command_whole place area command e =
    let found : List ℕ = take (number_of 4 4 area) area in
    let p = passed _ (bad_command place) _ command e in
    let q = passed _ (bad_command place) _ command p.1 in
    let r = passed (is_bad found) (bad_command place) (Ok found) command q.1 in
    subst (λ (c : List ℕ). is_bad c ≡ false) (ok_is found command r.1) r.0

commands_sound : (count place : ℕ) (area : List ℕ) (cs : List (List ℕ)) → commands_of count place area ≡ Ok cs → IsSoundKept (gathered cs)
unfolding commands_of
commands_sound zero place area cs e = subst (λ (x : List (List ℕ)). IsSoundKept (gathered x)) (ok_is [] cs e) nothing_sound
commands_sound (suc count) place area cs e =
    let b = bind_ok (command_at place area) (λ c. commands_of count (place + length c) (drop (length c) area) >>= λ others. Ok (c ∷ others)) cs e in
    let o = bind_ok (commands_of count (place + length b.0) (drop (length b.0) area)) (λ others. Ok (b.0 ∷ others)) cs b.2 in
    subst (λ (x : List (List ℕ)). IsSoundKept (gathered x)) (ok_is (b.0 ∷ o.0) cs o.2)
    (joined_sound (what_is_in b.0) (gathered o.0) (what_sound b.0 (command_whole place area b.0 b.1)) (commands_sound count (place + length b.0) (drop (length b.0) area) o.0 o.1))

pub kept_sound : (count place : ℕ) (area : List ℕ) (kept : Commands) → gathered_of (commands_of count place area) ≡ Ok kept → IsSoundKept kept
kept_sound count place area kept e =
    let b = bind_ok (commands_of count place area) (λ cs. Ok (gathered cs)) kept e in
    subst IsSoundKept (ok_is (gathered b.0) kept b.2) (commands_sound count place area b.0 b.1)

-- ---- no more sections than the commands have bytes

segment_room : (command : List ℕ) → is_bad_segment command ≡ false → length (sections_of command) ≤ length command
unfolding is_bad_segment
segment_room command e =
    let p = or_parts _ _ e in
    let q = or_parts _ _ p.1 in
    let room : 72 + 80 * nsects_of command ≤ length command = ltb-false (length command) (72 + 80 * nsects_of command) q.0 in
    omega (arith, room, length-map-range_with_len (λ i. section_of (drop (72 + 80 * i) command)) 0 (nsects_of command))

what_room : (command : List ℕ) → is_bad command ≡ false → length (what_is_in command).sections ≤ length command
unfolding is_bad what_is_in
what_room command e =
    let P : Commands → Type 0 = λ kept. length kept.sections ≤ length command in
    what_by P (number_of 4 0 command == LC_SEGMENT_64) (number_of 4 0 command == LC_SYMTAB) (number_of 4 0 command == LC_UUID) command _ _ _ _ _ (segment_room command) (omega arith) (omega arith) (omega arith) e

command_within : (place : ℕ) (area command : List ℕ) → command_at place area ≡ Ok command → length command ≤ length area
unfolding command_at
command_within place area command e =
    let found : List ℕ = take (number_of 4 4 area) area in
    let p = passed _ (bad_command place) _ command e in
    let q = passed _ (bad_command place) _ command p.1 in
    let r = passed (is_bad found) (bad_command place) (Ok found) command q.1 in
    subst (λ (c : List ℕ). length c ≤ length area) (ok_is found command r.1) (omega (arith, length-take (number_of 4 4 area) area))

commands_room : (count place : ℕ) (area : List ℕ) (cs : List (List ℕ)) → commands_of count place area ≡ Ok cs → length (gathered cs).sections ≤ length area
unfolding commands_of
commands_room zero place area cs e = subst (λ (x : List (List ℕ)). length (gathered x).sections ≤ length area) (ok_is [] cs e) (omega arith)
commands_room (suc count) place area cs e =
    let b = bind_ok (command_at place area) (λ c. commands_of count (place + length c) (drop (length c) area) >>= λ others. Ok (c ∷ others)) cs e in
    let o = bind_ok (commands_of count (place + length b.0) (drop (length b.0) area)) (λ others. Ok (b.0 ∷ others)) cs b.2 in
    let first = what_room b.0 (command_whole place area b.0 b.1) in
    let rest = commands_room count (place + length b.0) (drop (length b.0) area) o.0 o.1 in
    subst (λ (x : List (List ℕ)). length (gathered x).sections ≤ length area) (ok_is (b.0 ∷ o.0) cs o.2)
    (omega (arith, first, rest, command_within place area b.0 b.1, length-drop (length b.0) area, length-append (what_is_in b.0).sections (gathered o.0).sections))

-- the area of the commands has so many bytes at most
pub kept_few : (count place limit : ℕ) (bytes : List ℕ) (kept : Commands) → gathered_of (commands_of count place (take limit bytes)) ≡ Ok kept → length kept.sections ≤ limit
kept_few count place limit bytes kept e =
    let b = bind_ok (commands_of count place (take limit bytes)) (λ cs. Ok (gathered cs)) kept e in
    subst (λ (k : Commands). length k.sections ≤ limit) (ok_is (gathered b.0) kept b.2) (omega (arith, commands_room count place (take limit bytes) b.0 b.1, length-take limit bytes))

-- ---- symbols

abbrev symbol_from : List ℕ → List ℕ → Symbol
symbol_from name entry = record { name = name; kind = slice_index entry 4; sect = slice_index entry 5; desc = number_of 2 6 entry; value = number_of 8 8 entry }

name_by : (none past : Bool) (text : List ℕ) (index : ℕ) (name : List ℕ) → cond none (Ok []) (refuse_if past (bad_symbols index) >>= λ _. ended_text text index) ≡ Ok name → list_any (λ b. b == 0) name ≡ false
name_by true past text index name e = subst (λ (n : List ℕ). list_any (λ b. b == 0) n ≡ false) (ok_is [] name e) refl
name_by false past text index name e =
    let p = passed past (bad_symbols index) (ended_text text index) name e in
    let q = passed (text_len text == length text) (bad_symbols index) (Ok (before_zero text)) name p.1 in
    subst (λ (n : List ℕ). list_any (λ b. b == 0) n ≡ false) (ok_is (before_zero text) name q.1) (no_zero text)

name_sound : (strings : List ℕ) (index strx : ℕ) (name : List ℕ) → name_in strings index strx ≡ Ok name → list_any (λ b. b == 0) name ≡ false
unfolding name_in
name_sound strings index strx name e = name_by (strx == 0) (nat_le (length strings) strx) (drop strx strings) index name e

symbol_sound : (strings : List ℕ) (index : ℕ) (entry : List ℕ) (symbol : Symbol) → symbol_of strings index entry ≡ Ok symbol → IsSoundSymbol symbol
unfolding symbol_of
symbol_sound strings index entry symbol e =
    let b = bind_ok (name_in strings index (number_of 4 0 entry)) (λ name. Ok (symbol_from name entry)) symbol e in
    subst IsSoundSymbol (ok_is (symbol_from b.0 entry) symbol b.2) (name_sound strings index (number_of 4 0 entry) b.0 b.1)

-- of each that is read something holds
pub record AllRead {A : Type 0} (P : A → Type 0) (count : ℕ) (xs : List A) : Type 0 where
  pub count_is : length xs ≡ count
  pub all : All P xs

each_sound : {A : Type 0} (P : A → Type 0) (read : ℕ → Result A Fault) → ((i : ℕ) (x : A) → read i ≡ Ok x → P x) → (count i : ℕ) (xs : List A) → each read count i ≡ Ok xs → AllRead P count xs
each_sound P read h zero i xs e = subst (λ (ys : _). AllRead P zero ys) (ok_is [] xs e) (record { count_is = refl; all = All-nil P })
each_sound P read h (suc count) i xs e =
    let b = bind_ok (read i) (λ x. each read count (i + 1) >>= λ others. Ok (x ∷ others)) xs e in
    let o = bind_ok (each read count (i + 1)) (λ others. Ok (b.0 ∷ others)) xs b.2 in
    let p = each_sound P read h count (i + 1) o.0 o.1 in
    subst (λ (ys : _). AllRead P (suc count) ys) (ok_is (b.0 ∷ o.0) xs o.2) (record { count_is = omega (arith, p.count_is); all = All-cons P b.0 o.0 (h i b.0 b.1) p.all })

pub symbols_sound : (symtab : Option Symtab) (bytes : List ℕ) (symbols : List Symbol) → symbols_of symtab bytes ≡ Ok symbols → All IsSoundSymbol symbols
unfolding symbols_in
symbols_sound None bytes symbols e = subst (All IsSoundSymbol) (ok_is [] symbols e) (All-nil IsSoundSymbol)
symbols_sound (Some symtab) bytes symbols e =
    let strings : List ℕ = take symtab.strsize (drop symtab.stroff bytes) in
    let table : List ℕ = drop symtab.symoff bytes in
    let read : ℕ → Result Symbol Fault = λ i. symbol_of strings i (drop (16 * i) table) in
    let p = passed (ltb (length bytes) (symtab.symoff + 16 * symtab.nsyms) || ltb (length bytes) (symtab.stroff + symtab.strsize)) (bad_symbols 0) (each read symtab.nsyms 0) symbols e in
    (each_sound IsSoundSymbol read (λ i x. symbol_sound strings i (drop (16 * i) table) x) symtab.nsyms 0 symbols p.1).all

-- as many symbols as were counted
pub counted : (read : ℕ → Result Symbol Fault) (count : ℕ) (answer : Result (List Symbol) ReadError) → Gives (λ symbols. symbols) answer (each read count 0) → count < 2 ^ 32 → IfOk answer (λ symbols. length symbols < 2 ^ 32)
counted read count (Ok symbols) gives few =
    let q = each_sound (λ symbol. Unit {0}) read (λ i x e. tt) count 0 symbols gives in
    omega (arith, few, q.count_is)
counted read count (Err e) gives few = tt

-- ---- each segment with its own sections

pub all_own : (segments : List Segment) (sections : List Section) → sum_by (λ s. s.sections) segments ≡ length sections → flat_map (λ segment. segment.1) (with_sections segments sections) ≡ sections
all_own [] [] e = refl
all_own [] (s ∷ sections) e = absurd (omega (arith, e))
all_own (segment ∷ others) sections e =
    let left : sum_by (λ s. s.sections) others ≡ length (drop segment.sections sections) = omega (arith, e, sum_by-cons (λ s. s.sections) segment others, length-drop segment.sections sections) in
    ap (λ (xs : List Section). take segment.sections sections ++ xs) (all_own others (drop segment.sections sections) left) ∙ take-append-drop segment.sections sections
