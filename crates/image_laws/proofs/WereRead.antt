-- Programs that were read from a file fit the records of one.
use Rattle.std.proofs.Common.{◌≡◌, ◌⊎◌, ℕ, zero, suc, ◌+◌, ◌*◌, ◌-◌, ◌<◌, ◌≤◌, ◌^◌, ◌==◌, ◌||◌, ◌&&◌, not, Bool, true, false, cond, max, All, IfSome, List, [], ◌∷◌, ◌++◌, length, map, take, drop, slice_index, Option, Some, None, Result, Ok, refl, sym, ap, subst, ◌∙◌, append-nil, length-append, if◌then◌else◌, ltb, arith, inl, inr}
use Rattle.std.specs.List.{AllByRecursion, list_any, position_or_len, range_with_len, sum_by}
use Rattle.std.specs.Option.{option_or}
use Rattle.std.proofs.lemmas.Bool.{cases_Bool, eqb-true, ltb-false, or_parts}
use Rattle.std.proofs.lemmas.List.{drop-append-le, length-drop, length-take, take-append-le, take_all}
use Rattle.std.proofs.lemmas.List.Elements.{All-filter, All-head, All-nil, All-tail}
use Rattle.std.proofs.lemmas.List.FromFn.{length-map-range_with_len}
use Rattle.std.proofs.lemmas.List.Sums.{sum_by-append, sum_by-cons}
use Rattle.byteorder.specs.Numbers.{little_from-lt}
use Rattle.ds_base.specs.declared.fault.Fault.{Fault}
use Rattle.ds_base.specs.declared.fault.Kind.TheVariants as kinds
use Rattle.ds_base.specs.MachONumbers.{CPU_TYPE_ARM64, CPU_TYPE_X86_64, LC_SEGMENT_64, LC_SYMTAB, LC_UUID, MACH_HEADER_64_SIZE, MH_MAGIC_64, SEG_DWARF}
use Rattle.ds_base.specs.Reading.{◌>>=◌}
use Rattle.ds_base.proofs.Passing.{bind_ok, ok_is, passed}
use Rattle.dwarf_types.specs.Spelled.{AreBytes}
use Rattle.dwarf_types.proofs.Readers.{IsBytes, IsBytes-drop, IsBytes-from, IsBytes-take}
use Rattle.macho_read.specs.declared.image.Image.{Image}
use Rattle.macho_read.specs.declared.image.Section.{Section}
use Rattle.macho_read.specs.declared.image.Segment.{Segment}
use Rattle.macho_read.specs.declared.image.Symbol.{Symbol}
use Rattle.macho_read.specs.Commands.{area_of, bad_command, command_at, commands_of, gathered, gathered_of, is_bad, is_bad_segment, joined, last_end, nothing, nsects_of, sections_of, what_is_in}
use Rattle.macho_read.specs.Fields.{before_zero, is_named, name_of, number_of, text_len}
use Rattle.macho_read.specs.Header.{commands_cut, header_fault, header_of, is_known_cpu}
use Rattle.macho_read.specs.Image.{image_of}
use Rattle.macho_read.specs.declared.kind.Role.TheVariants as roles
use Rattle.macho_read.specs.ImageSpelling.{IsLoadCommand, IsSection, command_of}
use Rattle.macho_read.specs.Kind.{has_dwarf, is_dwarf_part, kind_of, with_sections}
use Rattle.macho_read.specs.Records.{section_of, segment_of, symtab_of, uuid_of}
use Rattle.macho_read.specs.Sound.{IsSoundSection, IsSoundSegment}
use Rattle.macho_read.specs.Spelling.{AllFit, IsName, command_bytes, command_fields, segment_fields, spelled}
use Rattle.macho_read.specs.Standings.{is_stab}
use Rattle.macho_read.specs.Symbols.{bad_symbols, each, name_in, symbol_of, symbols_in, symbols_of}
use Rattle.macho_write.specs.Records.{IsUuidLen, placed_section, segment_command, segment_commands}
use Rattle.macho_read.proofs.Soundness.{kept_few, kept_sound, symbols_sound}
use Rattle.dsym_write.specs.Bundle.{end_of}
use Rattle.dsym_write.proofs.SegmentCommands.{length-commands}
use Rattle.image_laws.specs.Fitting.{FitsFields, FitsRecords}
use Rattle.image_laws.proofs.Sections.{none_linked}

-- ---- numbers and names

number_small : (width at : ℕ) (bytes : List ℕ) → IsBytes bytes → number_of width at bytes < 256 ^ width
unfolding number_of
number_small width at bytes are = little_from-lt 0 width (drop at bytes) (IsBytes-drop at bytes are)

no_zero : (bytes : List ℕ) → list_any (λ b. b == 0) (before_zero bytes) ≡ false
no_zero [] = refl
no_zero (b ∷ bytes) =
    let one_more : 1 + text_len bytes ≡ suc (text_len bytes) = omega arith in
    elim (cases_Bool (b == 0)) [
      | inl here ↦ rw here refl
      | inr other ↦ rw (other, one_more) (rw other (no_zero bytes))
    ]

is_name : (at : ℕ) (bytes : List ℕ) → IsName (name_of at bytes)
unfolding name_of
is_name at bytes =
    let field : List ℕ = take 16 (drop at bytes) in
    record { len = omega (arith, length-take (text_len field) field, length-take 16 (drop at bytes)); no_zero = no_zero field }

-- ---- sections

section_fits : (bytes : List ℕ) → IsBytes bytes → IsSection (placed_section false (section_of bytes))
unfolding section_of
section_fits bytes are =
    record {
      name = is_name 0 bytes;
      segment = is_name 16 bytes;
      fit = (
        number_small 8 32 bytes are,
        (
          number_small 8 40 bytes are,
          (omega arith, (number_small 4 52 bytes are, (omega arith, (omega arith, (number_small 4 64 bytes are, (number_small 4 68 bytes are, (number_small 4 72 bytes are, (number_small 4 76 bytes are, tt)))))))),
        ),
      );
    }

sections_fit : (command : List ℕ) → IsBytes command → (xs : List ℕ) → AllByRecursion IsSection (map (placed_section false) (map (λ i. section_of (drop (72 + 80 * i) command)) xs))
sections_fit command are [] = tt
sections_fit command are (i ∷ xs) = (section_fits (drop (72 + 80 * i) command) (IsBytes-drop (72 + 80 * i) command are), sections_fit command are xs)

All-one : {A : Type 0} (P : A → Type 0) (x : A) → P x → All P (x ∷ [])
All-one P x h zero d lt = h
All-one P x h (suc k) d lt = absurd (omega arith)

All-cons : {A : Type 0} (P : A → Type 0) (x : A) (xs : List A) → P x → All P xs → All P (x ∷ xs)
All-cons P x xs h all zero d lt = h
All-cons P x xs h all (suc k) d lt = all k d (omega arith)

All-map : {A B : Type 0} (P : B → Type 0) (f : A → B) (xs : List A) → ((x : A) → P (f x)) → All P (map f xs)
All-map P f [] h = All-nil P
All-map P f (x ∷ xs) h = All-cons P (f x) (map f xs) (h x) (All-map P f xs h)

sections_sound : (command : List ℕ) → All IsSoundSection (sections_of command)
unfolding section_of
sections_sound command =
    All-map IsSoundSection (λ i. section_of (drop (72 + 80 * i) command)) (range_with_len 0 (nsects_of command))
    (λ i. let name = is_name 0 (drop (72 + 80 * i) command) in let segment = is_name 16 (drop (72 + 80 * i) command) in record { name = name.len; segment = segment.len })

-- ---- a segment command

below : (named : Bool) (limit n : ℕ) → (not named && ltb limit n) ≡ false → named ≡ false → n ≤ limit
below true limit n e f = absurd cc
below false limit n e f = ltb-false limit n e

segment_sound : (command : List ℕ) → is_bad_segment command ≡ false → IsSoundSegment (segment_of command)
unfolding segment_of is_bad_segment
segment_sound command e =
    let p = or_parts _ _ e in
    let q = or_parts _ _ p.1 in
    let name = is_name 8 command in
    record { name = name.len; end = below (is_named SEG_DWARF (name_of 8 command)) last_end (number_of 8 24 command + number_of 8 32 command) q.1 }

room_for_sections : (command : List ℕ) → is_bad_segment command ≡ false → 72 + 80 * nsects_of command ≤ length command
unfolding is_bad_segment
room_for_sections command e =
    let p = or_parts _ _ e in
    let q = or_parts _ _ p.1 in
    ltb-false (length command) (72 + 80 * nsects_of command) q.0

sections_counted : (command : List ℕ) → length (sections_of command) ≡ nsects_of command
sections_counted command = length-map-range_with_len (λ i. section_of (drop (72 + 80 * i) command)) 0 (nsects_of command)

counted_by : (command : List ℕ) → (segment_of command).sections ≡ nsects_of command
unfolding segment_of
counted_by command = refl

one_len : (s : Segment) (own : List Section) → IsSoundSegment s → All IsSoundSection own → s.sections ≡ length own → length (command_bytes (command_of (segment_command false (s, own)))) ≡ 72 + 80 * length own
one_len s own sound owns count =
    let counts : sum_by (λ (it : Segment). it.sections) (s ∷ []) ≡ length own = omega (arith, count, sum_by-cons (λ (it : Segment). it.sections) s []) in
    let all = length-commands (s ∷ []) own (All-one IsSoundSegment s sound) owns counts in
    let here : take s.sections own ≡ own = take_all s.sections own (omega (arith, count)) in
    let alone = append-nil (command_bytes (command_of (segment_command false (s, take s.sections own)))) in
    subst (λ (it : List Section). length (command_bytes (command_of (segment_command false (s, it)))) ≡ 72 + 80 * length own) here (omega (arith, ap length alone, all))

body_len : (s : Segment) (own : List Section) → length (command_bytes (command_of (segment_command false (s, own)))) ≡ 72 + 80 * length own → 8 + length (command_of (segment_command false (s, own))).body ≡ 72 + 80 * length own
body_len s own e = omega (arith, e, length-append (spelled (command_fields (command_of (segment_command false (s, own))))) (command_of (segment_command false (s, own))).body)

placed_count : (xs : List Section) → length (map (placed_section false) xs) ≡ length xs
placed_count [] = refl
placed_count (x ∷ xs) = let h = placed_count xs in omega (arith, h)

numbers_fit : (command : List ℕ) → IsBytes command → AllFit (segment_fields 0 0 (segment_of command))
unfolding segment_of
numbers_fit command are =
    (number_small 8 24 command are, (number_small 8 32 command are, (omega arith, (omega arith, (number_small 4 56 command are, (number_small 4 60 command are, (number_small 4 64 command are, (number_small 4 68 command are, tt))))))))

segment_name : (command : List ℕ) → IsName (segment_of command).name
unfolding segment_of
segment_name command = is_name 8 command

segment_fits : (command : List ℕ) → IsBytes command → length command < 2 ^ 32 → is_bad_segment command ≡ false → IsLoadCommand (segment_command false (segment_of command, sections_of command))
segment_fits command are short good =
    let s = segment_of command in
    let own = sections_of command in
    let sound = segment_sound command good in
    let count : s.sections ≡ length own = counted_by command ∙ sym (sections_counted command) in
    let len = body_len s own (one_len s own sound (sections_sound command) count) in
    record {
      fits = (omega arith, (omega (arith, len, short, room_for_sections command good, sections_counted command), tt));
      holds = record {
        name = segment_name command;
        fit = numbers_fit command are;
        count = count ∙ sym (placed_count own);
        all = sections_fit command are (range_with_len 0 (nsects_of command));
        end = sound.end;
      };
    }

-- ---- what is kept of commands

-- what a definition gives, whose type has no name outside of its crate
abbrev Given : {A : Type 0} → (List (List ℕ) → A) → Type 0
Given {A} is = A

abbrev Kept : Type 0
Kept = Given gathered

-- what a definition asks for, whose type has no name outside of its crate
abbrev Asked : {A : Type 0} → (Option A → List ℕ → Result (List Symbol) Fault) → Type 0
Asked {A} is = A

abbrev Symtab : Type 0
Symtab = Asked symbols_of

-- what is kept fits the records, and fewer than 2^32 symbols are told
record KeptFits (k : Kept) : Type 0 where
  pub uuid_is : IsUuidLen k.uuid
  pub counts : sum_by (λ s. s.sections) k.segments ≡ length k.sections
  pub commands : AllByRecursion IsLoadCommand (segment_commands false k.segments k.sections)
  pub few : IfSome k.symtab (λ t. t.nsyms < 2 ^ 32)

commands_both : (xs ys : List Segment) (here there : List Section) → sum_by (λ s. s.sections) xs ≡ length here → AllByRecursion IsLoadCommand (segment_commands false xs here) → AllByRecursion IsLoadCommand (segment_commands false ys there)
    → AllByRecursion IsLoadCommand (segment_commands false (xs ++ ys) (here ++ there))
commands_both [] ys [] there count a b = b
commands_both [] ys (s ∷ here) there count a b = absurd (omega (arith, count))
commands_both (x ∷ xs) ys here there count a b =
    let cons = sum_by-cons (λ (s : Segment). s.sections) x xs in
    let le : x.sections ≤ length here = omega (arith, count, cons) in
    let left : sum_by (λ (s : Segment). s.sections) xs ≡ length (drop x.sections here) = omega (arith, count, cons, length-drop x.sections here) in (
      subst (λ (own : List Section). IsLoadCommand (segment_command false (x, own))) (sym (take-append-le x.sections here there le)) a.0,
      subst (λ (rest : List Section). AllByRecursion IsLoadCommand (segment_commands false (xs ++ ys) rest)) (sym (drop-append-le x.sections here there le)) (commands_both xs ys (drop x.sections here) there left a.1 b),
    )

uuid_both : (a b : Option (List ℕ)) → IsUuidLen a → IsUuidLen b → IsUuidLen (option_or a b)
uuid_both None b p q = q
uuid_both (Some x) b p q = p

first_few : {A : Type 0} (P : A → Type 0) (x y : Option A) → IfSome x P → IfSome y P → IfSome (option_or x y) P
first_few P None y p q = q
first_few P (Some x) y p q = p

none_fit : KeptFits nothing
none_fit = record { uuid_is = refl; counts = refl; commands = tt; few = tt }

both_fit : (a b : Kept) → KeptFits a → KeptFits b → KeptFits (joined a b)
both_fit a b p q =
    record {
      uuid_is = uuid_both a.uuid b.uuid p.uuid_is q.uuid_is;
      counts = omega (arith, sum_by-append (λ s. s.sections) a.segments b.segments, length-append a.sections b.sections, p.counts, q.counts);
      commands = commands_both a.segments b.segments a.sections b.sections p.counts p.commands q.commands;
      few = first_few (λ (t : Symtab). t.nsyms < 2 ^ 32) a.symtab b.symtab p.few q.few;
    }

segment_kept : (command : List ℕ) → IsBytes command → length command < 2 ^ 32 → is_bad_segment command ≡ false → KeptFits (record nothing { segments = segment_of command ∷ []; sections = sections_of command })
segment_kept command are short good =
    let s = segment_of command in
    let own = sections_of command in
    let count : s.sections ≡ length own = counted_by command ∙ sym (sections_counted command) in
    let here : take s.sections own ≡ own = take_all s.sections own (omega (arith, count)) in
    record {
      uuid_is = refl;
      counts = omega (arith, count, sum_by-cons (λ (it : Segment). it.sections) s []);
      commands = (subst (λ (it : List Section). IsLoadCommand (segment_command false (s, it))) (sym here) (segment_fits command are short good), tt);
      few = tt;
    }

uuid_kept : (command : List ℕ) → ltb (length command) 24 ≡ false → KeptFits (record nothing { uuid = Some (uuid_of command) })
unfolding uuid_of
uuid_kept command long = record { uuid_is = omega (arith, ltb-false (length command) 24 long, length-take 16 (drop 8 command), length-drop 8 command); counts = refl; commands = tt; few = tt }

symtab_kept : (command : List ℕ) → IsBytes command → KeptFits (record nothing { symtab = Some (symtab_of command) })
unfolding symtab_of
symtab_kept command are = record { uuid_is = refl; counts = refl; commands = tt; few = omega (arith, number_small 4 12 command are) }

what_by : (P : Kept → Type 0) (a b c bad-a bad-b bad-c : Bool) (ka kb kc : Kept) → (bad-a ≡ false → P ka) → P kb → (bad-c ≡ false → P kc) → P nothing → cond a bad-a (cond b bad-b (cond c bad-c false)) ≡ false
    → P (cond a ka (cond b kb (cond c kc nothing)))
what_by P true b c ba bb bc ka kb kc pa pb pc pn e = pa e
what_by P false true c ba bb bc ka kb kc pa pb pc pn e = pb
what_by P false false true ba bb bc ka kb kc pa pb pc pn e = pc e
what_by P false false false ba bb bc ka kb kc pa pb pc pn e = pn

what_fits : (command : List ℕ) → IsBytes command → length command < 2 ^ 32 → is_bad command ≡ false → KeptFits (what_is_in command)
unfolding is_bad what_is_in
what_fits command are short good =
    what_by KeptFits (number_of 4 0 command == LC_SEGMENT_64) (number_of 4 0 command == LC_SYMTAB) (number_of 4 0 command == LC_UUID) _ _ _ _ _ _ (segment_kept command are short) (symtab_kept command are) (uuid_kept command) none_fit good

-- ---- all commands

command_is : (place : ℕ) (area command : List ℕ) → command_at place area ≡ Ok command → (command ≡ take (number_of 4 4 area) area) × (is_bad command ≡ false)
unfolding command_at
command_is place area command e =
    let found : List ℕ = take (number_of 4 4 area) area in
    let p = passed _ (bad_command place) _ command e in
    let q = passed _ (bad_command place) _ command p.1 in
    let r = passed (is_bad found) (bad_command place) (Ok found) command q.1 in
    let is = ok_is found command r.1 in
    (sym is, subst (λ (c : List ℕ). is_bad c ≡ false) is r.0)

commands_fit : (count place : ℕ) (area : List ℕ) (cs : List (List ℕ)) → IsBytes area → length area < 2 ^ 32 → commands_of count place area ≡ Ok cs → KeptFits (gathered cs)
unfolding commands_of
commands_fit zero place area cs are short e = subst (λ (x : List (List ℕ)). KeptFits (gathered x)) (ok_is [] cs e) none_fit
commands_fit (suc count) place area cs are short e =
    let b = bind_ok (command_at place area) (λ c. commands_of count (place + length c) (drop (length c) area) >>= λ others. Ok (c ∷ others)) cs e in
    let o = bind_ok (commands_of count (place + length b.0) (drop (length b.0) area)) (λ others. Ok (b.0 ∷ others)) cs b.2 in
    let c = command_is place area b.0 b.1 in
    let own : IsBytes b.0 = subst IsBytes (sym c.0) (IsBytes-take (number_of 4 4 area) area are) in
    let len : length b.0 ≤ length area = omega (arith, ap length c.0, length-take (number_of 4 4 area) area) in
    let rest = commands_fit count (place + length b.0) (drop (length b.0) area) o.0 (IsBytes-drop (length b.0) area are) (omega (arith, short, length-drop (length b.0) area)) o.1 in
    subst (λ (x : List (List ℕ)). KeptFits (gathered x)) (ok_is (b.0 ∷ o.0) cs o.2) (both_fit (what_is_in b.0) (gathered o.0) (what_fits b.0 own (omega (arith, len, short)) c.1) rest)

kept_fits : (count place : ℕ) (area : List ℕ) (kept : Kept) → IsBytes area → length area < 2 ^ 32 → gathered_of (commands_of count place area) ≡ Ok kept → KeptFits kept
kept_fits count place area kept are short e =
    let b = bind_ok (commands_of count place area) (λ cs. Ok (gathered cs)) kept e in
    subst KeptFits (ok_is (gathered b.0) kept b.2) (commands_fit count place area b.0 are short b.1)

-- ---- symbols

abbrev symbol_from : List ℕ → List ℕ → Symbol
symbol_from name entry = record { name = name; kind = slice_index entry 4; sect = slice_index entry 5; desc = number_of 2 6 entry; value = number_of 8 8 entry }

symbol_fits : (strings : List ℕ) (index : ℕ) (entry : List ℕ) (symbol : Symbol) → IsBytes entry → symbol_of strings index entry ≡ Ok symbol → FitsFields symbol
unfolding symbol_of
symbol_fits strings index entry symbol are e =
    let b = bind_ok (name_in strings index (number_of 4 0 entry)) (λ name. Ok (symbol_from name entry)) symbol e in
    subst FitsFields (ok_is (symbol_from b.0 entry) symbol b.2)
    (record { kind = are 4; sect = are 5; desc = omega (arith, number_small 2 6 entry are); value = omega (arith, number_small 8 8 entry are) })

-- of each that is read something holds
record AllRead {A : Type 0} (P : A → Type 0) (count : ℕ) (xs : List A) : Type 0 where
  pub count_is : length xs ≡ count
  pub all : All P xs

each_read : {A : Type 0} (P : A → Type 0) (read : ℕ → Result A Fault) → ((i : ℕ) (x : A) → read i ≡ Ok x → P x) → (count i : ℕ) (xs : List A) → each read count i ≡ Ok xs → AllRead P count xs
each_read P read h zero i xs e = subst (λ (ys : _). AllRead P zero ys) (ok_is [] xs e) (record { count_is = refl; all = All-nil P })
each_read P read h (suc count) i xs e =
    let b = bind_ok (read i) (λ x. each read count (i + 1) >>= λ others. Ok (x ∷ others)) xs e in
    let o = bind_ok (each read count (i + 1)) (λ others. Ok (b.0 ∷ others)) xs b.2 in
    let p = each_read P read h count (i + 1) o.0 o.1 in
    subst (λ (ys : _). AllRead P (suc count) ys) (ok_is (b.0 ∷ o.0) xs o.2) (record { count_is = omega (arith, p.count_is); all = All-cons P b.0 o.0 (h i b.0 b.1) p.all })

symbols_fit : (symtab : Option Symtab) (bytes : List ℕ) (symbols : List Symbol) → IsBytes bytes → IfSome symtab (λ t. t.nsyms < 2 ^ 32) → symbols_of symtab bytes ≡ Ok symbols → All FitsFields symbols × (length symbols < 2 ^ 32)
unfolding symbols_in
symbols_fit None bytes symbols are few e = subst (λ (ss : List Symbol). All FitsFields ss × (length ss < 2 ^ 32)) (ok_is [] symbols e) (All-nil FitsFields, omega arith)
symbols_fit (Some symtab) bytes symbols are few e =
    let strings : List ℕ = take symtab.strsize (drop symtab.stroff bytes) in
    let table : List ℕ = drop symtab.symoff bytes in
    let read : ℕ → Result Symbol Fault = λ i. symbol_of strings i (drop (16 * i) table) in
    let p = passed (ltb (length bytes) (symtab.symoff + 16 * symtab.nsyms) || ltb (length bytes) (symtab.stroff + symtab.strsize)) (bad_symbols 0) (each read symtab.nsyms 0) symbols e in
    let q = each_read FitsFields read (λ i x is. symbol_fits strings i (drop (16 * i) table) x (IsBytes-drop (16 * i) table (IsBytes-drop symtab.symoff bytes are)) is) symtab.nsyms 0 symbols p.1 in
    (q.all, omega (arith, few, q.count_is))

-- ---- the room above the segments

end_within : (segments : List Segment) (sections : List Section) → All IsSoundSegment segments → length (with_sections segments sections) ≤ position_or_len is_dwarf_part (with_sections segments sections) → end_of segments ≤ last_end
end_within [] sections sound none = omega arith
end_within (s ∷ segments) sections sound none = by (end_within segments (drop s.sections sections) (All-tail IsSoundSegment s segments sound)) (is_dwarf_part (s, take s.sections sections)) refl none
  where
    first : (is_named SEG_DWARF s.name ≡ false → s.vmaddr + s.vmsize ≤ last_end)
    first = let h = All-head IsSoundSegment s segments sound in h.end

    by : (length (with_sections segments (drop s.sections sections)) ≤ position_or_len is_dwarf_part (with_sections segments (drop s.sections sections)) → end_of segments ≤ last_end)
        → (b : Bool) → is_dwarf_part (s, take s.sections sections) ≡ b
        → suc (length (with_sections segments (drop s.sections sections))) ≤ (if not b then 1 + position_or_len is_dwarf_part (with_sections segments (drop s.sections sections)) else 0)
        → max (s.vmaddr + s.vmsize) (end_of segments) ≤ last_end
    by more true is none = absurd (omega (arith, none))
    by more false is none =
        let here = first ((or_parts (is_named SEG_DWARF s.name) (has_dwarf (take s.sections sections)) is).0) in
        let rest = more (omega (arith, none)) in
        omega (arith, here, rest)

-- ---- the whole

-- what is read of a header, whose type has no name outside of its crate
abbrev HeaderOf : {A : Type 0} → (List ℕ → Result A Fault) → Type 0
HeaderOf {A} is = A

abbrev Header : Type 0
Header = HeaderOf header_of

known_cpu : (cpu : ℕ) → not (cpu == CPU_TYPE_X86_64 || cpu == CPU_TYPE_ARM64) ≡ false → (cpu ≡ CPU_TYPE_X86_64) ⊎ (cpu ≡ CPU_TYPE_ARM64)
known_cpu cpu e = by (cpu == CPU_TYPE_X86_64) (cpu == CPU_TYPE_ARM64) refl refl e
  where
    by : (a b : Bool) → (cpu == CPU_TYPE_X86_64) ≡ a → (cpu == CPU_TYPE_ARM64) ≡ b → not (a || b) ≡ false → (cpu ≡ CPU_TYPE_X86_64) ⊎ (cpu ≡ CPU_TYPE_ARM64)
    by true b is-a is-b e = inl (eqb-true cpu CPU_TYPE_X86_64 is-a)
    by false true is-a is-b e = inr (eqb-true cpu CPU_TYPE_ARM64 is-b)
    by false false is-a is-b e = absurd cc

record HeaderFits (h : Header) : Type 0 where
  pub cpu : (h.cpu ≡ CPU_TYPE_X86_64) ⊎ (h.cpu ≡ CPU_TYPE_ARM64)
  pub sub : h.sub < 2 ^ 32
  pub size : h.sizeofcmds < 2 ^ 32

header_fits : (bytes : List ℕ) (h : Header) → IsBytes bytes → header_of bytes ≡ Ok h → HeaderFits h
unfolding header_of
header_fits bytes h are e =
    let p = passed (ltb (length bytes) MACH_HEADER_64_SIZE) (header_fault kinds.Truncated 0) _ h e in
    let q = passed (not (number_of 4 0 bytes == MH_MAGIC_64)) (header_fault kinds.NotMachO 0) _ h p.1 in
    let r = passed (not (is_known_cpu (number_of 4 4 bytes))) (header_fault kinds.WrongCpu 4) _ h q.1 in
    let s = passed (ltb (length bytes - MACH_HEADER_64_SIZE) (number_of 4 20 bytes)) commands_cut _ h r.1 in
    let read : Header = record { cpu = number_of 4 4 bytes; sub = number_of 4 8 bytes; filetype = number_of 4 12 bytes; ncmds = number_of 4 16 bytes; sizeofcmds = number_of 4 20 bytes } in
    subst HeaderFits (ok_is read h s.1)
    (record { cpu = known_cpu (number_of 4 4 bytes) r.0; sub = omega (arith, number_small 4 8 bytes are); size = omega (arith, number_small 4 20 bytes are) })

pub read_fits : (bytes : List ℕ) (program : Image) → AreBytes bytes → image_of bytes ≡ Ok program → kind_of program roles.Program ≡ Ok tt → FitsRecords program
unfolding image_of
read_fits bytes program given e kind =
    let are = IsBytes-from bytes given in
    let h = bind_ok (header_of bytes) _ program e in
    let area : List ℕ = area_of h.0 bytes in
    let c = bind_ok (gathered_of (commands_of (h.0).ncmds 32 area)) _ program h.2 in
    let s = bind_ok (symbols_of (c.0).symtab bytes) _ program c.2 in
    let head = header_fits bytes h.0 are h.1 in
    let size = head.size in
    let short : length area < 2 ^ 32 = omega (arith, size, length-take (h.0).sizeofcmds (drop 32 bytes)) in
    let kept = kept_fits (h.0).ncmds 32 area c.0 (IsBytes-take (h.0).sizeofcmds (drop 32 bytes) (IsBytes-drop 32 bytes are)) short c.1 in
    let sound = kept_sound (h.0).ncmds 32 area c.0 c.1 in
    let few = kept_few (h.0).ncmds 32 (h.0).sizeofcmds (drop 32 bytes) c.0 c.1 in
    let all = symbols_fit (c.0).symtab bytes s.0 are kept.few s.1 in
    let names = symbols_sound (c.0).symtab bytes s.0 s.1 in
    let image : Image = record { cpu = (h.0).cpu; sub = (h.0).sub; filetype = (h.0).filetype; uuid = (c.0).uuid; segments = (c.0).segments; sections = (c.0).sections; symbols = s.0 } in
    subst (λ (p : Image). kind_of p roles.Program ≡ Ok tt → FitsRecords p) (ok_is image program s.2)
    (λ ours.
    record {
      sound = record { counts = sound.counts; segments = sound.segments; sections = sound.sections; symbols = names; few = all.1; few_sections = omega (arith, few, size) };
      cpu = head.cpu;
      sub = head.sub;
      uuid = kept.uuid_is;
      segments = kept.commands;
      symbols = All-filter (λ (it : Symbol). not (is_stab it)) FitsFields s.0 all.0;
      room = end_within (c.0).segments (c.0).sections sound.segments (none_linked image ours);
    })
    kind
