-- A file that is spelled by its records is read back.
use Rattle.std.proofs.Common.{◌≡◌, ◌⊎◌, inl, inr, ℕ, ◌+◌, ◌*◌, ◌-◌, ◌<◌, ◌≤◌, ◌==◌, ◌&&◌, not, false, nat_lt, List, [], ◌∷◌, ◌++◌, length, map, take, drop, slice_index, Option, Some, None, Ok, refl, sym, ap, subst, ◌∙◌, append_assoc, arith}
use Rattle.std.specs.List.{flat_map, list_any, range_with_len, AllByRecursion}
use Rattle.std.proofs.Math.Nat.{mod-eq_of_lt}
use Rattle.std.proofs.lemmas.Bool.{le-ltb, lt-leb, ne_eqb, or_parts, cases_Bool}
use Rattle.std.proofs.lemmas.List.{take_at, drop_at, length-append, length-drop, length-map}
use Rattle.ds_base.specs.MachONumbers.{CPU_TYPE_X86_64, CPU_TYPE_ARM64, LC_SEGMENT_64, LC_SYMTAB, LC_UUID, SEG_DWARF}
use Rattle.macho_read.specs.declared.header.Header.{Header}
use Rattle.macho_read.specs.declared.image.Segment.{Segment}
use Rattle.macho_read.specs.declared.image.Section.{Section}
use Rattle.macho_read.specs.declared.image.Symbol.{Symbol}
use Rattle.macho_read.specs.declared.records.Symtab.{Symtab}
use Rattle.macho_read.specs.Fields.{number_of, name_of, text_len, is_named}
use Rattle.macho_read.specs.Records.{segment_of, section_of, symtab_of, uuid_of}
use Rattle.macho_read.specs.Commands.{area_of, commands_of, gathered, gathered_of, is_bad, is_bad_segment, last_end, nsects_of, sections_of, what_is_in}
use Rattle.macho_read.specs.Header.{header_of, is_known_cpu}
use Rattle.macho_read.specs.Symbols.{each, name_in, symbol_of, symbols_in, symbols_of}
use Rattle.macho_read.specs.Image.{image_of}
use Rattle.macho_read.specs.Spelling.{AllFit, Command, IsCommand, command_bytes, command_fields, padded, section_bytes, section_fields, segment_bytes, segment_fields, spelled}
use Rattle.macho_read.specs.ImageSpelling.{AreSymbols, File, IsLoadCommand, IsNameAt, IsSection, IsSymbol, StandsIn, LoadCommand, SegmentCommand, SymtabCommand, UuidCommand, OtherCommand, SpellsFile, command_of, commands_bytes, header_fields, image_kept, kept, kept_of, nlist_bytes, nlist_fields, symtab_place}
use Rattle.macho_read.proofs.ReadBack.{commands_again, field_is, length_command, length_padded, records_again}

-- ---- section records

length_section : (s : Section) → IsSection s → length (section_bytes s) ≡ 80
length_section s is =
    let numbers : length (spelled (section_fields s)) ≡ 48 = refl in
    omega (
      arith,
      length-append (padded s.name ++ padded s.segment) (spelled (section_fields s)),
      length-append (padded s.name) (padded s.segment),
      length_padded s.name is.name.len,
      length_padded s.segment is.segment.len,
      numbers,
    )

-- the records from number k on, behind those before
sections_again : (ss : List Section) (front more : List ℕ) (k : ℕ) → AllByRecursion IsSection ss → 72 + 80 * k ≡ length front
    → map (λ i. section_of (drop (72 + 80 * i) (front ++ (flat_map section_bytes ss ++ more)))) (range_with_len k (length ss)) ≡ ss
sections_again [] front more k all here = refl
sections_again (s ∷ ss) front more k all here =
    let one : List ℕ = section_bytes s in
    let others : List ℕ = flat_map section_bytes ss in
    let regrouped : (front ++ one) ++ (others ++ more) ≡ front ++ ((one ++ others) ++ more) =
    append_assoc front one (others ++ more) ∙ ap (λ (xs : List ℕ). front ++ xs) (sym (append_assoc one others more)) in
    let first : drop (72 + 80 * k) (front ++ ((one ++ others) ++ more)) ≡ one ++ (others ++ more) =
    drop_at front ((one ++ others) ++ more) (72 + 80 * k) (sym here) ∙ append_assoc one others more in
    let head : section_of (drop (72 + 80 * k) (front ++ ((one ++ others) ++ more))) ≡ s =
    ap section_of first ∙ records_again.section s (others ++ more) all.0.name all.0.segment all.0.fit in
    let tail : map (λ i. section_of (drop (72 + 80 * i) ((front ++ one) ++ (others ++ more)))) (range_with_len (k + 1) (length ss)) ≡ ss =
    sections_again ss (front ++ one) more (k + 1) all.1 (omega (arith, here, length-append front one, length_section s all.0)) in
    let moved : map (λ i. section_of (drop (72 + 80 * i) (front ++ ((one ++ others) ++ more)))) (range_with_len (k + 1) (length ss)) ≡ ss =
    subst (λ (bytes : List ℕ). map (λ i. section_of (drop (72 + 80 * i) bytes)) (range_with_len (k + 1) (length ss)) ≡ ss) regrouped tail in
    rw (head, moved) refl

-- ---- commands

-- the number that a command begins with
number_again : (c : Command) → AllFit (command_fields c) → number_of 4 0 (command_bytes c) ≡ c.cmd
number_again c fit = field_is 0 (command_fields c) [] c.body 0 fit (omega arith) (omega arith)

-- a segment command as its fixed part and what follows it
segment_parts : (s : Segment) (cmdsize fileoff filesize : ℕ) (tail : List ℕ)
    → spelled ((4, LC_SEGMENT_64) ∷ (4, cmdsize) ∷ []) ++ ((padded s.name ++ spelled (segment_fields fileoff filesize s)) ++ tail) ≡ segment_bytes cmdsize fileoff filesize s ++ tail
segment_parts s cmdsize fileoff filesize tail =
    let head : List ℕ = spelled ((4, LC_SEGMENT_64) ∷ (4, cmdsize) ∷ []) in
    let name : List ℕ = padded s.name in
    let numbers : List ℕ = spelled (segment_fields fileoff filesize s) in
    ap (λ (xs : List ℕ). head ++ xs) (append_assoc name numbers tail) ∙ sym (append_assoc head name (numbers ++ tail)) ∙ sym (append_assoc (head ++ name) numbers tail)

length_segment : (s : Segment) (cmdsize fileoff filesize : ℕ) → length s.name ≤ 16 → length (segment_bytes cmdsize fileoff filesize s) ≡ 72
length_segment s cmdsize fileoff filesize le =
    let head : List ℕ = spelled ((4, LC_SEGMENT_64) ∷ (4, cmdsize) ∷ []) in
    let eight : length head ≡ 8 = refl in
    let numbers : length (spelled (segment_fields fileoff filesize s)) ≡ 48 = refl in
    omega (arith, length-append (head ++ padded s.name) (spelled (segment_fields fileoff filesize s)), length-append head (padded s.name), eight, numbers, length_padded s.name le)

length_sections : (ss : List Section) → AllByRecursion IsSection ss → length (flat_map section_bytes ss) ≡ 80 * length ss
length_sections [] all = refl
length_sections (s ∷ ss) all = omega (arith, length-append (section_bytes s) (flat_map section_bytes ss), length_section s all.0, length_sections ss all.1)

not_too_high : (s : Segment) → (is_named SEG_DWARF s.name ≡ false → s.vmaddr + s.vmsize ≤ last_end) → (not (is_named SEG_DWARF s.name) && nat_lt last_end (s.vmaddr + s.vmsize)) ≡ false
not_too_high s end =
    elim (cases_Bool (is_named SEG_DWARF s.name)) [
      | inl dwarf ↦ rw dwarf refl
      | inr other ↦ rw (other, le-ltb last_end (s.vmaddr + s.vmsize) (end other)) refl
    ]

-- what is said of a command with all its bytes: it is whole, and what is kept of it is known
pub record Known (c : LoadCommand) : Type 0 where
  pub whole : is_bad (command_bytes (command_of c)) ≡ false
  pub kept : what_is_in (command_bytes (command_of c)) ≡ kept_of c

segment_known : (s : Segment) (fileoff filesize : ℕ) (sections : List Section) (more : List ℕ) → IsLoadCommand (SegmentCommand s fileoff filesize sections more)
    → Known (SegmentCommand s fileoff filesize sections more)
unfolding is_bad is_bad_segment what_is_in segment_of
segment_known s fileoff filesize sections more is =
    let c : Command = command_of (SegmentCommand s fileoff filesize sections more) in
    let size : ℕ = 8 + length c.body in
    let records : List ℕ = flat_map section_bytes sections in
    let fixed : List ℕ = segment_bytes size fileoff filesize s in
    let parts : command_bytes c ≡ fixed ++ (records ++ more) = segment_parts s size fileoff filesize (records ++ more) in
    let number : number_of 4 0 (command_bytes c) ≡ LC_SEGMENT_64 = number_again c is.fits in
    let segment : segment_of (command_bytes c) ≡ s = ap segment_of parts ∙ records_again.segment s size fileoff filesize (records ++ more) is.holds.name is.holds.fit in
    let count : nsects_of (command_bytes c) ≡ length sections = ap (λ (x : Segment). x.sections) segment ∙ is.holds.count in
    let fixed_len : length fixed ≡ 72 = length_segment s size fileoff filesize is.holds.name.len in
    let len : length (command_bytes c) ≡ 72 + (80 * length sections + length more) =
    ap (λ (xs : List ℕ). length xs) parts
    ∙ omega (arith, length-append fixed (records ++ more), length-append records more, fixed_len, length_sections sections is.holds.all) in
    let name : name_of 8 (command_bytes c) ≡ s.name = ap (λ (x : Segment). x.name) segment in
    let vmaddr : number_of 8 24 (command_bytes c) ≡ s.vmaddr = ap (λ (x : Segment). x.vmaddr) segment in
    let vmsize : number_of 8 32 (command_bytes c) ≡ s.vmsize = ap (λ (x : Segment). x.vmsize) segment in
    let all : sections_of (command_bytes c) ≡ sections =
    rw (count, parts) (sections_again sections fixed more 0 is.holds.all (omega (arith, fixed_len))) in
    record {
      whole =
          rw (number, count, name, vmaddr, vmsize, le-ltb (length (command_bytes c)) 72 (omega (arith, len)), le-ltb (length (command_bytes c)) (72 + 80 * length sections) (omega (arith, len)), not_too_high s is.holds.end)
          refl;
      kept = rw (number, segment, all) refl;
    }

symtab_known : (t : Symtab) (more : List ℕ) → IsLoadCommand (SymtabCommand t more) → Known (SymtabCommand t more)
unfolding is_bad what_is_in symtab_of
symtab_known t more is =
    let c : Command = command_of (SymtabCommand t more) in
    let head : List ℕ = spelled (command_fields c) in
    let eight : length head ≡ 8 = refl in
    let numbers : length (spelled (symtab_place t)) ≡ 16 = refl in
    let number : number_of 4 0 (command_bytes c) ≡ LC_SYMTAB = number_again c is.fits in
    let len : length (command_bytes c) ≡ 24 + length more = omega (arith, length_command c, length-append (spelled (symtab_place t)) more, numbers) in
    record {
      whole = rw (number, le-ltb (length (command_bytes c)) 24 (omega (arith, len))) refl;
      kept =
          rw (
            number,
            field_is 0 (symtab_place t) head more 8 is.holds (omega arith) (omega (arith, eight)),
            field_is 1 (symtab_place t) head more 12 is.holds (omega arith) (omega (arith, eight)),
            field_is 2 (symtab_place t) head more 16 is.holds (omega arith) (omega (arith, eight)),
            field_is 3 (symtab_place t) head more 20 is.holds (omega arith) (omega (arith, eight)),
          ) refl;
    }

uuid_known : (uuid more : List ℕ) → IsLoadCommand (UuidCommand uuid more) → Known (UuidCommand uuid more)
unfolding is_bad what_is_in uuid_of
uuid_known uuid more is =
    let c : Command = command_of (UuidCommand uuid more) in
    let number : number_of 4 0 (command_bytes c) ≡ LC_UUID = number_again c is.fits in
    let len : length (command_bytes c) ≡ 24 + length more = omega (arith, length_command c, length-append uuid more, is.holds) in
    let eight : length (spelled (command_fields c)) ≡ 8 = refl in
    let cut : take 16 (drop 8 (command_bytes c)) ≡ uuid = ap (take 16) (drop_at (spelled (command_fields c)) (uuid ++ more) 8 eight) ∙ take_at uuid more 16 is.holds in
    record {
      whole = rw (number, le-ltb (length (command_bytes c)) 24 (omega (arith, len))) refl;
      kept = rw (number, cut) refl;
    }

other_known : (c : Command) → IsLoadCommand (OtherCommand c) → Known (OtherCommand c)
unfolding is_bad what_is_in
other_known c is =
    let number : number_of 4 0 (command_bytes c) ≡ c.cmd = number_again c is.fits in
    record {
      whole = rw (number, is.holds.no_segment, is.holds.no_symtab, is.holds.no_uuid) refl;
      kept = rw (number, is.holds.no_segment, is.holds.no_symtab, is.holds.no_uuid) refl;
    }

known : (c : LoadCommand) → IsLoadCommand c → Known c
known (SegmentCommand s fileoff filesize sections more) is = segment_known s fileoff filesize sections more is
known (SymtabCommand t more) is = symtab_known t more is
known (UuidCommand uuid more) is = uuid_known uuid more is
known (OtherCommand c) is = other_known c is

are_commands : (cs : List LoadCommand) → AllByRecursion IsLoadCommand cs → AllByRecursion IsCommand (map command_of cs)
are_commands [] all = tt
are_commands (c ∷ cs) all = (record { fits = all.0.fits; whole = (known c all.0).whole }, are_commands cs all.1)

gathered_again : (cs : List LoadCommand) → AllByRecursion IsLoadCommand cs → gathered (map command_bytes (map command_of cs)) ≡ kept cs
gathered_again [] all = refl
gathered_again (c ∷ cs) all = rw ((known c all.0).kept, gathered_again cs all.1) refl

-- ---- symbols

text_ended : (name more : List ℕ) → list_any (λ b. b == 0) name ≡ false → text_len (name ++ 0 ∷ more) ≡ length name
text_ended [] more e = refl
text_ended (b ∷ name) more e =
    let p = or_parts (b == 0) (list_any (λ b. b == 0) name) e in
    rw p.0 (omega (arith, text_ended name more p.1))

name_again : (strings : List ℕ) (index place : ℕ) (name : List ℕ) → IsNameAt strings place name → name_in strings index place ≡ Ok name
unfolding name_in
name_again strings index place name (inl empty) = rw (empty.0, empty.1) refl
name_again strings index place name (inr stands) =
    let left : length (drop place strings) ≡ length name + length (0 ∷ stands.more) = ap (λ (xs : List ℕ). length xs) stands.is ∙ length-append name (0 ∷ stands.more) in
    let inside : place < length strings = omega (arith, length-drop place strings, left) in
    let behind : (place == 0) ≡ false = ne_eqb place 0 (λ e. omega (arith, e, stands.behind_0)) in
    let found : text_len (name ++ 0 ∷ stands.more) ≡ length name = text_ended name stands.more stands.no_zero in
    let ends : (length name == length (name ++ 0 ∷ stands.more)) ≡ false = ne_eqb (length name) (length (name ++ 0 ∷ stands.more)) (λ e. omega (arith, e, length-append name (0 ∷ stands.more))) in
    rw (behind, lt-leb (length strings) place inside, stands.is, found, ends, take_at name (0 ∷ stands.more) (length name) refl) refl

symbol_again : (strings : List ℕ) (index : ℕ) (s : ℕ × Symbol) (more : List ℕ) → IsSymbol strings s → symbol_of strings index (nlist_bytes s ++ more) ≡ Ok s.1
unfolding symbol_of number_of
symbol_again strings index s more is =
    let fields : List (ℕ × ℕ) = nlist_fields s in
    let kind : slice_index (nlist_bytes s ++ more) 4 ≡ s.1.kind = mod-eq_of_lt is.fit.1.0 in
    let sect : slice_index (nlist_bytes s ++ more) 5 ≡ s.1.sect = mod-eq_of_lt is.fit.1.1.0 in
    rw (
      field_is 0 fields [] more 0 is.fit (omega arith) (omega arith),
      name_again strings index s.0 s.1.name is.name,
      kind,
      sect,
      field_is 3 fields [] more 6 is.fit (omega arith) (omega arith),
      field_is 4 fields [] more 8 is.fit (omega arith) (omega arith),
    ) refl

-- the symbols from number i on, behind those before
symbols_again : (strings : List ℕ) (ss : List (ℕ × Symbol)) (front more : List ℕ) (i : ℕ) → AllByRecursion (IsSymbol strings) ss → 16 * i ≡ length front
    → each (λ k. symbol_of strings k (drop (16 * k) (front ++ (flat_map nlist_bytes ss ++ more)))) (length ss) i ≡ Ok (map (λ s. s.1) ss)
symbols_again strings [] front more i all here = refl
symbols_again strings (s ∷ ss) front more i all here =
    let one : List ℕ = nlist_bytes s in
    let others : List ℕ = flat_map nlist_bytes ss in
    let sixteen : length one ≡ 16 = refl in
    let regrouped : (front ++ one) ++ (others ++ more) ≡ front ++ ((one ++ others) ++ more) =
    append_assoc front one (others ++ more) ∙ ap (λ (xs : List ℕ). front ++ xs) (sym (append_assoc one others more)) in
    let first : drop (16 * i) (front ++ ((one ++ others) ++ more)) ≡ one ++ (others ++ more) =
    drop_at front ((one ++ others) ++ more) (16 * i) (sym here) ∙ append_assoc one others more in
    let head : symbol_of strings i (drop (16 * i) (front ++ ((one ++ others) ++ more))) ≡ Ok s.1 =
    ap (symbol_of strings i) first ∙ symbol_again strings i s (others ++ more) all.0 in
    let tail : each (λ k. symbol_of strings k (drop (16 * k) ((front ++ one) ++ (others ++ more)))) (length ss) (i + 1) ≡ Ok (map (λ s. s.1) ss) =
    symbols_again strings ss (front ++ one) more (i + 1) all.1 (omega (arith, here, length-append front one, sixteen)) in
    let moved : each (λ k. symbol_of strings k (drop (16 * k) (front ++ ((one ++ others) ++ more)))) (length ss) (i + 1) ≡ Ok (map (λ s. s.1) ss) =
    subst (λ (bytes : List ℕ). each (λ k. symbol_of strings k (drop (16 * k) bytes)) (length ss) (i + 1) ≡ Ok (map (λ s. s.1) ss)) regrouped tail in
    rw (head, moved) refl

table_again : (bytes : List ℕ) (t : Symtab) (ss : List (ℕ × Symbol)) → StandsIn bytes t ss → symbols_in t bytes ≡ Ok (map (λ s. s.1) ss)
unfolding symbols_in
table_again bytes t ss stands =
    rw (
      le-ltb (length bytes) (t.symoff + 16 * t.nsyms) stands.table,
      le-ltb (length bytes) (t.stroff + t.strsize) stands.strings,
      stands.count,
      stands.is,
    ) (symbols_again (take t.strsize (drop t.stroff bytes)) ss [] stands.more 0 stands.all refl)

all_symbols_again : (bytes : List ℕ) (table : Option Symtab) (ss : List (ℕ × Symbol)) → AreSymbols bytes table ss → symbols_of table bytes ≡ Ok (map (λ s. s.1) ss)
all_symbols_again bytes None ss none = rw none refl
all_symbols_again bytes (Some t) ss stands = table_again bytes t ss stands

-- ---- files

header_kept : File → Header
header_kept file = record { cpu = file.cpu; sub = file.sub; filetype = file.filetype; ncmds = length file.commands; sizeofcmds = length (commands_bytes file) }

known_cpu : (cpu : ℕ) → (cpu ≡ CPU_TYPE_X86_64) ⊎ (cpu ≡ CPU_TYPE_ARM64) → not (is_known_cpu cpu) ≡ false
known_cpu cpu (inl e) = rw e refl
known_cpu cpu (inr e) = rw e refl

header_again : (file : File) (more : List ℕ) → AllFit (header_fields file) → (file.cpu ≡ CPU_TYPE_X86_64) ⊎ (file.cpu ≡ CPU_TYPE_ARM64)
    → header_of (spelled (header_fields file) ++ (commands_bytes file ++ more)) ≡ Ok (header_kept file)
unfolding header_of header_kept
header_again file more fit cpu =
    let fields : List (ℕ × ℕ) = header_fields file in
    let rest : List ℕ = commands_bytes file ++ more in
    let whole : List ℕ = spelled fields ++ rest in
    let fixed : length (spelled fields) ≡ 32 = refl in
    let len : length whole ≡ 32 + (length (commands_bytes file) + length more) = omega (arith, length-append (spelled fields) rest, length-append (commands_bytes file) more, fixed) in
    rw (
      le-ltb (length whole) 32 (omega (arith, len)),
      field_is 0 fields [] rest 0 fit (omega arith) (omega arith),
      field_is 1 fields [] rest 4 fit (omega arith) (omega arith),
      field_is 2 fields [] rest 8 fit (omega arith) (omega arith),
      field_is 3 fields [] rest 12 fit (omega arith) (omega arith),
      field_is 4 fields [] rest 16 fit (omega arith) (omega arith),
      field_is 5 fields [] rest 20 fit (omega arith) (omega arith),
      known_cpu file.cpu cpu,
      le-ltb (length whole - 32) (length (commands_bytes file)) (omega (arith, len)),
    ) refl

commands_known : (file : File) (more : List ℕ) → AllByRecursion IsLoadCommand file.commands
    → gathered_of (commands_of (length file.commands) 32 (area_of (header_kept file) (spelled (header_fields file) ++ (commands_bytes file ++ more)))) ≡ Ok (kept file.commands)
unfolding header_kept
commands_known file more all =
    let fixed : length (spelled (header_fields file)) ≡ 32 = refl in
    let cut : take (length (commands_bytes file)) (drop 32 (spelled (header_fields file) ++ (commands_bytes file ++ more))) ≡ commands_bytes file =
    ap (take (length (commands_bytes file))) (drop_at (spelled (header_fields file)) (commands_bytes file ++ more) 32 fixed) ∙ take_at (commands_bytes file) more (length (commands_bytes file)) refl in
    let read : commands_of (length file.commands) 32 (commands_bytes file) ≡ Ok (map command_bytes (map command_of file.commands)) =
    ap (λ (n : ℕ). commands_of n 32 (commands_bytes file)) (sym (length-map file.commands command_of)) ∙ commands_again (map command_of file.commands) 32 (are_commands file.commands all) in
    rw (cut, read, gathered_again file.commands all) refl

pub images_again : (bytes : List ℕ) (file : File) → SpellsFile bytes file → image_of bytes ≡ Ok (image_kept file)
unfolding image_of header_kept
images_again bytes file is =
    let whole : List ℕ = spelled (header_fields file) ++ (commands_bytes file ++ is.more) in
    let header : header_of bytes ≡ Ok (header_kept file) = ap header_of is.is ∙ header_again file is.more is.fit is.cpu in
    let commands : gathered_of (commands_of (length file.commands) 32 (area_of (header_kept file) bytes)) ≡ Ok (kept file.commands) =
    ap (λ (b : List ℕ). gathered_of (commands_of (length file.commands) 32 (area_of (header_kept file) b))) is.is ∙ commands_known file is.more is.commands in
    rw (header, commands, all_symbols_again bytes (kept file.commands).symtab file.symbols is.symbols) refl
