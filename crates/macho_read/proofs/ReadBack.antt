-- What is spelled is read back.
use Rattle.std.proofs.Common.{◌≡◌, ℕ, zero, suc, ◌+◌, ◌-◌, ◌<◌, ◌≤◌, ◌==◌, false, List, [], ◌∷◌, ◌++◌, length, map, take, drop, get_or, replicate, Ok, refl, sym, ap, subst, ◌∙◌, append_assoc, arith}
use Rattle.std.specs.List.{flat_map, list_any, AllByRecursion}
use Rattle.std.proofs.lemmas.Bool.{le-ltb, or_parts}
use Rattle.std.proofs.lemmas.List.{take_at, drop_at, length-append, length-replicate}
use Rattle.byteorder.specs.Endian.{little_number, little_bytes}
use Rattle.byteorder.specs.Numbers.{little_number-reads_back, length-bytes_low_first}
use Rattle.ds_base.specs.MachONumbers.{LC_SEGMENT_64}
use Rattle.macho_read.specs.declared.image.Segment.{Segment}
use Rattle.macho_read.specs.declared.image.Section.{Section}
use Rattle.macho_read.specs.declared.records.Symtab.{Symtab}
use Rattle.macho_read.specs.Fields.{number_of, name_of, text_len}
use Rattle.macho_read.specs.Records.{segment_of, section_of, symtab_of}
use Rattle.macho_read.specs.Commands.{command_at, commands_of}
use Rattle.macho_read.specs.Spelling.{spelled, AllFit, padded, IsName, segment_fields, segment_bytes, section_fields, section_bytes, symtab_fields, RecordsReadBack, Command, command_fields, command_bytes, IsCommand}

-- the bytes before a field
abbrev before : ℕ → List (ℕ × ℕ) → ℕ
before zero fields = 0
before (suc k) [] = 0
before (suc k) (f ∷ fields) = f.0 + before k fields

-- the field of an index, behind some bytes
pub field_is : (k : ℕ) (fields : List (ℕ × ℕ)) (front more : List ℕ) (at : ℕ) → AllFit fields → k < length fields → at ≡ length front + before k fields
    → number_of (get_or fields k (0, 0)).0 at (front ++ (spelled fields ++ more)) ≡ (get_or fields k (0, 0)).1
unfolding number_of
field_is k [] front more at fit lt is = absurd (omega arith)
field_is zero (f ∷ fields) front more at fit lt is =
    let here : at ≡ length front = omega arith in
    let first : drop at (front ++ ((little_bytes f.0 f.1 ++ spelled fields) ++ more)) ≡ little_bytes f.0 f.1 ++ (spelled fields ++ more) =
    drop_at front ((little_bytes f.0 f.1 ++ spelled fields) ++ more) at (sym here) ∙ append_assoc (little_bytes f.0 f.1) (spelled fields) more in
    ap (little_number f.0) first ∙ little_number-reads_back f.0 f.1 (spelled fields ++ more) fit.0
field_is (suc k) (f ∷ fields) front more at fit lt is =
    let one : List ℕ = little_bytes f.0 f.1 in
    let regrouped : (front ++ one) ++ (spelled fields ++ more) ≡ front ++ ((one ++ spelled fields) ++ more) =
    append_assoc front one (spelled fields ++ more) ∙ ap (λ (xs : List ℕ). front ++ xs) (sym (append_assoc one (spelled fields) more)) in
    let step : before (suc k) (f ∷ fields) ≡ f.0 + before k fields = refl in
    subst (λ (xs : List ℕ). number_of (get_or fields k (0, 0)).0 at xs ≡ (get_or fields k (0, 0)).1) regrouped
    (field_is k fields (front ++ one) more at fit.1 (omega arith) (omega (arith, is, step, length-append front one, length-bytes_low_first 0 f.0 f.1)))

text_zeros : (n : ℕ) → text_len (replicate n 0) ≡ 0
text_zeros zero = refl
text_zeros (suc n) = refl

text_padded : (name : List ℕ) (n : ℕ) → list_any (λ b. b == 0) name ≡ false → text_len (name ++ replicate n 0) ≡ length name
text_padded [] n e = text_zeros n
text_padded (b ∷ name) n e =
    let p = or_parts (b == 0) (list_any (λ b. b == 0) name) e in
    rw p.0 (omega (arith, text_padded name n p.1))

pub length_padded : (name : List ℕ) → length name ≤ 16 → length (padded name) ≡ 16
length_padded name le = omega (arith, length-append name (replicate (16 - length name) 0), length-replicate {A = ℕ} (16 - length name) 0)

-- the name behind some bytes
pub name_is : (name front more : List ℕ) (at : ℕ) → IsName name → at ≡ length front → name_of at (front ++ (padded name ++ more)) ≡ name
unfolding name_of
name_is name front more at is here =
    let field : take 16 (drop at (front ++ (padded name ++ more))) ≡ padded name =
    ap (take 16) (drop_at front (padded name ++ more) at (sym here)) ∙ take_at (padded name) more 16 (length_padded name is.len) in
    rw (field, text_padded name (16 - length name) is.no_zero) (take_at name (replicate (16 - length name) 0) (length name) refl)

segment_again : (s : Segment) (cmdsize fileoff filesize : ℕ) (more : List ℕ) → IsName s.name → AllFit (segment_fields fileoff filesize s)
    → segment_of (segment_bytes cmdsize fileoff filesize s ++ more) ≡ s
unfolding segment_of
segment_again s cmdsize fileoff filesize more named fit =
    let head : List ℕ = spelled ((4, LC_SEGMENT_64) ∷ (4, cmdsize) ∷ []) in
    let fields : List (ℕ × ℕ) = segment_fields fileoff filesize s in
    let front : List ℕ = head ++ padded s.name in
    let head_len : length head ≡ 8 = omega (arith, length-append (little_bytes 4 LC_SEGMENT_64) (little_bytes 4 cmdsize ++ []), length-append (little_bytes 4 cmdsize) [], length-bytes_low_first 0 4 LC_SEGMENT_64, length-bytes_low_first 0 4 cmdsize) in
    let front_len : length front ≡ 24 = omega (arith, length-append head (padded s.name), head_len, length_padded s.name named.len) in
    let parts : (front ++ spelled fields) ++ more ≡ front ++ (spelled fields ++ more) = append_assoc front (spelled fields) more in
    let name : name_of 8 (front ++ (spelled fields ++ more)) ≡ s.name =
    ap (name_of 8) (append_assoc head (padded s.name) (spelled fields ++ more)) ∙ name_is s.name head (spelled fields ++ more) 8 named (sym head_len) in
    rw (
      parts,
      name,
      field_is 0 fields front more 24 fit (omega arith) (omega (arith, front_len)),
      field_is 1 fields front more 32 fit (omega arith) (omega (arith, front_len)),
      field_is 4 fields front more 56 fit (omega arith) (omega (arith, front_len)),
      field_is 5 fields front more 60 fit (omega arith) (omega (arith, front_len)),
      field_is 6 fields front more 64 fit (omega arith) (omega (arith, front_len)),
      field_is 7 fields front more 68 fit (omega arith) (omega (arith, front_len)),
    ) refl

section_again : (s : Section) (more : List ℕ) → IsName s.name → IsName s.segment → AllFit (section_fields s) → section_of (section_bytes s ++ more) ≡ s
unfolding section_of
section_again s more named placed fit =
    let fields : List (ℕ × ℕ) = section_fields s in
    let front : List ℕ = padded s.name ++ padded s.segment in
    let name_len : length (padded s.name) ≡ 16 = length_padded s.name named.len in
    let front_len : length front ≡ 32 = omega (arith, length-append (padded s.name) (padded s.segment), name_len, length_padded s.segment placed.len) in
    let parts : (front ++ spelled fields) ++ more ≡ front ++ (spelled fields ++ more) = append_assoc front (spelled fields) more in
    let nested : front ++ (spelled fields ++ more) ≡ padded s.name ++ (padded s.segment ++ (spelled fields ++ more)) = append_assoc (padded s.name) (padded s.segment) (spelled fields ++ more) in
    let name : name_of 0 (front ++ (spelled fields ++ more)) ≡ s.name = ap (name_of 0) nested ∙ name_is s.name [] (padded s.segment ++ (spelled fields ++ more)) 0 named refl in
    let segment : name_of 16 (front ++ (spelled fields ++ more)) ≡ s.segment = ap (name_of 16) nested ∙ name_is s.segment (padded s.name) (spelled fields ++ more) 16 placed (sym name_len) in
    rw (
      parts,
      name,
      segment,
      field_is 0 fields front more 32 fit (omega arith) (omega (arith, front_len)),
      field_is 1 fields front more 40 fit (omega arith) (omega (arith, front_len)),
      field_is 2 fields front more 48 fit (omega arith) (omega (arith, front_len)),
      field_is 3 fields front more 52 fit (omega arith) (omega (arith, front_len)),
      field_is 4 fields front more 56 fit (omega arith) (omega (arith, front_len)),
      field_is 5 fields front more 60 fit (omega arith) (omega (arith, front_len)),
      field_is 6 fields front more 64 fit (omega arith) (omega (arith, front_len)),
      field_is 7 fields front more 68 fit (omega arith) (omega (arith, front_len)),
      field_is 8 fields front more 72 fit (omega arith) (omega (arith, front_len)),
      field_is 9 fields front more 76 fit (omega arith) (omega (arith, front_len)),
    ) refl

symtab_again : (t : Symtab) (more : List ℕ) → AllFit (symtab_fields t) → symtab_of (spelled (symtab_fields t) ++ more) ≡ t
unfolding symtab_of
symtab_again t more fit =
    let fields : List (ℕ × ℕ) = symtab_fields t in
    rw (
      field_is 2 fields [] more 8 fit (omega arith) (omega arith),
      field_is 3 fields [] more 12 fit (omega arith) (omega arith),
      field_is 4 fields [] more 16 fit (omega arith) (omega arith),
      field_is 5 fields [] more 20 fit (omega arith) (omega arith),
    ) refl

pub records_again : RecordsReadBack
records_again = record { segment = segment_again; section = section_again; symtab = symtab_again }

-- ---- commands

pub length_command : (c : Command) → length (command_bytes c) ≡ 8 + length c.body
length_command c =
    omega (
      arith,
      length-append (spelled (command_fields c)) c.body,
      length-append (little_bytes 4 c.cmd) (little_bytes 4 (8 + length c.body) ++ []),
      length-append (little_bytes 4 (8 + length c.body)) [],
      length-bytes_low_first 0 4 c.cmd,
      length-bytes_low_first 0 4 (8 + length c.body),
    )

-- the command that an area begins with
command_again : (c : Command) (more : List ℕ) (place : ℕ) → IsCommand c → command_at place (command_bytes c ++ more) ≡ Ok (command_bytes c)
unfolding command_at
command_again c more place is =
    let size : ℕ = 8 + length c.body in
    let bytes : List ℕ = command_bytes c ++ more in
    let len : length (command_bytes c) ≡ size = length_command c in
    let all : length bytes ≡ size + length more = omega (arith, length-append (command_bytes c) more, len) in
    let named : number_of 4 4 bytes ≡ size = ap (number_of 4 4) (append_assoc (spelled (command_fields c)) c.body more) ∙ field_is 1 (command_fields c) [] (c.body ++ more) 4 is.fits (omega arith) (omega arith) in
    let taken : take size bytes ≡ command_bytes c = take_at (command_bytes c) more size len in
    rw (le-ltb (length bytes) 8 (omega (arith, all)), named, le-ltb size 8 (omega arith), le-ltb (length bytes) size (omega (arith, all)), taken, is.whole) refl

pub commands_again : (cs : List Command) (place : ℕ) → AllByRecursion IsCommand cs → commands_of (length cs) place (flat_map command_bytes cs) ≡ Ok (map command_bytes cs)
unfolding commands_of
commands_again [] place all = refl
commands_again (c ∷ cs) place all =
    let rest : drop (length (command_bytes c)) (command_bytes c ++ flat_map command_bytes cs) ≡ flat_map command_bytes cs = drop_at (command_bytes c) (flat_map command_bytes cs) (length (command_bytes c)) refl in
    rw (command_again c (flat_map command_bytes cs) place all.0, rest, commands_again cs (place + length (command_bytes c)) all.1) refl
