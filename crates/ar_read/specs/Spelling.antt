-- An archive as its members spell it (ar.h, ar_hdr): the magic, and of each member a header, its bytes, and one byte of padding behind an odd number of them.
use Rattle.std.specs.Prelude.{◌≡◌, ℕ, ◌+◌, ◌-◌, ◌%◌, ◌<◌, ◌≤◌, ◌==◌, true, false, List, [], ◌++◌, length, replicate, Option, Some, None, Result, Ok, Err, nat_eq}
use Rattle.std.specs.List.{flat_map, find, list_all, starts_with, suffix_len, AllByRecursion}
use Rattle.std.specs.Char.{is_ascii_digit}
use Rattle.std.specs.Str.{bytes_eq}
use Rattle.ds_base.specs.declared.fault.Fault.{Fault}
use Rattle.ds_base.specs.declared.fault.Kind.TheVariants as kinds
use Rattle.ds_base.specs.MachONumbers.{ARMAG, ARFMAG, AR_EFMT1}
use Rattle.ar_read.specs.Number.{decimal}
use Rattle.ar_read.specs.Header.{archive_fault}
use Rattle.ar_read.specs.Archive.{member_of}

-- ---- how it is spelled

-- a text in a field of a width, padded with spaces
abbrev pub padded : ℕ → List ℕ → List ℕ
padded width text = text ++ replicate (width - length text) 32

-- where a member's name stands: in the header; or before its content, with so many zeros behind it, and the digits in the header say how many bytes both are
pub data NamePlace : Type 0 where
  InHeader : NamePlace
  InBody : List ℕ → ℕ → NamePlace

pub record Spelled : Type 0 where
  pub name : List ℕ
  pub name_place : NamePlace
  pub content : List ℕ
  pub date : List ℕ
  pub uid : List ℕ
  pub gid : List ℕ
  pub mode : List ℕ
  -- the digits of the size
  pub size : List ℕ
  -- the byte behind an odd size
  pub odd : ℕ

-- the text of the name field
abbrev pub name_field : NamePlace → List ℕ → List ℕ
name_field InHeader name = name
name_field (InBody digits pads) name = AR_EFMT1 ++ digits

-- what stands before the content
abbrev pub name_bytes : NamePlace → List ℕ → List ℕ
name_bytes InHeader name = []
name_bytes (InBody digits pads) name = name ++ replicate pads 0

-- the bytes that the size counts
abbrev pub body : Spelled → List ℕ
body m = name_bytes m.name_place m.name ++ m.content

-- the fields before the size
abbrev pub front : Spelled → List ℕ
front m = padded 16 (name_field m.name_place m.name) ++ (m.date ++ (m.uid ++ (m.gid ++ m.mode)))

abbrev pub header : Spelled → List ℕ
header m = front m ++ (padded 10 m.size ++ ARFMAG)

abbrev pub member_bytes : Spelled → List ℕ
member_bytes m = header m ++ (body m ++ replicate (length (body m) % 2) m.odd)

abbrev pub archive_bytes : List Spelled → List ℕ
archive_bytes members = ARMAG ++ flat_map member_bytes members

-- ---- when it is

-- digits, at least one and at most so many, spell a number
pub record IsNumber (width : ℕ) (digits : List ℕ) (n : ℕ) : Type 0 where
  pub some : 0 < length digits
  pub fits : length digits ≤ width
  pub all : list_all is_ascii_digit digits ≡ true
  pub value : decimal digits ≡ n

-- bytes do not end with one that pads them
abbrev pub EndsWithout : ℕ → List ℕ → Type 0
EndsWithout pad bytes = suffix_len (λ b. b == pad) bytes ≡ 0

-- a name in the header, which doesn't begin as if it stood before the content
pub record IsShort (name : List ℕ) : Type 0 where
  pub len : length name ≤ 16
  pub plain : starts_with nat_eq (padded 16 name) AR_EFMT1 ≡ false
  pub ends : EndsWithout 32 name

-- a name before the content
pub record IsLong (digits : List ℕ) (pads : ℕ) (name : List ℕ) : Type 0 where
  pub count : IsNumber 13 digits (length name + pads)
  pub ends : EndsWithout 0 name

abbrev pub IsNamed : NamePlace → List ℕ → Type 0
IsNamed InHeader name = IsShort name
IsNamed (InBody digits pads) name = IsLong digits pads name

pub record IsMember (m : Spelled) : Type 0 where
  pub name : IsNamed m.name_place m.name
  pub date : length m.date ≡ 12
  pub uid : length m.uid ≡ 6
  pub gid : length m.gid ≡ 6
  pub mode : length m.mode ≡ 8
  pub size : IsNumber 10 m.size (length (body m))

-- ---- what is found in it

abbrev pub content_or_none : Option Spelled → Result (List ℕ) Fault
content_or_none (Some m) = Ok m.content
content_or_none None = Err (archive_fault kinds.NoMember 0)

-- the content of the first member of a name
abbrev pub first_of : List Spelled → List ℕ → Result (List ℕ) Fault
first_of members name = content_or_none (find (λ m. bytes_eq m.name name) members)

-- an archive that is spelled by its members is read back as these
abbrev pub ArchivesReadBack : Type 0
ArchivesReadBack = (members : List Spelled) (name : List ℕ) → AllByRecursion IsMember members → member_of (archive_bytes members) name ≡ first_of members name
