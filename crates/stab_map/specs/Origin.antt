-- Where the object of a path lies: in a file of its own, or as a member of an archive.
use Rattle.std.specs.Prelude.{ℕ, ◌-◌, ◌==◌, Bool, List, [], ◌∷◌, length, take, Option, Some, None, nat_eq, nat_lt, if◌then◌else◌}
use Rattle.std.specs.List.{ends_with, before_last, after_last}
use Rattle.std.specs.Option.{option_copied}
use Rattle.std.specs.Str.{is_utf8}
use Rattle.macho_read.specs.declared.image.Symbol.{Symbol}
use Rattle.stab_map.specs.declared.origin.Origin.{Origin as Found}
use Rattle.stab_map.specs.declared.stab.Stab.{Stab}
use Rattle.stab_map.specs.declared.stab.Stab.TheVariants as stabs
use Rattle.stab_map.specs.Stab.{stab_of}

pub record Origin : Type 0 where
  pub file : List ℕ
  pub member : Option (List ℕ)

abbrev pub seen : Found → Origin
seen o = record { file = o.file.now; member = option_copied o.member }

-- `(` and `)`
abbrev pub is_open : ℕ → Bool
is_open b = b == 40

abbrev pub closes : List ℕ
closes = 41 ∷ []

-- the path is the name of a file
abbrev pub whole : List ℕ → Origin
whole path = record { file = path; member = None }

-- a path without its last byte, a `)`: where its last `(` has a byte before it, the file stands before and the member behind
abbrev pub inside : List ℕ → List ℕ → Origin
inside path inner =
    if nat_lt 0 (length (before_last is_open inner))
    then record { file = before_last is_open inner; member = Some (after_last is_open inner) } else whole path

unfoldable pub origin_of : List ℕ → Origin
origin_of path = if ends_with nat_eq path closes then inside path (take (length path - 1) path) else whole path

-- bytes as text, where they are
abbrev pub text_in : List ℕ → Option (List ℕ)
text_in bytes = if is_utf8 bytes then Some bytes else None

-- the file of the object that a stab opens by this path, if it opens one and the file's name is text
abbrev pub file_by : Stab → List ℕ → Option (List ℕ)
file_by stabs.Object path = text_in (origin_of path).file
file_by _ path = None

abbrev pub opened_file : Symbol → Option (List ℕ)
opened_file s = file_by (stab_of s) s.name
