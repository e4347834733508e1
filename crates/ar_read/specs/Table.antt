-- A table of an archive's members: what it has of a name is what the archive has of it.
use Rattle.std.specs.Prelude.{◌≡◌, ℕ, List, Option, Some, None, Result, Ok, Err, if◌then◌else◌}
use Rattle.std.specs.Str.{bytes_eq}
use denote.Ref.{Bor}
use Rattle.indexmap.specs.IndexMap.{IndexMap, get_by}
use Rattle.ds_base.specs.declared.fault.Fault.{Fault}
use Rattle.ds_base.specs.declared.text_key.TextKey.{TextKey}
use Rattle.ar_read.specs.Archive.{member_of}

-- what is found, or else this
abbrev pub or_else : Option (Bor (List ℕ)) → Result (List ℕ) Fault → Result (List ℕ) Fault
or_else (Some content) other = Ok content.now
or_else None other = other

module _ {S : Type 0} where
  -- the content of a name in a table
  abbrev pub content_in : IndexMap TextKey (Bor (List ℕ)) S → List ℕ → Option (Bor (List ℕ))
  content_in contents name = get_by (λ k. bytes_eq name k.text.now) contents

  -- a table, with a fault for all other names, tells what an archive has of each name
  abbrev pub Tells : List ℕ → IndexMap TextKey (Bor (List ℕ)) S → Fault → Type 0
  Tells bytes contents missing = (name : List ℕ) → or_else (content_in contents name) (Err missing) ≡ member_of bytes name

  -- after a walk the table, with a fault for all other names, tells what it told before, or else what is found on the walk
  abbrev pub Walks : IndexMap TextKey (Bor (List ℕ)) S → IndexMap TextKey (Bor (List ℕ)) S → Fault → (List ℕ → Result (List ℕ) Fault) → Type 0
  Walks old new missing found = (name : List ℕ) → or_else (content_in new name) (Err missing) ≡ or_else (content_in old name) (found name)

  -- the content of a member stands behind those that the table had
  abbrev pub PutsBehind : IndexMap TextKey (Bor (List ℕ)) S → IndexMap TextKey (Bor (List ℕ)) S → List ℕ → List ℕ → Type 0
  PutsBehind old new its content = (name : List ℕ) (other : Result (List ℕ) Fault) → or_else (content_in new name) other ≡ or_else (content_in old name) (if bytes_eq its name then Ok content else other)
