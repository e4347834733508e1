-- What is held in memory, without where its texts lie.
use Rattle.std.specs.Prelude.{◌≡◌, ℕ, ◌<◌, ◌^◌, List, length, map, Option, Ok, true}
use Rattle.std.specs.List.{All}
use Rattle.std.specs.HashMap.{HashMap}
use Rattle.std.specs.Str.{bytes_eq, is_utf8}
use denote.Ref.{Bor}
use Rattle.indexmap.specs.IndexMap.{index_of_by}
use Rattle.stab_map.specs.declared.object.MapObject.{MapObject}
use Rattle.macho_read.specs.declared.kind.Role.TheVariants as roles
use Rattle.macho_read.specs.Kind.{kind_of}
use Rattle.macho_read.specs.Sound.{IsSound}
use Rattle.link_program.specs.declared.program.MappedProgram.{MappedProgram}
use Rattle.link_program.specs.Files.{HeldFile}

-- the files in a table by their names
abbrev pub held_seen : {S : Type 0} → HashMap (Bor (List ℕ)) (List ℕ) S → List HeldFile
held_seen held = map (λ e. record { name = e.0.now; bytes = e.1 }) held.entries

-- the names in a table
abbrev pub missing_seen : {S V : Type 0} → HashMap (Bor (List ℕ)) V S → List (List ℕ)
missing_seen missing = map (λ e. e.0.now) missing.entries

-- the names of the objects' files are text
abbrev pub HaveNames : List MapObject → Type 0
HaveNames objects = All (λ o. is_utf8 o.file ≡ true) objects

-- what a program needs, so that it can be linked: it is one by its kind, and its objects can be numbered
pub record IsLinkable (program : MappedProgram) : Type 0 where
  pub sound : IsSound program.image
  pub kind : kind_of program.image roles.Program ≡ Ok tt
  pub few : length program.objects < 2 ^ 16
  pub names : HaveNames program.objects

-- the number of the file of a name in such a table, in the order of reading
abbrev pub number_in : {S : Type 0} → HashMap (Bor (List ℕ)) (List ℕ) S → List ℕ → Option ℕ
number_in held name = index_of_by (λ k. bytes_eq name k.now) held

-- each file has fewer than 2 ^ 32 bytes
abbrev pub AreSmall : List HeldFile → Type 0
AreSmall held = All (λ f. length f.bytes < 2 ^ 32) held
