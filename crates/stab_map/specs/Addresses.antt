-- Where the symbols of a program lie that are defined in one of its sections (mach-o/nlist.h).
use Rattle.std.specs.Prelude.{ℕ, ◌&&◌, Bool, List, Option}
use Rattle.std.specs.List.{find, list_any}
use Rattle.std.specs.Option.{option_map}
use Rattle.std.specs.HashMap.{HashMap, get_by}
use Rattle.std.specs.HashSet.{HashSet, contains_by}
use Rattle.std.specs.Str.{bytes_eq}
use Rattle.ds_base.specs.declared.text_key.TextKey.{TextKey}
use Rattle.macho_read.specs.declared.image.Image.{Image}
use Rattle.macho_read.specs.declared.image.Symbol.{Symbol}
use Rattle.macho_read.specs.Standings.{is_defined}
use Rattle.stab_map.specs.Stab.{asks, stab_of}

-- the value of the first of some symbols of an image that is defined in one of its sections and has the name
abbrev pub address_among : Image → List Symbol → List ℕ → Option ℕ
address_among image symbols name = option_map (λ s. s.value) (find (λ s. is_defined image s && bytes_eq s.name name) symbols)

-- where the name's symbol lies in the program, if it is defined there
abbrev pub address_of : Image → List ℕ → Option ℕ
address_of image name = address_among image image.symbols name

-- whether a stab among some symbols asks for the address of the name
abbrev pub is_asked : List Symbol → List ℕ → Bool
is_asked symbols name = list_any (λ s. asks (stab_of s) && bytes_eq s.name name) symbols

-- whether the name is one of some names
abbrev pub has_name : {S : Type 0} → HashSet TextKey S → List ℕ → Bool
has_name names name = contains_by (λ key. bytes_eq name key.text.now) names

-- what a table of addresses has of a name
abbrev pub address_in : {S : Type 0} → HashMap TextKey ℕ S → List ℕ → Option ℕ
address_in addresses name = get_by (λ key. bytes_eq name key.text.now) addresses
