-- The debug map of a program (mach-o/stab.h): what its symbols say of the objects that it was linked from.
use Rattle.std.specs.Prelude.{◌≡◌, ℕ, ◌+◌, not, List, [], ◌∷◌, length, Option, Some, None, Result, Ok, Err, nat_lt, if◌then◌else◌}
use Rattle.std.specs.List.{find, before_first, cons_option, Contains}
use Rattle.std.specs.Option.{option_map, option_and_then}
use Rattle.std.specs.Str.{is_utf8}
use Rattle.ds_base.specs.declared.fault.Fault.{Fault}
use Rattle.ds_base.specs.declared.fault.Kind.{Kind}
use Rattle.ds_base.specs.declared.fault.Kind.TheVariants as kinds
use Rattle.ds_base.specs.declared.fault.Part.TheVariants as parts
use Rattle.ds_base.specs.declared.fault.ReadError.{ReadError}
use Rattle.ds_base.specs.declared.fault.ReadError.TheVariants as read_errors
use Rattle.ds_base.specs.Reading.{◌>>=◌, refuse_if, or_fault}
use Rattle.macho_read.specs.declared.image.Image.{Image}
use Rattle.macho_read.specs.declared.image.Symbol.{Symbol}
use Rattle.stab_map.specs.declared.object.MapEntry.{MapEntry}
use Rattle.stab_map.specs.declared.object.MapObject.{MapObject}
use Rattle.stab_map.specs.declared.object.MapError.{MapError}
use Rattle.stab_map.specs.declared.object.MapError.TheVariants as errors
use Rattle.stab_map.specs.declared.stab.Stab.{Stab}
use Rattle.stab_map.specs.declared.stab.Stab.TheVariants as stabs
use Rattle.stab_map.specs.Stab.{stab_of, is_used, is_bound, size_in}
use Rattle.stab_map.specs.Origin.{origin_of}
use Rattle.stab_map.specs.Addresses.{address_of}

-- the symbol of an index
abbrev pub map_fault : Kind → ℕ → Fault
map_fault kind index = record { kind = kind; section = parts.Map; place = index }

-- what the items of a list give, each seen with its index and the items behind it; one that gives nothing is passed over, and the first fault ends it
abbrev pub gather : {X Y : Type 0} → (ℕ → X → List X → Result (Option Y) Fault) → ℕ → List X → Result (List Y) Fault
gather read index [] = Ok []
gather read index (x ∷ rest) = do
  found ← read index x rest
  others ← gather read (index + 1) rest
  Ok (cons_option found others)

-- ---- the entries of an object

abbrev pub variable : Symbol → ℕ → MapEntry
variable s address = record { name = s.name; linked = address; size = None }

abbrev pub function : List ℕ → ℕ → ℕ → MapEntry
function name address size = record { name = name; linked = address; size = Some size }

-- The size of the function before some symbols: the first of them that is a stab of the six kinds tells it. Where they end with their object, the next such stab opens or ends an object and tells none.
abbrev pub size_after : List Symbol → Option ℕ
size_after rest = option_and_then (λ s. size_in (stab_of s) s.value) (find (λ s. is_used (stab_of s)) rest)

-- the entry of a symbol with those behind it in its object, by what it says; a global variable lies at the address of its name
abbrev pub entry_by : (List ℕ → Option ℕ) → Stab → ℕ → Symbol → List Symbol → Result (Option MapEntry) Fault
entry_by address stabs.Function index s rest = or_fault (size_after rest) (map_fault kinds.BadStab index) >>= λ size. Ok (Some (function s.name s.value size))
entry_by address stabs.Static index s rest = Ok (Some (variable s s.value))
entry_by address stabs.Global index s rest = Ok (option_map (λ found. variable s found) (address s.name))
entry_by address _ index s rest = Ok None

abbrev pub entry_at : (List ℕ → Option ℕ) → ℕ → Symbol → List Symbol → Result (Option MapEntry) Fault
entry_at address index s rest = entry_by address (stab_of s) index s rest

-- ---- the objects

-- the symbols of an object, of those behind the stab that opens it: all before an N_OSO, or an N_SO without a name
abbrev pub stretch : List Symbol → List Symbol
stretch rest = before_first (λ s. is_bound (stab_of s)) rest

abbrev pub object_of : List ℕ → List MapEntry → MapObject
object_of path entries = record { path = path; file = (origin_of path).file; member = (origin_of path).member; entries = entries }

-- the object that a symbol opens, if it opens one: its entries are those of its stretch
abbrev pub object_by : (List ℕ → Option ℕ) → Stab → ℕ → Symbol → List Symbol → Result (Option MapObject) Fault
object_by address stabs.Object index s rest = do
  _ ← refuse_if (not (is_utf8 s.name)) (map_fault kinds.BadPath index)
  entries ← gather (entry_at address) (index + 1) (stretch rest)
  Ok (Some (object_of s.name entries))
object_by address _ index s rest = Ok None

abbrev pub object_at : (List ℕ → Option ℕ) → ℕ → Symbol → List Symbol → Result (Option MapObject) Fault
object_at address index s rest = object_by address (stab_of s) index s rest

-- all objects, or the first fault in the order of the symbols
unfoldable pub objects_of : Image → Result (List MapObject) Fault
objects_of image = gather (object_at (address_of image)) 0 image.symbols

-- ---- the map

-- how many objects are too many
abbrev pub max_objects : ℕ
max_objects = 65536

abbrev pub limited : Result (List MapObject) Fault → Result (List MapObject) MapError
limited (Err fault) = Err (errors.Faulty fault)
limited (Ok objects) = if nat_lt (length objects) max_objects then Ok objects else Err errors.Objects

-- the map of a program: its objects, or the first fault, or that they are too many
abbrev pub map_of : Image → Result (List MapObject) MapError
map_of image = limited (objects_of image)

-- What a call answered is the map, or why there is none, unless memory ran out.
abbrev pub Answers : Result (List MapObject) MapError → Result (List MapObject) MapError → Type 0
Answers (Ok objects) map = map ≡ Ok objects
Answers (Err (errors.Faulty fault)) map = map ≡ Err (errors.Faulty fault)
Answers (Err errors.Objects) map = map ≡ Err errors.Objects
Answers (Err errors.NoMemory) map = Unit {0}

abbrev pub as_map_error : ReadError → MapError
as_map_error (read_errors.Faulty fault) = errors.Faulty fault
as_map_error read_errors.NoMemory = errors.NoMemory

-- a program has no map: for a fault of one of these kinds, or since its objects are too many
abbrev pub IsRefusal : MapError → Type 0
IsRefusal (errors.Faulty fault) = Contains (kinds.BadStab ∷ kinds.BadPath ∷ []) fault.kind
IsRefusal errors.Objects = Unit {0}
IsRefusal errors.NoMemory = ⊥
