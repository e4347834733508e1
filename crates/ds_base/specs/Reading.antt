-- Reading from where a cursor stands: an item is the value and the spot behind it, or the first fault.
use Rattle.std.specs.Prelude.{◌≡◌, ℕ, zero, suc, ◌+◌, ◌-◌, ◌^◌, ℤ, Bool, List, [], ◌∷◌, ◌++◌, length, take, drop, Option, Some, None, Result, Ok, Err, nat_lt, if◌then◌else◌}
use Rattle.std.specs.Option.{option_map}
use Rattle.byteorder.specs.Endian.{little_number}
use Rattle.ds_base.specs.declared.fault.Fault.{Fault}
use Rattle.ds_base.specs.declared.fault.Kind.TheVariants.{BadOffset, LebTooWide, Truncated}
use Rattle.ds_base.specs.declared.fault.ReadError.{ReadError}
use Rattle.ds_base.specs.declared.fault.ReadError.TheVariants as errors
use Rattle.ds_base.specs.Spot.{Spot, rest, after, fault_at}
use Rattle.ds_base.specs.Leb.{uleb_value, sleb_value, fits_i64}

-- first this, and then that of its value; the first fault ends it
infixl 10 ◌>>=◌
abbrev pub ◌>>=◌ : {A B : Type 0} → Result A Fault → (A → Result B Fault) → Result B Fault
(Ok x) >>= f = f x
(Err e) >>= f = Err e

abbrev pub refuse_if : Bool → Fault → Result (Unit {0}) Fault
refuse_if b f = if b then Err f else Ok tt

abbrev pub or_fault : {A : Type 0} → Option A → Fault → Result A Fault
or_fault (Some x) f = Ok x
or_fault None f = Err f

-- all was read, unless a fault stopped it
abbrev pub unless_stopped : Option Fault → Result (Unit {0}) Fault
unless_stopped None = Ok tt
unless_stopped (Some f) = Err f

-- the place of the first byte below a limit
abbrev pub index_below : ℕ → List ℕ → Option ℕ
index_below limit [] = None
index_below limit (b ∷ bs) = if nat_lt b limit then Some 0 else option_map suc (index_below limit bs)

-- the next n bytes
unfoldable pub bytes_at : ℕ → Spot → Result (List ℕ × Spot) Fault
bytes_at n s = if nat_lt (s.end - s.place) n then Err (fault_at s Truncated) else Ok (take n (rest s), after s n)

-- the number that the next n bytes spell, the lowest byte first
unfoldable pub number_at : ℕ → Spot → Result (ℕ × Spot) Fault
number_at n s = if nat_lt (s.end - s.place) n then Err (fault_at s Truncated) else Ok (little_number n (rest s), after s n)

-- the bytes before the next zero byte, the only one below 1, which is passed over
unfoldable pub text_at : Spot → Result (List ℕ × Spot) Fault
text_at s = do
  n ← or_fault (index_below 1 (rest s)) (fault_at s Truncated)
  Ok (take n (rest s), after s (n + 1))

-- the text that begins at a place of a section, if it ends there
unfoldable pub text_of : List ℕ → ℕ → Option (List ℕ)
text_of section place = let tail = drop place section in option_map (λ n. take n tail) (index_below 1 tail)

-- the text whose place in a section stands next
unfoldable pub placed_text_at : List ℕ → Spot → Result (List ℕ × Spot) Fault
placed_text_at section s = do
  place ← number_at 4 s
  text ← or_fault (text_of section place.0) (fault_at s BadOffset)
  Ok (text, place.1)

-- the bytes of the next LEB number: up to the first below 128 and with it
unfoldable pub leb_at : Spot → Result (List ℕ) Fault
leb_at s = do
  n ← or_fault (index_below 128 (rest s)) (fault_at s Truncated)
  Ok (take (n + 1) (rest s))

unfoldable pub uleb_at : Spot → Result (ℕ × Spot) Fault
uleb_at s = do
  bytes ← leb_at s
  if nat_lt (uleb_value bytes) (2 ^ 64) then Ok (uleb_value bytes, after s (length bytes)) else Err (fault_at s LebTooWide)

unfoldable pub sleb_at : Spot → Result (ℤ × Spot) Fault
sleb_at s = do
  bytes ← leb_at s
  if fits_i64 (sleb_value bytes) then Ok (sleb_value bytes, after s (length bytes)) else Err (fault_at s LebTooWide)

-- What a call answered, seen by view, is what reading gives, and the cursor stands behind it. At a fault it stands where it stood.
abbrev pub Moves : {X Y : Type 0} → (X → Y) → Result X Fault → Spot → Spot → Result (Y × Spot) Fault → Type 0
Moves view (Ok x) old new read = read ≡ Ok (view x, new)
Moves view (Err f) old new read = (read ≡ Err f) × (new ≡ old)

-- the same, and nothing is said of the cursor at a fault
abbrev pub Reads : {X Y : Type 0} → (X → Y) → Result X Fault → Spot → Result (Y × Spot) Fault → Type 0
Reads view (Ok x) new read = read ≡ Ok (view x, new)
Reads view (Err f) new read = read ≡ Err f

-- What a call answered is what reading gives, and the cursor stands behind it, unless memory ran out. Nothing is said of the cursor where it refuses.
abbrev pub ReadsUnlessFull : {X Y : Type 0} → (X → Y) → Result X ReadError → Spot → Result (Y × Spot) Fault → Type 0
ReadsUnlessFull view (Ok x) new read = read ≡ Ok (view x, new)
ReadsUnlessFull view (Err (errors.Faulty f)) new read = read ≡ Err f
ReadsUnlessFull view (Err errors.NoMemory) new read = Unit {0}

-- What a call answered, seen by view, is what the bytes mean.
abbrev pub Finds : {X Y : Type 0} → (X → Y) → Result X Fault → Result Y Fault → Type 0
Finds view (Ok x) read = read ≡ Ok (view x)
Finds view (Err f) read = read ≡ Err f

-- What a call answered, seen by view, is what reading all of some bytes gives, unless memory ran out.
abbrev pub Gives : {X Y : Type 0} → (X → Y) → Result X ReadError → Result Y Fault → Type 0
Gives view (Ok x) read = read ≡ Ok (view x)
Gives view (Err (errors.Faulty f)) read = read ≡ Err f
Gives view (Err errors.NoMemory) read = Unit {0}

-- So many items one after the other, put behind those before. A reader's state is where its cursor stands, or more.
abbrev pub items_at : {A S : Type 0} → (S → Result (A × S) Fault) → ℕ → List A → S → Result (List A × S) Fault
items_at read zero before s = Ok (before, s)
items_at read (suc count) before s = read s >>= λ item. items_at read count (before ++ item.0 ∷ []) item.1
