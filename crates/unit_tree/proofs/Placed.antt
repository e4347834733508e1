-- Bytes that were passed between two spots, and readers that say where they end.
use Rattle.std.proofs.Common.{◌≡◌, ℕ, ◌+◌, List, [], ◌++◌, length, Result, Ok, refl, sym, ap, subst, ◌∙◌, append_assoc, arith}
use Rattle.std.proofs.lemmas.List.{length-append}
use Rattle.ds_base.specs.declared.fault.Fault.{Fault}
use Rattle.ds_base.specs.Spot.{Spot, rest}
use Rattle.ds_base.specs.Reading.{number_at, uleb_at}
use Rattle.dwarf_types.specs.Spelled.{IsUleb, IsNumber}
use Rattle.dwarf_types.proofs.Readers.{Stands, Reader, length_rest, stands_after, number_reader, uleb_reader}
use Rattle.ds_base.proofs.Onward.{Onward, end_kept, number_onward, uleb_onward}

-- from s to t stand some bytes
pub record Passed (bytes : List ℕ) (s t : Spot) : Type 0 where
  pub parts : rest s ≡ bytes ++ rest t
  pub stands : Stands t
  pub place : t.place ≡ s.place + length bytes
  pub end : t.end ≡ s.end

pub passed_nothing : (s : Spot) → Stands s → Passed [] s s
passed_nothing s h = record { parts = refl; stands = h; place = omega arith; end = refl }

pub passed_then : (xs ys : List ℕ) (s t u : Spot) → Passed xs s t → Passed ys t u → Passed (xs ++ ys) s u
passed_then xs ys s t u a b =
    record {
      parts = a.parts ∙ ap (λ (zs : List ℕ). xs ++ zs) b.parts ∙ sym (append_assoc xs ys (rest u));
      stands = b.stands;
      place = omega (arith, a.place, b.place, length-append xs ys);
      end = b.end ∙ a.end;
    }

pub stands_on : (s t : Spot) → Stands s → Onward s t → Stands t
stands_on s t h o = subst Stands (sym o.is) (stands_after s o.by h o.fits)

-- a reader went onward and left what follows some bytes
pub passed_by : (bytes : List ℕ) (s t : Spot) → Stands s → Onward s t → rest s ≡ bytes ++ rest t → Passed bytes s t
passed_by bytes s t h o parts =
    let place = h.place in
    let there : t.place ≡ s.place + o.by = ap (λ (x : Spot). x.place) o.is in
    let end = end_kept s t o in
    let stands = stands_on s t h o in
    record {
      parts = parts;
      stands = stands;
      place = omega (arith, there, end, o.fits, place.before_end, length_rest s h, length_rest t stands, ap length parts, length-append bytes (rest t));
      end = end;
    }

-- what was read is spelled by the bytes that were passed
pub record TakenBy {A : Type 0} (Spells : List ℕ → A → Type 0) (s : Spot) (y : A × Spot) : Type 0 where
  pub bytes : List ℕ
  pub spells : Spells bytes y.0
  pub passed : Passed bytes s y.1

taken_by : {A : Type 0} (read : Spot → Result (A × Spot) Fault) (Spells : List ℕ → A → Type 0) → Reader read Spells → (s : Spot) (y : A × Spot) → Stands s → Onward s y.1 → read s ≡ Ok y → TakenBy Spells s y
taken_by read Spells r s y h o e =
    let t = r.takes s y.0 y.1 h e in
    record { bytes = t.bytes; spells = t.spells; passed = passed_by t.bytes s y.1 h o t.parts }

-- reading passes some bytes and gives a value, and more is left
pub record Goes {A : Type 0} (read : Spot → Result (A × Spot) Fault) (s : Spot) (bytes : List ℕ) (a : A) (more : List ℕ) : Type 0 where
  pub next : Spot
  pub reads : read s ≡ Ok (a, next)
  pub passed : Passed bytes s next
  pub left : rest next ≡ more

goes : {A : Type 0} (read : Spot → Result (A × Spot) Fault) (Spells : List ℕ → A → Type 0) → Reader read Spells → ((s : Spot) (y : A × Spot) → read s ≡ Ok y → Onward s y.1) → (s : Spot) (bytes : List ℕ) (a : A) (more : List ℕ) → Stands s
    → Spells bytes a → rest s ≡ bytes ++ more → Goes read s bytes a more
goes read Spells r onward s bytes a more h spells parts =
    let g = r.again s bytes a more h spells parts in
    record { next = g.next; reads = g.reads; passed = passed_by bytes s g.next h (onward s (a, g.next) g.reads) (parts ∙ ap (λ (zs : List ℕ). bytes ++ zs) (sym g.left)); left = g.left }

pub uleb_taken : (s : Spot) (y : ℕ × Spot) → Stands s → uleb_at s ≡ Ok y → TakenBy IsUleb s y
uleb_taken s y h e = taken_by uleb_at IsUleb uleb_reader s y h (uleb_onward s y e) e

pub uleb_goes : (s : Spot) (bytes : List ℕ) (n : ℕ) (more : List ℕ) → Stands s → IsUleb bytes n → rest s ≡ bytes ++ more → Goes uleb_at s bytes n more
uleb_goes s bytes n more h spells parts = goes uleb_at IsUleb uleb_reader uleb_onward s bytes n more h spells parts

pub number_taken : (width : ℕ) (s : Spot) (y : ℕ × Spot) → Stands s → number_at width s ≡ Ok y → TakenBy (IsNumber width) s y
number_taken width s y h e = taken_by (number_at width) (IsNumber width) (number_reader width) s y h (number_onward width s y e) e

pub number_goes : (width : ℕ) (s : Spot) (bytes : List ℕ) (n : ℕ) (more : List ℕ) → Stands s → IsNumber width bytes n → rest s ≡ bytes ++ more → Goes (number_at width) s bytes n more
number_goes width s bytes n more h spells parts = goes (number_at width) (IsNumber width) (number_reader width) (number_onward width) s bytes n more h spells parts
