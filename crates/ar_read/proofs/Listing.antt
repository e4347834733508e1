-- The members of an archive from a place on: they end with it, with a fault, or go on behind the first of them.
use Rattle.std.proofs.Common.{◌≡◌, ℕ, zero, suc, ◌+◌, ◌-◌, ◌<◌, ◌≤◌, Bool, true, false, List, [], length, drop, nat_le, Some, None, Result, Ok, Err, if◌then◌else◌, cond, refl, ap, ◌∙◌, arith, inl, inr}
use Rattle.std.specs.List.{find}
use Rattle.std.specs.Str.{bytes_eq}
use Rattle.std.proofs.lemmas.Bool.{le-leb, lt-leb, leb-false, cases_Bool}
use Rattle.ds_base.specs.declared.fault.Fault.{Fault}
use Rattle.ds_base.specs.declared.fault.Kind.TheVariants as kinds
use Rattle.ar_read.specs.Header.{archive_fault, member_at, Named}
use Rattle.ar_read.specs.Archive.{Listing, Placed, content_of, found_in, listed, member_size, members_from, members_of}

listed_same : (place : ℕ) (one : Result Named Fault) (f g : Named → Listing) → ((m : Named) → f m ≡ g m) → listed place one f ≡ listed place one g
listed_same place (Ok m) f g same = ap (λ (l : Listing). listed place (Ok m) (λ n. l)) (same m)
listed_same place (Err e) f g same = refl

-- how great the count is doesn't matter, if only it is greater than the number of bytes that are left
enough : (a b : ℕ) (bytes : List ℕ) (place : ℕ) → length bytes - place < a → length bytes - place < b → members_from a bytes place ≡ members_from b bytes place
unfolding members_from
enough zero b bytes place la lb = absurd (omega arith)
enough (suc a) zero bytes place la lb = absurd (omega arith)
enough (suc a) (suc b) bytes place la lb = elim (cases_Bool (nat_le (length bytes) place)) [
  | inl end ↦ rw end refl
  | inr more ↦
      let lt : place < length bytes = leb-false (length bytes) place more in
      rw more (listed_same place (member_at place (drop place bytes)) (λ m. members_from a bytes (place + member_size m.size)) (λ m. members_from b bytes (place + member_size m.size))
      (λ m. enough a b bytes (place + member_size m.size) (omega arith) (omega arith)))
]

-- those from a place on
unfoldable pub from_place : List ℕ → ℕ → Listing
from_place bytes place = members_from (suc (length bytes - place)) bytes place

pub all_members : (bytes : List ℕ) → members_of bytes ≡ from_place bytes 8
unfolding from_place
all_members bytes = enough (suc (length bytes)) (suc (length bytes - 8)) bytes 8 (omega arith) (omega arith)

pub go_on : (bytes : List ℕ) (place : ℕ) → place < length bytes → from_place bytes place ≡ listed place (member_at place (drop place bytes)) (λ m. from_place bytes (place + member_size m.size))
unfolding from_place members_from
go_on bytes place lt =
    rw (lt-leb (length bytes) place lt)
    (listed_same place (member_at place (drop place bytes)) (λ m. members_from (length bytes - place) bytes (place + member_size m.size)) (λ m. from_place bytes (place + member_size m.size))
    (λ m. enough (length bytes - place) (suc (length bytes - (place + member_size m.size))) bytes (place + member_size m.size) (omega arith) (omega arith)))

pub at_end : (bytes : List ℕ) (place : ℕ) → length bytes ≤ place → from_place bytes place ≡ record { members = []; stop = None }
unfolding from_place members_from
at_end bytes place le = rw (le-leb (length bytes) place le) refl

-- ---- the member of a name among them

by_name : (b : Bool) (m : Placed) (more : Listing) (name : List ℕ) → bytes_eq m.member.name name ≡ b
    → content_of (cond b (Some m) (find (λ m. bytes_eq m.member.name name) more.members)) more.stop ≡ (if b then Ok m.member.content else found_in name more)
by_name true m more name is = refl
by_name false m more name is = refl

-- at a member it is that, or what is found behind it
pub found_step : (bytes name : List ℕ) (place : ℕ) (m : Named) → place < length bytes → member_at place (drop place bytes) ≡ Ok m
    → found_in name (from_place bytes place) ≡ (if bytes_eq m.name name then Ok m.content else found_in name (from_place bytes (place + member_size m.size)))
found_step bytes name place m lt is =
    ap (found_in name) (go_on bytes place lt)
    ∙ ap (λ (one : Result Named Fault). found_in name (listed place one (λ m. from_place bytes (place + member_size m.size)))) is
    ∙ by_name (bytes_eq m.name name) (record { place = place; member = m }) (from_place bytes (place + member_size m.size)) name refl

-- at a fault it is that
pub found_fault : (bytes name : List ℕ) (place : ℕ) (f : Fault) → place < length bytes → member_at place (drop place bytes) ≡ Err f → found_in name (from_place bytes place) ≡ Err f
found_fault bytes name place f lt is =
    ap (found_in name) (go_on bytes place lt) ∙ ap (λ (one : Result Named Fault). found_in name (listed place one (λ m. from_place bytes (place + member_size m.size)))) is

-- at the archive's end there is none
pub found_end : (bytes name : List ℕ) (place : ℕ) → length bytes ≤ place → found_in name (from_place bytes place) ≡ Err (archive_fault kinds.NoMember 0)
found_end bytes name place le = ap (found_in name) (at_end bytes place le)
