-- An archive, and the member of a name or the fault.
use Rattle.std.proofs.Common.{◌≡◌, ℕ, List, [], ◌∷◌, ◌++◌, take, Ok, Err, refl}
use Rattle.std.specs.Prelude.{codes}
use Rattle.ds_base.specs.declared.fault.Fault.{Fault}
use Rattle.ds_base.specs.declared.fault.Kind.{Kind}
use Rattle.ds_base.specs.declared.fault.Kind.TheVariants as kinds
use Rattle.ds_base.specs.declared.fault.Part.TheVariants as parts
use Rattle.ar_read.specs.Number.{number_of}
use Rattle.ar_read.specs.Header.{member_at, named_at}
use Rattle.ar_read.specs.Archive.{member_of, members_from}
use Rattle.file_tests.specs.declared.archive.TheConstants.{ARCHIVE}

-- what a look-up computes with
look_up : List ℕ → List ℕ → Unit {0}
unfolding member_of members_from member_at named_at number_of
look_up archive name = tt

abbrev fault : Kind → ℕ → Fault
fault kind place = record { kind = kind; section = parts.Archive; place = place }

-- ---- the first member of a name

a_long_name : member_of ARCHIVE (codes "x.o") ≡ Ok (codes "0123456789abcdef0123456789ABCDEF")
unfolding look_up
a_long_name = refl

an_odd_size : member_of ARCHIVE (codes "a.o") ≡ Ok (codes "one")
unfolding look_up
an_odd_size = refl

a_size_with_leading_zeros : member_of ARCHIVE (codes "b.o") ≡ Ok (codes "four")
unfolding look_up
a_size_with_leading_zeros = refl

-- ---- no member of a name

behind_the_fault : member_of ARCHIVE (codes "d.o") ≡ Err (fault kinds.BadMember 296)
unfolding look_up
behind_the_fault = refl

without_the_fault : member_of (take 296 ARCHIVE) (codes "d.o") ≡ Err (fault kinds.NoMember 0)
unfolding look_up
without_the_fault = refl

without_the_last_byte_before_it : member_of (take 295 ARCHIVE) (codes "d.o") ≡ Err (fault kinds.BadMember 232)
unfolding look_up
without_the_last_byte_before_it = refl

the_magic_alone : member_of (take 8 ARCHIVE) (codes "d.o") ≡ Err (fault kinds.NoMember 0)
unfolding look_up
the_magic_alone = refl

the_magic_without_its_last_byte : member_of (take 7 ARCHIVE) (codes "d.o") ≡ Err (fault kinds.NotArchive 0)
unfolding look_up
the_magic_without_its_last_byte = refl

a_name_with_the_zero_that_pads_it : member_of (take 296 ARCHIVE) (codes "x.o" ++ 0 ∷ []) ≡ Err (fault kinds.NoMember 0)
unfolding look_up
a_name_with_the_zero_that_pads_it = refl
