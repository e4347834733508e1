-- Two ways to find addresses that agree on the names that stabs ask for give the same objects.
use Rattle.std.proofs.Common.{◌≡◌, ℕ, ◌+◌, not, true, ◌&&◌, List, [], ◌∷◌, Option, Some, Result, Ok, refl, ap}
use Rattle.std.specs.Cmp.Lexicographic.{bytes_decides}
use Rattle.std.specs.List.{All, prefix_len}
use Rattle.std.specs.Option.{option_map}
use Rattle.std.specs.Str.{bytes_eq, is_utf8}
use Rattle.std.proofs.lemmas.Bool.{and_from, or_left, or_right}
use Rattle.std.proofs.lemmas.List.Elements.{All-nil, All-cons, All-head, All-tail, All-take}
use Rattle.ds_base.specs.declared.fault.Fault.{Fault}
use Rattle.ds_base.specs.declared.fault.Kind.TheVariants as kinds
use Rattle.ds_base.specs.Reading.{◌>>=◌, refuse_if}
use Rattle.macho_read.specs.declared.image.Symbol.{Symbol}
use Rattle.stab_map.specs.declared.object.MapEntry.{MapEntry}
use Rattle.stab_map.specs.declared.stab.Stab.{Stab}
use Rattle.stab_map.specs.declared.stab.Stab.TheVariants as stabs
use Rattle.stab_map.specs.Addresses.{is_asked}
use Rattle.stab_map.specs.DebugMap.{map_fault, gather, variable, entry_by, entry_at, stretch, object_of, object_by, object_at}
use Rattle.stab_map.specs.Stab.{asks, is_bound, stab_of}

module _ (f g : List ℕ → Option ℕ) where
  abbrev Agrees : Symbol → Type 0
  Agrees s = asks (stab_of s) ≡ true → f s.name ≡ g s.name

  each_agrees : (symbols : List Symbol) → ((name : List ℕ) → is_asked symbols name ≡ true → f name ≡ g name) → All Agrees symbols
  each_agrees [] agree = All-nil Agrees
  each_agrees (s ∷ rest) agree =
      All-cons Agrees s rest
      (λ asking. agree s.name (or_left (asks (stab_of s) && bytes_eq s.name s.name) (is_asked rest s.name) (and_from (asks (stab_of s)) (bytes_eq s.name s.name) asking ((bytes_decides s.name s.name).1 refl))))
      (each_agrees rest (λ name asked. agree name (or_right (asks (stab_of s) && bytes_eq s.name name) (is_asked rest name) asked)))

  entry_same : (k : Stab) (i : ℕ) (s : Symbol) (rest : List Symbol) → (asks k ≡ true → f s.name ≡ g s.name) → entry_by f k i s rest ≡ entry_by g k i s rest
  entry_same stabs.Global i s rest same = ap (λ (found : Option ℕ). Ok (option_map (λ a. variable s a) found)) (same refl)
  entry_same stabs.Object i s rest same = refl
  entry_same stabs.End i s rest same = refl
  entry_same stabs.Function i s rest same = refl
  entry_same stabs.Size i s rest same = refl
  entry_same stabs.Static i s rest same = refl
  entry_same stabs.Silent i s rest same = refl
  entry_same stabs.Other i s rest same = refl

  entries_same : (i : ℕ) (symbols : List Symbol) → All Agrees symbols → gather (entry_at f) i symbols ≡ gather (entry_at g) i symbols
  entries_same i [] all = refl
  entries_same i (s ∷ rest) all =
      rw (entry_same (stab_of s) i s rest (All-head Agrees s rest all), entries_same (i + 1) rest (All-tail Agrees s rest all)) refl

  object_same : (k : Stab) (i : ℕ) (s : Symbol) (rest : List Symbol) → All Agrees rest → object_by f k i s rest ≡ object_by g k i s rest
  object_same stabs.Object i s rest all =
      ap (λ (entries : Result (List MapEntry) Fault). refuse_if (not (is_utf8 s.name)) (map_fault kinds.BadPath i) >>= λ u. entries >>= λ es. Ok (Some (object_of s.name es)))
      (entries_same (i + 1) (stretch rest) (All-take Agrees (prefix_len (λ s. not (is_bound (stab_of s))) rest) rest all))
  object_same stabs.End i s rest all = refl
  object_same stabs.Function i s rest all = refl
  object_same stabs.Size i s rest all = refl
  object_same stabs.Static i s rest all = refl
  object_same stabs.Global i s rest all = refl
  object_same stabs.Silent i s rest all = refl
  object_same stabs.Other i s rest all = refl

  objects_same : (i : ℕ) (symbols : List Symbol) → All Agrees symbols → gather (object_at f) i symbols ≡ gather (object_at g) i symbols
  objects_same i [] all = refl
  objects_same i (s ∷ rest) all =
      rw (object_same (stab_of s) i s rest (All-tail Agrees s rest all), objects_same (i + 1) rest (All-tail Agrees s rest all)) refl

  pub same_objects : (symbols : List Symbol) → ((name : List ℕ) → is_asked symbols name ≡ true → f name ≡ g name) → gather (object_at f) 0 symbols ≡ gather (object_at g) 0 symbols
  same_objects symbols agree = objects_same 0 symbols (each_agrees symbols agree)
