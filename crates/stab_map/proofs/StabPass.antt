-- The pass over the symbols: what one more of them makes of the map.
use Rattle.std.proofs.Common.{◌≡◌, ℕ, suc, ◌+◌, ◌⊎◌, inl, inr, not, Bool, true, false, cond, List, [], ◌∷◌, ◌++◌, take, Option, None, Some, Result, Ok, Err, refl, ap, ◌∙◌, arith, append_assoc, append-nil}
use Rattle.std.specs.List.{prefix_len, cons_option}
use Rattle.std.specs.Str.{is_utf8}
use Rattle.ds_base.specs.declared.fault.Fault.{Fault}
use Rattle.ds_base.specs.declared.fault.Kind.TheVariants as kinds
use Rattle.ds_base.specs.Reading.{◌>>=◌, refuse_if, or_fault}
use Rattle.macho_read.specs.declared.image.Symbol.{Symbol}
use Rattle.stab_map.specs.declared.object.MapEntry.{MapEntry}
use Rattle.stab_map.specs.declared.object.MapObject.{MapObject}
use Rattle.stab_map.specs.declared.stab.Stab.{Stab}
use Rattle.stab_map.specs.declared.stab.Stab.TheVariants as stabs
use Rattle.stab_map.specs.declared.pass.State.TheVariants as states
use Rattle.stab_map.specs.Addresses.{is_asked}
use Rattle.stab_map.specs.Stab.{stab_of, is_used, is_bound, size_in}
use Rattle.stab_map.specs.DebugMap.{map_fault, gather, variable, function, size_after, entry_by, entry_at, stretch, object_of, object_by, object_at}
use Rattle.stab_map.specs.Pass.{map_inside, map_from, opened}
use Rattle.stab_map.proofs.Agreeing.{same_objects}

-- ---- gathering what items give

bind_self : {A : Type 0} (r : Result A Fault) → (r >>= λ x. Ok x) ≡ r
bind_self (Ok x) = refl
bind_self (Err f) = refl

module _ {X Y : Type 0} (read : ℕ → X → List X → Result (Option Y) Fault) (i : ℕ) (x : X) (rest : List X) where
  gather_none : read i x rest ≡ Ok None → gather read i (x ∷ rest) ≡ gather read (i + 1) rest
  gather_none e = rw e (bind_self (gather read (i + 1) rest))

  gather_some : (y : Y) → read i x rest ≡ Ok (Some y) → gather read i (x ∷ rest) ≡ (gather read (i + 1) rest >>= λ ys. Ok (y ∷ ys))
  gather_some y e = rw e refl

  gather_fault : (f : Fault) → read i x rest ≡ Err f → gather read i (x ∷ rest) ≡ Err f
  gather_fault f e = rw e refl

-- ---- the stretch of an object

stretch_by : (s : Symbol) (rest : List Symbol) (bound : Bool)
    → take (cond (not bound) (1 + prefix_len (λ s. not (is_bound (stab_of s))) rest) 0) (s ∷ rest) ≡ cond bound [] (s ∷ stretch rest)
stretch_by s rest true = refl
stretch_by s rest false =
    let more : 1 + prefix_len (λ s. not (is_bound (stab_of s))) rest ≡ suc (prefix_len (λ s. not (is_bound (stab_of s))) rest) = omega arith in
    rw more refl

stretch_ends : (s : Symbol) (rest : List Symbol) → is_bound (stab_of s) ≡ true → stretch (s ∷ rest) ≡ []
stretch_ends s rest e = stretch_by s rest (is_bound (stab_of s)) ∙ rw e refl

stretch_goes_on : (s : Symbol) (rest : List Symbol) → is_bound (stab_of s) ≡ false → stretch (s ∷ rest) ≡ s ∷ stretch rest
stretch_goes_on s rest e = stretch_by s rest (is_bound (stab_of s)) ∙ rw e refl

-- ---- the size of a function

size_skips : (s : Symbol) (rest : List Symbol) → stab_of s ≡ stabs.Other → size_after (s ∷ rest) ≡ size_after rest
size_skips s rest e = rw e refl

size_found : (s : Symbol) (rest : List Symbol) → is_used (stab_of s) ≡ true → size_after (s ∷ rest) ≡ size_in (stab_of s) s.value
size_found s rest e = rw e refl

-- ---- a symbol in an object

module _ (address : List ℕ → Option ℕ) where
  -- one that opens no object
  objects_pass : (i : ℕ) (s : Symbol) (rest : List Symbol) (k : Stab) → stab_of s ≡ k → object_by address k i s rest ≡ Ok None
      → gather (object_at address) i (s ∷ rest) ≡ gather (object_at address) (i + 1) rest
  objects_pass i s rest k e passes = gather_none (object_at address) i s rest (rw e passes)

  module _ (objects : List MapObject) (path : List ℕ) (i : ℕ) (s : Symbol) (rest : List Symbol) where
    -- what is made of the entries to come and of the other objects
    abbrev Rest : List MapEntry → Result (List MapEntry) Fault → Result (List MapObject) Fault → Result (List MapObject) Fault
    Rest entries more others = more >>= λ es. others >>= λ os. Ok (objects ++ object_of path (entries ++ es) ∷ os)

    push_entry : (entries : List MapEntry) (e : MapEntry) (more : Result (List MapEntry) Fault) (others : Result (List MapObject) Fault)
        → Rest entries (more >>= λ es. Ok (e ∷ es)) others ≡ Rest (entries ++ e ∷ []) more others
    push_entry entries e (Err f) others = refl
    push_entry entries e (Ok es) others = rw (append_assoc entries (e ∷ []) es) refl

    inside_none : (entries : List MapEntry) → is_bound (stab_of s) ≡ false → object_at address i s rest ≡ Ok None → entry_at address i s (stretch rest) ≡ Ok None
        → map_inside address objects path entries i (s ∷ rest) ≡ map_inside address objects path entries (i + 1) rest
    inside_none entries goes passes none =
        rw (stretch_goes_on s rest goes, gather_none (entry_at address) i s (stretch rest) none, gather_none (object_at address) i s rest passes) refl

    inside_some : (entries : List MapEntry) (e : MapEntry) → is_bound (stab_of s) ≡ false → object_at address i s rest ≡ Ok None → entry_at address i s (stretch rest) ≡ Ok (Some e)
        → map_inside address objects path entries i (s ∷ rest) ≡ map_inside address objects path (entries ++ e ∷ []) (i + 1) rest
    inside_some entries e goes passes some =
        rw (stretch_goes_on s rest goes, gather_some (entry_at address) i s (stretch rest) e some, gather_none (object_at address) i s rest passes)
        (push_entry entries e (gather (entry_at address) (i + 1) (stretch rest)) (gather (object_at address) (i + 1) rest))

    -- a function, whose size is still to come
    pub inside_function : (entries : List MapEntry) → stab_of s ≡ stabs.Function
        → map_inside address objects path entries i (s ∷ rest)
        ≡ (or_fault (size_after (stretch rest)) (map_fault kinds.BadStab i) >>= λ size. map_inside address objects path (entries ++ function s.name s.value size ∷ []) (i + 1) rest)
    inside_function entries e = by (size_after (stretch rest)) refl
      where
        by : (size : Option ℕ) → size_after (stretch rest) ≡ size
            → map_inside address objects path entries i (s ∷ rest)
            ≡ (or_fault size (map_fault kinds.BadStab i) >>= λ size. map_inside address objects path (entries ++ function s.name s.value size ∷ []) (i + 1) rest)
        by (Some size) is = inside_some entries (function s.name s.value size) (rw e refl) (rw e refl) (rw (e, is) refl)
        by None is = rw (stretch_goes_on s rest (rw e refl), gather_fault (entry_at address) i s (stretch rest) (map_fault kinds.BadStab i) (rw (e, is) refl)) refl

    pub inside_static : (entries : List MapEntry) → stab_of s ≡ stabs.Static
        → map_inside address objects path entries i (s ∷ rest) ≡ map_inside address objects path (entries ++ variable s s.value ∷ []) (i + 1) rest
    inside_static entries e = inside_some entries (variable s s.value) (rw e refl) (rw e refl) (rw e refl)

    pub inside_global : (entries : List MapEntry) (found : ℕ) → stab_of s ≡ stabs.Global → address s.name ≡ Some found
        → map_inside address objects path entries i (s ∷ rest) ≡ map_inside address objects path (entries ++ variable s found ∷ []) (i + 1) rest
    inside_global entries found e is = inside_some entries (variable s found) (rw e refl) (rw e refl) (rw (e, is) refl)

    pub inside_unknown : (entries : List MapEntry) → stab_of s ≡ stabs.Global → address s.name ≡ None
        → map_inside address objects path entries i (s ∷ rest) ≡ map_inside address objects path entries (i + 1) rest
    inside_unknown entries e is = inside_none entries (rw e refl) (rw e refl) (rw (e, is) refl)

    -- a symbol that says nothing by itself
    pub inside_passed : (entries : List MapEntry) (k : Stab) → stab_of s ≡ k → is_bound k ≡ false → entry_by address k i s (stretch rest) ≡ Ok None
        → map_inside address objects path entries i (s ∷ rest) ≡ map_inside address objects path entries (i + 1) rest
    inside_passed entries k e goes none = inside_none entries (rw e goes) (rw e (by k goes)) (rw e none)
      where
        by : (k : Stab) → is_bound k ≡ false → object_by address k i s rest ≡ Ok None
        by stabs.Object goes = cc
        by stabs.End goes = cc
        by stabs.Function goes = refl
        by stabs.Size goes = refl
        by stabs.Static goes = refl
        by stabs.Global goes = refl
        by stabs.Silent goes = refl
        by stabs.Other goes = refl

    pub inside_silent : (entries : List MapEntry) (k : Stab) → stab_of s ≡ k → (k ≡ stabs.Size) ⊎ ((k ≡ stabs.Silent) ⊎ (k ≡ stabs.Other))
        → map_inside address objects path entries i (s ∷ rest) ≡ map_inside address objects path entries (i + 1) rest
    inside_silent entries k e (inl is) = inside_passed entries stabs.Size (e ∙ is) refl refl
    inside_silent entries k e (inr (inl is)) = inside_passed entries stabs.Silent (e ∙ is) refl refl
    inside_silent entries k e (inr (inr is)) = inside_passed entries stabs.Other (e ∙ is) refl refl

    -- the object ends
    close_object : (entries : List MapEntry) (others : Result (List MapObject) Fault)
        → Rest entries (Ok []) others ≡ (others >>= λ os. Ok (objects ++ object_of path entries ∷ [] ++ os))
    close_object entries (Err f) = refl
    close_object entries (Ok os) = rw (append-nil entries, append_assoc objects (object_of path entries ∷ []) os) refl

    pub inside_ends : (entries : List MapEntry) → is_bound (stab_of s) ≡ true
        → map_inside address objects path entries i (s ∷ rest) ≡ map_from address (objects ++ object_of path entries ∷ []) states.Outside i (s ∷ rest)
    inside_ends entries ends = rw (stretch_ends s rest ends) (close_object entries (gather (object_at address) i (s ∷ rest)))

  -- ---- a symbol outside of objects

  abbrev opened_by : Bool → ℕ → Symbol → Result (List ℕ × List MapEntry) Fault
  opened_by text i s = refuse_if (not text) (map_fault kinds.BadPath i) >>= λ u. Ok (s.name, [])

  module _ (objects : List MapObject) (i : ℕ) (s : Symbol) (rest : List Symbol) where
    pub outside_passed : (k : Stab) → stab_of s ≡ k → object_by address k i s rest ≡ Ok None
        → map_from address objects states.Outside i (s ∷ rest) ≡ map_from address objects states.Outside (i + 1) rest
    outside_passed k e passes = ap (λ (r : Result (List MapObject) Fault). r >>= λ others. Ok (objects ++ others)) (objects_pass i s rest k e passes)

    join_opened : (more : Result (List MapEntry) Fault) (others : Result (List MapObject) Fault)
        → ((more >>= λ es. Ok (Some (object_of s.name es))) >>= λ found. others >>= λ os. Ok (cons_option found os)) >>= (λ os. Ok (objects ++ os))
        ≡ (more >>= λ es. others >>= λ os. Ok (objects ++ object_of s.name es ∷ os))
    join_opened (Err f) others = refl
    join_opened (Ok es) (Err f) = refl
    join_opened (Ok es) (Ok os) = refl

    -- an object begins, or its path is refused
    pub outside_object : stab_of s ≡ stabs.Object → map_from address objects states.Outside i (s ∷ rest) ≡ (opened i s >>= λ o. map_inside address objects o.0 o.1 (i + 1) rest)
    unfolding opened
    outside_object e = rw e (by (is_utf8 s.name))
      where
        by : (text : Bool)
            → (((refuse_if (not text) (map_fault kinds.BadPath i) >>= λ u. gather (entry_at address) (i + 1) (stretch rest) >>= λ es. Ok (Some (object_of s.name es)))
            >>= λ found. gather (object_at address) (i + 1) rest >>= λ os. Ok (cons_option found os)) >>= λ os. Ok (objects ++ os))
            ≡ (opened_by text i s >>= λ o. map_inside address objects o.0 o.1 (i + 1) rest)
        by true = join_opened (gather (entry_at address) (i + 1) (stretch rest)) (gather (object_at address) (i + 1) rest)
        by false = refl

  -- ---- a symbol behind a function

  module _ (objects : List MapObject) (path : List ℕ) (entries : List MapEntry) (name : List ℕ) (linked index i : ℕ) (s : Symbol) (rest : List Symbol) where
    -- what the size makes of the map
    abbrev Sized : Option ℕ → ℕ → List Symbol → Result (List MapObject) Fault
    Sized size at left = or_fault size (map_fault kinds.BadStab index) >>= λ n. map_inside address objects path (entries ++ function name linked n ∷ []) at left

    pub named_size : stab_of s ≡ stabs.Size
        → Sized (size_after (stretch (s ∷ rest))) i (s ∷ rest) ≡ map_inside address objects path (entries ++ function name linked s.value ∷ []) (i + 1) rest
    named_size e =
        let size : size_after (stretch (s ∷ rest)) ≡ Some s.value = ap size_after (stretch_goes_on s rest (rw e refl)) ∙ size_found s (stretch rest) (rw e refl) ∙ rw e refl in
        ap (λ (size : Option ℕ). Sized size i (s ∷ rest)) size ∙ inside_passed objects path i s rest (entries ++ function name linked s.value ∷ []) stabs.Size e refl refl

    pub named_passed : stab_of s ≡ stabs.Other → Sized (size_after (stretch (s ∷ rest))) i (s ∷ rest) ≡ Sized (size_after (stretch rest)) (i + 1) rest
    named_passed e =
        let size : size_after (stretch (s ∷ rest)) ≡ size_after (stretch rest) = ap size_after (stretch_goes_on s rest (rw e refl)) ∙ size_skips s (stretch rest) e in
        ap (λ (size : Option ℕ). Sized size i (s ∷ rest)) size ∙ by (size_after (stretch rest))
      where
        by : (size : Option ℕ) → Sized size i (s ∷ rest) ≡ Sized size (i + 1) rest
        by None = refl
        by (Some n) = inside_passed objects path i s rest (entries ++ function name linked n ∷ []) stabs.Other e refl refl

-- ---- the whole pass

-- the pass begins outside of objects, with none that has ended
pub begins : (address table : List ℕ → Option ℕ) (objects : List MapObject) (symbols all : List Symbol) → ((name : List ℕ) → is_asked all name ≡ true → table name ≡ address name) → objects ≡ [] → symbols ≡ all
    → map_from table objects states.Outside 0 symbols ≡ gather (object_at address) 0 all
begins address table objects symbols all agree none is = rw (none, is) (bind_self (gather (object_at table) 0 all)) ∙ same_objects table address all agree
