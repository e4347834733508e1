-- Of which kinds the faults of a debug map are.
use Rattle.std.proofs.Common.{◌≡◌, ℕ, ◌+◌, not, Bool, true, false, cond, List, [], ◌∷◌, length, nat_lt, Option, None, Result, Ok, Err, refl, subst, arith}
use Rattle.std.specs.List.{Contains}
use Rattle.std.specs.Str.{is_utf8}
use Rattle.ds_base.specs.declared.fault.Fault.{Fault}
use Rattle.ds_base.specs.declared.fault.Kind.{Kind}
use Rattle.ds_base.specs.declared.fault.Kind.TheVariants as kinds
use Rattle.ds_base.specs.Reading.{or_fault}
use Rattle.macho_read.specs.declared.image.Image.{Image}
use Rattle.macho_read.specs.declared.image.Symbol.{Symbol}
use Rattle.ds_base.proofs.FaultKinds.{FaultsAre, ok_kinds, bind_kinds, refuse_kinds, found_kinds}
use Rattle.stab_map.specs.declared.object.MapObject.{MapObject}
use Rattle.stab_map.specs.declared.object.MapError.{MapError}
use Rattle.stab_map.specs.declared.object.MapError.TheVariants as errors
use Rattle.stab_map.specs.declared.stab.Stab.{Stab}
use Rattle.stab_map.specs.declared.stab.Stab.TheVariants as stabs
use Rattle.stab_map.specs.Stab.{stab_of}
use Rattle.stab_map.specs.Addresses.{address_of}
use Rattle.stab_map.specs.DebugMap.{IsRefusal, map_fault, gather, size_after, entry_by, entry_at, stretch, object_by, object_at, objects_of, limited, map_of, max_objects}

abbrev IsOne : Kind → Type 0
IsOne = Contains (kinds.BadStab ∷ kinds.BadPath ∷ [])

gather_kinds : {X Y : Type 0} (read : ℕ → X → List X → Result (Option Y) Fault) → ((index : ℕ) (x : X) (rest : List X) → FaultsAre IsOne (read index x rest)) → (index : ℕ) (xs : List X) → FaultsAre IsOne (gather read index xs)
gather_kinds read each index [] = ok_kinds IsOne []
gather_kinds read each index (x ∷ rest) =
    bind_kinds IsOne (read index x rest) _ (each index x rest)
    (λ found. bind_kinds IsOne (gather read (index + 1) rest) _ (gather_kinds read each (index + 1) rest) (λ others. ok_kinds IsOne _))

entry_kinds : (address : List ℕ → Option ℕ) (stab : Stab) (index : ℕ) (s : Symbol) (rest : List Symbol) → FaultsAre IsOne (entry_by address stab index s rest)
entry_kinds address stabs.Function index s rest =
    bind_kinds IsOne (or_fault (size_after rest) (map_fault kinds.BadStab index)) _ (found_kinds IsOne (size_after rest) (map_fault kinds.BadStab index) (0, omega arith, refl)) (λ size. ok_kinds IsOne _)
entry_kinds address stabs.Static index s rest = ok_kinds IsOne _
entry_kinds address stabs.Global index s rest = ok_kinds IsOne _
entry_kinds address stabs.Object index s rest = ok_kinds IsOne None
entry_kinds address stabs.End index s rest = ok_kinds IsOne None
entry_kinds address stabs.Size index s rest = ok_kinds IsOne None
entry_kinds address stabs.Silent index s rest = ok_kinds IsOne None
entry_kinds address stabs.Other index s rest = ok_kinds IsOne None

object_kinds : (address : List ℕ → Option ℕ) (stab : Stab) (index : ℕ) (s : Symbol) (rest : List Symbol) → FaultsAre IsOne (object_by address stab index s rest)
object_kinds address stabs.Object index s rest =
    bind_kinds IsOne _ _ (refuse_kinds IsOne (not (is_utf8 s.name)) (map_fault kinds.BadPath index) (1, omega arith, refl))
    (λ u. bind_kinds IsOne (gather (entry_at address) (index + 1) (stretch rest)) _
    (gather_kinds (entry_at address) (λ i x more. entry_kinds address (stab_of x) i x more) (index + 1) (stretch rest)) (λ entries. ok_kinds IsOne _))
object_kinds address stabs.End index s rest = ok_kinds IsOne None
object_kinds address stabs.Function index s rest = ok_kinds IsOne None
object_kinds address stabs.Size index s rest = ok_kinds IsOne None
object_kinds address stabs.Static index s rest = ok_kinds IsOne None
object_kinds address stabs.Global index s rest = ok_kinds IsOne None
object_kinds address stabs.Silent index s rest = ok_kinds IsOne None
object_kinds address stabs.Other index s rest = ok_kinds IsOne None

objects_kinds : (image : Image) → FaultsAre IsOne (objects_of image)
unfolding objects_of
objects_kinds image = gather_kinds (object_at (address_of image)) (λ i x more. object_kinds (address_of image) (stab_of x) i x more) 0 image.symbols

abbrev refused : MapError → Result (List MapObject) MapError
refused e = Err e

same_error : (e d : MapError) → refused e ≡ refused d → e ≡ d
same_error e d is = cc

few_kinds : (few : Bool) (objects : List MapObject) (error : MapError) → cond few (Ok objects) (Err errors.Objects) ≡ Err error → IsRefusal error
few_kinds true objects error is = absurd cc
few_kinds false objects error is = subst IsRefusal (same_error errors.Objects error is) tt

limited_kinds : (objects : Result (List MapObject) Fault) (error : MapError) → FaultsAre IsOne objects → limited objects ≡ Err error → IsRefusal error
limited_kinds (Ok objects) error of is = few_kinds (nat_lt (length objects) max_objects) objects error is
limited_kinds (Err f) error of is = subst IsRefusal (same_error (errors.Faulty f) error is) (of f refl)

pub map_kinds : (image : Image) (error : MapError) → map_of image ≡ Err error → IsRefusal error
map_kinds image error is = limited_kinds (objects_of image) error (objects_kinds image) is
