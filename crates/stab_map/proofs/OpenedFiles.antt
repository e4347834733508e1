-- The files that symbols open are those of the map's objects.
use Rattle.std.proofs.Common.{◌≡◌, ℕ, ◌+◌, Bool, true, false, cond, not, nat_lt, List, [], ◌∷◌, length, map, Option, Some, None, Result, Ok, Err, refl, sym, ap, ap₂, subst, ◌∙◌, if◌then◌else◌}
use Rattle.std.specs.List.{cons_option, filter_map}
use Rattle.std.specs.Option.{option_map}
use Rattle.std.specs.Str.{is_utf8}
use Rattle.std.proofs.lemmas.Str.{IsUtf8-from_is_utf8, is_utf8-from_IsUtf8}
use Rattle.ds_base.specs.declared.fault.Fault.{Fault}
use Rattle.ds_base.specs.Reading.{◌>>=◌, refuse_if}
use Rattle.macho_read.specs.declared.image.Image.{Image}
use Rattle.macho_read.specs.declared.image.Symbol.{Symbol}
use Rattle.stab_map.specs.declared.object.MapEntry.{MapEntry}
use Rattle.stab_map.specs.declared.object.MapError.{MapError}
use Rattle.stab_map.specs.declared.object.MapError.TheVariants as errors
use Rattle.stab_map.specs.declared.object.MapObject.{MapObject}
use Rattle.stab_map.specs.declared.stab.Stab.{Stab}
use Rattle.stab_map.specs.declared.stab.Stab.TheVariants as stabs
use Rattle.stab_map.specs.Addresses.{address_of}
use Rattle.stab_map.specs.DebugMap.{entry_at, gather, limited, map_of, max_objects, object_at, object_by, object_of, objects_of, stretch}
use Rattle.stab_map.specs.Origin.{file_by, opened_file, origin_of, text_in}
use Rattle.stab_map.specs.Stab.{stab_of}
use Rattle.stab_map.proofs.Names.{file_is_text}

abbrev file_of : Option MapObject → Option (List ℕ)
file_of found = option_map (λ o. o.file) found

abbrev ok_of : {X Y : Type 0} → X → Result X Y
ok_of x = Ok x

the_ok : {X Y : Type 0} (x y : X) → ok_of {Y = Y} x ≡ ok_of y → x ≡ y
the_ok x y e = cc

opened_by : (s : Symbol) (fault : Fault) (read : Result (List MapEntry) Fault) (found : Option MapObject)
    → (refuse_if (not (is_utf8 s.name)) fault >>= λ ok. read >>= λ entries. Ok (Some (object_of s.name entries))) ≡ Ok found → text_in (origin_of s.name).file ≡ file_of found
opened_by s fault read found e = by (is_utf8 s.name) refl read e
  where
    by : (b : Bool) → is_utf8 s.name ≡ b → (r : Result (List MapEntry) Fault) → (refuse_if (not b) fault >>= λ ok. r >>= λ entries. Ok (Some (object_of s.name entries))) ≡ Ok found → text_in (origin_of s.name).file ≡ file_of found
    by false is r e = absurd (cc)
    by true is (Err f) e = absurd (cc)
    by true is (Ok entries) e =
        let same : Some (object_of s.name entries) ≡ found = the_ok (Some (object_of s.name entries)) found e in
        let text = is_utf8-from_IsUtf8 _ (file_is_text s.name (IsUtf8-from_is_utf8 s.name is)) in
        ap (λ (b : Bool). if b then Some (origin_of s.name).file else None) text ∙ ap file_of same

none_opened : (found : Option MapObject) → ok_of {Y = Fault} None ≡ Ok found → None ≡ file_of found
none_opened found e = ap file_of (the_ok None found e)

module _ (address : List ℕ → Option ℕ) where
  object_opened : (stab : Stab) (index : ℕ) (s : Symbol) (rest : List Symbol) (found : Option MapObject) → object_by address stab index s rest ≡ Ok found → file_by stab s.name ≡ file_of found
  object_opened stabs.Object index s rest found e = opened_by s _ (gather (entry_at address) (index + 1) (stretch rest)) found e
  object_opened stabs.End index s rest found e = none_opened found e
  object_opened stabs.Function index s rest found e = none_opened found e
  object_opened stabs.Size index s rest found e = none_opened found e
  object_opened stabs.Static index s rest found e = none_opened found e
  object_opened stabs.Global index s rest found e = none_opened found e
  object_opened stabs.Silent index s rest found e = none_opened found e
  object_opened stabs.Other index s rest found e = none_opened found e

  one_more : (found : Option MapObject) (others : List MapObject) → cons_option (file_of found) (map (λ o. o.file) others) ≡ map (λ o. o.file) (cons_option found others)
  one_more None others = refl
  one_more (Some o) others = refl

  objects_opened : (index : ℕ) (symbols : List Symbol) (objects : List MapObject) → gather (object_at address) index symbols ≡ Ok objects → filter_map opened_file symbols ≡ map (λ o. o.file) objects
  objects_opened index [] objects e = ap (map (λ o. o.file)) (the_ok [] objects e)
  objects_opened index (s ∷ rest) objects e =
      by (object_at address index s rest) (gather (object_at address) (index + 1) rest) (object_opened (stab_of s) index s rest) (objects_opened (index + 1) rest) objects e
    where
      by : (r : Result (Option MapObject) Fault) (more : Result (List MapObject) Fault) → ((found : Option MapObject) → r ≡ Ok found → opened_file s ≡ file_of found) → ((others : List MapObject) → more ≡ Ok others → filter_map opened_file rest ≡ map (λ o. o.file) others)
          → (objects : List MapObject) → (r >>= λ found. more >>= λ others. Ok (cons_option found others)) ≡ Ok objects → filter_map opened_file (s ∷ rest) ≡ map (λ o. o.file) objects
      by (Err f) more one all objects e = absurd (cc)
      by (Ok found) (Err f) one all objects e = absurd (cc)
      by (Ok found) (Ok others) one all objects e = ap₂ cons_option (one found refl) (all others refl) ∙ (one_more found others ∙ ap (map (λ o. o.file)) (the_ok (cons_option found others) objects e))

few_opened : (few : Bool) (found objects : List MapObject) → cond few (Ok found) (Err errors.Objects) ≡ Ok objects → found ≡ objects
few_opened true found objects is = the_ok found objects is
few_opened false found objects is = absurd cc

limited_opened : (found : Result (List MapObject) Fault) (objects : List MapObject) → limited found ≡ Ok objects → found ≡ Ok objects
limited_opened (Ok found) objects is = ap ok_of (few_opened (nat_lt (length found) max_objects) found objects is)
limited_opened (Err f) objects is = absurd cc

pub map_opened : (image : Image) (objects : List MapObject) → map_of image ≡ Ok objects → filter_map opened_file image.symbols ≡ map (λ o. o.file) objects
unfolding objects_of
map_opened image objects is = objects_opened (address_of image) 0 image.symbols objects (limited_opened (objects_of image) objects is)
