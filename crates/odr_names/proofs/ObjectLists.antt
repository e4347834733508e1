-- Objects in lists.
use Rattle.std.proofs.Common.{◌≡◌, ℕ, zero, suc, ◌<◌, Bool, List, [], ◌∷◌, length, Some, sym, ap, ◌∙◌, slice_get}
use Rattle.std.proofs.lemmas.Option.{none-some, same_Some, slice_get_within}
use Rattle.dwarf_types.specs.declared.analysis.Analysis.{Analysis}
use Rattle.type_names.specs.Heads.{Object}
use Rattle.type_names.specs.Objects.{object_of}
use Rattle.odr_names.specs.declared.path_book.Objects.{Objects}
use Rattle.odr_names.specs.Book.{AreTold, objects_in}
use Rattle.odr_names.specs.Numbered.{objects_of}

pub object_parts : (seen : List Analysis) (live : List (List Bool)) (i : ℕ) (o : Object) → slice_get (objects_of seen live) i ≡ Some o → (slice_get seen i ≡ Some o.seen) × (slice_get live i ≡ Some o.live)
object_parts [] live i o at = absurd (none-some o at)
object_parts (s ∷ seen) [] i o at = absurd (none-some o at)
object_parts (s ∷ seen) (l ∷ live) zero o at = (let same = same_Some (object_of s l) o at in (ap (λ (o : Object). Some o.seen) same, ap (λ (o : Object). Some o.live) same))
object_parts (s ∷ seen) (l ∷ live) (suc i) o at = object_parts seen live i o at

-- what stands at one place in the three lists of an object
pub is_object : (os : Objects) (i : ℕ) (o : Object) (seen : Analysis) (live : List Bool) → slice_get (objects_in os) i ≡ Some o → slice_get os.seen.now i ≡ Some seen → slice_get os.live.now i ≡ Some live → o ≡ object_of seen live
is_object os i o seen live at at_seen at_live =
    let parts = object_parts os.seen.now os.live.now i o at in
    let s : o.seen ≡ seen = same_Some o.seen seen (sym parts.0 ∙ at_seen) in
    let l : o.live ≡ live = same_Some o.live live (sym parts.1 ∙ at_live) in
    (λ j. object_of (s j) (l j))

pub seen_within : (os : Objects) (i : ℕ) (o : Object) → AreTold os → slice_get (objects_in os) i ≡ Some o → i < length os.seen.now
seen_within os i o told at = slice_get_within os.seen.now i o.seen (object_parts os.seen.now os.live.now i o at).0
