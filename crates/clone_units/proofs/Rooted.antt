-- The unit of an object, as it is read of a shape.
use Rattle.std.proofs.Common.{◌≡◌, ◌<◌, ◌⊎◌, ℕ, ◌-◌, cond, eqb, List, length, get_or, slice_get, Option, Some, None, inl, inr, refl, sym, ap, subst, ◌∙◌, arith}
use Rattle.std.specs.List.{All}
use Rattle.std.specs.Option.{option_and_then, option_map}
use Rattle.std.proofs.lemmas.Option.{get_or_from_slice_get, same_Some, slice_get-get_or, slice_get_within}
use Rattle.dwarf_types.specs.declared.analysis.Analysis.{Analysis}
use Rattle.dwarf_types.specs.declared.graph.OutUnit.{OutUnit}
use Rattle.dwarf_types.specs.declared.graph.Target.{Target}
use Rattle.dwarf_types.specs.declared.shape.Origin.{Origin}
use Rattle.dwarf_types.specs.declared.shape.Shape.{Shape}
use Rattle.dwarf_types.specs.declared.shape.ShapeUnit.{ShapeUnit}
use Rattle.dwarf_types.specs.LinkedShape.{plain_in}
use Rattle.dwarf_types.specs.Sound.{IsSound}
use Rattle.link_graph.specs.Graph.{IsShape}
use Rattle.clone_units.specs.Nodes.{IsEntryOf, number_of_object}
use Rattle.clone_units.specs.Units.{Holds, IsUnitIn, IsUnitOf, object_of}
use Rattle.clone_units.proofs.Cloned.{all_entries, cloned, images_long, images_there, o, plain_long, rooted}
use Rattle.clone_units.proofs.Placed.{IsBehind, IsFirst, placed}

-- the nodes of a unit as they are read
pub record Reads (shape : Shape) (n : ℕ) (nodes : List Origin) : Type 0 where
  pub unit : ShapeUnit
  pub at : slice_get shape.units n ≡ Some unit
  pub same : nodes ≡ unit.nodes

pub reads : (shape : Shape) (n : ℕ) (nodes : List Origin) → option_map (λ (u : ShapeUnit). u.nodes) (slice_get shape.units n) ≡ Some nodes → Reads shape n nodes
reads shape n nodes its = by (slice_get shape.units n) refl its
  where
    by : (found : Option ShapeUnit) → slice_get shape.units n ≡ found → option_map (λ (u : ShapeUnit). u.nodes) found ≡ Some nodes → Reads shape n nodes
    by None is its = absurd cc
    by (Some unit) is its = record { unit = unit; at = is; same = sym (same_Some unit.nodes nodes its) }

-- ---- the root of an object's unit

pub record HasRoot (nodes : List Origin) (object : ℕ) : Type 0 where
  pub root : Origin
  pub first : slice_get nodes 0 ≡ Some root
  pub number : number_of_object root ≡ Some object

has_root : (nodes : List Origin) (object : ℕ) (found : Option Origin) → slice_get nodes 0 ≡ found → option_and_then number_of_object found ≡ Some object → HasRoot nodes object
has_root nodes object None is its = absurd cc
has_root nodes object (Some root) is its = record { root = root; first = is; number = its }

-- it is no root of merged entries
pub behind_of : (all : List Analysis) (shape : Shape) (n : ℕ) (unit : ShapeUnit) (object : ℕ) → HasRoot unit.nodes object → IsBehind all shape n unit ⊎ IsFirst all shape n unit → IsBehind all shape n unit
behind_of all shape n unit object root (inl behind) = behind
behind_of all shape n unit object root (inr first) =
    let pooled = first.pooled in
    let same : pooled.root ≡ root.root = same_Some pooled.root root.root (ap (λ (os : List Origin). slice_get os 0) (sym pooled.nodes) ∙ root.first) in
    let none : number_of_object root.root ≡ None = ap number_of_object (sym same) ∙ ap (λ (k : ℕ). cond (eqb k 0) None (Some (k - 1))) pooled.is_root in
    absurd (let e : None ≡ Some object = sym none ∙ root.number in cc)

module _ (seen : List Analysis) (shape : Shape) (n : ℕ) (nodes : List Origin) (holds : Holds seen shape n) (r : Reads shape n nodes) (object : ℕ) (its : object_of shape n ≡ Some object) where
  its_root : HasRoot r.unit.nodes object
  its_root = has_root r.unit.nodes object (slice_get r.unit.nodes 0) refl (ap (option_and_then (λ (u : ShapeUnit). option_and_then number_of_object (slice_get u.nodes 0))) (sym r.at) ∙ its)

  behind : (all : List Analysis) → IsShape all shape → IsBehind all shape n r.unit
  behind all is = behind_of all shape n r.unit object its_root (placed all shape is n r.unit r.at)

  some_nodes : 0 < length nodes
  some_nodes = omega (arith, ap length r.same, slice_get_within r.unit.nodes 0 its_root.root its_root.first)

  -- its object, and what that has
  pub record AtRoot (root : Origin) : Type 0 where
    pub own : Analysis
    pub its_own : slice_get seen object ≡ Some own
    pub sound : IsSound own
    pub inside : root.entry < length own.entries
    pub plain : List (Option ℕ)
    pub its_plain : slice_get shape.plain object ≡ Some plain
    pub images : List (Option Target)
    pub its_images : slice_get shape.images object ≡ Some images
    pub plain_long : length plain ≡ length own.entries
    pub images_long : length images ≡ length own.entries
    pub entries : All (IsEntryOf own) nodes
    pub done : (it : OutUnit) → IsUnitOf own images plain root.entry nodes it → IsUnitIn seen shape n it

  at_root : (root : Origin) → slice_get nodes 0 ≡ Some root → AtRoot root
  at_root root first =
      let first_of = sym (ap (λ (os : List Origin). slice_get os 0) r.same) ∙ first in
      let same : its_root.root ≡ root = same_Some its_root.root root (sym its_root.first ∙ first_of) in
      let number = ap number_of_object (sym same) ∙ its_root.number in
      let h = rooted holds.all shape n r.unit holds.is_shape r.at (behind holds.all holds.is_shape) seen holds.there root object first_of number in
      let own = o holds.all shape n r.unit holds.is_shape r.at (behind holds.all holds.is_shape) in
      record {
        own = own.seen;
        its_own = h.own;
        sound = subst IsSound (get_or_from_slice_get holds.all object own.seen own.seen h.own_of_all) (holds.sound object own.seen (slice_get_within holds.all object own.seen h.own_of_all));
        inside = h.inside;
        plain = plain_in own;
        its_plain = h.plain;
        images = (images_there holds.all shape n r.unit holds.is_shape r.at (behind holds.all holds.is_shape)).0;
        its_images = h.images;
        plain_long = plain_long holds.all shape n r.unit holds.is_shape r.at (behind holds.all holds.is_shape);
        images_long = images_long holds.all shape n r.unit holds.is_shape r.at (behind holds.all holds.is_shape);
        entries = subst (All (IsEntryOf own.seen)) (sym r.same) (all_entries holds.all shape n r.unit holds.is_shape r.at (behind holds.all holds.is_shape));
        done = λ it of all is there.
            let h' = rooted all shape n r.unit is r.at (behind all is) seen there root object first_of number in
            let own' = o all shape n r.unit is r.at (behind all is) in
            let same : own.seen ≡ own'.seen = same_Some own.seen own'.seen (sym h.own ∙ h'.own) in
            let plain : plain_in own ≡ plain_in own' = same_Some (plain_in own) (plain_in own') (sym h.plain ∙ h'.plain) in
            let row = images_there holds.all shape n r.unit holds.is_shape r.at (behind holds.all holds.is_shape) in
            let row' = images_there all shape n r.unit is r.at (behind all is) in
            let images : row.0 ≡ row'.0 = same_Some row.0 row'.0 (sym h.images ∙ h'.images) in
            let of_unit = subst (λ (os : List Origin). IsUnitOf own.seen row.0 (plain_in own) root.entry os it) r.same of in
            let of_own = subst (λ (a : Analysis). IsUnitOf a row.0 (plain_in own) root.entry r.unit.nodes it) same of_unit in
            let of_row = subst (λ (rs : List (Option Target)). IsUnitOf own'.seen rs (plain_in own) root.entry r.unit.nodes it) images of_own in
            cloned all shape n r.unit is r.at (behind all is) seen there root it first_of (subst (λ (p : List (Option ℕ)). IsUnitOf own'.seen row'.0 p root.entry r.unit.nodes it) plain of_row);
      }

  -- as it is read
  pub the_root : AtRoot (get_or nodes 0 (record { object = 0; entry = 0; parent = None }))
  the_root = at_root (get_or nodes 0 (record { object = 0; entry = 0; parent = None })) (slice_get-get_or nodes 0 (record { object = 0; entry = 0; parent = None }) some_nodes)

  module _ (root : Origin) (h : AtRoot root) (own : Analysis) (its_own : slice_get seen object ≡ Some own) where
    own_is : h.own ≡ own
    own_is = same_Some h.own own (sym h.its_own ∙ its_own)

    pub sound_of : IsSound own
    sound_of = subst IsSound own_is h.sound

    pub inside_of : root.entry < length own.entries
    inside_of = subst (λ (a : Analysis). root.entry < length a.entries) own_is h.inside

    pub entries_of : All (IsEntryOf own) nodes
    entries_of = subst (λ (a : Analysis). All (IsEntryOf a) nodes) own_is h.entries

    pub plain_of : (plain : List (Option ℕ)) → slice_get shape.plain object ≡ Some plain → length plain ≡ length own.entries
    plain_of plain its_plain = ap length (same_Some plain h.plain (sym its_plain ∙ h.its_plain)) ∙ h.plain_long ∙ ap (λ (a : Analysis). length a.entries) own_is

    pub images_of : (images : List (Option Target)) → slice_get shape.images object ≡ Some images → length images ≡ length own.entries
    images_of images its_images = ap length (same_Some images h.images (sym its_images ∙ h.its_images)) ∙ h.images_long ∙ ap (λ (a : Analysis). length a.entries) own_is

    pub done_of : (images : List (Option Target)) (plain : List (Option ℕ)) (it : OutUnit) → slice_get shape.images object ≡ Some images → slice_get shape.plain object ≡ Some plain
        → IsUnitOf own images plain root.entry nodes it → IsUnitIn seen shape n it
    done_of images plain it its_images its_plain of =
        let of_own = subst (λ (a : Analysis). IsUnitOf a images plain root.entry nodes it) (sym own_is) of in
        let of_row = subst (λ (row : List (Option Target)). IsUnitOf h.own row plain root.entry nodes it) (same_Some images h.images (sym its_images ∙ h.its_images)) of_own in
        h.done it (subst (λ (p : List (Option ℕ)). IsUnitOf h.own h.images p root.entry nodes it) (same_Some plain h.plain (sym its_plain ∙ h.its_plain)) of_row)
