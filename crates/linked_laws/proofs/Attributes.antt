-- What written entries say keeps to what a well graph asks of attributes and their values.
use Rattle.std.proofs.Common.{◌≡◌, ◌<◌, ◌^◌, ◌==◌, ◌&&◌, ◌||◌, not, ℕ, Bool, true, false, cond, List, [], ◌∷◌, map, Option, Some, None, IfSome, refl, sym, ap, subst, ◌∙◌, arith}
use Rattle.std.specs.List.{All, filter_map, flat_map}
use Rattle.std.specs.Option.{option_and_then, option_map}
use Rattle.std.proofs.lemmas.List.Elements.{All-cons, All-head, All-nil, All-tail, All-weaker}
use Rattle.std.proofs.lemmas.Option.{same_Some}
use Rattle.ds_base.specs.DwarfNumbers.{DW_AT_decl_file, DW_AT_sibling, DW_FORM_udata}
use Rattle.dwarf_types.specs.declared.address.Place.{Place}
use Rattle.dwarf_types.specs.declared.entry.Attr.{Attr}
use Rattle.dwarf_types.specs.declared.entry.Entry.{Entry}
use Rattle.dwarf_types.specs.declared.expr.Base.{Base}
use Rattle.dwarf_types.specs.declared.expr.Base.TheVariants as bases
use Rattle.dwarf_types.specs.declared.expr.Op.{Op}
use Rattle.dwarf_types.specs.declared.expr.PlainOp.{PlainOp}
use Rattle.dwarf_types.specs.declared.graph.Graph.{Graph}
use Rattle.dwarf_types.specs.declared.graph.Node.{Node}
use Rattle.dwarf_types.specs.declared.graph.OutAttr.{OutAttr}
use Rattle.dwarf_types.specs.declared.graph.OutLocation.{OutLocation}
use Rattle.dwarf_types.specs.declared.graph.OutValue.{OutValue}
use Rattle.dwarf_types.specs.declared.graph.OutValue.TheVariants as out
use Rattle.dwarf_types.specs.declared.graph.Target.{Target}
use Rattle.dwarf_types.specs.declared.lists.Location.{Location}
use Rattle.dwarf_types.specs.declared.value.Value.{Value}
use Rattle.dwarf_types.specs.declared.value.Value.TheVariants as values
use Rattle.dwarf_types.specs.LinkedExpressions.{parts_of}
use Rattle.dwarf_types.specs.Forms.{is_flag}
use Rattle.dwarf_types.specs.LinkedValues.{FileNumbers, all_move, attr_written, attrs_written, file_written, is_left_out, location_written, loses_low_pc, unless_empty, value_written}
use Rattle.dwarf_types.specs.Live.{base_in, op_bases, operations_of, target_in}
use Rattle.dwarf_types.specs.Moves.{address_moved, place_in, tells_end}
use Rattle.dwarf_types.specs.WellNodes.{IsAttribute, is_dropped}
use Rattle.dwarf_types.specs.WellValues.{in_udata, IsLocation, IsTarget, IsValue, MayStand}
use Rattle.dwarf_types.specs.WholeParts.{IsBaseType}
use Rattle.link_graph.proofs.Gathered.{All-filter_map}
use Rattle.linked_laws.specs.Spellable.{IsSpellableAttr, IsSpellableLocation, IsSpellablePlace, IsSpellableValue}
use Rattle.linked_laws.proofs.ExpressionLengths.{expression_long}
use Rattle.linked_laws.proofs.Expressions.{GoesTo, OpGoes, PlainGoes, expression_whole}
use Rattle.linked_laws.proofs.Lists.{all_of_each, all_of_kept}

pub neither : (x y : Bool) → (x || y) ≡ false → x ≡ false
neither true y e = absurd cc
neither false y e = refl

pub nor_right : (x y : Bool) → (x || y) ≡ false → y ≡ false
nor_right true y e = absurd cc
nor_right false y e = e

pub all_mapped : {A B : Type 0} (P : B → Type 0) (f : A → B) (xs : List A) → All P (map f xs) → All (λ x. P (f x)) xs
all_mapped P f [] h = All-nil (λ x. P (f x))
all_mapped P f (x ∷ xs) h = All-cons (λ y. P (f y)) x xs (All-head P (f x) (map f xs) h) (all_mapped P f xs (All-tail P (f x) (map f xs) h))

pub when_some : {A : Type 0} (b : Bool) (x y : A) → cond b (Some x) None ≡ Some y → y ≡ x
when_some true x y e = sym (same_Some x y e)
when_some false x y e = absurd cc

pub unless_some : {A : Type 0} (b : Bool) (x y : A) → cond b None (Some x) ≡ Some y → y ≡ x
unless_some true x y e = absurd cc
unless_some false x y e = sym (same_Some x y e)

pub unless_left : {A : Type 0} (b : Bool) (x : Option A) (y : A) → cond b None x ≡ Some y → (b ≡ false) × (x ≡ Some y)
unless_left true x y e = absurd cc
unless_left false x y e = (refl, e)

pub made_of : {A B : Type 0} (made : List A → B) (xs : List A) (y : B) → unless_empty made xs ≡ Some y → y ≡ made xs
made_of made [] y e = absurd cc
made_of made (x ∷ xs) y e = sym (same_Some _ y e)

pub mapped_some : {A B : Type 0} (f : A → B) (x : Option A) (y : B) → option_map f x ≡ Some y → (z : A) × (x ≡ Some z) × (y ≡ f z)
mapped_some f None y e = absurd cc
mapped_some f (Some z) y e = (z, refl, sym (same_Some (f z) y e))

-- ---- addresses

place_fits : (b : Bool) (place : Place) (n : ℕ) → IsSpellablePlace place → cond b place.linked_end place.linked ≡ Some n → n < 2 ^ 64
place_fits true place n given e = subst (λ (x : Option ℕ). IfSome x (λ m. m < 2 ^ 64)) e given.linked_end
place_fits false place n given e = subst (λ (x : Option ℕ). IfSome x (λ m. m < 2 ^ 64)) e given.linked

address_fits : (tag : ℕ) (a : Attr) (place : Place) (n : ℕ) → a.value ≡ values.Address place → IsSpellablePlace place → address_moved tag a ≡ Some n → n < 2 ^ 64
address_fits tag a place n is given moved =
    place_fits (tells_end tag a.name) place n given (sym (ap (λ (v : Value). option_and_then (λ p. cond (tells_end tag a.name) p.linked_end p.linked) (place_in v)) is) ∙ moved)

-- ---- versions

-- what an entry of a unit of one version says may stand in a unit of another
pub record Allows (from to : ℕ) : Type 0 where
  pub five : from ≡ 5 → to ≡ 5
  pub four : to ≡ 4 → from ≡ 4

pub allows_itself : (version : ℕ) → Allows version version
allows_itself version = record { five = λ is. is; four = λ is. is }

-- ---- by the image of each entry, the graph and the nodes of the unit

module _ (image : ℕ → Option Target) (graph : Graph) (nodes : List Node) where
  -- a target is a node, and a base type one of the unit
  abbrev pub Refers : Attr → Type 0
  Refers a = (k : ℕ) (target : Target) → (a.name == DW_AT_sibling) ≡ false → target_in a.value ≡ Some k → image k ≡ Some target → IsTarget graph target

  abbrev pub BaseGoes : ℕ → Type 0
  BaseGoes k = (target : Target) × (image k ≡ Some target) × IsBaseType nodes target.node

  base_goes : (base : Option Base) → ((k : ℕ) → base_in base ≡ Some k → BaseGoes k) → IfSome base (GoesTo image nodes)
  base_goes None h = tt
  base_goes (Some bases.Generic) h = tt
  base_goes (Some (bases.Entry k)) h = h k refl

  op_goes : (op : Op) → All BaseGoes (op_bases op) → OpGoes image nodes op
  op_goes op h =
      let each = all_of_kept BaseGoes base_in (op.base ∷ map (λ inner. inner.base) op.inner) h in
      let P : Option Base → Type 0 = λ b. (k : ℕ) → base_in b ≡ Some k → BaseGoes k in
      record {
        own = base_goes op.base (All-head P op.base (map (λ inner. inner.base) op.inner) each);
        inner = All-weaker (λ (inner : PlainOp). P inner.base) (PlainGoes image nodes) (λ inner goes. base_goes inner.base goes) op.inner
            (all_mapped P (λ inner. inner.base) op.inner (All-tail P op.base (map (λ inner. inner.base) op.inner) each));
      }

  ops_go : (ops : List Op) → All BaseGoes (flat_map op_bases ops) → All (OpGoes image nodes) ops
  ops_go ops h = All-weaker (λ op. All BaseGoes (op_bases op)) (OpGoes image nodes) op_goes ops (all_of_each BaseGoes op_bases ops h)

  items_go : (items : List Location) → All BaseGoes (flat_map op_bases (flat_map (λ item. item.ops) items)) → All (λ item. All (OpGoes image nodes) item.ops) items
  items_go items h = all_of_each (OpGoes image nodes) (λ item. item.ops) items (ops_go (flat_map (λ item. item.ops) items) h)

  -- ---- of a unit that says what one of a version may say

  module _ (from to : ℕ) (allows : Allows from to) where
    -- ---- location lists

    location_by : (item : Location) (y : OutLocation) → IsSpellableLocation from item → All (OpGoes image nodes) item.ops → location_written image item ≡ Some y → IsLocation to nodes y
    location_by item y given goes e =
        let is = when_some (all_move item.ops) (record { span = item.span; parts = parts_of image item.ops }) y e in
        let own : IsLocation to nodes (record { span = item.span; parts = parts_of image item.ops }) = record {
          span = given.span;
          whole = expression_whole image nodes item.ops given.ops goes;
          short = λ four. (let short = given.short (allows.four four) in omega (arith, short, expression_long image (λ k. None) item.ops));
        } in
        subst (IsLocation to nodes) (sym is) own

    locations_by : (items : List Location) → All (IsSpellableLocation from) items → All (λ item. All (OpGoes image nodes) item.ops) items → All (IsLocation to nodes) (filter_map (location_written image) items)
    locations_by [] given goes = All-nil (IsLocation to nodes)
    locations_by (item ∷ items) given goes =
        All-filter_map (IsLocation to nodes) (location_written image) (item ∷ items)
        (λ k d lt y e. location_by _ y (given k d lt) (goes k d lt) e)

    -- ---- values

    pub record ValueHolds (name : ℕ) (y : OutValue) : Type 0 where
      pub value : IsValue (IsTarget graph) to nodes y
      pub stands : MayStand name y

    holds_as : (name : ℕ) (x y : OutValue) → y ≡ x → IsValue (IsTarget graph) to nodes x → MayStand name x → ValueHolds name y
    holds_as name x y is value stands = subst (ValueHolds name) (sym is) (record { value = value; stands = stands })

    value_holds : (e : Entry) (a : Attr) (v : Value) (y : OutValue) → a.value ≡ v → (a.name == DW_AT_sibling) ≡ false → IsSpellableValue from a.name v → Refers a → All BaseGoes (flat_map op_bases (operations_of v))
        → value_written image e a v ≡ Some y → ValueHolds a.name y
    value_holds e a (values.Address place) y is sibling given refers goes written =
        let h = mapped_some (λ n. out.Address n) (address_moved e.tag a) y written in
        holds_as a.name (out.Address h.0) y h.2 (address_fits e.tag a place h.0 is given h.1) tt
    value_holds e a (values.Text text) y is sibling given refers goes written = holds_as a.name (out.Text text) y (sym (same_Some _ y written)) given tt
    value_holds e a (values.Number form bits) y is sibling given refers goes written =
        holds_as a.name (out.Number form bits) y (unless_some (not (is_flag form) && loses_low_pc e a) _ y written) given tt
    value_holds e a (values.Wide bytes) y is sibling given refers goes written =
        holds_as a.name (out.Wide bytes) y (unless_some (loses_low_pc e a) _ y written) (allows.five given.0, given.1, given.2) tt
    value_holds e a (values.Block form bytes) y is sibling given refers goes written = holds_as a.name (out.Block form bytes) y (sym (same_Some _ y written)) given tt
    value_holds e a (values.Expr ops) y is sibling given refers goes written =
        holds_as a.name (out.Expr (parts_of image ops)) y (when_some (all_move ops) _ y written) (expression_whole image nodes ops given (ops_go ops goes)) tt
    value_holds e a (values.Ref k) y is sibling given refers goes written =
        let h = mapped_some (λ target. out.Ref target) (image k) y written in
        holds_as a.name (out.Ref h.0) y h.2 (refers k h.0 sibling (ap target_in is) h.1) tt
    value_holds e a (values.Ranges spans) y is sibling given refers goes written = holds_as a.name (out.Ranges spans) y (made_of (λ list. out.Ranges list) spans y written) given.1 given.0
    value_holds e a (values.Locations items) y is sibling given refers goes written =
        holds_as a.name (out.Locations (filter_map (location_written image) items)) y (made_of (λ list. out.Locations list) (filter_map (location_written image) items) y written)
        (locations_by items given.1 (items_go items goes)) given.0
    value_holds e a values.Lines y is sibling given refers goes written = holds_as a.name out.Lines y (sym (same_Some _ y written)) tt tt
    value_holds e a (values.Offset n) y is sibling given refers goes written = absurd cc

    -- ---- attributes

    -- the number of a source file is a number of 64 bits
    abbrev pub FilesFit : FileNumbers → Type 0
    FilesFit files = IfSome files (λ number. (n m : ℕ) → number n ≡ Some m → m < 2 ^ 64)

    file_holds : (files : FileNumbers) → FilesFit files → (e : Entry) (a : Attr) (v : Value) (y : OutValue) → a.value ≡ v → (a.name == DW_AT_sibling) ≡ false → IsSpellableValue from a.name v → Refers a → All BaseGoes (flat_map op_bases (operations_of v))
        → file_written image files e a v ≡ Some y → ValueHolds a.name y
    file_holds None fit e a v y is sibling given refers goes written = value_holds e a v y is sibling given refers goes written
    file_holds (Some number) fit e a (values.Number form bits) y is sibling given refers goes written =
        let h = mapped_some (λ n. out.Number DW_FORM_udata n) (number bits) y written in
        holds_as a.name (out.Number DW_FORM_udata h.0) y h.2 (in_udata refl (fit bits h.0 h.1)) tt
    file_holds (Some number) fit e a (values.Address place) y is sibling given refers goes written = absurd cc
    file_holds (Some number) fit e a (values.Text text) y is sibling given refers goes written = absurd cc
    file_holds (Some number) fit e a (values.Wide bytes) y is sibling given refers goes written = absurd cc
    file_holds (Some number) fit e a (values.Block form bytes) y is sibling given refers goes written = absurd cc
    file_holds (Some number) fit e a (values.Expr ops) y is sibling given refers goes written = absurd cc
    file_holds (Some number) fit e a (values.Ref k) y is sibling given refers goes written = absurd cc
    file_holds (Some number) fit e a (values.Ranges spans) y is sibling given refers goes written = absurd cc
    file_holds (Some number) fit e a (values.Locations items) y is sibling given refers goes written = absurd cc
    file_holds (Some number) fit e a values.Lines y is sibling given refers goes written = absurd cc
    file_holds (Some number) fit e a (values.Offset n) y is sibling given refers goes written = absurd cc

    said_holds : (files : FileNumbers) → FilesFit files → (b : Bool) (e : Entry) (a : Attr) (y : OutValue) → (a.name == DW_AT_sibling) ≡ false → IsSpellableValue from a.name a.value → Refers a → All BaseGoes (flat_map op_bases (operations_of a.value))
        → cond b (file_written image files e a a.value) (value_written image e a a.value) ≡ Some y → ValueHolds a.name y
    said_holds files fit true e a y sibling given refers goes written = file_holds files fit e a a.value y refl sibling given refers goes written
    said_holds files fit false e a y sibling given refers goes written = value_holds e a a.value y refl sibling given refers goes written

    pub attribute_holds : (files : FileNumbers) → FilesFit files → (e : Entry) (a : Attr) (y : OutAttr) → IsSpellableAttr from a → Refers a → All BaseGoes (flat_map op_bases (operations_of a.value)) → attr_written image files e a ≡ Some y
        → IsAttribute (IsTarget graph) to nodes y
    attribute_holds files fit e a y given refers goes written =
        let said : Option OutValue = cond (a.name == DW_AT_decl_file) (file_written image files e a a.value) (value_written image e a a.value) in
        let left = unless_left (is_left_out image e a.name) (option_map (λ value. record { name = a.name; value = value }) said) y written in
        let made = mapped_some (λ value. record { name = a.name; value = value }) said y left.1 in
        let dropped = neither (is_dropped a.name) _ left.0 in
        let sibling = neither (a.name == DW_AT_sibling) _ dropped in
        let h = said_holds files fit (a.name == DW_AT_decl_file) e a made.0 sibling given.value refers goes made.1 in
        let own : IsAttribute (IsTarget graph) to nodes (record { name = a.name; value = made.0 }) = record { some = given.some; fits = given.fits; kept = dropped; value = h.value; stands = h.stands } in
        subst (IsAttribute (IsTarget graph) to nodes) (sym made.2) own

    -- all of an entry
    pub attributes_hold : (files : FileNumbers) → FilesFit files → (e : Entry) → All (IsSpellableAttr from) e.attrs → All Refers e.attrs → All (λ a. All BaseGoes (flat_map op_bases (operations_of a.value))) e.attrs
        → All (IsAttribute (IsTarget graph) to nodes) (attrs_written image files e)
    attributes_hold files fit e given refers goes =
        All-filter_map (IsAttribute (IsTarget graph) to nodes) (attr_written image files e) e.attrs (λ k d lt y written. attribute_holds files fit e _ y (given k d lt) (refers k d lt) (goes k d lt) written)
