-- What the kind of a cell tells of its value, and its name of its attribute's.
use Rattle.std.proofs.Common.{◌≡◌, ℕ, zero, suc, List, [], ◌∷◌, Bool, Some, map, slice_get, refl, sym, ap, ◌∙◌}
use Rattle.std.specs.Prelude.{is_some}
use Rattle.std.specs.List.{list_any}
use Rattle.std.proofs.Math.Path.{fun_ext}
use Rattle.dwarf_types.specs.declared.columns.Cell.{Cell}
use Rattle.dwarf_types.specs.declared.sides.Kind.{Kind}
use Rattle.dwarf_types.specs.declared.sides.Kind.TheVariants as kinds
use Rattle.dwarf_types.specs.declared.sides.Sides.{Sides}
use Rattle.dwarf_types.specs.declared.entry.Attr.{Attr}
use Rattle.dwarf_types.specs.Cells.{held_value}
use Rattle.dwarf_types.specs.Columns.{attr_of}
use Rattle.dwarf_types.specs.declared.value.Value.{Value}
use Rattle.dwarf_types.specs.Moves.{place_in}
use Rattle.dwarf_types.specs.Plain.{holds_address, holds_offset, holds_plain, is_offset, is_plain}
use Rattle.dwarf_types.proofs.Heads.{any_map}

pub plain_held : (s : Sides) (kind : Kind) (form payload : ℕ) → holds_plain kind ≡ is_plain (held_value s kind form payload)
plain_held s kinds.Small form payload = refl
plain_held s kinds.Large form payload = refl
plain_held s kinds.Text form payload = refl
plain_held s kinds.OwnText form payload = refl
plain_held s kinds.Wide form payload = refl
plain_held s kinds.Block form payload = refl
plain_held s kinds.Stored form payload = refl
plain_held s kinds.Address form payload = refl
plain_held s kinds.Ref form payload = refl
plain_held s kinds.Expr form payload = refl
plain_held s kinds.Ranges form payload = refl
plain_held s kinds.Locations form payload = refl
plain_held s kinds.Lines form payload = refl
plain_held s kinds.Offset form payload = refl
plain_held s kinds.LargeOffset form payload = refl

offset_held : (s : Sides) (kind : Kind) (form payload : ℕ) → holds_offset kind ≡ is_offset (held_value s kind form payload)
offset_held s kinds.Small form payload = refl
offset_held s kinds.Large form payload = refl
offset_held s kinds.Text form payload = refl
offset_held s kinds.OwnText form payload = refl
offset_held s kinds.Wide form payload = refl
offset_held s kinds.Block form payload = refl
offset_held s kinds.Stored form payload = refl
offset_held s kinds.Address form payload = refl
offset_held s kinds.Ref form payload = refl
offset_held s kinds.Expr form payload = refl
offset_held s kinds.Ranges form payload = refl
offset_held s kinds.Locations form payload = refl
offset_held s kinds.Lines form payload = refl
offset_held s kinds.Offset form payload = refl
offset_held s kinds.LargeOffset form payload = refl

address_held : (s : Sides) (kind : Kind) (form payload : ℕ) → holds_address kind ≡ is_some (place_in (held_value s kind form payload))
address_held s kinds.Small form payload = refl
address_held s kinds.Large form payload = refl
address_held s kinds.Text form payload = refl
address_held s kinds.OwnText form payload = refl
address_held s kinds.Wide form payload = refl
address_held s kinds.Block form payload = refl
address_held s kinds.Stored form payload = refl
address_held s kinds.Address form payload = refl
address_held s kinds.Ref form payload = refl
address_held s kinds.Expr form payload = refl
address_held s kinds.Ranges form payload = refl
address_held s kinds.Locations form payload = refl
address_held s kinds.Lines form payload = refl
address_held s kinds.Offset form payload = refl
address_held s kinds.LargeOffset form payload = refl

-- ---- whether one of some cells holds a value

module _ (s : Sides) (p : Kind → Bool) (q : Value → Bool) (held : (kind : Kind) (form payload : ℕ) → p kind ≡ q (held_value s kind form payload)) where
  any_held : (cells : List Cell) → list_any (λ (c : Cell). p c.kind) cells ≡ list_any (λ (a : Attr). q a.value) (map (attr_of s) cells)
  any_held cells =
      let mapped = any_map (attr_of s) (λ (a : Attr). q a.value) cells in
      ap (λ (r : Cell → Bool). list_any r cells) (fun_ext (λ (c : Cell). held c.kind c.form c.payload)) ∙ sym mapped

pub any_offset : (s : Sides) (cells : List Cell) → list_any (λ (c : Cell). holds_offset c.kind) cells ≡ list_any (λ (a : Attr). is_offset a.value) (map (attr_of s) cells)
any_offset s cells = any_held s holds_offset is_offset (offset_held s) cells

pub any_address : (s : Sides) (cells : List Cell) → list_any (λ (c : Cell). holds_address c.kind) cells ≡ list_any (λ (a : Attr). is_some (place_in a.value)) (map (attr_of s) cells)
any_address s cells = any_held s holds_address (λ value. is_some (place_in value)) (address_held s) cells

-- ---- the kind of an attribute's cell

pub plain_at : (s : Sides) (cells : List Cell) (j : ℕ) (kind : Kind) (a : Attr) → slice_get (map (λ (c : Cell). c.kind) cells) j ≡ Some kind → slice_get (map (attr_of s) cells) j ≡ Some a → holds_plain kind ≡ is_plain a.value
plain_at s [] j kind a there is = absurd (let no : ⊥ = cc in no)
plain_at s (c ∷ cells) zero kind a there is =
    let own : c.kind ≡ kind = cc in
    let same : attr_of s c ≡ a = cc in
    ap holds_plain (sym own) ∙ plain_held s c.kind c.form c.payload ∙ ap (λ (b : Attr). is_plain b.value) same
plain_at s (c ∷ cells) (suc j) kind a there is = plain_at s cells j kind a there is

-- and its name
pub named_at : (s : Sides) (cells : List Cell) (j name : ℕ) (a : Attr) → slice_get (map (λ (c : Cell). c.name) cells) j ≡ Some name → slice_get (map (attr_of s) cells) j ≡ Some a → name ≡ a.name
named_at s [] j name a there is = absurd (let no : ⊥ = cc in no)
named_at s (c ∷ cells) zero name a there is =
    let own : c.name ≡ name = cc in
    let same : attr_of s c ≡ a = cc in
    sym own ∙ ap (λ (b : Attr). b.name) same
named_at s (c ∷ cells) (suc j) name a there is = named_at s cells j name a there is
