-- Stations between the code and the definitions: a value after what a step makes of it.
use Rattle.std.specs.Prelude.{◌≡◌, ⊤, true, List, Result, Ok}
use Rattle.ds_base.specs.declared.fault.Fault.{Fault}
use Rattle.ds_base.specs.Reading.{◌>>=◌}
use Rattle.dwarf_types.specs.declared.expr.Op.{Op}
use Rattle.dwarf_types.specs.declared.put.NewValue.TheVariants as news
use Rattle.dwarf_types.specs.declared.value.Value.{Value}
use Rattle.dwarf_types.specs.declared.value.Value.TheVariants as values
use Rattle.dwarf_types.specs.Plain.{is_offset}
use Rattle.dwarf_types.specs.Put.{MayBecome}
use Rattle.object_view.specs.declared.attributes.Understood.{Understood}
use Rattle.object_view.specs.declared.attributes.Understood.TheVariants as understoods
use Rattle.object_view.specs.declared.steps.Changed.{Changed}
use Rattle.object_view.specs.declared.steps.Changed.TheVariants as changes

-- what is made of something that is given
abbrev pub making : {X Y : Type 0} → Result X Fault → (X → Y) → Result Y Fault
making given make = given >>= λ x. Ok (make x)

-- a value that was read, as it is understood, where the operations of an expression were put aside
abbrev pub understood_as : List Op → Value → Understood → Value
understood_as ops value understoods.Same = value
understood_as ops value (understoods.Address place) = values.Address place
understood_as ops value (understoods.Ref k) = values.Ref k
understood_as ops value understoods.Expr = values.Expr ops

-- what was understood of a value may be put in its place
abbrev pub MayBe : List Op → Value → Understood → Type 0
MayBe ops value understoods.Same = ⊤
MayBe ops value (understoods.Address place) = MayBecome value (news.Address place)
MayBe ops value (understoods.Ref k) = MayBecome value (news.Ref k)
MayBe ops value understoods.Expr = MayBecome value (news.Expr ops)

-- a value behind a step
abbrev pub after : Value → Changed → Value
after value changes.Same = value
after value (changes.Ranges spans) = values.Ranges spans
after value (changes.Locations items) = values.Locations items

-- a step changes nothing but an offset
abbrev pub ChangesOffset : Value → Changed → Type 0
ChangesOffset value changes.Same = ⊤
ChangesOffset value change = is_offset value ≡ true
