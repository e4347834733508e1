-- The values that are put into entries, as the values of which contracts speak.
use Rattle.std.specs.Prelude.{ℕ, ◌==◌, None, if◌then◌else◌, ⊤}
use Rattle.ds_base.specs.DwarfNumbers.{DW_FORM_implicit_const, DW_FORM_sdata}
use Rattle.dwarf_types.specs.declared.address.Addr.TheVariants as addrs
use Rattle.dwarf_types.specs.declared.put.NewValue.{NewValue}
use Rattle.dwarf_types.specs.declared.put.NewValue.TheVariants as news
use Rattle.dwarf_types.specs.declared.put.RawValue.{RawValue}
use Rattle.dwarf_types.specs.declared.put.RawValue.TheVariants as raws
use Rattle.dwarf_types.specs.declared.value.Value.{Value}
use Rattle.dwarf_types.specs.declared.value.Value.TheVariants as values

-- the form of a number that was read in a form: a constant of the abbreviation table is one with a sign (DWARF 5, section 7.5.3)
abbrev pub number_form : ℕ → ℕ
number_form form = if form == DW_FORM_implicit_const then DW_FORM_sdata else form

-- a value as it was read in a form; an address has gone nowhere yet
abbrev pub value_read : ℕ → RawValue → Value
value_read form (raws.Address number) = values.Address (record { at = addrs.Fixed number; linked = None; linked_end = None })
value_read form (raws.Text bytes place) = values.Text bytes.now
value_read form (raws.Number bits) = values.Number (number_form form) bits
value_read form (raws.Wide bytes) = values.Wide bytes.now
value_read form (raws.Block bytes) = values.Block form bytes.now
value_read form (raws.Ref place) = values.Ref place
value_read form (raws.Offset n) = values.Offset n

-- a value as it is understood
abbrev pub value_put : NewValue → Value
value_put (news.Address place) = values.Address place
value_put (news.Expr ops) = values.Expr ops
value_put (news.Ref k) = values.Ref k
value_put (news.Ranges spans) = values.Ranges spans.now
value_put (news.Locations items) = values.Locations items
value_put news.Lines = values.Lines

-- what may be put in the place of a value: an address stays an address, and operations, ranges and locations are put once
abbrev pub MayBecome : Value → NewValue → Type 0
MayBecome (values.Address place) (news.Address new) = ⊤
MayBecome (values.Address place) new = ⊥
MayBecome (values.Expr ops) new = ⊥
MayBecome (values.Ranges spans) new = ⊥
MayBecome (values.Locations items) new = ⊥
MayBecome value new = ⊤
