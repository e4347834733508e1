use Rattle.dwarf_types.proofs.Readers.{IsBytes-from}
use Rattle.form_value.proofs.ValueLaws.{value_spelled, value_read}
use Rattle.form_value.proofs.laws.values_are_read_as_spelled.Goals as goal

pub returns : goal.returns
returns c =
    record {
      found = λ field version sections s t value place bytes e. value_spelled field version sections s value t (record { place = place; bytes = IsBytes-from _ bytes }) e;
      only = λ field version sections s bytes more value place all w parts. value_read field version sections s bytes value more (record { place = place; bytes = IsBytes-from _ all }) w parts;
    }
