use Rattle.std.proofs.Common.{refl, rules}
use Rattle.form_value.specs.Reading.{class_at}
use Rattle.form_value.proofs.Known.{own_form}
use Rattle.form_value.proofs.value.read_row.Goals as goal

pub returns-in_ok-read_coded-in-Number : goal.returns-in_ok-read_coded-in-Number
unfolding class_at
returns-in_ok-read_coded-in-Number c = rw (own_form _ _ _ c.requires c.in-Number.is, c.in-Number.is, c.in_ok-read_coded-in-Number.ensures) refl

pub returns-in_ok-sleb-in-Signed : goal.returns-in_ok-sleb-in-Signed
unfolding class_at
returns-in_ok-sleb-in-Signed c = rw (own_form _ _ _ c.requires c.in-Signed.is, c.in-Signed.is, c.in_ok-sleb-in-Signed.ensures) (search rules)

pub returns-in-Present : goal.returns-in-Present
unfolding class_at
returns-in-Present c = rw (own_form _ _ _ c.requires c.in-Present.is, c.in-Present.is) refl

pub returns-in-Implicit : goal.returns-in-Implicit
unfolding class_at
returns-in-Implicit c = rw (own_form _ _ _ c.requires c.in-Implicit.is, c.in-Implicit.is) (search rules)
