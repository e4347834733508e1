use Rattle.std.proofs.Common.{◌≡◌, ◌+◌, ◌^◌, ◌<◌, take, drop}
use Rattle.ar_read.specs.Number.{decimal, digit_count}
use Rattle.ar_read.proofs.number.read_number.Given as goal

-- all so far are digits, and the number is what they spell
abbrev pub invariant-loop-i : goal.invariant-loop-i
invariant-loop-i l =
    record {
      digits : l.i + digit_count (drop l.i l.field) ≡ digit_count l.field;
      value : l.number ≡ decimal (take l.i l.field);
      small : l.number < 10 ^ l.i;
    }
