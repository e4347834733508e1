use Rattle.std.proofs.Common.{◌≡◌, ◌+◌, ◌*◌, ◌^◌, ◌≤◌, length, drop}
use Rattle.universal.specs.Records.{head_size}
use Rattle.universal.specs.Joined.{paged}
use Rattle.universal.proofs.joining.joined_size.Given as goal

-- the parts that are left end where all parts end
abbrev pub invariant-loop-part : goal.invariant-loop-part
invariant-loop-part l = record {
  total : l.end + length (paged l.end (drop l.part-index l.parts)) ≡ head_size (length l.parts) + length (paged (head_size (length l.parts)) l.parts);
  small : l.end ≤ 328 + l.part-index * 2 ^ 65;
}
