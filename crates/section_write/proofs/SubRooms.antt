-- A part that is written into a room of its own, inside a room.
use Rattle.std.proofs.Common.{◌≡◌, ℕ, ◌+◌, ◌-◌, ◌≤◌, List, ◌++◌, length, take, drop, ap, ◌∙◌, arith}
use Rattle.std.proofs.lemmas.List.{drop-drop}
use Rattle.ds_base.specs.Room.{Adds, put}
use Rattle.ds_base.proofs.Adding.{put_adds}
use borrow.Rule.Slice.PartMut.{put_mid}

pub part_adds : (old part bytes : List ℕ) (at end : ℕ) → end ≤ length old → end ≡ at + length bytes → part ≡ bytes → Adds old at bytes (put_mid at (end - at) old part) end
part_adds old part bytes at end within ends same =
    let len : at + (end - at) ≡ at + length bytes = omega (arith, ends) in
    let there : put_mid at (end - at) old part ≡ put old at bytes =
    ap (λ (mid : List ℕ). take at old ++ (mid ++ drop (end - at) (drop at old))) same
    ∙ ap (λ (rest : List ℕ). take at old ++ (bytes ++ rest)) (drop-drop (end - at) at old ∙ ap (λ (n : ℕ). drop n old) len) in
    put_adds old bytes (put_mid at (end - at) old part) at end (omega (arith, ends, within)) there ends
