use Rattle.std.proofs.Common.{ℕ, ◌-◌, ◌++◌, ◌∙◌, List, take, replicate, append-nil, ap₂, sym}
use Rattle.universal.proofs.joining.first_page.Goals as goal

pub returns : goal.returns
returns c =
    c.from_vec.ensures ∙ c.in_ok-resize.ensures.items ∙ ap₂ (λ (xs : List ℕ) (n : ℕ). take 0x1000 xs ++ replicate (0x1000 - n) 0) c.in_ok-room.ensures.items c.in_ok-room.ensures.len ∙ sym (append-nil (replicate 0x1000 0))
