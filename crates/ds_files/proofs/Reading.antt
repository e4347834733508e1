-- A reader that was read to its end.
use Rattle.std.proofs.Common.{◌≡◌, ℕ, ◌<◌, List, [], ◌++◌, length, take, take_all, length-take, Option, Some, None, IfSome, ap, ◌∙◌, arith}
use Rattle.std.specs.Option.{option_map}
use Rattle.ds_files.specs.Outside.{Told}

-- it gave fewer bytes than were asked for, so these are all
pub whole_read : (left : Option (List ℕ)) (limit : ℕ) (none got : List ℕ) → none ≡ [] → length got < limit → IfSome (option_map (take limit) left) (λ xs. got ≡ none ++ xs) → Told left (λ bytes. got ≡ bytes)
whole_read None limit none got empty few is = tt
whole_read (Some xs) limit none got empty few is =
    let all : got ≡ take limit xs = is ∙ ap (λ (front : List ℕ). front ++ take limit xs) empty in
    let len : length got ≡ length (take limit xs) = ap length all in
    all ∙ take_all limit xs (omega (arith, few, len, length-take limit xs))
