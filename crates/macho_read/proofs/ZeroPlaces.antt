-- Where a search for zero bytes stops is where zero bytes stand.
use Rattle.std.proofs.Common.{◌≡◌, ℕ, zero, suc, ◌+◌, ◌-◌, ◌==◌, List, ◌∷◌, drop, length, slice_index, if◌then◌else◌, add-one, sym, ap, ◌∙◌, arith}
use Rattle.std.proofs.lemmas.List.{drop_all}
use Rattle.std.proofs.Math.Seq.{drop-cons}
use Rattle.memchr.specs.Find.{is_byte, places, places_from}
use Rattle.macho_read.specs.Ends.{zeros_from}

zeros_here : (bytes : List ℕ) (i n : ℕ) → i + n ≡ length bytes → places_from (is_byte 0) bytes i n ≡ zeros_from i (drop i bytes)
unfolding places_from
zeros_here bytes i zero e = sym (ap (zeros_from i) (drop_all i bytes (omega (arith, e))))
zeros_here bytes i (suc n) e =
    let later = zeros_here bytes (i + 1) n (omega (arith, e)) ∙ ap (λ (k : ℕ). zeros_from (i + 1) (drop k bytes)) (add-one i) in
    ap (λ (zs : List ℕ). if slice_index bytes i == 0 then i ∷ zs else zs) later
    ∙ sym (ap (zeros_from i) (drop-cons bytes i 0 (omega (arith, e))))

pub zeros_are : (bytes : List ℕ) → places (is_byte 0) bytes ≡ zeros_from 0 bytes
zeros_are bytes = zeros_here bytes 0 (length bytes - 0) (omega arith)
