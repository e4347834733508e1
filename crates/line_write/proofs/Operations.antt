-- Operations of a line program in their parts.
use Rattle.std.proofs.Common.{◌≡◌, ◌+◌, ◌++◌, ℕ, List, [], ◌∷◌, length, sym, ap, ◌∙◌, append_assoc, arith}
use Rattle.ds_base.specs.DwarfNumbers.{DW_LNE_set_discriminator, DW_LNS_extended_op}
use Rattle.ds_base.specs.Leb.{uleb, uleb_len_of}
use Rattle.ds_base.proofs.LebLengths.{length-uleb}
use Rattle.dwarf_types.specs.LineProgram.{extended}

-- an operation in two parts, the first with the number of bytes that its code and its operand have
pub discriminator_parts : (n len : ℕ) → len ≡ uleb_len_of n →
    extended (DW_LNE_set_discriminator ∷ uleb n) ≡ (DW_LNS_extended_op ∷ (uleb (1 + len) ++ (DW_LNE_set_discriminator ∷ []))) ++ uleb n
discriminator_parts n len is =
    let size : length (DW_LNE_set_discriminator ∷ uleb n) ≡ 1 + len = omega (arith, is, length-uleb n) in
    ap (λ (k : ℕ). DW_LNS_extended_op ∷ (uleb k ++ (DW_LNE_set_discriminator ∷ uleb n))) size
    ∙ ap (λ (bytes : List ℕ). DW_LNS_extended_op ∷ bytes) (sym (append_assoc (uleb (1 + len)) (DW_LNE_set_discriminator ∷ []) (uleb n)))
