-- The fields of a written header are read again.
use Rattle.std.proofs.Common.{◌≡◌, ℕ, suc, ◌+◌, negsuc, true, List, [], ◌∷◌, ◌++◌, length, Ok, inl, inr, ◌⊎◌, refl, sym, ap, ◌∙◌, append_assoc, append-nil, arith}
use Rattle.ds_base.specs.Reading.{items_at, number_at}
use Rattle.ds_base.specs.Spot.{Spot, after}
use Rattle.dwarf_types.specs.LineTable.{standard_opcode_lengths}
use Rattle.line_read.specs.Header.{fields_at, operations_at}
use Rattle.line_laws.proofs.Items.{At, passed, byte_again}

-- bytes one after the other
bytes_in_turn : (bytes before : List ℕ) (s : Spot) (more : List ℕ) → At s (bytes ++ more) → items_at (number_at 1) (length bytes) before s ≡ Ok (before ++ bytes, after s (length bytes))
bytes_in_turn [] before s more h =
    let here : s.place ≡ s.place + 0 = omega arith in
    ap (λ (xs : List ℕ). Ok (xs, s)) (sym (append-nil before)) ∙ ap (λ (p : ℕ). Ok (before ++ [], record s { place = p })) here
bytes_in_turn (b ∷ bytes) before s more h =
    let place : s.place + 1 + length bytes ≡ s.place + suc (length bytes) = omega arith in
    rw (byte_again b s (bytes ++ more) h) (bytes_in_turn bytes (before ++ b ∷ []) (after s 1) more (passed s (b ∷ []) (bytes ++ more) h))
    ∙ ap (λ (xs : List ℕ). Ok (xs, after (after s 1) (length bytes))) (append_assoc before (b ∷ []) bytes)
    ∙ ap (λ (p : ℕ). Ok (before ++ b ∷ bytes, record s { place = p })) place

-- versions that are written have maximum_operations_per_instruction, which is 1
operations_again : (version : ℕ) (first s : Spot) (more : List ℕ) → (version ≡ 4) ⊎ (version ≡ 5) → At s (1 ∷ more) → operations_at first version s ≡ Ok (tt, after s 1)
unfolding operations_at
operations_again version first s more (inl four) h = rw (four, byte_again 1 s more h) refl
operations_again version first s more (inr five) h = rw (five, byte_again 1 s more h) refl

pub fields_again : (version : ℕ) (first s : Spot) (more : List ℕ) → (version ≡ 4) ⊎ (version ≡ 5) → At s (1 ∷ 1 ∷ 1 ∷ 0xfb ∷ 14 ∷ 13 ∷ (standard_opcode_lengths ++ more)) →
    fields_at first version s ≡ Ok (
      record { version = version; minimum_instruction_length = 1; default_is_stmt = true; line_base = negsuc 4; line_range = 14; opcode_base = 13; standard_opcode_lengths = standard_opcode_lengths },
      after s 18,
    )
unfolding fields_at
fields_again version first s more known h0 =
    let lengths = standard_opcode_lengths ++ more in
    let s1 = after s 1 in
    let s2 = after s1 1 in
    let s3 = after s2 1 in
    let s4 = after s3 1 in
    let s5 = after s4 1 in
    let s6 = after s5 1 in
    let h1 = passed s (1 ∷ []) (1 ∷ 1 ∷ 0xfb ∷ 14 ∷ 13 ∷ lengths) h0 in
    let h2 = passed s1 (1 ∷ []) (1 ∷ 0xfb ∷ 14 ∷ 13 ∷ lengths) h1 in
    let h3 = passed s2 (1 ∷ []) (0xfb ∷ 14 ∷ 13 ∷ lengths) h2 in
    let h4 = passed s3 (0xfb ∷ []) (14 ∷ 13 ∷ lengths) h3 in
    let h5 = passed s4 (14 ∷ []) (13 ∷ lengths) h4 in
    let h6 = passed s5 (13 ∷ []) lengths h5 in
    let place : s.place + 1 + 1 + 1 + 1 + 1 + 1 + 12 ≡ s.place + 18 = omega arith in
    rw (
      byte_again 1 s (1 ∷ 1 ∷ 0xfb ∷ 14 ∷ 13 ∷ lengths) h0,
      operations_again version first s1 (1 ∷ 0xfb ∷ 14 ∷ 13 ∷ lengths) known h1,
      byte_again 1 s2 (0xfb ∷ 14 ∷ 13 ∷ lengths) h2,
      byte_again 0xfb s3 (14 ∷ 13 ∷ lengths) h3,
      byte_again 14 s4 (13 ∷ lengths) h4,
      byte_again 13 s5 lengths h5,
      bytes_in_turn standard_opcode_lengths [] s6 more h6,
      place,
    ) refl
