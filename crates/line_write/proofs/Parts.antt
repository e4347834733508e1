-- A table in its parts.
use Rattle.std.proofs.Common.{◌≡◌, ◌+◌, ◌++◌, ℕ, List, length, ap, ◌∙◌, append_assoc, arith, length-append}
use Rattle.byteorder.specs.Endian.{little_bytes}
use Rattle.dwarf_types.specs.LineTable.{version_bytes}
use Rattle.line_write.specs.Named.{table_of}

pub length_table : (version : ℕ) (fields program : List ℕ) → length (table_of version fields program) ≡ 4 + (length (version_bytes version) + (4 + (length fields + length program)))
length_table version fields program =
    omega (
      arith,
      length-append (version_bytes version) (little_bytes 4 (length fields) ++ (fields ++ program)),
      length-append fields program,
    )

-- as long as another with fields of its length
pub same_length : (version : ℕ) (old fields others program new : List ℕ) → new ≡ old ++ table_of version fields program → length fields ≡ length others
    → length new ≡ length old + length (table_of version others program)
same_length version old fields others program new is same =
    omega (arith, ap length is, same, length-append old (table_of version fields program), length_table version fields program, length_table version others program)

-- the parts, one behind the other
pub table_parts : (version len fields_len program_len unit_len : ℕ) (old a b d e new fields program : List ℕ) → fields_len ≡ length fields → len ≡ length (version_bytes version) → program_len ≡ length program
    → unit_len ≡ len + 4 + fields_len + program_len → a ≡ old ++ little_bytes 4 unit_len → b ≡ a ++ version_bytes version → d ≡ b ++ little_bytes 4 fields_len → e ≡ d ++ fields → new ≡ e ++ program
    → new ≡ old ++ table_of version fields program
table_parts version len fields_len program_len unit_len old a b d e new fields program header sized counted unit one two three four five =
    let first : little_bytes 4 unit_len ≡ little_bytes 4 (length (version_bytes version) + 4 + length fields + length program) = ap (little_bytes 4) (omega (arith, header, sized, counted, unit)) in
    let third : little_bytes 4 fields_len ≡ little_bytes 4 (length fields) = ap (little_bytes 4) header in
    joined _ _ _ _ _ (one ∙ ap (λ (xs : List ℕ). old ++ xs) first) two (three ∙ ap (λ (xs : List ℕ). b ++ xs) third) four five
  where
    joined : (w x y z v : List ℕ) → a ≡ old ++ w → b ≡ a ++ x → d ≡ b ++ y → e ≡ d ++ z → new ≡ e ++ v → new ≡ old ++ (w ++ (x ++ (y ++ (z ++ v))))
    joined w x y z v p q r s t = rw (t, s, r, q, p) (simp append_assoc)
