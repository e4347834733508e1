-- The header of a table is read.
use Rattle.std.proofs.Common.{◌≡◌, ℕ, ◌+◌, ◌<◌, ◌^◌, ◌==◌, false, List, ◌++◌, length, drop, Ok, refl, ap, ◌∙◌, arith, length-append}
use Rattle.std.proofs.lemmas.Bool.{ne_eqb}
use Rattle.byteorder.specs.Endian.{little_number}
use Rattle.byteorder.specs.Numbers.{little_number-reads_back}
use Rattle.ds_base.specs.DwarfNumbers.{APPLE_HASH_MAGIC, APPLE_HASH_VERSION, DW_ATOM_die_offset, DW_FORM_data4, DW_hash_function_djb}
use Rattle.accel_tables.specs.Found.{counts_of, fixed_field, header_of, number_in}
use Rattle.accel_tables.specs.Table.{header_bytes}
use Rattle.table_laws.proofs.Words.{number_is}

of_fields : (table : List ℕ) (b h : ℕ) → (b == 0) ≡ false → number_in 4 table 0 ≡ Ok APPLE_HASH_MAGIC → number_in 2 table 4 ≡ Ok APPLE_HASH_VERSION → number_in 2 table 6 ≡ Ok DW_hash_function_djb → number_in 4 table 8 ≡ Ok b → number_in 4 table 12 ≡ Ok h
    → number_in 4 table 16 ≡ Ok 12 → number_in 4 table 20 ≡ Ok 0 → number_in 4 table 24 ≡ Ok 1 → number_in 2 table 28 ≡ Ok DW_ATOM_die_offset → number_in 2 table 30 ≡ Ok DW_FORM_data4
    → header_of table ≡ Ok (record { buckets = b; hashes = h })
unfolding header_of counts_of fixed_field
of_fields table b h some a0 a1 a2 a3 a4 a5 a6 a7 a8 a9 = rw (a0, a1, a2, a3, some, a4, a5, a6, a7, a8, a9) refl

pub header_read : (table rest : List ℕ) (b h : ℕ) → table ≡ header_bytes b h ++ rest → 0 < b → b < 2 ^ 32 → h < 2 ^ 32 → header_of table ≡ Ok (record { buckets = b; hashes = h })
header_read table rest b h is some few few2 =
    let whole : List ℕ = header_bytes b h ++ rest in
    let long : length table ≡ 32 + length rest = ap length is ∙ length-append (header_bytes b h) rest in
    let at : (k place n : ℕ) → little_number k (drop place whole) ≡ n → little_number k (drop place table) ≡ n = λ k place n e. ap (λ (xs : List ℕ). little_number k (drop place xs)) is ∙ e in
    of_fields table b h (ne_eqb b 0 (λ e. omega (arith, some, e)))
    (number_is 4 APPLE_HASH_MAGIC 0 table (omega (arith, long)) (at 4 0 APPLE_HASH_MAGIC refl))
    (number_is 2 APPLE_HASH_VERSION 4 table (omega (arith, long)) (at 2 4 APPLE_HASH_VERSION refl))
    (number_is 2 DW_hash_function_djb 6 table (omega (arith, long)) (at 2 6 DW_hash_function_djb refl))
    (number_is 4 b 8 table (omega (arith, long)) (at 4 8 b (little_number-reads_back 4 b (drop 12 whole) (omega (arith, few)))))
    (number_is 4 h 12 table (omega (arith, long)) (at 4 12 h (little_number-reads_back 4 h (drop 16 whole) (omega (arith, few2)))))
    (number_is 4 12 16 table (omega (arith, long)) (at 4 16 12 refl))
    (number_is 4 0 20 table (omega (arith, long)) (at 4 20 0 refl))
    (number_is 4 1 24 table (omega (arith, long)) (at 4 24 1 refl))
    (number_is 2 DW_ATOM_die_offset 28 table (omega (arith, long)) (at 2 28 DW_ATOM_die_offset refl))
    (number_is 2 DW_FORM_data4 30 table (omega (arith, long)) (at 2 30 DW_FORM_data4 refl))
