-- The header of a unit, by its version.
use Rattle.std.proofs.Common.{◌≡◌, ◌⊎◌, ◌<◌, ◌≤◌, ◌++◌, ◌^◌, ℕ, [], ◌∷◌, inl, inr, refl, sym, subst, arith}
use Rattle.byteorder.specs.Endian.{little_bytes}
use Rattle.ds_base.specs.DwarfNumbers.{DW_UT_compile}
use Rattle.dwarf_types.specs.Entries.{header_fields}
use Rattle.dwarf_types.specs.Spelled.{IsNumber}
use Rattle.unit_tree.specs.Spelling.{SpellsFields, SpellsFields4, SpellsFields5, SpellsHeader}

one_byte : (n : ℕ) → n < 256 → IsNumber 1 (little_bytes 1 n) n
one_byte n lt = record { is = refl; fits = lt }

fields4 : (table : ℕ) → table < 2 ^ 32 → SpellsFields4 table (little_bytes 4 table ++ (8 ∷ []))
fields4 table lt = record { front = little_bytes 4 table; back = 8 ∷ []; is = refl; first = record { is = refl; fits = lt }; second = one_byte 8 (omega arith) }

fields5 : (table : ℕ) → table < 2 ^ 32 → SpellsFields5 table (DW_UT_compile ∷ 8 ∷ little_bytes 4 table)
fields5 table lt = record {
  front = 1 ∷ [];
  back = 8 ∷ little_bytes 4 table;
  is = refl;
  first = one_byte 1 (omega arith);
  second = record { front = 8 ∷ []; back = little_bytes 4 table; is = refl; first = one_byte 8 (omega arith); second = record { is = refl; fits = lt } };
}

fields : (version table : ℕ) → (version ≡ 4) ⊎ (version ≡ 5) → table < 2 ^ 32 → SpellsFields version table (header_fields version table)
fields version table (inl e) lt = subst (λ (v : ℕ). SpellsFields v table (header_fields v table)) (sym e) (inl (refl, fields4 table lt))
fields version table (inr e) lt = subst (λ (v : ℕ). SpellsFields v table (header_fields v table)) (sym e) (inr (refl, fields5 table lt))

small_version : (version : ℕ) → (version ≡ 4) ⊎ (version ≡ 5) → version < 256 ^ 2
small_version version (inl e) = omega (arith, e)
small_version version (inr e) = omega (arith, e)

pub header_spelled : (version table : ℕ) → (version ≡ 4) ⊎ (version ≡ 5) → table < 2 ^ 32 → SpellsHeader version table (little_bytes 2 version ++ header_fields version table)
header_spelled version table is lt = record {
  front = little_bytes 2 version;
  back = header_fields version table;
  is = refl;
  first = record { is = refl; fits = small_version version is };
  second = fields version table is lt;
}

pub old_enough : (version : ℕ) → (version ≡ 4) ⊎ (version ≡ 5) → 4 ≤ version
old_enough version (inl e) = omega (arith, e)
old_enough version (inr e) = omega (arith, e)
