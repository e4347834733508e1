-- The records of segment `__DWARF`, one at a time.
use Rattle.std.proofs.Common.{◌≡◌, ℕ, ◌+◌, ◌<◌, List, ◌++◌, length, drop, map, get_or, append_assoc, sym, ap, ◌∙◌}
use Rattle.layout.specs.declared.table.Section.{Section}
use Rattle.ds_base.proofs.Walking.{drop_one}
use Rattle.layout.specs.Laid.{Laid, sizes_in}
use Rattle.layout.specs.Lengths.{size_in}
use Rattle.dsym_write.specs.Pieces.{records_from, sized_bytes, total, with_size}

module _ (sizes : Laid) (parts : List Section) (i : ℕ) (p : Section) (size : ℕ) (lt : i < length parts) (is : p ≡ get_or parts i p) (size_is : size ≡ size_in (sizes_in sizes) p.content) where
  -- what is left begins with the record of the next part
  records_step : (addr offset : ℕ) → records_from addr offset (map (with_size sizes) (drop i parts)) ≡ sized_bytes addr offset p.part size ++ records_from (addr + size) (offset + size) (map (with_size sizes) (drop (i + 1) parts))
  records_step addr offset =
      ap (λ (ps : List Section). records_from addr offset (map (with_size sizes) ps)) (drop_one parts i p lt is)
      ∙ ap (λ (n : ℕ). sized_bytes addr offset p.part n ++ records_from (addr + n) (offset + n) (map (with_size sizes) (drop (i + 1) parts))) (sym size_is)

  pub records_more : (addr offset wide : ℕ) (out new all : List ℕ) → wide ≡ size → new ≡ out ++ sized_bytes addr offset p.part size → out ++ records_from addr offset (map (with_size sizes) (drop i parts)) ≡ all
      → new ++ records_from (addr + size) (offset + wide) (map (with_size sizes) (drop (i + 1) parts)) ≡ all
  records_more addr offset wide out new all same one h =
      let rest : List ℕ = records_from (addr + size) (offset + size) (map (with_size sizes) (drop (i + 1) parts)) in
      ap (λ (n : ℕ). new ++ records_from (addr + size) (offset + n) (map (with_size sizes) (drop (i + 1) parts))) same
      ∙ ap (λ (front : List ℕ). front ++ rest) one ∙ append_assoc out (sized_bytes addr offset p.part size) rest ∙ ap (λ (back : List ℕ). out ++ back) (sym (records_step addr offset)) ∙ h

  pub total_step : total (map (with_size sizes) (drop i parts)) ≡ size + total (map (with_size sizes) (drop (i + 1) parts))
  total_step =
      ap (λ (ps : List Section). total (map (with_size sizes) ps)) (drop_one parts i p lt is)
      ∙ ap (λ (n : ℕ). n + total (map (with_size sizes) (drop (i + 1) parts))) (sym size_is)
