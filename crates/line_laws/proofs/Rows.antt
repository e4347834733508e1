-- A written program leads from its first row to the end of its last sequence.
use Rattle.std.proofs.Common.{◌≡◌, ℕ, zero, suc, ◌+◌, ◌-◌, ◌%◌, ◌^◌, ◌<◌, ◌≤◌, ℤ, pos, ◌+ℤ◌, ◌-ℤ◌, IsTrue, Bool, true, false, not, negsuc, List, [], ◌∷◌, ◌++◌, length, map, Some, Ok, refl, sym, ap, subst, ◌∙◌, append_assoc, append-nil, arith, length-append}
use Rattle.std.specs.Prelude.{◌==◌, ◌&&◌, nat_le, if◌then◌else◌, unsigned_abs}
use Rattle.std.specs.List.{All, flat_map}
use Rattle.std.specs.Int.{int_rem_euclid}
use Rattle.std.proofs.lemmas.Bool.{and_parts, eqb-true, leb-true, lt-ltb}
use Rattle.std.proofs.lemmas.Int.{ints, int_rem_euclid_is}
use Rattle.byteorder.specs.Endian.{little_bytes}
use Rattle.std.proofs.lemmas.List.Elements.{All-head, All-tail}
use Rattle.ds_base.specs.Leb.{uleb, sleb, fits_i64}
use Rattle.ds_base.specs.Spot.{Spot, after}
use Rattle.ds_base.specs.DwarfNumbers.{DW_LNE_end_sequence, DW_LNE_set_address, DW_LNE_set_discriminator, DW_LNS_advance_line, DW_LNS_advance_pc, DW_LNS_copy, DW_LNS_negate_stmt, DW_LNS_set_basic_block, DW_LNS_set_column, DW_LNS_set_epilogue_begin, DW_LNS_set_file, DW_LNS_set_isa, DW_LNS_set_prologue_end}
use Rattle.dwarf_types.specs.declared.address.Addr.TheVariants as addrs
use Rattle.dwarf_types.specs.declared.lines.FileName.{FileName}
use Rattle.dwarf_types.specs.declared.lines.RawRow.{RawRow}
use Rattle.dwarf_types.specs.declared.lines.RawSequence.{RawSequence}
use Rattle.dwarf_types.specs.declared.lines.Row.{Row}
use Rattle.dwarf_types.specs.declared.lines.Sequence.{Sequence}
use Rattle.dwarf_types.specs.Abbreviations.{same_flag}
use Rattle.dwarf_types.specs.LineProgram.{advance_line, advance_pc, append_row, end_sequence, extended, first_address, is_special, registers_after, registers_at, row_bytes, rows_bytes, sequence_bytes, set_address, set_discriminator, set_number, special_opcode, when}
use Rattle.dwarf_types.specs.WellLines.{IsRow, IsSequence, NeverFall}
use Rattle.macho_read.specs.declared.image.Image.{Image}
use Rattle.reloc_table.specs.declared.relocation.Relocs.{Relocs}
use Rattle.line_read.specs.Registers.{lines_on}
use Rattle.line_laws.specs.Again.{read_row, read_sequence}
use Rattle.line_laws.proofs.Items.{At, at_same, passed}
use Rattle.line_laws.proofs.Operations.{going, Steps, file_step, column_step, isa_step, pc_step, line_step, stmt_step, block_step, prologue_step, epilogue_step, copy_step, special_step, discriminator_step, address_step, end_step}

-- a flag that is not turned, and one that is
same : (a b : Bool) → not (same_flag a b) ≡ false → a ≡ b
same true true e = refl
same true false e = absurd cc
same false true e = absurd cc
same false false e = refl

turned : (a b : Bool) → not (same_flag a b) ≡ true → not a ≡ b
turned true true e = absurd cc
turned true false e = refl
turned false true e = refl
turned false false e = absurd cc

-- ---- lines

lines_reach : (step : ℤ) (before line : ℕ) → pos before +ℤ step ≡ pos line → line < 2 ^ 32 → lines_on step before ≡ line
lines_reach step before line sum small =
    let e : int_rem_euclid (pos before +ℤ step) (pos (2 ^ 32)) ≡ pos (line % 2 ^ 32) =
    int_rem_euclid_is (pos before +ℤ step) (pos (2 ^ 32)) (2 ^ 32) 0 line (omega arith) refl (omega (arith, ints, sum)) in
    ap unsigned_abs e ∙ omega (arith, small)

special_reach : (before line d : ℕ) → d + before ≡ line + 5 → pos before +ℤ (negsuc 4 +ℤ pos d) ≡ pos line
special_reach before line d is = omega (arith, ints, is)

step_reach : (before line : ℕ) → pos before +ℤ (pos line -ℤ pos before) ≡ pos line
step_reach before line = omega (arith, ints)

step_fits : (z : ℤ) (x y : ℕ) → z ≡ pos x -ℤ pos y → x < 2 ^ 32 → y < 2 ^ 32 → IsTrue (fits_i64 z)
step_fits (pos n) x y is a b = lt-ltb n (2 ^ 63) (omega (arith, ints, is, a, b))
step_fits (negsuc n) x y is a b = lt-ltb n (2 ^ 63) (omega (arith, ints, is, a, b))

module _ (version : ℕ) (image : Image) (relocs : Relocs) (none : relocs.list ≡ []) (dirs : List (List ℕ)) (files : List FileName) where
  -- where so many bytes are left to be read at most, operations lead from some sequences, rows and registers to others
  abbrev pub Leads : List ℕ → List RawSequence → List RawRow → RawRow → List RawSequence → List RawRow → RawRow → Type 0
  Leads bytes ss rows r new_ss new_rows new_r =
      (k : ℕ) (s : Spot) (more : List ℕ) → At s (bytes ++ more) → length bytes ≤ k
      → (j : ℕ) × (k ≤ j + length bytes) × (going version image relocs none dirs files k ss rows r s ≡ going version image relocs none dirs files j new_ss new_rows new_r (after s (length bytes)))

  module _ (ss : List RawSequence) (rows : List RawRow) (r : RawRow) where
    leads_none : Leads [] ss rows r ss rows r
    leads_none k s more h le =
        let here : s.place ≡ s.place + 0 = omega arith in
        (k, omega arith, ap (λ (p : ℕ). going version image relocs none dirs files k ss rows r (record s { place = p })) here)

    leads_step : (b : ℕ) (bytes : List ℕ) (new_ss : List RawSequence) (new_rows : List RawRow) (new_r : RawRow) → Steps version image relocs none dirs files (b ∷ bytes) ss rows r new_ss new_rows new_r
        → Leads (b ∷ bytes) ss rows r new_ss new_rows new_r
    leads_step b bytes new_ss new_rows new_r step zero s more h le = absurd (omega arith)
    leads_step b bytes new_ss new_rows new_r step (suc k) s more h le = (k, omega arith, step k s more h)

    leads_then : (xs ys : List ℕ) (mid_ss : List RawSequence) (mid_rows : List RawRow) (mid_r : RawRow) (new_ss : List RawSequence) (new_rows : List RawRow) (new_r : RawRow)
        → Leads xs ss rows r mid_ss mid_rows mid_r → Leads ys mid_ss mid_rows mid_r new_ss new_rows new_r → Leads (xs ++ ys) ss rows r new_ss new_rows new_r
    leads_then xs ys mid_ss mid_rows mid_r new_ss new_rows new_r one two k s more h le =
        let len = length-append xs ys in
        let h0 : At s (xs ++ (ys ++ more)) = at_same s _ _ (append_assoc xs ys more) h in
        let a = one k s (ys ++ more) h0 (omega (arith, le, len)) in
        let b = two a.0 (after s (length xs)) more (passed s xs (ys ++ more) h0) (omega (arith, le, len, a.1)) in
        let place : s.place + length xs + length ys ≡ s.place + length (xs ++ ys) = omega (arith, len) in
        (b.0, omega (arith, a.1, b.1, len), a.2 ∙ b.2 ∙ ap (λ (p : ℕ). going version image relocs none dirs files b.0 new_ss new_rows new_r (record s { place = p })) place)

    -- where nothing is written nothing changes
    leads_unless : (same : Bool) (bytes : List ℕ) (new_r : RawRow) → (same ≡ true → r ≡ new_r) → (same ≡ false → Leads bytes ss rows r ss rows new_r) → Leads (if same then [] else bytes) ss rows r ss rows new_r
    leads_unless true bytes new_r kept step = subst (λ (x : RawRow). Leads [] ss rows r ss rows x) (kept refl) leads_none
    leads_unless false bytes new_r kept step = step refl

    leads_when : (wanted : Bool) (code : ℕ) (new_r : RawRow) → (wanted ≡ false → r ≡ new_r) → (wanted ≡ true → Steps version image relocs none dirs files (code ∷ []) ss rows r ss rows new_r)
        → Leads (when wanted code) ss rows r ss rows new_r
    leads_when true code new_r kept step = leads_step code [] ss rows new_r (step refl)
    leads_when false code new_r kept step = subst (λ (x : RawRow). Leads [] ss rows r ss rows x) (kept refl) leads_none

    leads_either : (b : Bool) (xs ys : List ℕ) (new_ss : List RawSequence) (new_rows : List RawRow) (new_r : RawRow)
        → (b ≡ true → Leads xs ss rows r new_ss new_rows new_r) → (b ≡ false → Leads ys ss rows r new_ss new_rows new_r) → Leads (if b then xs else ys) ss rows r new_ss new_rows new_r
    leads_either true xs ys new_ss new_rows new_r first other = first refl
    leads_either false xs ys new_ss new_rows new_r first other = other refl

  -- ---- the registers of a row

  module _ (ss : List RawSequence) (rows : List RawRow) (row : Row) where
    leads_file : (n : ℕ) → n < 2 ^ 64 → Leads (set_number DW_LNS_set_file row.file n) ss rows (read_row row) ss rows (read_row (record row { file = n }))
    leads_file n small =
        leads_unless ss rows (read_row row) (n == row.file) (DW_LNS_set_file ∷ uleb n) (read_row (record row { file = n }))
        (λ e. ap (λ (m : ℕ). read_row (record row { file = m })) (sym (eqb-true n row.file e)))
        (λ e. leads_step ss rows (read_row row) DW_LNS_set_file (uleb n) ss rows (read_row (record row { file = n })) (file_step version image relocs none dirs files ss rows row n small))

    leads_column : (n : ℕ) → n < 2 ^ 64 → Leads (set_number DW_LNS_set_column row.column n) ss rows (read_row row) ss rows (read_row (record row { column = n }))
    leads_column n small =
        leads_unless ss rows (read_row row) (n == row.column) (DW_LNS_set_column ∷ uleb n) (read_row (record row { column = n }))
        (λ e. ap (λ (m : ℕ). read_row (record row { column = m })) (sym (eqb-true n row.column e)))
        (λ e. leads_step ss rows (read_row row) DW_LNS_set_column (uleb n) ss rows (read_row (record row { column = n })) (column_step version image relocs none dirs files ss rows row n small))

    leads_isa : (n : ℕ) → n < 2 ^ 64 → Leads (set_number DW_LNS_set_isa row.isa n) ss rows (read_row row) ss rows (read_row (record row { isa = n }))
    leads_isa n small =
        leads_unless ss rows (read_row row) (n == row.isa) (DW_LNS_set_isa ∷ uleb n) (read_row (record row { isa = n }))
        (λ e. ap (λ (m : ℕ). read_row (record row { isa = m })) (sym (eqb-true n row.isa e)))
        (λ e. leads_step ss rows (read_row row) DW_LNS_set_isa (uleb n) ss rows (read_row (record row { isa = n })) (isa_step version image relocs none dirs files ss rows row n small))

    leads_discriminator : (n : ℕ) → row.discriminator ≡ 0 → n < 2 ^ 64 → Leads (set_discriminator n) ss rows (read_row row) ss rows (read_row (record row { discriminator = n }))
    leads_discriminator n unset small =
        leads_unless ss rows (read_row row) (n == 0) (extended (DW_LNE_set_discriminator ∷ uleb n)) (read_row (record row { discriminator = n }))
        (λ e. ap (λ (m : ℕ). read_row (record row { discriminator = m })) (unset ∙ sym (eqb-true n 0 e)))
        (λ e. leads_step ss rows (read_row row) 0 (uleb (length (DW_LNE_set_discriminator ∷ uleb n)) ++ (DW_LNE_set_discriminator ∷ uleb n)) ss rows (read_row (record row { discriminator = n }))
        (discriminator_step version image relocs none dirs files ss rows row n small))

    leads_stmt : (flag : Bool) → Leads (when (not (same_flag row.is_stmt flag)) DW_LNS_negate_stmt) ss rows (read_row row) ss rows (read_row (record row { is_stmt = flag }))
    leads_stmt flag =
        leads_when ss rows (read_row row) (not (same_flag row.is_stmt flag)) DW_LNS_negate_stmt (read_row (record row { is_stmt = flag }))
        (λ e. ap (λ (b : Bool). read_row (record row { is_stmt = b })) (same row.is_stmt flag e))
        (λ e. subst (λ (b : Bool). Steps version image relocs none dirs files (DW_LNS_negate_stmt ∷ []) ss rows (read_row row) ss rows (read_row (record row { is_stmt = b }))) (turned row.is_stmt flag e)
        (stmt_step version image relocs none dirs files ss rows row))

    leads_block : (flag : Bool) → row.basic_block ≡ false → Leads (when flag DW_LNS_set_basic_block) ss rows (read_row row) ss rows (read_row (record row { basic_block = flag }))
    leads_block flag unset =
        leads_when ss rows (read_row row) flag DW_LNS_set_basic_block (read_row (record row { basic_block = flag }))
        (λ e. ap (λ (b : Bool). read_row (record row { basic_block = b })) (unset ∙ sym e))
        (λ e. subst (λ (b : Bool). Steps version image relocs none dirs files (DW_LNS_set_basic_block ∷ []) ss rows (read_row row) ss rows (read_row (record row { basic_block = b }))) (sym e)
        (block_step version image relocs none dirs files ss rows row))

    leads_prologue : (flag : Bool) → row.prologue_end ≡ false → Leads (when flag DW_LNS_set_prologue_end) ss rows (read_row row) ss rows (read_row (record row { prologue_end = flag }))
    leads_prologue flag unset =
        leads_when ss rows (read_row row) flag DW_LNS_set_prologue_end (read_row (record row { prologue_end = flag }))
        (λ e. ap (λ (b : Bool). read_row (record row { prologue_end = b })) (unset ∙ sym e))
        (λ e. subst (λ (b : Bool). Steps version image relocs none dirs files (DW_LNS_set_prologue_end ∷ []) ss rows (read_row row) ss rows (read_row (record row { prologue_end = b }))) (sym e)
        (prologue_step version image relocs none dirs files ss rows row))

    leads_epilogue : (flag : Bool) → row.epilogue_begin ≡ false → Leads (when flag DW_LNS_set_epilogue_begin) ss rows (read_row row) ss rows (read_row (record row { epilogue_begin = flag }))
    leads_epilogue flag unset =
        leads_when ss rows (read_row row) flag DW_LNS_set_epilogue_begin (read_row (record row { epilogue_begin = flag }))
        (λ e. ap (λ (b : Bool). read_row (record row { epilogue_begin = b })) (unset ∙ sym e))
        (λ e. subst (λ (b : Bool). Steps version image relocs none dirs files (DW_LNS_set_epilogue_begin ∷ []) ss rows (read_row row) ss rows (read_row (record row { epilogue_begin = b }))) (sym e)
        (epilogue_step version image relocs none dirs files ss rows row))

    leads_pc : (address : ℕ) → row.address ≤ address → address < 2 ^ 64 → Leads (advance_pc (address - row.address)) ss rows (read_row row) ss rows (read_row (record row { address = address }))
    leads_pc address le small =
        let n = address - row.address in
        leads_unless ss rows (read_row row) (n == 0) (DW_LNS_advance_pc ∷ uleb n) (read_row (record row { address = address }))
        (λ e. ap (λ (a : ℕ). read_row (record row { address = a })) (let none_left : n ≡ 0 = eqb-true n 0 e in omega (arith, le, none_left)))
        (λ e. leads_step ss rows (read_row row) DW_LNS_advance_pc (uleb n) ss rows (read_row (record row { address = address })) (pc_step version image relocs none dirs files ss rows row n address (omega (arith, le)) small))

    leads_line : (line : ℕ) → row.line < 2 ^ 32 → line < 2 ^ 32 → Leads (advance_line row.line line) ss rows (read_row row) ss rows (read_row (record row { line = line }))
    leads_line line was small =
        let z = pos line -ℤ pos row.line in
        leads_unless ss rows (read_row row) (line == row.line) (DW_LNS_advance_line ∷ sleb z) (read_row (record row { line = line }))
        (λ e. ap (λ (n : ℕ). read_row (record row { line = n })) (sym (eqb-true line row.line e)))
        (λ e. leads_step ss rows (read_row row) DW_LNS_advance_line (sleb z) ss rows (read_row (record row { line = line }))
        (line_step version image relocs none dirs files ss rows row z line (step_fits z line row.line refl small was) (lines_reach z row.line line (step_reach row.line line) small)))

  -- ---- a row

  -- what appends a row, where all but its line and address are set
  module _ (ss : List RawSequence) (rows : List RawRow) (row : Row) (line address : ℕ) (sound : IsRow row) (was : line < 2 ^ 32) (rises : address ≤ row.address) where
    abbrev before : Row
    before = record row { line = line; address = address }

    abbrev with_line : Row
    with_line = record row { address = address }

    leads_special : is_special before row ≡ true → Leads (special_opcode before row ∷ []) ss rows (read_row before) ss (rows ++ read_row row ∷ []) (read_row (registers_after row))
    leads_special e =
        let a = and_parts (nat_le line (row.line + 5) && nat_le row.line (line + 8)) (nat_le (special_opcode before row) 255) e in
        let b = and_parts (nat_le line (row.line + 5)) (nat_le row.line (line + 8)) a.0 in
        let low : line ≤ row.line + 5 = leb-true _ _ b.0 in
        let high : row.line ≤ line + 8 = leb-true _ _ b.1 in
        let d = row.line + 5 - line in
        let n = row.address - address in
        leads_step ss rows (read_row before) (special_opcode before row) [] ss (rows ++ read_row row ∷ []) (read_row (registers_after row))
        (special_step version image relocs none dirs files ss rows before (special_opcode before row) d n row.line row.address refl (omega (arith, high)) (omega (arith, rises)) sound.address
        (lines_reach (negsuc 4 +ℤ pos d) line row.line (special_reach line row.line d (omega (arith, low))) sound.line))

    leads_copy : Leads (advance_line line row.line ++ (advance_pc (row.address - address) ++ (DW_LNS_copy ∷ []))) ss rows (read_row before) ss (rows ++ read_row row ∷ []) (read_row (registers_after row))
    leads_copy =
        leads_then ss rows (read_row before) (advance_line line row.line) (advance_pc (row.address - address) ++ (DW_LNS_copy ∷ [])) ss rows (read_row with_line) ss (rows ++ read_row row ∷ []) (read_row (registers_after row))
        (leads_line ss rows before row.line was sound.line)
        (leads_then ss rows (read_row with_line) (advance_pc (row.address - address)) (DW_LNS_copy ∷ []) ss rows (read_row row) ss (rows ++ read_row row ∷ []) (read_row (registers_after row))
        (leads_pc ss rows with_line row.address rises sound.address)
        (leads_step ss rows (read_row row) DW_LNS_copy [] ss (rows ++ read_row row ∷ []) (read_row (registers_after row)) (copy_step version image relocs none dirs files ss rows row)))

    leads_append : Leads (append_row before row) ss rows (read_row before) ss (rows ++ read_row row ∷ []) (read_row (registers_after row))
    leads_append =
        leads_either ss rows (read_row before) (is_special before row) (special_opcode before row ∷ []) (advance_line line row.line ++ (advance_pc (row.address - address) ++ (DW_LNS_copy ∷ [])))
        ss (rows ++ read_row row ∷ []) (read_row (registers_after row)) leads_special (λ e. leads_copy)

  -- a row behind another one, or behind the beginning of its sequence
  module _ (ss : List RawSequence) (rows : List RawRow) (b row : Row) (sound : IsRow row) (was : b.line < 2 ^ 32) (rises : b.address ≤ row.address) where
    abbrev c0 : Row
    c0 = registers_after b

    abbrev c1 : Row
    c1 = record c0 { file = row.file }

    abbrev c2 : Row
    c2 = record c1 { column = row.column }

    abbrev c3 : Row
    c3 = record c2 { discriminator = row.discriminator }

    abbrev c4 : Row
    c4 = record c3 { isa = row.isa }

    abbrev c5 : Row
    c5 = record c4 { is_stmt = row.is_stmt }

    abbrev c6 : Row
    c6 = record c5 { basic_block = row.basic_block }

    abbrev c7 : Row
    c7 = record c6 { prologue_end = row.prologue_end }

    abbrev c8 : Row
    c8 = record c7 { epilogue_begin = row.epilogue_begin }

    abbrev To : List ℕ → Row → Type 0
    To bytes from = Leads bytes ss rows (read_row from) ss (rows ++ read_row row ∷ []) (read_row (registers_after row))

    abbrev then_to : (xs ys : List ℕ) (from mid : Row) → Leads xs ss rows (read_row from) ss rows (read_row mid) → To ys mid → To (xs ++ ys) from
    then_to xs ys from mid one two = leads_then ss rows (read_row from) xs ys ss rows (read_row mid) ss (rows ++ read_row row ∷ []) (read_row (registers_after row)) one two

    leads_row : To (row_bytes c0 row) c0
    leads_row =
        then_to _ _ c0 c1 (leads_file ss rows c0 row.file sound.file)
        (then_to _ _ c1 c2 (leads_column ss rows c1 row.column sound.column)
        (then_to _ _ c2 c3 (leads_discriminator ss rows c2 row.discriminator refl sound.discriminator)
        (then_to _ _ c3 c4 (leads_isa ss rows c3 row.isa sound.isa)
        (then_to _ _ c4 c5 (leads_stmt ss rows c4 row.is_stmt)
        (then_to _ _ c5 c6 (leads_block ss rows c5 row.basic_block refl)
        (then_to _ _ c6 c7 (leads_prologue ss rows c6 row.prologue_end refl)
        (then_to _ _ c7 c8 (leads_epilogue ss rows c7 row.epilogue_begin refl)
        (leads_append ss rows row b.line b.address sound was rises))))))))

  -- ---- sequences

  abbrev start : RawRow
  start = read_row (registers_at 0)

  module _ (ss : List RawSequence) where
    abbrev ended_at : List RawRow → ℕ → List RawSequence
    ended_at rows end = ss ++ record { rows = rows; end = Some (addrs.Fixed end) } ∷ []

    leads_end : (rows : List RawRow) (b : Row) (end : ℕ) → b.address ≤ end → end < 2 ^ 64
        → Leads (rows_bytes (registers_after b) [] end) ss rows (read_row (registers_after b)) (ended_at rows end) [] start
    leads_end rows b end rises small =
        let last : Row = record (registers_after b) { address = end } in
        leads_then ss rows (read_row (registers_after b)) (advance_pc (end - b.address)) end_sequence ss rows (read_row last) (ended_at rows end) [] start
        (leads_pc ss rows (registers_after b) end rises small)
        (leads_step ss rows (read_row last) 0 (uleb (length (DW_LNE_end_sequence ∷ [])) ++ (DW_LNE_end_sequence ∷ [])) (ended_at rows end) [] start (end_step version image relocs none dirs files ss rows last))

    leads_rows : (list : List Row) (rows : List RawRow) (b : Row) (end : ℕ) → All IsRow list → NeverFall b.address list end → end < 2 ^ 64 → b.line < 2 ^ 32
        → Leads (rows_bytes (registers_after b) list end) ss rows (read_row (registers_after b)) (ended_at (rows ++ map read_row list) end) [] start
    leads_rows [] rows b end sound order small was =
        subst (λ (xs : List RawRow). Leads (rows_bytes (registers_after b) [] end) ss rows (read_row (registers_after b)) (ended_at xs end) [] start) (sym (append-nil rows)) (leads_end rows b end order small)
    leads_rows (row ∷ list) rows b end sound order small was =
        let is : IsRow row = All-head IsRow row list sound in
        let later = leads_rows list (rows ++ read_row row ∷ []) row end (All-tail IsRow row list sound) order.1 small is.line in
        leads_then ss rows (read_row (registers_after b)) (row_bytes (registers_after b) row) (rows_bytes (registers_after row) list end) ss (rows ++ read_row row ∷ []) (read_row (registers_after row))
        (ended_at (rows ++ read_row row ∷ map read_row list) end) [] start
        (leads_row ss rows b row is was order.0)
        (subst (λ (xs : List RawRow). Leads (rows_bytes (registers_after row) list end) ss (rows ++ read_row row ∷ []) (read_row (registers_after row)) (ended_at xs end) [] start)
        (append_assoc rows (read_row row ∷ []) (map read_row list)) later)

    leads_from : (list : List Row) (end : ℕ) → 0 < length list → All IsRow list → NeverFall 0 list end → end < 2 ^ 64
        → Leads (set_address (first_address list) ++ rows_bytes (registers_at (first_address list)) list end) ss [] start (ended_at (map read_row list) end) [] start
    leads_from [] end some sound order small = absurd (omega arith)
    leads_from (row ∷ list) end some sound order small =
        let is : IsRow row = All-head IsRow row list sound in
        let first = row.address in
        let body : List ℕ = DW_LNE_set_address ∷ little_bytes 8 first in
        leads_then ss [] start (set_address first) (rows_bytes (registers_at first) (row ∷ list) end) ss [] (read_row (registers_at first)) (ended_at (map read_row (row ∷ list)) end) [] start
        (leads_step ss [] start 0 (uleb (length body) ++ body) ss [] (read_row (registers_at first)) (address_step version image relocs none dirs files ss [] (registers_at 0) first is.address))
        (leads_rows (row ∷ list) [] (registers_at first) end sound (omega arith, order.1) small (omega arith))

  leads_program : (sequences : List Sequence) (ss : List RawSequence) → All IsSequence sequences → Leads (flat_map sequence_bytes sequences) ss [] start (ss ++ map read_sequence sequences) [] start
  leads_program [] ss sound = subst (λ (xs : List RawSequence). Leads [] ss [] start xs [] start) (sym (append-nil ss)) (leads_none ss [] start)
  leads_program (sequence ∷ sequences) ss sound =
      let is : IsSequence sequence = All-head IsSequence sequence sequences sound in
      leads_then ss [] start (sequence_bytes sequence) (flat_map sequence_bytes sequences) (ss ++ read_sequence sequence ∷ []) [] start (ss ++ read_sequence sequence ∷ map read_sequence sequences) [] start
      (leads_from ss sequence.rows sequence.end is.some is.rows is.order is.end)
      (subst (λ (xs : List RawSequence). Leads (flat_map sequence_bytes sequences) (ss ++ read_sequence sequence ∷ []) [] start xs [] start)
      (append_assoc ss (read_sequence sequence ∷ []) (map read_sequence sequences)) (leads_program sequences (ss ++ read_sequence sequence ∷ []) (All-tail IsSequence sequence sequences sound)))

  -- nothing is left
  all_done : (k : ℕ) (ss : List RawSequence) (s : Spot) → At s [] → going version image relocs none dirs files k ss [] start s ≡ Ok (record { dirs = dirs; files = files; sequences = ss })
  all_done zero ss s h =
      let done : s.end - s.place ≡ 0 = omega (arith, h.end_is) in
      rw (done, append-nil ss) refl
  all_done (suc k) ss s h =
      let done : s.end - s.place ≡ 0 = omega (arith, h.end_is) in
      rw (done, append-nil ss) refl

  -- a program is read from its first byte to its last
  pub program_again : (sequences : List Sequence) (s : Spot) → All IsSequence sequences → At s (flat_map sequence_bytes sequences)
      → going version image relocs none dirs files (s.end - s.place) [] [] start s ≡ Ok (record { dirs = dirs; files = files; sequences = map read_sequence sequences })
  program_again sequences s sound h =
      let bytes = flat_map sequence_bytes sequences in
      let whole : At s (bytes ++ []) = at_same s bytes (bytes ++ []) (sym (append-nil bytes)) h in
      let run = leads_program sequences [] sound (s.end - s.place) s [] whole (omega (arith, h.end_is)) in
      run.2 ∙ all_done run.0 (map read_sequence sequences) (after s (length bytes)) (passed s bytes [] whole)
