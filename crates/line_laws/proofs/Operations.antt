-- What each operation of a written program makes of the registers.
use Rattle.std.proofs.Common.{◌≡◌, ℕ, suc, ◌+◌, ◌-◌, ◌*◌, ◌/◌, ◌%◌, ◌^◌, ◌<◌, ℤ, pos, ◌+ℤ◌, IsTrue, true, false, not, negsuc, List, [], ◌∷◌, ◌++◌, length, Some, None, Result, Ok, refl, sym, ap, append_assoc, append-nil, length-append, arith}
use Rattle.std.specs.Prelude.{◌==◌, nat_le}
use Rattle.std.proofs.lemmas.Bool.{ne_eqb}
use Rattle.byteorder.specs.Endian.{little_bytes}
use Rattle.ds_base.specs.DwarfNumbers.{DW_LNE_end_sequence, DW_LNE_set_address, DW_LNE_set_discriminator, DW_LNS_advance_line, DW_LNS_advance_pc, DW_LNS_copy, DW_LNS_negate_stmt, DW_LNS_set_basic_block, DW_LNS_set_column, DW_LNS_set_epilogue_begin, DW_LNS_set_file, DW_LNS_set_isa, DW_LNS_set_prologue_end}
use Rattle.ds_base.specs.Leb.{uleb, sleb, fits_i64}
use Rattle.ds_base.specs.Reading.{◌>>=◌}
use Rattle.ds_base.specs.declared.fault.Fault.{Fault}
use Rattle.ds_base.specs.Spot.{Spot, after}
use Rattle.ds_base.proofs.LebLengths.{few_digits, length-uleb}
use Rattle.dwarf_types.specs.declared.address.Addr.TheVariants as addrs
use Rattle.dwarf_types.specs.declared.lines.FileName.{FileName}
use Rattle.dwarf_types.specs.declared.lines.RawLines.{RawLines}
use Rattle.dwarf_types.specs.declared.lines.RawRow.{RawRow}
use Rattle.dwarf_types.specs.declared.lines.RawSequence.{RawSequence}
use Rattle.dwarf_types.specs.declared.lines.Row.{Row}
use Rattle.dwarf_types.specs.LineProgram.{end_sequence, extended, registers_after, registers_at, set_address}
use Rattle.dwarf_types.specs.LineTable.{standard_opcode_lengths}
use Rattle.macho_read.specs.declared.image.Image.{Image}
use Rattle.reloc_table.specs.declared.relocation.Relocs.{Relocs}
use Rattle.reloc_table.specs.Address.{address_of}
use Rattle.line_read.specs.Codes.{standard_of, extended_of}
use Rattle.line_read.specs.Operation.{op_at, low_at, standard_at, extended_at, part_at, body_at, filled_at, operands_at}
use Rattle.line_read.specs.Pass.{run_at, step_of, row_at, end_at, finished}
use Rattle.line_read.specs.Registers.{changed, lines_on}
use Rattle.line_laws.specs.Again.{read_row}
use Rattle.line_laws.proofs.Items.{At, at_same, passed, narrowed, byte_again, bytes_again, number_again, uleb_again, sleb_again}

some_left : (b : ℕ) (s : Spot) (more : List ℕ) → At s (b ∷ more) → (s.end - s.place == 0) ≡ false
some_left b s more h = ne_eqb (s.end - s.place) 0 (λ e. omega (arith, h.end_is))

-- a place behind a code and its operand
behind_code : (place n : ℕ) → place + 1 + n ≡ place + suc n
behind_code place n = omega arith

fixed_address : (image : Image) (relocs : Relocs) → relocs.list ≡ [] → (place n : ℕ) → address_of image relocs place n ≡ addrs.Fixed n
unfolding address_of
fixed_address image relocs none place n = rw none refl

module _ (version : ℕ) (image : Image) (relocs : Relocs) (none : relocs.list ≡ []) (dirs : List (List ℕ)) (files : List FileName) where
  -- what is made of all that is left, where these sequences have ended, these rows are open, and the registers stand so
  abbrev pub going : ℕ → List RawSequence → List RawRow → RawRow → Spot → Result RawLines Fault
  going count sequences rows registers s =
      run_at
      (op_at (record { version = version; minimum_instruction_length = 1; default_is_stmt = true; line_base = negsuc 4; line_range = 14; opcode_base = 13; standard_opcode_lengths = standard_opcode_lengths }) image relocs)
      (record { version = version; minimum_instruction_length = 1; default_is_stmt = true; line_base = negsuc 4; line_range = 14; opcode_base = 13; standard_opcode_lengths = standard_opcode_lengths })
      count (record { files = files; built = record { ended = sequences; rows = rows }; registers = registers; last = None }) s >>= λ m. Ok (finished dirs m)

  -- bytes are an operation that leads from some sequences, rows and registers to others
  abbrev pub Steps : List ℕ → List RawSequence → List RawRow → RawRow → List RawSequence → List RawRow → RawRow → Type 0
  Steps bytes ss rows r new_ss new_rows new_r = (k : ℕ) (s : Spot) (more : List ℕ) → At s (bytes ++ more) → going (suc k) ss rows r s ≡ going k new_ss new_rows new_r (after s (length bytes))

  pub file_step : (ss : List RawSequence) (rows : List RawRow) (row : Row) (n : ℕ) → n < 2 ^ 64 → Steps (DW_LNS_set_file ∷ uleb n) ss rows (read_row row) ss rows (read_row (record row { file = n }))
  unfolding op_at low_at standard_of standard_at step_of changed
  file_step ss rows row n small k s more h =
      rw (
        some_left DW_LNS_set_file s (uleb n ++ more) h,
        byte_again DW_LNS_set_file s (uleb n ++ more) h,
        uleb_again n (after s 1) more small (passed s (DW_LNS_set_file ∷ []) (uleb n ++ more) h),
        behind_code s.place (length (uleb n)),
      ) refl

  pub column_step : (ss : List RawSequence) (rows : List RawRow) (row : Row) (n : ℕ) → n < 2 ^ 64 → Steps (DW_LNS_set_column ∷ uleb n) ss rows (read_row row) ss rows (read_row (record row { column = n }))
  unfolding op_at low_at standard_of standard_at step_of changed
  column_step ss rows row n small k s more h =
      rw (
        some_left DW_LNS_set_column s (uleb n ++ more) h,
        byte_again DW_LNS_set_column s (uleb n ++ more) h,
        uleb_again n (after s 1) more small (passed s (DW_LNS_set_column ∷ []) (uleb n ++ more) h),
        behind_code s.place (length (uleb n)),
      ) refl

  pub isa_step : (ss : List RawSequence) (rows : List RawRow) (row : Row) (n : ℕ) → n < 2 ^ 64 → Steps (DW_LNS_set_isa ∷ uleb n) ss rows (read_row row) ss rows (read_row (record row { isa = n }))
  unfolding op_at low_at standard_of standard_at step_of changed
  isa_step ss rows row n small k s more h =
      rw (
        some_left DW_LNS_set_isa s (uleb n ++ more) h,
        byte_again DW_LNS_set_isa s (uleb n ++ more) h,
        uleb_again n (after s 1) more small (passed s (DW_LNS_set_isa ∷ []) (uleb n ++ more) h),
        behind_code s.place (length (uleb n)),
      ) refl

  pub pc_step : (ss : List RawSequence) (rows : List RawRow) (row : Row) (n address : ℕ) → row.address + n ≡ address → address < 2 ^ 64
      → Steps (DW_LNS_advance_pc ∷ uleb n) ss rows (read_row row) ss rows (read_row (record row { address = address }))
  unfolding op_at low_at standard_of standard_at step_of changed
  pc_step ss rows row n address sum small k s more h =
      let on : (row.address + 1 * n) % 2 ^ 64 ≡ address = omega (arith, sum, small) in
      rw (
        some_left DW_LNS_advance_pc s (uleb n ++ more) h,
        byte_again DW_LNS_advance_pc s (uleb n ++ more) h,
        uleb_again n (after s 1) more (omega (arith, sum, small)) (passed s (DW_LNS_advance_pc ∷ []) (uleb n ++ more) h),
        behind_code s.place (length (uleb n)),
        on,
      ) refl

  pub line_step : (ss : List RawSequence) (rows : List RawRow) (row : Row) (z : ℤ) (line : ℕ) → IsTrue (fits_i64 z) → lines_on z row.line ≡ line
      → Steps (DW_LNS_advance_line ∷ sleb z) ss rows (read_row row) ss rows (read_row (record row { line = line }))
  unfolding op_at low_at standard_of standard_at step_of changed
  line_step ss rows row z line fits on k s more h =
      rw (
        some_left DW_LNS_advance_line s (sleb z ++ more) h,
        byte_again DW_LNS_advance_line s (sleb z ++ more) h,
        sleb_again z (after s 1) more fits (passed s (DW_LNS_advance_line ∷ []) (sleb z ++ more) h),
        behind_code s.place (length (sleb z)),
        on,
      ) refl

  pub stmt_step : (ss : List RawSequence) (rows : List RawRow) (row : Row) → Steps (DW_LNS_negate_stmt ∷ []) ss rows (read_row row) ss rows (read_row (record row { is_stmt = not row.is_stmt }))
  unfolding op_at low_at standard_of standard_at step_of changed
  stmt_step ss rows row k s more h = rw (some_left DW_LNS_negate_stmt s more h, byte_again DW_LNS_negate_stmt s more h) refl

  pub block_step : (ss : List RawSequence) (rows : List RawRow) (row : Row) → Steps (DW_LNS_set_basic_block ∷ []) ss rows (read_row row) ss rows (read_row (record row { basic_block = true }))
  unfolding op_at low_at standard_of standard_at step_of changed
  block_step ss rows row k s more h = rw (some_left DW_LNS_set_basic_block s more h, byte_again DW_LNS_set_basic_block s more h) refl

  pub prologue_step : (ss : List RawSequence) (rows : List RawRow) (row : Row) → Steps (DW_LNS_set_prologue_end ∷ []) ss rows (read_row row) ss rows (read_row (record row { prologue_end = true }))
  unfolding op_at low_at standard_of standard_at step_of changed
  prologue_step ss rows row k s more h = rw (some_left DW_LNS_set_prologue_end s more h, byte_again DW_LNS_set_prologue_end s more h) refl

  pub epilogue_step : (ss : List RawSequence) (rows : List RawRow) (row : Row) → Steps (DW_LNS_set_epilogue_begin ∷ []) ss rows (read_row row) ss rows (read_row (record row { epilogue_begin = true }))
  unfolding op_at low_at standard_of standard_at step_of changed
  epilogue_step ss rows row k s more h = rw (some_left DW_LNS_set_epilogue_begin s more h, byte_again DW_LNS_set_epilogue_begin s more h) refl

  pub copy_step : (ss : List RawSequence) (rows : List RawRow) (row : Row) → Steps (DW_LNS_copy ∷ []) ss rows (read_row row) ss (rows ++ read_row row ∷ []) (read_row (registers_after row))
  unfolding op_at low_at standard_of standard_at step_of row_at changed
  copy_step ss rows row k s more h = rw (some_left DW_LNS_copy s more h, byte_again DW_LNS_copy s more h) refl

  -- by its code less opcode_base, which is a step of the line from -5 on and 14 times one of the address
  pub special_step : (ss : List RawSequence) (rows : List RawRow) (before : Row) (opcode d n line address : ℕ) → opcode ≡ d + 14 * n + 13 → d < 14 → before.address + n ≡ address → address < 2 ^ 64
      → lines_on (negsuc 4 +ℤ pos d) before.line ≡ line
      → Steps (opcode ∷ []) ss rows (read_row before) ss (rows ++ read_row (record before { line = line; address = address }) ∷ []) (read_row (registers_after (record before { line = line; address = address })))
  unfolding op_at step_of row_at changed
  special_step ss rows before opcode d n line address is few sum small on k s more h =
      let high : nat_le 13 opcode ≡ true = grind arith in
      let above : (opcode - 13) / 14 ≡ n = omega (arith, is, few) in
      let left : (opcode - 13) % 14 ≡ d = omega (arith, is, few) in
      let to : (before.address + 1 * n) % 2 ^ 64 ≡ address = omega (arith, sum, small) in
      rw (some_left opcode s more h, byte_again opcode s more h, high, above, left, to, on) refl

  -- ---- extended operations

  -- nothing is left where an operand ends its operation
  full : (place n : ℕ) → place + suc n - (place + 1 + n) ≡ 0
  full place n = omega arith

  nothing : (place : ℕ) → place + 1 - (place + 1) ≡ 0
  nothing place = omega arith

  -- behind the zero, the length and the body
  behind_body : (place : ℕ) (bytes body : List ℕ) → place + 1 + length bytes + length body ≡ place + suc (length (bytes ++ body))
  behind_body place bytes body = omega (arith, length-append bytes body)

  pub discriminator_step : (ss : List RawSequence) (rows : List RawRow) (row : Row) (n : ℕ) → n < 2 ^ 64
      → Steps (extended (DW_LNE_set_discriminator ∷ uleb n)) ss rows (read_row row) ss rows (read_row (record row { discriminator = n }))
  unfolding op_at extended_at part_at body_at filled_at operands_at extended_of step_of changed
  discriminator_step ss rows row n small k s more h =
      let body : List ℕ = DW_LNE_set_discriminator ∷ uleb n in
      let len = length (uleb (length body)) in
      let h0 : At s (0 ∷ (uleb (length body) ++ (body ++ more))) = at_same s _ _ (ap (λ (xs : List ℕ). 0 ∷ xs) (append_assoc (uleb (length body)) body more)) h in
      let h1 = passed s (0 ∷ []) (uleb (length body) ++ (body ++ more)) h0 in
      let h2 = passed (after s 1) (uleb (length body)) (body ++ more) h1 in
      let h3 = narrowed (after (after s 1) len) body more h2 in
      let b : Spot = record s { place = s.place + 1 + len; end = s.place + 1 + len + length body } in
      let h4 = passed b (DW_LNE_set_discriminator ∷ []) (uleb n) h3 in
      rw (
        some_left 0 s (uleb (length body) ++ (body ++ more)) h0,
        byte_again 0 s (uleb (length body) ++ (body ++ more)) h0,
        uleb_again (length body) (after s 1) (body ++ more) (omega (arith, length-uleb n, few_digits n)) h1,
        ne_eqb (length body) 0 (λ e. omega (arith, e)),
        bytes_again (after (after s 1) len) body more h2,
        byte_again DW_LNE_set_discriminator b (uleb n) h3,
        uleb_again n (after b 1) [] small (at_same (after b 1) (uleb n) (uleb n ++ []) (sym (append-nil (uleb n))) h4),
        full (s.place + 1 + len) (length (uleb n)),
        behind_body s.place (uleb (length body)) body,
      ) refl

  pub address_step : (ss : List RawSequence) (rows : List RawRow) (row : Row) (address : ℕ) → address < 2 ^ 64 → Steps (set_address address) ss rows (read_row row) ss rows (read_row (record row { address = address }))
  unfolding op_at extended_at part_at body_at filled_at operands_at extended_of step_of changed
  address_step ss rows row address small k s more h =
      let body : List ℕ = DW_LNE_set_address ∷ little_bytes 8 address in
      let len = length (uleb (length body)) in
      let h0 : At s (0 ∷ (uleb (length body) ++ (body ++ more))) = at_same s _ _ (ap (λ (xs : List ℕ). 0 ∷ xs) (append_assoc (uleb (length body)) body more)) h in
      let h1 = passed s (0 ∷ []) (uleb (length body) ++ (body ++ more)) h0 in
      let h2 = passed (after s 1) (uleb (length body)) (body ++ more) h1 in
      let h3 = narrowed (after (after s 1) len) body more h2 in
      let b : Spot = record s { place = s.place + 1 + len; end = s.place + 1 + len + length body } in
      let h4 = passed b (DW_LNE_set_address ∷ []) (little_bytes 8 address) h3 in
      rw (
        some_left 0 s (uleb (length body) ++ (body ++ more)) h0,
        byte_again 0 s (uleb (length body) ++ (body ++ more)) h0,
        uleb_again (length body) (after s 1) (body ++ more) (omega arith) h1,
        bytes_again (after (after s 1) len) body more h2,
        byte_again DW_LNE_set_address b (little_bytes 8 address) h3,
        number_again 8 address (after b 1) [] small (at_same (after b 1) (little_bytes 8 address) (little_bytes 8 address ++ []) (sym (append-nil (little_bytes 8 address))) h4),
        full (s.place + 1 + len) 8,
        fixed_address image relocs none (s.place + 1 + len + 1) address,
        behind_body s.place (uleb (length body)) body,
      ) refl

  pub end_step : (ss : List RawSequence) (rows : List RawRow) (row : Row) → Steps end_sequence ss rows (read_row row) (ss ++ record { rows = rows; end = Some (addrs.Fixed row.address) } ∷ []) [] (read_row (registers_at 0))
  unfolding op_at extended_at part_at body_at filled_at operands_at extended_of step_of end_at changed
  end_step ss rows row k s more h =
      let body : List ℕ = DW_LNE_end_sequence ∷ [] in
      let len = length (uleb (length body)) in
      let h0 : At s (0 ∷ (uleb (length body) ++ (body ++ more))) = at_same s _ _ (ap (λ (xs : List ℕ). 0 ∷ xs) (append_assoc (uleb (length body)) body more)) h in
      let h1 = passed s (0 ∷ []) (uleb (length body) ++ (body ++ more)) h0 in
      let h2 = passed (after s 1) (uleb (length body)) (body ++ more) h1 in
      let h3 = narrowed (after (after s 1) len) body more h2 in
      let b : Spot = record s { place = s.place + 1 + len; end = s.place + 1 + len + length body } in
      rw (
        some_left 0 s (uleb (length body) ++ (body ++ more)) h0,
        byte_again 0 s (uleb (length body) ++ (body ++ more)) h0,
        uleb_again (length body) (after s 1) (body ++ more) (omega arith) h1,
        bytes_again (after (after s 1) len) body more h2,
        byte_again DW_LNE_end_sequence b [] h3,
        nothing (s.place + 1 + len),
        behind_body s.place (uleb (length body)) body,
      ) refl
