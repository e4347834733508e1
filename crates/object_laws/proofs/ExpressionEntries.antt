-- Operations that name an entry of the table of addresses: what becomes of them holds the entry in eight bytes.
use Rattle.std.proofs.Common.{◌≡◌, ℕ, ◌+◌, ◌-◌, ◌^◌, ◌<◌, ◌≤◌, ◌∙◌, ◌||◌, Bool, true, false, List, [], ◌∷◌, ◌++◌, length, take, drop, append-nil, length-append, Option, Some, None, IfSome, Ok, refl, sym, ap, subst, arith, inl, inr}
use Rattle.std.specs.Prelude.{◌==◌, if◌then◌else◌}
use Rattle.std.specs.Option.{unwrap_or}
use Rattle.std.proofs.lemmas.List.{length-drop, length-take, take_all}
use Rattle.std.proofs.lemmas.Bool.{le-ltb}
use Rattle.byteorder.specs.Endian.{little_bytes, little_number}
use Rattle.byteorder.specs.Numbers.{length-bytes_low_first}
use Rattle.ds_base.specs.declared.fault.Part.TheVariants as parts
use Rattle.ds_base.specs.Reading.{number_at}
use Rattle.ds_base.specs.Spot.{Spot, after, rest, start}
use Rattle.ds_base.specs.DwarfNumbers.{DW_OP_GNU_entry_value, DW_OP_addr, DW_OP_addrx, DW_OP_bit_piece, DW_OP_bra, DW_OP_breg0, DW_OP_breg31, DW_OP_bregx, DW_OP_call2, DW_OP_call4, DW_OP_call_ref, DW_OP_const1s, DW_OP_const1u, DW_OP_const2s, DW_OP_const2u, DW_OP_const4s, DW_OP_const4u, DW_OP_const8s, DW_OP_const8u, DW_OP_const_type, DW_OP_consts, DW_OP_constu, DW_OP_constx, DW_OP_convert, DW_OP_deref_size, DW_OP_deref_type, DW_OP_entry_value, DW_OP_fbreg, DW_OP_implicit_pointer, DW_OP_implicit_value, DW_OP_pick, DW_OP_piece, DW_OP_plus_uconst, DW_OP_regval_type, DW_OP_regx, DW_OP_reinterpret, DW_OP_skip, DW_OP_xderef_size, DW_OP_xderef_type}
use Rattle.dwarf_types.specs.declared.address.Addr.{Addr}
use Rattle.dwarf_types.specs.declared.address.Place.{Place}
use Rattle.dwarf_types.specs.declared.operands.Named.{Named}
use Rattle.dwarf_types.specs.declared.operands.Named.TheVariants.{Address, Index, Nothing}
use Rattle.dwarf_types.specs.declared.operands.Operands.{Operands}
use Rattle.dwarf_types.specs.declared.operands.Operands.TheVariants as operands
use Rattle.dwarf_types.specs.Operations.{has_no_operands, is_within, operands_of}
use Rattle.dwarf_types.specs.Spelled.{AreBytes, IsNumber}
use Rattle.dwarf_types.specs.SpelledOperands.{SpellsOperands}
use Rattle.dwarf_types.proofs.Readers.{AreBytes-from, IsBytes, IsBytes-drop, IsBytes-from, IsBytes-take, Stands, number_reader}
use Rattle.addr_map.specs.declared.map.AddrMap.{AddrMap}
use Rattle.addr_map.specs.Moved.{moved}
use Rattle.addr_map.specs.Sound.{IsSound as IsSoundMap}
use Rattle.expr_walk.specs.Reading.{base_in}
use Rattle.index_tables.specs.Tables.{stored}
use Rattle.moved_parts.specs.Places.{place_of}
use Rattle.reloc_table.specs.Address.{address_of}
use Rattle.expr_resolve.specs.Context.{Context}
use Rattle.expr_resolve.specs.Expressions.{entry_address, entry_meant, held, names_entry}
use Rattle.expr_resolve.proofs.Entries.{addr_row, const8u_row}
use Rattle.object_laws.proofs.ExpressionOperations.{AddressFits, IsEight, IsMeant, linked_number}
use Rattle.object_laws.proofs.FramesMoved.{Fits, moved_fits}

-- ---- the row of the table

skip : (b : Bool) (row : Operands) (rest : Option Operands) → (row ≡ operands.Index → ⊥) → (if b then Some row else rest) ≡ Some operands.Index → rest ≡ Some operands.Index
skip true row rest other e = absurd (other cc)
skip false row rest other e = e

index_if : (b : Bool) → (if b then Some operands.Index else None) ≡ Some operands.Index → b ≡ true
index_if true e = refl
index_if false e = absurd cc

-- two codes alone have the row
pub index_names : (code : ℕ) → operands_of code ≡ Some operands.Index → names_entry code ≡ true
unfolding operands_of
index_names code e =
    index_if (code == DW_OP_addrx || code == DW_OP_constx)
    (skip (code == DW_OP_implicit_pointer || code == DW_OP_xderef_type) operands.Outside _ (λ is. cc)
    (skip (code == DW_OP_call2 || code == DW_OP_call4 || code == DW_OP_call_ref) operands.Outside _ (λ is. cc)
    (skip (code == DW_OP_convert || code == DW_OP_reinterpret) operands.Base _ (λ is. cc)
    (skip (code == DW_OP_deref_type) operands.ByteBase _ (λ is. cc)
    (skip (code == DW_OP_regval_type) operands.UlebBase _ (λ is. cc)
    (skip (code == DW_OP_const_type) operands.BaseBlock _ (λ is. cc)
    (skip (code == DW_OP_entry_value || code == DW_OP_GNU_entry_value) operands.Expression _ (λ is. cc)
    (skip (code == DW_OP_implicit_value) operands.Block _ (λ is. cc)
    (skip (code == DW_OP_bit_piece) operands.UlebUleb _ (λ is. cc)
    (skip (code == DW_OP_bregx) operands.UlebSleb _ (λ is. cc)
    (skip (is_within DW_OP_breg0 DW_OP_breg31 code) operands.Sleb _ (λ is. cc)
    (skip (code == DW_OP_consts || code == DW_OP_fbreg) operands.Sleb _ (λ is. cc)
    (skip (code == DW_OP_regx || code == DW_OP_piece) operands.Uleb _ (λ is. cc)
    (skip (code == DW_OP_constu || code == DW_OP_plus_uconst) operands.Uleb _ (λ is. cc)
    (skip (code == DW_OP_const8u || code == DW_OP_const8s) (operands.Fixed 8) _ (λ is. cc)
    (skip (code == DW_OP_const4u || code == DW_OP_const4s) (operands.Fixed 4) _ (λ is. cc)
    (skip (code == DW_OP_skip || code == DW_OP_bra) (operands.Fixed 2) _ (λ is. cc)
    (skip (code == DW_OP_const2u || code == DW_OP_const2s) (operands.Fixed 2) _ (λ is. cc)
    (skip (code == DW_OP_deref_size || code == DW_OP_xderef_size) (operands.Fixed 1) _ (λ is. cc)
    (skip (code == DW_OP_const1u || code == DW_OP_const1s || code == DW_OP_pick) (operands.Fixed 1) _ (λ is. cc)
    (skip (code == DW_OP_addr) operands.Address _ (λ is. cc)
    (skip (has_no_operands code) operands.Empty _ (λ is. cc) e))))))))))))))))))))))

-- operands of that row alone name an index
pub index_spelled : (row : Operands) (bytes : List ℕ) (n : ℕ) → SpellsOperands row bytes (Index n) → row ≡ operands.Index
index_spelled operands.Index bytes n spells = refl
index_spelled operands.Empty bytes n spells = absurd (let e = spells.1 in cc)
index_spelled operands.Address bytes n spells = absurd (let e = spells.is in cc)
index_spelled (operands.Fixed width) bytes n spells = absurd (let e = spells.is in cc)
index_spelled operands.Uleb bytes n spells = absurd (let e = spells.is in cc)
index_spelled operands.Sleb bytes n spells = absurd (let e = spells.is in cc)
index_spelled operands.UlebSleb bytes n spells = absurd (let e = spells.second.is in cc)
index_spelled operands.UlebUleb bytes n spells = absurd (let e = spells.second.is in cc)
index_spelled operands.Block bytes n spells = absurd (let e = spells.is in cc)
index_spelled operands.BaseBlock bytes n spells = absurd (let e = spells.second.second.is in cc)
index_spelled operands.UlebBase bytes n spells = absurd (let e = spells.second.is in cc)
index_spelled operands.ByteBase bytes n spells = absurd (let e = spells.second.is in cc)
index_spelled operands.Base bytes n spells = absurd (let e = spells.is in cc)
index_spelled operands.Expression bytes n spells = absurd spells
index_spelled operands.Outside bytes n spells = absurd spells

-- and they name no base type
pub index_no_base : (row : Operands) (bytes : List ℕ) (named : Named) → row ≡ operands.Index → SpellsOperands row bytes named → base_in named ≡ None
index_no_base row bytes named is spells = let s = subst (λ (r : Operands). SpellsOperands r bytes named) is spells in ap base_in s.is

-- ---- the operation that holds an entry

none_left : (xs : List ℕ) → length xs ≡ 0 → xs ≡ []
none_left [] e = refl
none_left (x ∷ xs) e = absurd (omega (arith, e))

number_here : (s : Spot) → 8 ≤ s.end - s.place → number_at 8 s ≡ Ok (little_number 8 (rest s), after s 8)
unfolding number_at
number_here s le = rw (le-ltb _ _ le) refl

-- eight bytes are those of a number
eight_number : (bytes : List ℕ) → AreBytes bytes → length bytes ≡ 8 → (n : ℕ) × IsNumber 8 bytes n
eight_number bytes are eight =
    let s : Spot = start parts.Info bytes in
    let whole : rest s ≡ bytes = ap (λ (n : ℕ). take n bytes) (omega arith) ∙ take_all (length bytes) bytes (omega arith) in
    let stands : Stands s = record { place = record { before_end = omega arith; in_bytes = omega arith }; bytes = subst IsBytes (sym whole) (IsBytes-from bytes are) } in
    let n : ℕ = little_number 8 (rest s) in
    let t = (number_reader 8).takes s n (after s 8) stands (number_here s (omega (arith, eight))) in
    let len : length (little_bytes 8 n) ≡ 8 = length-bytes_low_first 0 8 n in
    let none : rest (after s 8) ≡ [] = none_left (rest (after s 8)) (omega (arith, ap length t.parts, length-append t.bytes (rest (after s 8)), ap length whole, eight, ap length t.spells.is, len)) in
    let same : t.bytes ≡ bytes = sym (append-nil t.bytes) ∙ ap (λ (more : List ℕ). t.bytes ++ more) (sym none) ∙ sym t.parts ∙ whole in
    (n, subst (λ (xs : List ℕ). IsNumber 8 xs n) same t.spells)

linked_fits : (o : Option ℕ) → IfSome o Fits → unwrap_or o 0 < 2 ^ 64
linked_fits None h = omega arith
linked_fits (Some n) h = h

pub place_fits : (map : AddrMap) (at : Addr) → IsSoundMap map → linked_number (place_of map at) < 2 ^ 64
place_fits map at sound = linked_fits (moved map at) (moved_fits map at sound)

address_if : (row : Operands) (b : Bool) (place : Place) → IsEight row → linked_number place < 2 ^ 64 → AddressFits row (if b then Some place else None)
address_if row true place eight fits = (eight, fits)
address_if row false place eight fits = tt

held_by : (b : Bool) (bytes : List ℕ) (address : Option Place) → AreBytes bytes → length bytes ≡ 8 → ((row : Operands) → IsEight row → AddressFits row address)
    → IsMeant (record { code = if b then DW_OP_addr else DW_OP_const8u; bytes = (if b then DW_OP_addr else DW_OP_const8u) ∷ bytes; address = address; base = None })
held_by true bytes address are eight fits =
    let number = eight_number bytes are eight in
    record {
      row = operands.Address;
      known = addr_row;
      named = Address number.0;
      spells = record { front = DW_OP_addr ∷ []; back = bytes; is = refl; first = record { is = refl; fits = omega arith }; second = record { of = number.0; spells = number.1; is = refl } };
      address = fits operands.Address (inl refl);
      base = tt;
    }
held_by false bytes address are eight fits =
    record {
      row = operands.Fixed 8;
      known = const8u_row;
      named = Nothing;
      spells = record {
        front = DW_OP_const8u ∷ [];
        back = bytes;
        is = refl;
        first = record { is = refl; fits = omega arith };
        second = record { of = bytes; spells = record { is = refl; sound = are; len = eight }; is = refl };
      };
      address = fits (operands.Fixed 8) (inr refl);
      base = tt;
    }

pub held_is : (s : Context) (code at : ℕ) → AreBytes s.sections.addr → IsSoundMap s.map → at + 8 ≤ length s.sections.addr → IsMeant (held s code None at)
held_is s code at table sound inside =
    let bytes : List ℕ = take 8 (drop at s.sections.addr) in
    held_by (code == DW_OP_addrx) bytes (entry_address s code at) (AreBytes-from bytes (IsBytes-take 8 (drop at s.sections.addr) (IsBytes-drop at s.sections.addr (IsBytes-from s.sections.addr table))))
    (omega (arith, inside, length-take 8 (drop at s.sections.addr), length-drop at s.sections.addr))
    (λ row eight. address_if row _ (entry_meant s at) eight (place_fits s.map (address_of s.image s.addresses at (stored 8 s.sections.addr at)) sound))
