-- The symbol table and its strings (mach-o/nlist.h, nlist_64).
use Rattle.std.specs.Prelude.{ℕ, zero, suc, ◌+◌, ◌*◌, ◌==◌, ◌||◌, List, [], ◌∷◌, length, take, drop, slice_index, Option, Some, None, Result, Ok, nat_lt, nat_le, if◌then◌else◌}
use Rattle.ds_base.specs.declared.fault.Fault.{Fault}
use Rattle.ds_base.specs.declared.fault.Kind.TheVariants as kinds
use Rattle.ds_base.specs.declared.fault.Part.TheVariants as parts
use Rattle.ds_base.specs.MachONumbers.{NLIST_64_SIZE}
use Rattle.ds_base.specs.Reading.{◌>>=◌, refuse_if}
use Rattle.macho_read.specs.declared.image.Symbol.{Symbol}
use Rattle.macho_read.specs.declared.records.Symtab.{Symtab}
use Rattle.macho_read.specs.Fields.{number_of, text_len, before_zero}

-- the symbol of an index
abbrev pub bad_symbols : ℕ → Fault
bad_symbols index = record { kind = kinds.BadSymbols; section = parts.Symbols; place = index }

-- a text that is ended by a zero byte
abbrev pub ended_text : List ℕ → ℕ → Result (List ℕ) Fault
ended_text bytes index = do
  _ ← refuse_if (text_len bytes == length bytes) (bad_symbols index)
  Ok (before_zero bytes)

-- the name at an offset in the strings, which is empty at 0; the index is the symbol's
unfoldable pub name_in : List ℕ → ℕ → ℕ → Result (List ℕ) Fault
name_in strings index strx =
    if strx == 0 then Ok [] else refuse_if (nat_le (length strings) strx) (bad_symbols index) >>= λ _. ended_text (drop strx strings) index

-- the symbol whose entry some bytes begin with: n_strx, n_type, n_sect, n_desc, n_value
unfoldable pub symbol_of : List ℕ → ℕ → List ℕ → Result Symbol Fault
symbol_of strings index entry = do
  name ← name_in strings index (number_of 4 0 entry)
  Ok
      (record {
        name = name;
        kind = slice_index entry 4;
        sect = slice_index entry 5;
        desc = number_of 2 6 entry;
        value = number_of 8 8 entry;
      })

-- what so many readings give, by their index; the first fault ends it
abbrev pub each : {A : Type 0} → (ℕ → Result A Fault) → ℕ → ℕ → Result (List A) Fault
each read zero i = Ok []
each read (suc count) i = do
  item ← read i
  others ← each read count (i + 1)
  Ok (item ∷ others)

-- all symbols of a table in a file
unfoldable pub symbols_in : Symtab → List ℕ → Result (List Symbol) Fault
symbols_in symtab bytes = do
  _ ← refuse_if (nat_lt (length bytes) (symtab.symoff + NLIST_64_SIZE * symtab.nsyms) || nat_lt (length bytes) (symtab.stroff + symtab.strsize)) (bad_symbols 0)
  each (λ i. symbol_of (take symtab.strsize (drop symtab.stroff bytes)) i (drop (NLIST_64_SIZE * i) (drop symtab.symoff bytes))) symtab.nsyms 0

-- of no table there are none
abbrev pub symbols_of : Option Symtab → List ℕ → Result (List Symbol) Fault
symbols_of None bytes = Ok []
symbols_of (Some symtab) bytes = symbols_in symtab bytes
