-- A written image is spelled by its records.
use Rattle.std.proofs.Common.{◌≡◌, ℕ, ◌-◌, ◌<◌, ◌^◌, not, false, List, [], ◌∷◌, ◌++◌, length, replicate, take, drop, All, Option, Some, None, refl, sym, ap, subst, ◌∙◌, append_assoc, length-append, arith}
use Rattle.std.specs.List.{AllByRecursion}
use Rattle.std.proofs.lemmas.List.{drop_at, take_at}
use Rattle.std.proofs.lemmas.List.Elements.{All-filter}
use Rattle.dwarf_types.specs.declared.graph.Written.{Written}
use Rattle.macho_read.specs.declared.image.Image.{Image}
use Rattle.macho_read.specs.declared.image.Symbol.{Symbol}
use Rattle.macho_read.specs.ImageSpelling.{AreSymbols, IsSymbol, LoadCommand, SpellsFile, StandsIn, commands_bytes, header_fields, kept}
use Rattle.macho_read.specs.Sound.{IsSoundSymbol}
use Rattle.macho_read.specs.Spelling.{spelled}
use Rattle.macho_read.specs.Standings.{is_stab}
use Rattle.macho_write.specs.Records.{segment_commands, uuid_command}
use Rattle.macho_write.specs.SymbolTable.{strings_bytes, symbols_bytes, with_places}
use Rattle.macho_write.proofs.PlacedSymbols.{length-placed, length-symbols}
use Rattle.dsym_write.specs.Bundle.{contents, dwarf_command, file_bytes, file_of, kept_symbols, sections_place, strings_end, strings_place, symbols_place, symtab_command}
use Rattle.image_laws.specs.Fitting.{FitsRecords}
use Rattle.image_laws.proofs.Commands.{commands_fit, commands_length, file_length, header_fits, header_length, page_behind}
use Rattle.image_laws.proofs.Symbols.{all_named}

-- what a definition asks for, whose type has no name outside of its crate
abbrev Asked : {A : Type 0} → (List ℕ → Option A → List (ℕ × Symbol) → Type 0) → Type 0
Asked {A} is = A

abbrev Symtab : Type 0
Symtab = Asked AreSymbols

module _ (program : Image) (ws : List Written) (fits : FitsRecords program) (small : length (file_bytes program ws) < 2 ^ 32) where
  abbrev header : List ℕ
  header = spelled (header_fields (file_of program ws))

  abbrev commands : List ℕ
  commands = commands_bytes (file_of program ws)

  abbrev symbols : List ℕ
  symbols = symbols_bytes (kept_symbols program)

  abbrev strings : List ℕ
  strings = strings_bytes (kept_symbols program)

  abbrev behind : List ℕ
  behind = replicate (sections_place program ws - strings_end program ws) 0 ++ contents ws

  abbrev table : Symtab
  table = record { symoff = symbols_place program ws; nsyms = length (kept_symbols program); stroff = strings_place program ws; strsize = length (strings_bytes (kept_symbols program)) }

  table_told : (uuid : Option (List ℕ)) (more : List LoadCommand) → (kept (uuid_command uuid ++ (symtab_command program ws ∷ more))).symtab ≡ Some table
  table_told None more = refl
  table_told (Some bytes) more = refl

  before_symbols : length (header ++ commands) ≡ symbols_place program ws
  before_symbols = omega (arith, length-append header commands, header_length program ws fits small, commands_length program ws fits small)

  symbols_there : drop (symbols_place program ws) (file_bytes program ws) ≡ symbols ++ (strings ++ behind)
  symbols_there = ap (drop (symbols_place program ws)) (sym (append_assoc header commands (symbols ++ (strings ++ behind)))) ∙ drop_at (header ++ commands) (symbols ++ (strings ++ behind)) (symbols_place program ws) before_symbols

  before_strings : length ((header ++ commands) ++ symbols) ≡ strings_place program ws
  before_strings = omega (arith, length-append (header ++ commands) symbols, before_symbols, length-symbols (kept_symbols program))

  strings_there : take (length strings) (drop (strings_place program ws) (file_bytes program ws)) ≡ strings
  strings_there =
      let whole : file_bytes program ws ≡ ((header ++ commands) ++ symbols) ++ (strings ++ behind) = sym (append_assoc (header ++ commands) symbols (strings ++ behind) ∙ append_assoc header commands (symbols ++ (strings ++ behind))) in
      ap (λ (b : List ℕ). take (length strings) (drop (strings_place program ws) b)) whole
      ∙ ap (take (length strings)) (drop_at ((header ++ commands) ++ symbols) (strings ++ behind) (strings_place program ws) before_strings) ∙ take_at strings behind (length strings) refl

  sound_symbols : All IsSoundSymbol (kept_symbols program)
  sound_symbols = let sound = fits.sound in All-filter (λ (s : Symbol). not (is_stab s)) IsSoundSymbol program.symbols sound.symbols

  symbols_stand : StandsIn (file_bytes program ws) table (with_places 1 (kept_symbols program))
  symbols_stand =
      let whole = file_length program ws fits small in
      let page = page_behind (strings_end program ws) in
      record {
        more = strings ++ behind;
        count = sym (length-placed (kept_symbols program) 1);
        table = omega (arith, whole, page);
        strings = omega (arith, whole, page);
        is = symbols_there;
        all = subst (λ (b : List ℕ). AllByRecursion (IsSymbol b) (with_places 1 (kept_symbols program))) (sym strings_there)
            (all_named (kept_symbols program) fits.symbols sound_symbols (omega (arith, whole, page, small)));
      }

  pub image_spelled : SpellsFile (file_bytes program ws) (file_of program ws)
  image_spelled = record {
    more = symbols ++ (strings ++ behind);
    is = refl;
    fit = header_fits program ws fits small;
    cpu = fits.cpu;
    commands = commands_fit program ws fits small;
    symbols = subst (λ (t : Option Symtab). AreSymbols (file_bytes program ws) t (with_places 1 (kept_symbols program)))
        (sym (table_told program.uuid (segment_commands false program.segments program.sections ++ (dwarf_command program (sections_place program ws) ws ∷ [])))) symbols_stand;
  }
