-- The commands of a program's file, and the whole file from its parts.
use Rattle.std.proofs.Common.{◌≡◌, ◌+◌, ℕ, true, List, [], ◌∷◌, ◌++◌, length, drop, append_assoc, append-nil, arith, refl, sym, ap, ◌∙◌, length-append}
use Rattle.macho_read.specs.declared.image.Image.{Image}
use Rattle.macho_read.specs.declared.image.Section.{Section}
use Rattle.macho_read.specs.declared.image.Segment.{Segment}
use Rattle.macho_read.specs.ImageSpelling.{LoadCommand, command_of, commands_bytes, header_fields}
use Rattle.macho_read.specs.Spelling.{command_bytes, spelled}
use Rattle.macho_write.specs.Records.{commands_text, header_bytes, segment_commands, symbol_table, uuid_command}
use Rattle.macho_write.specs.SymbolTable.{strings_bytes, symbols_bytes}
use Rattle.macho_write.proofs.OwnCommands.{commands_append}
use Rattle.sample_objects.specs.ProgramFile.{commands_len, commands_of, file_of, first_commands, program_bytes, symbols_place, symtab_command}

-- ---- how many

segments_count : (segments : List Segment) (sections : List Section) → length (segment_commands true segments sections) ≡ length segments
segments_count [] sections = refl
segments_count (s ∷ segments) sections = let h = segments_count segments (drop s.sections sections) in omega (arith, h)

pub count_is : (image : Image) (uuids segments : ℕ) → uuids ≡ length (uuid_command image.uuid) → segments ≡ length image.segments → uuids + segments + 1 ≡ length (commands_of image)
count_is image uuids segments u s =
    let own : List LoadCommand = segment_commands true image.segments image.sections in
    omega (arith, u, s, length-append (first_commands image) (symtab_command image ∷ []), length-append (uuid_command image.uuid) own, segments_count image.segments image.sections)

-- ---- the file

parts_in_turn : (o h a b t p1 p2 p3 p4 : List ℕ) → o ≡ [] → h ≡ o ++ p1 → a ≡ h ++ p2 → b ≡ a ++ p3 → t ≡ b ++ p4 → t ≡ p1 ++ ((p2 ++ p3) ++ p4)
parts_in_turn o h a b t p1 p2 p3 p4 eo eh ea eb et = rw (et, eb, ea, eh, eo) (simp append_assoc)

module _ (image : Image) where
  abbrev first_text : List ℕ
  first_text = commands_text (first_commands image)

  abbrev symtab_text : List ℕ
  symtab_text = command_bytes (command_of (symtab_command image))

  commands_are : commands_bytes (file_of image) ≡ first_text ++ symtab_text
  commands_are = commands_append (first_commands image) (symtab_command image ∷ []) ∙ ap (λ (back : List ℕ). first_text ++ back) (append-nil symtab_text)

  pub commands_length : length (commands_bytes (file_of image)) ≡ commands_len image
  commands_length = ap length commands_are ∙ length-append first_text symtab_text

  module _ (first symbols : List ℕ) (count size place nsyms strsize : ℕ) (told : first ≡ first_text) (texts : symbols ≡ symbols_bytes image.symbols ++ strings_bytes image.symbols) (many : count ≡ length (commands_of image))
      (large : size ≡ length first + 24) (behind : place ≡ 32 + size) (listed : nsyms ≡ length image.symbols) (named : strsize ≡ length (strings_bytes image.symbols)) where
    size_is : size ≡ commands_len image
    size_is = large ∙ ap (λ (l : List ℕ). length l + 24) told

    header_is : header_bytes image.cpu image.sub image.filetype count size ≡ spelled (header_fields (file_of image))
    header_is =
        ap (λ (n : ℕ). header_bytes image.cpu image.sub image.filetype n size) many
        ∙ ap (header_bytes image.cpu image.sub image.filetype (length (commands_of image))) (size_is ∙ sym commands_length)

    abbrev table_text : ℕ → ℕ → ℕ → List ℕ
    table_text at n names = command_bytes (command_of (symbol_table at n names))

    table_is : table_text place nsyms strsize ≡ symtab_text
    table_is =
        ap (λ (at : ℕ). table_text at nsyms strsize) (behind ∙ ap (λ (n : ℕ). 32 + n) size_is)
        ∙ ap (λ (n : ℕ). table_text (symbols_place image) n strsize) listed
        ∙ ap (table_text (symbols_place image) (length image.symbols)) named

    pub whole : (o h a b t : List ℕ) → o ≡ [] → h ≡ o ++ header_bytes image.cpu image.sub image.filetype count size → a ≡ h ++ first → b ≡ a ++ table_text place nsyms strsize → t ≡ b ++ symbols → t ≡ program_bytes image
    unfolding program_bytes
    whole o h a b t eo eh ea eb et =
        let header : List ℕ = spelled (header_fields (file_of image)) in
        let table : List ℕ = table_text place nsyms strsize in
        parts_in_turn o h a b t (header_bytes image.cpu image.sub image.filetype count size) first table symbols eo eh ea eb et
        ∙ ap (λ (front : List ℕ). front ++ ((first ++ table) ++ symbols)) header_is
        ∙ ap (λ (mid : List ℕ). header ++ ((mid ++ table) ++ symbols)) told
        ∙ ap (λ (mid : List ℕ). header ++ ((first_text ++ mid) ++ symbols)) table_is
        ∙ ap (λ (mid : List ℕ). header ++ (mid ++ symbols)) (sym commands_are)
        ∙ ap (λ (back : List ℕ). header ++ (commands_bytes (file_of image) ++ back)) texts
