-- Stations between the code and the definitions: draft by draft, and text by text.
use Rattle.std.specs.Prelude.{◌≡◌, ℕ, ◌+◌, ◌^◌, ◌<◌, ◌≤◌, ◌==◌, Bool, true, false, List, [], ◌∷◌, ◌++◌, length, map, fold, if◌then◌else◌, Option, Some, None, Result, Ok, Err, nat_le, ◌-◌}
use Rattle.std.specs.List.{flat_map}
use Rattle.ds_base.specs.declared.fault.Part.{Part}
use Rattle.ds_base.specs.declared.fault.Part.TheVariants as parts
use Rattle.ds_base.specs.Texts.{section_of, with_text}
use Rattle.dwarf_types.specs.declared.graph.Graph.{Graph}
use Rattle.dwarf_types.specs.declared.graph.OutUnit.{OutUnit}
use Rattle.dwarf_types.specs.Abbreviations.{table_bytes}
use Rattle.dwarf_types.specs.Aranges.{aranges_bytes}
use Rattle.dwarf_types.specs.Entries.{unit_len}
use Rattle.dwarf_types.specs.Layout.{unit_locations_len, unit_ranges_len}
use Rattle.dwarf_types.specs.Lists.{lists_header_len}
use Rattle.patches.specs.Filling.{Filling, filled}
use Rattle.text_pool.specs.declared.error.TextError.{TextError}
use Rattle.text_pool.specs.declared.error.TextError.TheVariants as text_errors
use Rattle.text_pool.specs.Joins.{place_in}
use Rattle.unit_draft.specs.declared.unit.Draft.{Draft}
use Rattle.unit_draft.specs.Drafted.{AreDrafts, lines_len}
use Rattle.layout.specs.declared.error.LayoutError.{LayoutError}
use Rattle.layout.specs.declared.error.LayoutError.TheVariants as errors
use Rattle.layout.specs.declared.placing.PartPlaces.{PartPlaces}
use Rattle.layout.specs.declared.placing.Placing.{Placing}
use Rattle.layout.specs.declared.sizes.Sizes.{Sizes}
use Rattle.layout.specs.declared.starts.Starts.{Starts}
use Rattle.layout.specs.declared.table.Common.TheVariants as commons
use Rattle.layout.specs.declared.table.Content.{Content}
use Rattle.layout.specs.declared.table.Content.TheVariants as contents
use Rattle.layout.specs.declared.table.Section.{Section}
use Rattle.layout.specs.declared.table.TheConstants.{SECTIONS}
use Rattle.layout.specs.declared.text.Texts.{Texts}
use Rattle.layout.specs.declared.text.TextsOf.{TextsOf}
use Rattle.layout.specs.declared.text.TextsOf.TheVariants as owners
use Rattle.layout.specs.Lengths.{long_unit}

-- ---- places

abbrev pub no_starts : Starts
no_starts = record { info = 0; tables = 0; line = 0; ranges = 0; rnglists = 0; loc = 0; loclists = 0 }

-- the length of a draft's line table, whatever stands in its holes
abbrev pub nothing : Filling
nothing = record { own = λ hole. 0; outer = λ hole. 0 }

abbrev pub line_len : Draft → ℕ
line_len d = length (filled d.lines nothing)

-- of lists of a version what stands in the sections of version 5, and what in the others
abbrev pub in_five : {X : Type 0} → ℕ → X → X → X
in_five version none lists = if version == 5 then lists else none

abbrev pub in_others : {X : Type 0} → ℕ → X → X → X
in_others version none lists = if version == 5 then none else lists

-- where the parts of the next draft stand
abbrev pub behind_draft : Starts → Draft → Starts
behind_draft at d = record {
  info = at.info + d.len;
  tables = at.tables + length d.table;
  line = at.line + line_len d;
  ranges = at.ranges + in_others d.version 0 (length d.ranges);
  rnglists = at.rnglists + in_five d.version 0 (length d.ranges);
  loc = at.loc + in_others d.version 0 (length d.locations);
  loclists = at.loclists + in_five d.version 0 (length d.locations);
}

-- parts whose lengths have 64 bits
pub record HasParts (d : Draft) : Type 0 where
  pub info : d.len < 2 ^ 64
  pub tables : length d.table < 2 ^ 64
  pub line : line_len d < 2 ^ 64
  pub ranges : length d.ranges < 2 ^ 64
  pub loc : length d.locations < 2 ^ 64

-- each below some number, those behind a header with it
pub record AreBelow (most : ℕ) (at : Starts) : Type 0 where
  pub info : at.info < most
  pub tables : at.tables < most
  pub line : at.line < most
  pub ranges : at.ranges < most
  pub rnglists : lists_header_len + at.rnglists < most
  pub loc : at.loc < most
  pub loclists : lists_header_len + at.loclists < most

-- where those of the next unit stand
abbrev pub behind_unit : Starts → ℕ → OutUnit → Starts
behind_unit at u unit = record {
  info = at.info + unit_len u unit;
  tables = at.tables + length (table_bytes u unit);
  line = at.line + lines_len unit;
  ranges = at.ranges + unit_ranges_len false unit;
  rnglists = at.rnglists + unit_ranges_len true unit;
  loc = at.loc + unit_locations_len false unit;
  loclists = at.loclists + unit_locations_len true unit;
}

-- the next list of a version, behind lists of the same section
abbrev pub next_list : ℕ → ℕ → ℕ → ℕ
next_list version others five = if version == 5 then lists_header_len + five else others

-- the parts of a unit of a version that stand there
abbrev pub parts_of : ℕ → Starts → PartPlaces
parts_of version at = record {
  table = at.tables;
  lines = at.line;
  ranges = next_list version at.ranges at.rnglists;
  locations = next_list version at.loc at.loclists;
}

-- ---- texts

-- the texts of a draft that have one of the two sections of texts
abbrev pub names_in : TextsOf → Draft → List (List ℕ)
names_in owners.Entries d = d.names
names_in owners.Lines d = d.line_names

-- those of drafts, by first use
abbrev pub texts_by : TextsOf → List Draft → List (List ℕ)
texts_by of drafts = fold with_text [] (flat_map (names_in of) drafts)

-- the texts of drafts as a section, and where those of each draft stand in it
abbrev pub texts_for : TextsOf → List Draft → Texts
texts_for of drafts = record {
  section = section_of (texts_by of drafts);
  places = map (λ draft. map (place_in (texts_by of drafts)) (names_in of draft)) drafts;
}

-- what making them answers; want of memory says nothing
abbrev pub MakesTexts : TextsOf → List Draft → Result Texts TextError → Type 0
MakesTexts of drafts (Ok texts) = texts ≡ texts_for of drafts
MakesTexts of drafts (Err text_errors.Long) = 2 ^ 32 - 1 ≤ length (section_of (texts_by of drafts))
MakesTexts of drafts (Err text_errors.NoMemory) = Unit {0}

-- texts that were joined are told; none where they are too long
abbrev pub TellsTexts : Result Texts TextError → Option Texts → Type 0
TellsTexts (Ok texts) told = told ≡ Some texts
TellsTexts (Err text_errors.Long) told = told ≡ None
TellsTexts (Err text_errors.NoMemory) told = ⊥

-- the size of their section, or the limit
abbrev pub texts_len : Option Texts → ℕ
texts_len (Some texts) = length texts.section
texts_len None = 2 ^ 32 - 1

-- ---- drafts that have their places

abbrev pub with_draft : Placing → Draft → Placing
with_draft p d = record {
  starts = p.starts ++ p.at.info ∷ [];
  parts = p.parts ++ parts_of d.version p.at ∷ [];
  aranges = p.aranges ++ aranges_bytes p.at.info d.code;
  at = behind_draft p.at d;
}

abbrev pub none_placed : Placing
none_placed = record { starts = []; parts = []; aranges = []; at = no_starts }

-- ---- limits

abbrev pub is_long : ℕ → Bool
is_long size = nat_le (2 ^ 32 - 1) size

-- the sizes by where the parts of all drafts end, and by what is made of these together
abbrev pub sized : Starts → ℕ → ℕ → ℕ → ℕ → Sizes
sized ends texts line_texts aranges frames = record { ends = ends; texts = texts; line_texts = line_texts; aranges = aranges; frames = frames }

-- parts made of all units whose lengths have 64 bits
pub record AreWide (sizes : Sizes) : Type 0 where
  pub texts : sizes.texts < 2 ^ 64
  pub line_texts : sizes.line_texts < 2 ^ 64
  pub aranges : sizes.aranges < 2 ^ 64
  pub frames : sizes.frames < 2 ^ 64

-- the first section that is long by a test
abbrev pub long_in : (Content → Bool) → List Section → Option Part
long_in long [] = None
long_in long (s ∷ sections) = if long s.content then Some s.part else long_in long sections

-- the string section first
abbrev pub first_long : (Content → Bool) → Option Part
first_long long = if long (contents.Common commons.Texts) then Some parts.Str else long_in long SECTIONS

-- ---- all units

abbrev pub DraftsUnits : Graph → Result (List Draft) LayoutError → Type 0
DraftsUnits graph (Ok drafts) = AreDrafts graph drafts
DraftsUnits graph (Err (errors.Unit u)) = long_unit graph ≡ Some u
DraftsUnits graph (Err (errors.Section part)) = ⊥
DraftsUnits graph (Err errors.NoMemory) = Unit {0}
