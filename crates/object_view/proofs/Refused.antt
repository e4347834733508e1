-- Of which kinds the faults of an object are: those of the readers of its parts.
use Rattle.std.proofs.Common.{◌≡◌, ℕ, ◌-◌, ◌==◌, Bool, true, false, List, [], ◌∷◌, ◌++◌, length, Option, Some, None, Result, Ok, Err, refl, arith}
use Rattle.std.specs.Prelude.{if◌then◌else◌}
use Rattle.std.specs.List.{Contains}
use Rattle.std.proofs.lemmas.List.Elements.{All-contains, All-from_recursion, Contains-append_left}
use Rattle.ds_base.specs.DwarfNumbers.{DW_FORM_exprloc}
use Rattle.ds_base.specs.declared.fault.Fault.{Fault}
use Rattle.ds_base.specs.declared.fault.Kind.{Kind}
use Rattle.ds_base.specs.declared.fault.Kind.TheVariants as kinds
use Rattle.ds_base.specs.declared.fault.Part.{Part}
use Rattle.ds_base.specs.declared.fault.Part.TheVariants as parts
use Rattle.ds_base.specs.Reading.{◌>>=◌, or_fault, refuse_if}
use Rattle.ds_base.proofs.FaultKinds.{FaultsAre, ok_kinds, bind_kinds, refuse_kinds, either_kinds, found_kinds}
use Rattle.dwarf_types.specs.declared.address.Addr.{Addr}
use Rattle.dwarf_types.specs.declared.entry.Attr.{Attr}
use Rattle.dwarf_types.specs.declared.entry.Entry.{Entry}
use Rattle.dwarf_types.specs.declared.entry.InUnit.{InUnit}
use Rattle.dwarf_types.specs.declared.entry.RawAttr.{RawAttr}
use Rattle.dwarf_types.specs.declared.entry.RawEntry.{RawEntry}
use Rattle.dwarf_types.specs.declared.entry.RawUnits.{RawUnits}
use Rattle.dwarf_types.specs.declared.lists.RawLocation.{RawLocation}
use Rattle.dwarf_types.specs.declared.value.Value.{Value}
use Rattle.dwarf_types.specs.declared.value.Value.TheVariants as values
use Rattle.dwarf_types.specs.SectionBytes.{SectionBytes}
use Rattle.macho_read.specs.declared.image.Image.{Image}
use Rattle.macho_read.specs.declared.image.Section.{Section}
use Rattle.macho_read.specs.declared.kind.Role.TheVariants as roles
use Rattle.macho_read.specs.Debug.{section_in}
use Rattle.macho_read.specs.Header.{header_fault}
use Rattle.macho_read.specs.Image.{image_of}
use Rattle.macho_read.specs.Kind.{is_wrong_cpu, is_wrong_type, kind_of}
use Rattle.stab_map.specs.declared.object.MapObject.{MapObject}
use Rattle.reloc_table.specs.declared.sections.Compressed.TheVariants as compressed
use Rattle.reloc_table.specs.declared.relocation.Relocs.{Relocs}
use Rattle.reloc_table.specs.Table.{relocs_of}
use Rattle.addr_map.specs.declared.map.AddrMap.{AddrMap}
use Rattle.addr_map.specs.Ranges.{map_of}
use Rattle.line_read.specs.Header.{line_at, table_at, version_at, version_of}
use Rattle.line_read.specs.Program.{lines_from, lines_of}
use Rattle.frame_table.specs.Frames.{frames_of}
use Rattle.range_lists.specs.Reading.{range_faults, ranges_of}
use Rattle.loc_lists.specs.Reading.{location_faults, locations_of}
use Rattle.expr_resolve.specs.Context.{Context}
use Rattle.expr_resolve.specs.Expressions.{expression_of}
use Rattle.unit_tree.specs.declared.meaning.Meaning.{Meaning}
use Rattle.unit_tree.specs.declared.meaning.Meaning.TheVariants as meanings
use Rattle.unit_tree.specs.Meaning.{is_address_index, table_of}
use Rattle.unit_tree.specs.Unit.{units_of}
use Rattle.object_view.specs.declared.units.UnitContext.{UnitContext}
use Rattle.object_view.specs.Analysis.{analysis_of, units_analysed}
use Rattle.object_view.specs.Attributes.{address_named, all_marked, attr_by, attrs_by, dangling, each_of, entries_by, entries_meant, entry_by, info_step, is_too_long, item_meant, lines_meant, locations_at, locations_by_role, locations_meant, locations_read, locations_step, number_at, offset_meant, ranges_at, ranges_by_role, ranges_meant, ranges_read, ranges_relocs, ranges_step, raw_attr_by, raw_attrs_by, raw_entries_by, raw_entry_by, unit_with_lines, unit_with_table, units_meant, unnamed, value_meant}
use Rattle.object_view.specs.Faults.{object_kinds}
use Rattle.object_read.specs.Opened.{Opened, opened_of, part_relocs, relocs_among, relocs_in}
use Rattle.reloc_table.specs.Parts.{all_tried, is_tried, section_of, section_tried}
use Rattle.object_read.specs.Read.{read_of}
use Rattle.object_view.specs.Units.{unit_context}

abbrev IsOne : Kind → Type 0
IsOne = Contains object_kinds

-- a line table's version stands before the rest: its fault is the table's
before_rest : {S V X : Type 0} (table : Result S Fault) (at : S → Result (ℕ × V) Fault) (rest : S → ℕ × V → Result X Fault) (f : Fault)
    → (table >>= λ s. at s >>= λ version. Ok version.0) ≡ Err f → (table >>= λ s. at s >>= λ version. rest s version) ≡ Err f
before_rest (Err g) at rest f e = cc
before_rest {V = V} {X = X} (Ok s) at rest f e = by (at s) (rest s) e
  where
    by : (version : Result (ℕ × V) Fault) (rest : ℕ × V → Result X Fault) → (version >>= λ version. Ok version.0) ≡ Err f → (version >>= rest) ≡ Err f
    by (Err g) rest e = cc
    by (Ok version) rest e = absurd cc

version_first : (image : Image) (relocs : Relocs) (sections : SectionBytes) (unit place : ℕ) (f : Fault) → version_of sections unit place ≡ Err f → lines_of image relocs sections unit place ≡ Err f
unfolding lines_from
version_first image relocs sections unit place f e = before_rest (table_at (line_at sections.line place)) (version_at unit) _ f e

-- what the laws of the readers of an object's parts say
pub record Laws : Type 0 where
  pub image : (bytes : List ℕ) (f : Fault) → image_of bytes ≡ Err f → Contains (kinds.Truncated ∷ kinds.NotMachO ∷ kinds.WrongCpu ∷ kinds.BadCommand ∷ kinds.BadSymbols ∷ []) f.kind
  pub section : (bytes : List ℕ) (section : Section) (index : ℕ) (f : Fault) → section_in bytes section index ≡ Err f → Contains (kinds.CompressedSection ∷ kinds.BadSection ∷ []) f.kind
  pub relocs : (bytes : List ℕ) (image : Image) (section : Section) (f : Fault) → relocs_of bytes image section ≡ Err f → Contains (kinds.Truncated ∷ kinds.RelocKind ∷ kinds.RelocPlace ∷ kinds.RelocSymbol ∷ kinds.RelocOverlap ∷ []) f.kind
  pub units : (sections : SectionBytes) (f : Fault) → units_of sections ≡ Err f → Contains (
      kinds.Truncated ∷ kinds.LebTooWide ∷ kinds.UnknownForm ∷ kinds.FormOutsideProfile ∷ kinds.BadOffset ∷ kinds.BadAbbrev ∷ kinds.DuplicateCode ∷ kinds.LimitAttributes
      ∷ kinds.UnsupportedVersion ∷ kinds.BadUnit ∷ kinds.SplitUnit ∷ kinds.UnknownCode ∷ kinds.UnclosedSiblings ∷ kinds.LimitDepth ∷ kinds.LimitEntries ∷ kinds.BadReference ∷ kinds.BadIndex ∷ []
      ) f.kind
  pub expression : (s : Context) (bytes : List ℕ) (first : ℕ) (f : Fault) → expression_of s bytes first ≡ Err f → Contains (kinds.Truncated ∷ kinds.LebTooWide ∷ kinds.UnknownOp ∷ kinds.OpOutsideProfile ∷ kinds.BadOperandType ∷ kinds.BadIndex ∷ kinds.BranchOverRewrite ∷ []) f.kind
  pub lines : (image : Image) (relocs : Relocs) (sections : SectionBytes) (version offset : ℕ) (f : Fault) → lines_of image relocs sections version offset ≡ Err f
      → Contains (kinds.Truncated ∷ kinds.LebTooWide ∷ kinds.BadOffset ∷ kinds.LineVersion ∷ kinds.BadLineHeader ∷ kinds.VliwLine ∷ kinds.BadLineOp ∷ kinds.LineBackwards ∷ kinds.BadEntryFormat ∷ []) f.kind
  pub ranges : (sections : SectionBytes) (relocs : Relocs) (image : Image) (offset version : ℕ) (base : Addr) (addresses : Relocs) (addr_base : ℕ) (f : Fault) → ranges_of sections relocs image offset version base addresses addr_base ≡ Err f
      → Contains (range_faults version) f.kind
  pub locations : (sections : SectionBytes) (relocs : Relocs) (image : Image) (offset version : ℕ) (base : Addr) (addresses : Relocs) (addr_base : ℕ) (f : Fault) → locations_of sections relocs image offset version base addresses addr_base ≡ Err f
      → Contains (location_faults version) f.kind
  pub frames : (image : Image) (relocs : Relocs) (bytes : List ℕ) (f : Fault) → frames_of image relocs bytes ≡ Err f → Contains (kinds.Truncated ∷ kinds.BadFrame ∷ []) f.kind

cut : IsOne kinds.Truncated
cut = (0, omega arith, refl)

wide : IsOne kinds.LebTooWide
wide = (1, omega arith, refl)

index : IsOne kinds.BadIndex
index = (16, omega arith, refl)

-- ---- lists of items

each_kinds : {A B : Type 0} (meant : A → Result B Fault) → ((x : A) → FaultsAre IsOne (meant x)) → (xs : List A) → FaultsAre IsOne (each_of meant xs)
each_kinds meant h [] = ok_kinds IsOne _
each_kinds meant h (x ∷ xs) = bind_kinds IsOne (meant x) _ (h x) (λ here. bind_kinds IsOne (each_of meant xs) _ (each_kinds meant h xs) (λ others. ok_kinds IsOne _))

attr_kinds : (meant : Attr → Result Value Fault) → ((a : Attr) → FaultsAre IsOne (meant a)) → (a : Attr) → FaultsAre IsOne (attr_by meant a)
attr_kinds meant h a = bind_kinds IsOne (meant a) _ (h a) (λ value. ok_kinds IsOne _)

entry_kinds : (meant : Attr → Result Value Fault) → ((a : Attr) → FaultsAre IsOne (meant a)) → (e : Entry) → FaultsAre IsOne (entry_by meant e)
entry_kinds meant h e = bind_kinds IsOne (attrs_by meant e.attrs) _ (each_kinds (attr_by meant) (attr_kinds meant h) e.attrs) (λ attrs. ok_kinds IsOne _)

entries_kinds : (meant : ℕ → Attr → Result Value Fault) → ((unit : ℕ) (a : Attr) → FaultsAre IsOne (meant unit a)) → (entries : List Entry) → FaultsAre IsOne (entries_by meant entries)
entries_kinds meant h entries = each_kinds (λ (e : Entry). entry_by (meant e.unit) e) (λ e. entry_kinds (meant e.unit) (h e.unit) e) entries

raw_attr_kinds : (meant : RawAttr → Result Value Fault) → ((a : RawAttr) → FaultsAre IsOne (meant a)) → (a : RawAttr) → FaultsAre IsOne (raw_attr_by meant a)
raw_attr_kinds meant h a = bind_kinds IsOne (meant a) _ (h a) (λ value. ok_kinds IsOne _)

raw_entry_kinds : (meant : RawAttr → Result Value Fault) → ((a : RawAttr) → FaultsAre IsOne (meant a)) → (e : RawEntry) → FaultsAre IsOne (raw_entry_by meant e)
raw_entry_kinds meant h e = bind_kinds IsOne (raw_attrs_by meant e.attrs) _ (each_kinds (raw_attr_by meant) (raw_attr_kinds meant h) e.attrs) (λ attrs. ok_kinds IsOne _)

raw_entries_kinds : (meant : ℕ → RawAttr → Result Value Fault) → ((unit : ℕ) (a : RawAttr) → FaultsAre IsOne (meant unit a)) → (entries : List RawEntry) → FaultsAre IsOne (raw_entries_by meant entries)
raw_entries_kinds meant h entries = each_kinds (λ (e : RawEntry). raw_entry_by (meant e.unit) e) (λ e. raw_entry_kinds (meant e.unit) (h e.unit) e) entries

module _ (laws : Laws) where
  -- ---- the object

  image_kinds : (bytes : List ℕ) → FaultsAre IsOne (image_of bytes)
  image_kinds bytes f e =
      let some : List Kind = kinds.Truncated ∷ kinds.NotMachO ∷ kinds.WrongCpu ∷ kinds.BadCommand ∷ kinds.BadSymbols ∷ [] in
      All-contains IsOne some f.kind (All-from_recursion IsOne some (cut, ((22, omega arith, refl), ((23, omega arith, refl), ((24, omega arith, refl), ((25, omega arith, refl), tt)))))) (laws.image bytes f e)

  role_kinds : (image : Image) (cpu : ℕ) → FaultsAre IsOne (kind_of image (roles.Object cpu))
  role_kinds image cpu =
      bind_kinds IsOne (refuse_if (is_wrong_cpu (roles.Object cpu) image.cpu) (header_fault kinds.WrongCpu 4)) _ (refuse_kinds IsOne (is_wrong_cpu (roles.Object cpu) image.cpu) (header_fault kinds.WrongCpu 4) (23, omega arith, refl)) (λ u.
      bind_kinds IsOne (refuse_if (is_wrong_type (roles.Object cpu) image.filetype) (header_fault kinds.BadFileType 12)) _ (refuse_kinds IsOne (is_wrong_type (roles.Object cpu) image.filetype) (header_fault kinds.BadFileType 12) (26, omega arith, refl)) (λ v. ok_kinds IsOne _))

  one_section_kinds : (bytes : List ℕ) (section : Section) (index : ℕ) → FaultsAre IsOne (section_in bytes section index)
  one_section_kinds bytes section index f e =
      let some : List Kind = kinds.CompressedSection ∷ kinds.BadSection ∷ [] in
      All-contains IsOne some f.kind (All-from_recursion IsOne some ((27, omega arith, refl), ((28, omega arith, refl), tt))) (laws.section bytes section index f e)

  section_kinds : (bytes : List ℕ) (before : List Section) (section : Section) → FaultsAre IsOne (section_tried compressed.Tried bytes before section)
  section_kinds bytes before section =
      either_kinds IsOne (is_tried compressed.Tried before section) _ (Ok tt) (bind_kinds IsOne (section_in bytes section (length before)) _ (one_section_kinds bytes section (length before)) (λ content. ok_kinds IsOne _)) (ok_kinds IsOne tt)

  sections_kinds : (bytes : List ℕ) (before sections : List Section) → FaultsAre IsOne (all_tried compressed.Tried bytes before sections)
  sections_kinds bytes before [] = ok_kinds IsOne tt
  sections_kinds bytes before (section ∷ others) = bind_kinds IsOne (section_tried compressed.Tried bytes before section) _ (section_kinds bytes before section) (λ ok. sections_kinds bytes (before ++ section ∷ []) others)

  one_relocs_kinds : (bytes : List ℕ) (image : Image) (section : Section) → FaultsAre IsOne (relocs_of bytes image section)
  one_relocs_kinds bytes image section f e =
      let some : List Kind = kinds.Truncated ∷ kinds.RelocKind ∷ kinds.RelocPlace ∷ kinds.RelocSymbol ∷ kinds.RelocOverlap ∷ [] in
      All-contains IsOne some f.kind (All-from_recursion IsOne some (cut, ((29, omega arith, refl), ((30, omega arith, refl), ((31, omega arith, refl), ((32, omega arith, refl), tt)))))) (laws.relocs bytes image section f e)

  among_kinds : (bytes : List ℕ) (image : Image) (section : Option Section) → FaultsAre IsOne (relocs_among bytes image section)
  among_kinds bytes image None = ok_kinds IsOne _
  among_kinds bytes image (Some section) = one_relocs_kinds bytes image section

  part_kinds : {B : Type 0} (bytes : List ℕ) (image : Image) (part : Part) (f : Relocs → Result B Fault) → ((x : Relocs) → FaultsAre IsOne (f x)) → FaultsAre IsOne (part_relocs bytes image part >>= f)
  part_kinds bytes image part f h = bind_kinds IsOne (part_relocs bytes image part) f (among_kinds bytes image (section_of image.sections part)) h

  relocs_kinds : (bytes : List ℕ) (image : Image) → FaultsAre IsOne (relocs_in bytes image)
  unfolding relocs_in
  relocs_kinds bytes image =
      part_kinds bytes image parts.Info _ (λ info. part_kinds bytes image parts.Abbrev _ (λ a. part_kinds bytes image parts.Str _ (λ s. part_kinds bytes image parts.StrOffs _ (λ o.
      part_kinds bytes image parts.Addr _ (λ addr. part_kinds bytes image parts.Line _ (λ line. part_kinds bytes image parts.LineStr _ (λ l. part_kinds bytes image parts.Ranges _ (λ ranges.
      part_kinds bytes image parts.Rnglists _ (λ rnglists. part_kinds bytes image parts.Loc _ (λ loc. part_kinds bytes image parts.Loclists _ (λ loclists. part_kinds bytes image parts.Aranges _ (λ r.
      part_kinds bytes image parts.Frame _ (λ frame. ok_kinds IsOne _)))))))))))))

  opened_kinds : (bytes : List ℕ) (cpu : ℕ) → FaultsAre IsOne (opened_of bytes cpu)
  unfolding opened_of
  opened_kinds bytes cpu =
      bind_kinds IsOne (image_of bytes) _ (image_kinds bytes) (λ image.
      bind_kinds IsOne (kind_of image (roles.Object cpu)) _ (role_kinds image cpu) (λ u.
      bind_kinds IsOne (all_tried compressed.Tried bytes [] image.sections) _ (sections_kinds bytes [] image.sections) (λ v.
      bind_kinds IsOne (relocs_in bytes image) _ (relocs_kinds bytes image) (λ relocs. ok_kinds IsOne _))))

  -- ---- its units

  units_kinds : (sections : SectionBytes) → FaultsAre IsOne (units_of sections)
  units_kinds sections f e =
      let some : List Kind = kinds.Truncated ∷ kinds.LebTooWide ∷ kinds.UnknownForm ∷ kinds.FormOutsideProfile ∷ kinds.BadOffset ∷ kinds.BadAbbrev ∷ kinds.DuplicateCode ∷ kinds.LimitAttributes
      ∷ kinds.UnsupportedVersion ∷ kinds.BadUnit ∷ kinds.SplitUnit ∷ kinds.UnknownCode ∷ kinds.UnclosedSiblings ∷ kinds.LimitDepth ∷ kinds.LimitEntries ∷ kinds.BadReference ∷ kinds.BadIndex ∷ [] in
      let others : List Kind = kinds.UnknownOp ∷ kinds.OpOutsideProfile ∷ kinds.BadOperandType ∷ kinds.BranchOverRewrite ∷ kinds.LongExpression
      ∷ kinds.NotMachO ∷ kinds.WrongCpu ∷ kinds.BadCommand ∷ kinds.BadSymbols ∷ kinds.BadFileType ∷ kinds.CompressedSection ∷ kinds.BadSection
      ∷ kinds.RelocKind ∷ kinds.RelocPlace ∷ kinds.RelocSymbol ∷ kinds.RelocOverlap
      ∷ kinds.LineVersion ∷ kinds.BadLineHeader ∷ kinds.VliwLine ∷ kinds.BadLineOp ∷ kinds.LineBackwards ∷ kinds.BadList ∷ kinds.BadFrame ∷ kinds.BadEntryFormat ∷ kinds.UnknownListEntry ∷ [] in
      Contains-append_left some others f.kind (laws.units sections f e)

  -- ---- expressions, and attributes of `__debug_info`

  expression_kinds : (s : Context) (bytes : List ℕ) (first : ℕ) → FaultsAre IsOne (expression_of s bytes first)
  expression_kinds s bytes first f e =
      let some : List Kind = kinds.Truncated ∷ kinds.LebTooWide ∷ kinds.UnknownOp ∷ kinds.OpOutsideProfile ∷ kinds.BadOperandType ∷ kinds.BadIndex ∷ kinds.BranchOverRewrite ∷ [] in
      All-contains IsOne some f.kind (All-from_recursion IsOne some (cut, (wide, ((17, omega arith, refl), ((18, omega arith, refl), ((19, omega arith, refl), (index, ((20, omega arith, refl), tt)))))))) (laws.expression s bytes first f e)

  block_kinds : (s : Context) (b : Bool) (form : ℕ) (bytes : List ℕ) (first : ℕ) → FaultsAre IsOne (if b then (expression_of s bytes first >>= λ ops. Ok (values.Expr ops)) else Ok (values.Block form bytes))
  block_kinds s b form bytes first = either_kinds IsOne b _ (Ok (values.Block form bytes)) (bind_kinds IsOne (expression_of s bytes first) _ (expression_kinds s bytes first) (λ ops. ok_kinds IsOne _)) (ok_kinds IsOne _)

  index_kinds : (s : Context) (a : RawAttr) (n : ℕ) → FaultsAre IsOne (offset_meant s a n)
  index_kinds s a n =
      either_kinds IsOne (is_address_index a.form) _ (Ok (values.Offset n)) (bind_kinds IsOne (or_fault (address_named s n) (unnamed a)) _ (found_kinds IsOne (address_named s n) (unnamed a) index) (λ place. ok_kinds IsOne _)) (ok_kinds IsOne _)

  value_kinds : (s : Context) (places : List ℕ) (a : RawAttr) (value : Value) → FaultsAre IsOne (value_meant s places a value)
  value_kinds s places a (values.Address place) = ok_kinds IsOne _
  value_kinds s places a (values.Ref place) =
      bind_kinds IsOne (or_fault (number_at places place) (dangling a)) _ (found_kinds IsOne (number_at places place) (dangling a) (15, omega arith, refl)) (λ k. ok_kinds IsOne _)
  value_kinds s places a (values.Block form bytes) = block_kinds s (form == DW_FORM_exprloc) form bytes (a.end - length bytes)
  value_kinds s places a (values.Text text) = ok_kinds IsOne _
  value_kinds s places a (values.Number form bits) = ok_kinds IsOne _
  value_kinds s places a (values.Wide bytes) = ok_kinds IsOne _
  value_kinds s places a (values.Expr ops) = ok_kinds IsOne _
  value_kinds s places a (values.Ranges spans) = ok_kinds IsOne _
  value_kinds s places a (values.Locations items) = ok_kinds IsOne _
  value_kinds s places a values.Lines = ok_kinds IsOne _
  value_kinds s places a (values.Offset n) = index_kinds s a n

  -- ---- line tables

  table_kinds : (o : Opened) (map : AddrMap) (version : ℕ) (dir : List ℕ) (place : ℕ) → FaultsAre IsOne (lines_meant o map version dir place)
  table_kinds o map version dir place =
      let some : List Kind = kinds.Truncated ∷ kinds.LebTooWide ∷ kinds.BadOffset ∷ kinds.LineVersion ∷ kinds.BadLineHeader ∷ kinds.VliwLine ∷ kinds.BadLineOp ∷ kinds.LineBackwards ∷ kinds.BadEntryFormat ∷ [] in
      let of_lines : FaultsAre IsOne (lines_of o.image o.relocs.line o.sections version place) = λ f e.
      All-contains IsOne some f.kind (All-from_recursion IsOne some (cut, (wide, ((4, omega arith, refl), ((33, omega arith, refl), ((34, omega arith, refl), ((35, omega arith, refl), ((36, omega arith, refl), ((37, omega arith, refl), ((40, omega arith, refl), tt))))))))))
      (laws.lines o.image o.relocs.line o.sections version place f e) in
      bind_kinds IsOne (version_of o.sections version place) _ (λ f e. of_lines f (version_first o.image o.relocs.line o.sections version place f e))
      (λ table. bind_kinds IsOne (lines_of o.image o.relocs.line o.sections version place) _ of_lines (λ lines. ok_kinds IsOne _))

  lines_kinds : (o : Opened) (map : AddrMap) (unit : InUnit) (dir : List ℕ) (place : Option ℕ) → FaultsAre IsOne (unit_with_table o map unit dir place)
  lines_kinds o map unit dir None = ok_kinds IsOne _
  lines_kinds o map unit dir (Some place) = bind_kinds IsOne (lines_meant o map unit.version dir place) _ (table_kinds o map unit.version dir place) (λ lines. ok_kinds IsOne _)

  units_meant_kinds : (o : Opened) (map : AddrMap) (entries : List Entry) (units : List InUnit) → FaultsAre IsOne (units_meant o map entries units)
  units_meant_kinds o map entries units = each_kinds (unit_with_lines o map entries) (λ unit. lines_kinds o map unit _ _) units

  -- ---- lists

  abbrev of_version_5 : List Kind
  of_version_5 = kinds.Truncated ∷ kinds.LebTooWide ∷ kinds.BadList ∷ kinds.BadIndex ∷ kinds.UnknownListEntry ∷ []

  abbrev of_version_4 : List Kind
  of_version_4 = kinds.Truncated ∷ kinds.BadList ∷ []

  list_kinds : (b : Bool) (k : Kind) → Contains (if b then of_version_5 else of_version_4) k → IsOne k
  list_kinds true k h = All-contains IsOne of_version_5 k (All-from_recursion IsOne of_version_5 (cut, (wide, ((38, omega arith, refl), (index, ((41, omega arith, refl), tt)))))) h
  list_kinds false k h = All-contains IsOne of_version_4 k (All-from_recursion IsOne of_version_4 (cut, ((38, omega arith, refl), tt))) h

  ranges_at_kinds : (o : Opened) (map : AddrMap) (u : UnitContext) (base : Addr) (place : ℕ) → FaultsAre IsOne (ranges_at o map u base place)
  ranges_at_kinds o map u base place =
      bind_kinds IsOne (ranges_read o u base place) _
      (λ f e. list_kinds (u.version == 5) f.kind (laws.ranges o.sections (ranges_relocs o.relocs u.version) o.image place u.version base o.relocs.addr u.addr_base f e)) (λ spans. ok_kinds IsOne _)

  ranges_role_kinds : (o : Opened) (map : AddrMap) (u : UnitContext) (base : Addr) (role : Meaning) (place : ℕ) → FaultsAre IsOne (ranges_by_role o map u base role place)
  ranges_role_kinds o map u base meanings.RangeList place = ranges_at_kinds o map u base place
  ranges_role_kinds o map u base role place = ok_kinds IsOne _

  ranges_kinds : (o : Opened) (map : AddrMap) (u : UnitContext) (base : Addr) (a : Attr) (value : Value) → FaultsAre IsOne (ranges_meant o map u base a value)
  ranges_kinds o map u base a (values.Offset place) = ranges_role_kinds o map u base (table_of a.name) place
  ranges_kinds o map u base a value = ok_kinds IsOne _

  item_kinds : (s : Context) (item : RawLocation) → FaultsAre IsOne (item_meant s item)
  item_kinds s item =
      bind_kinds IsOne (expression_of s item.bytes item.first) _ (expression_kinds s item.bytes item.first) (λ ops.
      bind_kinds IsOne (refuse_if (is_too_long s.version ops) (record { kind = kinds.LongExpression; section = s.part; place = item.place })) _
      (refuse_kinds IsOne (is_too_long s.version ops) (record { kind = kinds.LongExpression; section = s.part; place = item.place }) (21, omega arith, refl)) (λ u. ok_kinds IsOne _))

  locations_at_kinds : (s : Context) (base : Addr) (place : ℕ) → FaultsAre IsOne (locations_at s base place)
  locations_at_kinds s base place =
      bind_kinds IsOne (locations_read s base place) _ (λ f e. list_kinds (s.version == 5) f.kind (laws.locations s.sections s.relocs s.image place s.version base s.addresses s.addr_base f e)) (λ items.
      bind_kinds IsOne (each_of (item_meant s) items) _ (each_kinds (item_meant s) (item_kinds s) items) (λ meant. ok_kinds IsOne _))

  locations_role_kinds : (s : Context) (base : Addr) (role : Meaning) (place : ℕ) → FaultsAre IsOne (locations_by_role s base role place)
  locations_role_kinds s base meanings.LocationList place = locations_at_kinds s base place
  locations_role_kinds s base role place = ok_kinds IsOne _

  locations_kinds : (s : Context) (base : Addr) (a : Attr) (value : Value) → FaultsAre IsOne (locations_meant s base a value)
  locations_kinds s base a (values.Offset place) = locations_role_kinds s base (table_of a.name) place
  locations_kinds s base a value = ok_kinds IsOne _

  -- ---- the analysis

  frames_kinds : (o : Opened) → FaultsAre IsOne (frames_of o.image o.relocs.frame o.sections.frame)
  frames_kinds o f e =
      let some : List Kind = kinds.Truncated ∷ kinds.BadFrame ∷ [] in
      All-contains IsOne some f.kind (All-from_recursion IsOne some (cut, ((39, omega arith, refl), tt))) (laws.frames o.image o.relocs.frame o.sections.frame f e)

  analysed_kinds : (o : Opened) (map : AddrMap) (raw : RawUnits) → FaultsAre IsOne (units_analysed o map raw)
  unfolding units_analysed
  analysed_kinds o map raw =
      bind_kinds IsOne (entries_meant o map raw) _
      (bind_kinds IsOne (raw_entries_by (info_step o map raw) raw.entries) _ (raw_entries_kinds (info_step o map raw) (λ unit a. value_kinds _ _ a a.value) raw.entries) (λ made. ok_kinds IsOne _)) (λ meant.
      bind_kinds IsOne (units_meant o map meant raw.units) _ (units_meant_kinds o map meant raw.units) (λ units.
      bind_kinds IsOne (entries_by (ranges_step o map raw meant) (all_marked meant)) _ (entries_kinds (ranges_step o map raw meant) (λ unit a. ranges_kinds o map (unit_context raw.units raw.entries unit) _ a a.value) (all_marked meant)) (λ ranged.
      bind_kinds IsOne (entries_by (locations_step o map raw meant) ranged) _ (entries_kinds (locations_step o map raw meant) (λ unit a. locations_kinds _ _ a a.value) ranged) (λ entries.
      bind_kinds IsOne (frames_of o.image o.relocs.frame o.sections.frame) _ (frames_kinds o) (λ frames. ok_kinds IsOne _)))))

  read_kinds : (bytes : List ℕ) (cpu : ℕ) → FaultsAre IsOne (read_of bytes cpu)
  unfolding read_of
  read_kinds bytes cpu =
      bind_kinds IsOne (opened_of bytes cpu) _ (opened_kinds bytes cpu) (λ o.
      bind_kinds IsOne (units_of o.sections) _ (units_kinds o.sections) (λ raw. ok_kinds IsOne _))

  pub analysis_kinds : (bytes : List ℕ) (object : MapObject) (cpu : ℕ) → FaultsAre IsOne (analysis_of bytes object cpu)
  unfolding analysis_of
  analysis_kinds bytes object cpu =
      bind_kinds IsOne (read_of bytes cpu) _ (read_kinds bytes cpu) (λ read. analysed_kinds read.opened (map_of object read.opened.image) read.units)
