-- The lengths that are told of parts of the output are those of their bytes.
use Rattle.std.proofs.Common.{◌≡◌, ℕ, ◌+◌, ◌*◌, ◌==◌, Bool, true, false, cond, List, [], ◌∷◌, ◌++◌, length, replicate, sum_by, flat_map, Option, refl, ap, ◌∙◌, arith, length-append}
use mathlib.Core.Path.{fun_ext}
use Rattle.std.specs.Int.{w64, cast_signed}
use Rattle.std.proofs.lemmas.List.{length-replicate}
use Rattle.std.proofs.lemmas.List.Concat.{length-flat_map}
use Rattle.std.proofs.lemmas.List.Sums.{sum_by-cons}
use Rattle.byteorder.specs.Endian.{little_bytes}
use Rattle.ds_base.specs.DwarfNumbers.{DW_FORM_block1, DW_FORM_block2, DW_FORM_block4, DW_FORM_data1, DW_FORM_data2, DW_FORM_data4, DW_FORM_data8, DW_FORM_flag, DW_FORM_sdata, DW_FORM_udata, DW_LLE_start_end, DW_RLE_end_of_list, DW_RLE_start_end, DW_UT_compile}
use Rattle.ds_base.specs.Leb.{uleb, uleb_len_of, sleb, sleb_len_of}
use Rattle.ds_base.proofs.LebLengths.{length-uleb, length-sleb}
use Rattle.dwarf_types.specs.declared.address.Span.{Span}
use Rattle.dwarf_types.specs.declared.graph.OutAttr.{OutAttr}
use Rattle.dwarf_types.specs.declared.graph.OutLocation.{OutLocation}
use Rattle.dwarf_types.specs.declared.graph.OutUnit.{OutUnit}
use Rattle.dwarf_types.specs.declared.graph.OutValue.{OutValue}
use Rattle.dwarf_types.specs.declared.graph.OutValue.TheVariants as values
use Rattle.dwarf_types.specs.declared.parts.ExprPart.{ExprPart}
use Rattle.dwarf_types.specs.declared.parts.ExprPart.TheVariants as parts
use Rattle.dwarf_types.specs.declared.parts.PlainPart.{PlainPart}
use Rattle.dwarf_types.specs.declared.parts.PlainPart.TheVariants as plain
use Rattle.dwarf_types.specs.Aranges.{set_len, set_bytes}
use Rattle.dwarf_types.specs.Entries.{OutEntry, entry_len, entry_bytes, entries_bytes, entries_of, behind_node, header_bytes, header_fields, header_len, unit_len, unit_bytes}
use Rattle.dwarf_types.specs.Expressions.{typed_len, typed_bytes, base_bytes, plain_part_len, plain_part_bytes, inner_len, inner_bytes, part_len, part_bytes, expression_len, expression_bytes}
use Rattle.dwarf_types.specs.Frames.{FrameEntry, Common, Description, frame_entry_len, frame_entry_bytes, frames_len, frames_bytes, frame_entries}
use Rattle.dwarf_types.specs.declared.frames.OutFrame.{OutFrame}
use Rattle.dwarf_types.specs.Lists.{end_len, end_of_list, kind_bytes, kind_len, range_bytes, range_list_len, range_list_bytes, location_len, location_bytes, location_list_len, location_list_bytes, size_bytes, size_len, span_bytes}
use Rattle.dwarf_types.specs.Places.{Places, ListPlaces, behind_value, own_node}
use Rattle.dwarf_types.specs.Values.{block_prefix, block_prefix_len, number_bytes, number_len, value_bytes, value_len, values_bytes, values_len}

-- parts one after the other, each of which has a length
length_of_all : {X : Type 0} (f : X → List ℕ) (len : X → ℕ) → ((x : X) → length (f x) ≡ len x) → (xs : List X) → length (flat_map f xs) ≡ sum_by len xs
length_of_all {X} f len each xs = length-flat_map f xs ∙ ap (λ (g : X → ℕ). sum_by g xs) (fun_ext each)

-- ---- expressions

length-typed : (place : ℕ → ℕ) (code : ℕ) (before : List ℕ) (base : Option ℕ) (after : List ℕ) → length (typed_bytes place code before base after) ≡ typed_len before after
length-typed place code before base after = omega (arith, length-append before (base_bytes place base ++ after), length-append (base_bytes place base) after)

length-plain_part : (place : ℕ → ℕ) (part : PlainPart) → length (plain_part_bytes place part) ≡ plain_part_len part
length-plain_part place (plain.Plain bytes) = refl
length-plain_part place (plain.Typed code before base after) = length-typed place code before base after

length-inner : (place : ℕ → ℕ) (inner : List PlainPart) → length (inner_bytes place inner) ≡ inner_len inner
length-inner place inner = length_of_all (plain_part_bytes place) plain_part_len (length-plain_part place) inner

length-part : (place : ℕ → ℕ) (part : ExprPart) → length (part_bytes place part) ≡ part_len part
length-part place (parts.Plain bytes) = refl
length-part place (parts.Typed code before base after) = length-typed place code before base after
length-part place (parts.Nested code inner) = omega (arith, length-append (uleb (inner_len inner)) (inner_bytes place inner), length-uleb (inner_len inner), length-inner place inner)

pub length-expression : (place : ℕ → ℕ) (expression : List ExprPart) → length (expression_bytes place expression) ≡ expression_len expression
length-expression place expression = length_of_all (part_bytes place) part_len (length-part place) expression

-- ---- lists

length_if : (five : Bool) (xs ys : List ℕ) (m n : ℕ) → length xs ≡ m → length ys ≡ n → length (cond five xs ys) ≡ cond five m n
length_if true xs ys m n e h = e
length_if false xs ys m n e h = h

length-kind : (version kind : ℕ) → length (kind_bytes version kind) ≡ kind_len version
length-kind version kind = length_if (version == 5) (kind ∷ []) [] 1 0 refl refl

length-end : (version : ℕ) → length (end_of_list version) ≡ end_len version
length-end version = length_if (version == 5) (DW_RLE_end_of_list ∷ []) (replicate 16 0) 1 16 refl refl

length-size : (version n : ℕ) → length (size_bytes version n) ≡ size_len version n
length-size version n = length_if (version == 5) (uleb n) (little_bytes 2 n) (uleb_len_of n) 2 (length-uleb n) refl

length-range : (version : ℕ) (s : Span) → length (range_bytes version s) ≡ kind_len version + 16
length-range version s = length-append (kind_bytes version DW_RLE_start_end) (span_bytes s) ∙ ap (λ (n : ℕ). n + 16) (length-kind version DW_RLE_start_end)

all_ranges : (version : ℕ) (spans : List Span) → length (flat_map (range_bytes version) spans) ≡ (kind_len version + 16) * length spans
all_ranges version [] = omega arith
all_ranges version (s ∷ spans) =
    let all : length (flat_map (range_bytes version) (s ∷ spans)) ≡ length (range_bytes version s) + length (flat_map (range_bytes version) spans) = length-append (range_bytes version s) (flat_map (range_bytes version) spans) in
    let each = length-range version s in
    let others = all_ranges version spans in
    let more : (kind_len version + 16) * (length spans + 1) ≡ (kind_len version + 16) * length spans + (kind_len version + 16) = omega arith in
    omega (arith, all, each, others, more)

pub length-range_list : (version : ℕ) (spans : List Span) → length (range_list_bytes version spans) ≡ range_list_len version spans
length-range_list version spans =
    omega (arith, length-append (flat_map (range_bytes version) spans) (end_of_list version), all_ranges version spans, length-end version)

length-location : (version : ℕ) (place : ℕ → ℕ) (item : OutLocation) → length (location_bytes version place item) ≡ location_len version item
length-location version place item =
    let size = size_bytes version (expression_len item.parts) in
    omega (
      arith,
      length-append (kind_bytes version DW_LLE_start_end) (span_bytes item.span ++ (size ++ expression_bytes place item.parts)),
      length-append (span_bytes item.span) (size ++ expression_bytes place item.parts),
      length-append size (expression_bytes place item.parts),
      length-kind version DW_LLE_start_end,
      length-size version (expression_len item.parts),
      length-expression place item.parts,
    )

pub length-location_list : (version : ℕ) (place : ℕ → ℕ) (items : List OutLocation) → length (location_list_bytes version place items) ≡ location_list_len version items
length-location_list version place items =
    omega (
      arith,
      length-append (flat_map (location_bytes version place) items) (end_of_list version),
      length_of_all (location_bytes version place) (location_len version) (length-location version place) items,
      length-end version,
    )

-- ---- values

-- the same choice among spellings, and among their lengths
length_choice : (a b c d e f g : Bool) (bits : ℕ) →
    length (cond a (little_bytes 1 bits) (cond b (little_bytes 2 bits) (cond c (little_bytes 4 bits) (cond d (little_bytes 8 bits) (cond e (little_bytes 1 bits)
    (cond f (uleb bits) (cond g (sleb (cast_signed w64 bits)) [])))))))
    ≡ cond a 1 (cond b 2 (cond c 4 (cond d 8 (cond e 1 (cond f (uleb_len_of bits) (cond g (sleb_len_of (cast_signed w64 bits)) 0))))))
length_choice true b c d e f g bits = refl
length_choice false true c d e f g bits = refl
length_choice false false true d e f g bits = refl
length_choice false false false true e f g bits = refl
length_choice false false false false true f g bits = refl
length_choice false false false false false true g bits = length-uleb bits
length_choice false false false false false false true bits = length-sleb (cast_signed w64 bits)
length_choice false false false false false false false bits = refl

length-number : (form bits : ℕ) → length (number_bytes form bits) ≡ number_len form bits
unfolding number_bytes number_len
length-number form bits = length_choice (form == DW_FORM_data1) (form == DW_FORM_data2) (form == DW_FORM_data4) (form == DW_FORM_data8) (form == DW_FORM_flag) (form == DW_FORM_udata) (form == DW_FORM_sdata) bits

length_prefix : (a b c : Bool) (len : ℕ) → length (cond a (little_bytes 1 len) (cond b (little_bytes 2 len) (cond c (little_bytes 4 len) (uleb len)))) ≡ cond a 1 (cond b 2 (cond c 4 (uleb_len_of len)))
length_prefix true b c len = refl
length_prefix false true c len = refl
length_prefix false false true len = refl
length_prefix false false false len = length-uleb len

length-block_prefix : (form len : ℕ) → length (block_prefix form len) ≡ block_prefix_len form len
unfolding block_prefix block_prefix_len
length-block_prefix form len = length_prefix (form == DW_FORM_block1) (form == DW_FORM_block2) (form == DW_FORM_block4) len

pub length-value : (places : Places) (next : ListPlaces) (value : OutValue) → length (value_bytes places next value) ≡ value_len value
length-value places next (values.Address address) = refl
length-value places next (values.Text text) = refl
length-value places next (values.Number form bits) = length-number form bits
length-value places next (values.Wide bytes) = refl
length-value places next (values.Block form bytes) = length-append (block_prefix form (length bytes)) bytes ∙ ap (λ (n : ℕ). n + length bytes) (length-block_prefix form (length bytes))
length-value places next (values.Expr expression) =
    omega (arith, length-append (uleb (expression_len expression)) (expression_bytes (own_node places) expression), length-uleb (expression_len expression), length-expression (own_node places) expression)
length-value places next (values.Ref target) = refl
length-value places next (values.Ranges spans) = refl
length-value places next (values.Locations items) = refl
length-value places next values.Lines = refl

pub length-values : (places : Places) (next : ListPlaces) (attrs : List OutAttr) → length (values_bytes places next attrs) ≡ values_len attrs
length-values places next [] = refl
length-values places next (a ∷ attrs) =
    let rest = values_bytes places (behind_value places.version next a.value) attrs in
    omega (arith, length-append (value_bytes places next a.value) rest, length-value places next a.value, length-values places (behind_value places.version next a.value) attrs, sum_by-cons (λ (b : OutAttr). value_len b.value) a attrs)

-- ---- entries

pub length-entry : (places : Places) (next : ListPlaces) (entry : OutEntry) → length (entry_bytes places next entry) ≡ entry_len entry
length-entry places next entry =
    omega (
      arith,
      length-append (uleb entry.code) (values_bytes places next entry.node.attrs ++ replicate entry.ended 0),
      length-append (values_bytes places next entry.node.attrs) (replicate entry.ended 0),
      length-uleb entry.code,
      length-values places next entry.node.attrs,
      length-replicate {A = ℕ} entry.ended 0,
    )

pub length-entries : (places : Places) (next : ListPlaces) (entries : List OutEntry) → length (entries_bytes places next entries) ≡ sum_by entry_len entries
length-entries places next [] = refl
length-entries places next (e ∷ es) =
    let rest = entries_bytes places (behind_node places.version next e.node) es in
    omega (arith, length-append (entry_bytes places next e) rest, length-entry places next e, length-entries places (behind_node places.version next e.node) es, sum_by-cons entry_len e es)

length-fields : (version table : ℕ) → 6 + length (header_fields version table) ≡ header_len version
length-fields version table =
    ap (λ (n : ℕ). 6 + n) (length_if (version == 5) (DW_UT_compile ∷ 8 ∷ little_bytes 4 table) (little_bytes 4 table ++ 8 ∷ []) 6 5 refl refl) ∙ six (version == 5)
  where
    six : (five : Bool) → 6 + cond five 6 5 ≡ cond five 12 11
    six true = refl
    six false = refl

pub length-header : (u table : ℕ) (unit : OutUnit) → length (header_bytes u table unit) ≡ header_len unit.version
length-header u table unit = omega (arith, length-fields unit.version table)

pub length-unit : (places : Places) (next : ListPlaces) (table : ℕ) (unit : OutUnit) → length (unit_bytes places next table unit) ≡ unit_len places.unit unit
length-unit places next table unit =
    omega (
      arith,
      length-append (header_bytes places.unit table unit) (entries_bytes places next (entries_of places.unit unit)),
      length-header places.unit table unit,
      length-entries places next (entries_of places.unit unit),
    )

-- ---- sets of addresses, frames

pub length-set : (start : ℕ) (spans : List Span) → length (set_bytes start spans) ≡ set_len spans
length-set start [] = refl
length-set start (s ∷ spans) = let h = length-set start spans in omega (arith, h)

length-frame_entry : (all : List FrameEntry) (e : FrameEntry) → length (frame_entry_bytes all e) ≡ frame_entry_len e
length-frame_entry all (Common content) = omega arith
length-frame_entry all (Description f) = omega arith

pub length-frames : (frames : List OutFrame) → length (frames_bytes frames) ≡ frames_len frames
length-frames frames = length_of_all (frame_entry_bytes (frame_entries frames)) frame_entry_len (length-frame_entry (frame_entries frames)) (frame_entries frames)
