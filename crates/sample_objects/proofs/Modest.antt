-- How long the sections of a unit are at most whose nodes are small.
use Rattle.std.proofs.Common.{◌≡◌, ◌≤◌, ◌<◌, ◌^◌, ◌+◌, ◌*◌, ◌==◌, ℕ, zero, suc, Bool, true, false, not, List, [], ◌∷◌, ◌++◌, length, filter, map, Option, Some, None, nat_lt, if◌then◌else◌, arith, refl, ap, ◌∙◌, length-append}
use Rattle.std.specs.List.{AllByRecursion, enumerate_from, flat_map, sum_by}
use Rattle.std.specs.Int.{w64, cast_signed}
use Rattle.std.specs.Option.{option_map_or}
use Rattle.std.specs.Str.{bytes_eq}
use Rattle.std.proofs.lemmas.List.{length-map}
use Rattle.std.proofs.lemmas.List.Concat.{length-flat_map}
use Rattle.std.proofs.lemmas.List.Sums.{sum_by-append, sum_by-cons}
use Rattle.ds_base.specs.FirstUse.{once}
use Rattle.ds_base.specs.DwarfNumbers.{DW_FORM_data1, DW_FORM_data2, DW_FORM_data4, DW_FORM_data8, DW_FORM_flag, DW_FORM_sdata, DW_FORM_udata}
use Rattle.ds_base.specs.Leb.{sleb_len_of, uleb, uleb_len_of}
use Rattle.ds_base.specs.Texts.{ended, section_of}
use Rattle.ds_base.proofs.LebLengths.{few_digits, few_signed_digits, length-uleb}
use Rattle.dwarf_types.specs.declared.abbrev.Declaration.{Declaration}
use Rattle.dwarf_types.specs.declared.graph.Node.{Node}
use Rattle.dwarf_types.specs.declared.graph.OutAttr.{OutAttr}
use Rattle.dwarf_types.specs.declared.graph.OutUnit.{OutUnit}
use Rattle.dwarf_types.specs.Abbreviations.{declaration_bytes, declaration_of, same_declaration, table_bytes, table_of}
use Rattle.dwarf_types.specs.Entries.{OutEntry, ancestors_up, entry_len, entry_of, header_len, parent_of, unit_len}
use Rattle.dwarf_types.specs.Forms.{form_of}
use Rattle.dwarf_types.specs.Layout.{texts_of_node}
use Rattle.dwarf_types.specs.Lists.{locations_bytes, ranges_bytes}
use Rattle.dwarf_types.specs.Values.{number_len, values_len}

-- few attributes, which have short values and short texts and no lists
pub record IsModest (node : Node) : Type 0 where
  pub attrs : length node.attrs ≤ 8
  pub values : values_len node.attrs ≤ 64
  pub texts : sum_by (λ t. length (ended t)) (texts_of_node node) ≤ 64
  pub ranges : (version : ℕ) → flat_map (λ a. ranges_bytes version a.value) node.attrs ≡ []
  pub locations : (version : ℕ) (place : ℕ → ℕ) → flat_map (λ a. locations_bytes version place a.value) node.attrs ≡ []

abbrev pub AreModest : List Node → Type 0
AreModest nodes = AllByRecursion IsModest nodes

one_of : (b : Bool) (m n : ℕ) → m ≤ 10 → n ≤ 10 → (if b then m else n) ≤ 10
one_of true m n h k = h
one_of false m n h k = k

pub short_number : (form bits : ℕ) → number_len form bits ≤ 10
unfolding number_len
short_number form bits =
    one_of (form == DW_FORM_data1) 1 _ (omega arith)
    (one_of (form == DW_FORM_data2) 2 _ (omega arith)
    (one_of (form == DW_FORM_data4) 4 _ (omega arith)
    (one_of (form == DW_FORM_data8) 8 _ (omega arith)
    (one_of (form == DW_FORM_flag) 1 _ (omega arith)
    (one_of (form == DW_FORM_udata) (uleb_len_of bits) _ (few_digits bits)
    (one_of (form == DW_FORM_sdata) (sleb_len_of (cast_signed w64 bits)) 0 (few_signed_digits (cast_signed w64 bits)) (omega arith)))))))

-- ---- items by first use

less : {X : Type 0} (f : X → ℕ) (p : X → Bool) (xs : List X) → sum_by f (filter p xs) ≤ sum_by f xs
less f p [] = omega arith
less {X} f p (x ∷ xs) = by (p x) (less f p xs)
  where
    by : (b : Bool) → sum_by f (filter p xs) ≤ sum_by f xs → sum_by f (if b then x ∷ filter p xs else filter p xs) ≤ sum_by f (x ∷ xs)
    by true h = omega (arith, h, sum_by-cons f x (filter p xs), sum_by-cons f x xs)
    by false h = omega (arith, h, sum_by-cons f x xs)

once_less : {X : Type 0} (f : X → ℕ) (same : X → X → Bool) (xs : List X) → sum_by f (once same xs) ≤ sum_by f xs
once_less f same [] = omega arith
once_less {X} f same (x ∷ xs) =
    let others = filter (λ (y : X). not (same x y)) (once same xs) in
    omega (arith, once_less f same xs, less f (λ (y : X). not (same x y)) (once same xs), sum_by-cons f x others, sum_by-cons f x xs)

-- ---- entries

up_few : (most : ℕ) (nodes : List Node) (k : ℕ) → length (ancestors_up most nodes k) ≤ most
up_few zero nodes k = omega arith
up_few (suc most) nodes k = by (parent_of nodes k) (up_few most nodes)
  where
    inner : (b : Bool) (p : ℕ) → ((q : ℕ) → length (ancestors_up most nodes q) ≤ most) → length (p ∷ (if b then ancestors_up most nodes p else [])) ≤ suc most
    inner true p h = let e = h p in omega (arith, e)
    inner false p h = omega arith

    by : (o : Option ℕ) → ((q : ℕ) → length (ancestors_up most nodes q) ≤ most) → length (option_map_or (λ p. p ∷ (if nat_lt p k then ancestors_up most nodes p else [])) o []) ≤ suc most
    by None h = omega arith
    by (Some p) h = inner (nat_lt p k) p h

module _ (all : List Node) where
  abbrev entry_in : ℕ × Node → OutEntry
  entry_in n = entry_of 0 all n.0 n.1

  entry_few : (k : ℕ) (node : Node) → IsModest node → k < 2000 → entry_len (entry_of 0 all k node) ≤ 2100
  entry_few k node small few = omega (arith, few_digits (entry_of 0 all k node).code, small.values, up_few (k + 1) all k, few)

  entries_few : (nodes : List Node) (k : ℕ) → k + length nodes ≤ 2000 → AreModest nodes → sum_by entry_len (map entry_in (enumerate_from k nodes)) ≤ length nodes * 2100
  entries_few [] k few small = omega arith
  entries_few (n ∷ nodes) k few small =
      omega (
        arith,
        sum_by-cons entry_len (entry_in (k, n)) (map entry_in (enumerate_from (k + 1) nodes)),
        entry_few k n small.0 (omega (arith, few)),
        entries_few nodes (k + 1) (omega (arith, few)) small.1,
      )

-- ---- abbreviations

abbrev weight : Declaration → ℕ
weight d = 23 + 20 * length d.attributes

pairs_few : (ps : List (ℕ × ℕ)) → length (flat_map (λ p. uleb p.0 ++ uleb p.1) ps) ≤ 20 * length ps
pairs_few [] = omega arith
pairs_few (p ∷ ps) =
    omega (
      arith,
      length-append (uleb p.0 ++ uleb p.1) (flat_map (λ (q : ℕ × ℕ). uleb q.0 ++ uleb q.1) ps),
      length-append (uleb p.0) (uleb p.1),
      length-uleb p.0,
      length-uleb p.1,
      few_digits p.0,
      few_digits p.1,
      pairs_few ps,
    )

declared_few : (code : ℕ) (d : Declaration) → length (declaration_bytes code d) ≤ weight d
declared_few code d =
    let pairs = flat_map (λ (p : ℕ × ℕ). uleb p.0 ++ uleb p.1) d.attributes in
    let children : ℕ = if d.children then 1 else 0 in
    omega (
      arith,
      length-append (uleb code) (uleb d.tag ++ (children ∷ (pairs ++ (0 ∷ 0 ∷ [])))),
      length-append (uleb d.tag) (children ∷ (pairs ++ (0 ∷ 0 ∷ []))),
      length-append pairs (0 ∷ 0 ∷ []),
      length-uleb code,
      length-uleb d.tag,
      few_digits code,
      few_digits d.tag,
      pairs_few d.attributes,
    )

declarations_few : (ds : List Declaration) (n : ℕ) → length (flat_map (λ d. declaration_bytes d.0 d.1) (enumerate_from n ds)) ≤ sum_by weight ds
declarations_few [] n = omega arith
declarations_few (d ∷ ds) n =
    omega (
      arith,
      length-append (declaration_bytes n d) (flat_map (λ (e : ℕ × Declaration). declaration_bytes e.0 e.1) (enumerate_from (n + 1) ds)),
      sum_by-cons weight d ds,
      declared_few n d,
      declarations_few ds (n + 1),
    )

module _ (all : List Node) where
  abbrev declared_in : ℕ × Node → Declaration
  declared_in n = declaration_of 0 all n.0 n.1

  weights_few : (nodes : List Node) (k : ℕ) → AreModest nodes → sum_by weight (map declared_in (enumerate_from k nodes)) ≤ length nodes * 200
  weights_few [] k small = omega arith
  weights_few (n ∷ nodes) k small =
      omega (
        arith,
        sum_by-cons weight (declared_in (k, n)) (map declared_in (enumerate_from (k + 1) nodes)),
        length-map {B = ℕ × ℕ} n.attrs (λ (a : OutAttr). (a.name, form_of 0 a.value)),
        small.0.attrs,
        weights_few nodes (k + 1) small.1,
      )

-- ---- texts

abbrev text_len : List ℕ → ℕ
text_len t = length (ended t)

texts_few : (nodes : List Node) → AreModest nodes → sum_by text_len (flat_map texts_of_node nodes) ≤ length nodes * 64
texts_few [] small = omega arith
texts_few (n ∷ nodes) small = omega (arith, sum_by-append text_len (texts_of_node n) (flat_map texts_of_node nodes), small.0.texts, texts_few nodes small.1)

-- ---- lists

pub no_ranges : (version : ℕ) (nodes : List Node) → AreModest nodes → flat_map (λ node. flat_map (λ a. ranges_bytes version a.value) node.attrs) nodes ≡ []
no_ranges version [] small = refl
no_ranges version (n ∷ nodes) small =
    ap (λ (front : List ℕ). front ++ flat_map (λ (node : Node). flat_map (λ (a : OutAttr). ranges_bytes version a.value) node.attrs) nodes) (small.0.ranges version) ∙ no_ranges version nodes small.1

pub no_locations : (version : ℕ) (place : ℕ → ℕ) (nodes : List Node) → AreModest nodes → flat_map (λ node. flat_map (λ a. locations_bytes version place a.value) node.attrs) nodes ≡ []
no_locations version place [] small = refl
no_locations version place (n ∷ nodes) small =
    ap (λ (front : List ℕ). front ++ flat_map (λ (node : Node). flat_map (λ (a : OutAttr). locations_bytes version place a.value) node.attrs) nodes) (small.0.locations version place) ∙ no_locations version place nodes small.1

-- ---- the unit

header_few : (version : ℕ) → header_len version ≤ 12
header_few version = by (version == 5)
  where
    by : (five : Bool) → (if five then 12 else 11) ≤ 12
    by true = omega arith
    by false = omega arith

module _ (unit : OutUnit) (few : length unit.nodes ≤ 2000) (small : AreModest unit.nodes) where
  pub unit_few : unit_len 0 unit ≤ 2 ^ 23
  unit_few = omega (arith, header_few unit.version, entries_few unit.nodes unit.nodes 0 (omega (arith, few)) small, few)

  pub table_few : length (table_bytes 0 unit) ≤ 2 ^ 20
  table_few =
      let ds = table_of 0 unit.nodes in
      omega (
        arith,
        length-append (flat_map (λ (d : ℕ × Declaration). declaration_bytes d.0 d.1) (enumerate_from 1 ds)) (0 ∷ []),
        declarations_few ds 1,
        once_less weight same_declaration (map (declared_in unit.nodes) (enumerate_from 0 unit.nodes)),
        weights_few unit.nodes unit.nodes 0 small,
        few,
      )

  pub strings_few : length (section_of (once bytes_eq (flat_map texts_of_node unit.nodes))) ≤ 2 ^ 20
  strings_few =
      let uses = flat_map texts_of_node unit.nodes in
      omega (arith, length-flat_map ended (once bytes_eq uses), once_less text_len bytes_eq uses, texts_few unit.nodes small, few)
