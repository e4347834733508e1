-- The abbreviations of a unit: each node's code finds its declaration, and each declaration is as the standard has it.
use Rattle.std.proofs.Common.{◌≡◌, ◌<◌, ◌≤◌, ◌+◌, ◌^◌, ◌==◌, ℕ, suc, Bool, true, false, List, [], ◌∷◌, length, map, slice_get, cond, if◌then◌else◌, Some, refl, sym, subst, arith}
use Rattle.std.specs.List.{All, enumerate_from, list_any}
use Rattle.std.proofs.lemmas.List.{length-map}
use Rattle.std.proofs.lemmas.List.Elements.{All-cons, All-head, All-nil, All-tail}
use Rattle.std.proofs.lemmas.List.FromFn.{length-enumerate_from}
use Rattle.ds_base.specs.DwarfNumbers.{DW_FORM_implicit_const, DW_FORM_ref4, DW_FORM_ref_addr}
use Rattle.dwarf_types.specs.declared.abbrev.Declaration.{Declaration}
use Rattle.dwarf_types.specs.declared.graph.Node.{Node}
use Rattle.dwarf_types.specs.declared.graph.OutAttr.{OutAttr}
use Rattle.dwarf_types.specs.declared.graph.OutValue.{OutValue}
use Rattle.dwarf_types.specs.declared.graph.OutValue.TheVariants as outs
use Rattle.dwarf_types.specs.declared.graph.Target.{Target}
use Rattle.dwarf_types.specs.Abbreviations.{code_in, declaration_of, same_declaration, table_of}
use Rattle.dwarf_types.specs.Forms.{form_of}
use Rattle.dwarf_types.specs.WellNodes.{IsAttribute, IsNode}
use Rattle.dwarf_types.specs.WellValues.{IsValue}
use Rattle.dwarf_types.specs.WellValues.FitsBlock.{in_block, in_block1, in_block2, in_block4}
use Rattle.dwarf_types.specs.WellValues.FitsForm.{in_data1, in_data2, in_data4, in_data8, in_flag, in_flag_present, in_sdata, in_udata}
use Rattle.abbrev_read.specs.Spelling.{IsShort}
use Rattle.written_laws.specs.ReadDeclarations.{AreShort, AreSmall, IsSmall, abbrevs_from}
use Rattle.written_laws.specs.ReadEntries.{AreCoded}
use Rattle.written_laws.proofs.Codes.{code_finds, same_is, same_itself, some_code}
use Rattle.written_laws.proofs.Cuts.{any_at, map_at, numbered_first}
use Rattle.written_laws.proofs.Firsts.{all_once, once_any, once_short}

-- ---- codes

few_codes : (ds : List Declaration) (d : Declaration) → code_in ds d ≤ length ds + 1
few_codes [] d = omega arith
few_codes (x ∷ ds) d = by (same_declaration x d) (few_codes ds d)
  where
    by : (b : Bool) → code_in ds d ≤ length ds + 1 → cond b 1 (code_in ds d + 1) ≤ suc (length ds) + 1
    by true le = omega arith
    by false le = omega (arith, le)

module _ (u : ℕ) (nodes : List Node) where
  abbrev declared : List Declaration
  declared = map (λ n. declaration_of u nodes n.0 n.1) (enumerate_from 0 nodes)

  -- the declaration of a node is among those of its unit
  among : (k : ℕ) (node : Node) → slice_get nodes k ≡ Some node → list_any (λ x. same_declaration x (declaration_of u nodes k node)) (table_of u nodes) ≡ true
  among k node at =
      let there = map_at (λ (n : ℕ × Node). declaration_of u nodes n.0 n.1) (enumerate_from 0 nodes) k (k, node) (numbered_first nodes k node at) in
      once_any same_declaration same_is (declaration_of u nodes k node) declared
      (any_at (λ (x : Declaration). same_declaration x (declaration_of u nodes k node)) declared k (declaration_of u nodes k node) there (same_itself (declaration_of u nodes k node)))

  pub few_declared : length (table_of u nodes) ≤ length nodes
  few_declared = omega (arith, once_short same_declaration declared, length-map (enumerate_from 0 nodes) (λ (n : ℕ × Node). declaration_of u nodes n.0 n.1), length-enumerate_from 0 nodes)

  pub are_coded : length nodes < 2 ^ 32 → AreCoded (abbrevs_from 1 (table_of u nodes)) u nodes
  are_coded few k node at = record {
    some = some_code (table_of u nodes) (declaration_of u nodes k node);
    fits = omega (arith, few, few_declared, few_codes (table_of u nodes) (declaration_of u nodes k node));
    found = code_finds (table_of u nodes) (declaration_of u nodes k node) (among k node at);
  }

  -- ---- declarations

  ref_short : (b : Bool) → IsShort (if b then DW_FORM_ref4 else DW_FORM_ref_addr) × ((if b then DW_FORM_ref4 else DW_FORM_ref_addr) == DW_FORM_implicit_const ≡ false)
  ref_short true = ((omega arith, omega arith), refl)
  ref_short false = ((omega arith, omega arith), refl)

  -- a form that an abbreviation may have, and none that has its constant there
  abbrev Plain : ℕ → Type 0
  Plain form = IsShort form × ((form == DW_FORM_implicit_const) ≡ false)

  form_short : (MayLead : Target → Type 0) (version : ℕ) (value : OutValue) → IsValue MayLead version nodes value → Plain (form_of u value)
  form_short MayLead version (outs.Address n) is = ((omega arith, omega arith), refl)
  form_short MayLead version (outs.Text t) is = ((omega arith, omega arith), refl)
  form_short MayLead version (outs.Number form bits) (in_data1 e lt) = subst Plain (sym e) ((omega arith, omega arith), refl)
  form_short MayLead version (outs.Number form bits) (in_data2 e lt) = subst Plain (sym e) ((omega arith, omega arith), refl)
  form_short MayLead version (outs.Number form bits) (in_data4 e lt) = subst Plain (sym e) ((omega arith, omega arith), refl)
  form_short MayLead version (outs.Number form bits) (in_data8 e lt) = subst Plain (sym e) ((omega arith, omega arith), refl)
  form_short MayLead version (outs.Number form bits) (in_sdata e lt) = subst Plain (sym e) ((omega arith, omega arith), refl)
  form_short MayLead version (outs.Number form bits) (in_udata e lt) = subst Plain (sym e) ((omega arith, omega arith), refl)
  form_short MayLead version (outs.Number form bits) (in_flag e lt) = subst Plain (sym e) ((omega arith, omega arith), refl)
  form_short MayLead version (outs.Number form bits) (in_flag_present e one) = subst Plain (sym e) ((omega arith, omega arith), refl)
  form_short MayLead version (outs.Wide b) is = ((omega arith, omega arith), refl)
  form_short MayLead version (outs.Block form b) (in_block1 e lt, bytes) = subst Plain (sym e) ((omega arith, omega arith), refl)
  form_short MayLead version (outs.Block form b) (in_block2 e lt, bytes) = subst Plain (sym e) ((omega arith, omega arith), refl)
  form_short MayLead version (outs.Block form b) (in_block4 e lt, bytes) = subst Plain (sym e) ((omega arith, omega arith), refl)
  form_short MayLead version (outs.Block form b) (in_block e lt, bytes) = subst Plain (sym e) ((omega arith, omega arith), refl)
  form_short MayLead version (outs.Expr p) is = ((omega arith, omega arith), refl)
  form_short MayLead version (outs.Ref target) is = ref_short (target.unit == u)
  form_short MayLead version (outs.Ranges s) is = ((omega arith, omega arith), refl)
  form_short MayLead version (outs.Locations l) is = ((omega arith, omega arith), refl)
  form_short MayLead version outs.Lines is = ((omega arith, omega arith), refl)

  attrs_short : (MayLead : Target → Type 0) (version : ℕ) (attrs : List OutAttr) → All (IsAttribute MayLead version nodes) attrs → AreShort (map (λ a. (a.name, form_of u a.value)) attrs)
  attrs_short MayLead version [] all = tt
  attrs_short MayLead version (a ∷ attrs) all =
      let w = All-head (IsAttribute MayLead version nodes) a attrs all in
      let form = form_short MayLead version a.value w.value in
      (((w.some, omega (arith, w.fits)), form.0, form.1), attrs_short MayLead version attrs (All-tail (IsAttribute MayLead version nodes) a attrs all))

  is_small : (MayLead : Target → Type 0) (version k : ℕ) (node : Node) → IsNode MayLead version nodes node → length node.attrs ≤ 256 → IsSmall (declaration_of u nodes k node)
  is_small MayLead version k node w few = record {
    tag = (w.some, omega (arith, w.fits));
    few = omega (arith, few, length-map {B = ℕ × ℕ} node.attrs (λ (a : OutAttr). (a.name, form_of u a.value)));
    attributes = attrs_short MayLead version node.attrs w.attrs;
  }

  declared_small : (MayLead : Target → Type 0) (version k : ℕ) (ns : List Node) → All (IsNode MayLead version nodes) ns → All (λ n. length n.attrs ≤ 256) ns → All IsSmall (map (λ n. declaration_of u nodes n.0 n.1) (enumerate_from k ns))
  declared_small MayLead version k [] all narrow = All-nil IsSmall
  declared_small MayLead version k (n ∷ ns) all narrow =
      All-cons IsSmall (declaration_of u nodes k n) (map (λ m. declaration_of u nodes m.0 m.1) (enumerate_from (k + 1) ns))
      (is_small MayLead version k n (All-head (IsNode MayLead version nodes) n ns all) (All-head (λ (m : Node). length m.attrs ≤ 256) n ns narrow))
      (declared_small MayLead version (k + 1) ns (All-tail (IsNode MayLead version nodes) n ns all) (All-tail (λ (m : Node). length m.attrs ≤ 256) n ns narrow))

  one_by_one : (ds : List Declaration) → All IsSmall ds → AreSmall ds
  one_by_one [] all = tt
  one_by_one (d ∷ ds) all = (All-head IsSmall d ds all, one_by_one ds (All-tail IsSmall d ds all))

  pub are_small : (MayLead : Target → Type 0) (version : ℕ) → All (IsNode MayLead version nodes) nodes → All (λ n. length n.attrs ≤ 256) nodes → AreSmall (table_of u nodes)
  are_small MayLead version all narrow = one_by_one (table_of u nodes) (all_once same_declaration IsSmall declared (declared_small MayLead version 0 nodes all narrow))
