-- Objects and what is linked of them.
use Rattle.std.proofs.Common.{◌≡◌, ◌==◌, if◌then◌else◌, ℕ, true, false, List, [], ◌∷◌, Option, Some, None, map, refl}
use Rattle.std.specs.List.{filter_map}
use Rattle.ds_base.specs.DwarfNumbers.{DW_TAG_base_type, DW_TAG_compile_unit, DW_TAG_GNU_call_site, DW_TAG_namespace, DW_TAG_structure_type, DW_TAG_subprogram, DW_TAG_variable, DW_AT_byte_size, DW_AT_const_value, DW_AT_decl_file, DW_AT_external, DW_AT_frame_base, DW_AT_high_pc, DW_AT_language, DW_AT_location, DW_AT_low_pc, DW_AT_macro_info, DW_AT_name, DW_AT_ranges, DW_AT_sibling, DW_AT_type, DW_FORM_data1, DW_FORM_data2, DW_FORM_data4, DW_FORM_flag_present, DW_FORM_udata}
use Rattle.dwarf_types.specs.declared.address.Addr.TheVariants as addrs
use Rattle.dwarf_types.specs.declared.address.Span.{Span}
use Rattle.dwarf_types.specs.declared.entry.Attr.{Attr}
use Rattle.dwarf_types.specs.declared.entry.Entry.{Entry}
use Rattle.dwarf_types.specs.declared.expr.Base.TheVariants as bases
use Rattle.dwarf_types.specs.declared.expr.Op.{Op}
use Rattle.dwarf_types.specs.declared.graph.Graph.{Graph}
use Rattle.dwarf_types.specs.declared.graph.Node.{Node}
use Rattle.dwarf_types.specs.declared.graph.OutAttr.{OutAttr}
use Rattle.dwarf_types.specs.declared.graph.OutValue.{OutValue}
use Rattle.dwarf_types.specs.declared.graph.OutValue.TheVariants as out
use Rattle.dwarf_types.specs.declared.graph.Target.{Target}
use Rattle.dwarf_types.specs.declared.parts.ExprPart.TheVariants as parts
use Rattle.dwarf_types.specs.declared.parts.PlainPart.TheVariants as plain
use Rattle.dwarf_types.specs.declared.value.Value.{Value}
use Rattle.dwarf_types.specs.declared.value.Value.TheVariants as values
use Rattle.dwarf_types.specs.Kept.{kept_of}
use Rattle.dwarf_types.specs.LinkedGraph.{linked}
use Rattle.dwarf_types.specs.LinkedShape.{plain_in, shape_in}
use Rattle.dwarf_types.specs.LinkedUnits.{Object, plain_target, sources}
use Rattle.dwarf_types.specs.LinkedValues.{attrs_written}
use Rattle.dwarf_types.specs.Operations.{has_no_operands, operands_of}
use Rattle.dwarf_types.specs.Tree.{lineage}
use Rattle.dwarf_types.proofs.WorkedGraph.{code, function, graph, m_c, main, unit}

attr : ℕ → Value → Attr
attr name value = record { name = name; form = 0; value = value }

-- an address of the object, and where it went as a start and as an end
address : ℕ → Option ℕ → Option ℕ → Value
address at linked end = values.Address (record { at = addrs.Placed at; linked = linked; linked_end = end })

root : ℕ → List Attr → Entry
root u attrs = record { parent = None; unit = u; place = 0; tag = DW_TAG_compile_unit; attrs = attrs }

entry : ℕ → ℕ → ℕ → List Attr → Entry
entry u parent tag attrs = record { parent = Some parent; unit = u; place = 0; tag = tag; attrs = attrs }

text : ℕ → Value
text c = values.Text (c ∷ [])

-- ---- a unit of one function, as an object has it

one_function : Object
one_function = record {
  seen = record {
    units = record { first = 0; count = 2; version = 4; language = 0x000c; lines = None } ∷ [];
    entries =
        root 0 (attr DW_AT_name (values.Text m_c) ∷ attr DW_AT_language (values.Number DW_FORM_data2 0x000c) ∷ attr DW_AT_low_pc (address 0 (Some 0x100003f50) None)
        ∷ attr DW_AT_high_pc (values.Number DW_FORM_data4 0x2a) ∷ [])
        ∷ entry 0 0 DW_TAG_subprogram (attr DW_AT_low_pc (address 0 (Some 0x100003f50) None) ∷ attr DW_AT_high_pc (values.Number DW_FORM_data4 0x2a)
        ∷ attr DW_AT_name (values.Text main) ∷ []) ∷ [];
    code = record { entry = 1; span = code } ∷ [];
    frames = [];
  };
  kept = true ∷ true ∷ [];
}

linked_function : linked (one_function ∷ []) ≡ graph
unfolding attr address root entry m_c main code unit function graph one_function
linked_function = refl

-- ---- two units, the second of which is not written, and one of another object

op : ℕ → List ℕ → Op
op code bytes = record { code = code; bytes = bytes; address = None; base = None; inner = [] }

-- the operand of DW_OP_addr
at : Option ℕ → Op
at linked = record (op 0x03 (0x03 ∷ 1 ∷ 0 ∷ 0 ∷ 0 ∷ 0 ∷ 0 ∷ 0 ∷ 0 ∷ [])) { address = Some (record { at = addrs.Placed 1; linked = linked; linked_end = None }) }

-- DW_OP_convert to entry 3
convert : Op
convert = record (op 0xa8 (0xa8 ∷ 0x2a ∷ [])) { base = Some (bases.Entry 3) }

-- DW_OP_GNU_entry_value of DW_OP_reg5
entry_value : Op
entry_value = record (op 0xf3 (0xf3 ∷ 0x81 ∷ 0x00 ∷ 0x55 ∷ [])) { inner = record { code = 0x55; bytes = 0x55 ∷ []; address = None; base = None } ∷ [] }

span : ℕ → ℕ → Span
span low high = record { low = low; high = high }

two_units : Object
two_units = record {
  seen = record {
    units = record { first = 0; count = 6; version = 4; language = 0; lines = None } ∷ record { first = 6; count = 1; version = 4; language = 0; lines = None } ∷ [];
    entries =
        root 0 (attr DW_AT_name (text 0x61) ∷ attr DW_AT_low_pc (address 0 None None) ∷ attr DW_AT_macro_info (values.Offset 9) ∷ attr DW_AT_external (values.Number DW_FORM_flag_present 1) ∷ [])
        -- it is dead
        ∷ entry 0 0 DW_TAG_structure_type (attr DW_AT_name (text 0x62) ∷ [])
        -- its end and its one list item moved; its siblings are dropped
        ∷ entry 0 0 DW_TAG_subprogram (
        attr DW_AT_sibling (values.Ref 3) ∷ attr DW_AT_low_pc (address 4 (Some 0x1004) None) ∷ attr DW_AT_high_pc (address 8 None (Some 0x1008)) ∷ attr DW_AT_type (values.Ref 3)
        ∷ attr DW_AT_frame_base (values.Locations (record { span = span 0x1004 0x1006; ops = at None ∷ [] } ∷ record { span = span 0x1006 0x1008; ops = entry_value ∷ convert ∷ op 0x9f (0x9f ∷ []) ∷ op 0x12 (0x12 ∷ []) ∷ [] } ∷ [])) ∷ [])
        ∷ entry 0 0 DW_TAG_base_type (attr DW_AT_byte_size (values.Number DW_FORM_data1 4) ∷ [])
        -- the address behind a call moved as an end, and its length stays with it; no piece of its ranges moved
        ∷ entry 0 2 DW_TAG_GNU_call_site (attr DW_AT_low_pc (address 6 None (Some 0x1006)) ∷ attr DW_AT_high_pc (values.Number DW_FORM_data4 2) ∷ attr DW_AT_ranges (values.Ranges []) ∷ [])
        -- an address that moved, and a constant
        ∷ entry 0 0 DW_TAG_variable (attr DW_AT_location (values.Expr (op 0x12 (0x12 ∷ []) ∷ at (Some 0x3020100) ∷ [])) ∷ attr DW_AT_const_value (values.Number DW_FORM_data1 7) ∷ attr DW_AT_location (values.Expr (at None ∷ [])) ∷ [])
        ∷ root 1 (attr DW_AT_name (text 0x63) ∷ []) ∷ [];
    code = record { entry = 2; span = span 0x1006 0x1008 } ∷ record { entry = 2; span = span 0x1004 0x1006 } ∷ record { entry = 2; span = span 0x1006 0x1008 } ∷ [];
    frames = record { cie = 1 ∷ []; address = 0x1004; length = 4; code = [] } ∷ [];
  };
  kept = true ∷ false ∷ true ∷ true ∷ true ∷ true ∷ false ∷ [];
}

node : ℕ → ℕ → List OutAttr → Node
node parent tag attrs = record { parent = Some parent; tag = tag; attrs = attrs }

says : ℕ → OutValue → OutAttr
says name value = record { name = name; value = value }

ranges : List Span
ranges = span 0x1004 0x1006 ∷ span 0x1006 0x1008 ∷ []

both : Graph
both = record {
  units =
      record {
        version = 4;
        nodes =
            record {
              parent = None;
              tag = DW_TAG_compile_unit;
              attrs =
                  says DW_AT_name (out.Text (0x61 ∷ [])) ∷ says DW_AT_external (out.Number DW_FORM_flag_present 1)
                  ∷ says DW_AT_low_pc (out.Address 0) ∷ says DW_AT_ranges (out.Ranges ranges) ∷ [];
            }
            ∷ node 0 DW_TAG_subprogram (
            says DW_AT_low_pc (out.Address 0x1004) ∷ says DW_AT_high_pc (out.Address 0x1008) ∷ says DW_AT_type (out.Ref (record { unit = 0; node = 2 }))
            ∷ says DW_AT_frame_base (out.Locations (record {
              span = span 0x1006 0x1008;
              parts = parts.Nested 0xf3 (plain.Plain (0x55 ∷ []) ∷ []) ∷ parts.Typed 0xa8 [] (Some 2) [] ∷ parts.Plain (0x9f ∷ 0x12 ∷ []) ∷ [];
            } ∷ [])) ∷ [])
            ∷ node 0 DW_TAG_base_type (says DW_AT_byte_size (out.Number DW_FORM_data1 4) ∷ [])
            ∷ node 1 DW_TAG_GNU_call_site (says DW_AT_low_pc (out.Address 0x1006) ∷ says DW_AT_high_pc (out.Number DW_FORM_data4 2) ∷ [])
            ∷ node 0 DW_TAG_variable (
            says DW_AT_location (out.Expr (parts.Plain (0x12 ∷ 0x03 ∷ 0x00 ∷ 0x01 ∷ 0x02 ∷ 0x03 ∷ 0 ∷ 0 ∷ 0 ∷ 0 ∷ []) ∷ []))
            ∷ says DW_AT_const_value (out.Number DW_FORM_data1 7) ∷ []) ∷ [];
        lines = None;
        ranges = ranges;
      }
      ∷ record { version = 4; nodes = unit ∷ function ∷ []; lines = None; ranges = code ∷ [] } ∷ [];
  frames = record { cie = 1 ∷ []; address = 0x1004; length = 4; code = [] } ∷ [];
}

linked_both : linked (two_units ∷ one_function ∷ []) ≡ both
unfolding attr address root entry text m_c main code unit function one_function op at convert entry_value span two_units node says ranges both operands_of has_no_operands
linked_both = refl

-- the entries of their nodes
units_both : filter_map (shape_in (two_units ∷ one_function ∷ [])) (sources (two_units ∷ one_function ∷ []))
    ≡ record {
      version = 4;
      nodes =
          record { object = 1; entry = 0; parent = None } ∷ record { object = 1; entry = 2; parent = Some 0 } ∷ record { object = 1; entry = 3; parent = Some 0 }
          ∷ record { object = 1; entry = 4; parent = Some 1 } ∷ record { object = 1; entry = 5; parent = Some 0 } ∷ [];
    }
    ∷ record { version = 4; nodes = record { object = 2; entry = 0; parent = None } ∷ record { object = 2; entry = 1; parent = Some 0 } ∷ [] } ∷ []
unfolding attr address root entry text m_c main code one_function op at convert entry_value span two_units
units_both = refl

-- the node of each entry
plain_both : map plain_in (two_units ∷ one_function ∷ []) ≡ (Some 0 ∷ None ∷ Some 1 ∷ Some 2 ∷ Some 3 ∷ Some 4 ∷ None ∷ []) ∷ (Some 0 ∷ Some 1 ∷ []) ∷ []
unfolding attr address root entry text m_c main code one_function op at convert entry_value span two_units
plain_both = refl

-- and where references to those of the second object lead
targets_second : map (λ k. plain_target 0 (two_units ∷ one_function ∷ []) 1 k) (0 ∷ 1 ∷ []) ≡ Some (record { unit = 1; node = 0 }) ∷ Some (record { unit = 1; node = 1 }) ∷ []
unfolding attr address root entry text m_c main code one_function op at convert entry_value span two_units
targets_second = refl

-- ---- two namespaces with a merged structure each, and a function in the second

spaces : List Entry
spaces =
    root 0 [] ∷ entry 0 0 DW_TAG_namespace [] ∷ entry 0 1 DW_TAG_structure_type []
    ∷ entry 0 0 DW_TAG_namespace [] ∷ entry 0 3 DW_TAG_structure_type [] ∷ entry 0 3 DW_TAG_subprogram [] ∷ entry 0 3 DW_TAG_subprogram [] ∷ []

kept_spaces : kept_of spaces (true ∷ true ∷ true ∷ true ∷ true ∷ true ∷ false ∷ []) (false ∷ true ∷ true ∷ true ∷ true ∷ false ∷ false ∷ []) ≡ true ∷ false ∷ false ∷ true ∷ false ∷ true ∷ false ∷ []
unfolding root entry spaces lineage
kept_spaces = refl

-- a reference may lead to a unit before those of the objects, whose line table has its own numbers
of_another : ℕ → Option Target
of_another k = Some (record { unit = 0; node = k })

a_member : Entry
a_member = entry 0 0 DW_TAG_structure_type (attr DW_AT_type (values.Ref 5) ∷ attr DW_AT_decl_file (values.Number DW_FORM_data1 3) ∷ attr DW_AT_decl_file (values.Number DW_FORM_data1 4) ∷ [])

written_elsewhere : attrs_written of_another (Some (λ n. if n == 3 then Some 1 else None)) a_member ≡ says DW_AT_type (out.Ref (record { unit = 0; node = 5 })) ∷ says DW_AT_decl_file (out.Number DW_FORM_udata 1) ∷ []
unfolding attr root entry of_another a_member says
written_elsewhere = refl

written_here : attrs_written of_another None a_member ≡ says DW_AT_type (out.Ref (record { unit = 0; node = 5 })) ∷ says DW_AT_decl_file (out.Number DW_FORM_data1 3) ∷ says DW_AT_decl_file (out.Number DW_FORM_data1 4) ∷ []
unfolding attr root entry of_another a_member says
written_here = refl
