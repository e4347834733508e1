-- Tables, declaration by declaration.
use Rattle.std.proofs.Common.{◌≡◌, ◌<◌, ◌+◌, ◌==◌, ◌^◌, ◌++◌, ℕ, pos, Bool, true, false, List, [], ◌∷◌, length, drop, refl, sym, ap, subst, ◌∙◌, append_assoc, append-nil, if◌then◌else◌, arith}
use Rattle.std.proofs.lemmas.List.{length-map}
use Rattle.std.proofs.lemmas.Bool.{ne_eqb}
use Rattle.std.specs.List.{list_any, enumerate_from, flat_map}
use Rattle.ds_base.specs.DwarfNumbers.{DW_FORM_implicit_const}
use Rattle.ds_base.specs.Leb.{last, uleb}
use Rattle.ds_base.proofs.LebShortest.{uleb_shortest}
use Rattle.dwarf_types.specs.declared.abbrev.Abbrev.{Abbrev}
use Rattle.dwarf_types.specs.declared.abbrev.Declaration.{Declaration}
use Rattle.dwarf_types.specs.declared.abbrev.Field.{Field}
use Rattle.dwarf_types.specs.Abbreviations.{declaration_bytes, declarations_bytes}
use Rattle.dwarf_types.specs.Spelled.{IsNumber, IsUleb}
use Rattle.abbrev_read.specs.Spelling.{AreDeclarations, AreFields, IsShort, SpellsDeclaration, SpellsFields, SpellsTable, StandsAt, children_byte, constant_in}
use Rattle.written_laws.specs.ReadDeclarations.{AreShort, AreSmall, IsSmall, abbrev_of, abbrevs_from, fields_of}

is_uleb : (n : ℕ) → n < 2 ^ 64 → IsUleb (uleb n) n
is_uleb n lt = let w = uleb_shortest n lt in record { spelled = w.spelled; value = w.value; fits = lt }

short_uleb : (n : ℕ) → IsShort n → IsUleb (uleb n) n
short_uleb n h = is_uleb n (omega (arith, h.1))

zero_uleb : IsUleb (0 ∷ []) 0
zero_uleb = record { spelled = last 0 (omega arith); value = refl; fits = omega arith }

-- ---- pairs

pairs_spelled : (pairs : List (ℕ × ℕ)) → AreShort pairs → SpellsFields (fields_of pairs) (flat_map (λ p. uleb p.0 ++ uleb p.1) pairs ++ (0 ∷ 0 ∷ []))
pairs_spelled [] h = record { front = 0 ∷ []; back = 0 ∷ []; is = refl; first = zero_uleb; second = zero_uleb }
pairs_spelled (p ∷ pairs) h =
    let constant : constant_in (p.1 == DW_FORM_implicit_const) (record { name = p.0; form = p.1; fixed = pos 0 }) [] = subst (λ (b : Bool). constant_in b (record { name = p.0; form = p.1; fixed = pos 0 }) []) (sym h.0.2) (refl, refl) in
    record {
      front = uleb p.0 ++ (uleb p.1 ++ []);
      back = flat_map (λ q. uleb q.0 ++ uleb q.1) pairs ++ (0 ∷ 0 ∷ []);
      is = append_assoc (uleb p.0 ++ uleb p.1) (flat_map (λ (q : ℕ × ℕ). uleb q.0 ++ uleb q.1) pairs) (0 ∷ 0 ∷ []) ∙ ap (λ (b : List ℕ). (uleb p.0 ++ b) ++ (flat_map (λ (q : ℕ × ℕ). uleb q.0 ++ uleb q.1) pairs ++ (0 ∷ 0 ∷ []))) (sym (append-nil (uleb p.1)));
      first = record { front = uleb p.0; back = uleb p.1 ++ []; is = refl; first = short_uleb p.0 h.0.0; second = record { front = uleb p.1; back = []; is = refl; first = short_uleb p.1 h.0.1; second = constant } };
      second = pairs_spelled pairs h.1;
    }

-- ---- declarations

children_spelled : (b : Bool) → IsNumber 1 ((if b then 1 else 0) ∷ []) (children_byte b)
children_spelled true = record { is = refl; fits = omega arith }
children_spelled false = record { is = refl; fits = omega arith }

declaration_spelled : (code : ℕ) (d : Declaration) → code < 2 ^ 64 → IsSmall d → SpellsDeclaration (abbrev_of code d) (declaration_bytes code d)
declaration_spelled code d lt h =
    let pairs : List ℕ = flat_map (λ (p : ℕ × ℕ). uleb p.0 ++ uleb p.1) d.attributes ++ (0 ∷ 0 ∷ []) in
    record {
      front = uleb code;
      back = uleb d.tag ++ ((if d.children then 1 else 0) ∷ pairs);
      is = refl;
      first = is_uleb code lt;
      second = record {
        front = uleb d.tag;
        back = (if d.children then 1 else 0) ∷ pairs;
        is = refl;
        first = short_uleb d.tag h.tag;
        second = record { front = (if d.children then 1 else 0) ∷ []; back = pairs; is = refl; first = children_spelled d.children; second = pairs_spelled d.attributes h.attributes };
      };
    }

table_spelled : (code : ℕ) (ds : List Declaration) → code + length ds < 2 ^ 64 → AreSmall ds → SpellsTable (abbrevs_from code ds) (flat_map (λ d. declaration_bytes d.0 d.1) (enumerate_from code ds) ++ (0 ∷ []))
table_spelled code [] lt h = zero_uleb
table_spelled code (d ∷ ds) lt h = record {
  front = declaration_bytes code d;
  back = flat_map (λ (e : ℕ × Declaration). declaration_bytes e.0 e.1) (enumerate_from (code + 1) ds) ++ (0 ∷ []);
  is = append_assoc (declaration_bytes code d) (flat_map (λ (e : ℕ × Declaration). declaration_bytes e.0 e.1) (enumerate_from (code + 1) ds)) (0 ∷ []);
  first = declaration_spelled code d (omega (arith, lt)) h.0;
  second = table_spelled (code + 1) ds (omega (arith, lt)) h.1;
}

-- ---- what declarations keep to

are_fields : (pairs : List (ℕ × ℕ)) → AreShort pairs → AreFields (fields_of pairs)
are_fields [] h = tt
are_fields (p ∷ pairs) h = ((h.0.0, h.0.1), are_fields pairs h.1)

-- codes that are lower
abbrev AreLower : ℕ → List Abbrev → Type 0
AreLower code [] = Unit {0}
AreLower code (a ∷ others) = (a.code < code) × AreLower code others

not_declared : (code : ℕ) (before : List Abbrev) → AreLower code before → list_any (λ a. a.code == code) before ≡ false
not_declared code [] h = refl
not_declared code (a ∷ others) h = rw (ne_eqb a.code code (λ e. absurd (omega (arith, e, h.0)))) (not_declared code others h.1)

lower_more : (code : ℕ) (before : List Abbrev) (d : Declaration) → AreLower code before → AreLower (code + 1) (before ++ abbrev_of code d ∷ [])
lower_more code [] d h = (omega arith, tt)
lower_more code (a ∷ others) d h = (omega (arith, h.0), lower_more code others d h.1)

are_declarations : (code : ℕ) (before : List Abbrev) (ds : List Declaration) → 0 < code → AreLower code before → AreSmall ds → AreDeclarations before (abbrevs_from code ds)
are_declarations code before [] some lower h = tt
are_declarations code before (d ∷ ds) some lower h = (
  (not_declared code before lower, record { code = some; tag = h.0.tag; few = omega (arith, h.0.few, length-map d.attributes (λ (p : ℕ × ℕ). field p)); fields = are_fields d.attributes h.0.attributes }),
  are_declarations (code + 1) (before ++ abbrev_of code d ∷ []) ds (omega arith) (lower_more code before d lower) h.1,
)
  where
    field : ℕ × ℕ → Field
    field p = record { name = p.0; form = p.1; fixed = pos 0 }

drop_front : (front behind : List ℕ) → drop (length front) (front ++ behind) ≡ behind
drop_front [] behind = refl
drop_front (x ∷ xs) behind = drop_front xs behind

pub table_stands : (ds : List Declaration) (front more : List ℕ) → AreSmall ds → length ds < 2 ^ 32 → StandsAt (front ++ (declarations_bytes ds ++ more)) (length front) (abbrevs_from 1 ds)
table_stands ds front more h few =
    record { spelling = declarations_bytes ds; more = more; parts = drop_front front (declarations_bytes ds ++ more); spells = table_spelled 1 ds (omega (arith, few)) h; sound = are_declarations 1 [] ds (omega arith) tt h }
