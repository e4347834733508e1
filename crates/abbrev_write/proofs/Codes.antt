-- The codes of declarations, of which one is put last.
use Rattle.std.proofs.Common.{◌≡◌, ℕ, suc, ◌+◌, Bool, true, false, ◌||◌, ◌&&◌, List, [], ◌∷◌, ◌++◌, length, Option, Some, None, refl, sym, ap, ◌∙◌, arith}
use Rattle.std.specs.Prelude.{nat_eq, is_some, if◌then◌else◌}
use Rattle.std.specs.Bool.{Decides, one_answer}
use Rattle.std.specs.Cmp.{booleans_Decides}
use Rattle.std.specs.Cmp.Lexicographic.{pointwise}
use Rattle.std.specs.List.{list_any, position, position_from}
use Rattle.std.specs.Option.{option_map, option_or}
use mathlib.Core.Bool.{beq}
use Rattle.std.proofs.lemmas.Bool.Decides.{Decides-and, Decides-eqb, Decides-like}
use Rattle.std.proofs.lemmas.Iterator.Adapters.{position_from-zero}
use Rattle.std.proofs.lemmas.List.{map_push}
use Rattle.indexmap.specs.IndexSet.{insert_key}
use Rattle.dwarf_types.specs.declared.abbrev.Declaration.{Declaration}
use Rattle.dwarf_types.specs.Abbreviations.{code_in, same_declaration, same_flag}
use Rattle.abbrev_write.specs.Feeding.{pairs_decide, same_pair}
use Rattle.abbrev_write.specs.declared.key.Key.{Key}
use Rattle.abbrev_write.specs.Keys.{all_declared, code_among, declared_by}
use Rattle.abbrev_write.specs.Table.{with_declaration}

-- ---- what is the same

flag_decides : (a b : Bool) → Decides (same_flag a b) (a ≡ b)
flag_decides true true = (λ _. refl, λ _. refl)
flag_decides true false = (λ e. sym e, λ e. sym e)
flag_decides false true = (λ e. e, λ e. e)
flag_decides false false = (λ _. refl, λ _. refl)

and_assoc : (a b c : Bool) → (a && (b && c)) ≡ ((a && b) && c)
and_assoc true b c = refl
and_assoc false b c = refl

-- the same are equal
pub same_decides : (a b : Declaration) → Decides (same_declaration a b) (a ≡ b)
same_decides a b =
    let flags = same_flag a.children b.children in
    let heads = Decides-and (nat_eq a.tag b.tag) flags (Decides-eqb a.tag b.tag) (flag_decides a.children b.children) in
    let parts = Decides-and (nat_eq a.tag b.tag && flags) (pointwise same_pair a.attributes b.attributes) heads (pairs_decide a.attributes b.attributes) in
    Decides-like (same_declaration a b) (λ h. made h.0.0 h.0.1 h.1) (λ e. ((ap (λ (d : Declaration). d.tag) e, ap (λ (d : Declaration). d.children) e), ap (λ (d : Declaration). d.attributes) e)) parts
  where
    made : a.tag ≡ b.tag → a.children ≡ b.children → a.attributes ≡ b.attributes → a ≡ b
    made tag children attributes = λ i. record { tag = tag i; children = children i; attributes = attributes i }

pub same_itself : (d : Declaration) → same_declaration d d ≡ true
same_itself d = (same_decides d d).1 refl

pub same_either_way : (a b : Declaration) → same_declaration a b ≡ same_declaration b a
same_either_way a b = one_answer (same_declaration a b) (same_declaration b a) (same_decides a b) (Decides-like (same_declaration b a) (λ e. sym e) (λ e. sym e) (same_decides b a))

-- ---- codes

-- in a list of one more, a declaration has the code that it had, or the new one
pub among_push : (ds : List Declaration) (d e : Declaration) → code_among (ds ++ d ∷ []) e ≡ option_or (code_among ds e) (if same_declaration d e then Some (length ds + 1) else None)
among_push [] d e = refl
among_push (x ∷ ds) d e = ap (λ (o : Option ℕ). if same_declaration x e then Some 1 else option_map suc o) (among_push ds d e) ∙ by (same_declaration x e) (code_among ds e) (same_declaration d e)
  where
    by : (first : Bool) (rest : Option ℕ) (new : Bool)
        → (if first then Some 1 else option_map suc (option_or rest (if new then Some (length ds + 1) else None)))
        ≡ option_or (if first then Some 1 else option_map suc rest) (if new then Some (length (x ∷ ds) + 1) else None)
    by true rest new = refl
    by false (Some n) new = refl
    by false None true = ap (λ (n : ℕ). Some n) (omega arith)
    by false None false = refl

pub among_is : (ds : List Declaration) (d : Declaration) (n : ℕ) → code_among ds d ≡ Some n → code_in ds d ≡ n
among_is [] d n e = cc
among_is (x ∷ ds) d n e = by (same_declaration x d) (code_among ds d) (λ m. among_is ds d m) e
  where
    by : (first : Bool) (rest : Option ℕ) → ((m : ℕ) → rest ≡ Some m → code_in ds d ≡ m) → (if first then Some 1 else option_map suc rest) ≡ Some n → (if first then 1 else code_in ds d + 1) ≡ n
    by true rest known e = cc
    by false None known e = cc
    by false (Some m) known e =
        let is : suc m ≡ n = cc in
        omega (arith, known m refl, is)

-- one that has a code is among them
pub among_any : (ds : List Declaration) (d : Declaration) → is_some (code_among ds d) ≡ list_any (λ x. same_declaration x d) ds
among_any [] d = refl
among_any (x ∷ ds) d = by (same_declaration x d) (code_among ds d) ∙ ap (λ (b : Bool). same_declaration x d || b) (among_any ds d)
  where
    by : (first : Bool) (rest : Option ℕ) → is_some (if first then Some 1 else option_map suc rest) ≡ (first || is_some rest)
    by true rest = refl
    by false (Some n) = refl
    by false None = refl

-- a declaration that has a code stays out, and another goes last
pub with_known : (ds : List Declaration) (d : Declaration) (n : ℕ) → code_among ds d ≡ Some n → ds ≡ with_declaration ds d
with_known ds d n e = sym (rw (sym (among_any ds d), e) refl)

pub with_new : (ds : List Declaration) (d : Declaration) → code_among ds d ≡ None → ds ++ d ∷ [] ≡ with_declaration ds d
with_new ds d e = sym (rw (sym (among_any ds d), e) refl)

pub new_code : (ds : List Declaration) (d : Declaration) → code_among ds d ≡ None → code_in (ds ++ d ∷ []) d ≡ length ds + 1
new_code ds d e = among_is (ds ++ d ∷ []) d (length ds + 1) (among_push ds d d ∙ rw (e, same_itself d) refl)

-- it has one once it was put
pub with_among : (ds : List Declaration) (d : Declaration) → (n : ℕ) × (code_among (with_declaration ds d) d ≡ Some n)
with_among ds d = by (code_among ds d) refl
  where
    by : (o : Option ℕ) → code_among ds d ≡ o → (n : ℕ) × (code_among (with_declaration ds d) d ≡ Some n)
    by (Some n) e = (n, ap (λ (xs : List Declaration). code_among xs d) (sym (with_known ds d n e)) ∙ e)
    by None e = (length ds + 1, ap (λ (xs : List Declaration). code_among xs d) (sym (with_new ds d e)) ∙ among_push ds d d ∙ rw (e, same_itself d) refl)

-- ---- the look-up

abbrev pub same_key : Key → Key → Bool
same_key x y = nat_eq x.tag y.tag && (beq x.children y.children && pointwise same_pair x.attributes.items y.attributes.items)

-- keys are equal where the declarations are the same
same_declared : (key x : Key) → same_key key x ≡ same_declaration (declared_by x) (declared_by key)
same_declared key x =
    ap (λ (same : Bool). nat_eq key.tag x.tag && (same && pointwise same_pair key.attributes.items x.attributes.items)) (one_answer (beq key.children x.children) (same_flag key.children x.children) (booleans_Decides key.children x.children) (flag_decides key.children x.children))
    ∙ and_assoc (nat_eq key.tag x.tag) (same_flag key.children x.children) (pointwise same_pair key.attributes.items x.attributes.items)
    ∙ same_either_way (declared_by key) (declared_by x)

-- the code of a key's declaration, among the keys from a place on
code_from : (key : Key) (i : ℕ) (keys : List Key) → option_map suc (position_from (same_key key) i keys) ≡ option_map (λ n. i + n) (code_among (all_declared keys) (declared_by key))
code_from key i [] = refl
code_from key i (x ∷ keys) =
    ap (λ (same : Bool). option_map suc (if same then Some i else position_from (same_key key) (i + 1) keys)) (same_declared key x)
    ∙ by (same_declaration (declared_by x) (declared_by key)) (position_from (same_key key) (i + 1) keys) (code_among (all_declared keys) (declared_by key)) (code_from key (i + 1) keys)
  where
    by : (first : Bool) (there rest : Option ℕ) → option_map suc there ≡ option_map (λ n. i + 1 + n) rest
        → option_map suc (if first then Some i else there) ≡ option_map (λ n. i + n) (if first then Some 1 else option_map suc rest)
    by true there rest e = ap (λ (n : ℕ). Some n) (omega arith)
    by false there None e = e
    by false there (Some n) e = e ∙ ap (λ (m : ℕ). Some m) (omega arith)

-- what is found by a key
pub looked_up : (key : Key) (keys : List Key) → option_map suc (position (same_key key) keys) ≡ code_among (all_declared keys) (declared_by key)
looked_up key keys = ap (option_map suc) (position_from-zero (same_key key) keys) ∙ code_from key 0 keys ∙ by (code_among (all_declared keys) (declared_by key))
  where
    by : (o : Option ℕ) → option_map (λ n. 0 + n) o ≡ o
    by None = refl
    by (Some n) = ap (λ (m : ℕ). Some m) (omega arith)

any_key : (key : Key) (keys : List Key) → list_any (same_key key) keys ≡ is_some (code_among (all_declared keys) (declared_by key))
any_key key keys = by keys ∙ sym (among_any (all_declared keys) (declared_by key))
  where
    by : (keys : List Key) → list_any (same_key key) keys ≡ list_any (λ x. same_declaration x (declared_by key)) (all_declared keys)
    by [] = refl
    by (x ∷ keys) =
        ap (λ (same : Bool). same || list_any (same_key key) keys) (same_declared key x) ∙ ap (λ (rest : Bool). same_declaration (declared_by x) (declared_by key) || rest) (by keys)

-- a key of a declaration that has no code goes last
pub put_new : (key : Key) (keys : List Key) → code_among (all_declared keys) (declared_by key) ≡ None → all_declared (insert_key same_key keys key) ≡ all_declared keys ++ declared_by key ∷ []
put_new key keys e = rw (any_key key keys, e) (map_push declared_by keys key)
