-- Entries in preorder are trees: from the last entry to the first, with what is left of each list that is open.
use Rattle.std.proofs.Common.{◌≡◌, ℕ, suc, ◌+◌, Bool, true, false, List, [], ◌∷◌, ◌++◌, length, replicate, Option, Some, refl, sym, ap, subst, ◌∙◌, append_assoc, append-nil, length-append, arith}
use Rattle.ds_base.specs.Leb.{last}
use Rattle.dwarf_types.specs.declared.abbrev.Abbrev.{Abbrev}
use Rattle.dwarf_types.specs.SectionBytes.{SectionBytes}
use Rattle.dwarf_types.specs.Spelled.{IsUleb}
use Rattle.unit_tree.specs.Spelling.{Forest, InTurnFrom, Node as TreeNode, Origin, SpellsBelow, SpellsNode, SpellsTrees, size}
use Rattle.unit_tree.specs.Spelling.Forest.{no_more, tree}
use Rattle.written_laws.specs.ReadEntries.{listed}

zero_uleb : IsUleb (0 ∷ []) 0
zero_uleb = record { spelled = last 0 (omega arith); value = refl; fits = omega arith }

module _ (sections : SectionBytes) (o : Origin) (table : List Abbrev) where
  -- ---- what is left of the lists that are open, the innermost first

  abbrev pub OpenThere : List ℕ → List Forest → ℕ → List ℕ → Type 0
  OpenThere [] [] place bytes = bytes ≡ []
  OpenThere [] (trees ∷ forests) place bytes = ⊥
  OpenThere (p ∷ stack) [] place bytes = ⊥
  OpenThere (p ∷ stack) (trees ∷ forests) place bytes = InTurnFrom (SpellsTrees sections o table trees) (λ q b. OpenThere stack forests q b) place bytes

  abbrev pub open_entries : ℕ → List ℕ → List Forest → List (Option ℕ × TreeNode)
  open_entries number [] forests = []
  open_entries number (p ∷ stack) [] = []
  open_entries number (p ∷ stack) (trees ∷ forests) = listed (Some p) number trees ++ open_entries (number + size trees) stack forests

  -- such lists, with these entries
  pub record Open (stack : List ℕ) (number : ℕ) (entries : List (Option ℕ × TreeNode)) (place : ℕ) (bytes : List ℕ) : Type 0 where
    pub forests : List Forest
    pub there : OpenThere stack forests place bytes
    pub are : entries ≡ open_entries number stack forests

  -- the lists that end here have no more trees
  pub closes : (ended stack : List ℕ) (number : ℕ) (entries : List (Option ℕ × TreeNode)) (place : ℕ) (bytes : List ℕ) → Open stack number entries (place + length ended) bytes
      → Open (ended ++ stack) number entries place (replicate (length ended) 0 ++ bytes)
  closes [] stack number entries place bytes w = let same : place + 0 ≡ place = omega arith in subst (λ (p : ℕ). Open stack number entries p bytes) same w
  closes (x ∷ ended) stack number entries place bytes w =
      let next : place + suc (length ended) ≡ place + 1 + length ended = omega arith in
      let r : Open (ended ++ stack) number entries (place + 1) (replicate (length ended) 0 ++ bytes) = closes ended stack number entries (place + 1) bytes (subst (λ (p : ℕ). Open stack number entries p bytes) next w) in
      let same : number ≡ number + 0 = omega arith in
      record {
        forests = no_more ∷ r.forests;
        there = record { front = 0 ∷ []; back = replicate (length ended) 0 ++ bytes; is = refl; first = zero_uleb; second = r.there };
        are = r.are ∙ ap (λ (n : ℕ). open_entries n (ended ++ stack) r.forests) same;
      }

  -- an entry with what is below it and behind it
  with_entry : (entry : TreeNode) (kids others : Forest) (place : ℕ) (a b c : List ℕ) → SpellsNode sections o table false entry place a → SpellsBelow entry.declared.children (λ q bs. SpellsTrees sections o table kids q bs) kids (place + length a) b
      → SpellsTrees sections o table others (place + length a + length b) c → SpellsTrees sections o table (tree entry kids others) place ((a ++ b) ++ c)
  with_entry entry kids others place a b c spells below behind =
      let len : place + length a + length b ≡ place + length (a ++ b) = omega (arith, length-append a b) in
      record { front = a ++ b; back = c; is = refl; first = record { front = a; back = b; is = refl; first = spells; second = below }; second = subst (λ (n : ℕ). SpellsTrees sections o table others n c) len behind }

  -- the entry has a list, which is open too
  pub with_list : (p : ℕ) (stack : List ℕ) (place : ℕ) (entry : TreeNode) (a r : List ℕ) (number : ℕ) → entry.declared.children ≡ true → SpellsNode sections o table false entry place a → (forests : List Forest) → OpenThere (number ∷ p ∷ stack) forests (place + length a) r
      → Open (p ∷ stack) number ((Some p, entry) ∷ open_entries (number + 1) (number ∷ p ∷ stack) forests) place (a ++ r)
  with_list p stack place entry a r number has spells [] there = absurd there
  with_list p stack place entry a r number has spells (kids ∷ []) there = absurd there.second
  with_list p stack place entry a r number has spells (kids ∷ others ∷ forests) there =
      let q = there.second in
      let below = subst (λ (c : Bool). SpellsBelow c (λ q bs. SpellsTrees sections o table kids q bs) kids (place + length a) there.front) (sym has) there.first in
      let len : place + length a + length there.front + length q.front ≡ place + length ((a ++ there.front) ++ q.front) = omega (arith, length-append (a ++ there.front) q.front, length-append a there.front) in
      let number_is : number + 1 + size kids + size others ≡ number + suc (size kids + size others) = omega arith in
      record {
        forests = tree entry kids others ∷ forests;
        there = record {
          front = (a ++ there.front) ++ q.front;
          back = q.back;
          is = ap (λ (b : List ℕ). a ++ b) (there.is ∙ ap (λ (b : List ℕ). there.front ++ b) q.is) ∙ sym (append_assoc a there.front (q.front ++ q.back)) ∙ sym (append_assoc (a ++ there.front) q.front q.back);
          first = with_entry entry kids others place a there.front q.front spells below q.first;
          second = subst (λ (n : ℕ). OpenThere stack forests n q.back) len q.second;
        };
        are = ap (λ (es : List (Option ℕ × TreeNode)). (Some p, entry) ∷ es) (
            sym (append_assoc (listed (Some number) (number + 1) kids) (listed (Some p) (number + 1 + size kids) others) (open_entries (number + 1 + size kids + size others) stack forests))
            ∙ ap (λ (n : ℕ). (listed (Some number) (number + 1) kids ++ listed (Some p) (number + 1 + size kids) others) ++ open_entries n stack forests) number_is);
      }

  abbrev no_bytes : List ℕ
  no_bytes = []

  -- the entry has none
  pub with_none : (p : ℕ) (stack : List ℕ) (place : ℕ) (entry : TreeNode) (a r : List ℕ) (number : ℕ) → entry.declared.children ≡ false → SpellsNode sections o table false entry place a → (forests : List Forest) → OpenThere (p ∷ stack) forests (place + length a) r
      → Open (p ∷ stack) number ((Some p, entry) ∷ open_entries (number + 1) (p ∷ stack) forests) place (a ++ r)
  with_none p stack place entry a r number has spells [] there = absurd there
  with_none p stack place entry a r number has spells (others ∷ forests) there =
      let below = subst (λ (c : Bool). SpellsBelow c (λ q bs. SpellsTrees sections o table no_more q bs) no_more (place + length a) []) (sym has) refl in
      let here : place + length a ≡ place + length a + length no_bytes = omega arith in
      let next = subst (λ (n : ℕ). SpellsTrees sections o table others n there.front) here there.first in
      let len : place + length a + length there.front ≡ place + length ((a ++ []) ++ there.front) = omega (arith, length-append (a ++ []) there.front, length-append a []) in
      let first_is : number + 1 ≡ number + 1 + size no_more = omega arith in
      let number_is : number + 1 + size others ≡ number + suc (size no_more + size others) = omega arith in
      record {
        forests = tree entry no_more others ∷ forests;
        there = record {
          front = (a ++ []) ++ there.front;
          back = there.back;
          is = ap (λ (b : List ℕ). a ++ b) there.is ∙ sym (append_assoc a there.front there.back) ∙ ap (λ (b : List ℕ). (b ++ there.front) ++ there.back) (sym (append-nil a));
          first = with_entry entry no_more others place a [] there.front spells below next;
          second = subst (λ (n : ℕ). OpenThere stack forests n there.back) len there.second;
        };
        are = ap (λ (es : List (Option ℕ × TreeNode)). (Some p, entry) ∷ es) (
            ap (λ (n : ℕ). listed (Some p) n others ++ open_entries (number + 1 + size others) stack forests) first_is
            ∙ ap (λ (n : ℕ). listed (Some p) (number + 1 + size no_more) others ++ open_entries n stack forests) number_is);
      }
