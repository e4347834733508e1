-- Winners in preorder: what the chains that are not yet done give.
use Rattle.std.proofs.Common.{◌≡◌, inl, inr, ℕ, ◌+◌, ◌-◌, ◌*◌, ◌<◌, List, [], ◌∷◌, ◌++◌, length, map, Option, Some, None, get_or, refl, sym, ap, ◌∙◌, arith, subst, append_assoc, append-nil, length-append, All}
use Rattle.std.specs.Bool.{⊤}
use Rattle.std.proofs.lemmas.List.{length-map, length_push, map-append}
use Rattle.std.proofs.lemmas.List.Elements.{All-nil, All-push}
use Rattle.std.proofs.lemmas.Option.{none-some, same_Some}
use Rattle.odr_names.specs.Numbered.{IsLinkedUp}
use Rattle.odr_names.specs.Winners.{AreWinners}
use Rattle.type_names.specs.Names.{Named}
use Rattle.link_graph.specs.Pool.{pool_names}
use Rattle.link_graph.specs.PoolOrder.{AnyName, AreApart, AreChains, Hangs, IsFamily, Wins, below, name_at}
use Rattle.link_graph.proofs.Families.{chain_gives, family_below, key_path_up, path_is}
use Rattle.link_graph.proofs.Rising.{Has}

-- what chains give, the last one first
abbrev pub chains_give : List Named → List (List ℕ) → List Named
chains_give names [] = []
chains_give names (xs ∷ chains) = chains_give names chains ++ chain_gives names xs

pub chains_push : (names : List Named) (chains : List (List ℕ)) (xs : List ℕ) → chains_give names (chains ++ xs ∷ []) ≡ chain_gives names xs ++ chains_give names chains
chains_push names [] xs = sym (append-nil (chain_gives names xs))
chains_push names (first ∷ chains) xs =
    ap (λ (ws : List Named). ws ++ chain_gives names first) (chains_push names chains xs) ∙ append_assoc (chain_gives names xs) (chains_give names chains) (chain_gives names first)

module _ (names : List Named) (winners : List ℕ) (next : List (Option ℕ)) where
  -- a chain of winners
  pub record IsHung (first : Option ℕ) (xs : List ℕ) : Type 0 where
    pub hangs : Hangs next first xs
    pub wins : (x : ℕ) → Has xs x → Wins names winners x

  -- they begin with these names
  abbrev pub AllHung : List (Option ℕ) → List (List ℕ) → Type 0
  AllHung [] [] = ⊤
  AllHung [] (xs ∷ chains) = ⊥
  AllHung (first ∷ opened) [] = ⊥
  AllHung (first ∷ opened) (xs ∷ chains) = IsHung first xs × AllHung opened chains

  pub hung_push : (opened : List (Option ℕ)) (chains : List (List ℕ)) (first : Option ℕ) (xs : List ℕ) → AllHung opened chains → IsHung first xs → AllHung (opened ++ first ∷ []) (chains ++ xs ∷ [])
  hung_push [] [] first xs all one = (one, tt)
  hung_push [] (ys ∷ chains) first xs all one = absurd all
  hung_push (o ∷ opened) [] first xs all one = absurd all
  hung_push (o ∷ opened) (ys ∷ chains) first xs all one = (all.0, hung_push opened chains first xs all.1 one)

  -- the last one of them
  pub record IsLast (opened : List (Option ℕ)) (first : Option ℕ) (chains : List (List ℕ)) : Type 0 where
    pub front : List (List ℕ)
    pub xs : List ℕ
    pub whole : chains ≡ front ++ xs ∷ []
    pub before : AllHung opened front
    pub hung : IsHung first xs

  pub hung_last : (opened : List (Option ℕ)) (first : Option ℕ) (chains : List (List ℕ)) → AllHung (opened ++ first ∷ []) chains → IsLast opened first chains
  hung_last [] first [] all = absurd all
  hung_last [] first (xs ∷ []) all = record { front = []; xs = xs; whole = refl; before = tt; hung = all.0 }
  hung_last [] first (xs ∷ ys ∷ chains) all = absurd all.1
  hung_last (o ∷ opened) first [] all = absurd all
  hung_last (o ∷ opened) first (ys ∷ chains) all =
      let it = hung_last opened first chains all.1 in
      record { front = ys ∷ it.front; xs = it.xs; whole = ap (λ (cs : List (List ℕ)). ys ∷ cs) it.whole; before = (all.0, it.before); hung = it.hung }

  -- winners in preorder so far, and the chains that are left
  pub record IsWalking (order : List ℕ) (opened : List (Option ℕ)) : Type 0 where
    pub chains : List (List ℕ)
    pub hung : AllHung opened chains
    pub whole : map (name_at names) order ++ chains_give names chains ≡ pool_names names
    pub wins : All (Wins names winners) order

  -- twice the winners that are left, and the chains
  abbrev pub measure_of : List ℕ → List (Option ℕ) → ℕ
  measure_of order opened = 2 * (length (pool_names names) - length order) + length opened

  -- a chain that is not done
  begins : (x : ℕ) (xs : List ℕ) → IsHung (Some x) xs → (ys : List ℕ) × (xs ≡ x ∷ ys) × IsHung (get_or next x None) ys
  begins x [] is = absurd (none-some x (sym is.hangs))
  begins x (y ∷ ys) is =
      let same : x ≡ y = same_Some x y is.hangs.0 in (
        ys,
        ap (λ (z : ℕ). z ∷ ys) (sym same),
        record { hangs = subst (λ (z : ℕ). Hangs next (get_or next z None) ys) (sym same) is.hangs.1; wins = λ z has. is.wins z (inr has) },
      )

  done : (xs : List ℕ) → IsHung None xs → xs ≡ []
  done [] is = refl
  done (x ∷ xs) is = absurd (none-some x is.hangs.0)

  -- the chain on top is done
  pub walk_past : (order : List ℕ) (opened left : List (Option ℕ)) (top : Option ℕ) → opened ≡ left ++ top ∷ [] → top ≡ None → IsWalking order opened → IsWalking order left
  walk_past order opened left top is_open none so_far =
      let it = hung_last left top so_far.chains (subst (λ (o : List (Option ℕ)). AllHung o so_far.chains) is_open so_far.hung) in
      let nothing = done it.xs (subst (λ (o : Option ℕ). IsHung o it.xs) none it.hung) in
      record {
        chains = it.front;
        hung = it.before;
        whole = ap (λ (ws : List Named). map (name_at names) order ++ ws)
            (sym (ap (chains_give names) it.whole ∙ chains_push names it.front it.xs ∙ ap (λ (xs : List ℕ). chain_gives names xs ++ chains_give names it.front) nothing)) ∙ so_far.whole;
        wins = so_far.wins;
      }

  -- the first one of the chain on top
  module _ (order : List ℕ) (opened left : List (Option ℕ)) (top : Option ℕ) (x : ℕ) (is_open : opened ≡ left ++ top ∷ []) (some : top ≡ Some x) (so_far : IsWalking order opened) where
    it : IsLast left top so_far.chains
    it = hung_last left top so_far.chains (subst (λ (o : List (Option ℕ)). AllHung o so_far.chains) is_open so_far.hung)

    its_rest : (ys : List ℕ) × (it.xs ≡ x ∷ ys) × IsHung (get_or next x None) ys
    its_rest = begins x it.xs (subst (λ (o : Option ℕ). IsHung o it.xs) some it.hung)

    pub name_wins : Wins names winners x
    name_wins = it.hung.wins x (subst (λ (xs : List ℕ). Has xs x) (sym its_rest.1) (inl refl))

    gives : chains_give names so_far.chains ≡ name_at names x ∷ (below names (name_at names x).path ++ (chain_gives names its_rest.0 ++ chains_give names it.front))
    gives =
        let w = name_at names x in
        ap (chains_give names) it.whole ∙ chains_push names it.front it.xs ∙ ap (λ (xs : List ℕ). chain_gives names xs ++ chains_give names it.front) its_rest.1
        ∙ ap (λ (ws : List Named). w ∷ ws) (append_assoc (below names w.path) (chain_gives names its_rest.0) (chains_give names it.front))

    order_few : length order < length (pool_names names)
    order_few = omega (arith, ap length so_far.whole, length-append (map (name_at names) order) (chains_give names so_far.chains), length-map order (name_at names), ap length gives)

    pub smaller_more : (longer : List ℕ) (more : List (Option ℕ)) (one two : Option ℕ) → longer ≡ order ++ x ∷ [] → more ≡ (left ++ one ∷ []) ++ two ∷ [] → measure_of longer more < measure_of order opened
    smaller_more longer more one two is_longer is_more =
        omega (arith, order_few, ap length is_open, length_push left top, ap length is_longer, length_push order x, ap length is_more, length_push (left ++ one ∷ []) two, length_push left one)

    -- it goes on with that one, those right below it, and what is left of the chain
    pub walk_more : (first : List (Option ℕ)) (longer : List ℕ) (more : List (Option ℕ)) → AreApart names → AreWinners names winners → ((x : ℕ) → x < length names → IsLinkedUp names x) → AreChains names winners AnyName first next
        → longer ≡ order ++ x ∷ [] → more ≡ (left ++ get_or next x None ∷ []) ++ get_or first (x + 1) None ∷ [] → IsWalking longer more
    walk_more first longer more apart are linked chains is_longer is_more = record {
      chains = (it.front ++ its_rest.0 ∷ []) ++ family ∷ [];
      hung = subst (λ (o : List (Option ℕ)). AllHung o ((it.front ++ its_rest.0 ∷ []) ++ family ∷ [])) (sym is_more)
          (hung_push (left ++ get_or next x None ∷ []) (it.front ++ its_rest.0 ∷ []) (get_or first (x + 1) None) family (hung_push left it.front (get_or next x None) its_rest.0 it.before its_rest.2)
          (record { hangs = chains.hang (x + 1) there; wins = λ y has. ((is.each y has).1).0 }));
      whole = ap (λ (ns : List ℕ). map (name_at names) ns ++ chains_give names ((it.front ++ its_rest.0 ∷ []) ++ family ∷ [])) is_longer
          ∙ ap (λ (ws : List Named). ws ++ chains_give names ((it.front ++ its_rest.0 ∷ []) ++ family ∷ [])) (map-append (name_at names) order (x ∷ []))
          ∙ append_assoc (map (name_at names) order) (name_at names x ∷ []) (chains_give names ((it.front ++ its_rest.0 ∷ []) ++ family ∷ []))
          ∙ ap (λ (ws : List Named). map (name_at names) order ++ name_at names x ∷ ws)
          (chains_push names (it.front ++ its_rest.0 ∷ []) family ∙ ap (λ (ws : List Named). chain_gives names family ++ ws) (chains_push names it.front its_rest.0)
          ∙ ap (λ (ws : List Named). ws ++ (chain_gives names its_rest.0 ++ chains_give names it.front)) under)
          ∙ ap (λ (ws : List Named). map (name_at names) order ++ ws) (sym gives) ∙ so_far.whole;
      wins = subst (All (Wins names winners)) (sym is_longer) (All-push (Wins names winners) order x so_far.wins name_wins);
    } where
      there : x + 1 < length first
      there = omega (arith, name_wins.within, chains.wide)

      family : List ℕ
      family = chains.family (x + 1)

      is : IsFamily names winners AnyName (x + 1) family
      is = chains.are (x + 1) there

      under : chain_gives names family ≡ below names (name_at names x).path
      under = family_below names winners (x + 1) family apart are linked (inr (x, refl, name_wins)) is ∙ ap (below names) (key_path_up names x ∙ path_is names x name_wins.within)

  -- it begins with those below no path
  pub walk_first : (first : List (Option ℕ)) (order : List ℕ) (opened : List (Option ℕ)) → AreApart names → AreWinners names winners → ((x : ℕ) → x < length names → IsLinkedUp names x) → AreChains names winners AnyName first next
      → order ≡ [] → opened ≡ [] ++ get_or first 0 None ∷ [] → IsWalking order opened
  walk_first first order opened apart are linked chains no_order one = rw (no_order, one) (record {
    chains = chains.family 0 ∷ [];
    hung = (record { hangs = chains.hang 0 there; wins = λ y has. ((is.each y has).1).0 }, tt);
    whole = family_below names winners 0 (chains.family 0) apart are linked (inl refl) is;
    wins = All-nil (Wins names winners);
  }) where
    there : 0 < length first
    there = omega (arith, chains.wide)

    is : IsFamily names winners AnyName 0 (chains.family 0)
    is = chains.are 0 there
