-- The first symbol of a name, found in a table of the names.
use Rattle.std.proofs.Common.{◌≡◌, ℕ, suc, ◌+◌, ◌-◌, ◌<◌, ◌≤◌, ◌&&◌, not, Bool, true, false, cond, List, [], ◌∷◌, length, drop, get_or, slice_get, Option, Some, None, refl, sym, ap, ◌∙◌, arith}
use Rattle.std.specs.Option.{option_map}
use Rattle.std.specs.List.{enumerate_from, find}
use Rattle.std.specs.Str.{bytes_eq}
use Rattle.std.proofs.lemmas.List.{drop_more}
use Rattle.std.proofs.lemmas.Option.{slice_get_within, some_pair_parts}
use Rattle.macho_read.specs.declared.image.Symbol.{Symbol}
use Rattle.macho_read.specs.Standings.{is_stab}
use Rattle.addr_map.specs.Entries.{has_name}

-- the index of the first symbol of a name, of those from an index on
abbrev index_from : ℕ → List Symbol → List ℕ → Option ℕ
index_from i symbols name = option_map (λ s. s.0) (find (has_name name) (enumerate_from i symbols))

first_of : (b : Bool) (i : ℕ) (s : Symbol) (others : Option (ℕ × Symbol)) → option_map (λ s. s.0) (cond b (Some (i, s)) others) ≡ cond b (Some i) (option_map (λ s. s.0) others)
first_of true i s others = refl
first_of false i s others = refl

-- the symbol before those
pub index_more : (symbols : List Symbol) (i : ℕ) (s : Symbol) (name : List ℕ) → 1 ≤ i → i ≤ length symbols → s ≡ get_or symbols (i - 1) s
    → index_from (i - 1) (drop (i - 1) symbols) name ≡ cond (not (is_stab s) && bytes_eq s.name name) (Some (i - 1)) (index_from i (drop i symbols) name)
index_more symbols i s name some within is =
    let next : i - 1 + 1 ≡ i = omega arith in
    ap (λ (ss : List Symbol). index_from (i - 1) ss name) (drop_more symbols (i - 1) s (omega arith) ∙ ap (λ (x : Symbol). x ∷ drop (i - 1 + 1) symbols) (sym is))
    ∙ first_of (not (is_stab s) && bytes_eq s.name name) (i - 1) s (find (has_name name) (enumerate_from (i - 1 + 1) (drop (i - 1 + 1) symbols)))
    ∙ ap (λ (k : ℕ). cond (not (is_stab s) && bytes_eq s.name name) (Some (i - 1)) (index_from k (drop k symbols) name)) next

-- where the symbol is a stab
pub index_same : (symbols : List Symbol) (i : ℕ) (s : Symbol) (name : List ℕ) (found : Option ℕ) → 1 ≤ i → i ≤ length symbols → s ≡ get_or symbols (i - 1) s → is_stab s ≡ true
    → found ≡ index_from i (drop i symbols) name → found ≡ index_from (i - 1) (drop (i - 1) symbols) name
index_same symbols i s name found some within is stab so_far = so_far ∙ sym (index_more symbols i s name some within is ∙ rw stab refl)

-- where it isn't, and its name was put into the table
pub index_put : (symbols : List Symbol) (i : ℕ) (s : Symbol) (name : List ℕ) (before after : Option ℕ) → 1 ≤ i → i ≤ length symbols → s ≡ get_or symbols (i - 1) s → is_stab s ≡ false
    → after ≡ cond (bytes_eq s.name name) (Some (i - 1)) before → before ≡ index_from i (drop i symbols) name → after ≡ index_from (i - 1) (drop (i - 1) symbols) name
index_put symbols i s name before after some within is stab put so_far =
    put ∙ ap (cond (bytes_eq s.name name) (Some (i - 1))) so_far ∙ sym (index_more symbols i s name some within is ∙ rw stab refl)

-- ---- the symbol of an index that the table has

symbol_here : (b : Bool) (first i : ℕ) (x s : Symbol) (xs : List Symbol) (others : Option (ℕ × Symbol)) → cond b (Some (first, x)) others ≡ Some (i, s)
    → (others ≡ Some (i, s) → (k : ℕ) × (i ≡ first + 1 + k) × (slice_get xs k ≡ Some s)) → (k : ℕ) × (i ≡ first + k) × (slice_get (x ∷ xs) k ≡ Some s)
symbol_here true first i x s xs others e rest = let parts = some_pair_parts _ _ _ _ e in (0, omega (arith, parts.0), ap (λ (y : Symbol). Some y) parts.1)
symbol_here false first i x s xs others e rest = let later = rest e in (suc later.0, omega (arith, later.1), later.2)

symbol_from : (p : ℕ × Symbol → Bool) (first : ℕ) (symbols : List Symbol) (i : ℕ) (s : Symbol) → find p (enumerate_from first symbols) ≡ Some (i, s) → (k : ℕ) × (i ≡ first + k) × (slice_get symbols k ≡ Some s)
symbol_from p first [] i s e = absurd cc
symbol_from p first (x ∷ xs) i s e = symbol_here (p (first, x)) first i x s xs (find p (enumerate_from (first + 1) xs)) e (λ f. symbol_from p (first + 1) xs i s f)

-- the index names a symbol, and with it what was looked for
pub found_whole : (p : ℕ × Symbol → Bool) (symbols : List Symbol) (found : Option (ℕ × Symbol)) (i : ℕ) (s : Symbol) → found ≡ find p (enumerate_from 0 symbols) → Some i ≡ option_map (λ s. s.0) found
    → Some s ≡ slice_get symbols i → Some (i, s) ≡ found
found_whole p symbols None i s is index symbol = absurd cc
found_whole p symbols (Some (j, t)) i s is index symbol =
    let rest = symbol_from p 0 symbols j t (sym is) in
    let same : i ≡ j = cc in
    let place : rest.0 ≡ i = omega (arith, rest.1) in
    let one : Some s ≡ Some t = symbol ∙ ap (slice_get symbols) (sym place) ∙ rest.2 in
    cc

-- and so there is one
pub found_within : (p : ℕ × Symbol → Bool) (symbols : List Symbol) (found : Option (ℕ × Symbol)) (i : ℕ) → found ≡ find p (enumerate_from 0 symbols) → Some i ≡ option_map (λ s. s.0) found → i < length symbols
found_within p symbols None i is index = absurd cc
found_within p symbols (Some (j, t)) i is index =
    let rest = symbol_from p 0 symbols j t (sym is) in
    let same : i ≡ j = cc in
    let place : rest.0 ≡ i = omega (arith, rest.1) in
    slice_get_within symbols i t (ap (slice_get symbols) (sym place) ∙ rest.2)
