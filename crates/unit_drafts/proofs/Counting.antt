-- What is counted of a link fits 64 bits: an object has few entries, and each node of a unit takes a byte.
use Rattle.std.proofs.Common.{◌≡◌, ◌<◌, ◌≤◌, ◌+◌, ◌^◌, ℕ, suc, Bool, true, false, List, [], ◌∷◌, length, length-take, take, get_or, refl, ap, ◌∙◌, arith}
use Rattle.std.specs.List.{All, enumerate_from, filter, sum_by, zip}
use Rattle.std.proofs.lemmas.List.{length-map}
use Rattle.std.proofs.lemmas.List.Elements.{All-cons, All-head, All-nil, All-tail}
use Rattle.std.proofs.lemmas.List.Sums.{sum_by-cons, sum_by-le, sum_by_more_le}
use Rattle.ds_base.proofs.LebLengths.{some_digits}
use Rattle.dwarf_types.specs.declared.analysis.Analysis.{Analysis}
use Rattle.dwarf_types.specs.declared.graph.Graph.{Graph}
use Rattle.dwarf_types.specs.declared.graph.Node.{Node}
use Rattle.dwarf_types.specs.declared.graph.OutUnit.{OutUnit}
use Rattle.dwarf_types.specs.Entries.{OutEntry, entries_of, entry_len, entry_of, node_place, unit_len}
use Rattle.dwarf_types.specs.LinkedShape.{AreMarked}
use Rattle.dwarf_types.specs.Sound.{IsSound}
use Rattle.layout.proofs.OfDrafts.{From, from_graph}
use Rattle.unit_draft.specs.declared.unit.Draft.{Draft}
use Rattle.unit_draft.specs.Drafted.{AreDrafts}

-- ---- entries

pub entries_few : (seen : List Analysis) → All IsSound seen → length seen < 2 ^ 16 → sum_by (λ object. length object.entries) seen < 2 ^ 40
entries_few seen sound few =
    let all = sum_by-le (λ (object : Analysis). length object.entries) (2 ^ 24) seen (λ k object lt. (sound k object lt).few) in
    omega (arith, all, few)

pub entries_so_far : (seen : List Analysis) (i : ℕ) (object : Analysis) → All IsSound seen → length seen < 2 ^ 16 → i < length seen → object ≡ get_or seen i object
    → sum_by (λ a. length a.entries) (take i seen) + length object.entries < 2 ^ 40
entries_so_far seen i object sound few lt is =
    let f : Analysis → ℕ = λ a. length a.entries in
    let more = sum_by_more_le f seen i object lt in
    omega (arith, more, ap f is, entries_few seen sound few)

pub filter_few : (row : List Bool) → length (filter (λ b. b) row) ≤ length row
filter_few [] = omega arith
filter_few (true ∷ row) = let rest = filter_few row in omega (arith, rest)
filter_few (false ∷ row) = let rest = filter_few row in omega (arith, rest)

pub live_few : (seen : List Analysis) (marks : List (List Bool)) → length marks ≡ length seen → All (λ object. length object.1 ≡ length object.0.entries) (zip seen marks)
    → sum_by (λ row. length (filter (λ b. b) row)) marks ≤ sum_by (λ object. length object.entries) seen
live_few [] [] each whole = omega arith
live_few [] (row ∷ marks) each whole = absurd (omega (arith, each))
live_few (a ∷ seen) [] each whole = absurd (omega (arith, each))
live_few (a ∷ seen) (row ∷ marks) each whole =
    let same : length row ≡ length a.entries = All-head (λ (o : Analysis × List Bool). length o.1 ≡ length o.0.entries) (a, row) (zip seen marks) whole in
    let rest = live_few seen marks (omega (arith, each)) (All-tail (λ (o : Analysis × List Bool). length o.1 ≡ length o.0.entries) (a, row) (zip seen marks) whole) in
    let front = sum_by-cons (λ (object : Analysis). length object.entries) a seen in
    let front_marks = sum_by-cons (λ (r : List Bool). length (filter (λ b. b) r)) row marks in
    omega (arith, same, rest, front, front_marks, filter_few row)

pub live_so_far : (seen : List Analysis) (marks : List (List Bool)) (i : ℕ) (row : List Bool) → All IsSound seen → length seen < 2 ^ 16 → AreMarked seen marks → i < length marks → row ≡ get_or marks i row
    → sum_by (λ r. length (filter (λ b. b) r)) (take i marks) + length (filter (λ b. b) row) < 2 ^ 40
live_so_far seen marks i row sound few marked lt is =
    let f : List Bool → ℕ = λ r. length (filter (λ b. b) r) in
    let more = sum_by_more_le f marks i row lt in
    omega (arith, more, ap f is, live_few seen marks marked.each marked.whole, entries_few seen sound few)

pub marks_so_far : (row : List Bool) (k : ℕ) → length (filter (λ b. b) (take k row)) ≤ k
marks_so_far row k = let few = filter_few (take k row) in omega (arith, few, length-take k row)

-- ---- nodes

sum_some : {A : Type 0} (f : A → ℕ) → ((x : A) → 1 ≤ f x) → (xs : List A) → length xs ≤ sum_by f xs
sum_some f some [] = omega arith
sum_some f some (x ∷ xs) = let rest = sum_some f some xs in omega (arith, rest, some x, sum_by-cons f x xs)

enumerate_many : {A : Type 0} (k : ℕ) (xs : List A) → length (enumerate_from k xs) ≡ length xs
enumerate_many k [] = refl
enumerate_many k (x ∷ xs) = ap suc (enumerate_many (k + 1) xs)

entry_some : (e : OutEntry) → 1 ≤ entry_len e
entry_some e = let some = some_digits e.code in omega (arith, some)

nodes_within : (u : ℕ) (unit : OutUnit) → length unit.nodes ≤ unit_len u unit
nodes_within u unit =
    let all = sum_some entry_len entry_some (entries_of u unit) in
    let many = length-map (enumerate_from 0 unit.nodes) (λ (n : ℕ × Node). entry_of u unit.nodes n.0 n.1) in
    omega (arith, all, many, enumerate_many 0 unit.nodes)

-- the nodes of units by their drafts
nodes_from : (n : ℕ) (units : List OutUnit) (drafts : List Draft) → From n units drafts → sum_by (λ draft. length draft.places) drafts ≡ sum_by (λ unit. length unit.nodes) units
nodes_from n [] [] f = refl
nodes_from n [] (d ∷ drafts) f = absurd f
nodes_from n (unit ∷ units) [] f = absurd f
nodes_from n (unit ∷ units) (d ∷ drafts) f =
    let here : length d.places ≡ length unit.nodes = ap length f.0.places ∙ length-map (enumerate_from 0 unit.nodes) (λ (k : ℕ × Node). node_place n unit k.0) ∙ enumerate_many 0 unit.nodes in
    let rest = nodes_from (n + 1) units drafts f.1 in
    omega (arith, here, rest, sum_by-cons (λ (draft : Draft). length draft.places) d drafts, sum_by-cons (λ (u : OutUnit). length u.nodes) unit units)

pub nodes_drafted : (graph : Graph) (drafts : List Draft) → AreDrafts graph drafts → sum_by (λ draft. length draft.places) drafts ≡ sum_by (λ unit. length unit.nodes) graph.units
nodes_drafted graph drafts are = nodes_from 0 graph.units drafts (from_graph graph drafts are)

short_from : (n : ℕ) (units : List OutUnit) (drafts : List Draft) → From n units drafts → All (λ unit. length unit.nodes ≤ 2 ^ 28) units
short_from n [] [] f = All-nil (λ (unit : OutUnit). length unit.nodes ≤ 2 ^ 28)
short_from n [] (d ∷ drafts) f = absurd f
short_from n (unit ∷ units) [] f = absurd f
short_from n (unit ∷ units) (d ∷ drafts) f =
    All-cons (λ (unit : OutUnit). length unit.nodes ≤ 2 ^ 28) unit units (omega (arith, f.0.short, nodes_within n unit)) (short_from (n + 1) units drafts f.1)

pub nodes_few : (graph : Graph) (drafts : List Draft) → AreDrafts graph drafts → length graph.units < 2 ^ 32 → sum_by (λ draft. length draft.places) drafts < 2 ^ 64
nodes_few graph drafts are few =
    let all = sum_by-le (λ (unit : OutUnit). length unit.nodes) (2 ^ 28) graph.units (short_from 0 graph.units drafts (from_graph graph drafts are)) in
    omega (arith, all, few, nodes_drafted graph drafts are)

pub nodes_so_far : (drafts : List Draft) (i : ℕ) (draft : Draft) → sum_by (λ d. length d.places) drafts < 2 ^ 64 → i < length drafts → draft ≡ get_or drafts i draft
    → sum_by (λ d. length d.places) (take i drafts) + length draft.places < 2 ^ 64
nodes_so_far drafts i draft few lt is =
    let f : Draft → ℕ = λ d. length d.places in
    let more = sum_by_more_le f drafts i draft lt in
    omega (arith, more, ap f is, few)
