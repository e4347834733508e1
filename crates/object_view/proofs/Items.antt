-- The items of a location list, one after the other: the locations that are done before those of the items that are left.
use Rattle.std.proofs.Common.{◌≡◌, ℕ, ◌+◌, ◌<◌, ◌≤◌, List, [], ◌∷◌, ◌++◌, Result, Ok, Err, length, drop, get_or, refl, sym, ap, ◌∙◌, append_assoc, append-nil}
use Rattle.std.specs.List.{flat_map}
use Rattle.std.proofs.lemmas.List.{drop_all}
use Rattle.std.proofs.lemmas.List.Concat.{flat_map-cons}
use Rattle.ds_base.proofs.Refusals.{Refused}
use Rattle.ds_base.proofs.Walking.{drop_one}
use Rattle.ds_base.specs.declared.fault.Fault.{Fault}
use Rattle.ds_base.specs.declared.fault.ReadError.{ReadError}
use Rattle.ds_base.specs.declared.fault.ReadError.TheVariants as errors
use Rattle.ds_base.specs.Reading.{◌>>=◌}
use Rattle.dwarf_types.specs.declared.expr.Op.{Op}
use Rattle.dwarf_types.specs.declared.lists.Location.{Location}
use Rattle.dwarf_types.specs.declared.lists.RawLocation.{RawLocation}
use Rattle.expr_resolve.specs.Context.{Context}
use Rattle.object_view.specs.Attributes.{each_of, item_meant, item_moved}
use Rattle.object_view.specs.Ready.{item_given, items_given}

abbrev Meant : Type 0
Meant = RawLocation × List Op

-- locations before those of others
abbrev pub with_front : List Location → Result (List Location) Fault → Result (List Location) Fault
with_front before (Ok others) = Ok (before ++ others)
with_front before (Err e) = Err e

-- the items from a place on give what is left
abbrev pub Given : Context → List RawLocation → List Location → ℕ → Type 0
Given s items before i = with_front before (items_given s (drop i items)) ≡ items_given s items

front_none : (all : Result (List Location) Fault) → with_front [] all ≡ all
front_none (Ok xs) = refl
front_none (Err e) = refl

pub given_none : (s : Context) (items : List RawLocation) → Given s items [] 0
given_none s items = front_none (items_given s items)

-- what an item gives, and then the others
abbrev and_others : Context → Result Meant Fault → Result (List Meant) Fault → Result (List Location) Fault
and_others s here others = (here >>= λ x. others >>= λ xs. Ok (x ∷ xs)) >>= λ all. Ok (flat_map (item_moved s.map) all)

-- an item puts its locations behind those before it
abbrev behind : Context → List Location → Result Meant Fault → Result (List Location) Fault
behind s before here = here >>= λ x. Ok (before ++ item_moved s.map x)

front_split : (s : Context) (before : List Location) (here : Result Meant Fault) (others : Result (List Meant) Fault)
    → with_front before (and_others s here others) ≡ (behind s before here >>= λ now. with_front now (others >>= λ xs. Ok (flat_map (item_moved s.map) xs)))
front_split s before (Ok x) (Ok xs) =
    ap (λ (ys : List Location). Ok (before ++ ys)) (flat_map-cons (item_moved s.map) x xs) ∙ ap Ok (sym (append_assoc before (item_moved s.map x) (flat_map (item_moved s.map) xs)))
front_split s before (Ok x) (Err e) = refl
front_split s before (Err e) others = refl

module _ (s : Context) (items : List RawLocation) (before : List Location) (i : ℕ) (item : RawLocation) (lt : i < length items) (is : item ≡ get_or items i item) (so_far : Given s items before i) where
  here_and_others : (item_given s before item >>= λ now. with_front now (items_given s (drop (i + 1) items))) ≡ items_given s items
  here_and_others =
      sym (front_split s before (item_meant s item) (each_of (item_meant s) (drop (i + 1) items)))
      ∙ ap (λ (left : List RawLocation). with_front before (items_given s left)) (sym (drop_one items i item lt is)) ∙ so_far

  -- one more item
  pub given_more : (now : List Location) → item_given s before item ≡ Ok now → Given s items now (i + 1)
  given_more now e = ap (λ (r : Result (List Location) Fault). r >>= λ now. with_front now (items_given s (drop (i + 1) items))) (sym e) ∙ here_and_others

  -- one is refused
  pub given_err : (e : ReadError) → Refused e (item_given s before item) → Refused e (items_given s items)
  given_err (errors.Faulty f) refused =
      sym here_and_others ∙ ap (λ (r : Result (List Location) Fault). r >>= λ now. with_front now (items_given s (drop (i + 1) items))) refused
  given_err errors.NoMemory refused = tt

-- at the end all are given
pub given_all : (s : Context) (items : List RawLocation) (before : List Location) (i : ℕ) → length items ≤ i → Given s items before i → items_given s items ≡ Ok before
given_all s items before i le so_far =
    sym so_far ∙ ap (λ (left : List RawLocation). with_front before (items_given s left)) (drop_all i items le) ∙ ap Ok (append-nil before)
