-- What the items of a listing give keeps to what each of them does.
use Rattle.std.proofs.Common.{◌≡◌, ℕ, zero, suc, List, [], ◌∷◌, Option, Some, None, IfSome, Result, Ok, Err, refl, subst}
use Rattle.std.specs.List.{All, AllByRecursion, cons_option, filter_map}
use Rattle.std.proofs.lemmas.List.Elements.{All-cons, All-nil}
use Rattle.ds_base.specs.declared.fault.Fault.{Fault}
use Rattle.ds_base.specs.Spot.{Spot}
use Rattle.ds_base.proofs.Passing.{bind_ok, ok_is}
use Rattle.dwarf_types.specs.declared.address.Addr.{Addr}
use Rattle.list_items.specs.Lists.{Says, ends, selects, defaults, spans, ListItem, Listing, behind_it, listed, items_from, given, unless_stopped, list_of}

-- a list that is read came to its end, and is what its items give
not_stopped : (stop : Option Fault) (u : Unit {0}) → unless_stopped stop ≡ Ok u → stop ≡ None
not_stopped None u e = refl
not_stopped (Some f) u e = absurd cc

pub list_known : {A : Type 0} (listing : Listing A) (xs : List A) → list_of listing ≡ Ok xs → (listing.stop ≡ None) × (filter_map (λ item. given item.says) listing.items ≡ xs)
list_known listing xs e =
    let p = bind_ok (unless_stopped listing.stop) _ xs e in
    (not_stopped listing.stop p.0 p.1, ok_is _ xs p.2)

-- ---- each item

abbrev AllGive : {A : Type 0} → (A → Type 0) → Listing A → Type 0
AllGive P listing = AllByRecursion (λ item. IfSome (given item.says) P) listing.items

behind_gives : {A : Type 0} (P : A → Type 0) (says : Says A) (base : Addr) (more : Addr → Listing A) → ((b : Addr) → AllGive P (more b)) → AllGive P (behind_it says base more)
behind_gives P ends base more later = tt
behind_gives P (selects selected) base more later = later selected
behind_gives P (defaults x) base more later = later base
behind_gives P (spans span x) base more later = later base

one_gives : {A : Type 0} (P : A → Type 0) (At : Spot → Type 0) (first : Spot) (one : Result (Says A × Spot) Fault) (more : Says A → Spot → Listing A)
    → ((y : Says A × Spot) → one ≡ Ok y → IfSome (given y.0) P × At y.1) → ((says : Says A) (t : Spot) → At t → AllGive P (more says t)) → AllGive P (listed first one more)
one_gives P At first (Ok y) more here later = let h = here y refl in (h.0, later y.0 y.1 h.1)
one_gives P At first (Err f) more here later = tt

items_give : {A : Type 0} (P : A → Type 0) (At : Spot → Type 0) (read : Addr → Spot → Result (Says A × Spot) Fault)
    → ((base : Addr) (s : Spot) (y : Says A × Spot) → At s → read base s ≡ Ok y → IfSome (given y.0) P × At y.1)
    → (left : ℕ) (base : Addr) (s : Spot) → At s → AllGive P (items_from read left base s)
items_give P At read keeps zero base s at = tt
items_give P At read keeps (suc left) base s at =
    one_gives P At s (read base s) (λ says t. behind_it says base (λ b. items_from read left b t)) (λ y e. keeps base s y at e)
    (λ says t there. behind_gives P says base (λ b. items_from read left b t) (λ b. items_give P At read keeps left b t there))

cons_kept : {A : Type 0} (P : A → Type 0) (o : Option A) (xs : List A) → IfSome o P → All P xs → All P (cons_option o xs)
cons_kept P None xs here more = more
cons_kept P (Some x) xs here more = All-cons P x xs here more

given_kept : {A : Type 0} (P : A → Type 0) (items : List (ListItem A)) → AllByRecursion (λ item. IfSome (given item.says) P) items → All P (filter_map (λ item. given item.says) items)
given_kept P [] all = All-nil P
given_kept P (item ∷ items) all = cons_kept P (given item.says) (filter_map (λ item. given item.says) items) all.0 (given_kept P items all.1)

-- what a list gives has P, where each item that is read in its state gives what has P, and hands the state on
pub all_given : {A : Type 0} (P : A → Type 0) (At : Spot → Type 0) (read : Addr → Spot → Result (Says A × Spot) Fault)
    → ((base : Addr) (s : Spot) (y : Says A × Spot) → At s → read base s ≡ Ok y → IfSome (given y.0) P × At y.1)
    → (left : ℕ) (base : Addr) (s : Spot) (xs : List A) → At s → list_of (items_from read left base s) ≡ Ok xs → All P xs
all_given P At read keeps left base s xs at e =
    let k = list_known (items_from read left base s) xs e in
    subst (All P) k.1 (given_kept P (items_from read left base s).items (items_give P At read keeps left base s at))
