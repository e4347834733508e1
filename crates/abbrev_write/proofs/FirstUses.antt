-- Declarations by first use: one at a time, and all at once.
use Rattle.std.proofs.Common.{◌≡◌, ℕ, ◌+◌, Bool, true, false, not, ◌||◌, ◌&&◌, List, [], ◌∷◌, ◌++◌, length, filter, fold, Option, Some, None, if◌then◌else◌, refl, sym, ap, ◌∙◌, append_assoc}
use Rattle.std.specs.List.{list_any}
use Rattle.std.specs.Option.{option_or}
use Rattle.std.proofs.lemmas.Bool.{cond_both}
use Rattle.std.proofs.lemmas.List.{append-nil}
use Rattle.std.proofs.lemmas.List.Elements.{filter-append}
use Rattle.std.proofs.lemmas.Map.Views.{any-filter_same}
use Rattle.ds_base.specs.FirstUse.{once}
use Rattle.dwarf_types.specs.declared.abbrev.Declaration.{Declaration}
use Rattle.dwarf_types.specs.Abbreviations.{code_in, same_declaration}
use Rattle.abbrev_write.specs.Keys.{code_among}
use Rattle.abbrev_write.specs.Table.{with_declaration}
use Rattle.abbrev_write.proofs.Codes.{among_is, among_push, same_decides}

abbrev other : Declaration → Declaration → Bool
other x y = not (same_declaration x y)

-- what is the same as another is the same as what that is
same_on : (x y t : Declaration) → same_declaration y t ≡ true → same_declaration x y ≡ same_declaration x t
same_on x y t e = ap (same_declaration x) ((same_decides y t).0 e)

any-others : (x t : Declaration) (ds : List Declaration) → list_any (λ y. same_declaration y t) (filter (other x) ds) ≡ (other x t && list_any (λ y. same_declaration y t) ds)
any-others x t ds = any-filter_same (λ y. same_declaration y t) (other x) (other x t) (λ y e. ap not (same_on x y t e)) ds

first-with : (x : Declaration) (ds : List Declaration) (t : Declaration) → x ∷ filter (other x) (with_declaration ds t) ≡ with_declaration (x ∷ filter (other x) ds) t
first-with x ds t = rw (any-others x t ds) (by (same_declaration x t) refl (list_any (λ y. same_declaration y t) ds))
  where
    by : (same : Bool) → same_declaration x t ≡ same → (known : Bool)
        → x ∷ filter (other x) (if known then ds else ds ++ t ∷ []) ≡ (if same || (not same && known) then x ∷ filter (other x) ds else x ∷ filter (other x) ds ++ t ∷ [])
    by true e true = refl
    by false e true = refl
    by true e false = rw (filter-append (other x) ds (t ∷ []), e, append-nil) refl
    by false e false = rw (filter-append (other x) ds (t ∷ []), e) refl

once-push : (ds : List Declaration) (t : Declaration) → once same_declaration (ds ++ t ∷ []) ≡ with_declaration (once same_declaration ds) t
once-push [] t = refl
once-push (x ∷ ds) t = ap (λ (others : List Declaration). x ∷ filter (other x) others) (once-push ds t) ∙ first-with x (once same_declaration ds) t

-- putting one declaration after the other to those that were used
once-append : (before uses : List Declaration) → fold with_declaration (once same_declaration before) uses ≡ once same_declaration (before ++ uses)
once-append before [] = sym (ap (once same_declaration) (append-nil before))
once-append before (t ∷ uses) =
    ap (λ (ds : List Declaration). fold with_declaration ds uses) (sym (once-push before t)) ∙ once-append (before ++ t ∷ []) uses ∙ ap (once same_declaration) (append_assoc before (t ∷ []) uses)

pub all_once : (uses : List Declaration) → fold with_declaration [] uses ≡ once same_declaration uses
all_once uses = once-append [] uses

-- a code stays, whatever is put
among_kept : (ds : List Declaration) (t d : Declaration) (n : ℕ) → code_among ds d ≡ Some n → code_among (with_declaration ds t) d ≡ Some n
among_kept ds t d n e =
    cond_both (list_any (λ x. same_declaration x t) ds) ds (ds ++ t ∷ []) (λ more. code_among more d ≡ Some n) (λ _. e) (λ _. among_push ds t d ∙ ap (λ (o : Option ℕ). option_or o (if same_declaration t d then Some (length ds + 1) else None)) e)

among_stays : (ds more : List Declaration) (d : Declaration) (n : ℕ) → code_among ds d ≡ Some n → code_among (fold with_declaration ds more) d ≡ Some n
among_stays ds [] d n e = e
among_stays ds (t ∷ more) d n e = among_stays (with_declaration ds t) more d n (among_kept ds t d n e)

pub code_stays : (ds more : List Declaration) (d : Declaration) (n : ℕ) → code_among ds d ≡ Some n → code_in (fold with_declaration ds more) d ≡ code_in ds d
code_stays ds more d n e = among_is (fold with_declaration ds more) d n (among_stays ds more d n e) ∙ sym (among_is ds d n e)
