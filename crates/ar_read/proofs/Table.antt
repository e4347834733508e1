-- A table of members, and what is still found in the archive.
use Rattle.std.proofs.Common.{◌≡◌, ℕ, Bool, true, false, List, [], ◌∷◌, ◌++◌, Option, Some, None, is_some, Result, Ok, Bor, if◌then◌else◌, refl, sym, ap, ◌∙◌, true≢false}
use Rattle.std.specs.Map.{lookup}
use Rattle.std.specs.Option.{option_or}
use Rattle.std.specs.Str.{bytes_eq}
use Rattle.std.specs.Cmp.Lexicographic.{nat_list_eq_equiv}
use Rattle.std.proofs.lemmas.Slice.Eq.{bytes_eq-Decides}
use Rattle.indexmap.specs.IndexMap.{IndexMap}
use Rattle.ds_base.specs.declared.fault.Fault.{Fault}
use Rattle.ds_base.specs.declared.text_key.TextKey.{TextKey}
use Rattle.ds_base.proofs.Lookups.{lookup-push}
use Rattle.ar_read.specs.Table.{or_else, content_in, PutsBehind}

-- ---- one more member in the table

module _ {S : Type 0} (old new : IndexMap TextKey (Bor (List ℕ)) S) (its : TextKey) (content : Bor (List ℕ)) where
  -- a member of a new name is put last
  pub puts_last : new.entries ≡ old.entries ++ (its, content) ∷ [] → PutsBehind old new its.text.now content.now
  puts_last grown name other =
      ap (λ (found : Option (Bor (List ℕ))). or_else found other)
      (ap (lookup (λ k. bytes_eq name k.text.now)) grown ∙ lookup-push (λ k. bytes_eq name k.text.now) old.entries its content)
      ∙ rw (nat_list_eq_equiv.symm name its.text.now) (by (content_in old name) (bytes_eq its.text.now name))
    where
      by : (before : Option (Bor (List ℕ))) (same : Bool)
          → or_else (option_or before (if same then Some content else None)) other ≡ or_else before (if same then Ok content.now else other)
      by (Some found) same = refl
      by None true = refl
      by None false = refl

-- one of a known name is not
pub puts_none : {S : Type 0} (old : IndexMap TextKey (Bor (List ℕ)) S) (its content : List ℕ) → is_some (content_in old its) ≡ true → PutsBehind old old its content
puts_none old its content known name other = by (bytes_eq its name) refl
  where
    found : (o : Option (Bor (List ℕ))) → is_some o ≡ true → (x y : Result (List ℕ) Fault) → or_else o x ≡ or_else o y
    found (Some c) e x y = refl
    found None e x y = absurd (true≢false (sym e))

    by : (same : Bool) → bytes_eq its name ≡ same → or_else (content_in old name) other ≡ or_else (content_in old name) (if same then Ok content else other)
    by true e = found (content_in old name) (ap (λ (n : List ℕ). is_some (content_in old n)) (sym ((bytes_eq-Decides its name).0 e)) ∙ known) _ _
    by false e = refl
