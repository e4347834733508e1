-- Parts and their texts.
use Rattle.std.proofs.Common.{◌≡◌, ℕ, List, [], ◌∷◌, ◌++◌, Bor, fold, map, refl, sym, ap, ◌∙◌}
use Rattle.std.specs.List.{flat_map}
use Rattle.ds_base.specs.Texts.{section_of, with_text}
use Rattle.text_pool.specs.declared.joining.Joined.{Joined}
use Rattle.text_pool.specs.Joins.{all_once, joined, place_in}
use Rattle.text_pool.specs.Shards.{texts_in}

flat_now : (parts : List (Bor (List (List ℕ)))) → flat_map (λ texts. texts) (map (λ names. names.now) parts) ≡ texts_in parts
flat_now [] = refl
flat_now (names ∷ parts) = ap (λ (more : List (List ℕ)). names.now ++ more) (flat_now parts)

-- the texts of all parts by first use
pub once_now : (parts : List (Bor (List (List ℕ)))) → all_once (map (λ names. names.now) parts) ≡ fold with_text [] (texts_in parts)
once_now parts = ap (fold with_text []) (flat_now parts)

map_now : (f : List (List ℕ) → List ℕ) (parts : List (Bor (List (List ℕ)))) → map f (map (λ names. names.now) parts) ≡ map (λ names. f names.now) parts
map_now f [] = refl
map_now f (names ∷ parts) = ap (λ (more : List (List ℕ)). f names.now ∷ more) (map_now f parts)

abbrev made_of : List ℕ → List (List ℕ) → Joined
made_of section places = record { section = section; places = places }

pub joined_is : (parts : List (Bor (List (List ℕ)))) (section : List ℕ) (places : List (List ℕ)) → section ≡ section_of (fold with_text [] (texts_in parts))
    → places ≡ map (λ names. map (place_in (fold with_text [] (texts_in parts))) names.now) parts → made_of section places ≡ joined (map (λ names. names.now) parts)
joined_is parts section places is are =
    let texts : List (List ℕ) = fold with_text [] (texts_in parts) in
    ap (λ (bytes : List ℕ). made_of bytes places) is ∙ ap (made_of (section_of texts)) (are ∙ sym (map_now (map (place_in texts)) parts))
    ∙ ap (λ (ts : List (List ℕ)). made_of (section_of ts) (map (map (place_in ts)) (map (λ names. names.now) parts))) (sym (once_now parts))
