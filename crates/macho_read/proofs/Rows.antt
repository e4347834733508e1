-- Rows of symbols, as more bytes and more rows are put.
use Rattle.std.proofs.Common.{◌≡◌, ℕ, List, [], ◌∷◌, ◌++◌, map, length, drop, take, All, refl, ap, ap₂, arith, ◌∙◌}
use Rattle.std.proofs.lemmas.List.{drop-append-le, drop_at, take-append-le, take_all, length-drop, map_push}
use Rattle.std.proofs.lemmas.List.Elements.{All-head, All-tail}
use Rattle.macho_read.specs.declared.image.Symbol.{Symbol}
use Rattle.macho_read.specs.declared.symbol_list.Row.{Row}
use Rattle.macho_read.specs.Rows.{IsWithin, symbol_of_row}

abbrev pub with_name : Row → List ℕ → Symbol
with_name r name = record { name = name; kind = r.kind; sect = r.sect; desc = r.desc; value = r.value }

row_kept : (bytes more : List ℕ) (r : Row) → IsWithin bytes r → symbol_of_row (bytes ++ more) r ≡ symbol_of_row bytes r
row_kept bytes more r within =
    ap (with_name r) (rw (drop-append-le r.place bytes more (omega arith)) (take-append-le r.len (drop r.place bytes) more (omega (arith, length-drop r.place bytes))))

-- more bytes change no symbol
pub rows_kept : (bytes more : List ℕ) (rows : List Row) → All (IsWithin bytes) rows → map (symbol_of_row (bytes ++ more)) rows ≡ map (symbol_of_row bytes) rows
rows_kept bytes more [] all = refl
rows_kept bytes more (r ∷ rows) all =
    ap₂ ◌∷◌ (row_kept bytes more r (All-head (IsWithin bytes) r rows all)) (rows_kept bytes more rows (All-tail (IsWithin bytes) r rows all))

-- a row whose name was put behind the bytes
pub row_put : (bytes name new : List ℕ) (rows : List Row) (r : Row) → new ≡ bytes ++ name → r.place ≡ length bytes → r.len ≡ length name → All (IsWithin bytes) rows
    → map (symbol_of_row new) (rows ++ r ∷ []) ≡ map (symbol_of_row bytes) rows ++ with_name r name ∷ []
row_put bytes name new rows r is place len all =
    let tail : drop r.place (bytes ++ name) ≡ name = rw place (drop_at bytes name (length bytes) refl) in
    let text : take r.len (drop r.place (bytes ++ name)) ≡ name = rw tail (take_all r.len name (omega arith)) in
    rw is (map_push (symbol_of_row (bytes ++ name)) rows r ∙ ap₂ (λ (xs : List Symbol) (x : Symbol). xs ++ x ∷ []) (rows_kept bytes name rows all) (ap (with_name r) text))
