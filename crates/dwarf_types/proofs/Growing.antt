-- Columns that grow in steps, and rows that are put one behind the other.
use Rattle.std.proofs.Common.{◌≡◌, ◌+◌, ◌-◌, List, [], ◌∷◌, ◌++◌, map, length, drop, take, All, refl, ap, ap₂, sym, ◌∙◌, arith, append_assoc}
use Rattle.std.proofs.lemmas.List.{append-nil, drop_at, length-append, map_push, take_all}
use Rattle.std.proofs.lemmas.List.Elements.{All-push, All-nil}
use Rattle.dwarf_types.specs.declared.sides.InnerRow.{InnerRow}
use Rattle.dwarf_types.specs.declared.sides.ItemRow.{ItemRow}
use Rattle.dwarf_types.specs.declared.sides.OpRow.{OpRow}
use Rattle.dwarf_types.specs.declared.sides.Sides.{Sides}
use Rattle.dwarf_types.specs.declared.runs.Run.{Run}
use Rattle.dwarf_types.specs.Cells.{AreAsMany, Begins, Grows}
use Rattle.dwarf_types.specs.Runs.{InRun, run_of}

pub begins_not : {A : Type 0} (xs : List A) → Begins xs xs
begins_not xs = ([], sym (append-nil xs))

pub begins_more : {A : Type 0} (xs ys : List A) (x : A) → ys ≡ xs ++ x ∷ [] → Begins xs ys
begins_more xs ys x is = (x ∷ [], is)

pub begins_on : {A : Type 0} (xs ys zs : List A) → Begins xs ys → Begins ys zs → Begins xs zs
begins_on xs ys zs b c = (b.0 ++ c.0, c.1 ∙ (ap (λ ws. ws ++ c.0) b.1 ∙ append_assoc xs b.0 c.0))

pub grows_on : (r s t : Sides) → Grows r s → Grows s t → Grows r t
grows_on r s t g h = record {
  large = begins_on _ _ _ g.large h.large;
  bytes = begins_on _ _ _ g.bytes h.bytes;
  runs = begins_on _ _ _ g.runs h.runs;
  lists = begins_on _ _ _ g.lists h.lists;
  places = begins_on _ _ _ g.places h.places;
  addresses = begins_on _ _ _ g.addresses h.addresses;
  spans = begins_on _ _ _ g.spans h.spans;
  ops = begins_on _ _ _ g.ops h.ops;
  inner = begins_on _ _ _ g.inner h.inner;
  items = begins_on _ _ _ g.items h.items;
}

pub grows_not : (s : Sides) → Grows s s
grows_not s = record { large = begins_not _; bytes = begins_not _; runs = begins_not _; lists = begins_not _; places = begins_not _; addresses = begins_not _; spans = begins_not _; ops = begins_not _; inner = begins_not _; items = begins_not _ }

pub as_many : (s : Sides) → AreAsMany s s
as_many s = (refl, refl)

pub as_many_on : (r s t : Sides) → AreAsMany r s → AreAsMany s t → AreAsMany r t
as_many_on r s t a b = (b.0 ∙ a.0, b.1 ∙ a.1)

-- rows of a column that were put behind the others for some parts of a value
pub record Rows {R A : Type 0} (column : Sides → List R) (mean : Sides → R → A) (Within : Sides → R → Type 0) (old now : Sides) (parts : List A) : Type 0 where
  pub grows : Grows old now
  pub more : List R
  pub behind : column now ≡ column old ++ more
  pub means : map (mean now) more ≡ parts
  pub within : All (Within now) more

module _ {R A : Type 0} (column : Sides → List R) (mean : Sides → R → A) (Within : Sides → R → Type 0) where
  pub rows_none : (s : Sides) → Rows column mean Within s s []
  rows_none s = record { grows = grows_not s; more = []; behind = sym (append-nil _); means = refl; within = All-nil (Within s) }

  -- one row more, where the columns that grew keep what the rows stand for
  pub rows_more : ((s t : Sides) → Grows s t → (rows : List R) → All (Within s) rows → map (mean t) rows ≡ map (mean s) rows) → ((s t : Sides) → Grows s t → (rows : List R) → All (Within s) rows → All (Within t) rows)
      → (old now new : Sides) (parts : List A) (part : A) (r : R) → Rows column mean Within old now parts → Grows now new → column new ≡ column now ++ r ∷ [] → mean new r ≡ part → Within new r → Rows column mean Within old new (parts ++ part ∷ [])
  rows_more kept within_kept old now new parts part r rows g behind is within =
      record {
        grows = grows_on old now new rows.grows g;
        more = rows.more ++ r ∷ [];
        behind = behind ∙ (ap (λ xs. xs ++ r ∷ []) rows.behind ∙ append_assoc (column old) rows.more (r ∷ []));
        means = map_push (mean new) rows.more r ∙ ap₂ (λ (xs : List A) (x : A). xs ++ x ∷ []) (kept now new g rows.more rows.within ∙ rows.means) is;
        within = All-push (Within new) rows.more r (within_kept now new g rows.more rows.within) within;
      }

  -- the run from where they begin to where they end
  pub rows_run : (old now : Sides) (parts : List A) (s : Run) → Rows column mean Within old now parts → s.from ≡ length (column old) → s.to ≡ length (column now) → InRun (column now) s × (map (mean now) (run_of (column now) s) ≡ parts) × All (Within now) (run_of (column now) s)
  rows_run old now parts s rows from to =
      let both : length (column now) ≡ length (column old) + length rows.more = ap length rows.behind ∙ length-append (column old) rows.more in
      let tail : drop s.from (column now) ≡ rows.more = rw (rows.behind, from) (drop_at (column old) rows.more (length (column old)) refl) in
      let part : run_of (column now) s ≡ rows.more = ap (take (s.to - s.from)) tail ∙ take_all (s.to - s.from) rows.more (omega arith) in
      ((omega arith, omega arith), ap (map (mean now)) part ∙ rows.means, rw part rows.within)

-- ---- the columns of rows

abbrev pub inner_column : Sides → List InnerRow
inner_column s = s.inner.items

abbrev pub op_column : Sides → List OpRow
op_column s = s.ops

abbrev pub item_column : Sides → List ItemRow
item_column s = s.items.items
