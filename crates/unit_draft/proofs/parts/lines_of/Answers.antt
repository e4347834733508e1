use Rattle.std.proofs.Common.{◌≡◌, ◌+◌, ◌++◌, ◌∙◌, [], ℕ, List, fold, length, subst, ap, arith}
use Rattle.ds_base.specs.Texts.{with_text}
use Rattle.text_pool.proofs.FirstUses.{once-append}
use Rattle.dwarf_types.specs.Layout.{line_texts_of_unit}
use Rattle.dwarf_types.specs.LineTable.{lines_bytes}
use Rattle.line_write.specs.Named.{TellsTexts}
use Rattle.patches.specs.Filling.{Filling, filled}
use Rattle.patches.specs.Numbers.{settled}
use Rattle.unit_draft.specs.Drafted.{lines_len}
use Rattle.unit_draft.proofs.parts.lines_of.Goals as goal

-- as long as what stands behind no bytes
behind_none : (bytes : List ℕ) (n m : ℕ) → bytes ≡ [] → m ≡ length bytes + n → m ≡ n
behind_none bytes n m none is = omega (arith, is, ap length none)

pub returns : goal.returns
returns g c =
    let unit = g.S.UnitSource.unit c.args.unit.now in
    let table = c.in_ok-append_lines_of.ensures.table in
    record {
      table = λ f text tells.
          let g : Filling = settled f 0 [] in
          c.settle.ensures.is f ∙ table.bytes g text (subst (λ (names : List (List ℕ)). TellsTexts names g text) c.into_names.ensures tells) ∙ ap (λ (front : List ℕ). front ++ lines_bytes text unit) (c.new-table.ensures g);
      size = λ f.
          let g : Filling = settled f 0 [] in
          ap length (c.settle.ensures.is f) ∙ behind_none (filled c.new-table.result g) (lines_len unit) (length (filled c.append_lines_of.new.out g)) (c.new-table.ensures g) (c.in_ok-append_lines_of.ensures.size g);
      settled = c.settle.ensures.none;
      names = c.into_names.ensures ∙ table.names ∙ ap (λ (names : List (List ℕ)). fold with_text names (line_texts_of_unit unit)) c.new-naming.ensures ∙ once-append [] (line_texts_of_unit unit);
    }
