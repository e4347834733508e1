use Rattle.std.proofs.Common.{true, [], ◌∷◌, ◌++◌, get_or, length, Result, Ok, refl, sym, ap, ◌∙◌, arith, pos}
use Rattle.std.specs.Option.{option_to_list}
use Rattle.std.proofs.lemmas.Result.{err_from_is_err_and}
use Rattle.ds_base.specs.declared.fault.Fault.{Fault}
use Rattle.ds_base.specs.Spot.{Spot}
use Rattle.ds_base.specs.Reading.{◌>>=◌}
use Rattle.ds_base.proofs.Onward.{small_kept}
use Rattle.dwarf_types.specs.declared.abbrev.Field.{Field}
use Rattle.dwarf_types.specs.SectionBytes.{bytes_in}
use Rattle.index_tables.specs.declared.bases.Bases.{Bases}
use Rattle.index_tables.specs.Bases.{bases_in}
use Rattle.unit_tree.specs.Attribute.{Described}
use Rattle.unit_tree.proofs.AttrLoop.{attr_fails, attr_more, attrs_end, attrs_long, one_put}
use Rattle.unit_tree.proofs.Onward.{attr_onward}
use Rattle.unit_tree.proofs.RootBases.{alike_bases, alike_long, alike_push, same_next}
use Rattle.unit_tree.proofs.bases.read_into.Goals as goal

abbrev bases_of_read : Result (Described × Spot) Fault → Result Bases Fault
bases_of_read attrs = attrs >>= λ read. Ok (bases_in read.0.0)

abbrev some : Field
some = record { name = 0; form = 0; fixed = pos 0 }

pub loop-field-init : goal.loop-field-init
loop-field-init c =
    record { small = c.requires.small; entries = rw c.requires.nothing refl; count = rw c.requires.nothing refl; attrs = []; references = []; alike = rw c.requires.nothing tt; read = refl }

pub returns-in_err-end : goal.returns-in_err-end
returns-in_err-end c =
    let p = err_from_is_err_and c.from_residual.result c.from_residual.ensures.1 in
    let i = c.loop-field.invariant in
    let sections = bytes_in c.args.sections.now in
    let same = same_next sections c.args.context true _ c.loop-field.built.attrs i.attrs c.loop-field.cursor i.alike in
    let fails = attr_fails sections c.args.context true c.args.fields.now c.loop-field.field-index some (i.attrs, i.references) c.loop-field.cursor _ _ c.loop-field-test.true (sym same ∙ c.in_err-end.ensures.read) i.read in
    rw (p.1, p.2) (ap bases_of_read fails)

pub loop-field-preserved : goal.loop-field-preserved
loop-field-preserved c =
    let i = c.loop-field.invariant in
    let sections = bytes_in c.args.sections.now in
    let same = same_next sections c.args.context true _ c.loop-field.built.attrs i.attrs c.loop-field.cursor i.alike in
    record {
      small = small_kept _ _ (attr_onward _ _ _ _ _ c.loop-field.cursor _ c.in_ok-end.ensures.read) i.small;
      entries = rw c.in_ok-push.ensures.ok i.entries;
      count = rw c.in_ok-push.ensures.ok (one_put _ _ _ _ i.count refl);
      attrs = i.attrs ++ _ ∷ [];
      references = i.references ++ option_to_list c.in_ok-end.field-0-2;
      alike = rw c.in_ok-push.ensures.ok (alike_push c.loop-field.built.attrs i.attrs _ _ i.alike (record { name = refl; base = λ none. c.without_text.ensures none (get_or c.args.fields.now c.loop-field.field-index some).form }));
      read = attr_more sections c.args.context true c.args.fields.now c.loop-field.field-index some (i.attrs, i.references) c.loop-field.cursor c.read_attr.new.cursor _ c.in_ok-end.field-0-2 _ c.loop-field-test.true
          (sym same ∙ c.in_ok-end.ensures.read) i.read;
    }

pub push-requires-clause-few : goal.push-requires-clause-few
push-requires-clause-few c = let count = c.loop-field.invariant.count in omega (arith, c.requires.few, count)

pub push-requires-clause-room : goal.push-requires-clause-room
push-requires-clause-room c = let none = ap length c.loop-field.invariant.entries in omega (arith, none)

pub bases_so_far-requires-clause-few : goal.bases_so_far-requires-clause-few
bases_so_far-requires-clause-few c =
    let i = c.loop-field.invariant in
    let sections = bytes_in c.args.sections.now in
    let all = attrs_end sections c.args.context true c.args.fields.now c.loop-field.field-index (i.attrs, i.references) c.loop-field.cursor _ (omega (arith, c.loop-field-test.false)) i.read in
    omega (arith, c.requires.few, alike_long c.loop-field.built.attrs i.attrs i.alike, attrs_long sections c.args.context true c.args.fields.now ([], []) _ _ all)

pub returns : goal.returns
returns c =
    let i = c.loop-field.invariant in
    let all = attrs_end (bytes_in c.args.sections.now) c.args.context true c.args.fields.now c.loop-field.field-index (i.attrs, i.references) c.loop-field.cursor _ (omega (arith, c.loop-field-test.false)) i.read in
    ap bases_of_read all ∙ ap (λ (b : Bases). Ok b) (sym (c.in_ok-bases_so_far.ensures ∙ alike_bases c.loop-field.built.attrs i.attrs i.alike))
