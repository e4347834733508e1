use Rattle.std.proofs.Common.{List, ℕ, Option, Err, ap}
use Rattle.std.proofs.lemmas.Result.{err_from_is_err_and}
use Rattle.type_names.specs.Onto.{onto}
use Rattle.type_names.specs.Tree.{numbers_above}
use Rattle.type_names.specs.declared.spell.SpellError.{SpellError}
use Rattle.type_names.proofs.Scopes.{cannot_stops, popped_more, popped_stops, scopes_of}
use Rattle.type_names.proofs.spell.write_scopes.Goals as goal

pub loop-a-preserved : goal.loop-a-preserved
loop-a-preserved c =
    let entries = c.args.entries.now in
    let whole : Option (List ℕ) = onto c.args.out.now.items (scopes_of entries (numbers_above entries c.args.k)) in
    popped_more entries c.loop-a.scopes.items c.pop.new.self.items c.in-Some.a c.entry.result c.loop-a.out.items c.write_scope.new.out.items whole c.in-Some.ensures.items c.entry.ensures.stands c.in_ok-write_scope.ensures c.loop-a.invariant

pub returns-in_err-write_scope : goal.returns-in_err-write_scope
returns-in_err-write_scope c =
    let entries = c.args.entries.now in
    let whole : Option (List ℕ) = onto c.args.out.now.items (scopes_of entries (numbers_above entries c.args.k)) in
    let p = err_from_is_err_and c.from_residual-in_err-write_scope.result c.from_residual-in_err-write_scope.ensures.1 in
    let e = c.in_err-write_scope.field-0.0 in
    rw (p.1, p.2) (popped_stops entries c.loop-a.scopes.items c.pop.new.self.items c.in-Some.a c.entry.result c.loop-a.out.items c.write_scope.new.out.items whole e c.in-Some.ensures.items c.entry.ensures.stands c.loop-a.invariant c.in_err-write_scope.ensures)

pub returns-in_err-push_scopes : goal.returns-in_err-push_scopes
returns-in_err-push_scopes c =
    let p = err_from_is_err_and c.from_residual.result c.from_residual.ensures.1 in
    let e : SpellError = c.in_err-push_scopes.field-0.0 in
    rw (p.1, p.2) (cannot_stops c.args.out.now.items _ e (λ is. c.in_err-push_scopes.ensures.deep (ap (λ (e : SpellError). Err e) is) c.args.out.now.items))
