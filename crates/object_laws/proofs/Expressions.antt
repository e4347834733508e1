-- Expressions of an object: their operations are given, and as long as they are told to be.
use Rattle.std.proofs.Common.{◌≡◌, ℕ, List, None, Ok, subst}
use Rattle.std.specs.List.{All}
use Rattle.ds_base.proofs.Passing.{bind_ok, ok_is}
use Rattle.dwarf_types.specs.declared.expr.Op.{Op}
use Rattle.dwarf_types.specs.Expressions.{expression_len}
use Rattle.dwarf_types.specs.LinkedExpressions.{parts_of}
use Rattle.dwarf_types.specs.Spelled.{AreBytes}
use Rattle.addr_map.specs.Sound.{IsSound as IsSoundMap}
use Rattle.expr_walk.specs.Length.{ops_len}
use Rattle.expr_walk.specs.Reading.{walk_of}
use Rattle.expr_walk.proofs.SpellingLaws.{expression_spelled}
use Rattle.expr_resolve.specs.Context.{Context, names_of}
use Rattle.expr_resolve.specs.Expressions.{branches_tried, each_from, expression_of, indices_tried, op_meant, op_size}
use Rattle.linked_laws.specs.Spellable.{IsSpellableOp}
use Rattle.object_laws.proofs.ExpressionLengths.{IsMeantOp, op_given, ops_long}
use Rattle.object_laws.proofs.ExpressionMeant.{ops_found, ops_meant}

expressions_are_meant : (s : Context) (bytes : List ℕ) (first : ℕ) (ops : List Op) → AreBytes bytes → AreBytes s.sections.addr → IsSoundMap s.map → expression_of s bytes first ≡ Ok ops → All IsMeantOp ops
unfolding expression_of
expressions_are_meant s bytes first ops are table sound e =
    let read = bind_ok (walk_of bytes s.part first s.version) _ ops e in
    let meant = bind_ok (each_from op_size (op_meant s) first read.0) _ ops read.2 in
    let indices = bind_ok (indices_tried (names_of s) first read.0) _ ops meant.2 in
    let tried = bind_ok (branches_tried (names_of s) first read.0) _ ops indices.2 in
    let each = expression_spelled bytes s.part first s.version read.0 are read.1 in
    subst (All IsMeantOp) (ok_is meant.0 ops tried.2) (ops_meant s sound table first read.0 meant.0 each.each (ops_found s first read.0 indices.0 indices.1) meant.1)

pub expressions_are_given : (s : Context) (bytes : List ℕ) (first : ℕ) (ops : List Op) → AreBytes bytes → AreBytes s.sections.addr → IsSoundMap s.map → expression_of s bytes first ≡ Ok ops → All IsSpellableOp ops
expressions_are_given s bytes first ops are table sound e k d lt = op_given _ (expressions_are_meant s bytes first ops are table sound e k d lt)

pub lengths_agree : (s : Context) (bytes : List ℕ) (first : ℕ) (ops : List Op) → AreBytes bytes → AreBytes s.sections.addr → IsSoundMap s.map → expression_of s bytes first ≡ Ok ops → expression_len (parts_of (λ k. None) ops) ≡ ops_len ops
lengths_agree s bytes first ops are table sound e = ops_long (λ k. None) ops (expressions_are_meant s bytes first ops are table sound e)
