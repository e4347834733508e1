use Rattle.std.proofs.Common.{ℕ, ◌≡◌, ◌++◌, ◌∙◌, List, [], ◌∷◌, length, map, drop, ap, refl, arith}
use Rattle.std.specs.List.{flat_map}
use Rattle.std.proofs.lemmas.List.{drop_all}
use Rattle.accel_tables.specs.declared.rows.Row.{Row}
use Rattle.accel_tables.specs.Table.{groups, key_of, list_bytes, starts_from}
use Rattle.accel_tables.proofs.Lists.{hash_put, key_first, more_of, none_left, start_put}
use Rattle.accel_tables.proofs.table.lists_of.Goals as goal

pub loop-i-preserved : goal.loop-i-preserved
loop-i-preserved c =
    let d : Row = record { hash = 0; text = 0; entry = 0 } in
    let list : List Row = c.hash_run-list.result.now in
    record {
      within = omega (arith, c.hash_run-list.ensures.within);
      hashes_are = hash_put c.loop-i.hashes.items _ list _ _ _ c.hash_run-list.ensures.group
          (c.in_ok-push.ensures.items ∙ ap (λ (h : ℕ). c.loop-i.hashes.items ++ h ∷ []) (key_first (λ (r : Row). r.hash) list d c.hash_run-list.ensures.some)) c.loop-i.invariant.hashes_are;
      starts_are = start_put c.loop-i.starts.items _ c.loop-i.bytes _ list _ _ _ c.hash_run-list.ensures.group
          (c.in_ok-push-2.ensures.items ∙ ap (λ (n : ℕ). c.loop-i.starts.items ++ n ∷ []) c.len.ensures) c.in_ok-put_list.ensures c.loop-i.invariant.starts_are;
      data_is = more_of list_bytes c.loop-i.bytes _ list _ _ _ c.hash_run-list.ensures.group c.in_ok-put_list.ensures c.loop-i.invariant.data_is;
    }

pub returns : goal.returns
returns c =
    let none : drop c.loop-i.i c.args.rows.now ≡ [] = drop_all c.loop-i.i c.args.rows.now (omega (arith, c.loop-i-test.false)) in
    record {
      hashes_are = none_left (λ (rs : List Row). map (key_of (λ (r : Row). r.hash)) (groups (λ (r : Row). r.hash) rs)) _ c.loop-i.hashes.items _ refl none c.loop-i.invariant.hashes_are;
      starts_are = none_left (λ (rs : List Row). starts_from (length c.loop-i.bytes) (map list_bytes (groups (λ (r : Row). r.hash) rs))) _ c.loop-i.starts.items _ refl none c.loop-i.invariant.starts_are;
      data_is = none_left (λ (rs : List Row). flat_map list_bytes (groups (λ (r : Row). r.hash) rs)) _ c.loop-i.bytes _ refl none c.loop-i.invariant.data_is;
    }
