use Rattle.std.proofs.Common.{ℕ, ◌≡◌, ◌+◌, ◌-◌, ◌%◌, ◌∙◌, List, get_or, refl, length, ap, sym, arith}
use Rattle.std.proofs.lemmas.List.{drop_more, length-replicate, length-set}
use Rattle.std.proofs.lemmas.Nat.{mod_below}
use Rattle.accel_tables.proofs.Firsts.{row_from, row_more, row_none}
use Rattle.accel_tables.proofs.table.firsts_of.Goals as goal

pub loop-i-init : goal.loop-i-init
loop-i-init c = record {
  within = omega arith;
  long = ap length c.in_ok-firsts.ensures ∙ length-replicate c.args.buckets 0xffffffff;
  told = c.in_ok-firsts.ensures ∙ row_none c.args.buckets (length c.args.hashes.now) c.args.hashes.now (omega arith);
}

pub loop-i-preserved : goal.loop-i-preserved
loop-i-preserved c =
    let hashes : List ℕ = c.args.hashes.now in
    let i : ℕ = c.loop-i.i - 1 in
    let hash : ℕ = get_or hashes i 0 in
    let on : i + 1 ≡ c.loop-i.i = omega (arith, c.loop-i-test.true) in
    let so_far : c.loop-i.firsts.items ≡ row_from c.args.buckets (i + 1) hashes = c.loop-i.invariant.told ∙ ap (λ (k : ℕ). row_from c.args.buckets k hashes) (sym on) in
    record {
      within = omega (arith, c.loop-i.invariant.within);
      long = length-set c.loop-i.firsts.items (hash % c.args.buckets) i ∙ c.loop-i.invariant.long;
      told = row_more c.args.buckets i hash hashes c.loop-i.firsts.items _ (drop_more hashes i 0 (omega (arith, c.loop-i-test.true, c.loop-i.invariant.within))) (mod_below hash c.args.buckets c.requires.some) so_far refl;
    }
