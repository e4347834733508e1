-- Places behind drafts: they only grow, and 128 bits hold them.
use Rattle.std.proofs.Common.{◌≡◌, ℕ, ◌+◌, ◌*◌, ◌^◌, ◌<◌, ◌≤◌, ◌==◌, Bool, true, false, List, [], ◌∷◌, fold, if◌then◌else◌, arith, subst, sym}
use Rattle.unit_draft.specs.declared.unit.Draft.{Draft}
use Rattle.layout.specs.declared.starts.Starts.{Starts}
use Rattle.layout.specs.Pass.{AreBelow, HasParts, behind_draft}

-- below some number behind all drafts, and so before them
pub below_first : (drafts : List Draft) (at : Starts) (most : ℕ) → AreBelow most (fold behind_draft at drafts) → AreBelow most at
below_first [] at most h = h
below_first (d ∷ drafts) at most h =
    let next = below_first drafts (behind_draft at d) most h in
    record {
      info = omega (arith, next.info);
      tables = omega (arith, next.tables);
      line = omega (arith, next.line);
      ranges = omega (arith, next.ranges);
      rnglists = omega (arith, next.rnglists);
      loc = omega (arith, next.loc);
      loclists = omega (arith, next.loclists);
    }

pub same_below : (a b : Starts) (most : ℕ) → a ≡ b → AreBelow most b → AreBelow most a
same_below a b most e h = subst (AreBelow most) (sym e) h

-- a part at most
some_of : (b : Bool) (n most : ℕ) → n < most → (if b then n else 0) < most
some_of true n most lt = lt
some_of false n most lt = omega (arith, lt)

none_of : (b : Bool) (n most : ℕ) → n < most → (if b then 0 else n) < most
none_of true n most lt = omega (arith, lt)
none_of false n most lt = lt

-- one draft more, whose parts have lengths of 64 bits
pub below_next : (at new : Starts) (i : ℕ) (d : Draft) → HasParts d → new ≡ behind_draft at d → AreBelow (13 + i * 2 ^ 64) at → AreBelow (13 + (i + 1) * 2 ^ 64) new
below_next at new i d wide is h =
    same_below new (behind_draft at d) (13 + (i + 1) * 2 ^ 64) is (record {
      info = omega (arith, h.info, wide.info);
      tables = omega (arith, h.tables, wide.tables);
      line = omega (arith, h.line, wide.line);
      ranges = omega (arith, h.ranges, none_of (d.version == 5) _ _ wide.ranges);
      rnglists = omega (arith, h.rnglists, some_of (d.version == 5) _ _ wide.ranges);
      loc = omega (arith, h.loc, none_of (d.version == 5) _ _ wide.loc);
      loclists = omega (arith, h.loclists, some_of (d.version == 5) _ _ wide.loc);
    })

-- 128 bits hold those of all drafts
pub below_wide : (at : Starts) (i n : ℕ) → i ≤ n → n < 2 ^ 32 → AreBelow (13 + i * 2 ^ 64) at → AreBelow (2 ^ 127) at
below_wide at i n le few h = record {
  info = omega (arith, h.info, le, few);
  tables = omega (arith, h.tables, le, few);
  line = omega (arith, h.line, le, few);
  ranges = omega (arith, h.ranges, le, few);
  rnglists = omega (arith, h.rnglists, le, few);
  loc = omega (arith, h.loc, le, few);
  loclists = omega (arith, h.loclists, le, few);
}
