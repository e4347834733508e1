-- Reading goes onward inside the section.
use Rattle.std.proofs.Common.{ℕ, List, sym, subst, arith}
use Rattle.ds_base.specs.Spot.{Spot}
use Rattle.ds_base.proofs.Onward.{Onward}
use Rattle.line_read.specs.Bounds.{IsInside}

pub inside_kept : (bytes : List ℕ) (s t : Spot) → Onward s t → IsInside bytes s → IsInside bytes t
inside_kept bytes s t o h =
    let p = h.before_end in
    subst (IsInside bytes) (sym o.is) (record { whole = h.whole; part = h.part; before_end = omega (arith, o.fits, p); in_bytes = h.in_bytes })
