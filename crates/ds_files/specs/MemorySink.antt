-- Text that is kept in memory, and which pieces are refused.
use Rattle.std.specs.Prelude.{ℕ, ◌+◌, Bool, true, false, not, ◌&&◌, nat_eq, nat_le, List, [], ◌++◌, length}
use Rattle.std.specs.List.{list_any}
use Rattle.ds_files.specs.Outside.{one_more}

-- the text, how many bytes there is room for, the failed calls, all calls of put, and the numbers of those that fail
pub record StoredText : Type 0 where
  pub text : List ℕ
  pub room : ℕ
  pub faults : ℕ
  pub calls : ℕ
  pub failing : List ℕ

-- no text, and no call yet
abbrev pub no_text : ℕ → List ℕ → StoredText
no_text room failing = record { text = []; room = room; faults = 0; calls = 0; failing = failing }

-- the next call of put takes the piece
abbrev pub takes : StoredText → List ℕ → Bool
takes s bytes = not (list_any (λ n. nat_eq n (one_more s.calls)) s.failing) && nat_le (length s.text + length bytes) s.room

-- what stands after a call of put that took the piece, or did not
abbrev pub after_put : Bool → List ℕ → StoredText → StoredText
after_put true bytes s = record s { text = s.text ++ bytes; calls = one_more s.calls }
after_put false bytes s = record s { faults = one_more s.faults; calls = one_more s.calls }
