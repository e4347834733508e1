use Rattle.std.proofs.Common.{rules, ◌≡◌, ◌<◌, ◌++◌, length, take, IfSome, List, ℕ, subst}
use Rattle.std.specs.Option.{option_map}
use Rattle.ds_files.proofs.Reading.{whole_read}
use Rattle.ds_files.proofs.host_files.read_sized.Goals as goal

pub returns-clause-whole : goal.returns-clause-whole
returns-clause-whole g c =
    let few : length c.read_to_end.new.buf.items < c.take-first.result.limit = search (rules) in
    let bytes : IfSome (option_map (take c.take-first.result.limit) (g.R.Read.remaining c.args.reader)) (λ (xs : List ℕ). c.read_to_end.new.buf.items ≡ c.in_ok-bytes.bytes.items ++ xs) =
    subst (λ reader. IfSome (option_map (take c.take-first.result.limit) (g.R.Read.remaining reader)) (λ (xs : List ℕ). c.read_to_end.new.buf.items ≡ c.in_ok-bytes.bytes.items ++ xs))
    c.take-first.ensures.inner c.in_default.ensures.bytes in
    rw c.from_vec.ensures (whole_read (g.R.Read.remaining c.args.reader) c.take-first.result.limit c.in_ok-bytes.bytes.items c.read_to_end.new.buf.items c.in_ok-bytes.ensures few bytes)
