use Rattle.std.proofs.Common.{sym}
use Rattle.odr_names.proofs.Hashes.{hash_more, hash_none}
use Rattle.odr_names.proofs.hash.hash_private.Goals as goal

pub returns-in-Some : goal.returns-in-Some
returns-in-Some c = rw (c.in-Some.is, c.hash_each.ensures, c.to_le_bytes-in-Some.ensures, c.hash_each-hash.ensures, c.to_le_bytes.ensures) (sym (hash_more _ _ _))

pub returns-in-None : goal.returns-in-None
returns-in-None c = rw c.in-None.is (sym (hash_none c.args.hash))
