use Rattle.std.proofs.Common.{◌≡◌, ◌++◌, ℕ, List}
use Rattle.byteorder.specs.Endian.{little_bytes}
use Rattle.accel_tables.specs.Table.{word}
use Rattle.accel_tables.proofs.Lists.{put_after}
use Rattle.accel_tables.proofs.table.put_header.Goals as goal

pub returns : goal.returns
returns c =
    let t : List ℕ = c.args.table.now in
    let e1 : c.put_u16.new.bytes ≡ t ++ (word 0x48415348 ++ little_bytes 2 1) = put_after t c.put_u32.new.bytes c.put_u16.new.bytes (word 0x48415348) (little_bytes 2 1) c.in_ok-put_u32.ensures c.in_ok-put_u16.ensures in
    let e2 : c.put_u16-2.new.bytes ≡ t ++ ((word 0x48415348 ++ little_bytes 2 1) ++ little_bytes 2 0) = put_after t c.put_u16.new.bytes c.put_u16-2.new.bytes ((word 0x48415348 ++ little_bytes 2 1)) (little_bytes 2 0) e1 c.in_ok-put_u16-2.ensures in
    let e3 : c.put_word.new.bytes ≡ t ++ (((word 0x48415348 ++ little_bytes 2 1) ++ little_bytes 2 0) ++ word c.args.buckets) = put_after t c.put_u16-2.new.bytes c.put_word.new.bytes (((word 0x48415348 ++ little_bytes 2 1) ++ little_bytes 2 0)) (word c.args.buckets) e2 c.in_ok-put_word.ensures in
    let e4 : c.put_word-2.new.bytes ≡ t ++ ((((word 0x48415348 ++ little_bytes 2 1) ++ little_bytes 2 0) ++ word c.args.buckets) ++ word c.args.hashes) = put_after t c.put_word.new.bytes c.put_word-2.new.bytes ((((word 0x48415348 ++ little_bytes 2 1) ++ little_bytes 2 0) ++ word c.args.buckets)) (word c.args.hashes) e3 c.in_ok-put_word-2.ensures in
    let e5 : c.put_u32-2.new.bytes ≡ t ++ (((((word 0x48415348 ++ little_bytes 2 1) ++ little_bytes 2 0) ++ word c.args.buckets) ++ word c.args.hashes) ++ word 12) = put_after t c.put_word-2.new.bytes c.put_u32-2.new.bytes (((((word 0x48415348 ++ little_bytes 2 1) ++ little_bytes 2 0) ++ word c.args.buckets) ++ word c.args.hashes)) (word 12) e4 c.in_ok-put_u32-2.ensures in
    let e6 : c.put_u32-3.new.bytes ≡ t ++ ((((((word 0x48415348 ++ little_bytes 2 1) ++ little_bytes 2 0) ++ word c.args.buckets) ++ word c.args.hashes) ++ word 12) ++ word 0) = put_after t c.put_u32-2.new.bytes c.put_u32-3.new.bytes ((((((word 0x48415348 ++ little_bytes 2 1) ++ little_bytes 2 0) ++ word c.args.buckets) ++ word c.args.hashes) ++ word 12)) (word 0) e5 c.in_ok-put_u32-3.ensures in
    let e7 : c.put_u32-4.new.bytes ≡ t ++ (((((((word 0x48415348 ++ little_bytes 2 1) ++ little_bytes 2 0) ++ word c.args.buckets) ++ word c.args.hashes) ++ word 12) ++ word 0) ++ word 1) = put_after t c.put_u32-3.new.bytes c.put_u32-4.new.bytes (((((((word 0x48415348 ++ little_bytes 2 1) ++ little_bytes 2 0) ++ word c.args.buckets) ++ word c.args.hashes) ++ word 12) ++ word 0)) (word 1) e6 c.in_ok-put_u32-4.ensures in
    let e8 : c.put_u16-3.new.bytes ≡ t ++ ((((((((word 0x48415348 ++ little_bytes 2 1) ++ little_bytes 2 0) ++ word c.args.buckets) ++ word c.args.hashes) ++ word 12) ++ word 0) ++ word 1) ++ little_bytes 2 1) = put_after t c.put_u32-4.new.bytes c.put_u16-3.new.bytes ((((((((word 0x48415348 ++ little_bytes 2 1) ++ little_bytes 2 0) ++ word c.args.buckets) ++ word c.args.hashes) ++ word 12) ++ word 0) ++ word 1)) (little_bytes 2 1) e7 c.in_ok-put_u16-3.ensures in
    let e9 : c.put_u16-4.new.bytes ≡ t ++ (((((((((word 0x48415348 ++ little_bytes 2 1) ++ little_bytes 2 0) ++ word c.args.buckets) ++ word c.args.hashes) ++ word 12) ++ word 0) ++ word 1) ++ little_bytes 2 1) ++ little_bytes 2 6) = put_after t c.put_u16-3.new.bytes c.put_u16-4.new.bytes (((((((((word 0x48415348 ++ little_bytes 2 1) ++ little_bytes 2 0) ++ word c.args.buckets) ++ word c.args.hashes) ++ word 12) ++ word 0) ++ word 1) ++ little_bytes 2 1)) (little_bytes 2 6) e8 c.in_ok-put_u16-4.ensures in
    e9
