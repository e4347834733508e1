use Rattle.std.proofs.Common.{ℕ, ◌≡◌, ◌+◌, ◌++◌, ◌∙◌, List, length, ap}
use Rattle.std.specs.List.{flat_map}
use Rattle.accel_tables.specs.Table.{data_place, header_bytes, word}
use Rattle.accel_tables.proofs.Lists.{put_five}
use Rattle.accel_tables.proofs.table.put_table.Goals as goal

pub returns : goal.returns
returns c =
    let firsts : List ℕ = c.args.firsts.now in
    let hashes : List ℕ = c.args.hashes.now in
    let starts : List ℕ = c.args.starts.now in
    let places : c.put_places.new.table ≡ c.put_words-2.new.table ++ flat_map (λ start. word (data_place (length firsts) (length hashes) + start)) starts =
    c.in_ok-put_places.ensures ∙ ap (λ (place : ℕ). c.put_words-2.new.table ++ flat_map (λ start. word (place + start)) starts) c.data_start.ensures in
    put_five c.args.table.now c.put_header.new.table c.put_words.new.table c.put_words-2.new.table c.put_places.new.table c.extend.new.self
    (header_bytes (length firsts) (length hashes)) (flat_map word firsts) (flat_map word hashes) (flat_map (λ start. word (data_place (length firsts) (length hashes) + start)) starts) c.args.lists.now
    c.in_ok-put_header.ensures c.in_ok-put_words.ensures c.in_ok-put_words-2.ensures places c.in_ok-extend.ensures.ok
