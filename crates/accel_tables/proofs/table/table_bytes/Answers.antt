use Rattle.std.proofs.Common.{◌≡◌, ◌∙◌, List, length, map, ap, arith}
use Rattle.std.proofs.lemmas.List.{length-map}
use Rattle.ds_base.specs.InOrder.{in_order}
use Rattle.accel_tables.specs.declared.rows.Row.{Row}
use Rattle.accel_tables.specs.Table.{bucket_count, hash_count, rank, row_of, table_of}
use Rattle.accel_tables.proofs.Lists.{size_is, table_is}
use Rattle.accel_tables.proofs.Order.{some_buckets}
use Rattle.accel_tables.proofs.table.table_bytes.Goals as goal

pub rows_in_order-requires : goal.rows_in_order-requires
rows_in_order-requires c =
    let rows : List Row = map row_of c.args.items.now in
    let told : c.in_ok-hash_count.field-0 ≡ hash_count rows = c.in_ok-hash_count.ensures ∙ ap hash_count (c.deref.ensures.value ∙ c.in_ok-rows.ensures) in
    some_buckets rows c.in_ok-hash_count.field-0 c.bucket_count-buckets.result told c.bucket_count-buckets.ensures.some (omega (arith, length-map c.args.items.now row_of, c.requires))

pub write_table-requires-clause-some : goal.write_table-requires-clause-some
write_table-requires-clause-some c =
    let rows : List Row = map row_of c.args.items.now in
    let told : c.in_ok-hash_count.field-0 ≡ hash_count rows = c.in_ok-hash_count.ensures ∙ ap hash_count (c.deref.ensures.value ∙ c.in_ok-rows.ensures) in
    some_buckets rows c.in_ok-hash_count.field-0 c.bucket_count-buckets.result told c.bucket_count-buckets.ensures.some (omega (arith, length-map c.args.items.now row_of, c.requires))

pub returns-then-size-ge-SECTION_LIMIT : goal.returns-then-size-ge-SECTION_LIMIT
returns-then-size-ge-SECTION_LIMIT c =
    let rows : List Row = map row_of c.args.items.now in
    let told : c.in_ok-hash_count.field-0 ≡ hash_count rows = c.in_ok-hash_count.ensures ∙ ap hash_count (c.deref.ensures.value ∙ c.in_ok-rows.ensures) in
    let count : c.bucket_count-buckets.result ≡ bucket_count (hash_count rows) = c.bucket_count-buckets.ensures.is ∙ ap bucket_count told in
    let order : c.deref-3.result.now ≡ in_order (rank c.bucket_count-buckets.result) rows =
    c.deref-3.ensures.value ∙ c.in_ok-sorted.ensures ∙ ap (λ (rs : List Row). in_order (rank c.bucket_count-buckets.result) rs) (c.deref-2.ensures.value ∙ c.in_ok-rows.ensures) in
    let size : c.table_size-size.result ≡ length (table_of rows) =
    c.table_size-size.ensures ∙ size_is rows c.deref-3.result.now c.bucket_count-buckets.result _ _ _ count order c.in_ok-lists.ensures in
    (size, omega (arith, size, c.if-size-ge-SECTION_LIMIT.true))

pub returns : goal.returns
returns c =
    let rows : List Row = map row_of c.args.items.now in
    let told : c.in_ok-hash_count.field-0 ≡ hash_count rows = c.in_ok-hash_count.ensures ∙ ap hash_count (c.deref.ensures.value ∙ c.in_ok-rows.ensures) in
    let count : c.bucket_count-buckets.result ≡ bucket_count (hash_count rows) = c.bucket_count-buckets.ensures.is ∙ ap bucket_count told in
    let order : c.deref-3.result.now ≡ in_order (rank c.bucket_count-buckets.result) rows =
    c.deref-3.ensures.value ∙ c.in_ok-sorted.ensures ∙ ap (λ (rs : List Row). in_order (rank c.bucket_count-buckets.result) rs) (c.deref-2.ensures.value ∙ c.in_ok-rows.ensures) in
    let size : c.table_size-size.result ≡ length (table_of rows) =
    c.table_size-size.ensures ∙ size_is rows c.deref-3.result.now c.bucket_count-buckets.result _ _ _ count order c.in_ok-lists.ensures in
    (c.in_ok-write_table.ensures ∙ table_is rows c.deref-3.result.now c.bucket_count-buckets.result _ _ _ count order c.in_ok-lists.ensures, omega (arith, size, c.if-size-ge-SECTION_LIMIT.false))
