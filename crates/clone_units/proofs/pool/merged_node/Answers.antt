use Rattle.std.proofs.Common.{map}
use Rattle.unit_source.specs.Given.{attr_given}
use Rattle.clone_units.specs.Sourced.{source_seen}
use Rattle.clone_units.proofs.Pooled.{has_names, has_numbers, has_row, node_is, pooled_sourced}
use Rattle.clone_units.proofs.pool.merged_node.Goals as goal

pub source_of-source-requires : goal.source_of-source-requires
source_of-source-requires c = pooled_sourced c.args.seen.now c.args.images.now c.args.origin c.requires.pooled

pub row_of-row-requires : goal.row_of-row-requires
row_of-row-requires c = has_row c.args.seen.now c.args.images.now c.args.origin (source_seen c.source_of-source.result) c.requires.pooled c.source_of-source.ensures

pub numbers_at-requires : goal.numbers_at-requires
numbers_at-requires c =
    has_numbers c.args.seen.now c.args.images.now c.args.origin (source_seen c.source_of-source.result) c.requires.pooled c.source_of-source.ensures c.args.numbers.now c.requires.numbers.0 c.requires.numbers.1 c.unit-unit.result c.unit-unit.ensures

pub add_attrs-requires : goal.add_attrs-requires
add_attrs-requires c = record { among = has_names c.args.seen.now c.args.images.now c.args.origin (source_seen c.source_of-source.result) c.requires.pooled c.source_of-source.ensures c.row_of-row.result.now c.row_of-row.ensures }

pub returns : goal.returns
returns c files are =
    node_is c.args.seen.now c.args.images.now c.args.origin (source_seen c.source_of-source.result) c.requires.pooled c.source_of-source.ensures c.args.numbers.now files are c.unit-unit.result c.unit-unit.ensures
    c.row_of-row.result.now c.numbers_at.result.now c.tag.result (map attr_given c.add_attrs.new.attrs.items) c.row_of-row.ensures c.numbers_at.ensures c.tag.ensures (rw c.clear.ensures.items at c.in_ok-add_attrs.ensures)
