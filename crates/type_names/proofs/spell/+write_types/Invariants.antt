use Rattle.std.proofs.Common.{◌+◌, ◌*◌}
use Rattle.type_names.specs.Onto.{onto, spelled_in}
use Rattle.type_names.specs.Spell.{parameter_in, parameters_in}
use Rattle.type_names.proofs.Reading.{IsReading, left_of}
use Rattle.type_names.proofs.spell.+write_types.Given as goal

abbrev pub decreases-write_entry : goal.decreases-write_entry
decreases-write_entry l = 9 * l.levels + 8

abbrev pub decreases-write_made : goal.decreases-write_made
decreases-write_made l = 9 * l.levels + 2

abbrev pub decreases-write_member_pointer : goal.decreases-write_member_pointer
decreases-write_member_pointer l = 9 * l.levels + 3

abbrev pub decreases-write_array : goal.decreases-write_array
decreases-write_array l = 9 * l.levels + 3

abbrev pub decreases-write_type_after : goal.decreases-write_type_after
decreases-write_type_after l = 9 * l.levels + 2

abbrev pub decreases-write_target : goal.decreases-write_target
decreases-write_target l = 9 * l.levels + 1

abbrev pub decreases-write_type : goal.decreases-write_type
decreases-write_type l = 9 * l.levels

abbrev pub decreases-write_subroutine : goal.decreases-write_subroutine
decreases-write_subroutine l = 9 * l.levels + 6

abbrev pub decreases-write_parameters : goal.decreases-write_parameters
decreases-write_parameters l = 9 * l.levels + 5

abbrev pub decreases-write_parameter : goal.decreases-write_parameter
decreases-write_parameter l = 9 * l.levels + 4

abbrev pub decreases-write_listed : goal.decreases-write_listed
decreases-write_listed l = 9 * l.levels + 3

abbrev pub invariant-write_parameters-loop-child : goal.invariant-write_parameters-loop-child
invariant-write_parameters-loop-child l = IsReading (parameter_in (spelled_in l.types l.levels)) l.types.entries.now l.k l.child l.out.items (onto l.fn.out.items (parameters_in (spelled_in l.types l.levels) l.types.entries.now l.k))

abbrev pub decreases-write_parameters-loop-child : goal.decreases-write_parameters-loop-child
decreases-write_parameters-loop-child l = left_of l.types.entries.now l.child
