use Rattle.std.proofs.Common.{◌≡◌, ◌-◌, ◌+◌, ◌*◌, ◌≤◌, []}
use Rattle.pvd_type.specs.View.{names_of}
use Rattle.pvd_type.specs.Siblings.{knows}
use Rattle.pvd_desc.specs.Types.{laid}
use Rattle.pvd_desc.specs.Reading.{fields_with, node_at}
use Rattle.pvd_desc.proofs.Chains.{behind}
use Rattle.pvd_desc.proofs.reading.+node.Given as goal

abbrev pub decreases-branch_at : goal.decreases-branch_at
decreases-branch_at f = 9 * f.room

abbrev pub decreases-element_of : goal.decreases-element_of
decreases-element_of f = 9 * f.room + 1

abbrev pub decreases-coded_element_at : goal.decreases-coded_element_at
decreases-coded_element_at f = 9 * f.room + 2

abbrev pub decreases-element_at : goal.decreases-element_at
decreases-element_at f = 9 * f.room + 3

abbrev pub decreases-parts_at : goal.decreases-parts_at
decreases-parts_at f = 9 * f.room + 4

abbrev pub decreases-coded_at : goal.decreases-coded_at
decreases-coded_at f = 9 * f.room + 5

abbrev pub decreases-node_at : goal.decreases-node_at
decreases-node_at f = 9 * f.room + 6

abbrev pub decreases-member_at : goal.decreases-member_at
decreases-member_at f = 9 * f.room + 7

abbrev pub decreases-fields_at : goal.decreases-fields_at
decreases-fields_at f = 9 * f.room + 8

abbrev pub invariant-fields_at-loop : goal.invariant-fields_at-loop
invariant-fields_at-loop l = record {
  few : l.seen ≤ 4096;
  known : knows l.siblings (names_of l.members.items);
  same :
      behind l.members.items (fields_with l.order (node_at l.order l.room) (names_of l.members.items) (l.count - l.counter) l.seen (laid l.base l.changed) l.rest)
      ≡ fields_with l.order (node_at l.order l.room) [] l.count l.fn.seen (laid l.base l.fn.changed) l.bytes;
}
