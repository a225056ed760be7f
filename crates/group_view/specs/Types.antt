-- The type of a group.
use Rattle.pvd_type.specs.Tree.{Tree, node, struct, Fields, no_fields, field}
use Rattle.group_view.specs.Groups.{GroupData}
use Rattle.group_view.specs.Pieces.{piece_tree}
use Rattle.group_view.specs.Sources.{Source}
use Rattle.group_view.specs.Slots.{Slot, shows, level, Slots, no_slots, slot, structure_of}

abbrev pub source_tree : Source → Tree
source_tree s = piece_tree s.piece s.link.config

abbrev mutual
  pub slot_tree : Slot → Tree
  slot_tree (shows s) = source_tree s
  slot_tree (level id ss) = node struct id (slot_fields ss)

  pub slot_fields : Slots → Fields
  slot_fields no_slots = no_fields
  slot_fields (slot name s ss) = field name (slot_tree s) (slot_fields ss)

unfoldable pub group_tree : GroupData → Tree
group_tree g = slot_tree (structure_of g)
