use Rattle.group_view.proofs.Ready.{parts_ready}
use Rattle.group_view.proofs.laws.ready_groups_are_ready_for_parts.Goals as goal

pub returns : goal.returns
returns c = λ mask states g ready. parts_ready mask states g ready
