use Rattle.std.proofs.Common.{arith}
use Rattle.pvd_value.specs.Blank.{blank_of}
use Rattle.pvd_value.proofs.Blanks.{blank_fits}
use Rattle.group_view.specs.Types.{group_tree}
use Rattle.group_view.proofs.Triggering.{parts_read}
use Rattle.group_view.proofs.laws.parts_read_footprint.Goals as goal

pub returns : goal.returns
returns c = record {
  over = λ g rec. parts_read g rec;
  blank = λ g rec mask a b inside agree. parts_read g rec mask a b (blank_of (group_tree g)) inside agree (blank_fits 16 (group_tree g) (omega arith));
}
