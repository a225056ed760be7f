use Rattle.std.proofs.Common.{arith}
use Rattle.nt_types.proofs.Rows.{not_two}
use Rattle.nt_types.proofs.members.names_choice.Goals as goal

pub returns-in_default : goal.returns-in_default
returns-in_default c = not_two c.args.id.now c.args.members.now (λ e. omega arith)

pub returns-in_default-2 : goal.returns-in_default-2
returns-in_default-2 c = not_two c.args.id.now c.args.members.now (λ e. omega arith)
