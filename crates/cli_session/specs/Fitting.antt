-- Values fit their types, in what a client reads and tells.
use Rattle.std.specs.Prelude.{◌≡◌, ℕ, Bool, true, ◌&&◌, not, List, Option, None, Some, if◌then◌else◌}
use Rattle.std.specs.List.{list_all}
use Rattle.std.specs.Ordering.{nat_cmp}
use Rattle.std.specs.FinSet.{FinSet}
use Rattle.pvd_value.specs.Fits.{fits_of}
use Rattle.pvd_codec.specs.Written.{HoldsLeaves}
use Rattle.pva_wire.specs.declared.status.Status.{Status}
use Rattle.pva_messages.specs.Subcommands.{begins, carries}
use Rattle.pva_messages.specs.Fields.{Valued, PartData}
use Rattle.pva_messages.specs.Replies as replies
use Rattle.pva_messages.specs.Replies.{Reply}
use Rattle.cli_session.specs.Answers as answer
use Rattle.cli_session.specs.Answers.{Answer}
use Rattle.cli_session.specs.Steps.{Told, part}

abbrev pub part_fits : Option PartData → Bool
part_fits None = true
part_fits (Some p) = fits_of 16 p.value p.ty

abbrev pub update_fits : Option (PartData × FinSet nat_cmp) → Bool
update_fits None = true
update_fits (Some u) = fits_of 16 u.0.value u.0.ty

abbrev pub valued_fits : Valued → Bool
valued_fits None = true
valued_fits (Some v) = fits_of 16 v.1 v.0

-- the result of a call, where its reply brings one
abbrev pub result_fits : ℕ → Status → Valued → Bool
result_fits sub status v = if carries status && not (begins sub) then valued_fits v else true

abbrev pub reply_fits : Reply → Bool
reply_fits (replies.get req sub status ty p) = part_fits p
reply_fits (replies.put req sub status ty p) = part_fits p
reply_fits (replies.put_get req sub status put_ty get_ty p) = part_fits p
reply_fits (replies.monitor_update req sub u) = update_fits u
reply_fits (replies.rpc req sub status v) = result_fits sub status v
reply_fits other = true

abbrev pub answer_fits : Answer → Bool
answer_fits (answer.present p) = part_fits p
answer_fits (answer.value p) = part_fits p
answer_fits (answer.outcome v) = valued_fits v
answer_fits (answer.update u) = update_fits u
answer_fits other = true

abbrev pub told_fits : Told → Bool
told_fits (part p overrun) = fits_of 16 p.value p.ty
told_fits other = true

abbrev pub all_fit : List Told → Bool
all_fit told = list_all told_fits told

-- what is put fits its type, and its mask holds leaves alone
abbrev pub CanPut : PartData → Type 0
CanPut p = (fits_of 16 p.value p.ty ≡ true) × HoldsLeaves p.ty p.mask
