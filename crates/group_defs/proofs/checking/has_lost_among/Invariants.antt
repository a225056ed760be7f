use Rattle.std.proofs.Common.{◌≡◌, drop}
use Rattle.std.specs.List.{list_any}
use Rattle.group_defs.specs.Named.{names_seen}
use Rattle.group_defs.specs.Checking.{is_lost}
use Rattle.group_defs.proofs.checking.has_lost_among.Given as goal

abbrev pub invariant-loop-member : goal.invariant-loop-member
invariant-loop-member l =
    list_any (λ m. is_lost (names_seen l.names) m.text.trigger) (drop l.member-index l.members) ≡ list_any (λ m. is_lost (names_seen l.names) m.text.trigger) l.members
