use Rattle.std.specs.Prelude.{◌≡◌, take}
use Rattle.group_view.specs.Seen.{configs_seen}
use Rattle.desk_api.proofs.records.Records.configs.Given as goal

-- the configurations so far are those of the records so far
abbrev pub invariant-loop-rec : goal.invariant-loop-rec
invariant-loop-rec l = configs_seen l.configs.items ≡ take l.rec l.self.configs
