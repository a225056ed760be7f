-- The names that code keeps as references.
use Rattle.std.specs.Prelude.{ℕ, List, map}
use Rattle.std.specs.Borrow.{Bor}
use Rattle.indexmap.specs.IndexSet.{IndexSet}
use Rattle.group_defs.specs.Triggers as spec
use Rattle.group_defs.specs.declared.triggers.Trigger.{Trigger}
use Rattle.group_defs.specs.declared.triggers.Trigger.TheVariants.{All, Those}

abbrev pub trigger_seen : Trigger → spec.Trigger
trigger_seen All = spec.all
trigger_seen (Those names) = spec.those (map (λ s. s.now) names.items)

abbrev pub names_seen : {S : Type 0} → IndexSet (Bor (List ℕ)) S → List (List ℕ)
names_seen names = map (λ s. s.now) names.keys
