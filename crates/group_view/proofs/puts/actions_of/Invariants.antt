use Rattle.std.proofs.Common.{◌≡◌, List, Ok, drop}
use Rattle.std.specs.List.{AllByRecursion}
use Rattle.pvd_value.specs.View.{view}
use Rattle.rec_kinds.specs.Configs.{Config}
use Rattle.group_view.specs.Groups.{IsLinkOf}
use Rattle.group_view.specs.Puts.{also, done_by_all, IsWritten, MayBeDoneBy}
use Rattle.group_view.proofs.puts.actions_of.Given as goal

abbrev pub invariant-loop-writer : goal.invariant-loop-writer
invariant-loop-writer l = record {
  same : also (Ok l.actions.items) (done_by_all l.ty (view l.value) l.mask (drop l.writer-index l.writers)) ≡ done_by_all l.ty (view l.value) l.mask l.writers;
  leaves : AllByRecursion (λ w. IsWritten l.ty w.link w.writing) (drop l.writer-index l.writers);
  may : (configs : List Config) → AllByRecursion (λ w. IsLinkOf configs w.link) l.writers → AllByRecursion (MayBeDoneBy configs) l.actions.items;
}
