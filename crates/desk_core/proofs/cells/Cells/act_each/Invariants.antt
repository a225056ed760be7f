use Rattle.std.proofs.Common.{◌≡◌, ◌≤◌, ◌*◌, map, option_map, take}
use Rattle.std.specs.List.{sum_by}
use Rattle.std.specs.Prelude.{◌^◌}
use Rattle.journal_core.specs.Legality.{AreValid}
use Rattle.journal_core.specs.Weights.{action_weight}
use Rattle.desk_core.specs.Effects.{AreDone}
use Rattle.desk_core.specs.Ports.{ports_there, ports_wanted}
use Rattle.desk_core.proofs.cells.Cells.act_each.Given as goal

-- the actions so far were done
abbrev pub invariant-loop-rec : goal.invariant-loop-rec
invariant-loop-rec g l = record {
  done : AreDone l.site.configs l.moment l.fn.self.states.items l.self.states.items (map (option_map g.P.Port.port) l.fn.self.ports.items) (map (option_map g.P.Port.port) l.self.ports.items)
      (take l.rec-index l.actions) l.effects.drove l.effects.writes l.self.before.items;
  valid : AreValid l.site.configs l.self.states.items;
  ported : ports_there l.self.ports.items ≡ ports_wanted l.site.configs;
  light : sum_by action_weight (take l.rec-index l.actions) ≤ l.rec-index * 2 ^ 39;
}
