use Rattle.std.specs.Prelude.{Some, None, refl}
use Rattle.std.proofs.Common.{sym, ap, ◌∙◌}
use Rattle.std.specs.FinMap as map
use Rattle.chan_table.specs.Kept.{with_value}
use Rattle.chan_table.proofs.Gathered.{get-known, some_there, gathered-changed, sound-changed}
use Rattle.chan_table.proofs.directory.Directory.value_mut.Goals as goal

pub unreachable-requires : goal.unreachable-requires
unreachable-requires g c =
    some_there _ c.requires
    (ap (λ k. map.get k.values c.args.number) (sym c.self.view_is)
    ∙ get-known c.self.inside.keys.entries.items c.self.inside.values c.args.number None c.in-None.ensures)

pub invariant_of-self-lent : goal.invariant_of-self-lent
invariant_of-self-lent g c = λ w.
    sound-changed c.self.inside.keys.entries.items c.self.inside.values c.args.number c.in-Some.key w c.self.inside.room _ c.self.invariant (sym c.in-Some.ensures)

pub returns : goal.returns
returns g c = (
  (
    refl,
    λ w.
        ap (λ m. record { values = m; room = c.self.inside.room })
        (gathered-changed c.self.inside.keys.entries.items c.self.inside.values c.args.number c.in-Some.key w c.self.inside.room _ c.self.invariant (sym c.in-Some.ensures))
        ∙ ap (λ k. with_value k c.args.number w) c.self.view_is,
  ),
  record {
    writes_back = tt;
    value = ap (λ k. map.get k.values c.args.number) (sym c.self.view_is)
        ∙ get-known c.self.inside.keys.entries.items c.self.inside.values c.args.number (Some c.in-Some.key) c.in-Some.ensures
        ∙ c.index_mut.ensures.value;
  },
)
