-- How a client tells the updates of a monitor.
use Rattle.std.specs.Prelude.{◌≡◌, List, [], ◌∷◌, ⊤}
use Rattle.cli_text.specs.Lines.{part_text}
use Rattle.pvd_type.specs.Tree.{Tree}
use Rattle.mon_queue.specs.declared.update.Update.{Update}
use Rattle.cli_session.specs.Steps.{Told, part, refusal, finish}
use Rattle.cli_within.specs.Answers.{update_text}

-- An update is told by its lines, with the leaves that it changed and with those that had changed more than once.
abbrev pub IsUpdateTold : Tree → Told → Update → Type 0
IsUpdateTold ty (part p overrun) update =
    (part_text p.mask overrun p.ty p.value ≡ update_text ty update)
    × ((p.mask ≡ update.changed) × (overrun ≡ update.overrun))
IsUpdateTold ty other update = ⊥

-- What is told are the first of these updates, one after another. The end of the operation stands behind them.
abbrev pub AreUpdatesTold : Tree → List Told → List Update → Type 0
AreUpdatesTold ty [] updates = ⊤
AreUpdatesTold ty (finish ∷ told) updates = told ≡ []
AreUpdatesTold ty (refusal status ∷ told) updates = told ≡ []
AreUpdatesTold ty (t ∷ told) [] = ⊥
AreUpdatesTold ty (t ∷ told) (update ∷ updates) = IsUpdateTold ty t update × AreUpdatesTold ty told updates
