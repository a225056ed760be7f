use Rattle.hall_core.proofs.Floors.{runs_sound, runs_grow, runs_keep}
use Rattle.hall_core.proofs.laws.floor_law.Goals as goal

pub returns-clause-sound : goal.returns-clause-sound
returns-clause-sound g c f h events answers entries runs s = runs_sound _ _ _ _ _ _ _ g.T.Law.meaning runs s

pub returns-clause-journal : goal.returns-clause-journal
returns-clause-journal g c f h events answers entries runs = runs_grow _ _ _ _ _ _ _ g.T.Law.meaning runs

pub returns-clause-held : goal.returns-clause-held
returns-clause-held g c f h events answers entries actor cell runs has leaves = runs_keep _ _ _ _ _ _ _ g.T.Law.meaning actor cell runs has leaves
