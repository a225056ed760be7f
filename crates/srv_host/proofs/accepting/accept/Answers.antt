use Rattle.std.proofs.Common.{◌≡◌, inl, inr, refl, None, Some}
use Rattle.srv_host.proofs.accepting.accept.Goals as goal

pub returns-in-Ok-clause-step : goal.returns-in-Ok-clause-step
returns-in-Ok-clause-step g c = (Some (g.A.Link.Link.wire c.in-Link.link), c.in-Link.ensures, c.in-Ok.ensures.begun)

pub returns-in-Err-clause-step : goal.returns-in-Err-clause-step
returns-in-Err-clause-step g c = (inr (g.A.Link.Link.wire c.in-Link.link, c.in-Link.ensures), c.in-Err.ensures.none)

pub returns-in-Idle-clause-step : goal.returns-in-Idle-clause-step
returns-in-Idle-clause-step g c = (None, c.in-Idle.ensures, refl)

pub returns-in-NoMemory-clause-step : goal.returns-in-NoMemory-clause-step
returns-in-NoMemory-clause-step g c = (inl c.in-NoMemory.ensures, refl)
