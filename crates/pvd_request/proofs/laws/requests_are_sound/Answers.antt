use Rattle.pvd_request.proofs.Sound.{request_sound}
use Rattle.pvd_request.proofs.laws.requests_are_sound.Goals as goal

pub returns : goal.returns
returns c = request_sound
