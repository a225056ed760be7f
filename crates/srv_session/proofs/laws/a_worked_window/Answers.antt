use Rattle.std.specs.Prelude.{refl}
use Rattle.srv_session.proofs.laws.a_worked_window.Goals as goal

pub returns : goal.returns
returns c = record {
  free = λ ask sub. refl;
  spent = λ ask sub. refl;
  again = λ ask sub. refl;
  over = λ types req ask sub. refl;
  bits = λ was. (refl, refl, refl);
}
