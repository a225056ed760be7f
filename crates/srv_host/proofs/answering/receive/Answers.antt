use Rattle.std.proofs.Common.{◌≡◌, ◌∷◌, [], ℕ, List, true, take, ap}
use Rattle.pva_outside.specs.Traffic.{Got, Traffic}
use Rattle.pva_outside.specs.declared.peer.Peer.{Peer}
use Rattle.srv_host.proofs.Passing.{went_one, went_more, first_more}
use Rattle.srv_host.proofs.answering.receive.Goals as goal

pub returns-in-Ok : goal.returns-in-Ok
returns-in-Ok g c =
    let e = c.in-Ok.ensures in
    let came : List ℕ × Peer = (take c.in-Got.count c.receive.new.buffer, c.in-Got.from) in
    (Got came.0 came.1 ∷ e.0, (came, ap (λ (l : List Traffic). Got came.0 came.1 ∷ l) e.1), went_more (went_one c.in-Got.ensures.got) e.2)

pub returns-in-Err : goal.returns-in-Err
returns-in-Err g c =
    let e = c.in-Err.ensures in
    let came : List ℕ × Peer = (take c.in-Got.count c.receive.new.buffer, c.in-Got.from) in
    (true, (Got came.0 came.1 ∷ e.0, (came, ap (λ (l : List Traffic). Got came.0 came.1 ∷ l) e.1), first_more (went_one c.in-Got.ensures.got) e.2))
