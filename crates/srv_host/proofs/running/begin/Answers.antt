use contract.Lifetimes.{Lfts}
use denote.Param.{param}
use denote.Param.Send.{IsSend, IsSync, param_send, arg_send, shr_send, struct_send, recorded_send}
use Rattle.std.proofs.Common.{◌≡◌, refl, sym, ◌∙◌}
use Rattle.desk_api.specs.Calls.{first_seat}
use Rattle.desk_shared.specs.Records.{seat_of}
use Rattle.srv_stream.proofs.ended.Ended.TheSendSync as ended
use Rattle.srv_host.proofs.Crossing.{desk_send, endings_sync, means_send, number_send, pass_send, taken_send}
use Rattle.srv_host.proofs.Kept.{served_from, shown_adds}
use Rattle.srv_host.proofs.running.begin.Given.{Over}
use Rattle.srv_host.proofs.running.begin.Lts as Lts
use Rattle.srv_host.proofs.running.begin.Goals as goal

-- what the closure takes along, and what it gives back, apart from all that is known where it is made: a `search` among that takes too many steps
sends : (g : Over) (κs : Lfts 10) → IsSync (param 2 g.row.R) → IsSend (param 3 g.row.P) → IsSend (param 4 g.row.L) → IsSync (param 5 g.row.C) → IsSend (param 2 (Lts.arg-9-2 g.row.E g.row.K g.row.R g.row.P g.row.L g.row.C g.E.laws g.K.laws g.R.laws g.P.laws g.L.laws g.C.laws g.K.Home g.K.Home-dict g.R.Threads g.R.Threads-dict g.R.Wait g.R.Wait-dict g.P.Port g.P.Port-dict g.L.Link g.L.Link-dict g.C.Clock g.C.Clock-dict g.P.Destruct-dict g.L.Destruct-dict κs))
sends g κs r p l k = search (taken_send, desk_send, means_send, endings_sync, number_send, shr_send, param_send, arg_send) depth 40 fits 20000

gives : (g : Over) (κs : Lfts 10) → IsSend (param 3 g.row.P) → IsSend (param 4 g.row.L) → IsSend (param 3 (Lts.arg-9-3 g.row.E g.row.K g.row.R g.row.P g.row.L g.row.C g.E.laws g.K.laws g.R.laws g.P.laws g.L.laws g.C.laws g.K.Home g.K.Home-dict g.R.Threads g.R.Threads-dict g.R.Wait g.R.Wait-dict g.P.Port g.P.Port-dict g.L.Link g.L.Link-dict g.C.Clock g.C.Clock-dict g.P.Destruct-dict g.L.Destruct-dict κs))
gives g κs p l = search (pass_send, ended.the_send, tt, param_send, arg_send, struct_send, recorded_send) depth 40 fits 20000

pub spawn_with-requires-send-F : goal.spawn_with-requires-send-F
spawn_with-requires-send-F g c κs within = sends g κs c.type_bounds.sync-R c.type_bounds.send-P c.type_bounds.send-L c.type_bounds.sync-C

pub spawn_with-requires-send-T : goal.spawn_with-requires-send-T
spawn_with-requires-send-T g c κs within = gives g κs c.type_bounds.send-P c.type_bounds.send-L

pub spawn_with-requires-clause-keeps : goal.spawn_with-requires-clause-keeps
spawn_with-requires-clause-keeps g c κs within =
    λ r post. rw (c.of.ensures, c.of-2.ensures, c.of-3.ensures) (
      post.0 ∙ sym (c.requires.own ∙ c.requires.hall),
      served_from _ _ _ _ _ _ _ _ (shown_adds (seat_of c.args.pass.seat.me.0) (first_seat g.K.Home.base) c.in-Ok.desk.pass (λ p. seat_of p.seat.me.0) c.in-Ok.ensures.desk) post.1,
    )

pub returns-in-Ok-spawn_with-clause-begun : goal.returns-in-Ok-spawn_with-clause-begun
returns-in-Ok-spawn_with-clause-begun g c = rw (c.in-Ok-spawn_with.ensures.ok, c.of.ensures, c.of-2.ensures, c.of-3.ensures, c.of-4.ensures, c.of-5.ensures, c.of-6.ensures) (record {
  runs = refl;
  own = c.requires.own;
  seen = refl;
  log = c.requires.log;
  clock_is = refl;
  order_is = refl;
})

pub returns-in-Err-clause-begun : goal.returns-in-Err-clause-begun
returns-in-Err-clause-begun g c =
    let served = rw c.in-Err.ensures.err at c.spawn_with-pass.ensures.served in
    rw (c.of-4.ensures, c.of-5.ensures, c.of-6.ensures) (record {
      runs = (
        c.spawn_with-pass.ensures.own ∙ sym (c.requires.own ∙ c.requires.hall),
        served_from _ _ _ _ _ _ _ _ (shown_adds (seat_of c.args.pass.seat.me.0) (first_seat g.K.Home.base) c.in-Ok.desk.pass (λ p. seat_of p.seat.me.0) c.in-Ok.ensures.desk) served,
      );
      own = c.requires.own;
      seen = refl;
      log = c.requires.log;
      clock_is = refl;
      order_is = refl;
    })
