use Rattle.std.proofs.Common.{arith}
use Rattle.hall_locks.proofs.HubByHub.{gave_is}
use Rattle.hall_locks.proofs.Lines.{hub_within, gives_hub_at}
use Rattle.hall_locks.proofs.hall.Hall.give_hub_word.Goals as goal

pub swap-found-requires : goal.swap-found-requires
swap-found-requires g c =
    let wide = c.args.self.now.wide in
    let me = c.args.seat.now.me in
    let may = c.requires.may in (
      c.requires.own,
      hub_within _ _ wide.0,
      gives_hub_at _ _ _ _ _ _ _ g.T.Law.meaning _ _ _ (omega (arith, wide.1)) me me may.0 g.M.MarkOf.mark c.requires.live (λ i. (me.0, may.1 i)) may.2,
    )

pub returns-clause-given : goal.returns-clause-given
returns-clause-given g c hub is =
    let me = c.args.seat.now.me in
    gave_is _ _ _ _ _ _ _ g.T.Law.meaning me me c.swap-found.new.seat.me hub g.M.MarkOf.mark (λ i. (me.0, is i)) c.swap-found.ensures.2
