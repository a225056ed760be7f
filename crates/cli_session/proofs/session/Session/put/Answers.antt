use Rattle.std.proofs.Common.{sym, ◌∙◌, refl}
use Rattle.cli_session.proofs.session.Session.put.Goals as goal

pub say-requires : goal.say-requires
say-requires c =
    let can = c.args.self.now.can_put c.in-Some.part (sym c.replace.ensures.value ∙ c.in-Some.is) in
    (((λ e. refl), tt), (tt, (tt, (tt, (can, tt)))))
