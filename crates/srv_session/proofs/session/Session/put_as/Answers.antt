use Rattle.std.proofs.Common.{Bool, sym, subst}
use Rattle.pvd_value.specs.View.{view}
use Rattle.srv_session.specs.Views.{PutsTo}
use Rattle.srv_session.proofs.session.Session.put_as.Goals as goal

pub put_get-requires-clause-site : goal.put_get-requires-clause-site
put_get-requires-clause-site g c = c.requires.site

pub put_get-requires-clause-there : goal.put_get-requires-clause-there
put_get-requires-clause-there g c = c.requires.there

pub put_get-requires-clause-sub : goal.put_get-requires-clause-sub
put_get-requires-clause-sub g c = c.requires.sub

pub put_get-requires-clause-fits : goal.put_get-requires-clause-fits
put_get-requires-clause-fits g c = c.requires.fits

pub put_get-requires-clause-leaves : goal.put_get-requires-clause-leaves
put_get-requires-clause-leaves g c = c.requires.leaves

pub put-requires-clause-site : goal.put-requires-clause-site
put-requires-clause-site g c = c.requires.site

pub put-requires-clause-there : goal.put-requires-clause-there
put-requires-clause-there g c = c.requires.there

pub put-requires-clause-sub : goal.put-requires-clause-sub
put-requires-clause-sub g c = c.requires.sub

pub put-requires-clause-plain : goal.put-requires-clause-plain
put-requires-clause-plain g c = c.requires.plain

pub put-requires-clause-fits : goal.put-requires-clause-fits
put-requires-clause-fits g c = c.requires.fits

pub put-requires-clause-leaves : goal.put-requires-clause-leaves
put-requires-clause-leaves g c = c.requires.leaves

pub returns-then-gets : goal.returns-then-gets
returns-then-gets g c =
    subst (λ (b : Bool). PutsTo b (g.D.Desk.seat c.args.desk.now) (g.D.Desk.seat c.put_get.new.desk) c.args.self.now c.put_get.new.self c.args.moment c.args.sid c.args.req c.args.sub c.args.found c.args.mask.now (view c.args.value.now) c.put_get.result)
    (sym c.if-gets.true) c.put_get.ensures

pub returns : goal.returns
returns g c =
    subst (λ (b : Bool). PutsTo b (g.D.Desk.seat c.args.desk.now) (g.D.Desk.seat c.put.new.desk) c.args.self.now c.put.new.self c.args.moment c.args.sid c.args.req c.args.sub c.args.found c.args.mask.now (view c.args.value.now) c.put.result)
    (sym c.if-gets.false) c.put.ensures
