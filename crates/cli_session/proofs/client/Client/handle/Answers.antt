use Rattle.std.proofs.Common.{◌≡◌, ◌∙◌, ℕ, List, Option, None, Some, Result, Ok, Err, refl, sym, ap, subst}
use Rattle.cli_session.specs.declared.fault.ClientFault.{ClientFault}
use Rattle.cli_session.specs.Calls.{Took, Keeps, Handles}
use Rattle.cli_session.specs.Seen.{telling_view}
use Rattle.cli_session.specs.Steps.{step}
use Rattle.cli_session.specs.Views.{view_of, ask_of, state_of}
use Rattle.cli_session.proofs.Standing.{kept, not_taken, continues}
use Rattle.cli_session.proofs.client.Client.handle.Goals as goal

pub returns-in-Ok-clause-handles : goal.returns-in-Ok-clause-handles
returns-in-Ok-clause-handles c =
    let ask = ask_of c.args.self.now in
    let old = view_of c.args.self.now in
    let new = view_of c.keep.new.self in
    let state = state_of c.hear.new.self in
    let bytes = c.hear.new.out.items in
    let told = telling_view c.in-Ok.telling in
    let took = subst (λ (before : List ℕ). Took (step ask old.state c.args.event) state before bytes told) c.new-out.ensures.items (c.in-Ok.ensures {u = tt}).takes in
    let keeps = subst (λ (xs : List ℕ). Keeps (record old { state = state }) new xs told c.keep.result) c.deref.ensures.value c.keep.ensures.keeps in
    kept ask old new c.args.event state c.in_default.is bytes told c.keep.result took keeps

pub returns-in-Ok-clause-stands : goal.returns-in-Ok-clause-stands
returns-in-Ok-clause-stands c events given taken stands =
    continues (ask_of c.args.self.now) events given taken (view_of c.args.self.now) (view_of c.keep.new.self) c.args.event stands c.keep.result (returns-in-Ok-clause-handles c)

pub returns-clause-stands : goal.returns-clause-stands
returns-clause-stands c events given taken stands =
    let ask = ask_of c.args.self.now in
    let old = view_of c.args.self.now in
    let new = view_of c.fail.new.self in
    let failed : Handles ask old new c.args.event c.fail.result =
    not_taken ask old new c.args.event (state_of c.hear.new.self) c.in_default.is c.in-Err.fault c.fail.result c.fail.ensures.result (c.in-Err.ensures {u = tt}).takes c.fail.ensures.view in
    continues ask events given taken old new c.args.event stands c.fail.result failed

-- a client that had failed: it is as before
pub returns-in-Some-clause-stays : goal.returns-in-Some-clause-stays
returns-in-Some-clause-stays c f failed = (ap (λ (o : Option ClientFault). answer_of o) (sym c.in-Some.is ∙ failed), refl) where
  answer_of : Option ClientFault → Result (Unit {0}) ClientFault
  answer_of None = Ok tt
  answer_of (Some g) = Err g

-- it hadn't
pub returns-in-Ok-clause-stays : goal.returns-in-Ok-clause-stays
returns-in-Ok-clause-stays c f failed = let e : Some f ≡ None = sym failed ∙ c.in_default.is in absurd cc

pub returns-clause-stays : goal.returns-clause-stays
returns-clause-stays c f failed = let e : Some f ≡ None = sym failed ∙ c.in_default.is in absurd cc
