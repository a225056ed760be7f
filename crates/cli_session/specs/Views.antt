-- What contracts see of a client.
use Rattle.std.specs.Prelude.{ℕ, List, map, drop, Option}
use Rattle.pva_messages.specs.Views.{part_view}
use Rattle.cli_session.specs.Seen.{report_view}
use Rattle.cli_session.specs.State.{State}
use Rattle.cli_session.specs.Steps.{Told}
use Rattle.cli_session.specs.declared.ask.Ask.{Ask}
use Rattle.cli_session.specs.declared.client.Client.{Client}
use Rattle.cli_session.specs.declared.fault.ClientFault.{ClientFault}
use Rattle.cli_session.specs.declared.session.Session.{Session}

abbrev pub state_of : Session → State
state_of s = record {
  order = s.order;
  order_told = s.order_told;
  segment = s.segment;
  types = s.types;
  turns = s.turns.now;
  cid = s.cid;
  sid = s.sid;
  req = s.req;
  ty = s.ty;
  put = part_view s.put;
  left = s.left;
}

-- A client: the state behind the events that it heard; what it has told and was not yet asked for; the bytes that are
-- still to be written; and why it has failed, if it has.
pub record View : Type 0 where
  pub state : State
  pub told : List Told
  pub output : List ℕ
  pub fault : Option ClientFault

abbrev pub view_of : Client → View
view_of c = record {
  state = state_of c.session;
  told = map report_view c.reports.items;
  output = drop c.sent c.output.items;
  fault = c.fault;
}

abbrev pub ask_of : Client → Ask
ask_of c = c.ask
