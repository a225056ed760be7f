use Rattle.std.proofs.Common.{◌≡◌, ◌++◌, drop}
use Rattle.pvd_codec.specs.Written.{CanEach}
use Rattle.srv_session.specs.Replies.{IsSayable, spelled_all}
use Rattle.srv_session.specs.Rows.{all_created, all_opened}
use Rattle.srv_session.specs.Views.{state_of, output_of, Keeps}
use Rattle.srv_session.proofs.session.Session.open_all.Given as goal

-- What the names that are left open and are told, behind what stands, is what all names do.
abbrev pub invariant-loop-name : goal.invariant-loop-name
invariant-loop-name g l = record {
  state : state_of l.self ≡ record (state_of l.fn.self) { channels = (state_of l.self).channels };
  channels : all_opened (g.D.Desk.seat l.desk).seen.base.site (state_of l.self).channels (drop l.name-index l.names)
      ≡ all_opened (g.D.Desk.seat l.desk).seen.base.site (state_of l.fn.self).channels l.names;
  output : output_of l.self ++ spelled_all l.fn.self.order l.fn.self.segment (all_created (g.D.Desk.seat l.desk).seen.base.site (state_of l.self).channels (drop l.name-index l.names))
      ≡ output_of l.fn.self ++ spelled_all l.fn.self.order l.fn.self.segment (all_created (g.D.Desk.seat l.desk).seen.base.site (state_of l.fn.self).channels l.names);
  sayable : CanEach IsSayable (all_created (g.D.Desk.seat l.desk).seen.base.site (state_of l.self).channels (drop l.name-index l.names))
      → CanEach IsSayable (all_created (g.D.Desk.seat l.desk).seen.base.site (state_of l.fn.self).channels l.names);
  keeps : Keeps l.fn.self l.self;
}
