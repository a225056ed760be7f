use Rattle.prog_server.proofs.Making.{serves_nothing, serves}
use Rattle.prog_server.proofs.program.serve_with.Goals as goal

pub returns-in_default-clause-serves : goal.returns-in_default-clause-serves
returns-in_default-clause-serves g c = serves_nothing _ _ _ _ _

pub returns-clause-serves : goal.returns-clause-serves
returns-clause-serves g c =
    serves _ _ _ _ _ _ _ c.in-Ok.desk.log c.serve_connection-ended.new.desk.log c.in-Ok.ensures.seat c.serve_connection-ended.ensures.served c.serve_connection-ended.new.desk.stands.own
