use Rattle.pvd_codec.proofs.Elements.{on_err}
use Rattle.pvd_codec.proofs.Growing.{begins_on}
use Rattle.pva_messages.proofs.writing.put_each_channel.Goals as goal

pub returns-in_err-put_channel-clause-begins : goal.returns-in_err-put_channel-clause-begins
returns-in_err-put_channel-clause-begins c = on_err c.from_residual.result (begins_on _ _ _ c.loop-channel.invariant.begins c.in_err-put_channel.ensures.begins)
