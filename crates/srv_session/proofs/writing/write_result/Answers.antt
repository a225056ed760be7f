use Rattle.std.proofs.Common.{◌≡◌, true, length, arith}
use Rattle.pva_messages.proofs.Framing.{roomy, framed, undone}
use Rattle.srv_session.proofs.writing.write_result.Goals as goal

pub end_message-requires-clause-room : goal.end_message-requires-clause-room
end_message-requires-clause-room c =
    let at : c.len-start.result ≡ length c.args.out.now.items = omega (arith, c.len-start.ensures, c.args.out.now.ok) in
    roomy c.len-start.result c.args.out.now.items c.begin_message.new.out.items c.put_result.new.out.items _ at c.in_ok-begin_message.ensures.ok c.in-Ok.ensures.written

pub returns-in-Ok-clause-ok : goal.returns-in-Ok-clause-ok
returns-in-Ok-clause-ok c =
    let at : c.len-start.result ≡ length c.args.out.now.items = omega (arith, c.len-start.ensures, c.args.out.now.ok) in
    framed c.len-start.result c.args.out.now.items c.begin_message.new.out.items c.put_result.new.out.items _ at c.in_ok-begin_message.ensures.ok c.in-Ok.ensures.written c.args.order true c.byte.result _ c.args.segment c.end_message.new.out.items c.end_message.result c.byte.ensures c.end_message.ensures.ok

pub returns-in-Ok-clause-err : goal.returns-in-Ok-clause-err
returns-in-Ok-clause-err c =
    let at : c.len-start.result ≡ length c.args.out.now.items = omega (arith, c.len-start.ensures, c.args.out.now.ok) in
    undone c.len-start.result c.args.out.now.items c.begin_message.new.out.items c.put_result.new.out.items _ at c.in_ok-begin_message.ensures.ok c.in-Ok.ensures.written c.end_message.new.out.items c.end_message.result c.end_message.ensures.err
