use Rattle.desk_api.proofs.Staying.{gets_leave, puts_leave, put_gets_leave, snapshots_leave}
use Rattle.desk_api.proofs.laws.other_calls_leave_subscriptions.Goals as goal

pub returns : goal.returns
returns c = record {
  gets = gets_leave;
  puts = puts_leave;
  put_gets = put_gets_leave;
  snapshots = λ slot o site result marks are. snapshots_leave slot o site result marks are;
}
