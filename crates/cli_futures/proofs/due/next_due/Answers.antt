use Rattle.std.proofs.Common.{inl, inr, ◌∙◌, sym}
use Rattle.cli_futures.specs.Taking.{client_view}
use Rattle.cli_futures.proofs.Conversing.{due_so}
use Rattle.cli_futures.proofs.due.next_due.Goals as goal

pub returns-then-more : goal.returns-then-more
returns-then-more c = due_so (client_view c.args.client.now) c.args.idles c.args.calls c.args.patience c.due_within.result (inl (c.has_more-more.ensures.more c.if-more.true)) c.due_within.ensures

pub returns-then-over : goal.returns-then-over
returns-then-over c = (c.has_more-more.ensures.none c.if-more.false, sym c.is_over-over.ensures ∙ c.if-over.true)

pub returns : goal.returns
returns c = due_so (client_view c.args.client.now) c.args.idles c.args.calls c.args.patience c.due_within-2.result (inr (sym c.is_over-over.ensures ∙ c.if-over.false)) c.due_within-2.ensures
