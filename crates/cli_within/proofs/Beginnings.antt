-- The first request of a session begins.
use Rattle.std.proofs.Common.{◌≡◌, ◌≢◌, ℕ, Bool, false, cond, Option, None, Some, sym, ap, ◌∙◌, inl, inr}
use Rattle.std.specs.Prelude.{◌⊎◌, codes, is_some}
use Rattle.std.specs.FinMap.{get as at, insert, contains_key, empty, get-empty}
use Rattle.std.specs.Ordering.{nat_cmp}
use Rattle.pva_messages.specs.Fields.{Valued}
use Rattle.chan_table.specs.declared.ask.AskKind.{AskKind}
use Rattle.desk_api.specs.declared.channel.Channel.{Channel}
use Rattle.desk_api.specs.declared.history.SiteData.{SiteData}
use Rattle.desk_api.specs.declared.sub.Sub.{Sub}
use Rattle.srv_session.proofs.Tables.{same_or_not, got_inserted, got_beside}
use Rattle.srv_session.specs.Replies.{refused}
use Rattle.srv_session.specs.State.{State, Asked, Requests, channel_at, is_full}
use Rattle.srv_session.specs.Tasks.{refuse, beginning, beginning_on, unfit}
use Rattle.cli_within.proofs.Openings.{none_yet}
use Rattle.cli_within.proofs.ServerTurns.{HasNoSubs}

pub begins_on : (site : SiteData) (s : State) (kind : AskKind) (req sub sid : ℕ) (v : Valued) (channel : Channel) → channel_at s.channels sid ≡ Some channel → s.requests ≡ empty
    → beginning site s kind req sub sid v (channel_at s.channels sid) ≡ beginning_on site kind req sub sid v channel (unfit kind channel)
begins_on site s kind req sub sid v channel there none =
    let begun = beginning_on site kind req sub sid v channel (unfit kind channel) in
    let used = refuse (refused kind req sub (codes "request id in use")) in
    let many = refuse (refused kind req sub (codes "too many requests")) in
    let free : contains_key s.requests req ≡ false = ap (λ (r : Requests). contains_key r req) none ∙ ap is_some (get-empty nat_cmp req) in
    let room : is_full s.requests ≡ false = ap is_full none ∙ none_yet Asked in
    ap (beginning site s kind req sub sid v) there
    ∙ ap (λ (b : Bool). cond b used (cond (is_full s.requests) many begun)) free
    ∙ ap (λ (b : Bool). cond b many begun) room

sub_in : Option Asked → Option Sub
sub_in None = None
sub_in (Some ask) = ask.sub

-- the only request is no monitor
pub only_one : (s : State) (req : ℕ) (ask : Asked) → s.requests ≡ empty → ask.sub ≡ None → HasNoSubs (record s { requests = insert s.requests req ask })
unfolding sub_in
only_one s req ask none unsubscribed q other is = by (same_or_not q req)
  where
    by : (q ≡ req) ⊎ (q ≢ req) → other.sub ≡ None
    by (inl same) = sym (ap sub_in (sym (got_inserted s.requests req ask) ∙ ap (at (insert s.requests req ask)) (sym same) ∙ is)) ∙ unsubscribed
    by (inr apart) =
        let clash : None ≡ Some other = sym (ap (λ (r : Requests). at r q) none ∙ get-empty nat_cmp q) ∙ sym (got_beside s.requests req ask q apart) ∙ is in
        absurd cc
