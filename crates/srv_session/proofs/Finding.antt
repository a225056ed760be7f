-- The request that a message is about.
use Rattle.std.proofs.Common.{◌≡◌, ◌==◌, ℕ, Bool, true, false, cond, List, Option, None, Some, Result, Ok, Err, refl, sym, ◌∙◌, ap, subst, arith}
use Rattle.std.specs.Prelude.{IsTrue, codes}
use Rattle.std.specs.FinMap.{get as at}
use Rattle.std.proofs.lemmas.Bool.{false≢true}
use Rattle.std.proofs.lemmas.Bool.Decides.{nat_tests}
use Rattle.std.proofs.lemmas.Option.{none-some}
use Rattle.pvd_type.specs.Tree.{Tree}
use Rattle.chan_table.specs.declared.ask.AskKind.{AskKind}
use Rattle.chan_table.specs.declared.ask.AskKind.TheVariants as kinds
use Rattle.desk_api.specs.Sites.{is_channel, has_values}
use Rattle.desk_api.specs.Types.{type_of, HoldsLeaves}
use Rattle.desk_api.specs.declared.channel.Channel.{Channel}
use Rattle.desk_api.specs.declared.history.SiteData.{SiteData}
use Rattle.srv_session.specs.State.{State, Asked, channel_at, on_channel, request_on}
use Rattle.srv_session.specs.Replies.{is_call}
use Rattle.srv_session.specs.Tasks.{is_kind, in_phase, found_for}
use Rattle.srv_session.specs.Calls.{Selects, IsOf}
use Rattle.srv_session.specs.Views.{IsFound, IsThere, HasSelected}
use Rattle.srv_session.specs.declared.requests.Found.{Found}
use denote.Ref.{Bor}

-- What is found, step by step.
module _ (s : State) (kind : AskKind) (sid req : ℕ) where
  pub no_channel : channel_at s.channels sid ≡ None → found_for s kind sid req ≡ Err (codes "unknown request")
  no_channel is = ap (λ (o : Option Channel). in_phase kind (on_channel sid o (at s.requests req))) is

  module _ (channel : Channel) (opened_ : channel_at s.channels sid ≡ Some channel) where
    looked : (o : Option Asked) → at s.requests req ≡ o → found_for s kind sid req ≡ in_phase kind (on_channel sid (Some channel) o)
    looked o is =
        ap (λ (c : Option Channel). in_phase kind (on_channel sid c (at s.requests req))) opened_
        ∙ ap (λ (a : Option Asked). in_phase kind (on_channel sid (Some channel) a)) is

    pub no_request : at s.requests req ≡ None → found_for s kind sid req ≡ Err (codes "unknown request")
    no_request is = looked None is

    module _ (ask : Asked) (is : at s.requests req ≡ Some ask) where
      pub elsewhere : (ask.sid == sid) ≡ false → found_for s kind sid req ≡ Err (codes "unknown request")
      elsewhere apart = looked (Some ask) is ∙ ap (λ (b : Bool). in_phase kind (cond b (Some (ask, channel)) None)) apart

      here : (ask.sid == sid) ≡ true → found_for s kind sid req ≡ cond (is_kind kind ask.kind) (Ok (ask, channel)) (Err (codes "wrong phase"))
      here same = looked (Some ask) is ∙ ap (λ (b : Bool). in_phase kind (cond b (Some (ask, channel)) None)) same

      pub other_kind : (ask.sid == sid) ≡ true → is_kind kind ask.kind ≡ false → found_for s kind sid req ≡ Err (codes "wrong phase")
      other_kind same apart = here same ∙ ap (λ (b : Bool). cond b (Ok (ask, channel)) (Err (codes "wrong phase"))) apart

      pub in_use : (ask.sid == sid) ≡ true → is_kind kind ask.kind ≡ true → found_for s kind sid req ≡ Ok (ask, channel)
      in_use same one = here same ∙ ap (λ (b : Bool). cond b (Ok (ask, channel)) (Err (codes "wrong phase"))) one

pub found_so : (result : Result Found (Bor (List ℕ))) (x y : Result (Asked × Channel) (List ℕ)) → y ≡ x → IsFound result x → IsFound result y
found_so result x y is found = subst (λ (z : Result (Asked × Channel) (List ℕ)). IsFound result z) (sym is) found

-- a request that is on a channel
pub record IsOn (s : State) (sid req : ℕ) (ask : Asked) (channel : Channel) : Type 0 where
  pub open_ : channel_at s.channels sid ≡ Some channel
  pub there : at s.requests req ≡ Some ask
  pub same : ask.sid ≡ sid

on_it : (sid : ℕ) (c : Option Channel) (a : Option Asked) (ask : Asked) (channel : Channel) → on_channel sid c a ≡ Some (ask, channel) → (c ≡ Some channel) × (a ≡ Some ask) × (ask.sid ≡ sid)
on_it sid None a ask channel is = absurd (none-some (ask, channel) is)
on_it sid (Some c) None ask channel is = absurd (none-some (ask, channel) is)
on_it sid (Some c) (Some a) ask channel is = by_test (a.sid == sid) refl is
  where
    by_test : (b : Bool) → (a.sid == sid) ≡ b → cond {A = Option (Asked × Channel)} b (Some (a, c)) None ≡ Some (ask, channel) → (Some c ≡ Some channel) × (Some a ≡ Some ask) × (ask.sid ≡ sid)
    by_test true test e =
        let first : (a, c) ≡ (ask, channel) = same_some e in
        let one : a ≡ ask = ap (λ (x : Asked × Channel). x.0) first in
        let here : a.sid ≡ sid = grind (arith, nat_tests) in
        (ap Some (ap (λ (x : Asked × Channel). x.1) first), ap Some one, sym (ap (λ (x : Asked). x.sid) one) ∙ here)
      where
        same_some : {x y : Asked × Channel} → Some x ≡ Some y → x ≡ y
        same_some e = cc
    by_test false test e = absurd (none-some (ask, channel) e)

pub is_on_it : (s : State) (sid req : ℕ) (ask : Asked) (channel : Channel) → request_on s sid req ≡ Some (ask, channel) → IsOn s sid req ask channel
is_on_it s sid req ask channel is =
    let parts = on_it sid (channel_at s.channels sid) (at s.requests req) ask channel is in
    record { open_ = parts.0; there = parts.1; same = parts.2 }

-- Of a session of a site, the channel is one of the site, and leaves of it are selected.
module _ (site : SiteData) (s : State) (ok : IsOf site s) (sid req : ℕ) (ask : Asked) (channel : Channel) (is : request_on s sid req ≡ Some (ask, channel)) where
  pub real_there : IsTrue (is_channel site channel)
  real_there = ok.channels sid channel (is_on_it s sid req ask channel is).open_

  pub selects_there : is_call ask.kind ≡ false → Selects site channel ask
  selects_there call =
      let on = is_on_it s sid req ask channel is in
      let p = ok.requests req ask on.there in
      let one : p.channel ≡ channel = same_some (sym p.open_ ∙ ap (channel_at s.channels) on.same ∙ on.open_) in
      subst (λ (c : Channel). Selects site c ask) one (p.selects call)
    where
      same_some : {x y : Channel} → Some x ≡ Some y → x ≡ y
      same_some e = cc

  pub valued_there : is_call ask.kind ≡ false → IsTrue (has_values channel)
  valued_there call = (selects_there call).valued

  pub selected_there : is_call ask.kind ≡ false → (ty : Tree) → ty ≡ type_of site channel → HasSelected s req ty
  selected_there call ty ty_is = record {
    ask = ask;
    here = (is_on_it s sid req ask channel is).there;
    leaves = subst (λ (t : Tree). HoldsLeaves t ask.mask) (sym ty_is) (selects_there call).leaves;
  }

-- What was found is there.
pub record IsHere (s : State) (kind : AskKind) (sid req : ℕ) (found : Found) : Type 0 where
  pub ask : Asked
  pub here : request_on s sid req ≡ Some (ask, found.channel)
  pub atomic : found.atomic ≡ ask.atomic
  pub phase : found_for s kind sid req ≡ Ok (ask, found.channel)
  pub kind_is : is_kind kind ask.kind ≡ true

pub is_here : (s : State) (kind : AskKind) (sid req : ℕ) (found : Found) → IsFound (Ok found) (found_for s kind sid req) → IsHere s kind sid req found
is_here s kind sid req found is = by_place (request_on s sid req) refl is
  where
    by_place : (o : Option (Asked × Channel)) → request_on s sid req ≡ o → IsFound (Ok found) (in_phase kind o) → IsHere s kind sid req found
    by_place None at_ f = absurd f
    by_place (Some x) at_ f = by_kind (is_kind kind x.0.kind) refl f
      where
        by_kind : (b : Bool) → is_kind kind x.0.kind ≡ b → IsFound (Ok found) (cond b (Ok x) (Err (codes "wrong phase"))) → IsHere s kind sid req found
        by_kind true k g =
            let same : x ≡ (x.0, found.channel) = λ i. (x.0, sym g.0 i) in
            record {
              ask = x.0;
              here = at_ ∙ ap Some same;
              atomic = g.1;
              phase = ap (in_phase kind) at_ ∙ ap (λ (b : Bool). cond b (Ok x) (Err (codes "wrong phase"))) k ∙ ap Ok same;
              kind_is = k;
            }
        by_kind false k g = absurd g

-- no request of another kind is a call
no_call : (a b : AskKind) → is_kind a b ≡ true → is_call a ≡ false → is_call b ≡ false
no_call a kinds.Get same call = refl
no_call a kinds.Put same call = refl
no_call a kinds.PutGet same call = refl
no_call a kinds.Monitor same call = refl
no_call kinds.Get kinds.Rpc same call = absurd (false≢true same)
no_call kinds.Put kinds.Rpc same call = absurd (false≢true same)
no_call kinds.PutGet kinds.Rpc same call = absurd (false≢true same)
no_call kinds.Rpc kinds.Rpc same call = call
no_call kinds.Monitor kinds.Rpc same call = absurd (false≢true same)

pub there : (s : State) (kind : AskKind) (sid req : ℕ) (found : Found) → is_call kind ≡ false → IsFound (Ok found) (found_for s kind sid req) → IsThere s sid req found
there s kind sid req found call is =
    let h = is_here s kind sid req found is in record { ask = h.ask; here = h.here; atomic = h.atomic; selects = no_call kind h.ask.kind h.kind_is call }

pub not_here : (s : State) (kind : AskKind) (sid req : ℕ) (text : Bor (List ℕ)) → IsFound (Err text) (found_for s kind sid req) → found_for s kind sid req ≡ Err text.now
not_here s kind sid req text is = by_result (found_for s kind sid req) is
  where
    by_result : (r : Result (Asked × Channel) (List ℕ)) → IsFound (Err text) r → r ≡ Err text.now
    by_result (Ok x) f = absurd f
    by_result (Err told) f = ap Err (sym f)

-- What was found for a message of a kind is there, and of that kind.
pub record IsFoundAt (s : State) (kind : AskKind) (sid req : ℕ) (found : Asked × Channel) : Type 0 where
  pub here : at s.requests req ≡ Some found.0
  pub open_ : channel_at s.channels sid ≡ Some found.1
  pub kind_is : is_kind kind found.0.kind ≡ true

abbrev done : Asked × Channel → Result (Asked × Channel) (List ℕ)
done x = Ok x

pub found_at : (s : State) (kind : AskKind) (sid req : ℕ) (found : Asked × Channel) → found_for s kind sid req ≡ Ok found → IsFoundAt s kind sid req found
found_at s kind sid req found is = by_place (request_on s sid req) refl is
  where
    by_place : (o : Option (Asked × Channel)) → request_on s sid req ≡ o → in_phase kind o ≡ Ok found → IsFoundAt s kind sid req found
    by_place None at_ e = absurd (err_ok e)
      where
        err_ok : {x : List ℕ} {y : Asked × Channel} → Err x ≡ Ok y → ⊥
        err_ok e = cc
    by_place (Some x) at_ e = by_kind (is_kind kind x.0.kind) refl e
      where
        by_kind : (b : Bool) → is_kind kind x.0.kind ≡ b → cond b (Ok x) (Err (codes "wrong phase")) ≡ Ok found → IsFoundAt s kind sid req found
        by_kind true k e =
            let on = is_on_it s sid req x.0 x.1 at_ in
            subst (λ (y : Asked × Channel). IsFoundAt s kind sid req y) (same_ok e) (record { here = on.there; open_ = on.open_; kind_is = k })
          where
            same_ok : {x y : Asked × Channel} → done x ≡ done y → x ≡ y
            same_ok e = cc
        by_kind false k e = absurd (err_ok e)
          where
            err_ok : {x : List ℕ} {y : Asked × Channel} → Err x ≡ Ok y → ⊥
            err_ok e = cc

-- a request of that kind is a monitor
pub monitor_kind : (k : AskKind) → is_kind kinds.Monitor k ≡ true → k ≡ kinds.Monitor
monitor_kind kinds.Get is = absurd (false≢true is)
monitor_kind kinds.Put is = absurd (false≢true is)
monitor_kind kinds.PutGet is = absurd (false≢true is)
monitor_kind kinds.Rpc is = absurd (false≢true is)
monitor_kind kinds.Monitor is = refl
