-- The marks that end subscriptions tell nothing.
use Rattle.std.proofs.Common.{◌≡◌, ℕ, Bool, true, false, cond, ◌||◌, ◌&&◌, not, List, [], ◌∷◌, ◌++◌, take, Option, None, Some, Result, Ok, Err, refl, ap, ◌∙◌}
use Rattle.std.specs.List.{list_any, flat_map}
use Rattle.pvd_request.specs.declared.request.Request.{Request as Wanted}
use Rattle.pvd_request.specs.declared.request.RequestFault.{RequestFault}
use Rattle.pvd_request.specs.Requests.{request_of}
use Rattle.pvd_request.specs.declared.request.Root.TheVariants as roots
use Rattle.rec_kinds.specs.declared.state.RecState.{RecState}
use Rattle.mon_queue.specs.declared.update.Update.{Update}
use Rattle.rpc_services.specs.Operations.{operation_named}
use Rattle.rpc_services.specs.Answers.{snapshot_tree}
use Rattle.rpc_services.specs.declared.asking.RpcOp.{RpcOp}
use Rattle.rpc_services.specs.declared.asking.RpcOp.TheVariants as services
use Rattle.rpc_services.specs.declared.asking.RpcRefusal.{RpcRefusal}
use Rattle.desk_api.specs.Calls.{rows_shown}
use Rattle.desk_api.specs.Sites.{has_values}
use Rattle.desk_api.specs.Types.{type_of}
use Rattle.desk_api.specs.Views.{value_of, laid}
use Rattle.desk_api.specs.declared.channel.Channel.{Channel}
use Rattle.desk_api.specs.declared.history.SiteData.{SiteData}
use Rattle.desk_api.specs.declared.mark.Mark.{Mark}
use Rattle.desk_api.specs.declared.mark.Mark.TheVariants.{Read, Entered, Popped, Dropped}
use Rattle.srv_session.specs.Rows.{rows_data, AreEndingsOf}
use Rattle.cli_session.specs.Messages.{get_request, put_get_request}
use Rattle.cli_session.specs.declared.ask.Ask.{Ask}
use Rattle.cli_session.specs.declared.ask.Operation.{Operation}
use Rattle.cli_session.specs.declared.ask.Operation.TheVariants as operation
use Rattle.cli_within.specs.Answers.{found_by, first_found, updates_in, is_entry, is_overweight, was_put, from_entry, leaves_text, shown_text, update_text, awaited_updates, whole_text, service_text, valued_text, unvalued_text, channel_text}

-- each of these is an ending
abbrev AreEnds : List Mark → Type 0
AreEnds [] = Unit {0}
AreEnds (m ∷ ms) = ((at : ℕ) × ((index : ℕ) × ((slot : ℕ) × (m ≡ Dropped at index slot)))) × AreEnds ms

first_or : Mark → List Mark → Mark
first_or m [] = m
first_or m (x ∷ xs) = x

are_ends : (slots : List ℕ) (marks : List Mark) → AreEndingsOf slots marks → AreEnds marks
unfolding first_or
are_ends [] [] h = tt
are_ends [] (m ∷ marks) h = absurd h
are_ends (slot ∷ slots) [] h = absurd h
are_ends (slot ∷ slots) (m ∷ marks) h = ((h.0.at, (h.0.index, (slot, ap (first_or m) h.0.marks_are))), are_ends slots marks h.1)

none_found : (states : List RecState) (ends : List Mark) → AreEnds ends → found_by states ends ≡ states
none_found states [] h = refl
none_found states (m ∷ ms) h = ap (λ (x : Mark). found_by states (x ∷ ms)) h.0.1.1.1 ∙ none_found states ms h.1

none_first : (ends : List Mark) → AreEnds ends → first_found ends ≡ []
none_first [] h = refl
none_first (m ∷ ms) h = ap (λ (x : Mark). first_found (x ∷ ms)) h.0.1.1.1 ∙ none_first ms h.1

none_behind : (ends : List Mark) → AreEnds ends → from_entry ends ≡ []
none_behind [] h = refl
none_behind (m ∷ ms) h = ap (λ (x : Mark). from_entry (x ∷ ms)) h.0.1.1.1 ∙ none_behind ms h.1

none_popped : (ends : List Mark) → AreEnds ends → updates_in ends ≡ []
none_popped [] h = refl
none_popped (m ∷ ms) h = ap (λ (x : Mark). updates_in (x ∷ ms)) h.0.1.1.1 ∙ none_popped ms h.1

none_entered : (ends : List Mark) → AreEnds ends → list_any is_entry ends ≡ false
none_entered [] h = refl
none_entered (m ∷ ms) h = ap (λ (x : Mark). list_any is_entry (x ∷ ms)) h.0.1.1.1 ∙ none_entered ms h.1

none_heavy : (ends : List Mark) → AreEnds ends → list_any is_overweight ends ≡ false
none_heavy [] h = refl
none_heavy (m ∷ ms) h = ap (λ (x : Mark). list_any is_overweight (x ∷ ms)) h.0.1.1.1 ∙ none_heavy ms h.1

or_false : (b c : Bool) → c ≡ false → (b || c) ≡ b
or_false true c e = refl
or_false false c e = e

module _ (ends : List Mark) (are : AreEnds ends) where
  found_same : (states : List RecState) (ms : List Mark) → found_by states (ms ++ ends) ≡ found_by states ms
  found_same states [] = none_found states ends are
  found_same states (Read at channel footprint found ∷ ms) = found_same (laid states footprint found) ms
  found_same states (Entered at entry looked found ∷ ms) = found_same (laid states looked found) ms
  found_same states (m ∷ ms) = found_same states ms

  entry_same : (states : List RecState) (ms : List Mark) → found_by states (from_entry (ms ++ ends)) ≡ found_by states (from_entry ms)
  entry_same states [] = ap (found_by states) (none_behind ends are)
  entry_same states (Entered at entry looked found ∷ ms) = found_same (laid states looked found) ms
  entry_same states (m ∷ ms) = entry_same states ms

  first_same : (ms : List Mark) → first_found (ms ++ ends) ≡ first_found ms
  first_same [] = none_first ends are
  first_same (Read at channel footprint found ∷ ms) = refl
  first_same (m ∷ ms) = first_same ms

  popped_same : (ms : List Mark) → updates_in (ms ++ ends) ≡ updates_in ms
  popped_same [] = none_popped ends are
  popped_same (Popped at slot (Some update) ∷ ms) = ap (λ (us : List Update). update ∷ us) (popped_same ms)
  popped_same (Popped at slot None ∷ ms) = popped_same ms
  popped_same (m ∷ ms) = popped_same ms

  any_same : (test : Mark → Bool) (ms : List Mark) → list_any test ends ≡ false → list_any test (ms ++ ends) ≡ list_any test ms
  any_same test [] none = none
  any_same test (m ∷ ms) none = ap (λ (b : Bool). test m || b) (any_same test ms none)

  put_same : (ms : List Mark) → was_put (ms ++ ends) ≡ was_put ms
  put_same ms =
      let entered = any_same is_entry ms (none_entered ends are) in
      let heavy = any_same is_overweight ms (none_heavy ends are) in
      λ i. entered i && not (heavy i)

  module _ (ask : Ask) (site : SiteData) (ms : List Mark) where
    shown_same : (channel : Channel) (r : Result Wanted RequestFault) (one other : List Mark) → found_by site.opening one ≡ found_by site.opening other → shown_text site one channel r ≡ shown_text site other channel r
    shown_same channel (Ok wanted) one other same = ap (λ (states : List RecState). leaves_text (type_of site channel) wanted.mask (value_of site channel states)) same
    shown_same channel (Err fault) one other same = refl

    valued_same : (channel : Channel) (op : Operation) → valued_text site (ms ++ ends) ask channel op ≡ valued_text site ms ask channel op
    valued_same channel operation.Get = shown_same channel (request_of (type_of site channel) roots.Field (get_request ask)) (ms ++ ends) ms (found_same site.opening ms)
    valued_same channel (operation.Put words) = refl
    valued_same channel (operation.PutGet words) =
        let shown = shown_same channel (request_of (type_of site channel) roots.GetField (put_get_request ask)) (from_entry (ms ++ ends)) (from_entry ms) (entry_same site.opening ms) in
        let put = put_same ms in
        λ i. cond (put i) (shown i) []
    valued_same channel (operation.Monitor queue window count) = ap (λ (us : List Update). flat_map (update_text (type_of site channel)) (take (awaited_updates count) us)) (popped_same ms)
    valued_same channel operation.Info = refl
    valued_same channel (operation.Call name) = refl

    service_same : (r : Result RpcOp RpcRefusal) → service_text site (ms ++ ends) r ≡ service_text site ms r
    service_same (Ok services.Channels) = refl
    service_same (Ok services.Info) = refl
    service_same (Ok services.Snapshot) = ap (λ (found : List RecState). whole_text snapshot_tree (rows_data (rows_shown site.names found))) (first_same ms)
    service_same (Err refusal) = refl

    unvalued_same : (op : Operation) → unvalued_text site (ms ++ ends) op ≡ unvalued_text site ms op
    unvalued_same operation.Get = refl
    unvalued_same (operation.Put words) = refl
    unvalued_same (operation.PutGet words) = refl
    unvalued_same (operation.Monitor queue window count) = refl
    unvalued_same operation.Info = refl
    unvalued_same (operation.Call name) = service_same (operation_named name)

    channel_same : (o : Option Channel) → channel_text site (ms ++ ends) ask o ≡ channel_text site ms ask o
    channel_same None = refl
    channel_same (Some channel) =
        let valued = valued_same channel ask.operation in
        let unvalued = unvalued_same ask.operation in
        λ i. cond (has_values channel) (valued i) (unvalued i)

-- what the marks tell is told before the subscriptions end
pub told_before : (ask : Ask) (site : SiteData) (slots : List ℕ) (ms ends : List Mark) (o : Option Channel) → AreEndingsOf slots ends → channel_text site (ms ++ ends) ask o ≡ channel_text site ms ask o
told_before ask site slots ms ends o are = channel_same ends (are_ends slots ends are) ask site ms o

pub popped_before : (slots : List ℕ) (ms ends : List Mark) → AreEndingsOf slots ends → updates_in (ms ++ ends) ≡ updates_in ms
popped_before slots ms ends are = popped_same ends (are_ends slots ends are) ms
