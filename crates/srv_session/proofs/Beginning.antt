-- Requests that begin.
use Rattle.std.proofs.Common.{◌≡◌, ℕ, ◌<◌, Bool, true, false, cond, List, [], ◌∷◌, ◌++◌, Option, None, Some, Result, Ok, Err, refl, sym, ◌∙◌, ap, subst, arith}
use Rattle.std.proofs.lemmas.Option.{none-some}
use Rattle.std.specs.Prelude.{IsTrue, option_map, is_some, IsSome, IfSome, codes}
use Rattle.std.specs.FinMap.{get, len}
use Rattle.std.proofs.lemmas.Bool.{false≢true}
use Rattle.std.proofs.lemmas.Bool.Decides.{nat_tests}
use Rattle.pvd_type.specs.Tree.{Tree}
use Rattle.pvd_type.specs.declared.memory.NoMemory.{NoMemory}
use Rattle.pvd_value.specs.declared.value.PvValue.{PvValue}
use Rattle.journal_core.specs.Moments.{Moment}
use Rattle.pva_messages.specs.Fields as field
use Rattle.pva_messages.specs.Fields.{Field, Valued}
use Rattle.pva_messages.specs.Requests as said
use Rattle.pva_messages.specs.Requests.{request_fields}
use Rattle.pva_messages.specs.Subcommands.{begins}
use Rattle.pva_messages.specs.Views.{valued_view, put_part_view}
use Rattle.pva_messages.specs.Written.{FitsField}
use Rattle.pva_messages.specs.declared.part.PutPart as put_parts
use Rattle.pvd_codec.specs.Written.{CanEach}
use Rattle.pvd_value.specs.Fits.{fits_of}
use Rattle.pvd_value.specs.View.{view}
use Rattle.pvd_request.specs.Requests.{shown as given_shown, request_of, Gives}
use Rattle.pvd_request.specs.declared.request.Request.{Request as Wanted}
use Rattle.pvd_request.specs.declared.request.RequestFault.{RequestFault}
use Rattle.pvd_request.specs.declared.request.RequestFault.TheVariants as faults
use Rattle.pvd_request.specs.declared.request.Root.{Root}
use Rattle.chan_table.specs.Tables.{Tables, limit, Refuses}
use Rattle.chan_table.specs.declared.answer.TableAnswer.{TableAnswer}
use Rattle.chan_table.specs.declared.answer.TableAnswer.TheVariants as places
use Rattle.chan_table.specs.declared.ask.AskKind.{AskKind}
use Rattle.desk_api.specs.History.{IsLegal}
use Rattle.desk_api.specs.declared.channel.Channel.{Channel}
use Rattle.desk_api.specs.declared.history.SiteData.{SiteData}
use Rattle.desk_api.specs.declared.mark.Seat.{Seat}
use Rattle.desk_api.specs.declared.sub.Sub.{Sub}
use Rattle.srv_session.specs.State.{State, Requests, is_full}
use Rattle.srv_session.specs.Replies.{is_call, refused}
use Rattle.srv_session.specs.Tasks.{Task, refuse, nothing_wanted, root_for, wanted_for, unfit_for, unfit, beginning, beginning_as, beginning_on}
use Rattle.srv_session.specs.Calls.{Takes}
use Rattle.srv_session.specs.Views.{state_of, output_of, show, RefusesFault, RefusesPlace}
use Rattle.srv_session.specs.declared.session.Session.{Session}
use Rattle.srv_session.proofs.Rows.{gave_up}

-- what a message gives is what is asked of
given_is : (o : Option (Tree × PvValue)) → given_shown o ≡ valued_view o
given_is None = refl
given_is (Some x) = refl

pub asked_as : (kind : AskKind) (ty channel_ty : Tree) (which : Root) (given other : Option (Tree × PvValue)) → is_call kind ≡ false → which ≡ root_for kind → ty ≡ channel_ty → other ≡ given
    → wanted_for kind channel_ty (valued_view given) ≡ request_of ty which (given_shown other)
asked_as kind ty channel_ty which given other call root_is ty_is same =
    ap (λ (b : Bool). cond b (Ok nothing_wanted) (request_of channel_ty (root_for kind) (valued_view given))) call
    ∙ ap (λ (t : Tree). request_of t (root_for kind) (valued_view given)) (sym ty_is)
    ∙ ap (λ (r : Root). request_of ty r (valued_view given)) (sym root_is)
    ∙ ap (request_of ty which) (sym (given_is given) ∙ ap given_shown (sym same))

-- a request structure is refused
pub fault_refused : (old new : Session) (seat : Seat) → IsLegal seat.seen → (moment : Moment) (kind : AskKind) (req sub sid : ℕ) (channel : Channel) (fault : RequestFault) (told : Result Wanted RequestFault)
    (result : Result (Unit {0}) NoMemory) → Gives (Err fault) told → RefusesFault old new kind req sub fault result
    → Takes (show seat old) (show seat new) moment (beginning_as kind req sub sid channel told) result
fault_refused old new seat legal moment kind req sub sid channel faults.NothingSelected told result is f =
    subst (λ (r : Result Wanted RequestFault). Takes (show seat old) (show seat new) moment (beginning_as kind req sub sid channel r) result) (sym is) (f seat legal moment)
fault_refused old new seat legal moment kind req sub sid channel (faults.BadOption name) told result is f =
    subst (λ (r : Result Wanted RequestFault). Takes (show seat old) (show seat new) moment (beginning_as kind req sub sid channel r) result) (sym is) (f seat legal moment)
fault_refused old new seat legal moment kind req sub sid channel faults.NoMemory told (Ok u) is f = absurd f
fault_refused old new seat legal moment kind req sub sid channel faults.NoMemory told (Err e) is f =
    gave_up seat moment (state_of old) (state_of new) (output_of old) (output_of new) (beginning_as kind req sub sid channel told) (Err e) legal refl f.output f.subscribed

-- Which row decides.
module _ (site : SiteData) (s : State) (kind : AskKind) (req sub sid : ℕ) (v : Valued) (o : Option Channel) where
  pub unknown_channel : o ≡ None → beginning site s kind req sub sid v o ≡ refuse (refused kind req sub (codes "unknown channel"))
  unknown_channel is = ap (beginning site s kind req sub sid v) is

  module _ (channel : Channel) (is : o ≡ Some channel) where
    abbrev in_use : Task
    in_use = refuse (refused kind req sub (codes "request id in use"))

    abbrev too_many : Task
    too_many = refuse (refused kind req sub (codes "too many requests"))

    abbrev others : Task
    others = beginning_on site kind req sub sid v channel (unfit kind channel)

    pub id_in_use : IsSome (get s.requests req) → beginning site s kind req sub sid v o ≡ in_use
    id_in_use some = ap (beginning site s kind req sub sid v) is ∙ ap (λ (b : Bool). cond b in_use (cond (is_full s.requests) too_many others)) some

    free : get s.requests req ≡ None → beginning site s kind req sub sid v o ≡ cond (is_full s.requests) too_many others
    free none =
        ap (beginning site s kind req sub sid v) is
        ∙ ap (λ (b : Bool). cond b in_use (cond (is_full s.requests) too_many others)) (ap (λ x. is_some x) none)

    pub are_too_many : get s.requests req ≡ None → len s.requests ≡ limit → beginning site s kind req sub sid v o ≡ too_many
    are_too_many none full =
        let test : is_full s.requests ≡ true = grind (arith, nat_tests) in free none ∙ ap (λ (b : Bool). cond b too_many others) test

    pub may_begin : get s.requests req ≡ None → len s.requests < limit → beginning site s kind req sub sid v o ≡ others
    may_begin none few =
        let test : is_full s.requests ≡ false = grind (arith, nat_tests) in free none ∙ ap (λ (b : Bool). cond b too_many others) test

    -- there is no place for it
    pub place_refused : (old new : Session) (seat : Seat) → IsLegal seat.seen → (moment : Moment) (answer : TableAnswer) (t : Tables Channel Sub) (result : Result (Unit {0}) NoMemory) → s.requests ≡ t.asks
        → Refuses t req answer → RefusesPlace old new kind req sub answer result → Takes (show seat old) (show seat new) moment (beginning site s kind req sub sid v o) result
    place_refused old new seat legal moment places.InUse t result same some f =
        subst (λ (x : Task). Takes (show seat old) (show seat new) moment x result) (sym (id_in_use (subst (λ (r : Requests). IsSome (get r req)) (sym same) some))) (f seat legal moment)
    place_refused old new seat legal moment (places.Full most) t result same full f =
        subst (λ (x : Task). Takes (show seat old) (show seat new) moment x result)
        (sym (are_too_many (ap (λ (r : Requests). get r req) same ∙ full.0) (ap (λ (r : Requests). len r) same ∙ full.1.full))) (f seat legal moment)
    place_refused old new seat legal moment places.NoMemory t (Ok u) same short f = absurd f
    place_refused old new seat legal moment places.NoMemory t (Err e) same short f =
        gave_up seat moment (state_of old) (state_of new) (output_of old) (output_of new) (beginning site s kind req sub sid v o) (Err e) legal refl f.output f.subscribed

-- What a message brings fits.

first_fits : (b : Bool) (v : Option (Tree × PvValue)) → b ≡ true → CanEach FitsField (cond b (field.valued (valued_view v) ∷ []) []) → IfSome v (λ r. fits_of 16 (view r.1) r.0 ≡ true)
first_fits true None is f = tt
first_fits true (Some r) is f = f.0
first_fits false v is f = absurd (false≢true is)

front_fits : (b : Bool) (v : Option (Tree × PvValue)) (more : List Field) → b ≡ true → CanEach FitsField (cond b (field.valued (valued_view v) ∷ []) [] ++ more) → IfSome v (λ r. fits_of 16 (view r.1) r.0 ≡ true)
front_fits true None more is f = tt
front_fits true (Some r) more is f = f.0
front_fits false v more is f = absurd (false≢true is)

pub get_fits : (sid req sub : ℕ) (v : Option (Tree × PvValue)) → CanEach FitsField (request_fields (said.get sid req sub (valued_view v))) → begins sub ≡ true
    → IfSome v (λ r. fits_of 16 (view r.1) r.0 ≡ true)
get_fits sid req sub v f is = first_fits (begins sub) v is f.1.1.1

pub put_fits : (sid req sub : ℕ) (v : Option (Tree × PvValue)) (part : put_parts.PutPart) → CanEach FitsField (request_fields (said.put sid req sub (valued_view v) (put_part_view part))) → begins sub ≡ true
    → IfSome v (λ r. fits_of 16 (view r.1) r.0 ≡ true)
put_fits sid req sub v part f is = front_fits (begins sub) v _ is f.1.1.1

pub put_get_fits : (sid req sub : ℕ) (v : Option (Tree × PvValue)) (part : put_parts.PutPart) → CanEach FitsField (request_fields (said.put_get sid req sub (valued_view v) (put_part_view part))) → begins sub ≡ true
    → IfSome v (λ r. fits_of 16 (view r.1) r.0 ≡ true)
put_get_fits sid req sub v part f is = front_fits (begins sub) v _ is f.1.1.1

pub monitor_fits : (sid req sub : ℕ) (v : Option (Tree × PvValue)) (count : Option ℕ) → CanEach FitsField (request_fields (said.monitor sid req sub (valued_view v) count)) → begins sub ≡ true
    → IfSome v (λ r. fits_of 16 (view r.1) r.0 ≡ true)
monitor_fits sid req sub v count f is = front_fits (begins sub) v _ is f.1.1.1

pub call_fits : (sid req sub : ℕ) (v : Option (Tree × PvValue)) → CanEach FitsField (request_fields (said.rpc sid req sub (valued_view v))) → IfSome v (λ r. fits_of 16 (view r.1) r.0 ≡ true)
call_fits sid req sub None f = tt
call_fits sid req sub (Some r) f = f.1.1.1.0

-- What fits on a channel.

pub no_text : {A : Type 0} (f : A → List ℕ) (o : Option A) → o ≡ None → option_map f o ≡ None
no_text f o is = ap (option_map f) is

pub fit_valued : (call valued : Bool) → unfit_for call valued ≡ None → call ≡ false → IsTrue valued
fit_valued true valued fit is = absurd (false≢true (sym is))
fit_valued false true fit is = refl
fit_valued false false fit is = absurd (none-some _ (sym fit))

-- a call wants nothing
pub call_wanted : (kind : AskKind) (ty : Tree) (v : Valued) → is_call kind ≡ true → wanted_for kind ty v ≡ Ok nothing_wanted
call_wanted kind ty v is = ap (λ (b : Bool). cond b (Ok nothing_wanted) (request_of ty (root_for kind) v)) is
