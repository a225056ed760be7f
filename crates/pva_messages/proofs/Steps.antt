-- Reading a row stage by stage.
use Rattle.std.proofs.Common.{◌≡◌, ◌∙◌, ℕ, List, [], ◌∷◌, ◌++◌, Some, if◌then◌else◌, Ok, Err, refl, ap}
use Rattle.pva_wire.specs.declared.order.Order.{Order}
use Rattle.pva_wire.specs.Reading.{◌>>=◌}
use Rattle.pva_wire.specs.declared.status.Status.{Status}
use Rattle.pva_wire.proofs.Takes.{ok_is, bind_ok}
use Rattle.pvd_codec.specs.declared.fault.ValueStop.{ValueStop}
use Rattle.pvd_codec.specs.declared.fault.ValueStop.TheVariants as stops
use Rattle.pvd_codec.specs.Reading.{Read, State, Fails}
use Rattle.pvd_codec.proofs.Steps.{bind_fails}
use Rattle.pva_messages.specs.Items.{Item}
use Rattle.pva_messages.specs.Items as item
use Rattle.pva_messages.specs.Fields.{Field, byte, word, status}
use Rattle.pva_messages.specs.Subcommands.{carries}
use Rattle.pva_messages.specs.Rows.{Stage, always, by_sub, request, by_status, reply}
use Rattle.pva_messages.specs.Reading.{picked, all_at, stages_at, message_at}

-- nothing is wrong with what was picked, unless with what was read
pub unpicked : {B : Type 0} (pick : List Field → B) (read : Read State (List Field)) (e : ValueStop) → Fails e (picked pick read) → Fails e read
unpicked pick read stops.Memory h = tt
unpicked pick (Ok x) (stops.Fault cause left) h = absurd cc
unpicked pick (Err e) (stops.Fault cause left) h = cc

module _ {M : Type 0} (o : Order) (heads : List Item) (made : List Field → M) (skipped : M) (st : State) where
  -- the first stage fails
  pub head_fails : (stages : List Stage) (e : ValueStop) → Fails e (all_at o heads st) → Fails e (message_at o (Some (always heads ∷ stages)) made skipped st)
  unfolding stages_at
  head_fails stages e h =
      bind_fails e (stages_at o (always heads ∷ stages) [] st) (λ fields. Ok (made fields.0, fields.1)) (bind_fails e (all_at o heads st) (λ x. stages_at o stages ([] ++ x.0) x.1) h)

  module _ (stage : Stage) (mid : State) (hs : List Field) (head : all_at o heads st ≡ Ok (hs, mid)) where
    -- the second stage fails
    pub next_fails : (e : ValueStop) → Fails e (all_at o (stage hs) mid) → Fails e (message_at o (Some (always heads ∷ stage ∷ [])) made skipped st)
    unfolding stages_at
    next_fails e h =
        rw head (bind_fails e (all_at o (stage hs) mid >>= λ x. Ok (hs ++ x.0, x.1)) (λ fields. Ok (made fields.0, fields.1)) (bind_fails e (all_at o (stage hs) mid) (λ x. Ok (hs ++ x.0, x.1)) h))

    -- both are read
    pub next_is : (fields : List Field) (after : State) → all_at o (stage hs) mid ≡ Ok (fields, after) → message_at o (Some (always heads ∷ stage ∷ [])) made skipped st ≡ Ok (made (hs ++ fields), after)
    unfolding stages_at
    next_is fields after h = rw (head, h) refl

    -- both are read, of which this is picked
    pub next_picked : {B : Type 0} (pick : List Field → B) (build : B → M) (b : B) (after : State) → ((fields : List Field) → made (hs ++ fields) ≡ build (pick fields))
        → picked pick (all_at o (stage hs) mid) ≡ Ok (b, after) → message_at o (Some (always heads ∷ stage ∷ [])) made skipped st ≡ Ok (build b, after)
    next_picked {B = B} pick build b after is h =
        let fields = bind_ok (all_at o (stage hs) mid) (λ fields. Ok (pick fields.0, fields.1)) (b, after) h in
        next_is fields.0.0 fields.0.1 fields.1 ∙ ap (λ (m : M). Ok (m, fields.0.1)) (is fields.0.0) ∙ ap (λ (x : B × State). Ok (build x.0, x.1)) (ok_is (pick fields.0.0, fields.0.1) (b, after) fields.2)

-- what a request begins with, and then what the subcommand says
module _ {M : Type 0} (o : Order) (made : List Field → M) (skipped : M) (next : ℕ → List Item) (st : State) where
  pub request_head_fails : (e : ValueStop) → Fails e (all_at o (item.word ∷ item.word ∷ item.byte ∷ []) st) → Fails e (message_at o (request next) made skipped st)
  request_head_fails e h = head_fails o (item.word ∷ item.word ∷ item.byte ∷ []) made skipped st (by_sub next ∷ []) e h

  module _ (mid : State) (sid req sub : ℕ) (head : all_at o (item.word ∷ item.word ∷ item.byte ∷ []) st ≡ Ok (word sid ∷ word req ∷ byte sub ∷ [], mid)) where
    pub request_next_fails : {B : Type 0} (pick : List Field → B) (e : ValueStop) → Fails e (picked pick (all_at o (next sub) mid)) → Fails e (message_at o (request next) made skipped st)
    request_next_fails pick e h =
        next_fails o (item.word ∷ item.word ∷ item.byte ∷ []) made skipped st (by_sub next) mid (word sid ∷ word req ∷ byte sub ∷ []) head e (unpicked pick (all_at o (next sub) mid) e h)

    pub request_is : {B : Type 0} (pick : List Field → B) (build : B → M) (b : B) (after : State) → ((fields : List Field) → made (word sid ∷ word req ∷ byte sub ∷ fields) ≡ build (pick fields))
        → picked pick (all_at o (next sub) mid) ≡ Ok (b, after) → message_at o (request next) made skipped st ≡ Ok (build b, after)
    request_is pick build b after is h =
        next_picked o (item.word ∷ item.word ∷ item.byte ∷ []) made skipped st (by_sub next) mid (word sid ∷ word req ∷ byte sub ∷ []) head pick build b after is h

-- what a reply begins with, and then what the subcommand says, where the status allows it
module _ {M : Type 0} (o : Order) (made : List Field → M) (skipped : M) (next : ℕ → List Item) (st : State) where
  pub reply_head_fails : (e : ValueStop) → Fails e (all_at o (item.word ∷ item.byte ∷ item.status ∷ []) st) → Fails e (message_at o (reply next) made skipped st)
  reply_head_fails e h = head_fails o (item.word ∷ item.byte ∷ item.status ∷ []) made skipped st (by_status next ∷ []) e h

  module _ (mid : State) (req sub : ℕ) (s : Status) (head : all_at o (item.word ∷ item.byte ∷ item.status ∷ []) st ≡ Ok (word req ∷ byte sub ∷ status s ∷ [], mid)) where
    pub reply_next_fails : {B : Type 0} (pick : List Field → B) (e : ValueStop) → Fails e (picked pick (all_at o (if carries s then next sub else []) mid)) → Fails e (message_at o (reply next) made skipped st)
    reply_next_fails pick e h =
        next_fails o (item.word ∷ item.byte ∷ item.status ∷ []) made skipped st (by_status next) mid (word req ∷ byte sub ∷ status s ∷ []) head e (unpicked pick (all_at o (if carries s then next sub else []) mid) e h)

    pub reply_is : {B : Type 0} (pick : List Field → B) (build : B → M) (b : B) (after : State) → ((fields : List Field) → made (word req ∷ byte sub ∷ status s ∷ fields) ≡ build (pick fields))
        → picked pick (all_at o (if carries s then next sub else []) mid) ≡ Ok (b, after) → message_at o (reply next) made skipped st ≡ Ok (build b, after)
    reply_is pick build b after is h =
        next_picked o (item.word ∷ item.byte ∷ item.status ∷ []) made skipped st (by_status next) mid (word req ∷ byte sub ∷ status s ∷ []) head pick build b after is h
