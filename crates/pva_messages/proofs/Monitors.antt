-- A monitor's reply, which has three stages.
use Rattle.std.proofs.Common.{◌≡◌, ◌∙◌, ℕ, Bool, true, false, cond, List, [], ◌∷◌, ◌++◌, Option, Some, None, if◌then◌else◌, Ok, refl, ap}
use Rattle.std.specs.Ordering.{nat_cmp}
use Rattle.std.specs.FinSet.{FinSet}
use Rattle.pva_wire.specs.declared.order.Order.{Order}
use Rattle.pva_wire.specs.declared.status.Status.{Status}
use Rattle.pva_wire.specs.Reading.{◌>>=◌}
use Rattle.pva_wire.proofs.Takes.{ok_is, bind_ok}
use Rattle.pvd_type.specs.Tree.{Tree}
use Rattle.pvd_codec.specs.declared.fault.ValueStop.{ValueStop}
use Rattle.pvd_codec.specs.Reading.{State, Fails}
use Rattle.pvd_codec.proofs.Steps.{bind_fails}
use Rattle.pva_messages.specs.declared.command.Command.TheVariants as command
use Rattle.pva_messages.specs.Items.{Item}
use Rattle.pva_messages.specs.Items as item
use Rattle.pva_messages.specs.Fields.{Field, PartData, byte, word, status}
use Rattle.pva_messages.specs.Subcommands.{begins, ends, carries}
use Rattle.pva_messages.specs.Rows.{by_status, begun_reply, updates, monitor_next}
use Rattle.pva_messages.specs.Replies.{reply_of, type_in, update_field, skipped, monitor_begun, monitor_update, monitor_end}
use Rattle.pva_messages.specs.Reading.{picked, all_at, stages_at, reply_row_at}
use Rattle.pva_messages.proofs.Steps.{unpicked, head_fails}

either : {A : Type 0} (b : Bool) (x : A) → cond b x x ≡ x
either true x = refl
either false x = refl

module _ (o : Order) (known : Option Tree) (st : State) where
  pub monitor_head_fails : (e : ValueStop) → Fails e (all_at o (item.word ∷ item.byte ∷ []) st) → Fails e (reply_row_at o known command.Monitor st)
  monitor_head_fails e h = head_fails o (item.word ∷ item.byte ∷ []) (reply_of command.Monitor) (skipped 0) st (monitor_next known ∷ by_status begun_reply ∷ []) e h

  module _ (mid : State) (req sub : ℕ) (head : all_at o (item.word ∷ item.byte ∷ []) st ≡ Ok (word req ∷ byte sub ∷ [], mid)) where
    abbrev hs : List Field
    hs = word req ∷ byte sub ∷ []

    second_fails : (e : ValueStop) → Fails e (all_at o (monitor_next known hs) mid) → Fails e (reply_row_at o known command.Monitor st)
    unfolding stages_at
    second_fails e h =
        rw head (bind_fails e (all_at o (monitor_next known hs) mid >>= λ x. stages_at o (by_status begun_reply ∷ []) (hs ++ x.0) x.1) (λ fields. Ok (reply_of command.Monitor fields.0, fields.1))
        (bind_fails e (all_at o (monitor_next known hs) mid) (λ x. stages_at o (by_status begun_reply ∷ []) (hs ++ x.0) x.1) h))

    third_fails : (ms : List Field) (later : State) (e : ValueStop) → all_at o (monitor_next known hs) mid ≡ Ok (ms, later) → Fails e (all_at o (by_status begun_reply (hs ++ ms)) later) → Fails e (reply_row_at o known command.Monitor st)
    unfolding stages_at
    third_fails ms later e second h =
        rw (head, second) (bind_fails e (all_at o (by_status begun_reply (hs ++ ms)) later >>= λ x. Ok ((hs ++ ms) ++ x.0, x.1)) (λ fields. Ok (reply_of command.Monitor fields.0, fields.1))
        (bind_fails e (all_at o (by_status begun_reply (hs ++ ms)) later) (λ x. Ok ((hs ++ ms) ++ x.0, x.1)) h))

    all_is : (ms ts : List Field) (later after : State) → all_at o (monitor_next known hs) mid ≡ Ok (ms, later) → all_at o (by_status begun_reply (hs ++ ms)) later ≡ Ok (ts, after)
        → reply_row_at o known command.Monitor st ≡ Ok (reply_of command.Monitor ((hs ++ ms) ++ ts), after)
    unfolding stages_at
    all_is ms ts later after second third = rw (head, second, third) refl

    pub begun_status_fails : (e : ValueStop) → begins sub ≡ true → Fails e (all_at o (item.status ∷ []) mid) → Fails e (reply_row_at o known command.Monitor st)
    begun_status_fails e b h = second_fails e (rw b h)

    pub ended_fails : (e : ValueStop) → begins sub ≡ false → ends sub ≡ true → Fails e (all_at o (item.status ∷ []) mid) → Fails e (reply_row_at o known command.Monitor st)
    ended_fails e b d h = second_fails e (rw (b, d) h)

    pub update_fails : (e : ValueStop) → begins sub ≡ false → ends sub ≡ false → Fails e (all_at o (updates known) mid) → Fails e (reply_row_at o known command.Monitor st)
    update_fails e b d h = second_fails e (rw (b, d) h)

    module _ (s : Status) (later : State) (second : all_at o (item.status ∷ []) mid ≡ Ok (status s ∷ [], later)) where
      begun_second : begins sub ≡ true → all_at o (monitor_next known hs) mid ≡ Ok (status s ∷ [], later)
      begun_second b = rw b second

      begun_third : begins sub ≡ true → all_at o (by_status begun_reply (hs ++ status s ∷ [])) later ≡ all_at o (if carries s then item.description ∷ [] else []) later
      begun_third b = rw b refl

      pub begun_type_fails : (e : ValueStop) → begins sub ≡ true → Fails e (picked type_in (all_at o (if carries s then item.description ∷ [] else []) later)) → Fails e (reply_row_at o known command.Monitor st)
      begun_type_fails e b h =
          third_fails (status s ∷ []) later e (begun_second b) (rw (begun_third b) (unpicked type_in (all_at o (if carries s then item.description ∷ [] else []) later) e h))

      pub begun_is : (t : Option Tree) (after : State) → begins sub ≡ true → picked type_in (all_at o (if carries s then item.description ∷ [] else []) later) ≡ Ok (t, after)
          → reply_row_at o known command.Monitor st ≡ Ok (monitor_begun req sub s t, after)
      begun_is t after b h =
          let ts = bind_ok (all_at o (if carries s then item.description ∷ [] else []) later) (λ fields. Ok (type_in fields.0, fields.1)) (t, after) h in
          all_is (status s ∷ []) ts.0.0 later ts.0.1 (begun_second b) (begun_third b ∙ ts.1)
          ∙ rw b refl
          ∙ ap (λ (x : Option Tree × State). Ok (monitor_begun req sub s x.0, x.1)) (ok_is (type_in ts.0.0, ts.0.1) (t, after) ts.2)

      ended_third : begins sub ≡ false → all_at o (by_status begun_reply (hs ++ status s ∷ [])) later ≡ Ok ([], later)
      unfolding all_at
      ended_third b = rw (b, either {A = List Item} (carries s) []) refl

      pub ended_is : begins sub ≡ false → ends sub ≡ true → reply_row_at o known command.Monitor st ≡ Ok (monitor_end req sub s, later)
      ended_is b d = all_is (status s ∷ []) [] later later (rw (b, d) second) (ended_third b) ∙ rw (b, d) refl

    pub update_is : (u : Option (PartData × FinSet nat_cmp)) (after : State) → begins sub ≡ false → ends sub ≡ false → all_at o (updates known) mid ≡ Ok (update_field u, after)
        → reply_row_at o known command.Monitor st ≡ Ok (monitor_update req sub u, after)
    unfolding all_at
    update_is None after b d h = all_is [] [] after after (rw (b, d) h) refl ∙ rw (b, d) refl
    update_is (Some u) after b d h = all_is (update_field (Some u)) [] after after (rw (b, d) h) refl ∙ rw (b, d) refl
