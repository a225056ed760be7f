-- Whole messages: what spells one is read as it, and what is read is spelled at the front.
use Rattle.std.proofs.Common.{◌≡◌, ◌∙◌, ℕ, List, [], ◌++◌, Option, Some, None, Ok, refl, sym, ap, subst}
use Rattle.pva_wire.specs.declared.order.Order.{Order}
use Rattle.pva_wire.specs.Spelling.{IsBytes}
use Rattle.pva_wire.proofs.Takes.{ok_is, bind_ok}
use Rattle.pvd_type.specs.Tree.{Tree}
use Rattle.pvd_desc.specs.Types.{Types}
use Rattle.pvd_codec.specs.Reading.{Read, State}
use Rattle.pva_messages.specs.Fields.{Field}
use Rattle.pva_messages.specs.Rows.{Row, command_of, to_server, to_client}
use Rattle.pva_messages.specs.Requests as requests
use Rattle.pva_messages.specs.Requests.{Request, request_of}
use Rattle.pva_messages.specs.Replies as replies
use Rattle.pva_messages.specs.Replies.{Reply, reply_of}
use Rattle.pva_messages.specs.Reading.{stages_at, message_at, row_of, made_by, request_at, reply_at}
use Rattle.pva_messages.specs.Payloads.{IsMessage, IsRequest, IsReply}
use Rattle.pva_messages.specs.Laws.{OneRequest, OneReply}
use Rattle.pva_messages.proofs.Again.{stages_again}
use Rattle.pva_messages.proofs.Found.{stages_take}

-- a message that was taken from the front
abbrev pub Begins : {M : Type 0} → (List ℕ → List ℕ → M → Types → Type 0) → List ℕ → M × State → Type 0
Begins Is bytes x = (front : List ℕ) × Is front x.1.0 x.0 x.1.1 × (bytes ≡ front ++ x.1.0)

module _ {M : Type 0} (o : Order) (made : List Field → M) (skipped : M) (before : Types) where
  pub message_again : (row : Option Row) (front follow : List ℕ) (m : M) (after : Types) → IsMessage o row made skipped before front follow m after → message_at o row made skipped (front ++ follow, before) ≡ Ok (m, (follow, after))
  message_again None front follow m after h = rw (h.0, h.1, h.2) refl
  message_again (Some row) front follow m after (fields, of, spelled, is) = rw (stages_again o row [] fields before front follow after of spelled, is) refl

  pub message_takes : (row : Option Row) (bytes : List ℕ) (x : M × State) → IsBytes bytes → message_at o row made skipped (bytes, before) ≡ Ok x → Begins (λ front follow m after. IsMessage o row made skipped before front follow m after) bytes x
  message_takes None bytes x fits h =
      subst (Begins (λ front follow m after. IsMessage o None made skipped before front follow m after) bytes) (ok_is (skipped, (bytes, before)) x h) ([], (refl, refl, refl), refl)
  message_takes (Some row) bytes x fits h =
      let fields = bind_ok (stages_at o row [] (bytes, before)) (λ fields. Ok (made fields.0, fields.1)) x h in
      let (these, front, all, of, spelled, took) = stages_take o row [] (bytes, before) fields.0 fits fields.1 in
      subst (Begins (λ front follow m after. IsMessage o (Some row) made skipped before front follow m after) bytes) (ok_is (made fields.0.0, fields.0.1) x fields.2)
      (front, (these, of, spelled, ap made all), took.parts)

pub request_again : (o : Order) (known : Option Tree) (command : ℕ) (before : Types) (front follow : List ℕ) (m : Request) (after : Types) → IsRequest o known command before front follow m after
    → request_at o known command (front ++ follow, before) ≡ Ok (m, (follow, after))
unfolding request_at IsRequest
request_again o known command before front follow m after h =
    message_again o (made_by request_of (requests.skipped command) (command_of command)) (requests.skipped command) before (row_of (to_server known) (command_of command)) front follow m after h

pub request_takes : (o : Order) (known : Option Tree) (command : ℕ) (before : Types) (bytes : List ℕ) (x : Request × State) → IsBytes bytes → request_at o known command (bytes, before) ≡ Ok x
    → Begins (λ front follow m after. IsRequest o known command before front follow m after) bytes x
unfolding request_at IsRequest
request_takes o known command before bytes x fits h =
    message_takes o (made_by request_of (requests.skipped command) (command_of command)) (requests.skipped command) before (row_of (to_server known) (command_of command)) bytes x fits h

pub reply_again : (o : Order) (known : Option Tree) (command : ℕ) (before : Types) (front follow : List ℕ) (m : Reply) (after : Types) → IsReply o known command before front follow m after
    → reply_at o known command (front ++ follow, before) ≡ Ok (m, (follow, after))
unfolding reply_at IsReply
reply_again o known command before front follow m after h =
    message_again o (made_by reply_of (replies.skipped command) (command_of command)) (replies.skipped command) before (row_of (to_client known) (command_of command)) front follow m after h

pub reply_takes : (o : Order) (known : Option Tree) (command : ℕ) (before : Types) (bytes : List ℕ) (x : Reply × State) → IsBytes bytes → reply_at o known command (bytes, before) ≡ Ok x
    → Begins (λ front follow m after. IsReply o known command before front follow m after) bytes x
unfolding reply_at IsReply
reply_takes o known command before bytes x fits h =
    message_takes o (made_by reply_of (replies.skipped command) (command_of command)) (replies.skipped command) before (row_of (to_client known) (command_of command)) bytes x fits h

same_read : {M : Type 0} (read : Read State M) (x y : M) (r s : List ℕ) (after later : Types) → read ≡ Ok (x, (r, after)) → read ≡ Ok (y, (s, later)) → (x ≡ y) × (r ≡ s) × (after ≡ later)
same_read {M} read x y r s after later p q =
    let same = ok_is (x, (r, after)) (y, (s, later)) (sym p ∙ q) in
    (ap (λ (z : M × State). z.0) same, ap (λ (z : M × State). z.1.0) same, ap (λ (z : M × State). z.1.1) same)

pub one_request : OneRequest
one_request o known command before a b r s x y after later p q e =
    same_read (request_at o known command (a ++ r, before)) x y r s after later (request_again o known command before a r x after p)
    (ap (λ (bytes : List ℕ). request_at o known command (bytes, before)) e ∙ request_again o known command before b s y later q)

pub one_reply : OneReply
one_reply o known command before a b r s x y after later p q e =
    same_read (reply_at o known command (a ++ r, before)) x y r s after later (reply_again o known command before a r x after p)
    (ap (λ (bytes : List ℕ). reply_at o known command (bytes, before)) e ∙ reply_again o known command before b s y later q)
