-- What was sent for a turn is what its table says.
use Rattle.std.proofs.Common.{◌≡◌, ◌==◌, ◌<◌, ◌^◌, ℕ, Bool, true, cond, List, [], ◌∷◌, ◌++◌, Option, Result, Ok, Err, refl, ap, sym, subst, ◌∙◌, append_assoc}
use Rattle.std.proofs.lemmas.List.{append-nil}
use Rattle.std.specs.Prelude.{OnOk}
use Rattle.pvd_type.specs.Tree.{Tree}
use Rattle.pva_messages.specs.Laws.{IsWritable}
use Rattle.pva_messages.specs.Requests.{Request}
use Rattle.cli_session.specs.Calls.{Went, Took}
use Rattle.cli_session.specs.declared.ask.Ask.{Ask}
use Rattle.cli_session.specs.declared.fault.ClientFault.{ClientFault}
use Rattle.cli_session.specs.declared.turn.Turn.{Turn}
use Rattle.cli_session.specs.Messages.{said, control, spelled}
use Rattle.cli_session.specs.State.{State}
use Rattle.cli_session.specs.Steps.{Taken, Told, quietly, saying, echoing, next, heard_control}

-- of what a call ensures twice
on_ok_both : {E A B C : Type 0} (result : Result (Unit {0}) E) → (A → B → C) → OnOk result A → OnOk result B → OnOk result C
on_ok_both (Ok u) f a b = f a b
on_ok_both (Err e) f a b = tt

-- a message that was written
pub said_written : {E : Type 0} (result : Result (Unit {0}) E) (s : State) (before after : List ℕ) (m : Request) → 0 < s.segment
    → OnOk result (after ≡ before ++ spelled s.order s.segment (said m)) → OnOk result (IsWritable m) → OnOk result (Went (saying s (m ∷ []) []) s before after)
said_written result s before after m some bytes can =
    on_ok_both result
    (λ (is : after ≡ before ++ spelled s.order s.segment (said m)) (writable : IsWritable m). record {
      state = refl;
      bytes = is ∙ ap (λ (xs : List ℕ). before ++ xs) (sym (append-nil (spelled s.order s.segment (said m))));
      written = ((some, writable), tt);
    })
    bytes can

module _ {E : Type 0} (result : Result (Unit {0}) E) where
  -- the same of the message and the state that these are
  pub said_as : (new t : State) (before after : List ℕ) (m n : Request) → m ≡ n → new ≡ t → OnOk result (Went (saying new (m ∷ []) []) new before after)
      → OnOk result (Went (saying t (n ∷ []) []) new before after)
  said_as new t before after m n same is went =
      subst (λ (x : State). OnOk result (Went (saying x (n ∷ []) []) new before after)) is
      (subst (λ (x : Request). OnOk result (Went (saying new (x ∷ []) []) new before after)) same went)

  -- two messages
  pub two_said : (s : State) (req : Option ℕ) (ty : Option Tree) (before mid after : List ℕ) (a b : Request) → Went (saying s (a ∷ []) []) s before mid
      → OnOk result (Went (saying (record s { req = req; ty = ty }) (b ∷ []) []) (record s { req = req; ty = ty }) mid after)
      → OnOk result (Went (saying (record s { req = req; ty = ty }) (a ∷ b ∷ []) []) (record s { req = req; ty = ty }) before after)
  two_said s req ty before mid after a b first more =
      let new : State = record s { req = req; ty = ty } in
      let one = spelled s.order s.segment (said a) in
      let two = spelled s.order s.segment (said b) ++ [] in
      on_ok_both result
      (λ (w : Went (saying new (b ∷ []) []) new mid after) (same : Went (saying new (b ∷ []) []) new mid after). record {
        state = refl;
        bytes =
            w.bytes ∙ ap (λ (xs : List ℕ). xs ++ two) first.bytes ∙ append_assoc before (one ++ []) two
            ∙ ap (λ (xs : List ℕ). before ++ (xs ++ two)) (append-nil one);
        written = (first.written.0, (w.written.0, tt));
      })
      more more

-- What was told beside it.
pub told_beside : (s new : State) (ms : List Request) (before after : List ℕ) (told : List Told) → Went (saying s ms []) new before after → Took (Ok (saying s ms told)) new before after told
told_beside s new ms before after told went =
    record { taken = saying s ms told; is = refl; went = record { state = went.state; bytes = went.bytes; written = went.written }; told_is = refl }

-- nothing was sent or told
pub quiet : (outcome : Result Taken ClientFault) (s new : State) (before after : List ℕ) (told : List Told) → outcome ≡ Ok (quietly s) → new ≡ s → after ≡ before → told ≡ [] → Took outcome new before after told
quiet outcome s new before after told is same none untold =
    record { taken = quietly s; is = is; went = record { state = same; bytes = none ∙ sym (append-nil before); written = tt }; told_is = untold }

-- the next message tells nothing
next_told : (ask : Ask) (s : State) (later : List Turn) → (next ask s later).told ≡ []
next_told ask s [] = refl
next_told ask s (turn ∷ later) = refl

pub went_on : (ask : Ask) (s new : State) (later : List Turn) (before after : List ℕ) (told : List Told) → Went (next ask s later) new before after → told ≡ []
    → Took (Ok (next ask s later)) new before after told
went_on ask s new later before after told went untold = record { taken = next ask s later; is = refl; went = went; told_is = untold ∙ sym (next_told ask s later) }

-- a control message
pub echoed : (outcome : Result Taken ClientFault) (s new : State) (before after : List ℕ) (told : List Told) (number : ℕ) → outcome ≡ Ok (echoing s number)
    → Went (echoing s number) new before after → told ≡ [] → Took outcome new before after told
echoed outcome s new before after told number is went untold = record { taken = echoing s number; is = is; went = went; told_is = untold }

abbrev pub by_control : State → ℕ → Bool → Bool → Taken
by_control s number turns asks = cond turns (quietly (record s { order_told = true })) (cond asks (echoing s number) (quietly s))

pub control_of : (s : State) (command number : ℕ) (turns asks : Bool) → (command == 2) ≡ turns → (command == 3) ≡ asks → heard_control s command number ≡ by_control s number turns asks
control_of s command number turns asks p q = ap (λ (b : Bool). by_control s number b (command == 3)) p ∙ ap (λ (b : Bool). by_control s number turns b) q

-- a control message that was written
pub control_written : {E : Type 0} (result : Result (Unit {0}) E) (s : State) (before after : List ℕ) (number : ℕ) → number < 2 ^ 32
    → OnOk result (after ≡ before ++ spelled s.order s.segment (control 4 number)) → OnOk result (Went (echoing s number) s before after)
control_written result s before after number fits bytes =
    on_ok_both result
    (λ (is : after ≡ before ++ spelled s.order s.segment (control 4 number)) (same : after ≡ before ++ spelled s.order s.segment (control 4 number)). record {
      state = refl;
      bytes = is ∙ ap (λ (xs : List ℕ). before ++ xs) (sym (append-nil (spelled s.order s.segment (control 4 number))));
      written = (fits, tt);
    })
    bytes bytes
