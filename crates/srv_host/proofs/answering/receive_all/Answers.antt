use Rattle.std.proofs.Common.{◌≡◌, ◌≤◌, ℕ, arith, subst}
use Rattle.srv_host.proofs.Passing.{Receiving, no_receive, one_receive, receives_end, receives_full, receives_in_part}
use Rattle.srv_host.proofs.answering.receive_all.Goals as goal

same : (a b : ℕ) → a ≤ b → b ≤ a → a ≡ b
same a b l m = omega arith

pub receives-init : goal.receives-init
receives-init g c = no_receive _ _ _

pub receives-preserved : goal.receives-preserved
receives-preserved g c =
    let e = rw c.in-Ok-true.field-0-test at c.in-Ok-true.ensures in
    one_receive _ _ c.receives.invariant e.1 e.2

pub returns-in-Ok-false : goal.returns-in-Ok-false
returns-in-Ok-false g c =
    let e = rw c.in-Ok-false.field-0-test at c.in-Ok-false.ensures in
    receives_end _ _ c.receives-test.true c.receives.invariant e.1 e.2

pub returns-in-Err : goal.returns-in-Err
returns-in-Err g c =
    let e = c.in-Err.ensures in
    receives_in_part _ _ e.0 c.receives-test.true c.receives.invariant e.1.1 e.1.2

pub returns : goal.returns
returns g c = receives_full _ _ (subst (Receiving _ _ _ _) (same c.receives.counter 16 c.receives.auto.counter-end c.receives-test.false) c.receives.invariant)
