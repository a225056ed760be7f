use Rattle.std.proofs.Common.{◌≡◌, ◌∙◌, ap, sym, subst, refl, List, ℕ, Ok, Err, rules}
use Rattle.pva_wire.specs.Input.{Input}
use Rattle.pva_wire.specs.Spelling.{IsBytes}
use Rattle.pvd_value.specs.View.{view}
use Rattle.pvd_codec.specs.Reading.{part_at}
use Rattle.pvd_codec.proofs.Calls.{read_gave, read_failed, answers}
use Rattle.pvd_codec.specs.Faults.{part_view}
use Rattle.pvd_codec.proofs.PartAgain.{part_is_read}
use Rattle.pvd_codec.proofs.FoundParts.{read_is_part}
use Rattle.pvd_codec.proofs.FittingValues.{part_fits}
use Rattle.pvd_codec.proofs.cursor.read_part.Goals as goal

pub returns-in_ok-commit-in-Ok-clause-exact : goal.returns-in_ok-commit-in-Ok-clause-exact
returns-in_ok-commit-in-Ok-clause-exact c =
    let from = c.args.from.now in
    let gave = rw (c.new-defined.ensures, c.order.ensures, c.rest-bytes.ensures) at c.in-Ok.ensures.exact in
    let rest_is : c.go_to.new.self.rest ≡ c.in-Ok.rest.now = ap (λ (input : Input). input.rest) c.go_to.ensures in (
      read_gave (part_at from.order c.args.ty.now) c.args.registry.now from.rest c.in-Ok.rest.now c.part_at.new.changed c.commit.new.self (c.in-Ok.mask, view c.in-Ok.value) gave c.in_ok-commit-in-Ok.ensures.ok
          ∙ ap (λ (rest : List ℕ). Ok ((c.in-Ok.mask, view c.in-Ok.value), (rest, c.commit.new.self))) (sym rest_is),
      c.go_to.ensures ∙ ap (λ (rest : List ℕ). record { order = from.order; end = from.end; rest = rest }) (sym rest_is),
    )

pub returns-in_ok-commit-in-Ok-clause-spelled : goal.returns-in_ok-commit-in-Ok-clause-spelled
returns-in_ok-commit-in-Ok-clause-spelled c =
    let from = c.args.from.now in
    let fits : IsBytes from.rest = subst IsBytes c.rest-bytes.ensures (λ i. search (rules, c.rest-bytes.items_fit i)) in
    read_is_part from.order c.args.registry.now c.args.ty.now from.rest c.in-Ok.mask (view c.in-Ok.value) c.go_to.new.self.rest c.commit.new.self fits (returns-in_ok-commit-in-Ok-clause-exact c).0

pub returns-in_ok-commit-in-Ok-clause-fits : goal.returns-in_ok-commit-in-Ok-clause-fits
returns-in_ok-commit-in-Ok-clause-fits c =
    let from = c.args.from.now in
    let (front, spelled, parts) = returns-in_ok-commit-in-Ok-clause-spelled c in
    part_fits from.order c.args.registry.now c.args.ty.now front c.in-Ok.mask (view c.in-Ok.value) c.commit.new.self spelled

pub returns-in-Err-clause-exact : goal.returns-in-Err-clause-exact
returns-in-Err-clause-exact c =
    let from = c.args.from.now in
    let failed = rw (c.new-defined.ensures, c.order.ensures, c.rest-bytes.ensures) at c.in-Err.ensures.exact in
    (rw (c.placed.ensures, c.length.ensures) (read_failed (part_at from.order c.args.ty.now) c.args.registry.now from.rest from.end c.in-Err.stop failed), refl, refl)

pub returns-in_ok-commit-in-Ok-clause-found : goal.returns-in_ok-commit-in-Ok-clause-found
returns-in_ok-commit-in-Ok-clause-found c = λ front rest mask v after part parts.
    let from = c.args.from.now in
    let read = ap (λ (bytes : List ℕ). part_at from.order c.args.ty.now (bytes, c.args.registry.now)) parts ∙ part_is_read from.order c.args.registry.now c.args.ty.now front rest mask v after part in
    answers from c.go_to.new.self c.args.registry.now c.commit.new.self part_view (Ok (c.in-Ok.mask, c.in-Ok.value)) (part_at from.order c.args.ty.now (from.rest, c.args.registry.now)) (mask, v) (rest, after) read (returns-in_ok-commit-in-Ok-clause-exact c)

pub returns-in-Err-clause-found : goal.returns-in-Err-clause-found
returns-in-Err-clause-found c = λ front rest mask v after part parts.
    let from = c.args.from.now in
    let read = ap (λ (bytes : List ℕ). part_at from.order c.args.ty.now (bytes, c.args.registry.now)) parts ∙ part_is_read from.order c.args.registry.now c.args.ty.now front rest mask v after part in
    answers from from c.args.registry.now c.args.registry.now part_view (Err c.placed.result) (part_at from.order c.args.ty.now (from.rest, c.args.registry.now)) (mask, v) (rest, after) read (returns-in-Err-clause-exact c)
