use Rattle.std.proofs.Common.{◌≡◌, ◌∙◌, ap, sym, refl, List, ℕ, Ok}
use Rattle.pva_wire.specs.Input.{Input}
use Rattle.pvd_desc.proofs.Calls.{read_gave, read_failed}
use Rattle.pvd_desc.proofs.cursor.read_desc.Goals as goal

pub returns-in_ok-commit-in-Ok : goal.returns-in_ok-commit-in-Ok
returns-in_ok-commit-in-Ok c =
    let from = c.args.from.now in
    let gave = rw (c.new-defined.ensures, c.order.ensures, c.rest-bytes.ensures) at c.in-Ok.ensures in
    let rest_is : c.go_to.new.self.rest ≡ c.in-Ok.rest.now = ap (λ (input : Input). input.rest) c.go_to.ensures in
    record {
      exact = (
        read_gave from.order c.args.registry.now from.rest c.in-Ok.rest.now c.desc_at.new.changed c.commit.new.self c.in-Ok.ty gave c.in_ok-commit-in-Ok.ensures.ok
            ∙ ap (λ (rest : List ℕ). Ok (c.in-Ok.ty, rest, c.commit.new.self)) (sym rest_is),
        c.go_to.ensures ∙ ap (λ (rest : List ℕ). record { order = from.order; end = from.end; rest = rest }) (sym rest_is),
      );
    }

pub returns-in-Err : goal.returns-in-Err
returns-in-Err c =
    let from = c.args.from.now in
    let failed = rw (c.new-defined.ensures, c.order.ensures, c.rest-bytes.ensures) at c.in-Err.ensures in
    record { exact = (rw (c.placed.ensures, c.length.ensures) (read_failed from.order c.args.registry.now from.rest from.end c.in-Err.stop failed), refl, refl) }
