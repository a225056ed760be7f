use Rattle.std.proofs.Common.{ℕ, Bor, List, subst}
use Rattle.prog_client.specs.Routes.{IsHost}
use Rattle.prog_client.proofs.Routed.{are_ends, no_host, texts_of}
use Rattle.prog_client.proofs.routes.read_ends.Goals as goal

pub returns-in_default : goal.returns-in_default
returns-in_default c =
    no_host c.args.host.now c.args.port.now c.in_ok-parts.parts.items (c.in_ok-parts.ensures {u = tt}) (subst (λ (l : List (Bor (List ℕ))). (a : List ℕ) → ¬ (IsHost (texts_of l) a)) c.deref.ensures.value c.in_default.ensures)

pub returns : goal.returns
returns c =
    are_ends c.args.host.now c.args.port.now c.in_ok-parts.parts.items _ (c.in_ok-parts.ensures {u = tt}) (subst (λ (l : List (Bor (List ℕ))). IsHost (texts_of l) c.in-Some.address) c.deref.ensures.value c.in-Some.ensures)
    c.in-Some-read_port.ensures
