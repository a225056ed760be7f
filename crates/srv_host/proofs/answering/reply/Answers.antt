use Rattle.std.proofs.Common.{rules, ◌≡◌, ◌∷◌, [], ℕ, List, Some, sym, ap, refl, ◌∙◌}
use Rattle.pva_outside.specs.Traffic.{Traffic, Tried}
use Rattle.srv_host.specs.Datagrams.{GoesOn, knows, sends}
use Rattle.srv_host.proofs.Passing.{kind_as, went_none}
use Rattle.srv_host.proofs.answering.reply.Goals as goal

pub returns-in-Ok-Some : goal.returns-in-Ok-Some
returns-in-Ok-Some g c =
    let is = rw c.in-Ok-Some.field-0-is at (c.in-Ok-Some.ensures.value (knows c.args.site.now) (λ text r utf8 returns. search rules)) in
    kind_as _ _ _ _ _ (ap (λ (l : List ℕ). Tried l c.in-Ok-Some.to ∷ []) c.deref.ensures.value ∙ ap sends is) c.send.ensures

pub returns-in-Ok-None : goal.returns-in-Ok-None
returns-in-Ok-None g c =
    let is = rw c.in-Ok-None.field-0-is at (c.in-Ok-None.ensures.value (knows c.args.site.now) (λ text r utf8 returns. search rules)) in
    ([], ap sends is, went_none _)
