use Rattle.std.proofs.Common.{◌∙◌, ℕ, List, refl, ap, rules}
use Rattle.pva_wire.specs.Spelling.{IsBytes}
use Rattle.pvd_value.specs.View.{view}
use Rattle.pvd_codec.specs.Grammar.{Part}
use Rattle.pvd_codec.specs.Reading.{part_at}
use Rattle.pvd_codec.specs.Faults.{part_view}
use Rattle.pvd_codec.proofs.Calls.{read_gave, read_failed}
use Rattle.pvd_codec.proofs.PartAgain.{part_is_read}
use Rattle.pvd_codec.proofs.FoundParts.{read_is_part}
use Rattle.pva_messages.proofs.Calls.{answers, cause_is, settled_gives, spelled_message, part_fitting}
use Rattle.pva_messages.proofs.reading.read_part.Goals as goal

pub returns-in-Ok-clause-exact : goal.returns-in-Ok-clause-exact
returns-in-Ok-clause-exact c =
    let read = part_at c.args.order c.args.ty.now in
    let base = c.args.registry.now in
    let gave = rw c.new-defined.ensures at c.in-Ok.ensures.exact in
    settled_gives c.args.command c.args.end base c.settled.new.registry c.part_at.new.changed part_view (c.in-Ok.mask, c.in-Ok.value) c.settled.result (read (c.args.bytes.now, base)) c.in-Ok._rest.now c.settled.ensures.ok c.settled.ensures.err
    (λ done. read_gave read base c.args.bytes.now c.in-Ok._rest.now c.part_at.new.changed c.settled.new.registry (c.in-Ok.mask, view c.in-Ok.value) gave done)

pub returns-in-Ok-clause-found : goal.returns-in-Ok-clause-found
returns-in-Ok-clause-found c = λ front rest mask v after part parts.
    let base = c.args.registry.now in
    let again = ap (λ (bytes : List ℕ). part_at c.args.order c.args.ty.now (bytes, base)) parts ∙ part_is_read c.args.order base c.args.ty.now front rest mask v after part in
    answers c.args.command c.args.end base c.settled.new.registry part_view c.settled.result (part_at c.args.order c.args.ty.now (c.args.bytes.now, base)) (mask, v) (rest, after) again (returns-in-Ok-clause-exact c)

pub returns-in-Ok-clause-spelled : goal.returns-in-Ok-clause-spelled
returns-in-Ok-clause-spelled c =
    let base = c.args.registry.now in
    let bytes = c.args.bytes.now in
    let fits : IsBytes bytes = λ i. search (rules, c.type_inv.bytes i) in
    spelled_message (λ front follow x after. Part c.args.order base c.args.ty.now front x.0 x.1 after) c.args.command c.args.end base c.settled.new.registry part_view c.settled.result (part_at c.args.order c.args.ty.now (bytes, base)) bytes
    (λ x e. read_is_part c.args.order base c.args.ty.now bytes x.0.0 x.0.1 x.1.0 x.1.1 fits e) (returns-in-Ok-clause-exact c)

pub returns-in-Ok-clause-fits : goal.returns-in-Ok-clause-fits
returns-in-Ok-clause-fits c = part_fitting c.args.order c.args.registry.now c.settled.new.registry c.args.ty.now c.settled.result c.args.bytes.now (returns-in-Ok-clause-spelled c)

pub returns-in-Err-clause-exact : goal.returns-in-Err-clause-exact
returns-in-Err-clause-exact c =
    let failed = rw c.new-defined.ensures at c.in-Err.ensures.exact in
    (refl, rw c.placed.ensures (read_failed (part_at c.args.order c.args.ty.now) c.args.registry.now c.args.bytes.now c.args.end c.in-Err.stop failed), refl)

pub returns-in-Err-clause-found : goal.returns-in-Err-clause-found
returns-in-Err-clause-found c = λ front rest mask v after part parts.
    let base = c.args.registry.now in
    let again = ap (λ (bytes : List ℕ). part_at c.args.order c.args.ty.now (bytes, base)) parts ∙ part_is_read c.args.order base c.args.ty.now front rest mask v after part in
    cause_is c.args.end (part_at c.args.order c.args.ty.now (c.args.bytes.now, base)) ((mask, v), (rest, after)) c.placed.result again (returns-in-Err-clause-exact c).1
