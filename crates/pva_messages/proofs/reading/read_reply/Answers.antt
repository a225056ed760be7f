use Rattle.std.proofs.Common.{◌∙◌, ℕ, List, length, refl, ap, rules}
use Rattle.std.specs.Option.{option_copied}
use Rattle.pva_wire.specs.Spelling.{IsBytes}
use Rattle.pvd_codec.proofs.Calls.{read_gave, read_failed}
use Rattle.pva_messages.specs.Payloads.{IsReply}
use Rattle.pva_messages.specs.Reading.{reply_at}
use Rattle.pva_messages.specs.Views.{reply_view}
use Rattle.pva_messages.proofs.Messages.{reply_again, reply_takes}
use Rattle.pva_messages.proofs.Calls.{answers, cause_is, settled_gives, spelled_message}
use Rattle.pva_messages.proofs.Fitting.{reply_fits}
use Rattle.pva_messages.proofs.reading.read_reply.Goals as goal

pub returns-in-Ok-clause-exact : goal.returns-in-Ok-clause-exact
returns-in-Ok-clause-exact c =
    let read = reply_at c.args.order (option_copied c.args.known) c.args.command in
    let base = c.args.registry.now in
    let bytes = c.args.payload.now in
    let gave = rw c.new-defined.ensures at c.in-Ok.ensures in
    settled_gives c.args.command (length bytes) base c.settled.new.registry c.reply_at.new.changed reply_view c.in-Ok.message c.settled.result (read (bytes, base)) c.in-Ok._rest.now c.settled.ensures.ok c.settled.ensures.err
    (λ done. read_gave read base bytes c.in-Ok._rest.now c.reply_at.new.changed c.settled.new.registry (reply_view c.in-Ok.message) gave done)

pub returns-in-Ok-clause-found : goal.returns-in-Ok-clause-found
returns-in-Ok-clause-found c = λ front follow m after is parts.
    let read = reply_at c.args.order (option_copied c.args.known) c.args.command in
    let base = c.args.registry.now in
    let again = ap (λ (bytes : List ℕ). reply_at c.args.order (option_copied c.args.known) c.args.command (bytes, base)) parts ∙ reply_again c.args.order (option_copied c.args.known) c.args.command base front follow m after is in
    answers c.args.command (length c.args.payload.now) base c.settled.new.registry reply_view c.settled.result (read (c.args.payload.now, base)) m (follow, after) again (returns-in-Ok-clause-exact c)

pub returns-in-Ok-clause-spelled : goal.returns-in-Ok-clause-spelled
returns-in-Ok-clause-spelled c =
    let o = c.args.order in
    let base = c.args.registry.now in
    let bytes = c.args.payload.now in
    let fits : IsBytes bytes = λ i. search (rules, c.type_inv.payload i) in
    spelled_message (λ front follow m after. IsReply o (option_copied c.args.known) c.args.command base front follow m after) c.args.command (length bytes) base c.settled.new.registry reply_view c.settled.result (reply_at o (option_copied c.args.known) c.args.command (bytes, base)) bytes
    (λ x e. reply_takes o (option_copied c.args.known) c.args.command base bytes x fits e) (returns-in-Ok-clause-exact c)

pub returns-in-Ok-clause-fits : goal.returns-in-Ok-clause-fits
returns-in-Ok-clause-fits c =
    reply_fits c.args.order (option_copied c.args.known) c.args.command c.args.registry.now c.settled.new.registry reply_view c.settled.result c.args.payload.now (returns-in-Ok-clause-spelled c)

pub returns-in-Err-clause-exact : goal.returns-in-Err-clause-exact
returns-in-Err-clause-exact c =
    let failed = rw c.new-defined.ensures at c.in-Err.ensures in
    (refl, rw c.placed.ensures (read_failed (reply_at c.args.order (option_copied c.args.known) c.args.command) c.args.registry.now c.args.payload.now (length c.args.payload.now) c.in-Err.stop failed), refl)

pub returns-in-Err-clause-found : goal.returns-in-Err-clause-found
returns-in-Err-clause-found c = λ front follow m after is parts.
    let base = c.args.registry.now in
    let again = ap (λ (bytes : List ℕ). reply_at c.args.order (option_copied c.args.known) c.args.command (bytes, base)) parts ∙ reply_again c.args.order (option_copied c.args.known) c.args.command base front follow m after is in
    cause_is (length c.args.payload.now) (reply_at c.args.order (option_copied c.args.known) c.args.command (c.args.payload.now, base)) (m, (follow, after)) c.placed.result again (returns-in-Err-clause-exact c).1
