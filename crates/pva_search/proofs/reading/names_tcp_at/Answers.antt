use Rattle.std.proofs.Common.{◌||◌, Bool, Ok, ap, sym, ◌∙◌}
use Rattle.std.proofs.lemmas.Result.{err_from_is_err_and}
use Rattle.std.specs.Str.{bytes_eq}
use Rattle.pva_wire.specs.Reading.{text_at}
use Rattle.pva_search.specs.Messages.{tcp}
use Rattle.pva_search.specs.Reading.{each_at}
use Rattle.pva_search.specs.Answers.{names_tcp}
use Rattle.pva_search.specs.Parts.{mapped}
use Rattle.pva_search.proofs.Giving.{or_assoc, or_false}
use Rattle.pva_search.proofs.Loops.{goes_on, ends, is_done}
use Rattle.pva_search.proofs.reading.names_tcp_at.Goals as goal

pub returns-in_err-text-clause-value : goal.returns-in_err-text-clause-value
returns-in_err-text-clause-value c =
    let p = err_from_is_err_and c.from_residual.result c.from_residual.ensures.1 in
    rw (p.1, p.2) (ends (text_at c.args.order) c.in_err-text.field-0.0 (λ ts. c.loop.named || names_tcp ts) c.args.count c.loop.counter c.loop.rest.now (mapped names_tcp (each_at (text_at c.args.order) c.args.count c.args.bytes.now)) c.loop-test.true c.in_err-text.ensures.value c.loop.invariant)

pub loop-preserved : goal.loop-preserved
loop-preserved c =
    goes_on (text_at c.args.order) (λ ts. c.loop.named || names_tcp ts) (λ ts. c.named_tcp-named.result || names_tcp ts) c.args.count c.loop.counter c.loop.rest.now c.in_ok-text.text.now c.in_ok-text.after.now (mapped names_tcp (each_at (text_at c.args.order) c.args.count c.args.bytes.now)) c.loop-test.true c.in_ok-text.ensures.value
    (λ ts. or_assoc c.loop.named (bytes_eq c.in_ok-text.text.now tcp) (names_tcp ts) ∙ ap (λ (b : Bool). b || names_tcp ts) (sym c.named_tcp-named.ensures))
    c.loop.invariant

pub returns-clause-value : goal.returns-clause-value
returns-clause-value c =
    is_done (text_at c.args.order) (λ ts. c.loop.named || names_tcp ts) c.args.count c.loop.counter c.loop.rest.now (mapped names_tcp (each_at (text_at c.args.order) c.args.count c.args.bytes.now)) c.loop-test.false c.loop.invariant
    ∙ ap (λ (b : Bool). Ok (b, c.loop.rest.now)) (or_false c.loop.named)
