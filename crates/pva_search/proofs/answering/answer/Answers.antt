use Rattle.std.proofs.Common.{◌∙◌, ℕ, List, Vec, Global, length, Some, sym, ap, arith, rules}
use Rattle.std.proofs.lemmas.Result.{err_from_is_err_and}
use Rattle.pva_wire.specs.Spelling.{IsBytes}
use Rattle.pva_outside.specs.declared.peer.Peer.{Peer}
use Rattle.pva_search.specs.declared.search.Head.{Head}
use Rattle.pva_search.specs.Messages.{response_bytes}
use Rattle.pva_search.specs.Reading.{channel_at, search_in}
use Rattle.pva_search.specs.Answers.{is_wanted, known_of, response_of}
use Rattle.pva_search.proofs.Replies.{not_wanted, replied, is_answered, some_wanted, known_is, some_known, no_fault}
use Rattle.pva_search.proofs.Lengths.{each_length, search_size}
use Rattle.pva_search.proofs.answering.answer.Goals as goal

pub returns-in-Err-Memory-clause-value : goal.returns-in-Err-Memory-clause-value
returns-in-Err-Memory-clause-value g c = λ test tells.
    let (s, is, holds) = c.in-Some.ensures in
    let x = c.in-Some.search in
    let view : Vec ℕ Global → List ℕ = λ v. v.items in
    let memory = rw c.in-Err-Memory.field-0-is at (c.in-Err-Memory.ensures.value test tells) in
    is_answered test c.args.setup.now c.args.from x.order s (search_in c.args.datagram.now) is (sym (c.is_for.ensures s holds) ∙ c.if-not-is_for.false)
    (some_wanted s.head.flags (known_of test s.channels) (some_known test x.order x.count x.channels.now holds.after s.channels holds.channels view memory))

pub returns-in-Err-Fault-clause-value : goal.returns-in-Err-Fault-clause-value
returns-in-Err-Fault-clause-value g c = λ test tells.
    let (s, is, holds) = c.in-Some.ensures in
    let x = c.in-Some.search in
    let view : Vec ℕ Global → List ℕ = λ v. v.items in
    let fault = rw c.in-Err-Fault.field-0-is at (c.in-Err-Fault.ensures.value test tells) in
    absurd (no_fault test x.order x.count x.channels.now holds.after s.channels holds.channels view c.in-Err-Fault.field-0-0 c.in-Err-Fault.field-0-1 fault)

pub returns-then-not-is_wanted-clause-value : goal.returns-then-not-is_wanted-clause-value
returns-then-not-is_wanted-clause-value g c = λ test tells.
    let (s, is, holds) = c.in-Some.ensures in
    let x = c.in-Some.search in
    let view : Vec ℕ Global → List ℕ = λ v. v.items in
    let found = c.as_slice.ensures.value ∙ known_is test x.order x.count x.channels.now holds.after s.channels holds.channels view c.in-Ok.found (c.in-Ok.ensures.value test tells) in
    sym (not_wanted test c.args.setup.now c.args.from x.order s (search_in c.args.datagram.now) is
    (ap (λ (xs : List ℕ). is_wanted s.head.flags xs) (sym found) ∙ ap (λ (head : Head). is_wanted head.flags c.as_slice.result.now) (sym holds.head)
    ∙ sym c.is_wanted.ensures ∙ c.if-not-is_wanted.true))

pub returns-in_err-reply-clause-value : goal.returns-in_err-reply-clause-value
returns-in_err-reply-clause-value g c = λ test tells.
    let (s, is, holds) = c.in-Some.ensures in
    let x = c.in-Some.search in
    let view : Vec ℕ Global → List ℕ = λ v. v.items in
    let found = c.as_slice.ensures.value ∙ known_is test x.order x.count x.channels.now holds.after s.channels holds.channels view c.in-Ok.found (c.in-Ok.ensures.value test tells) in
    let p = err_from_is_err_and c.from_residual.result c.from_residual.ensures.1 in
    rw p.1 (is_answered test c.args.setup.now c.args.from x.order s (search_in c.args.datagram.now) is (sym (c.is_for.ensures s holds) ∙ c.if-not-is_for.false)
    (ap (λ (xs : List ℕ). is_wanted s.head.flags xs) (sym found) ∙ ap (λ (head : Head). is_wanted head.flags c.as_slice.result.now) (sym holds.head)
    ∙ sym c.is_wanted.ensures ∙ c.if-not-is_wanted.false))

pub returns-clause-value : goal.returns-clause-value
returns-clause-value g c = λ test tells.
    let (s, is, holds) = c.in-Some.ensures in
    let x = c.in-Some.search in
    let view : Vec ℕ Global → List ℕ = λ v. v.items in
    let found = known_is test x.order x.count x.channels.now holds.after s.channels holds.channels view c.in-Ok.found (c.in-Ok.ensures.value test tells) in
    let wanted = ap (λ (xs : List ℕ). is_wanted s.head.flags xs) (sym found) ∙ ap (λ (xs : List ℕ). is_wanted s.head.flags xs) (sym c.as_slice.ensures.value)
    ∙ ap (λ (head : Head). is_wanted head.flags c.as_slice.result.now) (sym holds.head) ∙ sym c.is_wanted.ensures ∙ c.if-not-is_wanted.false in
    let bytes = c.in_ok-reply.ensures.value ∙ ap (λ (xs : List ℕ). response_bytes x.order (response_of c.args.setup.now x.head.sequence xs)) (c.as_slice-2.ensures.value ∙ found)
    ∙ ap (λ (head : Head). response_bytes x.order (response_of c.args.setup.now head.sequence (known_of test s.channels))) holds.head in
    ap (λ (b : List ℕ). Some (b, c.goes_to.result)) bytes
    ∙ ap (λ (to : Peer). Some (response_bytes x.order (response_of c.args.setup.now s.head.sequence (known_of test s.channels)), to)) (c.goes_to.ensures s holds.head)
    ∙ sym (replied test c.args.setup.now c.args.from x.order s (search_in c.args.datagram.now) is (sym (c.is_for.ensures s holds) ∙ c.if-not-is_for.false) wanted)

pub returns-clause-fits : goal.returns-clause-fits
returns-clause-fits g c = λ small.
    let (s, is, holds) = c.in-Some.ensures in
    let x = c.in-Some.search in
    let bytes : IsBytes c.args.datagram.now = λ i. search (rules, c.type_inv.datagram i) in
    let channels = each_length (channel_at x.order) x.count x.channels.now s.channels holds.after holds.channels in
    let all = search_size c.args.datagram.now x.order s bytes is in
    omega (arith, channels, all, c.in_ok-reply.ensures.size, c.in-Ok.ensures.few, ap length c.as_slice-2.ensures.value)
