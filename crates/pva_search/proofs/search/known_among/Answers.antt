use Rattle.std.proofs.Common.{◌∙◌, ◌+◌, ◌-◌, ◌++◌, ◌∷◌, ℕ, List, [], Vec, Global, Ok, length, sym, ap, arith, length-append}
use Rattle.std.proofs.lemmas.List.{append-nil}
use Rattle.std.proofs.lemmas.Result.{err_from_is_err_and}
use Rattle.pva_search.specs.Reading.{each_at, channel_at}
use Rattle.pva_search.specs.Answers.{known_of}
use Rattle.pva_search.specs.Parts.{mapped}
use Rattle.pva_search.proofs.Knowing.{known_more, known_same, some_read, known_fails}
use Rattle.pva_search.proofs.Loops.{goes_on, ends, is_done}
use Rattle.pva_search.proofs.search.known_among.Goals as goal

pub returns-in_err-instance-clause-value : goal.returns-in_err-instance-clause-value
returns-in_err-instance-clause-value g c = λ test tells.
    let p = err_from_is_err_and c.from_residual.result c.from_residual.ensures.1 in
    let total = mapped (known_of test) (each_at (channel_at c.args.order) c.args.count c.args.channels.now) in
    rw (p.1, p.2) (known_fails {X = Vec ℕ Global} (λ v. v.items) test c.args.order c.args.count c.args.channels.now c.in_err-instance.field-0.0 c.in_err-instance.ensures.memory
    (ends (channel_at c.args.order) c.in_err-instance.field-0.0 (λ cs. c.loop.found.items ++ known_of test cs) c.args.count c.loop.counter c.loop.rest.now total
    c.loop-test.true c.in_err-instance.ensures.value (c.loop.invariant.so_far test tells)))

pub loop-preserved-then-not-knows : goal.loop-preserved-then-not-knows
loop-preserved-then-not-knows g c = record {
  so_far = λ test tells.
      goes_on (channel_at c.args.order) (λ cs. c.loop.found.items ++ known_of test cs) (λ cs. c.loop.found.items ++ known_of test cs) c.args.count c.loop.counter c.loop.rest.now
      (c.in_ok-instance.instance, c.in_ok-instance.name.now) c.in_ok-instance.after.now (mapped (known_of test) (each_at (channel_at c.args.order) c.args.count c.args.channels.now))
      c.loop-test.true c.in_ok-instance.ensures.value
      (λ cs. known_same test c.loop.found.items c.in_ok-instance.instance c.in_ok-instance.name.now cs (sym (c.knows.ensures test tells) ∙ c.if-not-knows.true))
      (c.loop.invariant.so_far test tells);
  few = omega arith;
}

pub returns-in_default-clause-value : goal.returns-in_default-clause-value
returns-in_default-clause-value g c = λ test tells found after e.
    some_read test c.loop.found.items c.in_ok-instance.instance (each_at (channel_at c.args.order) (c.args.count - (c.loop.counter + 1)) c.in_ok-instance.after.now) found after
    (goes_on (channel_at c.args.order) (λ cs. c.loop.found.items ++ known_of test cs) (λ cs. (c.loop.found.items ++ c.in_ok-instance.instance ∷ []) ++ known_of test cs) c.args.count c.loop.counter c.loop.rest.now
    (c.in_ok-instance.instance, c.in_ok-instance.name.now) c.in_ok-instance.after.now (Ok (found, after))
    c.loop-test.true c.in_ok-instance.ensures.value
    (λ cs. known_more test c.loop.found.items c.in_ok-instance.instance c.in_ok-instance.name.now cs (sym (c.knows.ensures test tells) ∙ c.if-not-knows.false))
    (c.loop.invariant.so_far test tells ∙ e))

pub loop-preserved : goal.loop-preserved
loop-preserved g c = record {
  so_far = λ test tells.
      goes_on (channel_at c.args.order) (λ cs. c.loop.found.items ++ known_of test cs) (λ cs. c.add.new.found.items ++ known_of test cs) c.args.count c.loop.counter c.loop.rest.now
      (c.in_ok-instance.instance, c.in_ok-instance.name.now) c.in_ok-instance.after.now (mapped (known_of test) (each_at (channel_at c.args.order) c.args.count c.args.channels.now))
      c.loop-test.true c.in_ok-instance.ensures.value
      (λ cs. known_more test c.loop.found.items c.in_ok-instance.instance c.in_ok-instance.name.now cs (sym (c.knows.ensures test tells) ∙ c.if-not-knows.false)
      ∙ ap (λ (xs : List ℕ). xs ++ known_of test cs) (sym c.in-Ok.ensures))
      (c.loop.invariant.so_far test tells);
  few = omega (arith, c.loop.invariant.few, ap length c.in-Ok.ensures, length-append c.loop.found.items (c.in_ok-instance.instance ∷ []));
}

pub returns-clause-value : goal.returns-clause-value
returns-clause-value g c = λ test tells. (
  c.loop.rest.now,
  is_done (channel_at c.args.order) (λ cs. c.loop.found.items ++ known_of test cs) c.args.count c.loop.counter c.loop.rest.now (mapped (known_of test) (each_at (channel_at c.args.order) c.args.count c.args.channels.now))
      c.loop-test.false (c.loop.invariant.so_far test tells)
      ∙ ap (λ (xs : List ℕ). Ok (xs, c.loop.rest.now)) (append-nil c.loop.found.items),
)
