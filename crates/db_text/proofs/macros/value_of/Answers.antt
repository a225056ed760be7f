use Rattle.std.proofs.Common.{◌≡◌, ◌<◌, length, ℕ, arith, drop, true, false, List, option_map, Bor}
use Rattle.std.specs.Str.{bytes_eq}
use Rattle.std.proofs.lemmas.List.{drop_all}
use Rattle.db_text.proofs.Values.{value_taken, value_passed, value_found}
use Rattle.db_text.proofs.macros.value_of.Goals as goal
use Rattle.db_text.proofs.macros.value_of.Goals.{then-eq, else-eq}

pub loop-known-preserved : goal.loop-known-preserved
loop-known-preserved c =
    let within : c.loop-known.known-index < length c.args.macros.now = omega arith in
    elim c.if-eq.branch [
      | then-eq w ↦ let same : bytes_eq c.loop-known-item.result.0 c.args.name.now ≡ true = cc (w.if-eq.ensures {u = tt}, c.as_bytes.ensures.value, c.as_str.ensures.text) in
          rw w.found-is (value_taken c.args.macros.now c.loop-known.known-index c.loop-known-item.result c.args.name.now _ _ within c.loop-known-item.is same c.loop-known.invariant)
      | else-eq w ↦ let other : bytes_eq c.loop-known-item.result.0 c.args.name.now ≡ false = cc (w.if-eq.ensures {u = tt}, c.as_bytes.ensures.value, c.as_str.ensures.text) in
          rw w.found-is (value_passed c.args.macros.now c.loop-known.known-index c.loop-known-item.result c.args.name.now _ _ within c.loop-known-item.is other c.loop-known.invariant)
    ]

pub returns : goal.returns
returns c = value_found c.args.macros.now c.args.name.now (drop c.loop-known.known-index c.args.macros.now) (option_map (λ (v : Bor (List ℕ)). v.now) c.loop-known.found) _ (drop_all c.loop-known.known-index c.args.macros.now (omega arith)) c.loop-known.invariant
