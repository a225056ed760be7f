use Rattle.std.proofs.Common.{◌≡◌, ◌∙◌, ◌+◌, ◌++◌, [], ◌∷◌, List, Bool, ap, sym, arith, Bor, ℕ}
use Rattle.std.specs.Prelude.{is_some, option_map}
use Rattle.desk_core.specs.Ports.{ports_there}
use Rattle.prog_source.proofs.Opened.{one_made, some_made, stopped_at, all_made, all_there, ended_at, is_some_map, there_more}
use Rattle.prog_source.proofs.ports.make_ports.Goals as goal

pub returns-in-Err-clause-asked : goal.returns-in-Err-clause-asked
returns-in-Err-clause-asked g c =
    stopped_at _ (Unit {0}) c.args.site.now.configs c.loop-rec.rec _ _ _ _ _ c.in-Err.stop c.loop-rec.invariant c.port.ensures c.in-Err.ensures.asked

pub returns-in_default-push-clause-asked : goal.returns-in_default-push-clause-asked
returns-in_default-push-clause-asked g c =
    some_made _ (c.loop-rec.rec + 1) _ _ _ (one_made c.args.site.now.configs c.loop-rec.rec _ _ _ _ _ c.in-Ok-make_port.port c.loop-rec.invariant c.port.ensures c.in-Ok-make_port.ensures.asked)

pub loop-rec-preserved : goal.loop-rec-preserved
loop-rec-preserved g c =
    let path = option_map (λ (p : Bor (List ℕ)). p.now) c.port.result in
    let same : is_some c.in-Ok-make_port.port ≡ is_some path = c.in-Ok-make_port.ensures.there ∙ sym (is_some_map (λ (p : Bor (List ℕ)). p.now) c.port.result) in
    let there : ports_there c.push.new.self.items ≡ ports_there c.loop-rec.ports.items ++ is_some path ∷ [] =
    ap ports_there c.in-Ok-push.ensures.items ∙ there_more c.loop-rec.ports.items c.in-Ok-make_port.port ∙ ap (λ (b : Bool). ports_there c.loop-rec.ports.items ++ b ∷ []) same in
    rw there (one_made c.args.site.now.configs c.loop-rec.rec _ _ _ _ _ c.in-Ok-make_port.port c.loop-rec.invariant c.port.ensures c.in-Ok-make_port.ensures.asked)

pub returns-clause-asked : goal.returns-clause-asked
returns-clause-asked g c =
    all_made _ c.loop-rec.rec _ _ _ (ended_at c.args.site.now.configs c.args.site.now.opening c.loop-rec.rec c.records-count.result c.records-count.ensures.valid c.records-count.ensures.opening (omega (arith, c.loop-rec-test.false))) c.loop-rec.invariant

pub returns-clause-there : goal.returns-clause-there
returns-clause-there g c =
    all_there _ c.loop-rec.rec _ _ _ (ended_at c.args.site.now.configs c.args.site.now.opening c.loop-rec.rec c.records-count.result c.records-count.ensures.valid c.records-count.ensures.opening (omega (arith, c.loop-rec-test.false))) c.loop-rec.invariant
