use Rattle.std.proofs.Common.{◌≡◌, ◌+◌, ◌≤◌, ◌++◌, ℕ, suc, [], ◌∷◌, length, take, sym, ap, ◌∙◌, arith}
use Rattle.std.proofs.lemmas.List.{length-map, map-append, take_all}
use Rattle.std.specs.Prelude.{is_some}
use Rattle.rec_kinds.specs.Configs.{Config}
use Rattle.desk_core.proofs.Listing.{valid_count}
use Rattle.desk_core.specs.Ports.{ports_there, ports_wanted}
use Rattle.desk_shared.proofs.Places.{one_more}
use Rattle.shared_tests.proofs.halls.ports_by.Goals as goal

pub loop-rec-preserved : goal.loop-rec-preserved
loop-rec-preserved g c =
    let configs = c.args.site.now.configs in
    let ports = c.loop-rec.ports.items in
    let place = c.in_ok-place.place in
    let same : is_some place ≡ is_some c.port.result = c.in_ok-place.ensures {u = tt} ∙ c.is_some.ensures in
    let next : suc c.loop-rec.rec ≡ c.loop-rec.rec + 1 = omega arith in
    ap ports_there c.in_ok-push.ensures.items ∙ map-append (λ p. is_some p) ports (place ∷ [])
    ∙ (λ i. c.loop-rec.invariant i ++ same i ∷ []) ∙ sym (one_more configs c.loop-rec.rec c.port.result c.port.ensures)
    ∙ ap (λ (n : ℕ). take n (ports_wanted configs)) next

pub returns : goal.returns
returns g c =
    let configs = c.args.site.now.configs in
    let enough : length (ports_wanted configs) ≤ c.loop-rec.rec = omega (arith, length-map configs (λ (config : Config). is_some config.port), c.loop-rec-test.false, c.records-count.ensures.opening, valid_count _ _ c.records-count.ensures.valid) in
    c.loop-rec.invariant ∙ take_all c.loop-rec.rec (ports_wanted configs) enough
