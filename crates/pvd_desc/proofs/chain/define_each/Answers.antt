use Rattle.std.proofs.Common.{◌≡◌, ◌<◌, ◌+◌, ◌∙◌, ◌∷◌, ap, sym, rules, length, get_or, drop, add-one}
use Rattle.std.proofs.Math.Seq.{drop-cons}
use Rattle.std.specs.FinMap.{insert}
use Rattle.std.specs.Arc.{arc_value}
use Rattle.pvd_desc.specs.Types.{Types, laid, define_all}
use Rattle.pvd_desc.proofs.Laid.{laid_insert}
use Rattle.pvd_desc.proofs.chain.define_each.Goals as goal

pub loop-id-preserved : goal.loop-id-preserved
loop-id-preserved c = λ base.
    let ids = c.args.ids.now in
    let i = c.loop-id.id-index in
    let id = get_or ids i 0 in
    let t = arc_value c.args.ty.now in
    let within : i < length ids = search rules in
    let rest : drop i ids ≡ id ∷ drop (i + 1) ids = rw add-one (drop-cons ids i 0 within) in
    let put : c.define.new.self ≡ insert c.loop-id.changed id t = search rules in
    ap (λ (s : Types). define_all (drop (i + 1) ids) t s) (ap (laid base) put ∙ laid_insert base c.loop-id.changed id t)
    ∙ ap (λ xs. define_all xs t (laid base c.loop-id.changed)) (sym rest) ∙ c.loop-id.invariant base
