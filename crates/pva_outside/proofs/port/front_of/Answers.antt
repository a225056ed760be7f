use Rattle.std.proofs.Common.{ℕ, ◌≡◌, take, length, ◌∙◌, ap, arith}
use Rattle.std.proofs.lemmas.List.{take_at, take_min, length-take}
use Rattle.pva_outside.proofs.port.front_of.Goals as goal

pub returns-clause-front : goal.returns-clause-front
returns-clause-front c =
    let text = c.args.text.now in
    let copied : c.copy_from_slice.new.self ≡ take c.min-len.result text = c.copy_from_slice.ensures.after in
    let long : length c.copy_from_slice.new.self ≡ c.min-len.result = omega (arith, ap length copied, length-take c.min-len.result text, c.min-len.ensures) in
    take_at c.copy_from_slice.new.self _ c.min-len.result long
    ∙ copied
    ∙ ap (λ (n : ℕ). take n text) c.min-len.ensures
    ∙ take_min 64 text
