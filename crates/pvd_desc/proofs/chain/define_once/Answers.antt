use Rattle.std.proofs.Common.{◌≡◌, ◌<◌, ◌+◌, ◌∙◌, ◌∷◌, ◌||◌, ap, sym, refl, rules, true, nat_eq, nat_cmp, length, get_or, drop, add-one}
use Rattle.std.proofs.lemmas.Bool.{true≢false}
use Rattle.std.proofs.Math.Seq.{drop-cons}
use Rattle.std.specs.Cmp.{nat_cmp_total}
use Rattle.std.specs.FinMap.{insert, get}
use Rattle.std.specs.FinSet as set
use Rattle.std.specs.Arc.{arc_value}
use Rattle.pvd_desc.specs.Types.{Types, laid, define_all}
use Rattle.pvd_desc.proofs.Laid.{laid_insert}
use Rattle.pvd_desc.proofs.Maps.{alike, put_again, put_there}
use Rattle.pvd_desc.proofs.chain.define_once.Goals as goal

pub ids-init : goal.ids-init
ids-init c = record {
  left = λ base. refl;
  there = λ base q h. absurd (true≢false (sym h ∙ rw c.new-done.ensures (set.contains-empty nat_cmp q)));
}

pub ids-preserved-then-contains : goal.ids-preserved-then-contains
ids-preserved-then-contains c =
    let ids = c.args.ids.now in
    let i = c.ids.id-index in
    let id = get_or ids i 0 in
    let t = arc_value c.args.ty.now in
    let within : i < length ids = search rules in
    let rest : drop i ids ≡ id ∷ drop (i + 1) ids = rw add-one (drop-cons ids i 0 within) in
    let known : set.contains c.ids.done id ≡ true = search rules in
    record {
      left = λ base.
          ap (λ (s : Types). define_all (drop (i + 1) ids) t s) (sym (put_again (laid base c.ids.changed) id t (c.ids.invariant.there base id known)))
          ∙ ap (λ xs. define_all xs t (laid base c.ids.changed)) (sym rest) ∙ c.ids.invariant.left base;
      there = c.ids.invariant.there;
    }

pub ids-preserved : goal.ids-preserved
ids-preserved c =
    let ids = c.args.ids.now in
    let i = c.ids.id-index in
    let id = get_or ids i 0 in
    let t = arc_value c.args.ty.now in
    let within : i < length ids = search rules in
    let rest : drop i ids ≡ id ∷ drop (i + 1) ids = rw add-one (drop-cons ids i 0 within) in
    let put : c.define.new.self ≡ insert c.ids.changed id t = search rules in
    let added : c.insert.new.self ≡ set.insert c.ids.done id = search rules in
    record {
      left = λ base.
          ap (λ (s : Types). define_all (drop (i + 1) ids) t s) (ap (laid base) put ∙ laid_insert base c.ids.changed id t)
          ∙ ap (λ xs. define_all xs t (laid base c.ids.changed)) (sym rest) ∙ c.ids.invariant.left base;
      there = λ base q h.
          let held : (nat_eq q id || set.contains c.ids.done q) ≡ true =
          sym (set.contains-insert nat_cmp_total c.ids.done id q ∙ ap (λ b. b || set.contains c.ids.done q) (alike q id)) ∙ ap (λ s. set.contains s q) (sym added) ∙ h in
          ap (λ (s : Types). get s q) (ap (laid base) put ∙ laid_insert base c.ids.changed id t)
          ∙ put_there (laid base c.ids.changed) id q t (set.contains c.ids.done q) (c.ids.invariant.there base q) held;
    }
