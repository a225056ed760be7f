use Rattle.std.proofs.Common.{◌≡◌, [], sym, ap, ◌∙◌, arith}
use Rattle.group_view.specs.Seen.{slots_seen}
use Rattle.group_view.specs.Slots.{in_last, with_last}
use Rattle.group_view.proofs.Placing.{taken_level, taken_none, nothing_left}
use Rattle.group_view.proofs.slots.take_last.Goals.{in-Some+in-Err+in_ok-push-in-Err, in_default}
use Rattle.group_view.proofs.slots.take_last.Goals as goal

pub returns-in-Ok : goal.returns-in-Ok
returns-in-Ok c = λ make.
    ap (λ ns. in_last c.args.name.now make (slots_seen ns)) c.in-Some.ensures.items
    ∙ taken_level c.args.name.now make c.pop.new.self.items c.in-Some.last c.in-Ok.id (slots_seen c.in-Ok.inner.items) c.in-Ok.ensures.level

pub returns : goal.returns
returns c = λ make.
    let name = c.args.name.now in
    elim c.match-pop.branch [
      | in-Some+in-Err+in_ok-push-in-Err w ↦
          ap (λ ns. in_last name make (slots_seen ns)) w.in-Some.ensures.items
          ∙ taken_none name make c.pop.new.self.items w.in-Some.last w.in-Err.other w.in-Err.ensures.other (w.in-Err.ensures.apart make)
          ∙ (λ i. with_last name (make (sym c.in_ok-of.ensures i) (slots_seen (sym c.new.ensures.items i)))
          (slots_seen (sym (ap (λ v. v.items) w.slots-is ∙ w.in_ok-push-in-Err.ensures.items) i)))
      | in_default w ↦
          let none : c.args.slots.now.items ≡ [] = nothing_left c.args.slots.now.items (omega (arith, w.in_default.ensures.cases.0, c.args.slots.now.ok)) in
          let after : c.pop.new.self.items ≡ [] = nothing_left c.pop.new.self.items (omega (arith, w.in_default.ensures.cases.1, c.pop.new.self.ok)) in
          ap (λ ns. in_last name make (slots_seen ns)) none
          ∙ (λ i. with_last name (make (sym c.in_ok-of.ensures i) (slots_seen (sym c.new.ensures.items i))) (slots_seen (sym (ap (λ v. v.items) w.slots-is ∙ after) i)))
    ]
