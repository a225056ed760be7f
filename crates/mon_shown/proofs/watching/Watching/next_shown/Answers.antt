use Rattle.std.proofs.Common.{◌≡◌, Ok, Err, Result, sym, subst}
use Rattle.std.specs.Prelude.{IfOk}
use Rattle.pvd_type.specs.declared.memory.NoMemory.{NoMemory}
use Rattle.pvd_value.specs.View.{view}
use Rattle.pvd_value.specs.declared.value.PvValue.{PvValue}
use Rattle.mon_queue.specs.Unread.{type_of}
use Rattle.mon_shown.specs.Keeping.{ShowsWith}
use Rattle.mon_shown.proofs.Readying.{shows_itself}
use Rattle.mon_shown.proofs.watching.Watching.next_shown.Goals as goal

-- what holds of a value holds of one that shares it
shared : (P : PvValue → Type 0) (v : PvValue) (r : Result PvValue NoMemory) → P v → IfOk r (λ s. s ≡ v) → IfOk r P
shared P v (Ok s) p same = subst P (sym same) p
shared P v (Err e) p same = tt

pub returns-then-is_within-clause-shown : goal.returns-then-is_within-clause-shown
returns-then-is_within-clause-shown g c =
    let x = c.args.self.now in
    let t = type_of x.queue in
    let v = c.args.value.now in
    shared (λ s. ShowsWith t x.requested c.args.mask.now (view x.shown) (view v) (view s)) v c.share.result
    (shows_itself t x.requested c.args.anew.now c.args.mask.now (view x.shown) (view v) (c.is_within.ensures c.if-is_within.true) c.requires.differing)
    c.share.ensures
