use Rattle.std.proofs.Common.{◌≡◌, List, ◌++◌, ◌∷◌, [], true, drop, None, Some, Result, Ok, Err, refl, sym, ◌∙◌, ap, subst}
use Rattle.std.proofs.lemmas.Option.{none-some}
use Rattle.std.specs.FinMap.{get as at}
use Rattle.std.specs.Option.{IsSome, option_copied}
use Rattle.std.specs.Prelude.{Option, OnOk}
use Rattle.pva_frames.specs.Spelling.{message_bytes}
use Rattle.pva_wire.specs.Status.{good}
use Rattle.pvd_type.specs.declared.memory.NoMemory.{NoMemory}
use Rattle.pvd_value.specs.View.{view}
use Rattle.pva_messages.specs.Fields as field
use Rattle.pva_messages.specs.Fields.{Field}
use Rattle.pva_messages.specs.Rows.{byte_of}
use Rattle.pva_messages.specs.Views.{part_of}
use Rattle.pva_messages.specs.Written.{canonical}
use Rattle.pva_messages.specs.declared.command.Command.{Command}
use Rattle.desk_api.specs.Types.{HoldsLeaves}
use Rattle.srv_session.specs.State.{Asked}
use Rattle.srv_session.specs.Replies.{IsSayable, said, spelled, got}
use Rattle.srv_session.proofs.Replying.{got_said, left_out}
use Rattle.srv_session.proofs.session.Session.say_selected.Goals as goal
use denote.Ref.{Bor}

is_there : (o : Option (Bor Asked)) (ask : Asked) → option_copied o ≡ Some ask → IsSome o
is_there None ask e = absurd (none-some ask e)
is_there (Some b) ask e = refl

-- what was looked up is the request that is there
looked_up : (o : Option (Bor Asked)) (found : Bor Asked) (there : Option Asked) (ask : Asked) → o ≡ Some found → option_copied o ≡ there → there ≡ Some ask → found.now ≡ ask
looked_up o found there ask is copied here = same_some (ap option_copied (sym is) ∙ copied ∙ here)
  where
    same_some : {x y : Asked} → Some x ≡ Some y → x ≡ y
    same_some e = cc

on_result : (A B : Type 0) (result : Result (Unit {0}) NoMemory) → (A → B) → OnOk result A → OnOk result B
on_result A B (Ok u) f a = f a
on_result A B (Err e) f a = tt

pub unwrap-ask-requires : goal.unwrap-ask-requires
unwrap-ask-requires c = is_there c.ask.result c.requires.there.ask (c.ask.ensures ∙ c.requires.there.here)

pub write_value-requires-clause-fits : goal.write_value-requires-clause-fits
write_value-requires-clause-fits c =
    let t = c.requires.there in
    let it : c.unwrap-ask.result.now ≡ t.ask = looked_up c.ask.result c.unwrap-ask.result _ t.ask c.unwrap-ask.ensures c.ask.ensures t.here in
    (c.requires.fits, subst (λ (a : Asked). HoldsLeaves c.args.ty.now a.mask) (sym it) t.leaves)

pub returns-clause-state : goal.returns-clause-state
returns-clause-state c = refl

pub returns-clause-ok : goal.returns-clause-ok
returns-clause-ok c =
    let s = c.args.self.now in
    let new = c.write_value.new.out.items in
    let t = c.requires.there in
    let it : c.unwrap-ask.result.now ≡ t.ask = looked_up c.ask.result c.unwrap-ask.result _ t.ask c.unwrap-ask.ensures c.ask.ensures t.here in
    let row : List Field = field.word c.args.req ∷ field.byte c.args.sub ∷ field.status good ∷ field.part (part_of c.args.ty.now c.unwrap-ask.result.now.mask c.args.value.now) ∷ [] in
    let told : Asked → Type 0 = λ (a : Asked). (drop s.sent new ≡ drop s.sent s.output.items ++ spelled s.order s.segment (said (got c.args.kind c.args.req c.args.sub c.args.ty.now a.mask (view c.args.value.now))))
    × IsSayable (said (got c.args.kind c.args.req c.args.sub c.args.ty.now a.mask (view c.args.value.now))) in
    on_result (told c.unwrap-ask.result.now) ((ask : Asked) → at s.table.asks c.args.req ≡ Some ask → told ask) c.write_value.result
    (λ p ask here. subst told (looked_up c.ask.result c.unwrap-ask.result _ ask c.unwrap-ask.ensures c.ask.ensures here) p)
    (got_said s.order s.segment c.args.kind c.args.req c.args.sub c.args.ty.now c.unwrap-ask.result.now.mask (view c.args.value.now) s.sent s.output.items new c.write_value.result c.requires.kind c.requires.sub s.within
    (c.requires.fits, subst (λ (a : Asked). HoldsLeaves c.args.ty.now a.mask) (sym it) t.leaves)
    (subst (λ (k : Command). OnOk c.write_value.result (new ≡ s.output.items ++ message_bytes s.order true (byte_of k) (canonical s.order row) s.segment)) c.command_of.ensures c.write_value.ensures.ok)
    c.write_value.ensures.can)

pub returns-clause-err : goal.returns-clause-err
returns-clause-err c = left_out c.args.self.now.sent c.args.self.now.output.items c.write_value.new.out.items c.write_value.result c.write_value.ensures.err
