use Rattle.std.proofs.Common.{◌≡◌, ◌++◌, ◌∷◌, [], List, None, length, drop, sym, ap, ◌∙◌, subst, arith, rules}
use Rattle.pva_frames.specs.declared.event.Event.{Event}
use Rattle.pva_frames.specs.declared.event.Event.TheVariants.{Control}
use Rattle.pva_frames.specs.Messages.{Unfinished}
use Rattle.pva_frames.specs.Reader.{run_of, run_size, unfinished_of, is_unfinished, Brings, message_event}
use Rattle.std.proofs.lemmas.List.{drop_all}
use Rattle.pva_frames.proofs.Growing.{grows-nothing}
use Rattle.pva_frames.proofs.Beginning.{control-brings, begun, whole_header}
use Rattle.pva_frames.proofs.Bringing.{brings-unfinished}
use Rattle.pva_frames.proofs.Ending.{ends-brings}
use Rattle.pva_frames.proofs.Body.{ends-sound}
use Rattle.pva_frames.proofs.reader.Reader.begin_frame.Goals as goal

pub returns-in_err-push_back-clause-kept : goal.returns-in_err-push_back-clause-kept
returns-in_err-push_back-clause-kept c = grows-nothing _ _ _ (search rules)

pub returns-in_err-reserve-clause-kept : goal.returns-in_err-reserve-clause-kept
returns-in_err-reserve-clause-kept c = grows-nothing _ _ _ c.reserve.ensures.items

pub returns-then-is_control-clause-ok : goal.returns-then-is_control-clause-ok
returns-then-is_control-clause-ok c =
    let self = c.args.self.now in
    let event : c.push_back.new.self.items ≡ c.args.ready.now.items ++ Control c.args.header.command c.args.header.number ∷ [] = search rules in
    let long : length c.args.head ≡ 8 = search rules in
    subst (λ (l : List Event). Brings c.args.ready.now.items self.mark.place (run_of self.mark.run self.payload.items) c.args.head l None (unfinished_of c.at-self.result self.payload.items)) (sym event)
    (control-brings c.args.ready.now.items self.mark.place self.mark.run self.payload.items c.args.head c.args.header c.at-self.result c.requires.header (sym c.is_control.ensures ∙ c.if-is_control.true) c.requires.first long (self.sound.header c.requires.fresh) c.requires.accepted c.at-self.ensures.place c.at-self.ensures.filled c.at-self.ensures.run)

pub invariant_of-self-then-header-gt0 : goal.invariant_of-self-then-header-gt0
invariant_of-self-then-header-gt0 c =
    let self = c.args.self.now in
    let long : length c.args.head ≡ 8 = search rules in
    let left : Unfinished = record { place = self.mark.place; run = run_of self.mark.run self.payload.items; held = c.args.head } in
    record {
      sound = record {
        head = long;
        filled = omega arith;
        run = self.sound.run;
        header = λ less. absurd (omega arith);
        unfinished = ap is_unfinished (sym (whole_header self.mark.place self.mark.run self.payload.items c.args.head (self.sound.header c.requires.fresh) long))
            ∙ begun self.mark.place (run_of self.mark.run self.payload.items) c.args.head c.args.header c.requires.header (sym c.is_control.ensures ∙ c.if-is_control.false) c.requires.first (omega (arith, long)) (omega (arith, long, c.if-header-gt0.true)) c.requires.accepted;
      };
    }

pub returns-then-header-gt0-clause-ok : goal.returns-then-header-gt0-clause-ok
returns-then-header-gt0-clause-ok c =
    let self = c.args.self.now in
    let long : length c.args.head ≡ 8 = search rules in
    let left : Unfinished = record { place = self.mark.place; run = run_of self.mark.run self.payload.items; held = c.args.head } in
    subst (λ (u : Unfinished). Brings c.args.ready.now.items left.place left.run c.args.head c.args.ready.now.items None u) (whole_header self.mark.place self.mark.run self.payload.items c.args.head (self.sound.header c.requires.fresh) long)
    (brings-unfinished c.args.ready.now.items left
    (begun self.mark.place left.run c.args.head c.args.header c.requires.header (sym c.is_control.ensures ∙ c.if-is_control.false) c.requires.first (omega (arith, long)) (omega (arith, long, c.if-header-gt0.true)) c.requires.accepted))

pub returns-clause-ok : goal.returns-clause-ok
returns-clause-ok c =
    let self = c.args.self.now in
    let long : length c.args.head ≡ 8 = search rules in
    let none = self.sound.header c.requires.fresh in
    let event : c.end_frame.new.ready.items ≡ c.args.ready.now.items ++ message_event self.mark.run c.args.header self.mark.place self.payload.items =
    c.end_frame.ensures.event ∙ ap (λ (l : List Event). l ++ message_event self.mark.run c.args.header self.mark.place self.payload.items) c.reserve.ensures.items in
    let body : drop 8 c.args.head ≡ drop (run_size self.mark.run) self.payload.items =
    drop_all 8 c.args.head (omega (arith, long)) ∙ sym (drop_all (run_size self.mark.run) self.payload.items (omega (arith, none))) in
    subst (λ (l : List Event). Brings c.args.ready.now.items self.mark.place (run_of self.mark.run self.payload.items) c.args.head l None (unfinished_of c.end_frame.new.mark c.end_frame.new.payload.items)) (sym event)
    (ends-brings c.args.ready.now.items self.mark self.payload.items c.args.head c.args.header c.end_frame.new.mark c.end_frame.new.payload.items c.end_frame.ensures.ends c.requires.header (sym c.is_control.ensures ∙ c.if-is_control.false) c.requires.first body (omega (arith, long, c.if-header-gt0.false)) c.requires.accepted)

pub invariant_of-self-2 : goal.invariant_of-self-2
invariant_of-self-2 c = record { sound = ends-sound c.end_frame.new.mark c.end_frame.new.payload.items c.end_frame.ensures.ends }
