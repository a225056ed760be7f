use Rattle.std.proofs.Common.{◌≡◌, ◌∙◌, List, true, length, ap, sym, subst, rules}
use Rattle.db_links.specs.Chains.{IsChain, MayBeAsked}
use Rattle.db_links.specs.Courses.{Stage, IsSound, stage_of}
use Rattle.db_links.specs.Live.{are_inside}
use Rattle.db_links.specs.declared.course.Records.{Records}
use Rattle.db_links.specs.declared.link.RecordLinks.{RecordLinks}
use Rattle.db_links.proofs.Machine.{chain_of}
use Rattle.db_links.proofs.Turning.{sound_at_start}
use Rattle.db_links.proofs.link.Links.chain.Goals as goal

pub do_all-requires-clause-site : goal.do_all-requires-clause-site
do_all-requires-clause-site c =
    let same : c.as_slice.result.now ≡ c.args.self.now = search rules in
    let configs : length c.args.configs.now ≡ length c.as_slice.result.now = c.requires.configs ∙ ap length (sym same) in
    let states : length c.args.states.now ≡ length c.as_slice.result.now = c.requires.states ∙ ap length (sym same) in
    let inside : are_inside c.as_slice.result.now ≡ true = search rules in
    record { configs = configs; states = states; inside = inside }

pub do_all-requires-clause-sound : goal.do_all-requires-clause-sound
do_all-requires-clause-sound c =
    let same : c.as_slice.result.now ≡ c.args.self.now = search rules in
    let r : Records = record { links = c.as_slice.result; configs = c.args.configs; states = c.args.states; moment = c.args.moment } in
    subst (IsSound r) (sym (c.in_ok-course.ensures r)) (sound_at_start r c.args.actions.now c.requires.valid
    (subst (λ (ls : List RecordLinks). MayBeAsked c.args.configs.now (length ls) c.args.actions.now) (sym same) c.requires.may))

pub do_all-requires-clause-none : goal.do_all-requires-clause-none
do_all-requires-clause-none c =
    let r : Records = record { links = c.as_slice.result; configs = c.args.configs; states = c.args.states; moment = c.args.moment } in
    ap (λ (st : Stage). st.tasks) (c.in_ok-course.ensures r)

pub returns : goal.returns
returns c =
    let same : c.as_slice.result.now ≡ c.args.self.now = search rules in
    let r : Records = record { links = c.as_slice.result; configs = c.args.configs; states = c.args.states; moment = c.args.moment } in
    subst (λ (ls : List RecordLinks). IsChain (record { links = ls; configs = c.args.configs.now; moment = c.args.moment }) c.args.states.now c.args.actions.now c.do_all.new.self.steps.items) same
    (chain_of _ c.args.states.now c.args.actions.now c.do_all.new.self.steps.items (stage_of r c.in_ok-course.course) _
    (ap (λ (st : Stage). st.scene) (c.in_ok-course.ensures r)) (ap (λ (st : Stage). st.steps) (c.in_ok-course.ensures r)) c.in_ok-do_all.ensures)
