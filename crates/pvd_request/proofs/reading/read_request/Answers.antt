use Rattle.std.proofs.Common.{◌≡◌, ◌∙◌, ap, rules, IsTrue, Option}
use Rattle.std.specs.Option.{option_copied}
use Rattle.std.specs.FinSet.{from_list, empty}
use Rattle.pvd_type.specs.Tree.{Tree}
use Rattle.pvd_value.specs.Data.{Data}
use Rattle.pvd_request.specs.Selection.{selected}
use Rattle.pvd_request.specs.Options.{options_in}
use Rattle.pvd_request.specs.Requests.{shown, root_in, request_of}
use Rattle.pvd_request.proofs.Asked.{nothing_selected, bad_option, all_asked, handed_on}
use Rattle.pvd_request.proofs.Sound.{request_sound}
use Rattle.pvd_request.proofs.reading.read_request.Goals as goal

pub returns-then-is_empty-clause-exact : goal.returns-then-is_empty-clause-exact
returns-then-is_empty-clause-exact c =
    let t = c.args.ty.now in
    let given : Option (Tree × Data) = shown (option_copied c.args.request) in
    let mask : c.in_ok-mask.mask ≡ from_list (selected t (root_in c.args.root given)) =
    c.in_ok-mask.ensures ∙ ap (λ (r : Option Tree). from_list (selected t r)) c.root_in.ensures in
    let none = c.is_empty.ensures.0 (search rules) in
    nothing_selected (selected t (root_in c.args.root given)) c.in_ok-mask.mask mask (options_in given) none

pub returns-in_err-options-clause-exact : goal.returns-in_err-options-clause-exact
returns-in_err-options-clause-exact c =
    let t = c.args.ty.now in
    let given : Option (Tree × Data) = shown (option_copied c.args.request) in
    let mask : c.in_ok-mask.mask ≡ from_list (selected t (root_in c.args.root given)) =
    c.in_ok-mask.ensures ∙ ap (λ (r : Option Tree). from_list (selected t r)) c.root_in.ensures in
    let some : c.in_ok-mask.mask ≡ empty → ⊥ = λ none. let yes : IsTrue c.is_empty.result = c.is_empty.ensures.1 none in absurd (search rules) in
    let f = c.in_err-options.field-0.0 in
    handed_on c.from_residual-in_err-options.result (request_of t c.args.root given) f c.from_residual-in_err-options.ensures.1
    (bad_option (selected t (root_in c.args.root given)) c.in_ok-mask.mask mask (options_in given) some f c.in_err-options.ensures)

pub returns-clause-exact : goal.returns-clause-exact
returns-clause-exact c =
    let t = c.args.ty.now in
    let given : Option (Tree × Data) = shown (option_copied c.args.request) in
    let mask : c.in_ok-mask.mask ≡ from_list (selected t (root_in c.args.root given)) =
    c.in_ok-mask.ensures ∙ ap (λ (r : Option Tree). from_list (selected t r)) c.root_in.ensures in
    let some : c.in_ok-mask.mask ≡ empty → ⊥ = λ none. let yes : IsTrue c.is_empty.result = c.is_empty.ensures.1 none in absurd (search rules) in
    all_asked (selected t (root_in c.args.root given)) c.in_ok-mask.mask mask (options_in given) some c.in_ok-options.options c.in_ok-options.ensures

pub returns-clause-sound : goal.returns-clause-sound
returns-clause-sound c = request_sound c.args.ty.now c.args.root (shown (option_copied c.args.request)) _ (returns-clause-exact c)
