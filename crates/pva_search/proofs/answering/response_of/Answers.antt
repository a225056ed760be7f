use Rattle.std.proofs.Common.{◌≡◌, ◌∙◌, ◌+◌, ◌*◌, ◌++◌, ℕ, List, Vec, Global, true, length, ap, arith}
use Rattle.std.proofs.lemmas.Result.{IfOk-weaker}
use Rattle.pva_frames.specs.Spelling.{frame_bytes}
use Rattle.pva_search.specs.Fields.{canonical}
use Rattle.pva_search.specs.Messages.{response_fields}
use Rattle.pva_search.specs.Answers.{response_of}
use Rattle.pva_search.proofs.Lengths.{response_size}
use Rattle.pva_search.proofs.answering.response_of.Goals as goal

pub returns-clause-size : goal.returns-clause-size
returns-clause-size c =
    let o = c.args.order in
    let twelve : length c.args.setup.now.guid ≡ 12 = omega arith in
    let fields = response_fields (response_of c.args.setup.now c.args.sequence c.args.instances.now) in
    let payload : c.as_slice.result.now ≡ canonical o fields =
    c.as_slice.ensures.value ∙ c.in_ok-write_response.ensures ∙ ap (λ (xs : List ℕ). xs ++ canonical o fields) c.new-payload.ensures.items in
    IfOk-weaker c.datagram_of.result (λ (v : Vec ℕ Global). v.items ≡ frame_bytes o true 0 4 c.as_slice.result.now) (λ (v : Vec ℕ Global). length v.items ≡ 49 + 4 * length c.args.instances.now)
    (λ v e. ap length (e ∙ ap (λ (xs : List ℕ). frame_bytes o true 0 4 xs) payload) ∙ response_size o c.args.setup.now c.args.sequence c.args.instances.now twelve) c.datagram_of.ensures
