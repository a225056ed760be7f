use Rattle.std.proofs.Common.{◌∙◌, ◌++◌, [], ◌∷◌, ap, Bool, not}
use Rattle.std.proofs.lemmas.Result.{on_ok_weaker}
use Rattle.pva_wire.specs.Spelling.{number_bytes}
use Rattle.pva_search.specs.Fields.{byte, short, word, bytes, text, instances}
use Rattle.pva_search.specs.Messages.{flag, tcp, zero_address}
use Rattle.pva_search.specs.Answers.{is_empty}
use Rattle.pva_search.proofs.Items.{one_first, one_more, some_more}
use Rattle.pva_search.proofs.answering.write_response.Goals as goal

pub returns : goal.returns
returns c =
    let o = c.args.order in
    let start = c.args.out.now.items in
    let guid = bytes c.args.setup.now.guid in
    let sequence = word c.args.sequence in
    let server = bytes zero_address ∷ short c.args.setup.now.port ∷ text tcp ∷ [] in
    let found = byte (flag (not (is_empty c.args.instances.now))) in
    let e1 = one_first o start c.extend_from_slice.new.self.items guid c.in_ok-extend_from_slice.ensures.items in
    let e2 = one_more o start c.extend_from_slice.new.self.items c.write_u32.new.out.items (guid ∷ []) sequence e1 c.in_ok-write_u32.ensures.ok in
    let e3 = some_more o start c.write_u32.new.out.items c.put_server.new.out.items (guid ∷ sequence ∷ []) server e2 c.in_ok-put_server.ensures in
    let e4 = one_more o start c.put_server.new.out.items c.put_flag.new.out.items
    (guid ∷ sequence ∷ bytes zero_address ∷ short c.args.setup.now.port ∷ text tcp ∷ []) found e3 (c.in_ok-put_flag.ensures o ∙ ap (λ (b : Bool). c.put_server.new.out.items ++ number_bytes o 1 (flag (not b))) c.is_empty.ensures) in
    on_ok_weaker c.put_instances.result
    (λ e. one_more o start c.put_flag.new.out.items c.put_instances.new.out.items
    (guid ∷ sequence ∷ bytes zero_address ∷ short c.args.setup.now.port ∷ text tcp ∷ found ∷ []) (instances c.args.instances.now) e4 e)
    c.put_instances.ensures
