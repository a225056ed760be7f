use Rattle.std.proofs.Common.{◌≡◌, length, append_assoc, rules}
use Rattle.pva_wire.specs.Spelling.{IsSize}
use Rattle.pvd_type.specs.View.{members_view}
use Rattle.pvd_type.specs.declared.shape.Node.{out-Node}
use Rattle.pvd_desc.specs.Grammar.{CanSpellFields}
use Rattle.pvd_desc.proofs.Chains.{node_is, count_is}
use Rattle.pvd_desc.proofs.writing.+put.Goals as goal

pub put_node-returns-clause-written : goal.put_node-returns-clause-written
put_node-returns-clause-written t c =
    let ms = (out-Node c.args.node.now).members.items in
    let same : c.deref.result.now ≡ ms = search rules in
    let count : c.len.result ≡ length ms = search rules in
    rw (node_is c.args.node.now, count_is, c.in_ok-put_members.ensures.written, c.in_ok-put_count.ensures.written, c.in_ok-write_text.ensures.ok, c.in_ok-extend_from_slice.ensures.items, same, count) (simp append_assoc)

pub put_node-returns-clause-spelled : goal.put_node-returns-clause-spelled
put_node-returns-clause-spelled t c =
    let ms = (out-Node c.args.node.now).members.items in
    let same : c.deref.result.now ≡ ms = search rules in
    let count : c.len.result ≡ length ms = search rules in
    let size : IsSize (length ms) = rw count at c.in_ok-put_count.ensures.spelled in
    let members : CanSpellFields (members_view ms) = rw same at c.in_ok-put_members.ensures.spelled in
    rw (node_is c.args.node.now, count_is) (c.in_ok-write_text.ensures.spelled, size, members)
