use Rattle.std.proofs.Common.{◌∙◌, sym, ap, subst, rules, ◌≡◌, length}
use Rattle.std.specs.Prelude.{vec_len}
use Rattle.srv_host.proofs.Hosts.{hosts, length_map}
use Rattle.srv_host.proofs.hosting.host_in.Goals as goal

pub returns-clause-hosts : goal.returns-clause-hosts
returns-clause-hosts g c =
    let running = c.accept_all-running.result.0 in
    let joined = rw c.accept_all-running.ensures.kept at c.join_all-fine.ensures.joined in
    let many : vec_len running ≡ length running.items = search rules in
    hosts _ _ _ _ _ _ _ _ _ _ _ _ _ _ _ _ _ _ c.accept_all-running.ensures.accepted joined c.settle-keep.ensures.adds c.settle-keep.ensures.others c.settle-keep.ensures.distinct c.settle-keep.ensures.did
    (c.len-served.ensures ∙ (many ∙ sym (length_map _ running.items))) c.answer.ensures
