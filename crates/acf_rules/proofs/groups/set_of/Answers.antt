use Rattle.std.proofs.Common.{◌≡◌, ◌∙◌, ap, map, string_bytes}
use Rattle.acf_rules.specs.Access.{Name}
use Rattle.acf_rules.specs.Forms.{with_name}
use Rattle.acf_rules.proofs.Maps.{put_in, put_next}
use Rattle.acf_rules.proofs.groups.set_of.Goals as goal

pub loop-name-preserved : goal.loop-name-preserved
loop-name-preserved c =
    let keys = map string_bytes c.loop-name.set.keys in
    let key : string_bytes c.in_ok-from_str.field-0 ≡ c.name-item.result = c.in_ok-from_str.ensures.ok ∙ c.as_str.ensures.text in
    put_next keys (map string_bytes c.insert.new.self.keys) c.args.names.now c.loop-name.name-index c.name-item.result c.loop-name-test.true c.name-item.is
    (ap (map string_bytes) c.in_ok-insert.ensures.keys ∙ put_in string_bytes c.loop-name.set.keys c.in_ok-from_str.field-0 ∙ ap (λ (name : Name). with_name keys name) key)
    c.loop-name.invariant
