use Rattle.std.proofs.Common.{ap, ◌++◌, ◌∙◌}
use Rattle.group_defs.specs.BareKeys.{quote_if}
use Rattle.group_defs.proofs.Quoting.{byte_added}
use Rattle.group_defs.proofs.bare_keys.push_byte.Goals as goal

pub returns : goal.returns
returns c =
    byte_added c.args.within c.args.byte c.args.rest.now c.args.text.now.items c.push_quote_if.new.text.items c.push.new.self.items c.push_quote_if-2.new.text.items
    (c.in_ok-push_quote_if.ensures ∙ ap (λ q. c.args.text.now.items ++ quote_if q) c.opens_key.ensures) c.in_ok-push.ensures.items
    (c.in_ok-push_quote_if-2.ensures ∙ ap (λ q. c.push.new.self.items ++ quote_if q) c.closes_key.ensures)
