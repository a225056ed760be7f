use Rattle.std.proofs.Common.{◌∙◌, sym}
use Rattle.pva_search.specs.Reading.{response_in}
use Rattle.cli_search.proofs.Responses.{hears_open}
use Rattle.cli_search.proofs.searching.hear.Goals as goal

pub returns-in-Some : goal.returns-in-Some
returns-in-Some c =
    let x = hears_open c.args.finder.now c.hear-tells.new.self c.args.from c.hear-tells.result (response_in c.args.datagram.now) c.requires c.hear-tells.ensures in
    sym x.0 ∙ sym c.in-Some.ensures

pub returns-in-None : goal.returns-in-None
returns-in-None c =
    let x = hears_open c.args.finder.now c.hear-tells.new.self c.args.from c.hear-tells.result (response_in c.args.datagram.now) c.requires c.hear-tells.ensures in
    let none = sym x.0 ∙ sym c.in-None.ensures in (none, x.1 none)
