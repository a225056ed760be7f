use Rattle.pvd_value.specs.View.{view}
use Rattle.cli_text.proofs.PutLeaves.{put_holds}
use Rattle.cli_text.proofs.words.put_words.Goals as goal

pub returns-clause-leaves : goal.returns-clause-leaves
returns-clause-leaves c =
    put_holds c.args.ty.now (view c.args.current.now) c.args.words.now c.as_str.result.now c.in-Some.way (c.in_ok-mask.field-0.mask, view c.in_ok-mask.field-0.value)
    c.in-Some.ensures.way c.in_ok-mask.ensures.put
