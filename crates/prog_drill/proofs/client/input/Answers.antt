use Rattle.prog_drill.proofs.Drawing.{input_written}
use Rattle.prog_drill.proofs.client.input.Goals as goal

pub returns : goal.returns
returns c =
    input_written c.args.number c.first_number.result c.in_ok-out.out.items c.extend_from_slice.new.self.items c.add_puts.new.out.items c.first_number.ensures.value c.in_ok-out.ensures.items
    c.in_ok-extend_from_slice.ensures.items c.in_ok-add_puts.ensures
