use Rattle.prog_drill.proofs.Drawing.{put_done}
use Rattle.prog_drill.proofs.client.add_put.Goals as goal

pub returns : goal.returns
returns c =
    put_done _ _ _ _ _ c.write_u32-3.new.out.items c.args.number c.args.value c.write_u32-3.result c.in_ok-extend_from_slice.ensures.items c.in_ok-write_u32.ensures.ok c.in_ok-write_u32-2.ensures.ok
    c.in_ok-extend_from_slice-2.ensures.items c.write_u32-3.ensures.ok
