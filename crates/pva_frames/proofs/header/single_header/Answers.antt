use Rattle.std.proofs.Common.{rules, ◌≤◌, length, sym, ap, ◌∙◌, arith}
use Rattle.pva_frames.specs.Headers.{header_of}
use Rattle.pva_frames.proofs.Cutting.{header-take}
use Rattle.pva_frames.proofs.header.single_header.Goals as goal

pub returns-in-Single : goal.returns-in-Single
returns-in-Single c =
    let long : 8 ≤ length c.args.bytes.now = omega (arith, c.if-bytes-lt-SIZE.false) in
    let is = c.header_in-header.ensures in
    record {
      long = long;
      first = search rules;
      is = is ∙ ap header_of (search rules) ∙ header-take 8 c.args.bytes.now (omega arith) long;
      application = sym (c.if-is_control.ensures {u = tt});
      single = sym (c.in-Single.ensures {u = tt});
    }
