use Rattle.db_text.proofs.Told.{cut_scan, cut_told}
use Rattle.db_text.proofs.cutting.cut.Goals as goal

pub returns : goal.returns
returns c = record {
  exact = cut_told _ _ c.args.text.now c.as_bytes-bytes.result.now c.cut_bytes.result c.as_bytes-bytes.ensures.value c.cut_bytes.ensures;
  scan = cut_scan _ _ c.args.text.now c.as_bytes-bytes.result.now c.cut_bytes.result c.as_bytes-bytes.ensures.value c.cut_bytes.ensures;
}
