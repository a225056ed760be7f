use Rattle.std.proofs.Common.{◌∙◌, ap, Global, Err}
use Rattle.db_load.specs.Loading.{last_line, text_fault}
use Rattle.db_load.proofs.Loadings.{load_done, load_fails}
use Rattle.db_load.proofs.Relations.{loads}
use Rattle.db_load.proofs.loading.read_records.Goals as goal

pub returns-in-Ok : goal.returns-in-Ok
returns-in-Ok c =
    record {
      exact = loads _ c.args.macros.now c.args.text.now c.loaded_cut.result (load_done _ c.args.macros.now c.args.text.now c.in-Ok.plain c.as_str.result.now c.last_line.result c.loaded_cut.result
          c.in-Ok.ensures.exact.0 (c.last_line.ensures ∙ ap last_line c.as_bytes-bytes.ensures.value) c.as_str.ensures.text c.loaded_cut.ensures);
    }

pub returns-in-Err : goal.returns-in-Err
returns-in-Err c =
    record {
      exact = rw c.text_fault.ensures (loads Global c.args.macros.now c.args.text.now (Err (text_fault c.in-Err.fault))
          (load_fails Global c.args.macros.now c.args.text.now c.in-Err.fault c.in-Err.ensures.exact));
    }
