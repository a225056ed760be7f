use Rattle.std.proofs.Common.{◌∙◌, ap, subst, ℕ, List, [], Ok}
use Rattle.desk_api.specs.Loading.{Builds}
use Rattle.prog_drill.proofs.Drawing.{text_is}
use Rattle.prog_drill.proofs.drilling.desk_of.Goals as goal

pub returns : goal.returns
returns c = record {
  site = c.in-Ok.site;
  built = subst (λ (text : List ℕ). Builds [] text (Ok c.in-Ok.site)) text_is c.in-Ok.ensures;
  first = ap (λ desk. desk.log) c.new-4.ensures ∙ c.in-Ok-new.ensures.seat;
}
