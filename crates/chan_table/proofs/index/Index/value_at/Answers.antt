use Rattle.std.specs.Prelude.{cond, Some, None}
use Rattle.std.proofs.Common.{sym, ap, ◌∙◌}
use Rattle.std.specs.Ordering.{is_eq}
use Rattle.chan_table.proofs.Places.{find-read}
use Rattle.chan_table.proofs.index.Index.value_at.Goals as goal

pub returns-in_default : goal.returns-in_default
returns-in_default g c =
    sym (find-read g.K.Ord.cmp g.met.K.Ord.total c.args.key c.args.place _ None c.args.self.now.sorted c.requires c.in_default.ensures)

pub returns-then-is_eq : goal.returns-then-is_eq
returns-then-is_eq g c =
    ap (λ b. cond b (Some c.in-Some.entry.1) None) (c.if-is_eq.ensures ∙ ap is_eq c.cmp.ensures)
    ∙ sym (find-read g.K.Ord.cmp g.met.K.Ord.total c.args.key c.args.place _ (Some c.in-Some.entry) c.args.self.now.sorted c.requires c.in-Some.ensures)

pub returns-else-is_eq : goal.returns-else-is_eq
returns-else-is_eq g c =
    ap (λ b. cond b (Some c.in-Some.entry.1) None) (c.if-is_eq.ensures ∙ ap is_eq c.cmp.ensures)
    ∙ sym (find-read g.K.Ord.cmp g.met.K.Ord.total c.args.key c.args.place _ (Some c.in-Some.entry) c.args.self.now.sorted c.requires c.in-Some.ensures)
