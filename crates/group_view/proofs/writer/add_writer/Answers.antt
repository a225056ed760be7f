use Rattle.std.proofs.Common.{sym, ap, ◌∙◌, ℤ, Some, SFits, w32, to_z-of_z, rules}
use Rattle.std.specs.BTreeMap.{insert_entry}
use Rattle.group_view.specs.Puts.{with_writer, placed_by, place_cmp}
use Rattle.group_view.proofs.writer.add_writer.Goals as goal

pub returns : goal.returns
returns c =
    let fits : SFits w32 c.in-Some.order = search rules in
    let found = c.args.found.now.entries in
    c.in_ok-insert.ensures.entries
    ∙ ap (λ (z : ℤ). insert_entry place_cmp found (z, c.args.number) (record { link = c.in_ok-link.link; writing = c.in-Some-writing_of.writing })) (to_z-of_z fits)
    ∙ ap (λ l. with_writer found (placed_by c.args.number (Some c.in-Some.order) (Some l) (Some c.in-Some-writing_of.writing))) c.in_ok-link.ensures
    ∙ (λ i. with_writer found (placed_by c.args.number (sym c.in-Some.is i) (sym c.in-Some-link.is i) ((sym c.in-Some-writing_of.is ∙ c.writing_of.ensures) i)))
