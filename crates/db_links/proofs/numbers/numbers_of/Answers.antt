use Rattle.std.proofs.Common.{◌≡◌, ◌∙◌, ◌+◌, ◌-◌, ◌<◌, ℕ, List, Some, cond, sym, ap, drop, length, get_or, arith, rules}
use Rattle.std.specs.Str.{bytes_eq}
use Rattle.std.proofs.lemmas.Map.Text.{btree_map_updates_str}
use Rattle.db_links.specs.Live.{number_from}
use Rattle.db_links.specs.Numbered.{number_in}
use Rattle.db_links.proofs.Naming.{one_before}
use Rattle.db_links.proofs.numbers.numbers_of.Goals as goal

pub loop-number-preserved : goal.loop-number-preserved
loop-number-preserved c = λ name.
    let rs = c.args.records.now in
    let i = c.loop-number.number - 1 in
    let r = c.index-records-number.result in
    let within : i < length rs = omega arith in
    let here : get_or rs i r ≡ r = search rules in
    let after : i + 1 ≡ c.loop-number.number = omega arith in
    let updates = btree_map_updates_str c.as_bytes.result.now c.loop-number.numbers c.insert.new.self _ c.in_ok-insert.ensures.updates name in
    updates
    ∙ ap (λ (bs : List ℕ). cond (bytes_eq bs name) (Some i) (number_in c.loop-number.numbers name)) (c.as_bytes.ensures.value ∙ c.as_str.ensures.text)
    ∙ one_before rs i r name (number_in c.loop-number.numbers name) within here (c.loop-number.invariant name ∙ ap (λ k. number_from k (drop k rs) name) (sym after))
