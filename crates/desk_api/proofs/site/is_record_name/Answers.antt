use Rattle.std.proofs.Common.{rules, tests, arith, ◌≡◌, ◌≤◌, not, length, ap}
use Rattle.std.proofs.lemmas.Bool.Decides.{nat_tests}
use Rattle.std.specs.List.{list_all}
use Rattle.std.proofs.lemmas.Iterator.{YieldsList-from_slice}
use Rattle.std.proofs.lemmas.Iterator.Search.{all_from_yields_List}
use Rattle.db_load.specs.Forms.{is_special}
use Rattle.desk_api.proofs.site.is_record_name.Goals as goal

pub returns : goal.returns
returns c =
    let text = c.args.text.now in
    let none_special : c.all.result ≡ list_all (λ b. not (is_special b)) text =
    all_from_yields_List (λ b. not (is_special b)) _ _ c.all.result c.all.ensures.ran (YieldsList-from_slice text cc) (λ x b q k. search (rules, tests)) in
    let same : c.as_bytes-bytes.result.now ≡ text = search rules in
    let some : 1 ≤ length text = grind (arith, nat_tests, c.if-is_empty.ensures) in
    let few : length text ≤ 60 = omega (arith, ap length same) in
    rw (← none_special) (grind (arith, nat_tests))
