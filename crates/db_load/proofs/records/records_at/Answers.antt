use Rattle.std.proofs.Common.{◌≡◌, ◌∙◌, ◌<◌, ap, arith, length, List, ℕ, cond, true}
use Rattle.std.proofs.lemmas.List.{nil_from_length}
use Rattle.std.proofs.lemmas.Result.{err_from_is_err_and}
use Rattle.std.proofs.lemmas.Map.Text.{hash_set_updates_text}
use Rattle.std.proofs.lemmas.Bool.Decides.{nat_tests}
use Rattle.std.specs.Str.{bytes_eq}
use Rattle.std.specs.String.{string_bytes}
use Rattle.std.specs.HashSet.{contains_text}
use Rattle.db_load.proofs.Lists.{list_ends, list_fails, list_next}
use Rattle.db_load.proofs.records.records_at.Goals as goal

pub returns-in_err-record : goal.returns-in_err-record
returns-in_err-record c =
    let p = err_from_is_err_and c.from_residual.result c.from_residual.ensures.1 in
    let some : 0 < length c.loop-rest.rest.now = grind (arith, nat_tests, c.is_empty.ensures) in
    rw (p.1, p.2) (list_fails (contains_text c.loop-rest.names) c.loop-rest.records.items c.loop-rest.rest.now _ c.in_err-record.field-0.0 some c.in_err-record.ensures.value c.loop-rest.invariant)

pub loop-rest-preserved : goal.loop-rest-preserved
loop-rest-preserved c =
    let key : string_bytes c.in_ok-name.name ≡ c.in_ok-record.record.name = c.in_ok-name.ensures.ok ∙ c.as_str.ensures.text in
    let added = hash_set_updates_text (string_bytes c.in_ok-name.name) c.loop-rest.names c.insert.new.self true c.in_ok-insert.ensures.updates in
    rw c.in_ok-push.ensures.items (list_next (contains_text c.loop-rest.names) c.loop-rest.records.items c.loop-rest.rest.now _ (contains_text c.insert.new.self) c.in_ok-record.record c.in_ok-record.after.now
    c.in_ok-record.ensures.value c.in_ok-record.ensures.shorter
    (λ name. added name ∙ ap (λ (b : List ℕ). cond (bytes_eq b name) true (contains_text c.loop-rest.names name)) key) c.loop-rest.invariant)

pub returns : goal.returns
returns c =
    let none : length c.loop-rest.rest.now ≡ 0 = grind (arith, nat_tests, c.is_empty.ensures) in
    list_ends (contains_text c.loop-rest.names) c.loop-rest.records.items c.loop-rest.rest.now _ (nil_from_length c.loop-rest.rest.now none) c.loop-rest.invariant
