use Rattle.std.specs.Prelude.{◌≡◌, ◌≤◌, ℕ, List, length, map, take, refl}
use Rattle.std.proofs.Common.{sym, ◌∙◌, ap, arith}
use Rattle.std.proofs.Math.Seq.{take-length}
use Rattle.std.proofs.lemmas.List.{length-map, length-take}
use Rattle.rec_kinds.specs.declared.record_text.RecText.{RecText}
use Rattle.db_load.specs.Forms.{is_among}
use Rattle.desk_api.proofs.Stating.{new_at, there, is_first, none_more, site_more}
use Rattle.desk_api.specs.Loading.{first_fault}
use Rattle.desk_api.specs.Records.{records_of}
use Rattle.desk_api.specs.declared.history.SiteData.{SiteData}
use Rattle.desk_api.proofs.records.Records.of_texts.Goals as goal

pub loop-stated-init : goal.loop-stated-init
loop-stated-init c = (refl, c.new-records.ensures)

pub add-requires-clause-named : goal.add-requires-clause-named
add-requires-clause-named c = (new_at _ c.requires.new _ _ (there _ c.loop-stated.stated-index _ c.loop-stated-test.true c.stated-item.is)).0

pub add-requires-clause-fresh : goal.add-requires-clause-fresh
add-requires-clause-fresh c =
    ap (λ (s : SiteData). is_among c.stated-item.result.name s.names) c.loop-stated.invariant.1
    ∙ (new_at _ c.requires.new _ _ (there _ c.loop-stated.stated-index _ c.loop-stated-test.true c.stated-item.is)).1

-- fewer records were added than there are
fewer : (rs : List RecText) (i : ℕ) → length (map (λ (r : RecText). r.name) (take i rs)) ≤ i
fewer rs i =
    let count : length (map (λ (r : RecText). r.name) (take i rs)) ≡ length (take i rs) = length-map (take i rs) (λ (r : RecText). r.name) in
    omega (arith, count, length-take i rs)

pub add-requires-clause-few : goal.add-requires-clause-few
add-requires-clause-few c =
    let is : length c.loop-stated.records.names ≡ length (map (λ (r : RecText). r.name) (take c.loop-stated.stated-index c.args.texts.now)) = ap (λ (s : SiteData). length s.names) c.loop-stated.invariant.1 in
    omega (arith, is, fewer c.args.texts.now c.loop-stated.stated-index, c.loop-stated-test.true, c.requires.few)

pub returns-in-Err-clause-fault : goal.returns-in-Err-clause-fault
returns-in-Err-clause-fault c =
    is_first c.args.texts.now c.loop-stated.stated-index c.stated-item.result c.in-Err.fault
    (there _ c.loop-stated.stated-index _ c.loop-stated-test.true c.stated-item.is) c.loop-stated.invariant.0 (c.in-Err.ensures {u = tt}).fault

pub loop-stated-preserved : goal.loop-stated-preserved
loop-stated-preserved c =
    let texts = c.args.texts.now in
    let i = c.loop-stated.stated-index in
    let here = there texts i c.stated-item.result c.loop-stated-test.true c.stated-item.is in
    let added = c.in_default.ensures {u = tt} in (
      none_more texts i c.stated-item.result here c.loop-stated.invariant.0 added.faultless,
      site_more texts i c.stated-item.result c.loop-stated.records c.add.new.self here c.loop-stated.invariant.1 added.ok,
    )

pub returns-clause-ok : goal.returns-clause-ok
returns-clause-ok c =
    let texts = c.args.texts.now in
    let end : c.loop-stated.stated-index ≡ length texts = omega (arith, c.loop-stated-test.false, c.loop-stated.auto.stated-index-end) in
    let whole : take c.loop-stated.stated-index texts ≡ texts = ap (λ (n : ℕ). take n texts) end ∙ take-length texts in
    (ap first_fault (sym whole) ∙ c.loop-stated.invariant.0, c.loop-stated.invariant.1 ∙ ap records_of whole)
