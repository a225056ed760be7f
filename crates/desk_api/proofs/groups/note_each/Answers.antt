use Rattle.std.specs.Prelude.{◌≡◌, ℕ, ◌<◌, List, ◌∷◌, [], map, length, take, get_or}
use Rattle.std.proofs.Common.{sym, ◌∙◌, ap, subst, arith, Vec, Global}
use Rattle.std.proofs.Math.Seq.{take-length}
use Rattle.std.proofs.lemmas.Option.{slice_get-get_or}
use Rattle.desk_api.proofs.Building.{all_at}
use Rattle.desk_api.proofs.Noting.{noted_each, or_false}
use Rattle.desk_api.proofs.Stating.{next_taken}
use Rattle.desk_api.specs.Grouping.{is_noted, IsNotedFor}
use Rattle.desk_api.proofs.groups.note_each.Goals as goal

pub loop-rec-init : goal.loop-rec-init
loop-rec-init c = (λ i. length c.args.index.now.items, λ r n. sym (or_false (is_noted (map (λ (v : Vec ℕ Global). v.items) c.args.index.now.items) r n)))

pub note-requires : goal.note-requires
note-requires c =
    let at = slice_get-get_or c.args.recs.now c.loop-rec.rec-index 0 c.loop-rec-test.true in
    omega (arith, all_at (λ (rec : ℕ). rec < length c.args.index.now.items) c.args.recs.now c.loop-rec.rec-index _ c.requires at, c.loop-rec.invariant.0)

pub loop-rec-preserved : goal.loop-rec-preserved
loop-rec-preserved c =
    let recs = c.args.recs.now in
    let i = c.loop-rec.rec-index in
    let at = slice_get-get_or recs i 0 c.loop-rec-test.true in
    let seen : List (Vec ℕ Global) → List (List ℕ) = map (λ (v : Vec ℕ Global). v.items) in
    let step = (c.in_ok-note.ensures {u = tt}).noted in (
      c.note.ensures.count ∙ c.loop-rec.invariant.0,
      subst (λ (l : List ℕ). IsNotedFor l c.args.number (seen c.args.index.now.items) (seen c.note.new.index.items)) (sym (next_taken recs i _ at))
          (λ r n. noted_each (seen c.args.index.now.items) (seen c.loop-rec.index.items) (seen c.note.new.index.items) (take i recs) (get_or recs i 0 ∷ []) c.args.number r n (c.loop-rec.invariant.1 r n) (step r n)),
    )

pub returns-clause-noted : goal.returns-clause-noted
returns-clause-noted c =
    let recs = c.args.recs.now in
    let end : c.loop-rec.rec-index ≡ length recs = omega (arith, c.loop-rec-test.false, c.loop-rec.auto.rec-index-end) in
    let whole : take c.loop-rec.rec-index recs ≡ recs = ap (λ (n : ℕ). take n recs) end ∙ take-length recs in
    let seen : List (Vec ℕ Global) → List (List ℕ) = map (λ (v : Vec ℕ Global). v.items) in
    subst (λ (l : List ℕ). IsNotedFor l c.args.number (seen c.args.index.now.items) (seen c.loop-rec.index.items)) whole c.loop-rec.invariant.1
