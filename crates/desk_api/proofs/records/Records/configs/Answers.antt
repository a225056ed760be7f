use Rattle.std.specs.Prelude.{◌≡◌, ℕ, List, ◌++◌, ◌∷◌, [], map, length, take, Some, slice_get, option_map}
use Rattle.std.specs.Arc.{arc_value}
use Rattle.std.proofs.Common.{rules, sym, ◌∙◌, ap, arith}
use Rattle.std.proofs.Math.Seq.{take-length}
use Rattle.std.proofs.lemmas.List.{length-map, map-append}
use Rattle.std.proofs.lemmas.Option.{slice_get-map}
use Rattle.rec_kinds.specs.Configs.{Config}
use Rattle.desk_api.proofs.Recording.{Entries}
use Rattle.desk_api.proofs.Stating.{next_taken}
use Rattle.desk_api.specs.declared.history.SiteData.{SiteData}
use Rattle.desk_api.proofs.records.Records.configs.Goals as goal

-- the configuration of an entry
configured : (es : Entries) (site : SiteData) (rec : ℕ) (e : _) → map (λ x. x.1.config.value) es ≡ site.configs → slice_get es rec ≡ Some e → slice_get site.configs rec ≡ Some e.1.config.value
configured es site rec e shows is = ap (λ (l : List Config). slice_get l rec) (sym shows) ∙ slice_get-map (λ x. x.1.config.value) es rec ∙ ap (option_map (λ x. x.1.config.value)) is

pub loop-rec-preserved : goal.loop-rec-preserved
loop-rec-preserved c =
    let es = c.self.inside.by_name.entries in
    let rec = c.loop-rec.rec in
    let found : slice_get es rec ≡ Some (c.unwrap.result.0.now, c.unwrap.result.1.now) = search rules in
    let at : slice_get c.args.self.now.configs rec ≡ Some c.unwrap.result.1.now.config.value = configured es c.args.self.now rec _ (ap (λ (s : SiteData). s.configs) c.self.view_is) found in
    ap (map arc_value) (c.in_ok-push.ensures {u = tt}).items
    ∙ map-append arc_value c.loop-rec.configs.items (c.in_ok-try_clone.field-0 ∷ [])
    ∙ (λ i. c.loop-rec.invariant i ++ (c.in_ok-try_clone.ensures {u = tt}) i ∷ [])
    ∙ sym (next_taken c.args.self.now.configs rec c.unwrap.result.1.now.config.value at)

pub returns : goal.returns
returns c =
    let es = c.self.inside.by_name.entries in
    let configs = c.args.self.now.configs in
    let count : length configs ≡ length es = sym (ap (λ (s : SiteData). length s.configs) c.self.view_is) ∙ length-map es (λ x. x.1.config.value) in
    let all : c.len-count.result ≡ length es = search rules in
    let end : c.loop-rec.rec ≡ length configs = omega (arith, c.loop-rec-test.false, c.loop-rec.auto.rec-end, count, all) in
    c.loop-rec.invariant ∙ ap (λ (n : ℕ). take n configs) end ∙ take-length configs
