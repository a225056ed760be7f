use Rattle.std.specs.Prelude.{◌≡◌, String, ◌<◌, ℕ, List, length, map, false, IsTrue, string_bytes, OnOk}
use Rattle.std.proofs.Common.{sym, ◌∙◌, ap, subst, arith, Global}
use Rattle.std.proofs.lemmas.List.{length-map}
use Rattle.db_load.specs.Forms.{is_among}
use Rattle.pvd_type.specs.Numbers.{leaves}
use Rattle.rec_fields.specs.Types.{record_tree}
use Rattle.rec_kinds.specs.Configs.{Config}
use Rattle.rec_kinds.specs.Validity.{IsValid}
use Rattle.desk_api.proofs.Recording.{Entries, data_of, AreKept, after_put, put_shows, kept_more}
use Rattle.desk_api.specs.Records.{with_one}
use Rattle.desk_api.specs.Sites.{is_record_name}
use Rattle.desk_api.specs.declared.history.SiteData.{SiteData}
use Rattle.desk_api.specs.declared.records.Served.{Served}
use Rattle.desk_api.proofs.records.Records.insert.Goals as goal

-- the name is new among those of the entries
new_among : (es : Entries) (site : SiteData) (bytes name : List ℕ) → data_of es ≡ site → bytes ≡ name → is_among name site.names ≡ false → is_among bytes (map (λ e. string_bytes e.0) es) ≡ false
new_among es site bytes name shows same fresh = (λ i. is_among (same i) ((ap (λ (s : SiteData). s.names) shows) i)) ∙ fresh

-- there are as many names as entries
as_few : (es : Entries) (site : SiteData) → data_of es ≡ site → length site.names < 4000 → length es < 4000
as_few es site shows few =
    let count : length (map (λ e. string_bytes e.0) es) ≡ length es = length-map es (λ (e : String Global × Served). string_bytes e.0) in
    omega (arith, few, ap (λ (s : SiteData). length s.names) shows, count)

pub invariant_of-self : goal.invariant_of-self
invariant_of-self c =
    let es = c.self.inside.by_name.entries in
    let bytes : string_bytes c.in_ok-name.name ≡ c.args.name.now = (c.in_ok-name.ensures {u = tt}).ok in
    let fresh = new_among es c.args.self.now _ _ c.self.view_is bytes c.requires.fresh in
    let named = subst (λ (n : List ℕ). IsTrue (is_record_name n)) (sym bytes) c.requires.named in
    let few = as_few es c.args.self.now c.self.view_is c.requires.few in
    let own : c.in_ok-new.field-0.value ≡ c.args.config = (c.in_ok-new.ensures {u = tt}).ok in
    let valid : IsValid c.in_ok-new.field-0.value c.args.opening = subst (λ (x : Config). IsValid x c.args.opening) (sym own) c.requires.valid in
    let typed : c.in_ok-ty.ty ≡ record_tree c.in_ok-new.field-0.value = (c.in_ok-ty.ensures {u = tt}) ∙ ap record_tree (sym own) in
    let listed : c.in_ok-leaves.leaves ≡ leaves (record_tree c.in_ok-new.field-0.value) = (c.in_ok-leaves.ensures {u = tt}) ∙ ap leaves typed in
    after_put c.put_in.result AreKept es _ _ _ fresh c.put_in.ensures.ok c.put_in.ensures.err c.self.invariant (kept_more es _ _ c.self.invariant named valid typed listed few)

pub returns : goal.returns
returns c =
    let es = c.self.inside.by_name.entries in
    let bytes : string_bytes c.in_ok-name.name ≡ c.args.name.now = (c.in_ok-name.ensures {u = tt}).ok in
    let fresh = new_among es c.args.self.now _ _ c.self.view_is bytes c.requires.fresh in
    let own : c.in_ok-new.field-0.value ≡ c.args.config = (c.in_ok-new.ensures {u = tt}).ok in
    subst (λ (x : List ℕ × Config). OnOk c.put_in.result (data_of c.put_in.new.records.entries ≡ with_one c.args.self.now x.0 x.1 c.args.opening)) (λ i. (bytes i, own i))
    (put_shows c.put_in.result c.args.self.now es _ _ _ (sym c.self.view_is) fresh c.put_in.ensures.ok)
