-- Records under their names.
use Rattle.std.specs.Prelude.{◌≡◌, ℕ, ◌+◌, ◌<◌, ◌≤◌, ◌&&◌, Result, Ok, Err, OnOk, OnErr, IsTrue, string_eq, Bool, List, [], ◌∷◌, ◌++◌, length, map, Some, slice_get, bytes_eq, string_bytes, String, refl}
use Rattle.std.specs.Option.{option_map}
use Rattle.std.specs.List.{list_all, position_from}
use Rattle.std.specs.Map.{keys_of}
use Rattle.indexmap.specs.IndexMap.{insert_entry}
use Rattle.pvd_type.specs.Numbers.{leaves}
use Rattle.pvd_type.specs.declared.memory.NoMemory.{NoMemory}
use Rattle.std.proofs.Common.{true, false, cond, arith, sym, ◌∙◌, ap, subst, length-append, Global}
use Rattle.std.proofs.lemmas.Bool.{false≢true}
use Rattle.std.proofs.lemmas.Bool.Decides.{same_from_decides}
use Rattle.std.proofs.lemmas.List.{map-append}
use Rattle.std.proofs.lemmas.List.Folds.{list_all-append}
use Rattle.std.proofs.lemmas.Option.{slice_get-map}
use Rattle.std.proofs.lemmas.Slice.Eq.{bytes_eq-Decides}
use Rattle.db_load.specs.Forms.{is_among}
use Rattle.journal_core.specs.Legality.{AreValid}
use Rattle.rec_fields.specs.Types.{record_tree}
use Rattle.rec_kinds.specs.Configs.{Config}
use Rattle.rec_kinds.specs.Validity.{IsValid}
use Rattle.rec_kinds.specs.declared.state.RecState.{RecState}
use Rattle.desk_api.specs.Records.{channel_at, with_one}
use Rattle.desk_api.specs.Sites.{channel_of, is_record_name}
use Rattle.desk_api.specs.Types.{type_shown}
use Rattle.desk_api.specs.declared.channel.ChannelKind.{ChannelKind}
use Rattle.desk_api.specs.declared.history.SiteData.{SiteData}
use Rattle.desk_api.specs.declared.records.Served.{Served}

abbrev pub Entries : Type 0
Entries = List (String Global × Served)

-- what is kept of the entries of records
abbrev pub data_of : Entries → SiteData
data_of es = record { names = map (λ e. string_bytes e.0) es; configs = map (λ e. e.1.config.value) es; opening = map (λ e. e.1.opening) es; groups = [] }

abbrev pub AreKept : Entries → Type 0
AreKept es =
    AreValid (map (λ e. e.1.config.value) es) (map (λ e. e.1.opening) es)
    × (map (λ e. e.1.ty) es ≡ map (λ e. record_tree e.1.config.value) es)
    × (list_all is_record_name (map (λ e. string_bytes e.0) es) ≡ true)
    × (length es ≤ 4000)
    × (map (λ e. e.1.leaves) es ≡ map (λ e. leaves (record_tree e.1.config.value)) es)

-- the number under which a map has a name is that of its channel
pub at_place : (kind : ChannelKind) (n : ℕ) (name : List ℕ) (es : Entries) → channel_at kind n (map (λ e. string_bytes e.0) es) name ≡ option_map (channel_of kind) (position_from (λ k. bytes_eq name (string_bytes k)) n (keys_of es))
at_place kind n name [] = refl
at_place kind n name (e ∷ es) =
    let here_or_later = elim (bytes_eq name (string_bytes e.0)) as (λ (b : Bool). cond b (Some (channel_of kind n)) (channel_at kind (n + 1) (map (λ x. string_bytes x.0) es) name) ≡ option_map (channel_of kind) (cond b (Some n) (position_from (λ k. bytes_eq name (string_bytes k)) (n + 1) (keys_of es)))) [
      | true ↦ refl
      | false ↦ at_place kind (n + 1) name es
    ] in
    here_or_later

-- the type kept of a record is the one that it shows
pub shows_type : (es : Entries) (rec : ℕ) (e : String Global × Served) → slice_get es rec ≡ Some e → map (λ x. x.1.ty) es ≡ map (λ x. record_tree x.1.config.value) es → e.1.ty ≡ type_shown (slice_get (map (λ x. x.1.config.value) es) rec)
shows_type es rec e is types =
    let ty : slice_get (map (λ x. x.1.ty) es) rec ≡ Some e.1.ty = slice_get-map (λ x. x.1.ty) es rec ∙ ap (option_map (λ x. x.1.ty)) is in
    let tree : slice_get (map (λ x. record_tree x.1.config.value) es) rec ≡ Some (record_tree e.1.config.value) = slice_get-map (λ x. record_tree x.1.config.value) es rec ∙ ap (option_map (λ x. record_tree x.1.config.value)) is in
    let config : slice_get (map (λ x. x.1.config.value) es) rec ≡ Some e.1.config.value = slice_get-map (λ x. x.1.config.value) es rec ∙ ap (option_map (λ x. x.1.config.value)) is in
    let both : Some e.1.ty ≡ Some (record_tree e.1.config.value) = sym ty ∙ ap (λ l. slice_get l rec) types ∙ tree in
    let same : e.1.ty ≡ record_tree e.1.config.value = cc in
    same ∙ ap type_shown (sym config)

-- the leaves kept of a record are those of the type that it shows
pub shows_leaves : (es : Entries) (rec : ℕ) (e : String Global × Served) → slice_get es rec ≡ Some e → map (λ x. x.1.leaves) es ≡ map (λ x. leaves (record_tree x.1.config.value)) es
    → e.1.leaves ≡ leaves (type_shown (slice_get (map (λ x. x.1.config.value) es) rec))
shows_leaves es rec e is all =
    let own : slice_get (map (λ x. x.1.leaves) es) rec ≡ Some e.1.leaves = slice_get-map (λ x. x.1.leaves) es rec ∙ ap (option_map (λ x. x.1.leaves)) is in
    let of_tree : slice_get (map (λ x. leaves (record_tree x.1.config.value)) es) rec ≡ Some (leaves (record_tree e.1.config.value)) = slice_get-map (λ x. leaves (record_tree x.1.config.value)) es rec ∙ ap (option_map (λ x. leaves (record_tree x.1.config.value))) is in
    let config : slice_get (map (λ x. x.1.config.value) es) rec ≡ Some e.1.config.value = slice_get-map (λ x. x.1.config.value) es rec ∙ ap (option_map (λ x. x.1.config.value)) is in
    let both : Some e.1.leaves ≡ Some (leaves (record_tree e.1.config.value)) = sym own ∙ ap (λ l. slice_get l rec) all ∙ of_tree in
    let same : e.1.leaves ≡ leaves (record_tree e.1.config.value) = cc in
    same ∙ ap (λ o. leaves (type_shown o)) (sym config)

-- a name that none of the records has isn't in the map
pub turned : (xs ys : List ℕ) → bytes_eq xs ys ≡ bytes_eq ys xs
turned xs ys =
    let back = bytes_eq-Decides ys xs in
    same_from_decides (bytes_eq xs ys) (bytes_eq ys xs) (bytes_eq-Decides xs ys) ((λ e. sym (back.0 e)), (λ e. back.1 (sym e)))

pub insert_fresh : (k : String Global) (v : Served) (es : Entries) → is_among (string_bytes k) (map (λ e. string_bytes e.0) es) ≡ false → insert_entry string_eq es k v ≡ es ++ (k, v) ∷ []
insert_fresh k v [] fresh = refl
insert_fresh k v (e ∷ es) fresh =
    let here_or_later = elim (bytes_eq (string_bytes e.0) (string_bytes k)) as (λ (b : Bool). cond b true (is_among (string_bytes k) (map (λ x. string_bytes x.0) es)) ≡ false → cond b ((e.0, v) ∷ es) (e ∷ insert_entry string_eq es k v) ≡ e ∷ (es ++ (k, v) ∷ [])) [
      | true ↦ λ is. absurd (false≢true (sym is))
      | false ↦ λ is. ap (λ (l : Entries). e ∷ l) (insert_fresh k v es is)
    ] in
    ap (λ (b : Bool). cond b ((e.0, v) ∷ es) (e ∷ insert_entry string_eq es k v)) (turned (string_bytes k) (string_bytes e.0)) ∙ here_or_later fresh

-- what holds of the entries before and after one more holds where an insertion ends
pub after_put : (r : Result (Unit {0}) NoMemory) (P : Entries → Type 0) (old new : Entries) (k : String Global) (v : Served)
    → is_among (string_bytes k) (map (λ e. string_bytes e.0) old) ≡ false → OnOk r (new ≡ insert_entry string_eq old k v) → OnErr r (new ≡ old) → P old → P (old ++ (k, v) ∷ []) → P new
after_put (Ok u) P old new k v fresh ok err before after = subst P (sym (ok ∙ insert_fresh k v old fresh)) after
after_put (Err e) P old new k v fresh ok err before after = subst P (sym err) before

pub put_shows : (r : Result (Unit {0}) NoMemory) (site : SiteData) (old new : Entries) (k : String Global) (v : Served)
    → site ≡ data_of old → is_among (string_bytes k) (map (λ e. string_bytes e.0) old) ≡ false → OnOk r (new ≡ insert_entry string_eq old k v) → OnOk r (data_of new ≡ with_one site (string_bytes k) v.config.value v.opening)
put_shows (Ok u) site old new k v is fresh ok =
    ap data_of (ok ∙ insert_fresh k v old fresh)
    ∙ (λ i. record {
      names = map-append (λ (e : String Global × Served). string_bytes e.0) old ((k, v) ∷ []) i;
      configs = map-append (λ (e : String Global × Served). e.1.config.value) old ((k, v) ∷ []) i;
      opening = map-append (λ (e : String Global × Served). e.1.opening) old ((k, v) ∷ []) i;
      groups = [];
    })
    ∙ ap (λ (s : SiteData). with_one s (string_bytes k) v.config.value v.opening) (sym is)
put_shows (Err e) site old new k v is fresh ok = tt

pub valid_more : (configs : List Config) (states : List RecState) (config : Config) (state : RecState) → AreValid configs states → IsValid config state → AreValid (configs ++ config ∷ []) (states ++ state ∷ [])
valid_more [] [] config state all one = (one, tt)
valid_more [] (s ∷ states) config state all one = absurd all
valid_more (c ∷ configs) [] config state all one = absurd all
valid_more (c ∷ configs) (s ∷ states) config state all one = (all.0, valid_more configs states config state all.1 one)

both_true : (a b : Bool) → a ≡ true → IsTrue b → (a && (b && true)) ≡ true
both_true true true x y = refl
both_true true false x y = absurd (false≢true y)
both_true false b x y = absurd (false≢true x)

pub kept_more : (es : Entries) (k : String Global) (v : Served) → AreKept es → IsTrue (is_record_name (string_bytes k)) → IsValid v.config.value v.opening → v.ty ≡ record_tree v.config.value → v.leaves ≡ leaves (record_tree v.config.value) → length es < 4000
    → AreKept (es ++ (k, v) ∷ [])
kept_more es k v all named valid ty own few = (
  subst (λ (z : List Config × List RecState). AreValid z.0 z.1) (λ i. (sym (map-append (λ (e : String Global × Served). e.1.config.value) es ((k, v) ∷ [])) i, sym (map-append (λ (e : String Global × Served). e.1.opening) es ((k, v) ∷ [])) i))
      (valid_more (map (λ e. e.1.config.value) es) (map (λ e. e.1.opening) es) v.config.value v.opening all.0 valid),
  map-append (λ (e : String Global × Served). e.1.ty) es ((k, v) ∷ []) ∙ (λ i. all.1 i ++ ty i ∷ []) ∙ sym (map-append (λ (e : String Global × Served). record_tree e.1.config.value) es ((k, v) ∷ [])),
  ap (list_all is_record_name) (map-append (λ (e : String Global × Served). string_bytes e.0) es ((k, v) ∷ [])) ∙ list_all-append is_record_name (map (λ e. string_bytes e.0) es) (string_bytes k ∷ []) ∙ both_true (list_all is_record_name (map (λ e. string_bytes e.0) es)) (is_record_name (string_bytes k)) all.2 named,
  omega (arith, few, length-append es ((k, v) ∷ [])),
  map-append (λ (e : String Global × Served). e.1.leaves) es ((k, v) ∷ []) ∙ (λ i. all.4 i ++ own i ∷ []) ∙ sym (map-append (λ (e : String Global × Served). leaves (record_tree e.1.config.value)) es ((k, v) ∷ [])),
)
