-- Ports that were driven.
use Rattle.std.proofs.Common.{◌≡◌, ℕ, ◌<◌, zero, suc, Bool, true, false, ◌||◌, List, [], ◌∷◌, length, map, set, get_or, Option, None, Some, Result, Ok, Err, IfOk, OnErr, refl, sym, ◌∙◌, ap, arith}
use Rattle.std.specs.List.{slice_get}
use Rattle.std.specs.Prelude.{option_map, is_some}
use Rattle.std.proofs.lemmas.Option.{slice_get-map}
use Rattle.std.proofs.Common.{inl, inr}
use Rattle.std.proofs.lemmas.List.{length-map}
use Rattle.pva_outside.specs.Ports.{PortView}
use Rattle.rec_kinds.specs.Configs.{Config}
use Rattle.rec_kinds.specs.Texts.{text_of_datum}
use Rattle.desk_core.specs.Ports.{Ports, IsDrivenOnce, IsDrivenAt, IsTried, IsTriedAt, ports_there, ports_wanted}
use Rattle.desk_core.specs.declared.driving.Outcome.{Outcome}
use Rattle.desk_core.proofs.Listing.{got}

map-set : {X Y : Type 0} (f : X → Y) (xs : List X) (n : ℕ) (x : X) → map f (set xs n x) ≡ set (map f xs) n (f x)
map-set f [] n x = refl
map-set f (y ∷ xs) zero x = refl
map-set {Y = Y} f (y ∷ xs) (suc n) x = ap (λ (l : List Y). f y ∷ l) (map-set f xs n x)

map-got : {X Y : Type 0} (f : X → Y) (xs : List X) (n : ℕ) (x : X) → n < length xs → x ≡ get_or xs n x → slice_get (map f xs) n ≡ Some (f x)
map-got f xs n x less is = slice_get-map f xs n ∙ ap (option_map f) (got xs n x less is)

pub same_set : {X : Type 0} (xs : List X) (n : ℕ) (x : X) → slice_get xs n ≡ Some x → set xs n x ≡ xs
same_set [] n x is = refl
same_set {X} (y ∷ xs) zero x is = let same : y ≡ x = cc in ap (λ (z : X). z ∷ xs) (sym same)
same_set {X} (y ∷ xs) (suc n) x is = ap (λ (l : List X). y ∷ l) (same_set xs n x is)

-- the port at a place is driven, and no other
module _ {P : Type 0} (port : P → PortView) (ports : List (Option P)) (rec : ℕ) (before after : Option P) (less : rec < length ports) (is : before ≡ get_or ports rec before) where
  driven_at : (drove : Bool) (text : List ℕ) → IsDrivenOnce (option_map port before) (option_map port after) drove text → IsDrivenAt (map (option_map port) ports) (map (option_map port) (set ports rec after)) rec drove text
  driven_at drove text driven = record {
    before = option_map port before;
    after = option_map port after;
    there = map-got (option_map port) ports rec before less is;
    driven = driven;
    others = map-set (option_map port) ports rec after;
  }

  same_ports : option_map port after ≡ option_map port before → map (option_map port) (set ports rec after) ≡ map (option_map port) ports
  same_ports same = map-set (option_map port) ports rec after ∙ ap (set (map (option_map port) ports) rec) same ∙ same_set (map (option_map port) ports) rec (option_map port before) (map-got (option_map port) ports rec before less is)

  pub ok_at : {E : Type 0} (r : Result Outcome E) → IfOk r (λ o. IsDrivenOnce (option_map port before) (option_map port after) o.drove (text_of_datum o.state.datum))
      → IfOk r (λ o. IsDrivenAt (map (option_map port) ports) (map (option_map port) (set ports rec after)) rec o.drove (text_of_datum o.state.datum))
  ok_at (Ok o) driven = driven_at o.drove (text_of_datum o.state.datum) driven
  ok_at (Err e) driven = driven

  tried_at : (text : List ℕ) → IsTried (option_map port before) (option_map port after) text → IsTriedAt (map (option_map port) ports) (map (option_map port) (set ports rec after)) rec text
  tried_at text (inl same) = inl (same_ports same)
  tried_at text (inr (drove, driven)) = inr (drove, driven_at drove text driven)

  pub err_at : {E : Type 0} (r : Result Outcome E) (text : List ℕ) → OnErr r (IsTried (option_map port before) (option_map port after) text)
      → OnErr r (IsTriedAt (map (option_map port) ports) (map (option_map port) (set ports rec after)) rec text)
  err_at (Ok o) text tried = tried
  err_at (Err e) text tried = tried_at text tried

-- a port stays where it is

views_there : {P : Type 0} (port : P → PortView) (ports : List (Option P)) → ports_there (map (option_map port) ports) ≡ ports_there ports
views_there port [] = refl
views_there port (None ∷ ports) = ap (λ (l : List Bool). false ∷ l) (views_there port ports)
views_there port (Some p ∷ ports) = ap (λ (l : List Bool). true ∷ l) (views_there port ports)

stays : (before after : Option PortView) (drove : Bool) (text : List ℕ) → IsDrivenOnce before after drove text → is_some after ≡ is_some before
stays None after drove text driven = ap (λ (o : Option PortView). is_some o) driven.0
stays (Some old) None drove text driven = absurd driven
stays (Some old) (Some new) drove text driven = refl

told_by : (before after : Option PortView) (drove : Bool) (text : List ℕ) → IsDrivenOnce before after drove text → (drove || is_some before) ≡ true
told_by None after drove text driven = ap (λ (b : Bool). b || false) driven.1
told_by (Some old) after true text driven = refl
told_by (Some old) after false text driven = refl

pub stay_at : (old new : Ports) (rec : ℕ) (drove : Bool) (text : List ℕ) → IsDrivenAt old new rec drove text → ports_there new ≡ ports_there old
stay_at old new rec drove text d =
    ap ports_there d.others
    ∙ map-set (λ (o : Option PortView). is_some o) old rec d.after
    ∙ ap (set (ports_there old) rec) (stays d.before d.after drove text d.driven)
    ∙ same_set (ports_there old) rec (is_some d.before) (slice_get-map (λ (o : Option PortView). is_some o) old rec ∙ ap (option_map (λ (o : Option PortView). is_some o)) d.there)

pub stay_tried : (old new : Ports) (rec : ℕ) (text : List ℕ) → IsTriedAt old new rec text → ports_there new ≡ ports_there old
stay_tried old new rec text (inl same) = ap ports_there same
stay_tried old new rec text (inr (drove, driven)) = stay_at old new rec drove text driven

-- the ports of a site whose records have these configurations
module _ {P : Type 0} (port : P → PortView) (configs : List Config) (ports : List (Option P)) (wanted : ports_there ports ≡ ports_wanted configs) where
  pub ported : (new : List (Option P)) → ports_there (map (option_map port) new) ≡ ports_there (map (option_map port) ports) → ports_there new ≡ ports_wanted configs
  ported new stay = sym (views_there port new) ∙ stay ∙ views_there port ports ∙ wanted

  pub told : (new : Ports) (rec : ℕ) (config : Config) → slice_get configs rec ≡ Some config → (drove : Bool) (text : List ℕ) → IsDrivenAt (map (option_map port) ports) new rec drove text → (drove || is_some config.port) ≡ true
  told new rec config configured drove text d =
      let here : slice_get (ports_there (map (option_map port) ports)) rec ≡ Some (is_some d.before) =
      slice_get-map (λ (o : Option PortView). is_some o) (map (option_map port) ports) rec ∙ ap (option_map (λ (o : Option PortView). is_some o)) d.there in
      let asked : slice_get (ports_wanted configs) rec ≡ Some (is_some config.port) =
      slice_get-map (λ (c : Config). is_some c.port) configs rec ∙ ap (option_map (λ (c : Config). is_some c.port)) configured in
      let same : Some (is_some d.before) ≡ Some (is_some config.port) = sym here ∙ ap (λ (l : List Bool). slice_get l rec) (views_there port ports ∙ wanted) ∙ asked in
      let same_bool : is_some d.before ≡ is_some config.port = cc in
      ap (λ (b : Bool). drove || b) (sym same_bool) ∙ told_by d.before d.after drove text d.driven

-- there is a place for each record
pub as_many_ports : {P : Type 0} (configs : List Config) (ports : List (Option P)) → ports_there ports ≡ ports_wanted configs → length ports ≡ length configs
as_many_ports {P} configs ports wanted =
    omega (arith, ap length wanted, length-map ports (λ (o : Option P). is_some o), length-map configs (λ (c : Config). is_some c.port))
