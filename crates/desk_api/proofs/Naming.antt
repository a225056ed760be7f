-- What the names of a site stand for.
use Rattle.std.specs.Prelude.{◌≡◌, ℕ, zero, suc, ◌+◌, ◌<◌, ◌&&◌, ◌||◌, Bool, not, List, [], ◌∷◌, ◌++◌, length, map, Option, Some, None, IsTrue, slice_get, bytes_eq, codes, string_bytes, string_eq, String, option_map, refl}
use Rattle.std.specs.List.{AllByRecursion, IsDistinct, list_all, list_any, position_from}
use Rattle.std.specs.Option.{option_or}
use Rattle.std.proofs.Common.{true, false, cond, arith, sym, ◌∙◌, ap, subst, append_assoc, take, Global}
use Rattle.std.proofs.lemmas.Bool.{lt-ltb, and_parts, false≢true}
use Rattle.std.proofs.lemmas.Bool.Decides.{same_from_decides}
use Rattle.std.proofs.lemmas.List.{append_cancel_right, map-append}
use Rattle.std.proofs.lemmas.Map.Keys.{IsDistinct-head, IsDistinct-tail}
use Rattle.indexmap.specs.IndexSet.{insert_key}
use Rattle.desk_api.proofs.Showing.{first_or, rest_of}
use Rattle.desk_api.proofs.Recording.{turned}
use Rattle.desk_api.specs.Grouping.{is_one_of}
use Rattle.std.proofs.lemmas.List.Folds.{list_all-append}
use Rattle.std.proofs.lemmas.Option.{none-some}
use Rattle.std.proofs.lemmas.Slice.Eq.{bytes_eq-Decides}
use Rattle.db_load.specs.Forms.{is_special}
use Rattle.desk_api.specs.Records.{channel_at}
use Rattle.group_view.specs.Groups.{GroupData}
use Rattle.desk_api.specs.Sites.{is_record_name, channel_of, names_from, group_names_from, services, first_named, channel_named, is_channel}
use Rattle.desk_api.specs.declared.channel.Channel.{Channel}
use Rattle.desk_api.specs.declared.channel.ChannelKind.TheVariants.{Rec, Desc, Group, Service}
use Rattle.desk_api.specs.declared.history.SiteData.{SiteData}

-- what holds of all channels of these records holds of the one that is found

module _ (P : Channel → Type 0) where
  later_holds : (test : Bool) (name : List ℕ) (here : Channel) (xs : List (List ℕ × Channel)) (channel : Channel)
      → P here → (first_named name xs ≡ Some channel → P channel) → cond test (Some here) (first_named name xs) ≡ Some channel → P channel
  later_holds true name here xs channel holds later is = let same : here ≡ channel = cc in subst P same holds
  later_holds false name here xs channel holds later is = later is

  named_holds : (n : ℕ) (names : List (List ℕ)) (name : List ℕ) (channel : Channel) → ((m : ℕ) → m < n + length names → P (channel_of Rec m) × P (channel_of Desc m))
      → first_named name (names_from n names) ≡ Some channel → P channel
  named_holds n [] name channel each is = absurd (none-some channel is)
  named_holds n (x ∷ names) name channel each is =
      let own = channel_of Rec n in
      let desc = channel_of Desc n in
      let rest = names_from (n + 1) names in
      let first = each n (omega arith) in
      let later : first_named name rest ≡ Some channel → P channel = λ e. named_holds (n + 1) names name channel (λ m less. each m (omega (arith, less))) e in
      let desc_or = later_holds (bytes_eq name (x ++ codes ".DESC")) name desc rest channel first.1 later in
      let val_or = later_holds (bytes_eq name (x ++ codes ".VAL")) name own ((x ++ codes ".DESC", desc) ∷ rest) channel first.0 desc_or in
      later_holds (bytes_eq name x) name own ((x ++ codes ".VAL", own) ∷ (x ++ codes ".DESC", desc) ∷ rest) channel first.0 val_or is

  group_holds : (n : ℕ) (groups : List GroupData) (name : List ℕ) (channel : Channel) → ((m : ℕ) → m < n + length groups → P (channel_of Group m))
      → first_named name (group_names_from n groups) ≡ Some channel → P channel
  group_holds n [] name channel each is = absurd (none-some channel is)
  group_holds n (g ∷ groups) name channel each is =
      later_holds (bytes_eq name g.name) name (channel_of Group n) (group_names_from (n + 1) groups) channel (each n (omega arith))
      (λ e. group_holds (n + 1) groups name channel (λ m less. each m (omega (arith, less))) e) is

  service_holds : (name : List ℕ) (channel : Channel) → P (channel_of Service 0) → first_named name services ≡ Some channel → P channel
  service_holds name channel holds is =
      later_holds (bytes_eq name (codes "server")) name (channel_of Service 0) [] channel holds (λ e. absurd (none-some channel e)) is

-- a name is looked up in one list, and then in another

or_by : {A : Type 0} (test : Bool) (x : A) (o p : Option A) → cond test (Some x) (option_or o p) ≡ option_or (cond test (Some x) o) p
or_by true x o p = refl
or_by false x o p = refl

pub first_of_both : (name : List ℕ) (xs ys : List (List ℕ × Channel)) → first_named name (xs ++ ys) ≡ option_or (first_named name xs) (first_named name ys)
first_of_both name [] ys = refl
first_of_both name (x ∷ xs) ys =
    ap (λ (o : Option Channel). cond (bytes_eq name x.0) (Some x.1) o) (first_of_both name xs ys)
    ∙ or_by (bytes_eq name x.0) x.1 (first_named name xs) (first_named name ys)

either_holds : (P : Channel → Type 0) (o p : Option Channel) (channel : Channel) → (o ≡ Some channel → P channel) → (p ≡ Some channel → P channel) → option_or o p ≡ Some channel → P channel
either_holds P (Some x) p channel first then is = first is
either_holds P None p channel first then is = then is

pub found_is_channel : (site : SiteData) (name : List ℕ) (channel : Channel) → channel_named site name ≡ Some channel → IsTrue (is_channel site channel)
found_is_channel site name channel is =
    let P : Channel → Type 0 = λ c. IsTrue (is_channel site c) in
    let records = names_from 0 site.names in
    let groups = group_names_from 0 site.groups in
    either_holds P (first_named name records) (first_named name (groups ++ services)) channel
    (λ e. named_holds P 0 site.names name channel (λ m less. let below : m < length site.names = omega (arith, less) in (lt-ltb m (length site.names) below, lt-ltb m (length site.names) below)) e)
    (λ e. either_holds P (first_named name groups) (first_named name services) channel
    (λ f. group_holds P 0 site.groups name channel (λ m less. lt-ltb m (length site.groups) (omega (arith, less))) f)
    (λ f. service_holds P name channel refl f)
    (sym (first_of_both name groups services) ∙ e))
    (sym (first_of_both name records (groups ++ services)) ∙ is)

-- texts that are equal or not

differ : (xs ys : List ℕ) → (xs ≡ ys → ⊥) → bytes_eq xs ys ≡ false
differ xs ys apart = same_from_decides {P = xs ≡ ys} (bytes_eq xs ys) false (bytes_eq-Decides xs ys) ((λ e. absurd (false≢true e)), (λ e. absurd (apart e)))

same_front : (front x field : List ℕ) → bytes_eq (front ++ field) (x ++ field) ≡ bytes_eq front x
same_front front x field =
    let decides = bytes_eq-Decides front x in
    same_from_decides (bytes_eq (front ++ field) (x ++ field)) (bytes_eq front x) (bytes_eq-Decides (front ++ field) (x ++ field))
    ((λ e. ap (λ (l : List ℕ). l ++ field) (decides.0 e)), (λ e. decides.1 (append_cancel_right front x field e)))

-- the last bytes of equal texts are equal
abbrev last_or : ℕ → List ℕ → ℕ
last_or d [] = d
last_or d (x ∷ xs) = last_or x xs

last_is : (d : ℕ) (xs : List ℕ) (a : ℕ) → last_or d (xs ++ a ∷ []) ≡ a
last_is d [] a = refl
last_is d (x ∷ xs) a = last_is x xs a

-- a name with one field isn't the name with the other
val_is_not_desc : (front x : List ℕ) → front ++ codes ".VAL" ≡ x ++ codes ".DESC" → ⊥
val_is_not_desc front x e =
    let left : last_or 0 (front ++ codes ".VAL") ≡ 76 = ap (last_or 0) (sym (append_assoc front (codes ".VA") (76 ∷ []))) ∙ last_is 0 (front ++ codes ".VA") 76 in
    let right : last_or 0 (x ++ codes ".DESC") ≡ 67 = ap (last_or 0) (sym (append_assoc x (codes ".DES") (67 ∷ []))) ∙ last_is 0 (x ++ codes ".DES") 67 in
    let same : 76 ≡ 67 = sym left ∙ ap (last_or 0) e ∙ right in
    omega (arith, same)

-- a record's name has no full stop

and_false : (b : Bool) → (b && false) ≡ false
and_false true = refl
and_false false = refl

no_dot : (x front field : List ℕ) → is_record_name x ≡ true → x ≡ front ++ 46 ∷ field → ⊥
no_dot x front field may is =
    let all : list_all (λ b. not (is_special b)) x ≡ true = (and_parts _ _ may).1 in
    let split : list_all (λ b. not (is_special b)) (front ++ 46 ∷ field) ≡ (list_all (λ b. not (is_special b)) front && false) = list_all-append (λ b. not (is_special b)) front (46 ∷ field) in
    false≢true (sym (split ∙ and_false (list_all (λ b. not (is_special b)) front)) ∙ ap (list_all (λ b. not (is_special b))) (sym is) ∙ all)

-- what a name with a field stands for, and one without

pub desc_found : (n : ℕ) (names : List (List ℕ)) (front : List ℕ) → list_all is_record_name names ≡ true → first_named (front ++ codes ".DESC") (names_from n names) ≡ channel_at Desc n names front
desc_found n [] front all = refl
desc_found n (x ∷ names) front all =
    let parts = and_parts (is_record_name x) (list_all is_record_name names) all in
    let name = front ++ codes ".DESC" in
    rw (differ name x (λ e. no_dot x front (codes "DESC") parts.0 (sym e)), differ name (x ++ codes ".VAL") (λ e. val_is_not_desc x front (sym e)), same_front front x (codes ".DESC"), desc_found (n + 1) names front parts.1) refl

pub val_found : (n : ℕ) (names : List (List ℕ)) (front : List ℕ) → list_all is_record_name names ≡ true → first_named (front ++ codes ".VAL") (names_from n names) ≡ channel_at Rec n names front
val_found n [] front all = refl
val_found n (x ∷ names) front all =
    let parts = and_parts (is_record_name x) (list_all is_record_name names) all in
    let name = front ++ codes ".VAL" in
    rw (differ name x (λ e. no_dot x front (codes "VAL") parts.0 (sym e)), same_front front x (codes ".VAL"), differ name (x ++ codes ".DESC") (val_is_not_desc front x), val_found (n + 1) names front parts.1) refl

pub own_found : (n : ℕ) (names : List (List ℕ)) (name : List ℕ) → ((front : List ℕ) → name ≡ front ++ codes ".VAL" → ⊥) → ((front : List ℕ) → name ≡ front ++ codes ".DESC" → ⊥)
    → first_named name (names_from n names) ≡ channel_at Rec n names name
own_found n [] name no_val no_desc = refl
own_found n (x ∷ names) name no_val no_desc =
    rw (differ name (x ++ codes ".VAL") (no_val x), differ name (x ++ codes ".DESC") (no_desc x), own_found (n + 1) names name no_val no_desc) refl

-- ---- names that are all different

all_of : {A : Type 0} (P : A → Type 0) (xs : List A) (n : ℕ) (x : A) → AllByRecursion P xs → slice_get xs n ≡ Some x → P x
all_of P [] n x all is = absurd (none-some x is)
all_of P (y ∷ xs) zero x all is = let same : y ≡ x = cc is in subst P same all.0
all_of P (y ∷ xs) (suc n) x all is = all_of P xs n x all.1 is

-- a name stands only once among names that are all different
pub distinct_before : (xs : List (List ℕ)) (n : ℕ) (x : List ℕ) → IsDistinct bytes_eq xs → slice_get xs n ≡ Some x → is_one_of (take n xs) x ≡ false
distinct_before [] n x distinct is = absurd (none-some x is)
distinct_before (y ∷ xs) zero x distinct is = refl
distinct_before (y ∷ xs) (suc n) x distinct is =
    let apart : bytes_eq y x ≡ false = all_of (λ z. bytes_eq y z ≡ false) xs n x (IsDistinct-head bytes_eq y xs distinct) is in
    rw (turned x y ∙ apart) (distinct_before xs n x (IsDistinct-tail bytes_eq y xs distinct) is)

none_equal : (keys : List (String Global)) (k : String Global) → is_one_of (map string_bytes keys) (string_bytes k) ≡ false → list_any (string_eq k) keys ≡ false
none_equal [] k is = refl
none_equal (x ∷ keys) k is = both_false (bytes_eq (string_bytes k) (string_bytes x)) (is_one_of (map string_bytes keys) (string_bytes k)) (list_any (string_eq k) keys) (none_equal keys k) is where
  both_false : (a b c : Bool) → (b ≡ false → c ≡ false) → (a || b) ≡ false → (a || c) ≡ false
  both_false true b c later is = is
  both_false false b c later is = later is

pub pushed_new : (old new : List (String Global)) (k : String Global) (name : List ℕ) → string_bytes k ≡ name → is_one_of (map string_bytes old) name ≡ false → new ≡ insert_key string_eq old k
    → map string_bytes new ≡ map string_bytes old ++ name ∷ []
pushed_new old new k name bytes fresh is =
    let none_same = none_equal old k (ap (is_one_of (map string_bytes old)) bytes ∙ fresh) in
    ap (map string_bytes) (is ∙ ap (λ (b : Bool). cond b old (old ++ k ∷ [])) none_same)
    ∙ map-append string_bytes old (k ∷ [])
    ∙ ap (λ (b : List ℕ). map string_bytes old ++ b ∷ []) bytes

-- the number under which a set has a name is that of its group
pub group_place : (n : ℕ) (name : List ℕ) (keys : List (String Global)) (groups : List GroupData) → map string_bytes keys ≡ map (λ (g : GroupData). g.name) groups
    → first_named name (group_names_from n groups) ≡ option_map (channel_of Group) (position_from (λ k. bytes_eq name (string_bytes k)) n keys)
group_place n name [] [] same = refl
group_place n name [] (g ∷ groups) same = absurd (cc same)
group_place n name (k ∷ keys) [] same = absurd (cc same)
group_place n name (k ∷ keys) (g ∷ groups) same =
    let first : string_bytes k ≡ g.name = ap (λ (l : List (List ℕ)). first_or [] l) same in
    let rest : map string_bytes keys ≡ map (λ (x : GroupData). x.name) groups = ap (λ (l : List (List ℕ)). rest_of l) same in
    ap (λ (b : List ℕ). cond (bytes_eq name b) (Some (channel_of Group n)) (first_named name (group_names_from (n + 1) groups))) (sym first)
    ∙ here_or_later (bytes_eq name (string_bytes k)) (group_place (n + 1) name keys groups rest)
  where
    here_or_later : (b : Bool) → first_named name (group_names_from (n + 1) groups) ≡ option_map (channel_of Group) (position_from (λ k. bytes_eq name (string_bytes k)) (n + 1) keys)
        → cond b (Some (channel_of Group n)) (first_named name (group_names_from (n + 1) groups)) ≡ option_map (channel_of Group) (cond b (Some n) (position_from (λ k. bytes_eq name (string_bytes k)) (n + 1) keys))
    here_or_later true later = refl
    here_or_later false later = later
