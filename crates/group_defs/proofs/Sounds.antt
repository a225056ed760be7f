-- Groups that are joined keep sound members, in the order of their names.
use Rattle.std.proofs.Common.{◌≡◌, ◌&&◌, ℕ, ℤ, ◌+◌, ◌<◌, ◌≤◌, Bool, true, false, cond, List, [], ◌∷◌, length, Option, Some, Result, Ok, Err, MatchOption, is_some, unwrap_or, refl, sym, ap, ◌∙◌, subst, arith}
use Rattle.std.specs.Prelude.{codes}
use Rattle.std.specs.declared.cmp.Ordering.{Ordering}
use Rattle.std.specs.declared.cmp.Ordering.TheVariants.{Less, Equal, Greater}
use Rattle.std.specs.Ordering.{is_eq, ordering_reverse, match_ordering}
use Rattle.std.specs.Cmp.{IsTotalOrder}
use Rattle.std.specs.Cmp.Lexicographic.{nat_list_cmp_total, bytes_decides}
use Rattle.std.specs.BTreeMap.{insert_entry, is_at}
use Rattle.std.specs.Map.{lookup, keys_of}
use Rattle.std.specs.List.{AllByRecursion, IsDistinct, enumerate_from, list_any}
use Rattle.std.specs.List.Sorted.{IsStrictlySortedBy}
use Rattle.std.specs.Str.{bytes_eq}
use Rattle.json.specs.Json.{Json, Members}
use Rattle.json.specs.Find.{as_object, as_str, as_bool}
use Rattle.json.specs.Strict.{keys}
use Rattle.rec_kinds.specs.declared.record_text.Info.{Info}
use Rattle.rec_kinds.specs.declared.record_text.RecText.{RecText}
use Rattle.group_defs.specs.Told.{Told, ◌>>=◌, each, given}
use Rattle.group_defs.specs.Names.{name_fits}
use Rattle.group_defs.specs.Members.{is_setting, is_unknown, text_at, kind_at, order_at, channel_fits, record_of, member_text, settled, member_of}
use Rattle.group_defs.specs.Keys.{setting_of, said_by}
use Rattle.group_defs.specs.BareKeys.{with_quoted_keys}
use Rattle.group_defs.specs.Order.{text_cmp, Place, in_order, json_of, groups_of}
use Rattle.group_defs.specs.Joined.{Joined, blank}
use Rattle.group_defs.specs.Joining.{known, with_group, joined_with, join_key, join_keys, join_group, join_groups, join_text, join_info, join_infos, join_record, join_texts}
use Rattle.group_defs.specs.Statements.{Groups, has_member, in_record, fault_in}
use Rattle.group_defs.specs.declared.fault.Stop.TheVariants as stops
use Rattle.group_defs.specs.declared.said.Said.{Said}
use Rattle.group_defs.specs.declared.said.Said.TheVariants.{Id, Atomic, Member}
use Rattle.group_defs.specs.declared.said.MemberText.{MemberText}
use Rattle.group_defs.specs.declared.def.MemberKind.{MemberKind}
use Rattle.group_defs.specs.declared.def.MemberKind.TheVariants.{Whole, Plain, Any, Meta, Proc, Structure}

-- ---- results

pub same_ok : {A E : Type 0} (x y : A) (r : Result A E) → r ≡ Ok x → r ≡ Ok y → x ≡ y
same_ok x y r h k = cc

pub no_ok : {A E : Type 0} (e : E) (y : A) (r : Result A E) → r ≡ Err e → r ≡ Ok y → ⊥
no_ok e y r h k = cc

pub and_right : (a b : Bool) → (a && b) ≡ true → b ≡ true
and_right true b h = h
and_right false b h = cc

pub chosen : {A E : Type 0} (b : Bool) (x y : A) (e : E) → cond b (Ok x) (Err e) ≡ Ok y → (b ≡ true) × (x ≡ y)
chosen true x y e h = (refl, same_ok x y _ refl h)
chosen false x y e h = absurd (no_ok e y _ refl h)

pub other : {A E : Type 0} (b : Bool) (r : Result A E) (y : A) (e : E) → cond b (Err e) r ≡ Ok y → (b ≡ false) × (r ≡ Ok y)
other true r y e h = absurd (no_ok e y _ refl h)
other false r y e h = (refl, h)

pub each_keeps : {S X E : Type 0} (P : S → Type 0) (Q : X → Type 0) (step : S → X → Result S E)
    → ((s : S) (x : X) (t : S) → P s → Q x → step s x ≡ Ok t → P t) → (s : S) (xs : List X) (t : S) → P s → AllByRecursion Q xs → each step s xs ≡ Ok t → P t
each_keeps P Q step go s [] t p q h = subst P (same_ok s t _ refl h) p
each_keeps {S} {X} {E} P Q step go s (x ∷ xs) t p q h = here (λ (a : S) (k : P a) (e : each step a xs ≡ Ok t). each_keeps P Q step go a xs t k q.1 e) (step s x) refl h
  where
    here : ((a : S) → P a → each step a xs ≡ Ok t → P t) → (r : Result S E) → step s x ≡ r → (r >>= λ s. each step s xs) ≡ Ok t → P t
    here rest (Ok a) e h = rest a (go s x a p q.0 e) h
    here rest (Err a) e h = absurd (no_ok a t _ refl h)

all_units : {X : Type 0} (xs : List X) → AllByRecursion (λ (x : X). Unit {0}) xs
all_units [] = tt
all_units (x ∷ xs) = (tt, all_units xs)

-- ---- an insert in order

module _ {K X : Type 0} (R : K → K → Ordering) (o : IsTotalOrder R) (k : K) (v : X) where
  below_insert : (x : K) (es : List (K × X)) → R x k ≡ Less → AllByRecursion (λ y. R x y ≡ Less) (keys_of es)
      → AllByRecursion (λ y. R x y ≡ Less) (keys_of (insert_entry R es k v))
  below_insert x [] h a = (h, tt)
  below_insert x (e ∷ es) h a = go (below_insert x es h a.1) (R k e.0)
    where
      go : AllByRecursion (λ y. R x y ≡ Less) (keys_of (insert_entry R es k v)) → (r : Ordering) → AllByRecursion (λ y. R x y ≡ Less) (keys_of (match_ordering r ((k, v) ∷ e ∷ es) ((e.0, v) ∷ es) (e ∷ insert_entry R es k v)))
      go rest Less = (h, a)
      go rest Equal = a
      go rest Greater = (a.0, rest)

  further : (x : K) (es : List (K × X)) → R k x ≡ Less → AllByRecursion (λ y. R x y ≡ Less) (keys_of es) → AllByRecursion (λ y. R k y ≡ Less) (keys_of es)
  further x [] h a = tt
  further x (e ∷ es) h a = (o.trans k x e.0 h a.0, further x es h a.1)

  pub sorted_insert : (es : List (K × X)) → IsStrictlySortedBy R (keys_of es) → IsStrictlySortedBy R (keys_of (insert_entry R es k v))
  unfolding IsStrictlySortedBy
  sorted_insert [] s = (tt, tt)
  sorted_insert (e ∷ es) s = go (sorted_insert es s.1) (R k e.0) refl
    where
      go : IsStrictlySortedBy R (keys_of (insert_entry R es k v)) → (r : Ordering) → R k e.0 ≡ r → IsStrictlySortedBy R (keys_of (match_ordering r ((k, v) ∷ e ∷ es) ((e.0, v) ∷ es) (e ∷ insert_entry R es k v)))
      go rest Less h = ((h, further e.0 es h s.0), s)
      go rest Equal h = s
      go rest Greater h = (below_insert e.0 es (o.antisymm e.0 k ∙ ap ordering_reverse h) s.0, rest)

  pub all_insert : (Q : K × X → Type 0) (es : List (K × X)) → is_some (lookup (is_at (R k)) es) ≡ false → AllByRecursion Q es → Q (k, v) → AllByRecursion Q (insert_entry R es k v)
  all_insert Q [] none all new = (new, tt)
  all_insert Q (e ∷ es) none all new = go (λ (h : is_some (lookup (is_at (R k)) es) ≡ false). all_insert Q es h all.1 new) (R k e.0) none
    where
      go : (is_some (lookup (is_at (R k)) es) ≡ false → AllByRecursion Q (insert_entry R es k v)) → (r : Ordering) → is_some (cond (is_eq r) (Some e.1) (lookup (is_at (R k)) es)) ≡ false → AllByRecursion Q (match_ordering r ((k, v) ∷ e ∷ es) ((e.0, v) ∷ es) (e ∷ insert_entry R es k v))
      go rest Less h = (new, all)
      go rest Equal h = let never : ⊥ = cc in absurd never
      go rest Greater h = (all.0, rest h)

-- ---- what a member's object says

pub record IsStated (records : ℕ) (name : List ℕ) (m : MemberText) : Type 0 where
  pub named : name_fits m.kind name ≡ true
  pub recorded : MatchOption m.rec (m.kind ≡ Structure) (λ n. n < records)

record_known : (records number : ℕ) → number < records → (kind : MemberKind) → MatchOption (record_of kind number) (kind ≡ Structure) (λ n. n < records)
record_known records number h Structure = refl
record_known records number h Whole = h
record_known records number h Plain = h
record_known records number h Any = h
record_known records number h Meta = h
record_known records number h Proc = h

abbrev IsSaid : ℕ → List ℕ → Said → Type 0
IsSaid records key (Id text) = Unit {0}
IsSaid records key (Atomic flag) = Unit {0}
IsSaid records key (Member m) = IsStated records key m

pub record IsSound (records : ℕ) (g : Joined) : Type 0 where
  pub sorted : IsStrictlySortedBy text_cmp (keys_of g.members)
  pub stated : AllByRecursion (λ m. IsStated records m.0 m.1) g.members

pub record AreSound (records : ℕ) (gs : Groups) : Type 0 where
  pub distinct : IsDistinct bytes_eq (keys_of gs)
  pub all_sound : AllByRecursion (λ e. IsSound records e.1) gs

-- ---- names that differ

pub apart : (a b : List ℕ) → bytes_eq a b ≡ false → bytes_eq b a ≡ false
apart a b h = go (bytes_eq b a) refl
  where
    go : (t : Bool) → bytes_eq b a ≡ t → bytes_eq b a ≡ false
    go true e = let same : bytes_eq a b ≡ true = (bytes_decides a b).1 (sym ((bytes_decides b a).0 e)) in let never : ⊥ = cc in absurd never
    go false e = e

unlike_put : (x name : List ℕ) (g : Joined) (es : Groups) → bytes_eq x name ≡ false → AllByRecursion (λ y. bytes_eq x y ≡ false) (keys_of es)
    → AllByRecursion (λ y. bytes_eq x y ≡ false) (keys_of (with_group es name g))
unlike_put x name g [] h a = (h, tt)
unlike_put x name g (e ∷ es) h a = go (unlike_put x name g es h a.1) (bytes_eq name e.0)
  where
    go : AllByRecursion (λ y. bytes_eq x y ≡ false) (keys_of (with_group es name g)) → (b : Bool) → AllByRecursion (λ y. bytes_eq x y ≡ false) (keys_of (cond b ((e.0, g) ∷ es) (e ∷ with_group es name g)))
    go rest true = a
    go rest false = (a.0, rest)

pub distinct_put : (es : Groups) (name : List ℕ) (g : Joined) → IsDistinct bytes_eq (keys_of es) → IsDistinct bytes_eq (keys_of (with_group es name g))
unfolding IsDistinct
distinct_put [] name g d = (tt, tt)
distinct_put (e ∷ es) name g d = go (distinct_put es name g d.1) (bytes_eq name e.0) refl
  where
    go : IsDistinct bytes_eq (keys_of (with_group es name g)) → (b : Bool) → bytes_eq name e.0 ≡ b → IsDistinct bytes_eq (keys_of (cond b ((e.0, g) ∷ es) (e ∷ with_group es name g)))
    go rest true h = d
    go rest false h = (unlike_put e.0 name g es (apart name e.0 h) d.0, rest)

module _ (records number : ℕ) (inside : number < records) where
  states : (name : List ℕ) (m : MemberText) (k : Told MemberKind) (c i t : Told (Option (List ℕ))) (o : Told (Option ℤ))
      → (k >>= λ kind. c >>= λ channel. i >>= λ id. t >>= λ trigger. o >>= λ order.
      cond (channel_fits kind channel && name_fits kind name) (Ok (member_text kind number id order trigger)) (Err stops.BadMember)) ≡ Ok m → IsStated records name m
  states name m (Ok kind) (Ok channel) (Ok id) (Ok trigger) (Ok order) h =
      let is = chosen (channel_fits kind channel && name_fits kind name) (member_text kind number id order trigger) m stops.BadMember h in
      subst (IsStated records name) is.1 (record { named = and_right (channel_fits kind channel) (name_fits kind name) is.0; recorded = record_known records number inside kind })
  states name m (Err e) c i t o h = absurd (no_ok e m _ refl h)
  states name m (Ok kind) (Err e) i t o h = absurd (no_ok e m _ refl h)
  states name m (Ok kind) (Ok channel) (Err e) t o h = absurd (no_ok e m _ refl h)
  states name m (Ok kind) (Ok channel) (Ok id) (Err e) o h = absurd (no_ok e m _ refl h)
  states name m (Ok kind) (Ok channel) (Ok id) (Ok trigger) (Err e) h = absurd (no_ok e m _ refl h)

  settled_states : (name : List ℕ) (j : Json) (m : MemberText) → settled number name j ≡ Ok m → IsStated records name m
  unfolding settled
  settled_states name j m h = states name m (kind_at j) (text_at (codes "+channel") j) (text_at (codes "+id") j) (text_at (codes "+trigger") j) (order_at j) h

  object_states : (name : List ℕ) (j : Json) (m : MemberText) (o : Told Members)
      → (o >>= λ ms. cond (list_any is_unknown (keys ms)) (Err stops.UnknownKey) (settled number name j)) ≡ Ok m → IsStated records name m
  object_states name j m (Ok ms) h = settled_states name j m (other (list_any is_unknown (keys ms)) (settled number name j) m stops.UnknownKey h).1
  object_states name j m (Err e) h = absurd (no_ok e m _ refl h)

  member_states : (name : List ℕ) (j : Json) (m : MemberText) → member_of number name j ≡ Ok m → IsStated records name m
  unfolding member_of
  member_states name j m h = object_states name j m (given (as_object j)) h

  -- ---- what a key says

  said_setting : (key : List ℕ) (said : Said) (a b : Bool) (text : Told (List ℕ)) (flag : Told Bool)
      → cond a (text >>= λ text. Ok (Id text)) (cond b (flag >>= λ flag. Ok (Atomic flag)) (Err stops.UnknownKey)) ≡ Ok said → IsSaid records key said
  said_setting key said true b (Ok text) flag h = subst (λ s. IsSaid records key s) (same_ok (Id text) said _ refl h) tt
  said_setting key said true b (Err e) flag h = absurd (no_ok e said _ refl h)
  said_setting key said false true text (Ok flag) h = subst (λ s. IsSaid records key s) (same_ok (Atomic flag) said _ refl h) tt
  said_setting key said false true text (Err e) h = absurd (no_ok e said _ refl h)
  said_setting key said false false text flag h = absurd (no_ok stops.UnknownKey said _ refl h)

  said_member : (key : List ℕ) (j : Json) (said : Said) (m : Told MemberText) → member_of number key j ≡ m → (m >>= λ m. Ok (Member m)) ≡ Ok said → IsSaid records key said
  said_member key j said (Ok m) was h = subst (λ s. IsSaid records key s) (same_ok (Member m) said _ refl h) (member_states key j m was)
  said_member key j said (Err e) was h = absurd (no_ok e said _ refl h)

  said_is : (key : List ℕ) (j : Json) (said : Said) → said_by number key j ≡ Ok said → IsSaid records key said
  unfolding said_by
  said_is key j said h = go (is_setting key) h
    where
      go : (b : Bool) → cond b (setting_of key j) (member_of number key j >>= λ m. Ok (Member m)) ≡ Ok said → IsSaid records key said
      go true h = said_setting key said (bytes_eq key (codes "+id")) (bytes_eq key (codes "+atomic")) (given (as_str j)) (given (as_bool j)) h
      go false h = said_member key j said (member_of number key j) refl h

  -- ---- groups

  joined_sound : (g h : Joined) (key : List ℕ) (said : Said) → IsSound records g → IsSaid records key said → joined_with g key said ≡ Ok h → IsSound records h
  joined_sound g h key (Id text) s t e = subst (IsSound records) (same_ok (record g { id = text }) h _ refl e) (record { sorted = s.sorted; stated = s.stated })
  joined_sound g h key (Atomic flag) s t e = subst (IsSound records) (same_ok (record g { atomic = flag }) h _ refl e) (record { sorted = s.sorted; stated = s.stated })
  joined_sound g h key (Member m) s t e = go (has_member g key) refl e
    where
      go : (b : Bool) → has_member g key ≡ b → cond b (Err stops.SameMember) (Ok (record g { members = insert_entry text_cmp g.members key m })) ≡ Ok h → IsSound records h
      go true was e = absurd (no_ok stops.SameMember h _ refl e)
      go false was e =
          subst (IsSound records) (same_ok (record g { members = insert_entry text_cmp g.members key m }) h _ refl e)
          (record {
            sorted = sorted_insert text_cmp nat_list_cmp_total key m g.members s.sorted;
            stated = all_insert text_cmp nat_list_cmp_total key m (λ m. IsStated records m.0 m.1) g.members was s.stated t;
          })

  key_sound : (g h : Joined) (key : List ℕ) (j : Json) → IsSound records g → join_key number g key j ≡ Ok h → IsSound records h
  key_sound g h key j s e = go (said_by number key j) refl e
    where
      go : (r : Told Said) → said_by number key j ≡ r → (r >>= λ said. joined_with g key said) ≡ Ok h → IsSound records h
      go (Ok said) was e = joined_sound g h key said s (said_is key j said was) e
      go (Err stop) was e = absurd (no_ok stop h _ refl e)

  keys_sound : (g h : Joined) (es : List (Place × Json)) → IsSound records g → join_keys number g es ≡ Ok h → IsSound records h
  keys_sound g h es s e =
      each_keeps (IsSound records) (λ (x : Place × Json). Unit {0}) (λ g e. join_key number g e.0.0 e.1)
      (λ g x h s q e. key_sound g h x.0.0 x.1 s e) g es h s (all_units es) e

  blank_sound : IsSound records blank
  unfolding IsStrictlySortedBy
  blank_sound = record { sorted = tt; stated = tt }

  known_sound : (gs : Groups) (name : List ℕ) → AllByRecursion (λ e. IsSound records e.1) gs → IsSound records (known gs name)
  known_sound [] name s = blank_sound
  known_sound (e ∷ es) name s = go (known_sound es name s.1) (bytes_eq name e.0)
    where
      go : IsSound records (known es name) → (b : Bool) → IsSound records (unwrap_or (cond b (Some e.1) (lookup (bytes_eq name) es)) blank)
      go rest true = s.0
      go rest false = rest

  all_put : (gs : Groups) (name : List ℕ) (g : Joined) → AllByRecursion (λ e. IsSound records e.1) gs → IsSound records g → AllByRecursion (λ e. IsSound records e.1) (with_group gs name g)
  all_put [] name g s new = (new, tt)
  all_put (e ∷ es) name g s new = go (all_put es name g s.1 new) (bytes_eq name e.0)
    where
      go : AllByRecursion (λ e. IsSound records e.1) (with_group es name g) → (b : Bool) → AllByRecursion (λ e. IsSound records e.1) (cond b ((e.0, g) ∷ es) (e ∷ with_group es name g))
      go rest true = (new, s.1)
      go rest false = (s.0, rest)

  put_sound : (gs : Groups) (name : List ℕ) (g : Joined) → AreSound records gs → IsSound records g → AreSound records (with_group gs name g)
  put_sound gs name g s new = record { distinct = distinct_put gs name g s.distinct; all_sound = all_put gs name g s.all_sound new }

  group_sound : (gs hs : Groups) (e : List ℕ × Members) → AreSound records gs → join_group number gs e ≡ Ok hs → AreSound records hs
  unfolding join_group
  group_sound gs hs e s h = go (join_keys number (known gs e.0) (in_order e.1)) refl h
    where
      go : (r : Told Joined) → join_keys number (known gs e.0) (in_order e.1) ≡ r → (r >>= λ g. Ok (with_group gs e.0 g)) ≡ Ok hs → AreSound records hs
      go (Ok g) was h = subst (AreSound records) (same_ok (with_group gs e.0 g) hs _ refl h) (put_sound gs e.0 g s (keys_sound (known gs e.0) g (in_order e.1) (known_sound gs e.0 s.all_sound) was))
      go (Err stop) was h = absurd (no_ok stop hs _ refl h)

  objects_sound : (gs hs : Groups) (r : Told (List (List ℕ × Members))) → AreSound records gs → (r >>= λ es. join_groups number gs es) ≡ Ok hs → AreSound records hs
  objects_sound gs hs (Ok es) s h =
      each_keeps (AreSound records) (λ (x : List ℕ × Members). Unit {0}) (join_group number) (λ gs x hs s q e. group_sound gs hs x s e) gs es hs s (all_units es) h
  objects_sound gs hs (Err stop) s h = absurd (no_ok stop hs _ refl h)

  read_sound : (gs hs : Groups) (r : Told Json) → AreSound records gs → (r >>= λ j. groups_of j >>= λ es. join_groups number gs es) ≡ Ok hs → AreSound records hs
  read_sound gs hs (Ok j) s h = objects_sound gs hs (groups_of j) s h
  read_sound gs hs (Err stop) s h = absurd (no_ok stop hs _ refl h)

  text_sound : (gs hs : Groups) (text : List ℕ) → AreSound records gs → join_text number gs text ≡ Ok hs → AreSound records hs
  unfolding join_text
  text_sound gs hs text s h = read_sound gs hs (json_of (with_quoted_keys text)) s h

  info_sound : (gs hs : Groups) (i : Info) → AreSound records gs → join_info number gs i ≡ Ok hs → AreSound records hs
  info_sound gs hs i s h = go (bytes_eq i.name (codes "Q:group")) h
    where
      go : (b : Bool) → cond b (join_text number gs i.text) (Ok gs) ≡ Ok hs → AreSound records hs
      go true h = text_sound gs hs i.text s h
      go false h = subst (AreSound records) (same_ok gs hs _ refl h) s

  infos_sound : (gs hs : Groups) (is : List Info) → AreSound records gs → join_infos number gs is ≡ Ok hs → AreSound records hs
  infos_sound gs hs is s h = each_keeps (AreSound records) (λ (x : Info). Unit {0}) (join_info number) (λ gs x hs s q e. info_sound gs hs x s e) gs is hs s (all_units is) h

in_record_ok : {A : Type 0} (name : List ℕ) (r : Told A) (x : A) → in_record name r ≡ Ok x → r ≡ Ok x
in_record_ok name (Ok y) x h = ap (λ y. Ok y) (same_ok y x _ refl h)
in_record_ok name (Err stop) x h = absurd (no_ok (fault_in name stop) x _ refl h)

below_all : {X : Type 0} (xs : List X) (n all : ℕ) → n + length xs ≤ all → AllByRecursion (λ (t : ℕ × X). t.0 < all) (enumerate_from n xs)
below_all [] n all h = tt
below_all (x ∷ xs) n all h = (omega arith, below_all xs (n + 1) all (omega arith))

nothing_sound : (records : ℕ) → AreSound records []
unfolding IsDistinct
nothing_sound records = record { distinct = tt; all_sound = tt }

pub texts_sound : (texts : List RecText) (gs : Groups) → join_texts texts ≡ Ok gs → AreSound (length texts) gs
texts_sound texts gs h =
    each_keeps (AreSound (length texts)) (λ (t : ℕ × RecText). t.0 < length texts) join_record
    (λ gs t hs s inside e. infos_sound (length texts) t.0 inside gs hs t.1.infos s (in_record_ok t.1.name (join_infos t.0 gs t.1.infos) hs e))
    [] (enumerate_from 0 texts) gs (nothing_sound (length texts)) (below_all texts 0 (length texts) (omega arith)) h
