-- Groups that are joined in place are those that the statements make.
use Rattle.std.proofs.Common.{◌≡◌, ℕ, Bool, true, false, cond, List, [], ◌∷◌, ◌++◌, map, fold, Some, None, Result, Ok, Err, unwrap_or, refl, sym, ap, ◌∙◌, subst}
use Rattle.std.specs.Prelude.{codes}
use Rattle.std.specs.Map.{lookup, keys_of}
use Rattle.std.specs.List.{AllByRecursion, IsDistinct, flat_map, enumerate_from}
use Rattle.std.specs.Str.{bytes_eq}
use Rattle.std.specs.Cmp.Lexicographic.{bytes_decides}
use Rattle.std.proofs.lemmas.List.Sums.{fold-append}
use Rattle.std.proofs.lemmas.List.Elements.{filter-append}
use Rattle.json.specs.Json.{Json, Members}
use Rattle.rec_kinds.specs.declared.record_text.Info.{Info}
use Rattle.rec_kinds.specs.declared.record_text.RecText.{RecText}
use Rattle.group_defs.specs.Told.{Told, ◌>>=◌, each}
use Rattle.group_defs.specs.Keys.{said_by}
use Rattle.group_defs.specs.BareKeys.{with_quoted_keys}
use Rattle.group_defs.specs.Order.{Place, in_order, json_of, groups_of}
use Rattle.group_defs.specs.Joined.{Joined, blank}
use Rattle.group_defs.specs.Statements.{Word, opened, says, Statement, Line, key_line, group_lines, lines_of, text_lines, info_lines, spoken, about, joined_of, with_name, named, Groups, stated, has_member, with_line, fault_in, in_record, with_record, statements}
use Rattle.group_defs.specs.Joining.{known, with_group, joined_with, join_key, join_keys, join_group, join_groups, join_text, join_info, join_infos, join_record, join_texts}
use Rattle.group_defs.specs.Checking.{checked, defined, defined_in_place}
use Rattle.group_defs.specs.declared.fault.Stop.TheVariants as stops
use Rattle.group_defs.specs.declared.fault.GroupFault.{GroupFault}
use Rattle.group_defs.specs.declared.said.Said.{Said}
use Rattle.group_defs.specs.declared.said.Said.TheVariants.{Id, Atomic, Member}
use Rattle.group_defs.proofs.Drafts.{same_bytes, put_again}
use Rattle.group_defs.proofs.Sounds.{same_ok, no_ok, apart, distinct_put}

each-append : {S X E : Type 0} (step : S → X → Result S E) (s : S) (xs ys : List X) → each step s (xs ++ ys) ≡ (each step s xs >>= λ t. each step t ys)
each-append step s [] ys = refl
each-append {S} {X} {E} step s (x ∷ xs) ys = go (λ (t : S). each-append step t xs ys) (step s x)
  where
    go : ((t : S) → each step t (xs ++ ys) ≡ (each step t xs >>= λ t. each step t ys)) → (r : Result S E)
        → (r >>= λ t. each step t (xs ++ ys)) ≡ ((r >>= λ t. each step t xs) >>= λ t. each step t ys)
    go rest (Ok t) = rest t
    go rest (Err e) = refl

-- ---- one more statement

joined-more : (name : List ℕ) (ss : List Statement) (s : Statement) → joined_of name (ss ++ s ∷ []) ≡ cond (bytes_eq s.group name) (spoken (joined_of name ss) s.word) (joined_of name ss)
joined-more name ss s =
    ap (λ (xs : List Statement). fold (λ g s. spoken g s.word) blank xs) (filter-append (λ (s : Statement). bytes_eq s.group name) ss (s ∷ []))
    ∙ fold-append (λ g (s : Statement). spoken g s.word) blank (about name ss) (about name (s ∷ [])) ∙ go (bytes_eq s.group name)
  where
    go : (b : Bool) → fold (λ g (s : Statement). spoken g s.word) (joined_of name ss) (cond b (s ∷ []) []) ≡ cond b (spoken (joined_of name ss) s.word) (joined_of name ss)
    go true = refl
    go false = refl

joined-here : (ss : List Statement) (s : Statement) → joined_of s.group (ss ++ s ∷ []) ≡ spoken (joined_of s.group ss) s.word
joined-here ss s = joined-more s.group ss s ∙ ap (λ (b : Bool). cond b (spoken (joined_of s.group ss) s.word) (joined_of s.group ss)) (same_bytes s.group)

named-more : (ss : List Statement) (s : Statement) → named (ss ++ s ∷ []) ≡ with_name (named ss) s.group
named-more ss s = fold-append (λ names (s : Statement). with_name names s.group) [] ss (s ∷ [])

abbrev placed : (List ℕ → Joined) → List (List ℕ) → Groups
placed J ns = map (λ n. (n, J n)) ns

module _ (J K : List ℕ → Joined) (g : List ℕ) (v : Joined) (here : (n : List ℕ) → bytes_eq g n ≡ true → K n ≡ v) (there : (n : List ℕ) → bytes_eq g n ≡ false → K n ≡ J n) where
  map_same : (ns : List (List ℕ)) → AllByRecursion (λ n. bytes_eq g n ≡ false) ns → placed K ns ≡ placed J ns
  map_same [] a = refl
  map_same (n ∷ ns) a = ap (λ (j : Joined). (n, j) ∷ placed K ns) (there n a.0) ∙ ap (λ (es : Groups). (n, J n) ∷ es) (map_same ns a.1)

  map_put : (ns : List (List ℕ)) → IsDistinct bytes_eq ns → placed K (with_name ns g) ≡ with_group (placed J ns) g v
  unfolding IsDistinct
  map_put [] d = ap (λ (j : Joined). (g, j) ∷ []) (here g (same_bytes g))
  map_put (n ∷ ns) d = go (map_put ns d.1) (bytes_eq g n) refl
    where
      go : placed K (with_name ns g) ≡ with_group (placed J ns) g v → (b : Bool) → bytes_eq g n ≡ b
          → placed K (cond b (n ∷ ns) (n ∷ with_name ns g)) ≡ cond b ((n, v) ∷ placed J ns) ((n, J n) ∷ with_group (placed J ns) g v)
      go rest true h =
          ap (λ (j : Joined). (n, j) ∷ placed K ns) (here n h)
          ∙ ap (λ (es : Groups). (n, v) ∷ es) (map_same ns (subst (λ (k : List ℕ). AllByRecursion (λ n. bytes_eq k n ≡ false) ns) (sym ((bytes_decides g n).0 h)) d.0))
      go rest false h = ap (λ (j : Joined). (n, j) ∷ placed K (with_name ns g)) (there n h) ∙ ap (λ (es : Groups). (n, J n) ∷ es) rest

keys_named : (J : List ℕ → Joined) (ns : List (List ℕ)) → keys_of (placed J ns) ≡ ns
keys_named J [] = refl
keys_named J (n ∷ ns) = ap (λ (ns : List (List ℕ)). n ∷ ns) (keys_named J ns)

known_put : (gs : Groups) (name : List ℕ) (v : Joined) → known (with_group gs name v) name ≡ v
known_put [] name v = ap (λ (b : Bool). unwrap_or (cond b (Some v) None) blank) (same_bytes name)
known_put (e ∷ es) name v = go (known_put es name v) (bytes_eq name e.0) refl
  where
    go : known (with_group es name v) name ≡ v → (b : Bool) → bytes_eq name e.0 ≡ b → known (cond b ((e.0, v) ∷ es) (e ∷ with_group es name v)) name ≡ v
    go rest true h = ap (λ (b : Bool). unwrap_or (cond b (Some v) (lookup (bytes_eq name) es)) blank) h
    go rest false h = ap (λ (b : Bool). unwrap_or (cond b (Some e.1) (lookup (bytes_eq name) (with_group es name v))) blank) h ∙ rest

known_other : (gs : Groups) (name other : List ℕ) (v : Joined) → bytes_eq other name ≡ false → known (with_group gs name v) other ≡ known gs other
known_other [] name other v h = ap (λ (b : Bool). unwrap_or (cond b (Some v) None) blank) h
known_other (e ∷ es) name other v h = go (known_other es name other v h) (bytes_eq name e.0) refl
  where
    past : known (with_group es name v) other ≡ known es other → (b : Bool)
        → unwrap_or (cond b (Some e.1) (lookup (bytes_eq other) (with_group es name v))) blank ≡ unwrap_or (cond b (Some e.1) (lookup (bytes_eq other) es)) blank
    past rest true = refl
    past rest false = rest

    go : known (with_group es name v) other ≡ known es other → (b : Bool) → bytes_eq name e.0 ≡ b → known (cond b ((e.0, v) ∷ es) (e ∷ with_group es name v)) other ≡ known (e ∷ es) other
    go rest true same =
        let off : bytes_eq other e.0 ≡ false = subst (λ (k : List ℕ). bytes_eq other k ≡ false) ((bytes_decides name e.0).0 same) h in
        ap (λ (b : Bool). unwrap_or (cond b (Some v) (lookup (bytes_eq other) es)) blank) off ∙ sym (ap (λ (b : Bool). unwrap_or (cond b (Some e.1) (lookup (bytes_eq other) es)) blank) off)
    go rest false differs = past rest (bytes_eq other e.0)

-- the names stand once each, and each group is found at its name
record IsOrderly (ss : List Statement) : Type 0 where
  distinct : IsDistinct bytes_eq (named ss)
  found : (name : List ℕ) → known (stated ss) name ≡ joined_of name ss

nothing_orderly : IsOrderly []
unfolding IsDistinct
nothing_orderly = record { distinct = tt; found = λ name. refl }

module _ (ss : List Statement) (s : Statement) (o : IsOrderly ss) where
  stated-more : stated (ss ++ s ∷ []) ≡ with_group (stated ss) s.group (spoken (joined_of s.group ss) s.word)
  stated-more =
      ap (λ (ns : List (List ℕ)). placed (λ n. joined_of n (ss ++ s ∷ [])) ns) (named-more ss s)
      ∙ map_put (λ n. joined_of n ss) (λ n. joined_of n (ss ++ s ∷ [])) s.group (spoken (joined_of s.group ss) s.word)
      (λ n h. joined-more n ss s ∙ ap (λ (b : Bool). cond b (spoken (joined_of n ss) s.word) (joined_of n ss)) h ∙ ap (λ (k : List ℕ). spoken (joined_of k ss) s.word) (sym ((bytes_decides s.group n).0 h)))
      (λ n h. joined-more n ss s ∙ ap (λ (b : Bool). cond b (spoken (joined_of n ss) s.word) (joined_of n ss)) h)
      (named ss) o.distinct

  found-more : (name : List ℕ) → known (stated (ss ++ s ∷ [])) name ≡ joined_of name (ss ++ s ∷ [])
  found-more name = go (bytes_eq s.group name) refl
    where
      go : (b : Bool) → bytes_eq s.group name ≡ b → known (stated (ss ++ s ∷ [])) name ≡ joined_of name (ss ++ s ∷ [])
      go true h =
          subst (λ (k : List ℕ). known (stated (ss ++ s ∷ [])) k ≡ joined_of k (ss ++ s ∷ [])) ((bytes_decides s.group name).0 h)
          (ap (λ (gs : Groups). known gs s.group) stated-more ∙ known_put (stated ss) s.group (spoken (joined_of s.group ss) s.word) ∙ sym (joined-here ss s))
      go false h =
          ap (λ (gs : Groups). known gs name) stated-more ∙ known_other (stated ss) s.group name (spoken (joined_of s.group ss) s.word) (apart s.group name h) ∙ o.found name
          ∙ sym (joined-more name ss s ∙ ap (λ (b : Bool). cond b (spoken (joined_of name ss) s.word) (joined_of name ss)) h)

  orderly-more : IsOrderly (ss ++ s ∷ [])
  orderly-more = record {
    distinct =
        subst (IsDistinct bytes_eq) (ap (λ (gs : Groups). keys_of gs) (sym stated-more) ∙ keys_named (λ n. joined_of n (ss ++ s ∷ [])) (named (ss ++ s ∷ [])))
        (distinct_put (stated ss) s.group (spoken (joined_of s.group ss) s.word) (subst (IsDistinct bytes_eq) (sym (keys_named (λ n. joined_of n ss) (named ss))) o.distinct));
    found = found-more;
  }

-- ---- the two go together

record Follows {E : Type 0} (r : Result Groups E) (q : Result (List Statement) E) : Type 0 where
  same : r ≡ (q >>= λ ss. Ok (stated ss))
  orderly : (ss : List Statement) → q ≡ Ok ss → IsOrderly ss

follows_stop : {E : Type 0} (e : E) → Follows (Err e) (Err e)
follows_stop e = record { same = refl; orderly = λ ss h. absurd (no_ok e ss _ refl h) }

follows_none : {E : Type 0} (ss : List Statement) → IsOrderly ss → Follows {E = E} (Ok (stated ss)) (Ok ss)
follows_none ss o = record { same = refl; orderly = λ t h. subst IsOrderly (same_ok ss t _ refl h) o }

after : {E : Type 0} (f : Groups → Result Groups E) (h : List Statement → Result (List Statement) E) → ((ss : List Statement) → IsOrderly ss → Follows (f (stated ss)) (h ss))
    → (r : Result Groups E) (q : Result (List Statement) E) → Follows r q → Follows (r >>= f) (q >>= h)
after f h next r (Ok ss) both = subst (λ r. Follows (r >>= f) (h ss)) (sym both.same) (next ss (both.orderly ss refl))
after f h next r (Err e) both = subst (λ r. Follows (r >>= f) (Err e)) (sym both.same) (follows_stop e)

follows_each : {X : Type 0} (step : Groups → X → Told Groups) (lines : X → List Line) → ((ss : List Statement) → IsOrderly ss → (x : X) → Follows (step (stated ss) x) (each with_line ss (lines x)))
    → (ss : List Statement) → IsOrderly ss → (xs : List X) → Follows (each step (stated ss) xs) (each with_line ss (flat_map lines xs))
follows_each step lines one ss o [] = follows_none ss o
follows_each {X} step lines one ss o (x ∷ xs) =
    subst (λ (q : Told (List Statement)). Follows (step (stated ss) x >>= λ gs. each step gs xs) q) (sym (each-append with_line ss (lines x) (flat_map lines xs)))
    (after (λ gs. each step gs xs) (λ ss. each with_line ss (flat_map lines xs)) (λ ss o. follows_each step lines one ss o xs) (step (stated ss) x) (each with_line ss (lines x)) (one ss o x))

module _ (number : ℕ) where
  keys_follow : (name : List ℕ) (before : Groups) (ks : List (Place × Json)) (ss : List Statement) → IsOrderly ss → stated ss ≡ with_group before name (joined_of name ss)
      → Follows (each (λ g k. join_key number g k.0.0 k.1) (joined_of name ss) ks >>= λ g. Ok (with_group before name g)) (each with_line ss (map (key_line number name) ks))
  keys_follow name before [] ss o at = record { same = ap (λ (gs : Groups). Ok gs) (sym at); orderly = λ t h. subst IsOrderly (same_ok ss t _ refl h) o }
  keys_follow name before (k ∷ ks) ss o at = go (λ (s : Statement) (o : IsOrderly (ss ++ s ∷ [])) (at : stated (ss ++ s ∷ []) ≡ with_group before name (joined_of name (ss ++ s ∷ []))). keys_follow name before ks (ss ++ s ∷ []) o at) (said_by number k.0.0 k.1)
    where
      line : Said → Statement
      line said = record { group = name; word = says k.0.0 said }

      rest : ((s : Statement) → IsOrderly (ss ++ s ∷ []) → stated (ss ++ s ∷ []) ≡ with_group before name (joined_of name (ss ++ s ∷ []))
          → Follows (each (λ g k. join_key number g k.0.0 k.1) (joined_of name (ss ++ s ∷ [])) ks >>= λ g. Ok (with_group before name g)) (each with_line (ss ++ s ∷ []) (map (key_line number name) ks)))
          → (w : Word) → Follows (each (λ g k. join_key number g k.0.0 k.1) (spoken (joined_of name ss) w) ks >>= λ g. Ok (with_group before name g)) (each with_line (ss ++ record { group = name; word = w } ∷ []) (map (key_line number name) ks))
      rest more w =
          let s : Statement = record { group = name; word = w } in
          let put = stated-more ss s o ∙ ap (λ (gs : Groups). with_group gs name (spoken (joined_of name ss) w)) at ∙ put_again before name (joined_of name ss) (spoken (joined_of name ss) w)
          ∙ ap (λ (g : Joined). with_group before name g) (sym (joined-here ss s)) in
          subst (λ (g : Joined). Follows (each (λ g k. join_key number g k.0.0 k.1) g ks >>= λ g. Ok (with_group before name g)) (each with_line (ss ++ s ∷ []) (map (key_line number name) ks)))
          (joined-here ss s) (more s (orderly-more ss s o) put)

      go : ((s : Statement) → IsOrderly (ss ++ s ∷ []) → stated (ss ++ s ∷ []) ≡ with_group before name (joined_of name (ss ++ s ∷ []))
          → Follows (each (λ g k. join_key number g k.0.0 k.1) (joined_of name (ss ++ s ∷ [])) ks >>= λ g. Ok (with_group before name g)) (each with_line (ss ++ s ∷ []) (map (key_line number name) ks)))
          → (told : Told Said)
          → Follows (((told >>= λ said. joined_with (joined_of name ss) k.0.0 said) >>= λ g. each (λ g k. join_key number g k.0.0 k.1) g ks) >>= λ g. Ok (with_group before name g))
          (with_line ss (told >>= λ said. Ok (record { group = name; word = says k.0.0 said })) >>= λ ss. each with_line ss (map (key_line number name) ks))
      go more (Err stop) = follows_stop stop
      go more (Ok (Id text)) = rest more (says k.0.0 (Id text))
      go more (Ok (Atomic flag)) = rest more (says k.0.0 (Atomic flag))
      go more (Ok (Member m)) = either (has_member (joined_of name ss) k.0.0)
        where
          either : (b : Bool)
              → Follows ((cond b (Err stops.SameMember) (Ok (spoken (joined_of name ss) (says k.0.0 (Member m)))) >>= λ g. each (λ g k. join_key number g k.0.0 k.1) g ks) >>= λ g. Ok (with_group before name g))
              (cond b (Err stops.SameMember) (Ok (ss ++ record { group = name; word = says k.0.0 (Member m) } ∷ [])) >>= λ ss. each with_line ss (map (key_line number name) ks))
          either true = follows_stop stops.SameMember
          either false = rest more (says k.0.0 (Member m))

  group_follows : (ss : List Statement) → IsOrderly ss → (e : List ℕ × Members) → Follows (join_group number (stated ss) e) (each with_line ss (group_lines number e))
  unfolding join_group
  group_follows ss o e =
      let s : Statement = record { group = e.0; word = opened } in
      let put = stated-more ss s o ∙ ap (λ (g : Joined). with_group (stated ss) e.0 g) (sym (joined-here ss s)) in
      subst (λ (g : Joined). Follows (join_keys number g (in_order e.1) >>= λ g. Ok (with_group (stated ss) e.0 g)) (each with_line (ss ++ s ∷ []) (map (key_line number e.0) (in_order e.1))))
      (joined-here ss s ∙ sym (o.found e.0)) (keys_follow e.0 (stated ss) (in_order e.1) (ss ++ s ∷ []) (orderly-more ss s o) put)

  objects_follow : (ss : List Statement) → IsOrderly ss → (told : Told (List (List ℕ × Members))) → Follows (told >>= λ es. join_groups number (stated ss) es) (each with_line ss (lines_of number told))
  objects_follow ss o (Ok es) = follows_each (join_group number) (group_lines number) group_follows ss o es
  objects_follow ss o (Err stop) = follows_stop stop

  text_follows : (ss : List Statement) → IsOrderly ss → (text : List ℕ) → Follows (join_text number (stated ss) text) (each with_line ss (text_lines number text))
  unfolding join_text
  text_follows ss o text = go (json_of (with_quoted_keys text))
    where
      go : (told : Told Json) → Follows (told >>= λ j. groups_of j >>= λ es. join_groups number (stated ss) es) (each with_line ss (lines_of number (told >>= groups_of)))
      go (Ok j) = objects_follow ss o (groups_of j)
      go (Err stop) = follows_stop stop

  info_follows : (ss : List Statement) → IsOrderly ss → (i : Info) → Follows (join_info number (stated ss) i) (each with_line ss (info_lines number i))
  info_follows ss o i = go (bytes_eq i.name (codes "Q:group"))
    where
      go : (b : Bool) → Follows (cond b (join_text number (stated ss) i.text) (Ok (stated ss))) (each with_line ss (cond b (text_lines number i.text) []))
      go true = text_follows ss o i.text
      go false = follows_none ss o

in_record_follows : (name : List ℕ) (r : Told Groups) (q : Told (List Statement)) → Follows r q → Follows (in_record name r) (in_record name q)
in_record_follows name r (Ok ss) both = subst (λ r. Follows (in_record name r) (Ok ss)) (sym both.same) (follows_none ss (both.orderly ss refl))
in_record_follows name r (Err stop) both = subst (λ r. Follows (in_record name r) (in_record name (Err stop))) (sym both.same) (follows_stop (fault_in name stop))

record_follows : (ss : List Statement) → IsOrderly ss → (t : ℕ × RecText) → Follows (join_record (stated ss) t) (with_record ss t)
record_follows ss o t =
    in_record_follows t.1.name (join_infos t.0 (stated ss) t.1.infos) (each with_line ss (flat_map (info_lines t.0) t.1.infos))
    (follows_each (join_info t.0) (info_lines t.0) (info_follows t.0) ss o t.1.infos)

records_follow : (ss : List Statement) → IsOrderly ss → (ts : List (ℕ × RecText)) → Follows (each join_record (stated ss) ts) (each with_record ss ts)
records_follow ss o [] = follows_none ss o
records_follow ss o (t ∷ ts) =
    after (λ gs. each join_record gs ts) (λ ss. each with_record ss ts) (λ ss o. records_follow ss o ts) (join_record (stated ss) t) (with_record ss t) (record_follows ss o t)

-- what is joined record by record is what the statements make
pub texts_follow : (texts : List RecText) → join_texts texts ≡ (statements texts >>= λ ss. Ok (stated ss))
texts_follow texts = let both = records_follow [] nothing_orderly (enumerate_from 0 texts) in both.same

pub passed_on : {A : Type 0} (f : Groups → Result A GroupFault) (q : Result (List Statement) GroupFault) → ((q >>= λ ss. Ok (stated ss)) >>= f) ≡ (q >>= λ ss. f (stated ss))
passed_on f (Ok ss) = refl
passed_on f (Err e) = refl

-- so both give the same definitions
pub same_defined : (texts : List RecText) → defined_in_place texts ≡ defined texts
unfolding defined defined_in_place
same_defined texts = ap (λ (r : Result Groups GroupFault). r >>= λ groups. checked texts groups) (texts_follow texts) ∙ passed_on (λ groups. checked texts groups) (statements texts)
