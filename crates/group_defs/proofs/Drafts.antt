-- Members and groups that are joined in maps.
use Rattle.std.proofs.Common.{◌≡◌, ℕ, Bool, true, false, not, cond, List, [], ◌∷◌, map, Option, Some, None, Ok, Err, is_some, option_map, string_bytes, refl, sym, ap, ◌∙◌}
use Rattle.std.specs.declared.string.String.{String}
use Rattle.std.specs.BTreeMap as tree
use Rattle.std.specs.Ordering.{is_eq}
use Rattle.std.specs.Map.{lookup}
use Rattle.std.specs.Prelude.{unwrap_or}
use Rattle.std.specs.Str.{bytes_eq}
use Rattle.std.specs.Cmp.Lexicographic.{bytes_decides}
use Rattle.indexmap.specs.IndexMap as index
use Rattle.group_defs.specs.Order.{text_cmp}
use Rattle.group_defs.specs.Joined.{Joined, blank}
use Rattle.group_defs.specs.Joining.{known, with_group, joined_with}
use Rattle.group_defs.specs.Statements.{Groups, has_member}
use Rattle.group_defs.specs.declared.fault.Stop.TheVariants.{SameMember}
use Rattle.group_defs.specs.declared.said.MemberText.{MemberText}
use Rattle.group_defs.specs.Checking.{listed_members, listed_group}
use Rattle.group_defs.specs.declared.listed.Member as listed
use Rattle.group_defs.specs.declared.listed.Group.{Group}
use Rattle.group_defs.specs.declared.said.Said.TheVariants.{Member}
use Rattle.group_defs.proofs.Maps.{seen-insert, seen-lookup, seen-put}

same_option : {V : Type 0} (o : Option V) → option_map (λ v. v) o ≡ o
same_option None = refl
same_option (Some v) = refl

module _ {Y V : Type 0} where
  abbrev pub named : List (String Y × V) → List (List ℕ × V)
  named es = map (λ e. (string_bytes e.0, e.1)) es

  pub named-lookup : (test : List ℕ → Bool) (es : List (String Y × V)) → lookup (λ (k : String Y). test (string_bytes k)) es ≡ lookup test (named es)
  named-lookup test es = sym (same_option _) ∙ seen-lookup (λ (k : String Y). string_bytes k) (λ (v : V). v) test es

  pub named-insert : (es : List (String Y × V)) (k : String Y) (v : V)
      → named (tree.insert_entry (λ a b. text_cmp (string_bytes a) (string_bytes b)) es k v) ≡ tree.insert_entry text_cmp (named es) (string_bytes k) v
  named-insert es k v = seen-insert (λ (k : String Y). string_bytes k) (λ (v : V). v) (λ a b. text_cmp (string_bytes a) (string_bytes b)) text_cmp (λ a b. refl) es k v

module _ {Y : Type 0} (es : List (String Y × Joined)) (k : String Y) (name : List ℕ) (same_key : string_bytes k ≡ name) where
  pub known_as : (old : Option Joined) → old ≡ lookup (λ (q : String Y). bytes_eq (string_bytes k) (string_bytes q)) es → known (named es) name ≡ unwrap_or old blank
  known_as old h =
      ap (λ (o : Option Joined). unwrap_or o blank)
      (ap (λ (n : List ℕ). lookup (bytes_eq n) (named es)) (sym same_key) ∙ sym (named-lookup (bytes_eq (string_bytes k)) es) ∙ sym h)

  pub put_as : (fs : List (String Y × Joined)) (w : Joined) → fs ≡ index.insert_entry (λ a b. bytes_eq (string_bytes a) (string_bytes b)) es k w → named fs ≡ with_group (named es) name w
  put_as fs w put =
      ap (λ (xs : List (String Y × Joined)). named xs) put ∙ seen-put (λ (k : String Y). string_bytes k) (λ (v : Joined). v) bytes_eq es k w
      ∙ ap (λ (n : List ℕ). index.insert_entry bytes_eq (named es) n w) same_key

pub same_bytes : (n : List ℕ) → bytes_eq n n ≡ true
same_bytes n = (bytes_decides n n).1 refl

-- the later of two groups in one place stays
pub put_again : (gs : Groups) (name : List ℕ) (g w : Joined) → with_group (with_group gs name g) name w ≡ with_group gs name w
put_again [] name g w = ap (λ (b : Bool). cond b ((name, w) ∷ []) ((name, g) ∷ (name, w) ∷ [])) (same_bytes name)
put_again (e ∷ es) name g w = go (bytes_eq name e.0) refl (put_again es name g w)
  where
    go : (b : Bool) → bytes_eq name e.0 ≡ b → with_group (with_group es name g) name w ≡ with_group es name w
        → with_group (cond b ((e.0, g) ∷ es) (e ∷ with_group es name g)) name w ≡ cond b ((e.0, w) ∷ es) (e ∷ with_group es name w)
    go true h rest = ap (λ (b : Bool). cond b ((e.0, w) ∷ es) ((e.0, g) ∷ with_group es name w)) h
    go false h rest = ap (λ (b : Bool). cond b ((e.0, w) ∷ with_group es name g) (e ∷ with_group (with_group es name g) name w)) h ∙ ap (λ (xs : Groups). e ∷ xs) rest

-- whether a map has a key is asked by its bytes
pub named-has : {Y V : Type 0} (es : List (String Y × V)) (k : String Y)
    → is_some (lookup (λ (q : String Y). is_eq (text_cmp (string_bytes k) (string_bytes q))) es) ≡ is_some (lookup (tree.is_at (text_cmp (string_bytes k))) (named es))
named-has {Y} {V} es k = ap (λ (o : Option V). is_some o) (named-lookup (λ (q : List ℕ). is_eq (text_cmp (string_bytes k) q)) es)

pub added_as : {Y : Type 0} (es : List (String Y × MemberText)) (k : String Y) (key : List ℕ) → string_bytes k ≡ key → (old : Option MemberText)
    → old ≡ lookup (λ (q : String Y). is_eq (text_cmp (string_bytes k) (string_bytes q))) es → is_some old ≡ is_some (lookup (tree.is_at (text_cmp key)) (named es))
added_as es k key same old e =
    ap (λ (o : Option MemberText). is_some o) e ∙ named-has es k ∙ ap (λ (n : List ℕ). is_some (lookup (tree.is_at (text_cmp n)) (named es))) same

pub entries_as : {Y : Type 0} (es fs : List (String Y × MemberText)) (k : String Y) (key : List ℕ) (m : MemberText) → string_bytes k ≡ key
    → fs ≡ tree.insert_entry (λ a b. text_cmp (string_bytes a) (string_bytes b)) es k m → named fs ≡ tree.insert_entry text_cmp (named es) key m
entries_as {Y} es fs k key m same put =
    ap (λ (xs : List (String Y × MemberText)). named xs) put ∙ named-insert es k m ∙ ap (λ (n : List ℕ). tree.insert_entry text_cmp (named es) n m) same

-- what a map gave back tells whether the key is new
pub told_new : (old here new : Bool) → old ≡ not new → old ≡ here → new ≡ not here
told_new old here true h e = sym (ap not (sym e ∙ h))
told_new old here false h e = sym (ap not (sym e ∙ h))

module _ (g : Joined) (key : List ℕ) (m : MemberText) (new : Bool) (tells : new ≡ not (has_member g key)) where
  is_new : (b : Bool) → new ≡ b → has_member g key ≡ not b
  is_new b h = sym (twice (has_member g key)) ∙ ap not (sym tells ∙ h)
    where
      twice : (b : Bool) → not (not b) ≡ b
      twice true = refl
      twice false = refl

  pub same_member : new ≡ false → joined_with g key (Member m) ≡ Err SameMember
  same_member h = ap (λ (b : Bool). cond b (Err SameMember) (Ok (record g { members = tree.insert_entry text_cmp g.members key m }))) (is_new false h)

  pub new_member : (h : Joined) → new ≡ true → h ≡ record g { members = tree.insert_entry text_cmp g.members key m } → joined_with g key (Member m) ≡ Ok h
  new_member h was e =
      ap (λ (b : Bool). cond b (Err SameMember) (Ok (record g { members = tree.insert_entry text_cmp g.members key m }))) (is_new true was) ∙ ap (λ (x : Joined). Ok x) (sym e)

-- the group that a joined one is listed as
abbrev made : List ℕ → List ℕ → Bool → List listed.Member → Group
made name id atomic ms = record { name = name; id = id; atomic = atomic; members = ms }

pub group_as : (n name own id : List ℕ) (atomic : Bool) (ms : List listed.Member) (es : List (List ℕ × MemberText)) (g : Joined) → n ≡ name → own ≡ id → g ≡ record { id = id; atomic = atomic; members = es } → ms ≡ listed_members es
    → record { name = n; id = own; atomic = atomic; members = ms } ≡ listed_group (name, g)
group_as n name own id atomic ms es g e o v h =
    ap (λ (n : List ℕ). made n own atomic ms) e ∙ ap (λ (i : List ℕ). made name i atomic ms) o ∙ ap (λ (ms : List listed.Member). made name id atomic ms) h
    ∙ ap (λ (g : Joined). listed_group (name, g)) (sym v)
