-- Actions of one writable member after another.
use Rattle.std.proofs.Common.{◌≡◌, ℕ, zero, suc, ◌+◌, ◌<◌, ◌≤◌, true, false, cond, List, [], ◌∷◌, ◌++◌, length, get_or, drop, Option, None, Some, Result, Ok, Err, refl, sym, ap, ◌∙◌, subst, arith, add-one}
use Rattle.std.specs.Prelude.{MatchOption}
use Rattle.std.specs.FinSet.{FinSet, contains}
use Rattle.std.specs.List.{AllByRecursion}
use Rattle.std.specs.Option.{IfSome}
use Rattle.std.specs.Ordering.{nat_cmp}
use Rattle.std.proofs.Math.Seq.{drop-cons}
use Rattle.std.proofs.lemmas.List.{append_assoc, length-append}
use Rattle.pvd_type.specs.Tree.{Tree}
use Rattle.pvd_value.specs.Data.{Data}
use Rattle.rec_kinds.specs.Configs.{Config}
use Rattle.rec_kinds.specs.Validity.{MayBeDone}
use Rattle.rec_kinds.specs.declared.datum.Action.{Action}
use Rattle.rec_fields.specs.declared.puts.FieldAnswer.{FieldAnswer}
use Rattle.group_view.specs.Groups.{IsLinkOf}
use Rattle.group_view.specs.Links.{Link}
use Rattle.pvd_value.specs.Leaves.{leaf_at}
use Rattle.rec_fields.specs.Plain.{leaf_action}
use Rattle.group_view.specs.declared.writer.Writing.{Writing}
use Rattle.group_view.specs.declared.writer.Writing.TheVariants.{Writes, Processes}
use Rattle.group_view.specs.Puts.{with_record, put_to, also, done_by, done_by_all, listed, unless_none, actions_for, writers, Refuses, MayBeDoneBy}
use Rattle.group_view.specs.Groups.{GroupData}
use Rattle.group_view.specs.Types.{group_tree}
use Rattle.rec_kinds.specs.declared.put.PutRefusal.TheVariants.{NothingWritable}
use Rattle.rec_fields.specs.declared.puts.FieldAnswer.TheVariants.{Refused, NoMemory}
use Rattle.group_view.specs.declared.writer.Writer.{Writer}
use Rattle.group_view.proofs.Depending.{all_append}

abbrev told : List (ℕ × Action) → Result (List (ℕ × Action)) FieldAnswer
told xs = Ok xs

all_of : {xs ys : List (ℕ × Action)} → told xs ≡ told ys → xs ≡ ys
all_of e = cc

recorded_few : (rec : ℕ) (r : Result Action FieldAnswer) (xs : List (ℕ × Action)) → with_record rec r ≡ Ok xs → length xs ≤ 1
recorded_few rec (Ok action) xs is = omega (arith, ap length (all_of is))
recorded_few rec (Err answer) xs is = absurd (cc)

also_joined : (xs ys : List (ℕ × Action)) (r : Result (List (ℕ × Action)) FieldAnswer) → also (Ok (xs ++ ys)) r ≡ also (Ok xs) (also (Ok ys) r)
also_joined xs ys (Ok zs) = ap Ok (append_assoc xs ys zs)
also_joined xs ys (Err answer) = refl

module _ (t : Tree) (value : Data) (mask : FinSet nat_cmp) (ws : List Writer) (i : ℕ) (w : Writer) (within : i < length ws) (here : get_or ws i w ≡ w) where
  step : drop i ws ≡ w ∷ drop (i + 1) ws
  step = rw (drop-cons ws i w within, add-one, here) refl

  pub actions_more : (before after : List (ℕ × Action)) (rec : ℕ) (action : Option Action) (whole : Result (List (ℕ × Action)) FieldAnswer)
      → after ≡ before ++ listed rec action → rec ≡ w.link.rec → done_by t value mask w.link w.writing ≡ Ok (listed w.link.rec action)
      → also (Ok before) (done_by_all t value mask (drop i ws)) ≡ whole → also (Ok after) (done_by_all t value mask (drop (i + 1) ws)) ≡ whole
  actions_more before after rec action whole is named done so_far =
      let rest = done_by_all t value mask (drop (i + 1) ws) in
      ap (λ (xs : List (ℕ × Action)). also (Ok xs) rest) (is ∙ ap (λ (r : ℕ). before ++ listed r action) named)
      ∙ also_joined before (listed w.link.rec action) rest
      ∙ ap (λ r. also (Ok before) (also r rest)) (sym done)
      ∙ ap (λ (xs : List Writer). also (Ok before) (done_by_all t value mask xs)) (sym step)
      ∙ so_far

  -- the first that is refused
  pub refused_here : (before : List (ℕ × Action)) (answer : FieldAnswer) (whole : Result (List (ℕ × Action)) FieldAnswer)
      → done_by t value mask w.link w.writing ≡ Err answer → also (Ok before) (done_by_all t value mask (drop i ws)) ≡ whole → whole ≡ Err answer
  refused_here before answer whole refused so_far =
      sym so_far ∙ ap (λ (xs : List Writer). also (Ok before) (done_by_all t value mask xs)) step
      ∙ ap (λ r. also (Ok before) (also r (done_by_all t value mask (drop (i + 1) ws)))) refused

  pub writer_more : (P : Writer → Type 0) → AllByRecursion P (drop i ws) → AllByRecursion P (drop (i + 1) ws)
  writer_more P all = (subst (AllByRecursion P) step all).1

all_get : (P : Writer → Type 0) (ws : List Writer) (i : ℕ) (w : Writer) → i < length ws → get_or ws i w ≡ w → AllByRecursion P ws → P w
all_get P [] i w within here all = absurd (omega arith)
all_get P (x ∷ ws) zero w within here all = subst P here all.0
all_get P (x ∷ ws) (suc i) w within here all = all_get P ws i w (omega arith) here all.1

pub may_more : (configs : List Config) (ws : List Writer) (i : ℕ) (w : Writer) (before after : List (ℕ × Action)) (rec : ℕ) (action : Option Action) → i < length ws
    → get_or ws i w ≡ w → after ≡ before ++ listed rec action → rec ≡ w.link.rec → IfSome action (MayBeDone w.link.config)
    → AllByRecursion (λ w. IsLinkOf configs w.link) ws → AllByRecursion (MayBeDoneBy configs) before → AllByRecursion (MayBeDoneBy configs) after
may_more configs ws i w before after rec action within here is named may linked so_far =
    subst (AllByRecursion (MayBeDoneBy configs)) (sym (is ∙ ap (λ (r : ℕ). before ++ listed r action) named))
    (all_append (MayBeDoneBy configs) before (listed w.link.rec action) so_far (by action may))
  where
    link : IsLinkOf configs w.link
    link = all_get (λ w. IsLinkOf configs w.link) ws i w within here linked

    by : (a : Option Action) → IfSome a (MayBeDone w.link.config) → AllByRecursion (MayBeDoneBy configs) (listed w.link.rec a)
    by None h = tt
    by (Some a) h = (subst (λ o. MatchOption o ⊥ (λ config. MayBeDone config a)) (sym link) h, tt)

-- ---- how many actions there are

module _ (t : Tree) (value : Data) (mask : FinSet nat_cmp) where
  put_few : (link : Link) (o : Option Data) (xs : List (ℕ × Action)) → put_to link o ≡ Ok xs → length xs ≤ 1
  put_few link None xs is = omega (arith, ap length (all_of is))
  put_few link (Some leaf) xs is = recorded_few link.rec (leaf_action link.config leaf) xs is

  done_few : (link : Link) (writing : Writing) (xs : List (ℕ × Action)) → done_by t value mask link writing ≡ Ok xs → length xs ≤ 1
  done_few link (Writes leaf) xs is =
      elim (contains mask leaf) as (λ b. cond b (put_to link (leaf_at leaf t value)) (Ok []) ≡ Ok xs → length xs ≤ 1) [
        | true ↦ put_few link (leaf_at leaf t value) xs
        | false ↦ λ e. omega (arith, ap length (all_of e))
      ] is
  done_few link Processes xs is = omega (arith, ap length (all_of is))

  also_few : (n : ℕ) (one rest : Result (List (ℕ × Action)) FieldAnswer) → ((ys : List (ℕ × Action)) → one ≡ Ok ys → length ys ≤ 1)
      → ((zs : List (ℕ × Action)) → rest ≡ Ok zs → length zs ≤ n) → (xs : List (ℕ × Action)) → also one rest ≡ Ok xs → length xs ≤ suc n
  also_few n (Err answer) rest first later xs e = absurd (cc)
  also_few n (Ok ys) (Err answer) first later xs e = absurd (cc)
  also_few n (Ok ys) (Ok zs) first later xs e = omega (arith, first ys refl, later zs refl, ap length (all_of e), length-append ys zs)

  pub actions_few : (ws : List Writer) (xs : List (ℕ × Action)) → done_by_all t value mask ws ≡ Ok xs → length xs ≤ length ws
  actions_few [] xs is = omega (arith, ap length (all_of is))
  actions_few (w ∷ ws) xs is =
      also_few (length ws) (done_by t value mask w.link w.writing) (done_by_all t value mask ws) (done_few w.link w.writing) (actions_few ws) xs is

-- ---- the whole put

module _ (g : GroupData) (value : Data) (mask : FinSet nat_cmp) where
  pub actions_are : (items : List (ℕ × Action)) → done_by_all (group_tree g) value mask (writers g) ≡ Ok items → (length items ≡ 0 → ⊥) → actions_for g value mask ≡ Ok items
  unfolding actions_for
  actions_are [] is some = absurd (some refl)
  actions_are (a ∷ items) is some = ap unless_none is

  pub none_writable : (items : List (ℕ × Action)) → done_by_all (group_tree g) value mask (writers g) ≡ Ok items → length items ≡ 0
      → Refuses (actions_for g value mask) (Refused NothingWritable)
  unfolding actions_for
  none_writable [] is none = ap unless_none is
  none_writable (a ∷ items) is none = absurd (omega arith)

  pub refused_as : (answer : FieldAnswer) → Refuses (done_by_all (group_tree g) value mask (writers g)) answer → Refuses (actions_for g value mask) answer
  unfolding actions_for
  refused_as (Refused r) is = ap unless_none is
  refused_as NoMemory is = tt
