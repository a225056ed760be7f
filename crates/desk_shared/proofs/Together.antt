-- What a put-get comes to on a desk on a pass.
use Rattle.std.proofs.Common.{◌≡◌, ℕ, suc, ℤ, Bool, true, false, List, [], ◌∷◌, ◌++◌, length, take, Option, None, Some, Ok, Err, Result, inl, inr, refl, sym, ◌∙◌, ap, subst, arith, option_map, length-append}
use Rattle.std.specs.List.{slice_get, AllByRecursion}
use Rattle.std.specs.Option.{IfSome}
use Rattle.std.specs.FinSet.{FinSet}
use Rattle.std.specs.Ordering.{nat_cmp}
use Rattle.std.proofs.Math.Seq.{take-length}
use Rattle.std.proofs.lemmas.Bool.{false≢true}
use Rattle.pvd_type.specs.declared.memory.NoMemory as pvd
use Rattle.pvd_value.specs.Data.{Data}
use Rattle.pvd_value.specs.View.{view}
use Rattle.pvd_value.specs.declared.value.PvValue.{PvValue}
use Rattle.rec_kinds.specs.declared.datum.Action.{Action}
use Rattle.rec_kinds.specs.declared.put.PutRefusal.TheVariants.{NothingWritable}
use Rattle.rec_kinds.specs.declared.state.RecState.{RecState}
use Rattle.rec_fields.specs.declared.puts.FieldAnswer.{FieldAnswer}
use Rattle.rec_fields.specs.declared.puts.FieldAnswer.TheVariants.{Refused}
use Rattle.group_view.specs.Groups.{GroupData}
use Rattle.group_view.specs.Leaves.{records_of}
use Rattle.group_view.specs.Links.{Link}
use Rattle.group_view.specs.Puts as group
use Rattle.group_view.specs.Types.{group_tree}
use Rattle.group_view.specs.declared.writer.Writing.{Writing}
use Rattle.group_view.proofs.Depending.{at, unfiltered, unrising}
use Rattle.group_view.proofs.Keeping.{each_writer}
use Rattle.group_view.proofs.Putting.{none_writable}
use Rattle.journal_core.specs.Moments.{Moment}
use Rattle.desk_api.specs.Calls.{AreAdded, AreGet, AreLooks, ArePut, ArePutGet, ArePutGetBy, Asked, Calls, EndsAtItsMarks, asked_actions, asked_entries, entries_of_actions, entries_or_none, looks_by}
use Rattle.desk_api.specs.Puts.{actions_for, to_group}
use Rattle.desk_api.specs.Sites.{footprint_for, footprint_of, is_atomic, is_atomic_for, records_in}
use Rattle.desk_api.specs.Views.{laid, value_of}
use Rattle.desk_api.specs.declared.channel.Channel.{Channel}
use Rattle.desk_api.specs.declared.channel.ChannelKind.{ChannelKind}
use Rattle.desk_api.specs.declared.channel.ChannelKind.TheVariants.{Rec, Desc, Group, Service}
use Rattle.desk_api.specs.declared.history.SiteData.{SiteData}
use Rattle.desk_api.specs.declared.mark.Mark.{Mark}
use Rattle.desk_api.specs.declared.mark.Seat.{Seat}
use Rattle.desk_api.specs.declared.put.Done.{Done}
use Rattle.desk_api.specs.declared.put.PutAnswer.{PutAnswer}
use Rattle.desk_api.specs.declared.put.PutAnswer.TheVariants as answers
use Rattle.desk_api.proofs.Adding.{adds_more}
use Rattle.desk_shared.specs.Entries.{AreEntry, ArePutGot, IsEntered}

-- ---- as one entry

module _ (site : SiteData) (channel : Channel) (moment : Moment) (actions : List (ℕ × Action)) (found : List RecState) (s t : Seat) where
  pub shown_put : (at : ℕ) (done : Done) (value : PvValue) → done ≡ record { first = at; count = 1 } → view value ≡ value_of site channel (laid site.opening (footprint_of site channel) found)
      → Calls s t (AreEntry site moment actions (footprint_of site channel) found 0 (Ok at)) → Calls s t (ArePutGot site channel moment actions (Ok (done, value)))
  shown_put at done value is shown c = record {
    marks = c.marks;
    adds = c.adds;
    named = record {
      found = found;
      entered = subst (λ (n : ℕ). IsEntered site moment actions (footprint_of site channel) found n c.marks) (sym (ap (λ (d : Done). d.first) is)) c.named;
      count_is = ap (λ (d : Done). d.count) is;
      value_is = shown;
    };
  }

  pub shown_not : (answer : PutAnswer) → Calls s t (AreEntry site moment actions (footprint_of site channel) found 0 (Err answer)) → Calls s t (ArePutGot site channel moment actions (Err answer))
  shown_not (answers.Refused refusal) c = absurd c.named
  shown_not (answers.JournalFull kept_ weight_ limit_ done) c = record { marks = c.marks; adds = c.adds; named = c.named }
  shown_not (answers.NoMemory done) c = record { marks = c.marks; adds = c.adds; named = c.named }

-- what a put-get is for every desk
module _ (a : Asked) (actions : List (ℕ × Action)) (asked : asked_actions a ≡ Ok actions) (whole : is_atomic a.site a.channel a.atomic ≡ true) where
  at_once : (r : Result (Done × PvValue) PutAnswer) (marks : List Mark) → ArePutGot a.site a.channel a.moment actions r marks → ArePutGetBy true a r marks
  at_once (Ok (done, value)) marks p = record {
    actions = actions;
    asked = asked;
    at = done.first;
    entry = p.entered.entry;
    found = p.found;
    marks_are = p.entered.marks_are;
    actions_are = p.entered.held.actions_are;
    footprint_is = p.entered.held.footprint_is;
    moment_is = p.entered.held.moment_is;
    done_is = λ i. record { first = done.first; count = p.count_is i };
    value_is = p.value_is;
  }
  at_once (Err (answers.Refused refusal)) marks p = absurd p
  at_once (Err (answers.JournalFull kept_ weight_ limit_ done)) marks p = record { actions = actions; asked = asked; at = p.0.at; marks_are = p.0.marks_are; done_is = p.1 }
  at_once (Err (answers.NoMemory done)) marks p = record { marks_are = p.0; done_is = p.1 }

  pub at_once_called : (s t : Seat) (r : Result (Done × PvValue) PutAnswer) → Calls s t (ArePutGot a.site a.channel a.moment actions r) → Calls s t (ArePutGet a r)
  at_once_called s t r c = record {
    marks = c.marks;
    adds = c.adds;
    named = subst (λ (w : Bool). ArePutGetBy w a r c.marks) (sym whole) (at_once r c.marks c.named);
  }

-- ---- a channel of no records takes no put

unlinked : (n : ℕ) (order : Option ℤ) (link : Option Link) (writing : Option Writing) → IfSome (option_map (λ l. l.rec) link) (λ (rec : ℕ). ⊥) → IfSome (group.placed_by n order link writing) (λ w. ⊥)
unlinked n (Some order) (Some l) (Some writing) h = h
unlinked n None link writing h = tt
unlinked n (Some order) None writing h = tt
unlinked n (Some order) (Some l) None h = tt

none_of : {A : Type 0} (xs : List A) → AllByRecursion (λ x. ⊥) xs → xs ≡ []
none_of [] all = refl
none_of (x ∷ xs) all = absurd all.0

group_refuses : (g : GroupData) (value : Data) (mask : FinSet nat_cmp) → records_of g.members ≡ [] → group.actions_for g value mask ≡ Err (Refused NothingWritable)
group_refuses g value mask none =
    let linked = unfiltered (λ (rec : ℕ). ⊥) (λ m. option_map (λ l. l.rec) m.link) g.members (unrising (λ (rec : ℕ). ⊥) _ (subst (AllByRecursion (λ (rec : ℕ). ⊥)) (sym none) tt)) in
    let writers_are : group.writers g ≡ [] =
    none_of (group.writers g) (each_writer (λ w. ⊥) g (λ n m is. unlinked n m.def.order m.link _ (at (λ m. IfSome (option_map (λ l. l.rec) m.link) (λ (rec : ℕ). ⊥)) g.members n m linked is))) in
    none_writable g value mask [] (ap (group.done_by_all (group_tree g) value mask) writers_are) refl

refuses : (mask : FinSet nat_cmp) (value : Data) (o : Option GroupData) (actions : List (ℕ × Action)) → records_in o ≡ [] → to_group mask value o ≡ Ok actions → ⊥
refuses mask value None actions none is = absurd (cc)
refuses mask value (Some g) actions none is = let no = group_refuses g value mask none in absurd (cc)

reads_some : (kind : ChannelKind) (site : SiteData) (number : ℕ) (atomic : Option Bool) (mask : FinSet nat_cmp) (value : Data) (actions : List (ℕ × Action)) → is_atomic_for kind site number atomic ≡ false → footprint_for kind site number ≡ []
    → actions_for kind site number mask value ≡ Ok actions → ⊥
reads_some Rec site number atomic mask value actions apart none is = false≢true (sym apart)
reads_some Desc site number atomic mask value actions apart none is = false≢true (sym apart)
reads_some Service site number atomic mask value actions apart none is = false≢true (sym apart)
reads_some Group site number atomic mask value actions apart none is = refuses mask value (slice_get site.groups number) actions none is

-- ---- one after the other

no_marks : (log marks : List Mark) → log ++ marks ≡ log → marks ≡ []
no_marks log [] same = refl
no_marks log (m ∷ marks) same = absurd (omega (arith, ap length same, length-append log (m ∷ marks)))

no_looks : (channel : Channel) (recs : List ℕ) (marks : List Mark) → marks ≡ [] → AreLooks channel (looks_by false recs) marks → recs ≡ []
no_looks channel [] marks none looks = refl
no_looks channel (rec ∷ recs) [] none looks = absurd looks
no_looks channel (rec ∷ recs) (m ∷ marks) none looks = absurd (omega (arith, ap length none))

no_entries : (atomic : Bool) (r : Result (List (ℕ × Action)) FieldAnswer) (entries : List (List (ℕ × Action))) → entries_of_actions atomic r ≡ Ok entries → ((actions : List (ℕ × Action)) → r ≡ Ok actions → ⊥) → ⊥
no_entries atomic (Ok actions) entries is not = not actions refl
no_entries atomic (Err answer) entries is not = absurd (cc)

many_added : (a : Asked) (asked : List (List (ℕ × Action))) (marks : List Mark) → AreAdded a asked marks → length marks ≡ length asked
many_added a [] [] added = refl
many_added a [] (m ∷ marks) added = absurd added
many_added a (actions ∷ asked) [] added = absurd added
many_added a (actions ∷ asked) (m ∷ marks) added = ap suc (many_added a asked marks added.1)

module _ (a : Asked) (apart : is_atomic a.site a.channel a.atomic ≡ false) (s m t : Seat) (done : Done) (put : Calls s m (ArePut a (Ok done))) where
  -- the get was done too
  module _ (value : PvValue) (get : Calls m t (AreGet a.site a.channel a.atomic (Ok value))) where
    pub both_called : Calls s t (ArePutGet a (Ok (done, value)))
    both_called = record {
      marks = put.marks ++ get.marks;
      adds = adds_more put.adds get.adds;
      named = subst (λ (w : Bool). ArePutGetBy w a (Ok (done, value)) (put.marks ++ get.marks)) (sym apart)
          (record { puts = put.marks; gets = get.marks; marks_are = refl; put = put.named; got = get.named });
    }

    looked : t.log ≡ m.log → ⊥
    looked still =
        let none : get.marks ≡ [] = no_marks m.log get.marks (sym get.adds.log ∙ still) in
        let recs_are : footprint_of a.site a.channel ≡ [] =
        no_looks a.channel (footprint_of a.site a.channel) get.marks none (subst (λ (w : Bool). AreLooks a.channel (looks_by w (footprint_of a.site a.channel)) get.marks) apart get.named.looks) in
        no_entries (is_atomic a.site a.channel a.atomic) (asked_actions a) put.named.entries put.named.asked
        (λ actions is. reads_some a.channel.kind a.site a.channel.number a.atomic a.mask a.value actions apart recs_are is)

    pub both_end : EndsAtItsMarks m t → EndsAtItsMarks s t
    both_end (inr end) = inr end
    both_end (inl still) = absurd (looked still)

  -- for the get memory ran out
  module _ (e : pvd.NoMemory) (get : Calls m t (AreGet a.site a.channel a.atomic (Err e))) where
    pub stopped_called : Calls s t (ArePutGet a (Err (answers.NoMemory done.count)))
    stopped_called = record {
      marks = put.marks ++ get.marks;
      adds = adds_more put.adds get.adds;
      named = subst (λ (w : Bool). ArePutGetBy w a (Err (answers.NoMemory done.count)) (put.marks ++ get.marks)) (sym apart) (record {
        puts = put.marks;
        gets = get.marks;
        marks_are = refl;
        put = record {
          added = subst (λ (l : List (List (ℕ × Action))). AreAdded a l put.marks) (sym all_asked) put.named.added;
          done_is = put.named.count_is;
        };
        got = get.named;
        behind = inr (put.named.entries, (put.named.asked, put.named.count_is ∙ many));
      });
    } where
      asked_are : entries_or_none (asked_entries a) ≡ put.named.entries
      asked_are = ap entries_or_none put.named.asked

      many : length put.marks ≡ length put.named.entries
      many = many_added a put.named.entries put.marks put.named.added

      all_asked : take done.count (entries_or_none (asked_entries a)) ≡ put.named.entries
      all_asked = ap (take done.count) asked_are ∙ ap (λ (n : ℕ). take n put.named.entries) (put.named.count_is ∙ many) ∙ take-length put.named.entries
