-- What is left to do of a chain, and that doing a part of it loses none of the rest.
use Rattle.std.proofs.Common.{◌≡◌, ℕ, Bool, true, false, cond, Option, None, Some, List, [], ◌∷◌, ◌++◌, refl, sym, ap, ◌∙◌, subst}
use Rattle.std.proofs.lemmas.List.{append_assoc, append-nil}
use Rattle.rec_kinds.specs.declared.datum.Action.{Action}
use Rattle.rec_kinds.specs.declared.datum.Action.TheVariants.{Put, Process}
use Rattle.rec_kinds.specs.declared.datum.Datum.{Datum}
use Rattle.rec_kinds.specs.declared.state.RecState.{RecState}
use Rattle.db_links.specs.Chains.{Site, Scene, Step, Does, nothing_due, one_step, in_order, IsChain, opening, DoesAll, all_done, one_more, whole, alone, marked, stepped, source_of, fetched, written_of, forward_of, processing, writing}
use Rattle.db_links.specs.Courses.{Stage, with_task, with_mark, with_step, begun, asked, wrote, after_step, turned}
use Rattle.db_links.specs.Leading.{Ends, Begins, Means, Rest, Later, Leads, Took, Goes}
use Rattle.db_links.specs.declared.course.Task.{Task}
use Rattle.db_links.specs.declared.course.Task.TheVariants.{Fetch, MakeStep, Forward}
use Rattle.db_links.specs.declared.link.Link.{Link}

-- some steps, and then what is left
abbrev pub Then : (Scene → List Step → Scene → Type 0) → Site → List Task → Scene → List Step → Scene → Type 0
Then P site ts s xs e = (mid : Scene) × (ys : List Step) × (zs : List Step) × P s ys mid × Rest site ts mid zs e × (xs ≡ ys ++ zs)

pub whole_of : (site : Site) (rec : ℕ) (action : Action) (s : Scene) (xs : List Step) (e : Scene) → Begins site rec action (marked rec s) xs e → Does site (whole rec action) s xs e
whole_of site rec action s xs e b =
    subst (λ ys. Does site (whole rec action) s ys e) (sym (b.made ∙ ap (λ ys. b.first ++ ys) b.ends.made)) (in_order b.asks b.ends.writes b.ends.forwards)

pub top_first : (site : Site) (ts : List Task) (t : Task) (s : Scene) (xs : List Step) (e : Scene) → Rest site (ts ++ t ∷ []) s xs e → Then (Means site t) site ts s xs e
top_first site [] t s xs e (mid, ys, zs, none, means, is) =
    (e, zs, [], subst (λ m. Means site t m zs e) (sym none.1) means, (refl, refl), is ∙ ap (λ l. l ++ zs) none.0 ∙ sym (append-nil zs))
top_first site (u ∷ us) t s xs e (mid, ys, zs, rest, means, is) =
    go (top_first site us t s ys mid rest)
  where
    go : Then (Means site t) site us s ys mid → Then (Means site t) site (u ∷ us) s xs e
    go (m, ps, qs, top, others, made) = (m, ps, qs ++ zs, top, (mid, qs, zs, others, means, refl), is ∙ ap (λ l. l ++ zs) made ∙ append_assoc ps qs zs)

pub on_top : (site : Site) (ts : List Task) (t : Task) (s mid : Scene) (ys zs : List Step) (e : Scene) → Means site t s ys mid → Rest site ts mid zs e → Rest site (ts ++ t ∷ []) s (ys ++ zs) e
on_top site [] t s mid ys zs e top rest =
    (s, [], ys, (refl, refl), subst (λ m. Means site t s ys m) rest.1 top, ap (λ l. ys ++ l) rest.0 ∙ append-nil ys)
on_top site (u ∷ us) t s mid ys zs e top (m, ps, qs, others, means, is) =
    (m, ys ++ ps, qs, on_top site us t s mid ys ps m top others, means, ap (λ l. ys ++ l) is ∙ sym (append_assoc ys ps qs))

-- ---- what one stage leaves to do, and another

pub leads_self : (site : Site) (a : Stage) → Leads site a a
leads_self site a xs e rest = record { more = xs; rest = rest; made = refl }

pub leads_on : (site : Site) (a b c : Stage) → Leads site a b → Leads site b c → Leads site a c
leads_on site a b c first second xs e rest =
    let l = second xs e rest in let k = first l.more e l.rest in record { more = k.more; rest = k.rest; made = k.made ∙ l.made }

asked_leads : (site : Site) (o : Option ℕ) (st : Stage) (xs : List Step) (e : Scene) → Rest site (asked o st).tasks (asked o st).scene xs e
    → Then (Does site (processing o)) site st.tasks st.scene xs e
asked_leads site None st xs e rest = (st.scene, [], xs, nothing_due, rest, refl)
asked_leads site (Some q) st xs e rest = go (top_first site st.tasks (Fetch q Process) (marked q st.scene) xs e rest)
  where
    go : Then (Begins site q Process) site st.tasks (marked q st.scene) xs e → Then (Does site (whole q Process)) site st.tasks st.scene xs e
    go (mid, ys, zs, begins, others, is) = (mid, ys, zs, whole_of site q Process st.scene ys mid begins, others, is)

asked_steps : (o : Option ℕ) (st : Stage) → (asked o st).steps ≡ st.steps
asked_steps None st = refl
asked_steps (Some q) st = refl

-- the same, where a step may have been made
abbrev Wrote : Site → Option (Link × Datum) → Stage → List Step → Scene → Type 0
Wrote site o st steps e =
    (mid : Scene) × (ys : List Step) × (zs : List Step) × Does site (writing o) st.scene ys mid × Rest site st.tasks mid zs e × (steps ≡ st.steps ++ (ys ++ zs))

abbrev written_if : Bool → Site → ℕ → Action → Stage → Stage
written_if b site target action st = cond b (begun target action st) (with_step site target action (with_mark target st))

written_leads : (b : Bool) (site : Site) (target : ℕ) (action : Action) (st : Stage) (xs : List Step) (e : Scene)
    → Rest site (written_if b site target action st).tasks (written_if b site target action st).scene xs e
    → (mid : Scene) × (ys : List Step) × (zs : List Step) × Does site (cond b (whole target action) (alone target action)) st.scene ys mid × Rest site st.tasks mid zs e
    × ((written_if b site target action st).steps ++ xs ≡ st.steps ++ (ys ++ zs))
written_leads true site target action st xs e rest = go (top_first site st.tasks (Fetch target action) (marked target st.scene) xs e rest)
  where
    go : Then (Begins site target action) site st.tasks (marked target st.scene) xs e
        → (mid : Scene) × (ys : List Step) × (zs : List Step) × Does site (whole target action) st.scene ys mid × Rest site st.tasks mid zs e × (st.steps ++ xs ≡ st.steps ++ (ys ++ zs))
    go (mid, ys, zs, begins, others, is) = (mid, ys, zs, whole_of site target action st.scene ys mid begins, others, ap (λ l. st.steps ++ l) is)
written_leads false site target action st xs e rest =
    (stepped site target action (marked target st.scene), (target, action) ∷ [], xs, one_step, rest, append_assoc st.steps ((target, action) ∷ []) xs)

wrote_leads : (site : Site) (o : Option (Link × Datum)) (st : Stage) (xs : List Step) (e : Scene) → Rest site (wrote site o st).tasks (wrote site o st).scene xs e
    → Wrote site o st ((wrote site o st).steps ++ xs) e
wrote_leads site None st xs e rest = (st.scene, [], xs, nothing_due, rest, refl)
wrote_leads site (Some w) st xs e rest = written_leads w.0.processes site w.0.target (Put w.1) st xs e rest

pub turned_leads : (site : Site) (t : Task) (st : Stage) → Leads site (with_task t st) (turned site t st)
turned_leads site (Fetch rec action) st xs e rest =
    let o = source_of site rec action st.scene in
    let next = with_task (MakeStep rec action) st in
    fed (asked_leads site o next xs e rest)
  where
    fed : Then (Does site (processing (source_of site rec action st.scene))) site (st.tasks ++ MakeStep rec action ∷ []) st.scene xs e
        → Later site (with_task (Fetch rec action) st) ((turned site (Fetch rec action) st).steps ++ xs) e
    fed (mid, ys, zs, asks, others, is) = done (top_first site st.tasks (MakeStep rec action) mid zs e others)
      where
        done : Then (Ends site rec (fetched site rec action mid)) site st.tasks mid zs e → Later site (with_task (Fetch rec action) st) ((turned site (Fetch rec action) st).steps ++ xs) e
        done (m, ps, qs, ends, left, made) = record {
          more = (ys ++ ps) ++ qs;
          rest = on_top site st.tasks (Fetch rec action) st.scene m (ys ++ ps) qs e (record { fed = mid; first = ys; rest = ps; asks = asks; ends = ends; made = refl }) left;
          made = ap (λ l. st.steps ++ l) (append_assoc ys ps qs ∙ ap (λ l. ys ++ l) (sym made) ∙ sym is)
              ∙ ap (λ l. l ++ xs) (sym (asked_steps (source_of site rec action st.scene) (with_task (MakeStep rec action) st)));
        }
turned_leads site (MakeStep rec action) st xs e rest =
    wrote_it (wrote_leads site (written_of site rec next.scene) next xs e rest)
  where
    act : Action
    act = fetched site rec action st.scene

    next : Stage
    next = after_step site rec act st

    wrote_it : Wrote site (written_of site rec next.scene) next ((turned site (MakeStep rec action) st).steps ++ xs) e
        → Later site (with_task (MakeStep rec action) st) ((turned site (MakeStep rec action) st).steps ++ xs) e
    wrote_it (mid, ys, zs, writes, others, is) = done (top_first site st.tasks (Forward rec) mid zs e others)
      where
        done : Then (Does site (processing (forward_of site rec mid))) site st.tasks mid zs e → Later site (with_task (MakeStep rec action) st) ((turned site (MakeStep rec action) st).steps ++ xs) e
        done (m, ps, qs, forwards, left, made) = record {
          more = ((rec, act) ∷ (ys ++ ps)) ++ qs;
          rest = on_top site st.tasks (MakeStep rec action) st.scene m ((rec, act) ∷ (ys ++ ps)) qs e (record { out = mid; next = ys; last = ps; writes = writes; forwards = forwards; made = refl }) left;
          made = ap (λ l. st.steps ++ (rec, act) ∷ l) (append_assoc ys ps qs ∙ ap (λ l. ys ++ l) (sym made))
              ∙ sym (append_assoc st.steps ((rec, act) ∷ []) (ys ++ zs)) ∙ sym is;
        }
turned_leads site (Forward rec) st xs e rest = go (asked_leads site (forward_of site rec st.scene) st xs e rest)
  where
    go : Then (Does site (processing (forward_of site rec st.scene))) site st.tasks st.scene xs e → Later site (with_task (Forward rec) st) ((turned site (Forward rec) st).steps ++ xs) e
    go (mid, ys, zs, forwards, others, is) = record {
      more = ys ++ zs;
      rest = on_top site st.tasks (Forward rec) st.scene mid ys zs e forwards others;
      made = ap (λ l. st.steps ++ l) (sym is) ∙ ap (λ l. l ++ xs) (sym (asked_steps (forward_of site rec st.scene) st));
    }

-- a root's action, from the stage in which nothing is left to that in which nothing is again
pub root_done : (site : Site) (rec : ℕ) (action : Action) (a b : Stage) → a.tasks ≡ [] → b.tasks ≡ [] → Leads site (begun rec action a) b
    → (xs : List Step) × Does site (whole rec action) a.scene xs b.scene × (b.steps ≡ a.steps ++ xs)
root_done site rec action a b none clear leads =
    go (leads [] b.scene (subst (λ ts. Rest site ts b.scene [] b.scene) (sym clear) (refl, refl)))
  where
    go : Later site (begun rec action a) (b.steps ++ []) b.scene → (xs : List Step) × Does site (whole rec action) a.scene xs b.scene × (b.steps ≡ a.steps ++ xs)
    go l = took (top_first site [] (Fetch rec action) (marked rec a.scene) l.more b.scene (subst (λ ts. Rest site (ts ++ Fetch rec action ∷ []) (marked rec a.scene) l.more b.scene) none l.rest))
      where
        took : Then (Begins site rec action) site [] (marked rec a.scene) l.more b.scene → (xs : List Step) × Does site (whole rec action) a.scene xs b.scene × (b.steps ≡ a.steps ++ xs)
        took (mid, ys, zs, begins, left, is) = (
          ys,
          subst (λ m. Does site (whole rec action) a.scene ys m) left.1 (whole_of site rec action a.scene ys mid begins),
          sym (append-nil b.steps) ∙ sym l.made ∙ ap (λ x. a.steps ++ x) (is ∙ ap (λ x. ys ++ x) left.0 ∙ append-nil ys),
        )

-- one action more is done
pub took_more : (site : Site) (all rest others : List Step) (step : Step) (a now next : Stage) → rest ≡ step ∷ others
    → ((ys : List Step) (e : Scene) → DoesAll site rest now.scene ys e → Took site all a (now.steps ++ ys) e)
    → Goes site step now next → (ys : List Step) (e : Scene) → DoesAll site others next.scene ys e → Took site all a (next.steps ++ ys) e
took_more site all rest others step a now next is so_far goes ys e does =
    subst (λ l. Took site all a l e) (sym (append_assoc now.steps goes.more ys) ∙ ap (λ l. l ++ ys) (sym goes.made))
    (so_far (goes.more ++ ys) e (subst (λ l. DoesAll site l now.scene (goes.more ++ ys) e) (sym is) (one_more goes.does does)))

pub took_all : (site : Site) (all rest : List Step) (a now : Stage) → rest ≡ []
    → ((ys : List Step) (e : Scene) → DoesAll site rest now.scene ys e → Took site all a (now.steps ++ ys) e) → Took site all a now.steps now.scene
took_all site all rest a now is so_far =
    subst (λ l. Took site all a l now.scene) (append-nil now.steps) (so_far [] now.scene (subst (λ l. DoesAll site l now.scene [] now.scene) (sym is) all_done))

pub chain_of : (site : Site) (states : List RecState) (actions steps : List Step) (a : Stage) (e : Scene) → a.scene ≡ opening states actions → a.steps ≡ [] → Took site actions a steps e → IsChain site states actions steps
chain_of site states actions steps a e is none took = record {
  end = e;
  does = subst (λ s. DoesAll site actions s steps e) is (subst (λ l. DoesAll site actions a.scene l e) (ap (λ l. l ++ took.more) (sym none) ∙ took.made) took.does);
}
