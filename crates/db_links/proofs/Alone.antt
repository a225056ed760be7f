-- There is one way to do what is due.
use Rattle.std.proofs.Common.{◌≡◌, ℕ, List, [], ◌∷◌, ◌++◌, refl, sym, ap, ◌∙◌, subst}
use Rattle.rec_kinds.specs.declared.datum.Action.{Action}
use Rattle.db_links.specs.Chains.{Site, Scene, Step, Due, nothing, alone, whole, Does, nothing_due, one_step, in_order, marked, stepped, source_of, fetched, written_of, forward_of, processing, writing, DoesAll, all_done, one_more, opening, IsChain}
use Rattle.db_links.specs.Laws.{OneChain}

-- a list of steps and the scene after it
abbrev Way : Type 0
Way = List Step × Scene

pub one_way : (site : Site) (due : Due) (s : Scene) (xs : List Step) (e : Scene) → Does site due s xs e → (ys : List Step) (f : Scene) → Does site due s ys f → ◌≡◌ {A = Way} (xs, e) (ys, f)
one_way site nothing s _ _ nothing_due ys f d = from_nothing ys f d
  where
    from_nothing : (ys : List Step) (f : Scene) → Does site nothing s ys f → ◌≡◌ {A = Way} ([], s) (ys, f)
    from_nothing _ _ nothing_due = refl
one_way site (alone rec action) s _ _ one_step ys f d = from_one ys f d
  where
    from_one : (ys : List Step) (f : Scene) → Does site (alone rec action) s ys f → ◌≡◌ {A = Way} ((rec, action) ∷ [], stepped site rec action (marked rec s)) (ys, f)
    from_one _ _ one_step = refl
one_way site (whole rec action) s _ e (in_order {fed = fed} {out = out} {first = first} {next = next} {last = last} feeds writes forwards) ys f d =
    from_whole (one_way site _ _ first fed feeds) (one_way site _ _ next out writes) (one_way site _ _ last e forwards) ys f d
  where
    from_whole : ((zs : List Step) (t : Scene) → Does site (processing (source_of site rec action (marked rec s))) (marked rec s) zs t → ◌≡◌ {A = Way} (first, fed) (zs, t))
        → ((zs : List Step) (t : Scene) → Does site (writing (written_of site rec (stepped site rec (fetched site rec action fed) fed))) (stepped site rec (fetched site rec action fed) fed) zs t → ◌≡◌ {A = Way} (next, out) (zs, t))
        → ((zs : List Step) (t : Scene) → Does site (processing (forward_of site rec out)) out zs t → ◌≡◌ {A = Way} (last, e) (zs, t))
        → (ys : List Step) (f : Scene) → Does site (whole rec action) s ys f → ◌≡◌ {A = Way} (first ++ ((rec, fetched site rec action fed) ∷ (next ++ last)), e) (ys, f)
    from_whole p q r _ f (in_order {fed = g} {out = h} {first = a} {next = b} {last = c} x y z) =
        let pe : ◌≡◌ {A = Way} (first, fed) (a, g) = p a g x in
        let there : Does site (writing (written_of site rec (stepped site rec (fetched site rec action fed) fed))) (stepped site rec (fetched site rec action fed) fed) b h
        = subst (λ w. Does site (writing (written_of site rec (stepped site rec (fetched site rec action w) w))) (stepped site rec (fetched site rec action w) w) b h) (sym (ap (λ (w : Way). w.1) pe)) y in
        let qe : ◌≡◌ {A = Way} (next, out) (b, h) = q b h there in
        let on : Does site (processing (forward_of site rec out)) out c f = subst (λ w. Does site (processing (forward_of site rec w)) w c f) (sym (ap (λ (w : Way). w.1) qe)) z in
        let re : ◌≡◌ {A = Way} (last, e) (c, f) = r c f on in
        λ i. ((pe i).0 ++ ((rec, fetched site rec action (pe i).1) ∷ ((qe i).0 ++ (re i).0)), (re i).1)

all_one_way : (site : Site) (actions : List Step) (s : Scene) (xs : List Step) (e : Scene) → DoesAll site actions s xs e → (ys : List Step) (f : Scene) → DoesAll site actions s ys f → ◌≡◌ {A = Way} (xs, e) (ys, f)
all_one_way site [] s _ _ all_done ys f d = from_none ys f d
  where
    from_none : (ys : List Step) (f : Scene) → DoesAll site [] s ys f → ◌≡◌ {A = Way} ([], s) (ys, f)
    from_none _ _ all_done = refl
all_one_way site ((rec, action) ∷ actions) s _ e (one_more {next = next} {first = first} {others = others} does more) ys f d =
    from_more (one_way site (whole rec action) s first next does) (all_one_way site actions next others e more) ys f d
  where
    from_more : ((zs : List Step) (t : Scene) → Does site (whole rec action) s zs t → ◌≡◌ {A = Way} (first, next) (zs, t))
        → ((zs : List Step) (t : Scene) → DoesAll site actions next zs t → ◌≡◌ {A = Way} (others, e) (zs, t))
        → (ys : List Step) (f : Scene) → DoesAll site ((rec, action) ∷ actions) s ys f → ◌≡◌ {A = Way} (first ++ others, e) (ys, f)
    from_more p q _ f (one_more {next = t} {first = a} {others = b} x y) =
        let pe : ◌≡◌ {A = Way} (first, next) (a, t) = p a t x in
        let there : DoesAll site actions next b f = subst (λ w. DoesAll site actions w b f) (sym (ap (λ (w : Way). w.1) pe)) y in
        let qe : ◌≡◌ {A = Way} (others, e) (b, f) = q b f there in
        λ i. ((pe i).0 ++ (qe i).0, (qe i).1)

pub one_chain : OneChain
one_chain site states actions steps others a b = ap (λ (w : Way). w.0) (all_one_way site actions (opening states actions) steps a.end a.does others b.end b.does)
