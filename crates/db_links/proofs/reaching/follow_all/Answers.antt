use Rattle.std.proofs.Common.{◌≡◌, ◌∙◌, ◌+◌, ◌++◌, ◌∷◌, [], length, length-append, refl, ap, subst, arith, rules}
use Rattle.std.specs.BTreeSet.{btree_set_len}
use Rattle.std.specs.List.{slice_get}
use Rattle.db_links.specs.Live.{any_names}
use Rattle.db_links.specs.Walks.{Grows, IsWalk}
use Rattle.db_links.proofs.Walking.{walk_goes_on, few_keys, smaller}
use Rattle.db_links.proofs.reaching.follow_all.Goals as goal

grown : (c : goal.In_ok-follow) → Grows (any_names (slice_get c.args.links.now c.in-Some.next)) c.loop-next.walk.reached c.pop.new.self.items c.follow.new.walk.reached c.follow.new.walk.left.items
grown c =
    subst (λ l. Grows (any_names l) c.loop-next.walk.reached c.pop.new.self.items c.follow.new.walk.reached c.follow.new.walk.left.items) c.links_at.ensures c.in_ok-follow.ensures

popped : (c : goal.In_ok-follow) → c.loop-next.walk.left.items ≡ c.pop.new.self.items ++ c.in-Some.next ∷ []
popped c = search rules

walked : (c : goal.In_ok-follow) → IsWalk c.args.links.now c.args.from c.follow.new.walk.reached c.follow.new.walk.left.items
walked c =
    let old = c.loop-next.walk in
    walk_goes_on c.args.links.now c.args.from c.in-Some.next old.reached c.follow.new.walk.reached c.pop.new.self.items c.follow.new.walk.left.items c.requires.inside
    (subst (IsWalk c.args.links.now c.args.from old.reached) (popped c) c.loop-next.invariant) (grown c)

pub loop-next-smaller : goal.loop-next-smaller
loop-next-smaller c =
    let n = length c.args.links.now in
    let old = c.loop-next.walk in
    let new = c.follow.new.walk in
    let longer : length old.left.items ≡ length c.pop.new.self.items + 1 = ap length (popped c) ∙ simp length-append refl in
    let less = smaller n (btree_set_len new.reached) (btree_set_len old.reached) (length c.pop.new.self.items) (length new.left.items) (grown c).count (grown c).grows
    (few_keys n old.reached c.loop-next.invariant.ordered c.loop-next.invariant.inside) (few_keys n new.reached (walked c).ordered (walked c).inside) in
    omega (arith, less, longer)

pub loop-next-preserved : goal.loop-next-preserved
loop-next-preserved c = walked c
