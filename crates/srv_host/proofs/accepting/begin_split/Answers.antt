use Rattle.std.proofs.Common.{◌≡◌, ◌∷◌, ◌++◌, [], List, refl, sym, ap, ◌∙◌, rules}
use Rattle.srv_host.proofs.accepting.begin_split.Goals as goal

pub returns-in_default-clause-own : goal.returns-in_default-clause-own
returns-in_default-clause-own g c = refl

pub returns-in_default-clause-kept : goal.returns-in_default-clause-kept
returns-in_default-clause-kept g c = refl

pub returns-in_default-clause-none : goal.returns-in_default-clause-none
returns-in_default-clause-none g c = c.try_reserve.ensures.items

pub split-requires : goal.split-requires
split-requires g c = record { own = c.requires.own }

pub returns-in_default-split-clause-own : goal.returns-in_default-split-clause-own
returns-in_default-split-clause-own g c = c.split.ensures.own

pub returns-in_default-split-clause-kept : goal.returns-in_default-split-clause-kept
returns-in_default-split-clause-kept g c = c.split.ensures.kept

pub returns-in_default-split-clause-none : goal.returns-in_default-split-clause-none
returns-in_default-split-clause-none g c = c.try_reserve.ensures.items

pub begin-requires-clause-hall : goal.begin-requires-clause-hall
begin-requires-clause-hall g c κs within = refl

pub begin-requires-clause-site : goal.begin-requires-clause-site
begin-requires-clause-site g c κs within = sym (ap (λ h. h.base.site) c.in-Ok-split.ensures.seen ∙ c.requires.site)

pub begin-requires-clause-count : goal.begin-requires-clause-count
begin-requires-clause-count g c κs within = c.requires.count

pub begin-requires-clause-own : goal.begin-requires-clause-own
begin-requires-clause-own g c κs within = c.in-Ok-split.ensures.new_own ∙ c.requires.own

pub begin-requires-clause-base : goal.begin-requires-clause-base
begin-requires-clause-base g c κs within = refl

pub begin-requires-clause-log : goal.begin-requires-clause-log
begin-requires-clause-log g c κs within = c.in-Ok-split.ensures.log.0

pub begin-requires-clause-others : goal.begin-requires-clause-others
begin-requires-clause-others g c κs within = c.in-Ok-split.ensures.log.1

pub begin-requires-clause-none : goal.begin-requires-clause-none
begin-requires-clause-none g c κs within = refl

pub returns-in_default-begin-clause-own : goal.returns-in_default-begin-clause-own
returns-in_default-begin-clause-own g c = c.split.ensures.own

pub returns-in_default-begin-clause-kept : goal.returns-in_default-begin-clause-kept
returns-in_default-begin-clause-kept g c = c.split.ensures.kept

pub returns-in_default-begin-clause-none : goal.returns-in_default-begin-clause-none
returns-in_default-begin-clause-none g c = c.try_reserve.ensures.items

pub push_reserved-requires : goal.push_reserved-requires
push_reserved-requires g c = search rules

pub returns-clause-own : goal.returns-clause-own
returns-clause-own g c = c.split.ensures.own

pub returns-clause-kept : goal.returns-clause-kept
returns-clause-kept g c = c.split.ensures.kept

pub returns-clause-begun : goal.returns-clause-begun
returns-clause-begun g c = record {
  session = c.in-Ok-begin.begun;
  after_is = c.push_reserved.ensures.items ∙ ap (λ l. l ++ c.in-Ok-begin.begun ∷ []) c.try_reserve.ensures.items;
  begun = rw c.in-Ok-split.ensures.seen at c.in-Ok-begin.ensures.begun;
  link_is = c.in-Ok-begin.ensures.link;
}
