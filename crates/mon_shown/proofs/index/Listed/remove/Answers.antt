use Rattle.std.proofs.Common.{rules, ◌∙◌, ℕ, List, ap, not, eqb}
use Rattle.std.proofs.lemmas.Fn.{filter_same}
use Rattle.mon_shown.specs.Channels.{is_one_of}
use Rattle.mon_shown.proofs.Listing.{one_fewer}
use Rattle.mon_shown.proofs.index.Listed.remove.Goals as goal

pub returns : goal.returns
returns c = λ s.
    ap (λ (l : List ℕ). is_one_of l s) (filter_same _ (λ j. not (eqb j c.args.slot)) _ (λ x b f' k. search rules) _ _ c.retain.ensures.filtered)
    ∙ one_fewer c.args.self.now.slots.items c.args.slot s
