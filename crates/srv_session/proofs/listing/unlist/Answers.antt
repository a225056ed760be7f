use Rattle.std.proofs.Common.{◌≡◌, ℕ, Bool, true, false, List, sym, ◌∙◌, ap}
use Rattle.std.specs.List.{remove, prefix_len}
use Rattle.std.specs.Prelude.{nat_lt}
use Rattle.srv_session.specs.Rising.{is_at}
use Rattle.srv_session.proofs.Rising.{goes_out, stays_out}
use Rattle.srv_session.proofs.listing.unlist.Goals as goal

pub returns-then-is_at : goal.returns-then-is_at
returns-then-is_at c =
    let id = c.args.id in
    let ids = c.args.ids.now.items in
    let place : c.place_of-place.result ≡ prefix_len (λ x. nat_lt x id) ids = c.place_of-place.ensures ∙ ap (λ (l : List ℕ). prefix_len (λ x. nat_lt x id) l) c.deref.ensures.value in
    c.remove.ensures.items
    ∙ ap (λ (n : ℕ). remove ids n) place
    ∙ goes_out id ids c.requires
    (ap (λ (n : ℕ). is_at id n ids) (sym place) ∙ ap (λ (l : List ℕ). is_at id c.place_of-place.result l) (sym c.deref-2.ensures.value) ∙ sym c.is_at.ensures ∙ c.if-is_at.true)

pub returns-else-is_at : goal.returns-else-is_at
returns-else-is_at c =
    let id = c.args.id in
    let ids = c.args.ids.now.items in
    let place : c.place_of-place.result ≡ prefix_len (λ x. nat_lt x id) ids = c.place_of-place.ensures ∙ ap (λ (l : List ℕ). prefix_len (λ x. nat_lt x id) l) c.deref.ensures.value in
    stays_out id ids c.requires
    (ap (λ (n : ℕ). is_at id n ids) (sym place) ∙ ap (λ (l : List ℕ). is_at id c.place_of-place.result l) (sym c.deref-2.ensures.value) ∙ sym c.is_at.ensures ∙ c.if-is_at.false)
