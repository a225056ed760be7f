use Rattle.std.proofs.Common.{◌≡◌, ℕ, Bool, true, false, List, arith, sym, ◌∙◌, ap}
use Rattle.std.specs.List.{insert, prefix_len}
use Rattle.std.specs.Prelude.{nat_lt}
use Rattle.std.proofs.lemmas.List.Sums.{prefix_len-le-length}
use Rattle.srv_session.specs.Rising.{is_at}
use Rattle.srv_session.proofs.Rising.{is_there, comes_in}
use Rattle.srv_session.proofs.listing.list.Goals as goal

pub returns-then-is_at : goal.returns-then-is_at
returns-then-is_at c =
    let id = c.args.id in
    let ids = c.args.ids.now.items in
    let place : c.place_of-place.result ≡ prefix_len (λ x. nat_lt x id) ids = c.place_of-place.ensures ∙ ap (λ (l : List ℕ). prefix_len (λ x. nat_lt x id) l) c.deref.ensures.value in
    is_there id ids (ap (λ (n : ℕ). is_at id n ids) (sym place) ∙ ap (λ (l : List ℕ). is_at id c.place_of-place.result l) (sym c.deref-2.ensures.value) ∙ sym c.is_at.ensures ∙ c.if-is_at.true)

pub returns : goal.returns
returns c =
    let id = c.args.id in
    let ids = c.args.ids.now.items in
    let place : c.place_of-place.result ≡ prefix_len (λ x. nat_lt x id) ids = c.place_of-place.ensures ∙ ap (λ (l : List ℕ). prefix_len (λ x. nat_lt x id) l) c.deref.ensures.value in
    c.in-Ok.ensures.items
    ∙ ap (λ (n : ℕ). insert ids n id) place
    ∙ comes_in id ids (ap (λ (n : ℕ). is_at id n ids) (sym place) ∙ ap (λ (l : List ℕ). is_at id c.place_of-place.result l) (sym c.deref-2.ensures.value) ∙ sym c.is_at.ensures ∙ c.if-is_at.false)

pub insert-requires : goal.insert-requires
insert-requires c =
    let id = c.args.id in
    let ids = c.args.ids.now.items in
    let place : c.place_of-place.result ≡ prefix_len (λ x. nat_lt x id) ids = c.place_of-place.ensures ∙ ap (λ (l : List ℕ). prefix_len (λ x. nat_lt x id) l) c.deref.ensures.value in
    omega (arith, c.args.ids.now.ok, place, prefix_len-le-length (λ x. nat_lt x id) ids)
