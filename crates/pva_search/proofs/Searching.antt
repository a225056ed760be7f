-- How a search is read.
use Rattle.std.proofs.Common.{◌≡◌, ℕ, List, Ok, Err, refl, ap}
use Rattle.pva_wire.specs.declared.order.Order.{Order}
use Rattle.pva_wire.specs.Reading.{Read, number_at}
use Rattle.pva_wire.proofs.Takes.{ok_is}
use Rattle.pva_search.specs.declared.search.Head.{Head}
use Rattle.pva_search.specs.Reading.{each_at, texts_at, channel_at, channels_at, head_at, search_at}
use Rattle.pva_search.specs.Parts.{mapped}

-- what was read, where something that is made of it was given
pub of_mapped : {A B : Type 0} (f : A → B) (read : Read A) (b : B) (rest : List ℕ) → mapped f read ≡ Ok (b, rest) → (a : A) × (read ≡ Ok (a, rest)) × (f a ≡ b)
of_mapped f (Ok x) b rest h =
    let e = ok_is (f x.0, x.1) (b, rest) h in
    (x.0, ap (λ (r : List ℕ). Ok (x.0, r)) (ap (λ z. z.1) e), ap (λ z. z.0) e)
of_mapped f (Err e) b rest h = absurd cc

pub search_is : (o : Order) (payload : List ℕ) (head : Head) (r1 : List ℕ) (protocols : List (List ℕ)) (r2 : List ℕ) (count : ℕ) (r3 : List ℕ) (channels : List (ℕ × List ℕ)) (after : List ℕ)
    → head_at o payload ≡ Ok (head, r1) → texts_at o r1 ≡ Ok (protocols, r2) → number_at o 2 r2 ≡ Ok (count, r3) → each_at (channel_at o) count r3 ≡ Ok (channels, after)
    → search_at o payload ≡ Ok (record { head = head; protocols = protocols; channels = channels }, after)
unfolding search_at channels_at
search_is o payload head r1 protocols r2 count r3 channels after e1 e2 e3 e4 = rw (e1, e2, e3, e4) refl
