use Rattle.std.proofs.Common.{◌∙◌, List, ℕ, Ok, ap, sym}
use Rattle.std.proofs.lemmas.List.{map-id}
use Rattle.pvd_codec.proofs.Numbers.{bytes_read}
use Rattle.pvd_codec.proofs.lists.u8s_at.Goals as goal

pub returns : goal.returns
returns c =
    let front = c.split_at.result.0.now in
    let rest = c.split_at.result.1.now in
    rw (c.split_at.ensures.by_index.0, sym c.split_at.ensures.front_len, c.in_ok-from_slice.ensures.items) (bytes_read (λ n. n) c.args.order front rest ∙ ap (λ (xs : List ℕ). Ok (xs, rest)) (map-id front))
