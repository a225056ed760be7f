use Rattle.std.proofs.Common.{◌∙◌, ◌++◌, ap, sym, rules}
use Rattle.std.proofs.lemmas.List.{map-id}
use Rattle.std.proofs.lemmas.List.Concat.{flat_map_single}
use Rattle.pvd_value.specs.Data.{ubyte}
use Rattle.pvd_codec.specs.Written.{CanSingle}
use Rattle.pvd_codec.proofs.Every.{can_each}
use Rattle.pvd_codec.proofs.lists_writing.write_u8s.Goals as goal

pub returns-clause-written : goal.returns-clause-written
returns-clause-written c =
    let xs = c.args.values.now in
    let plain = flat_map_single (λ x. x) xs ∙ map-id xs in
    c.in_ok-extend_from_slice.ensures.items ∙ ap (λ ys. c.args.out.now.items ++ ys) (sym plain)

pub returns-clause-can : goal.returns-clause-can
returns-clause-can c = can_each (λ x. CanSingle (ubyte x)) 0 c.args.values.now (λ i. search rules)
