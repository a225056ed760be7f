-- That a description is read as one thing gives that it is one thing.
use Rattle.std.proofs.Common.{List, ℕ, Option, sym, ap, ◌∙◌}
use Rattle.pva_wire.proofs.Takes.{ok_is}
use Rattle.pvd_type.specs.Tree.{Tree}
use Rattle.pvd_desc.specs.Types.{Types}
use Rattle.pvd_desc.specs.Reading.{desc_at}
use Rattle.pvd_desc.specs.Grammar.{Only, Unique}

pub unique_from_only : Only → Unique
unique_from_only only order before a b r s t u after later p q e =
    let same = ok_is (t, r, after) (u, s, later) (sym (only order before a r t after p) ∙ ap (desc_at order before) e ∙ only order before b s u later q) in
    (ap (λ (x : Option Tree × List ℕ × Types). x.0) same, ap (λ (x : Option Tree × List ℕ × Types). x.1) same, ap (λ (x : Option Tree × List ℕ × Types). x.2) same)
