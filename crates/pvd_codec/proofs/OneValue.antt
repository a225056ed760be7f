-- That a value is read as one thing gives that it is one thing.
use Rattle.std.proofs.Common.{◌∙◌, ℕ, List, sym, ap}
use Rattle.pva_wire.proofs.Takes.{ok_is}
use Rattle.pvd_value.specs.Data.{Data}
use Rattle.pvd_desc.specs.Types.{Types}
use Rattle.pvd_codec.specs.Reading.{full_at}
use Rattle.pvd_codec.specs.Written.{canonical_value}
use Rattle.pvd_codec.specs.Laws.{FullIsRead, OneFull, WrittenFullIsRead}
use Rattle.pvd_codec.proofs.Spelled.{value_written}
use Rattle.pvd_codec.proofs.ReadAgain.{value_again}

pub full_is_read : FullIsRead
full_is_read o before t front rest v after h = value_again o 16 v t before front after h rest

pub one_full : OneFull
one_full o before t a b r s v w after later p q e =
    let same = ok_is (v, (r, after)) (w, (s, later)) (sym (full_is_read o before t a r v after p) ∙ ap (λ (x : List ℕ). full_at o t (x, before)) e ∙ full_is_read o before t b s w later q) in
    (ap (λ (x : Data × (List ℕ × Types)). x.0) same, ap (λ (x : Data × (List ℕ × Types)). x.1.0) same, ap (λ (x : Data × (List ℕ × Types)). x.1.1) same)

pub written_full_is_read : WrittenFullIsRead
written_full_is_read o before t v rest fits can = full_is_read o before t (canonical_value o v t) rest v before (value_written o before 16 v t fits can)
