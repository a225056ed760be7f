use Rattle.std.proofs.Common.{ap, sym, ◌∙◌}
use Rattle.pvd_value.specs.Data.{ubytes, ushorts, uints, ulongs}
use Rattle.rec_kinds.specs.declared.element.Element.{Element}
use Rattle.rec_fields.proofs.Lists.{sizes_of}
use Rattle.rec_fields.specs.Shown.{numbers_shown}
use Rattle.rec_fields.proofs.shown.elements_value.Goals as goal

pub returns-in_ok-narrowed-in-U8 : goal.returns-in_ok-narrowed-in-U8
returns-in_ok-narrowed-in-U8 c =
    ap ubytes (sizes_of _ c.args.numbers.now (c.in_ok-narrowed-in-U8.ensures {u = tt}))
    ∙ sym (ap (λ (e : Element). numbers_shown e c.args.numbers.now) c.in-U8.is)

pub returns-in_ok-narrowed-in-U16 : goal.returns-in_ok-narrowed-in-U16
returns-in_ok-narrowed-in-U16 c =
    ap ushorts (sizes_of _ c.args.numbers.now (c.in_ok-narrowed-in-U16.ensures {u = tt}))
    ∙ sym (ap (λ (e : Element). numbers_shown e c.args.numbers.now) c.in-U16.is)

pub returns-in_ok-narrowed-in-U32 : goal.returns-in_ok-narrowed-in-U32
returns-in_ok-narrowed-in-U32 c =
    ap uints (sizes_of _ c.args.numbers.now (c.in_ok-narrowed-in-U32.ensures {u = tt}))
    ∙ sym (ap (λ (e : Element). numbers_shown e c.args.numbers.now) c.in-U32.is)

pub returns-in_ok-narrowed-in-U64 : goal.returns-in_ok-narrowed-in-U64
returns-in_ok-narrowed-in-U64 c =
    ap ulongs (sizes_of _ c.args.numbers.now (c.in_ok-narrowed-in-U64.ensures {u = tt}))
    ∙ sym (ap (λ (e : Element). numbers_shown e c.args.numbers.now) c.in-U64.is)
