use Rattle.std.proofs.Common.{◌≡◌, ◌<◌, ◌++◌, ℕ, List, [], None, length, map, sym, ap, ◌∙◌, subst, arith}
use Rattle.std.specs.List.{AllByRecursion, enumerate_from}
use Rattle.std.specs.BTreeMap.{get_by}
use Rattle.std.specs.Ordering.{nat_cmp}
use Rattle.pvd_type.specs.View.{shape_view}
use Rattle.group_view.specs.Built.{IsBuilt, Reaches, reach_by}
use Rattle.group_view.specs.Faults.{group_fault}
use Rattle.group_view.specs.Groups.{GroupData}
use Rattle.group_view.specs.Leaves.{sources, member_in, is_number, places, leaves_at, records_of}
use Rattle.group_view.specs.Puts.{writers_among}
use Rattle.group_view.specs.Seen.{slots_seen}
use Rattle.group_view.specs.Slots.{level, slots_to, in_order, entries_of}
use Rattle.group_view.specs.Types.{slot_tree}
use Rattle.group_view.specs.declared.member.Member.{Member}
use Rattle.group_view.proofs.Keeping.{shown_few, built_is, structure_is, whole_is, fault_kept, shape_fault_is, fault_free}
use Rattle.group_view.proofs.group.Group.of_members.Goals as goal

pub returns-in-Err-clause-fault : goal.returns-in-Err-clause-fault
returns-in-Err-clause-fault c =
    let g : GroupData = record { name = c.args.name; id = c.args.id; atomic = c.args.atomic; members = c.args.members.items } in
    let slots = slots_seen c.in_ok-slots.slots.items in
    let entries : slots ≡ slots_to 32 (in_order (entries_of g.members)) =
    c.in_ok-slots.ensures ∙ ap (slots_to 32) (c.in_ok-entries_of.ensures ∙ ap (λ ms. in_order (entries_of ms)) c.deref.ensures.value) in
    let shape : shape_view c.in_ok-shape.shape ≡ slot_tree (level g.id slots) = c.in_ok-shape.ensures.shape ∙ ap (λ ns. slot_tree (level g.id (slots_seen ns))) c.deref-2.ensures.value in
    shape_fault_is g (shape_view c.in_ok-shape.shape) c.in-Err.fault (fault_kept g slots _ entries shape) c.requires.placed c.requires.single c.in-Err.ensures.fault

pub own_leaves-requires : goal.own_leaves-requires
own_leaves-requires c =
    let g : GroupData = record { name = c.args.name; id = c.args.id; atomic = c.args.atomic; members = c.args.members.items } in
    let slots = slots_seen c.in_ok-slots.slots.items in
    let shape : shape_view c.in_ok-shape.shape ≡ slot_tree (level g.id slots) = c.in_ok-shape.ensures.shape ∙ ap (λ ns. slot_tree (level g.id (slots_seen ns))) c.deref-2.ensures.value in
    let shown : c.structure_of.new.shown.items ≡ map member_in (sources (level g.id slots)) =
    c.in_ok-shape.ensures.shown ∙ ap (λ os. os ++ map member_in (sources (level g.id (slots_seen c.deref-2.result.now)))) c.new-shown.ensures.items
    ∙ ap (λ ns. map member_in (sources (level g.id (slots_seen ns)))) c.deref-2.ensures.value in
    shown_few _ (level g.id slots) c.in-Ok.ty (c.deref-3.ensures.value ∙ shown) (c.in-Ok.ensures.ty ∙ shape) c.in-Ok.ensures.few

pub reaches_of-requires-clause-within : goal.reaches_of-requires-clause-within
reaches_of-requires-clause-within c =
    subst (λ (ms : List Member). AllByRecursion (λ m. AllByRecursion (λ n. n < length ms) m.def.trigger) ms) (sym c.deref-5.ensures.value) c.requires.within

pub invariant_of-result : goal.invariant_of-result
invariant_of-result c =
    let g : GroupData = record { name = c.args.name; id = c.args.id; atomic = c.args.atomic; members = c.args.members.items } in
    let slots = slots_seen c.in_ok-slots.slots.items in
    let entries : slots ≡ slots_to 32 (in_order (entries_of g.members)) =
    c.in_ok-slots.ensures ∙ ap (slots_to 32) (c.in_ok-entries_of.ensures ∙ ap (λ ms. in_order (entries_of ms)) c.deref.ensures.value) in
    let shape : shape_view c.in_ok-shape.shape ≡ slot_tree (level g.id slots) = c.in_ok-shape.ensures.shape ∙ ap (λ ns. slot_tree (level g.id (slots_seen ns))) c.deref-2.ensures.value in
    let shown : c.structure_of.new.shown.items ≡ map member_in (sources (level g.id slots)) =
    c.in_ok-shape.ensures.shown ∙ ap (λ os. os ++ map member_in (sources (level g.id (slots_seen c.deref-2.result.now)))) c.new-shown.ensures.items
    ∙ ap (λ ns. map member_in (sources (level g.id (slots_seen ns)))) c.deref-2.ensures.value in
    let tree = c.in-Ok.ensures.ty ∙ shape in
    let structure = structure_is g slots (whole_is g slots c.in-Ok.ty entries tree c.in-Ok.ensures.faultless) in
    let own = c.in_ok-own.own.items in
    let long : length own ≡ length g.members = omega (arith, c.in_ok-own.ensures.count, c.len.ensures, c.args.members.ok) in
    let leaves : (n : ℕ) → n < length g.members → leaves_at own n ≡ places (is_number n) 0 c.structure_of.new.shown.items =
    λ n lt. c.in_ok-own.ensures.leaves n (omega (arith, lt, c.len.ensures, c.args.members.ok)) ∙ ap (places (is_number n) 0) c.deref-3.ensures.value in
    let reaching =
    subst (λ (recs : List ℕ). Reaches recs (reach_by (leaves_at own) g.members) (λ rec. get_by (nat_cmp rec) c.in_ok-reaches.reaches)) c.deref-7.ensures.value
    (subst (λ os. Reaches c.deref-7.result.now (reach_by (leaves_at os) g.members) (λ rec. get_by (nat_cmp rec) c.in_ok-reaches.reaches)) c.deref-6.ensures.value
    (subst (λ ms. Reaches c.deref-7.result.now (reach_by (leaves_at c.deref-6.result.now) ms) (λ rec. get_by (nat_cmp rec) c.in_ok-reaches.reaches)) c.deref-5.ensures.value
    c.in_ok-reaches.ensures)) in
    let writing = c.in_ok-writers.ensures
    ∙ (λ i. map (λ e. e.1) (writers_among (leaves_at (c.deref-9.ensures.value i)) [] (enumerate_from 0 (c.deref-8.ensures.value i)))) in (
      subst (λ (ms : List Member). IsBuilt (record { name = c.args.name; id = c.args.id; atomic = c.args.atomic; members = ms }) c.in-Ok.ty slots
          c.in_ok-records.records.items (λ rec. get_by (nat_cmp rec) c.in_ok-reaches.reaches) c.in_ok-writers.writers.items) (sym c.from_vec.ensures)
          (built_is g slots c.in-Ok.ty c.structure_of.new.shown.items own c.in_ok-records.records.items _ c.in_ok-writers.writers.items structure tree c.in-Ok.ensures.few
          shown long leaves (c.in_ok-records.ensures ∙ ap records_of c.deref-4.ensures.value) reaching writing c.requires.placed c.requires.single c.in-Ok.ensures.faultless c.requires.few),
      c.new.ensures,
    )

pub returns-clause-faultless : goal.returns-clause-faultless
returns-clause-faultless c =
    let g : GroupData = record { name = c.args.name; id = c.args.id; atomic = c.args.atomic; members = c.args.members.items } in
    let slots = slots_seen c.in_ok-slots.slots.items in
    let entries : slots ≡ slots_to 32 (in_order (entries_of g.members)) =
    c.in_ok-slots.ensures ∙ ap (slots_to 32) (c.in_ok-entries_of.ensures ∙ ap (λ ms. in_order (entries_of ms)) c.deref.ensures.value) in
    let shape : shape_view c.in_ok-shape.shape ≡ slot_tree (level g.id slots) = c.in_ok-shape.ensures.shape ∙ ap (λ ns. slot_tree (level g.id (slots_seen ns))) c.deref-2.ensures.value in
    let structure = structure_is g slots (whole_is g slots c.in-Ok.ty entries (c.in-Ok.ensures.ty ∙ shape) c.in-Ok.ensures.faultless) in
    subst (λ (ms : List Member). group_fault (record { name = c.args.name; id = c.args.id; atomic = c.args.atomic; members = ms }) ≡ None) (sym c.from_vec.ensures)
    (fault_free g slots c.in-Ok.ty structure (c.in-Ok.ensures.ty ∙ shape) c.requires.placed c.requires.single c.in-Ok.ensures.faultless)
