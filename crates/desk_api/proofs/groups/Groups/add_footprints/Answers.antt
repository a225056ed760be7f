use Rattle.std.specs.Prelude.{◌≡◌, ◌||◌, ℕ, ◌<◌, ◌≤◌, Bool, List, [], ◌++◌, map, length, take, Some, slice_get, option_map}
use Rattle.std.specs.List.{list_any}
use Rattle.std.proofs.Common.{get_or, sym, ◌∙◌, ap, subst, arith, Vec, Global}
use Rattle.std.proofs.Math.Seq.{take-length}
use Rattle.std.proofs.lemmas.List.{length-map}
use Rattle.std.proofs.lemmas.Option.{slice_get-get_or, slice_get_past, slice_get-map}
use Rattle.group_view.specs.Groups.{GroupData}
use Rattle.group_view.specs.Leaves.{footprint}
use Rattle.desk_api.proofs.Noting.{is_read, noted_within, or_false, read_more}
use Rattle.desk_api.proofs.Reading.{among_at, reads_noted}
use Rattle.desk_api.proofs.Stating.{next_taken, there}
use Rattle.desk_api.specs.Grouping.{is_among, noted, AreNoted, AreRead}
use Rattle.desk_api.proofs.groups.Groups.add_footprints.Goals as goal

abbrev seen : List (Vec ℕ Global) → List (List ℕ)
seen index = map (λ v. v.items) index

-- the numbers that are noted for a record that has a list, and for one that has none
noted_there : (index : List (Vec ℕ Global)) (rec : ℕ) (v : Vec ℕ Global) → slice_get index rec ≡ Some v → noted (slice_get (seen index) rec) ≡ v.items
noted_there index rec v is = ap noted (slice_get-map (λ (x : Vec ℕ Global). x.items) index rec ∙ ap (option_map (λ (x : Vec ℕ Global). x.items)) is)

noted_nowhere : (index : List (Vec ℕ Global)) (rec : ℕ) → length index ≤ rec → noted (slice_get (seen index) rec) ≡ []
noted_nowhere index rec past =
    ap noted (slice_get_past (seen index) rec (omega (arith, past, length-map index (λ (x : Vec ℕ Global). x.items))))

-- what the noted groups read is what all groups read
all_read : (index : List (Vec ℕ Global)) (groups : List GroupData) (rec : ℕ) (numbers old new : List ℕ) → AreNoted (seen index) groups → noted (slice_get (seen index) rec) ≡ numbers
    → ((n : ℕ) → is_among new n ≡ (is_among old n || list_any (λ k. is_read (slice_get groups k) rec n) numbers)) → AreRead groups rec old new
all_read index groups rec numbers old new are own read = λ n.
    read n ∙ ap (λ (b : Bool). is_among old n || b)
    (ap (λ (l : List ℕ). list_any (λ k. is_read (slice_get groups k) rec n) l) (sym own) ∙ reads_noted (seen index) groups rec n are)

pub returns-in_default : goal.returns-in_default
returns-in_default c =
    let index = c.self.inside.of_record.items in
    let found = c.args.found.now.items in
    let are : AreNoted (seen index) c.args.self.now = subst (λ (gs : List GroupData). AreNoted (seen index) gs) c.self.view_is c.self.invariant.2 in
    let past : length index ≤ c.args.rec = omega (arith, (c.in_default.ensures {u = tt}).lookup.3, ap length c.deref.ensures.value) in
    all_read index c.args.self.now c.args.rec [] found found are (noted_nowhere index c.args.rec past) (λ n. sym (or_false (is_among found n)))

pub loop-number-init : goal.loop-number-init
loop-number-init c = λ n. sym (or_false (is_among c.args.found.now.items n))

-- the numbers in the list of a record are those that are noted for it
listed : (index now : List (Vec ℕ Global)) (rec : ℕ) (v : Vec ℕ Global) (numbers : List ℕ) → now ≡ index → rec < length now → v ≡ get_or now rec v → numbers ≡ v.items → noted (slice_get (seen index) rec) ≡ numbers
listed index now rec v numbers same less is items =
    noted_there index rec v (there index rec v (omega (arith, less, ap length same)) (is ∙ ap (λ (l : List (Vec ℕ Global)). get_or l rec v) same)) ∙ sym items

pub at-requires : goal.at-requires
at-requires c =
    let index = c.self.inside.of_record.items in
    let numbers = c.deref-number-items.result.now in
    let i = c.loop-number.number-index in
    let lookup = (c.in-Some.ensures {u = tt}).lookup in
    let are : AreNoted (seen index) c.args.self.now = subst (λ (gs : List GroupData). AreNoted (seen index) gs) c.self.view_is c.self.invariant.2 in
    let own = listed index c.deref.result.now c.args.rec c.in-Some.numbers.now numbers c.deref.ensures.value lookup.3.0 lookup.1 c.deref-number-items.ensures.value in
    noted_within (seen index) c.args.self.now c.args.rec _ are
    (ap (λ (l : List ℕ). is_among l (get_or numbers i 0)) own ∙ among_at numbers i (get_or numbers i 0) (slice_get-get_or numbers i 0 c.loop-number-test.true))

pub loop-number-preserved : goal.loop-number-preserved
loop-number-preserved c = λ n.
    let numbers = c.deref-number-items.result.now in
    let i = c.loop-number.number-index in
    let at = slice_get-get_or numbers i 0 c.loop-number-test.true in
    let more : c.extend_from_slice.new.self.items ≡ c.loop-number.found.items ++ footprint c.at.result.now c.args.rec =
    (c.in_ok-extend_from_slice.ensures {u = tt}).items ∙ ap (λ (l : List ℕ). c.loop-number.found.items ++ l) c.footprint-read.ensures in
    read_more c.args.self.now c.args.rec n (get_or numbers i 0) (take i numbers) c.args.found.now.items c.loop-number.found.items c.extend_from_slice.new.self.items c.at.result.now c.at.ensures (c.loop-number.invariant n) more
    ∙ ap (λ (l : List ℕ). is_among c.args.found.now.items n || list_any (λ k. is_read (slice_get c.args.self.now k) c.args.rec n) l) (sym (next_taken numbers i _ at))

pub returns : goal.returns
returns c =
    let index = c.self.inside.of_record.items in
    let numbers = c.deref-number-items.result.now in
    let lookup = (c.in-Some.ensures {u = tt}).lookup in
    let are : AreNoted (seen index) c.args.self.now = subst (λ (gs : List GroupData). AreNoted (seen index) gs) c.self.view_is c.self.invariant.2 in
    let own = listed index c.deref.result.now c.args.rec c.in-Some.numbers.now numbers c.deref.ensures.value lookup.3.0 lookup.1 c.deref-number-items.ensures.value in
    let end : c.loop-number.number-index ≡ length numbers = omega (arith, c.loop-number-test.false, c.loop-number.auto.number-index-end) in
    let whole : take c.loop-number.number-index numbers ≡ numbers = ap (λ (n : ℕ). take n numbers) end ∙ take-length numbers in
    all_read index c.args.self.now c.args.rec numbers c.args.found.now.items c.loop-number.found.items are own
    (λ n. c.loop-number.invariant n ∙ ap (λ (l : List ℕ). is_among c.args.found.now.items n || list_any (λ k. is_read (slice_get c.args.self.now k) c.args.rec n) l) whole)
