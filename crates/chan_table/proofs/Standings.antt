-- How tables stand as channels come and go, and at first.
use Rattle.std.specs.Prelude.{◌≡◌, ℕ, ◌+◌, ◌-◌, ◌<◌, ◌≤◌, Bool, true, false, cond, [], Option, None, is_some}
use Rattle.std.proofs.Common.{ap, ◌∙◌, arith}
use Rattle.std.specs.Ordering.{nat_cmp}
use Rattle.std.specs.FinMap as map
use Rattle.std.proofs.lemmas.Cmp.{nat_cmp_total}
use Rattle.chan_table.specs.declared.ask.Ask.{Ask}
use Rattle.chan_table.specs.Kept.{Kept, with_value}
use Rattle.chan_table.specs.Tables.{limit}
use Rattle.chan_table.specs.Filing.{Filings}
use Rattle.chan_table.specs.Standing.{IsStanding}
use Rattle.chan_table.proofs.Filed.{filed-empty}

module _ {C S : Type 0} where
  pub standing-blank : (channels : Kept (ℕ × C)) (asks : Kept (Ask S)) (es : Filings) (lent : Option (ℕ × ℕ)) (most : ℕ)
      → channels ≡ record { values = map.empty; room = limit } → asks ≡ record { values = map.empty; room = 0 } → es ≡ [] → lent ≡ None
      → IsStanding channels asks es lent most
  standing-blank channels asks es lent most a b none free =
      let count : map.len channels.values ≡ 0 = ap (λ k. map.len k.values) a ∙ map.len-empty nat_cmp (ℕ × C) in
      let wide : channels.room ≡ limit = ap (λ k. k.room) a in
      let room : asks.room ≡ 0 = ap (λ k. k.room) b in
      record {
        few = omega arith;
        wide = omega arith;
        filed = filed-empty es lent asks.values none free (ap (λ k. k.values) b);
        room = omega arith;
        file_room = omega arith;
      }

  module _ (channels new : Kept (ℕ × C)) (asks : Kept (Ask S)) (es : Filings) (lent : Option (ℕ × ℕ)) (most : ℕ) (h : IsStanding channels asks es lent most) where
    pub standing-more : (sid : ℕ) (open_ : ℕ × C) → new ≡ with_value channels sid open_ → map.get channels.values sid ≡ None → map.len channels.values < limit
        → IsStanding new asks es lent most
    standing-more sid open_ e none less =
        let count : map.len new.values ≡ map.len channels.values + 1 =
        ap (λ k. map.len k.values) e ∙ map.len-insert nat_cmp_total channels.values sid open_
        ∙ ap (λ o. cond (is_some o) (map.len channels.values) (map.len channels.values + 1)) none in
        let room : new.room ≡ channels.room = ap (λ k. k.room) e in
        let wide = h.wide in
        record { few = omega arith; wide = omega arith; filed = h.filed; room = h.room; file_room = h.file_room }

    no_more : (b : Bool) (n m : ℕ) → m ≡ cond b (n - 1) n → m ≤ n
    no_more true n m e = omega arith
    no_more false n m e = omega arith

    pub standing-less : (sid : ℕ) → new ≡ record { values = map.remove channels.values sid; room = channels.room } → IsStanding new asks es lent most
    standing-less sid e =
        let count : map.len new.values ≤ map.len channels.values =
        no_more (is_some (map.get channels.values sid)) (map.len channels.values) (map.len new.values) (ap (λ k. map.len k.values) e ∙ map.len-remove nat_cmp_total channels.values sid) in
        let room : new.room ≡ channels.room = ap (λ k. k.room) e in
        let few = h.few in
        let wide = h.wide in
        record { few = omega arith; wide = omega arith; filed = h.filed; room = h.room; file_room = h.file_room }
