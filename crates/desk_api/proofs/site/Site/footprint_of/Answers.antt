use Rattle.std.specs.Prelude.{◌≡◌, ℕ, zero, suc, ◌+◌, ◌<◌, List, [], ◌∷◌, length, IsTrue}
use Rattle.std.specs.List.{range_with_len}
use Rattle.std.proofs.Common.{arith, drop, take, sym, ◌∙◌, ap}
use Rattle.std.proofs.lemmas.Bool.{ltb-true}
use Rattle.std.proofs.lemmas.List.FromFn.{length-range_with_len}
use Rattle.desk_api.specs.Sites.{footprint_for, is_channel_of}
use Rattle.desk_api.specs.declared.channel.ChannelKind.{ChannelKind}
use Rattle.desk_api.specs.declared.channel.ChannelKind.TheVariants.{Rec}
use Rattle.desk_api.specs.declared.history.SiteData.{SiteData}
use Rattle.desk_api.proofs.site.Site.footprint_of.Goals as goal

-- one number of a range
one_of : (n a k : ℕ) → k < n → take 1 (drop k (range_with_len a n)) ≡ (a + k) ∷ []
one_of zero a k less = absurd (omega (arith, less))
one_of (suc n) a zero less = let same : a ≡ a + 0 = omega arith in ap (λ (m : ℕ). m ∷ []) same
one_of (suc n) a (suc k) less = let same : a + 1 + k ≡ a + suc k = omega arith in one_of n (a + 1) k (omega (arith, less)) ∙ ap (λ (m : ℕ). m ∷ []) same

record_within : (kind : ChannelKind) (site : SiteData) (n : ℕ) → kind ≡ Rec → IsTrue (is_channel_of kind site n) → n < length site.names
record_within kind site n is may = ltb-true n (length site.names) (ap (λ (k : ChannelKind). is_channel_of k site n) (sym is) ∙ may)

pub one_of-requires : goal.one_of-requires
one_of-requires c =
    let less = record_within c.args.channel.kind c.args.self.now c.args.channel.number c.in-Rec.is c.requires in
    let count = length-range_with_len 0 (length c.self.inside.records.names) in
    let names = ap (λ (s : SiteData). length s.names) c.self.view_is in
    omega (arith, less, names, count, ap length (c.as_slice.ensures.value ∙ c.self.invariant.1))

pub returns-in-Rec : goal.returns-in-Rec
returns-in-Rec c =
    let n = c.args.channel.number in
    let less = record_within c.args.channel.kind c.args.self.now n c.in-Rec.is c.requires in
    let names = ap (λ (s : SiteData). length s.names) c.self.view_is in
    let last : 0 + n ≡ n = omega arith in
    c.one_of.ensures ∙ ap (λ (l : List ℕ). take 1 (drop n l)) (c.as_slice.ensures.value ∙ c.self.invariant.1)
    ∙ one_of (length c.self.inside.records.names) 0 n (omega (arith, less, names))
    ∙ ap (λ (m : ℕ). m ∷ []) last
    ∙ ap (λ (k : ChannelKind). footprint_for k c.args.self.now n) (sym c.in-Rec.is)
