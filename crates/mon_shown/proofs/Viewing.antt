-- Views that serve for others, and one more of them.
use Rattle.std.proofs.Common.{◌≡◌, ℕ, zero, suc, ◌⊎◌, inl, inr, true, List, [], ◌∷◌, ◌++◌, Some, subst}
use Rattle.std.specs.Prelude.{slice_get}
use Rattle.std.specs.Ordering.{nat_cmp}
use Rattle.std.specs.FinSet.{FinSet, contains}
use Rattle.pvd_value.specs.View.{view}
use Rattle.rec_kinds.specs.declared.state.RecState.{RecState}
use Rattle.mon_shown.specs.Channels.{ChannelView}
use Rattle.mon_shown.specs.Viewing.{IsView, AreViews}
use Rattle.mon_shown.specs.declared.viewed.View.{View}

at_more : {X : Type 0} (xs : List X) (x y : X) (n : ℕ) → slice_get (xs ++ x ∷ []) n ≡ Some y → (slice_get xs n ≡ Some y) ⊎ (x ≡ y)
at_more [] x y zero is = inr cc
at_more [] x y (suc n) is = absurd (let never : ⊥ = cc in never)
at_more (z ∷ xs) x y zero is = inl is
at_more (z ∷ xs) x y (suc n) is = at_more xs x y n is

module _ {C : Type 0} (shows : C → ChannelView) (states : List RecState) (views : List (View C)) (are : AreViews shows states views) where
  -- one that has these leaves of the channel
  pub serves : (n : ℕ) (x : View C) (channel : C) (mask : FinSet nat_cmp) → slice_get views n ≡ Some x → x.channel ≡ channel
      → ((k : ℕ) → contains mask k ≡ true → contains x.mask k ≡ true) → IsView (shows channel) states mask (view x.value)
  serves n x channel mask is same within =
      let all = are n x is in
      subst (λ (c : C). IsView (shows c) states mask (view x.value)) same (record { shown = λ k asked. all.shown k (within k asked); fits = all.fits })

  pub one_more : (x : View C) → IsView (shows x.channel) states x.mask (view x.value) → AreViews shows states (views ++ x ∷ [])
  one_more x new n y is = step (at_more views x y n is)
    where
      step : (slice_get views n ≡ Some y) ⊎ (x ≡ y) → IsView (shows y.channel) states y.mask (view y.value)
      step (inl there) = are n y there
      step (inr same) = subst (λ (z : View C). IsView (shows z.channel) states z.mask (view z.value)) same new
