-- Which validation is answered how.
use Rattle.std.proofs.Common.{◌≡◌, ℕ, Bool, false, cond, List, None, ap, ◌∙◌}
use Rattle.std.specs.Prelude.{bytes_eq, codes}
use Rattle.std.proofs.lemmas.Bool.{false≢true}
use Rattle.std.proofs.lemmas.Bool.Decides.{same_from_decides}
use Rattle.std.proofs.lemmas.Slice.Eq.{bytes_eq-Decides}
use Rattle.pva_messages.specs.Fields.{Valued}
use Rattle.pva_messages.specs.Replies as reply
use Rattle.srv_session.specs.Replies.{error}
use Rattle.srv_session.specs.Tasks.{Task, validate, refuse, text_in, validated_by}

differ : (xs ys : List ℕ) → (xs ≡ ys → ⊥) → bytes_eq xs ys ≡ false
differ xs ys apart = same_from_decides {P = xs ≡ ys} (bytes_eq xs ys) false (bytes_eq-Decides xs ys) ((λ e. absurd (false≢true e)), (λ e. absurd (apart e)))

module _ (buffer registry : ℕ) (method : List ℕ) (argument : Valued) where
  pub by_anonymous : method ≡ codes "anonymous" → validated_by buffer registry method argument ≡ validate buffer registry None None
  by_anonymous is = ap (λ (m : List ℕ). validated_by buffer registry m argument) is

  pub by_ca : method ≡ codes "ca" → validated_by buffer registry method argument ≡ validate buffer registry (text_in argument (codes "user")) (text_in argument (codes "host"))
  by_ca is = ap (λ (m : List ℕ). validated_by buffer registry m argument) is

  pub by_other : (method ≡ codes "anonymous" → ⊥) → (method ≡ codes "ca" → ⊥)
      → validated_by buffer registry method argument ≡ refuse (reply.validated (error (codes "authentication not offered")))
  by_other a b =
      let other : Task = refuse (reply.validated (error (codes "authentication not offered"))) in
      let named : Task = validate buffer registry (text_in argument (codes "user")) (text_in argument (codes "host")) in
      ap (λ (x : Bool). cond x (validate buffer registry None None) (cond (bytes_eq method (codes "ca")) named other)) (differ method (codes "anonymous") a)
      ∙ ap (λ (x : Bool). cond x named other) (differ method (codes "ca") b)
