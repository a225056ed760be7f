-- The replies that are written from what is lent.
use Rattle.std.proofs.Common.{◌≡◌, ℕ, Bool, true, false, not, List, [], ◌∷◌, ◌++◌, Option, Some, None, refl, sym, ap, subst}
use Rattle.std.proofs.lemmas.Bool.{false≢true}
use Rattle.std.specs.Ordering.{nat_cmp}
use Rattle.std.specs.FinSet.{FinSet}
use Rattle.pva_wire.specs.Status.{good}
use Rattle.pvd_type.specs.Tree.{Tree}
use Rattle.pvd_codec.specs.Written.{CanEach}
use Rattle.pva_messages.specs.declared.command.Command.{Command}
use Rattle.pva_messages.specs.declared.command.Command.TheVariants as command
use Rattle.pva_messages.specs.Fields.{Field, PartData, byte, word, status, description, part}
use Rattle.pva_messages.specs.Subcommands.{begins, OnlyWhere, ExactlyWhere}
use Rattle.pva_messages.specs.Replies.{CanReply, reply_fields, type_field, begun_reply, value_reply, update_reply}
use Rattle.pva_messages.specs.Written.{CanField, FitsField}
use Rattle.pva_messages.specs.Laws.{IsReplyWritable}

no_type : (b : Bool) (t : Option Tree) (xs : List Field) → b ≡ false → type_field b t ++ xs ≡ xs
no_type true t xs h = absurd (false≢true (sym h))
no_type false t xs h = refl

there : {A : Type 0} (b : Bool) (x : A) → b ≡ false → ExactlyWhere (not b) (Some x)
there true x h = absurd (false≢true (sym h))
there false x h = tt

only_type : (b : Bool) (t : Tree) (xs : List Field) → OnlyWhere b (Some t) → type_field b (Some t) ++ xs ≡ description (Some t) ∷ xs
only_type true t xs h = refl
only_type false t xs h = let e : Some t ≡ None = h refl in cc

-- ---- the reply that begins a request

module _ (req sub : ℕ) (t : Tree) where
  pub begun_fields : (c : Command) → CanReply (begun_reply c req sub t) → reply_fields (begun_reply c req sub t) ≡ word req ∷ byte sub ∷ status good ∷ description (Some t) ∷ []
  begun_fields command.Get h = ap (λ (xs : List Field). word req ∷ byte sub ∷ status good ∷ xs) (only_type (begins sub) t [] h.0)
  begun_fields command.Put h = ap (λ (xs : List Field). word req ∷ byte sub ∷ status good ∷ xs) (only_type (begins sub) t [] h.0)
  begun_fields command.Monitor h = refl
  begun_fields c h = absurd h

  pub begun_writable : (c : Command) → CanReply (begun_reply c req sub t) → CanEach CanField (word req ∷ byte sub ∷ status good ∷ description (Some t) ∷ []) → IsReplyWritable (begun_reply c req sub t)
  begun_writable c h can = (
    h,
    subst (λ (fields : List Field). CanEach FitsField fields) (sym (begun_fields c h)) (tt, (tt, (tt, (tt, tt)))),
    subst (λ (fields : List Field). CanEach CanField fields) (sym (begun_fields c h)) can,
  )

-- ---- the reply to a get that brings a part

module _ (req sub : ℕ) (p : PartData) (h : begins sub ≡ false) where
  pub value_fields : reply_fields (value_reply req sub p) ≡ word req ∷ byte sub ∷ status good ∷ part p ∷ []
  value_fields = ap (λ (xs : List Field). word req ∷ byte sub ∷ status good ∷ xs) (no_type (begins sub) None (part p ∷ []) h)

  pub value_writable : FitsField (part p) → CanEach CanField (word req ∷ byte sub ∷ status good ∷ part p ∷ []) → IsReplyWritable (value_reply req sub p)
  value_writable fits can = (
    (λ _. refl, there (begins sub) p h),
    subst (λ (fields : List Field). CanEach FitsField fields) (sym value_fields) (tt, (tt, (tt, (fits, tt)))),
    subst (λ (fields : List Field). CanEach CanField fields) (sym value_fields) can,
  )

-- ---- an update of a monitor

pub update_writable : (req : ℕ) (p : PartData) (overrun : FinSet nat_cmp) → FitsField (part p) → CanEach CanField (reply_fields (update_reply req p overrun)) → IsReplyWritable (update_reply req p overrun)
update_writable req p overrun fits can = ((refl, refl, tt), (tt, (tt, (fits, (tt, tt)))), can)
