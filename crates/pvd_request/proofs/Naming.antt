-- Members of a request, one after another.
use Rattle.std.proofs.Common.{◌≡◌, ◌∙◌, ℕ, ◌+◌, ◌<◌, ◌&&◌, ◌==◌, not, Bool, true, false, cond, List, [], ◌∷◌, length, drop, get_or, Option, Some, option_map, refl, sym, ap, arith}
use Rattle.std.specs.Str.{bytes_eq}
use denote.Ref.{Bor}
use Rattle.pvd_type.specs.declared.shape.Shape.{Shape}
use Rattle.pvd_type.specs.Tree.{Tree}
use Rattle.pvd_type.specs.View.{shape_view, members_view}
use Rattle.pvd_type.specs.declared.shape.Member.{Member}
use Rattle.pvd_type.proofs.Sets.{differs}
use Rattle.pvd_type.proofs.Walks.{members_from}
use Rattle.pvd_request.specs.Selection.{is_options, are_none, said_of}

-- there is no member just where their list is empty
pub none_is : (ms : List Member) → (length ms == 0) ≡ are_none (members_view ms)
none_is [] = refl
none_is (m ∷ ms) = differs (length (m ∷ ms)) 0 (λ e. absurd (omega (arith, e)))

and_false : (b : Bool) → (b && false) ≡ false
and_false true = refl
and_false false = refl

and_true : (b : Bool) → (b && true) ≡ b
and_true true = refl
and_true false = refl

module _ {A : Type 0} (b options : Bool) (x y : A) where
  -- options are passed over
  pub passed_over : options ≡ true → y ≡ cond (b && not options) x y
  passed_over h = sym (ap (λ o. cond (b && not o) x y) h ∙ ap (λ c. cond c x y) (and_false b))

  -- another member is looked at
  pub looked_at : options ≡ false → cond b x y ≡ cond (b && not options) x y
  looked_at h = sym (ap (λ o. cond (b && not o) x y) h ∙ ap (λ c. cond c x y) (and_true b))

-- what is seen of a look-up that finds one thing or another
pub map_chosen : (b : Bool) (s : Bor Shape) (o r : Option (Bor Shape)) → r ≡ cond b (Some s) o
    → option_map (λ (x : Bor Shape). shape_view x.now) r ≡ cond b (Some (shape_view s.now)) (option_map (λ (x : Bor Shape). shape_view x.now) o)
map_chosen true s o r e = ap (option_map (λ (x : Bor Shape). shape_view x.now)) e
map_chosen false s o r e = ap (option_map (λ (x : Bor Shape). shape_view x.now)) e

-- what is kept of the members from place i on
pub said_from : (ms : List Member) (i : ℕ) (m : Member) (name : List ℕ) (kept : Option Tree) → i < length ms → get_or ms i m ≡ m
    → kept ≡ said_of name (members_view (drop (i + 1) ms))
    → cond (bytes_eq m.name name && not (is_options m.name)) (Some (shape_view m.shape)) kept ≡ said_of name (members_view (drop i ms))
said_from ms i m name kept within here e =
    ap (cond (bytes_eq m.name name && not (is_options m.name)) (Some (shape_view m.shape))) e
    ∙ sym (ap (said_of name) (members_from ms i m within here))
