-- A brace begins JSON exactly behind `info(NAME,`.
use Rattle.std.proofs.Common.{◌≡◌, ℕ, Bool, cond, true, false, ◌&&◌, List, [], ◌∷◌, refl, ap, ◌∙◌}
use Rattle.std.proofs.lemmas.Slice.Eq.{bytes_eq-Decides}
use Rattle.std.specs.Str.{bytes_eq}
use Rattle.db_text.specs.Cutting.{is_info, is_comma, follows}
use Rattle.db_text.specs.declared.token.TokenKind.{TokenKind}
use Rattle.db_text.specs.declared.token.TokenKind.TheVariants.{Bare, Quoted, Mark, Json}
use Rattle.db_text.specs.declared.token.Before.{Before}
use Rattle.db_text.specs.declared.token.Before.TheVariants.{Other, Info, Open, Name, InfoName, Comma}
use Rattle.db_text.specs.Grammar.{Word, is_bare, is_sign, is_name, ends_info, ends_open, ends_name, ends_comma}

-- what the scan knows of the words before, the last one first
abbrev pub view : List Word → Before
view [] = Other
view (w ∷ ws) = follows (view ws) w.0 w.1

abbrev at_name : Before → Bool
at_name Name = true
at_name InfoName = true
at_name Other = false
at_name Info = false
at_name Open = false
at_name Comma = false

abbrev at_open : Before → Bool
at_open Open = true
at_open Name = false
at_open InfoName = false
at_open Other = false
at_open Info = false
at_open Comma = false

abbrev at_info : Before → Bool
at_info Info = true
at_info InfoName = true
at_info Name = false
at_info Open = false
at_info Other = false
at_info Comma = false

-- a test of one of two
of_two : (f : Before → Bool) (x y : Before) (v c : Bool) → f x ≡ v → f y ≡ v → f (cond c x y) ≡ v
of_two f x y v true a b = a
of_two f x y v false a b = b

chooses : (f : Before → Bool) (x y : Before) (c : Bool) → f x ≡ true → f y ≡ false → f (cond c x y) ≡ c
chooses f x y true a b = a
chooses f x y false a b = b

-- behind a name that is `info`, an opening bracket comes first
open_or_comma : (f : Before → Bool) (t : List ℕ) → f Open ≡ false → f Comma ≡ true → f Other ≡ false
    → f (cond (bytes_eq t (40 ∷ [])) Open (cond (bytes_eq t (44 ∷ [])) Comma Other)) ≡ bytes_eq t (44 ∷ [])
open_or_comma f t a b c = pick (bytes_eq t (40 ∷ [])) refl
  where
    comma_other : (e : bytes_eq t (40 ∷ []) ≡ true) → bytes_eq t (44 ∷ []) ≡ false
    comma_other e = ap (λ (xs : List ℕ). bytes_eq xs (44 ∷ [])) ((bytes_eq-Decides t (40 ∷ [])).0 e)

    pick : (v : Bool) → bytes_eq t (40 ∷ []) ≡ v → f (cond (bytes_eq t (40 ∷ [])) Open (cond (bytes_eq t (44 ∷ [])) Comma Other)) ≡ bytes_eq t (44 ∷ [])
    pick true e = rw (e, comma_other e) a
    pick false e = rw e (chooses f Comma Other (bytes_eq t (44 ∷ [])) b c)

opens_not : (t : List ℕ) → at_open (cond (bytes_eq t (40 ∷ [])) Open (cond (bytes_eq t (44 ∷ [])) Comma Other)) ≡ bytes_eq t (40 ∷ [])
opens_not t = pick (bytes_eq t (40 ∷ [])) (bytes_eq t (44 ∷ []))
  where
    pick : (v w : Bool) → at_open (cond v Open (cond w Comma Other)) ≡ v
    pick true w = refl
    pick false true = refl
    pick false false = refl

never : (f : Before → Bool) (t : List ℕ) → f Open ≡ false → f Comma ≡ false → f Other ≡ false → f (cond (bytes_eq t (40 ∷ [])) Open (cond (bytes_eq t (44 ∷ [])) Comma Other)) ≡ false
never f t a b c = pick (bytes_eq t (40 ∷ [])) (bytes_eq t (44 ∷ []))
  where
    pick : (v w : Bool) → f (cond v Open (cond w Comma Other)) ≡ false
    pick true w = a
    pick false true = b
    pick false false = c

comma_step : (s : Before) (k : TokenKind) (t : List ℕ) → is_comma (follows s k t) ≡ (at_name s && (is_sign k && bytes_eq t (44 ∷ [])))
unfolding follows
comma_step Open Bare t = of_two is_comma InfoName Name false (is_info t) refl refl
comma_step Other Bare t = of_two is_comma Info Other false (is_info t) refl refl
comma_step Info Bare t = of_two is_comma Info Other false (is_info t) refl refl
comma_step Name Bare t = of_two is_comma Info Other false (is_info t) refl refl
comma_step InfoName Bare t = of_two is_comma Info Other false (is_info t) refl refl
comma_step Comma Bare t = of_two is_comma Info Other false (is_info t) refl refl
comma_step Open Quoted t = refl
comma_step Other Quoted t = refl
comma_step Info Quoted t = refl
comma_step Name Quoted t = refl
comma_step InfoName Quoted t = refl
comma_step Comma Quoted t = refl
comma_step Open Mark t = refl
comma_step Other Mark t = refl
comma_step Info Mark t = of_two is_comma Open Other false (bytes_eq t (40 ∷ [])) refl refl
comma_step Name Mark t = chooses is_comma Comma Other (bytes_eq t (44 ∷ [])) refl refl
comma_step InfoName Mark t = open_or_comma is_comma t refl refl refl
comma_step Comma Mark t = refl
comma_step Open Json t = refl
comma_step Other Json t = refl
comma_step Info Json t = refl
comma_step Name Json t = refl
comma_step InfoName Json t = refl
comma_step Comma Json t = refl

name_step : (s : Before) (k : TokenKind) (t : List ℕ) → at_name (follows s k t) ≡ (at_open s && is_name k)
unfolding follows
name_step Open Bare t = of_two at_name InfoName Name true (is_info t) refl refl
name_step Other Bare t = of_two at_name Info Other false (is_info t) refl refl
name_step Info Bare t = of_two at_name Info Other false (is_info t) refl refl
name_step Name Bare t = of_two at_name Info Other false (is_info t) refl refl
name_step InfoName Bare t = of_two at_name Info Other false (is_info t) refl refl
name_step Comma Bare t = of_two at_name Info Other false (is_info t) refl refl
name_step Open Quoted t = refl
name_step Other Quoted t = refl
name_step Info Quoted t = refl
name_step Name Quoted t = refl
name_step InfoName Quoted t = refl
name_step Comma Quoted t = refl
name_step Open Mark t = refl
name_step Other Mark t = refl
name_step Info Mark t = of_two at_name Open Other false (bytes_eq t (40 ∷ [])) refl refl
name_step Name Mark t = of_two at_name Comma Other false (bytes_eq t (44 ∷ [])) refl refl
name_step InfoName Mark t = never at_name t refl refl refl
name_step Comma Mark t = refl
name_step Open Json t = refl
name_step Other Json t = refl
name_step Info Json t = refl
name_step Name Json t = refl
name_step InfoName Json t = refl
name_step Comma Json t = refl

open_step : (s : Before) (k : TokenKind) (t : List ℕ) → at_open (follows s k t) ≡ (at_info s && (is_sign k && bytes_eq t (40 ∷ [])))
unfolding follows
open_step Open Bare t = of_two at_open InfoName Name false (is_info t) refl refl
open_step Other Bare t = of_two at_open Info Other false (is_info t) refl refl
open_step Info Bare t = of_two at_open Info Other false (is_info t) refl refl
open_step Name Bare t = of_two at_open Info Other false (is_info t) refl refl
open_step InfoName Bare t = of_two at_open Info Other false (is_info t) refl refl
open_step Comma Bare t = of_two at_open Info Other false (is_info t) refl refl
open_step Open Quoted t = refl
open_step Other Quoted t = refl
open_step Info Quoted t = refl
open_step Name Quoted t = refl
open_step InfoName Quoted t = refl
open_step Comma Quoted t = refl
open_step Open Mark t = refl
open_step Other Mark t = refl
open_step Info Mark t = chooses at_open Open Other (bytes_eq t (40 ∷ [])) refl refl
open_step Name Mark t = of_two at_open Comma Other false (bytes_eq t (44 ∷ [])) refl refl
open_step InfoName Mark t = opens_not t
open_step Comma Mark t = refl
open_step Open Json t = refl
open_step Other Json t = refl
open_step Info Json t = refl
open_step Name Json t = refl
open_step InfoName Json t = refl
open_step Comma Json t = refl

info_step : (s : Before) (k : TokenKind) (t : List ℕ) → at_info (follows s k t) ≡ (is_bare k && is_info t)
unfolding follows
info_step Open Bare t = chooses at_info InfoName Name (is_info t) refl refl
info_step Other Bare t = chooses at_info Info Other (is_info t) refl refl
info_step Info Bare t = chooses at_info Info Other (is_info t) refl refl
info_step Name Bare t = chooses at_info Info Other (is_info t) refl refl
info_step InfoName Bare t = chooses at_info Info Other (is_info t) refl refl
info_step Comma Bare t = chooses at_info Info Other (is_info t) refl refl
info_step Open Quoted t = refl
info_step Other Quoted t = refl
info_step Info Quoted t = refl
info_step Name Quoted t = refl
info_step InfoName Quoted t = refl
info_step Comma Quoted t = refl
info_step Open Mark t = refl
info_step Other Mark t = refl
info_step Info Mark t = of_two at_info Open Other false (bytes_eq t (40 ∷ [])) refl refl
info_step Name Mark t = of_two at_info Comma Other false (bytes_eq t (44 ∷ [])) refl refl
info_step InfoName Mark t = never at_info t refl refl refl
info_step Comma Mark t = refl
info_step Open Json t = refl
info_step Other Json t = refl
info_step Info Json t = refl
info_step Name Json t = refl
info_step InfoName Json t = refl
info_step Comma Json t = refl

info_is : (ws : List Word) → at_info (view ws) ≡ ends_info ws
info_is [] = refl
info_is (w ∷ ws) = info_step (view ws) w.0 w.1

open_is : (ws : List Word) → at_open (view ws) ≡ ends_open ws
open_is [] = refl
open_is (w ∷ ws) = open_step (view ws) w.0 w.1 ∙ ap (λ b. b && (is_sign w.0 && bytes_eq w.1 (40 ∷ []))) (info_is ws)

name_is : (ws : List Word) → at_name (view ws) ≡ ends_name ws
name_is [] = refl
name_is (w ∷ ws) = name_step (view ws) w.0 w.1 ∙ ap (λ b. b && is_name w.0) (open_is ws)

pub comma_is : (ws : List Word) → is_comma (view ws) ≡ ends_comma ws
comma_is [] = refl
comma_is (w ∷ ws) = comma_step (view ws) w.0 w.1 ∙ ap (λ b. b && (is_sign w.0 && bytes_eq w.1 (44 ∷ []))) (name_is ws)
