-- What stands in a datagram that is read.
use Rattle.std.proofs.Common.{◌≡◌, ◌∙◌, ℕ, ◌≤◌, ◌&&◌, Bool, true, false, cond, eqb, leb, List, length, take, drop, slice_index, Some, None, Ok, Err, refl, sym, ap}
use Rattle.std.proofs.lemmas.Bool.{leb-true}
use Rattle.pva_wire.specs.declared.order.Order.{Order}
use Rattle.pva_wire.specs.Spelling.{IsBytes}
use Rattle.pva_wire.specs.Reading.{Read}
use Rattle.pva_wire.proofs.Takes.{IsBytes-drop}
use Rattle.pva_search.specs.Messages.{Search, Response, search_command, response_command}
use Rattle.pva_search.specs.Reading.{has_header, is_whole, is_message, header_in, in_order, read_by, search_at, response_at, search_in, response_in}

-- the datagram is a message of this command and order, whose payload is read as this, and then these bytes
pub record ReadWithin {A : Type 0} (command : ℕ) (read : Order → List ℕ → Read A) (datagram : List ℕ) (o : Order) (a : A) : Type 0 where
  pub rest : List ℕ
  pub message : is_message command datagram ≡ true
  pub told : o ≡ (header_in datagram).order
  pub fits : IsBytes (drop 8 datagram)
  pub given : read o (drop 8 datagram) ≡ Ok (a, rest)

some_is : {A : Type 0} (x y : A) → Some x ≡ Some y → x ≡ y
some_is x y e = cc

in_order_is : {A : Type 0} (command : ℕ) (read : Order → List ℕ → Read A) (datagram : List ℕ) (o : Order) (a : A) (r : Read A)
    → IsBytes datagram → is_message command datagram ≡ true → read (header_in datagram).order (drop 8 datagram) ≡ r
    → in_order (header_in datagram).order r ≡ Some (o, a) → ReadWithin command read datagram o a
in_order_is {A} command read datagram o a (Ok x) fits message is h =
    let e = some_is ((header_in datagram).order, x.0) (o, a) h in
    let order : (header_in datagram).order ≡ o = ap (λ (z : Order × A). z.0) e in
    let value : x.0 ≡ a = ap (λ (z : Order × A). z.1) e in
    record {
      rest = x.1;
      message = message;
      told = sym order;
      fits = IsBytes-drop 8 datagram fits;
      given = ap (λ (p : Order). read p (drop 8 datagram)) (sym order) ∙ is ∙ ap (λ (b : A). Ok (b, x.1)) value;
    }
in_order_is command read datagram o a (Err e) fits message is h = absurd cc

within : {A : Type 0} (command : ℕ) (read : Order → List ℕ → Read A) (datagram : List ℕ) (o : Order) (a : A) (b : Bool)
    → IsBytes datagram → is_message command datagram ≡ b
    → read_by read (cond b (Some ((header_in datagram).order, drop 8 datagram)) None) ≡ Some (o, a) → ReadWithin command read datagram o a
within command read datagram o a true fits message h =
    in_order_is command read datagram o a (read (header_in datagram).order (drop 8 datagram)) fits message refl h
within command read datagram o a false fits message h = absurd cc

pub search_within : (datagram : List ℕ) (o : Order) (s : Search) → IsBytes datagram → search_in datagram ≡ Some (o, s) → ReadWithin search_command search_at datagram o s
search_within datagram o s fits h = within search_command search_at datagram o s (is_message search_command datagram) fits refl h

pub response_within : (datagram : List ℕ) (o : Order) (r : Response) → IsBytes datagram → response_in datagram ≡ Some (o, r) → ReadWithin response_command response_at datagram o r
response_within datagram o r fits h = within response_command response_at datagram o r (is_message response_command datagram) fits refl h

front_true : (a b : Bool) → (a && b) ≡ true → a ≡ true
front_true true b h = refl
front_true false b h = absurd cc

-- a message has a header
pub has_eight : (command : ℕ) (datagram : List ℕ) → is_message command datagram ≡ true → 8 ≤ length datagram
has_eight command datagram h = leb-true 8 (length datagram) (front_true (leb 8 (length datagram)) (eqb (slice_index (take 8 datagram) 0) 202) (front_true (has_header datagram) (is_whole command (length datagram) (header_in datagram)) h))
