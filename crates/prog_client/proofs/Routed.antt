-- What the options for the network ask for.
use Rattle.std.proofs.Common.{◌≡◌, ◌≢◌, ◌<◌, ℕ, Bor, List, [], length, map, get_or, Option, None, Some, Result, Ok, Err, refl, sym, ◌∙◌, ap, subst, arith}
use Rattle.std.specs.Prelude.{IfOk, MatchOption}
use Rattle.std.proofs.lemmas.List.{get_or-map, length-map}
use Rattle.pva_outside.specs.declared.peer.Peer.{Peer}
use Rattle.prog_source.specs.Words.{IsCount, IsCountOr}
use Rattle.prog_client.specs.Routes.{AreEnds, IsAddress, IsAddressOr, IsHost, IsIpv4, RouteIs, colon_parts, dot_parts, ipv4, this_machine}
use Rattle.prog_client.specs.declared.networking.Route.{Route}

-- An address.

pub no_first : (w x y z : List ℕ) → ((n : ℕ) → ¬ (IsCount w 0 255 n)) → (a : List ℕ) → ¬ (IsIpv4 w x y z a)
no_first w x y z none a is = none is.a is.a_is

pub no_second : (w x y z : List ℕ) → ((n : ℕ) → ¬ (IsCount x 0 255 n)) → (a : List ℕ) → ¬ (IsIpv4 w x y z a)
no_second w x y z none a is = none is.b is.b_is

pub no_third : (w x y z : List ℕ) → ((n : ℕ) → ¬ (IsCount y 0 255 n)) → (a : List ℕ) → ¬ (IsIpv4 w x y z a)
no_third w x y z none a is = none is.c is.c_is

pub no_fourth : (w x y z : List ℕ) → ((n : ℕ) → ¬ (IsCount z 0 255 n)) → (a : List ℕ) → ¬ (IsIpv4 w x y z a)
no_fourth w x y z none a is = none is.d is.d_is

pub is_ipv4 : (w x y z : List ℕ) (a b c d : ℕ) → IsCount w 0 255 a → IsCount x 0 255 b → IsCount y 0 255 c → IsCount z 0 255 d → IsIpv4 w x y z (ipv4 a b c d)
is_ipv4 w x y z a b c d p q r s = record { a = a; b = b; c = c; d = d; a_is = p; b_is = q; c_is = r; d_is = s; address_is = refl }

-- the same of other texts
ipv4_as : {w x y z w2 x2 y2 z2 : List ℕ} (a : List ℕ) → w ≡ w2 → x ≡ x2 → y ≡ y2 → z ≡ z2 → IsIpv4 w x y z a → IsIpv4 w2 x2 y2 z2 a
ipv4_as a p q r s is = record {
  a = is.a;
  b = is.b;
  c = is.c;
  d = is.d;
  a_is = subst (λ (t : List ℕ). IsCount t 0 255 is.a) p is.a_is;
  b_is = subst (λ (t : List ℕ). IsCount t 0 255 is.b) q is.b_is;
  c_is = subst (λ (t : List ℕ). IsCount t 0 255 is.c) r is.c_is;
  d_is = subst (λ (t : List ℕ). IsCount t 0 255 is.d) s is.d_is;
  address_is = is.address_is;
}

-- The texts of parts.

abbrev pub texts_of : List (Bor (List ℕ)) → List (List ℕ)
texts_of parts = map (λ (part : Bor (List ℕ)). part.now) parts

pub not_four : (parts : List (Bor (List ℕ))) → length parts ≢ 4 → (a : List ℕ) → ¬ (IsHost (texts_of parts) a)
not_four parts other a is = other (sym (length-map parts (λ (part : Bor (List ℕ)). part.now)) ∙ is.four)

pub host_of : (parts : List (Bor (List ℕ))) (o : Option (List ℕ)) (w x y z : List ℕ) (b0 b1 b2 b3 : Bor (List ℕ)) → length parts ≡ 4 → w ≡ (get_or parts 0 b0).now → x ≡ (get_or parts 1 b1).now → y ≡ (get_or parts 2 b2).now
    → z ≡ (get_or parts 3 b3).now → MatchOption o ((a : List ℕ) → ¬ (IsIpv4 w x y z a)) (IsIpv4 w x y z) → MatchOption o ((a : List ℕ) → ¬ (IsHost (texts_of parts) a)) (IsHost (texts_of parts))
host_of parts o w x y z b0 b1 b2 b3 four p q r s is = by_ipv4 o is
  where
    at : (i : ℕ) (b : Bor (List ℕ)) (t : List ℕ) → i < length parts → t ≡ (get_or parts i b).now → t ≡ get_or (texts_of parts) i []
    at i b t less is = is ∙ sym (get_or-map (λ (part : Bor (List ℕ)). part.now) parts i b [] less)

    by_ipv4 : (o : Option (List ℕ)) → MatchOption o ((a : List ℕ) → ¬ (IsIpv4 w x y z a)) (IsIpv4 w x y z) → MatchOption o ((a : List ℕ) → ¬ (IsHost (texts_of parts) a)) (IsHost (texts_of parts))
    by_ipv4 None none =
        λ a is. none a (ipv4_as a (sym (at 0 b0 w (omega (arith, four)) p)) (sym (at 1 b1 x (omega (arith, four)) q)) (sym (at 2 b2 y (omega (arith, four)) r)) (sym (at 3 b3 z (omega (arith, four)) s)) is.each)
    by_ipv4 (Some a) is = record {
      four = length-map parts (λ (part : Bor (List ℕ)). part.now) ∙ four;
      each = ipv4_as a (at 0 b0 w (omega (arith, four)) p) (at 1 b1 x (omega (arith, four)) q) (at 2 b2 y (omega (arith, four)) r) (at 3 b3 z (omega (arith, four)) s) is;
    }

-- Why two texts, or one, name no address.

pub no_host : (host port : List ℕ) (parts : List (Bor (List ℕ))) → texts_of parts ≡ dot_parts host → ((a : List ℕ) → ¬ (IsHost (texts_of parts) a)) → (p : Peer) → ¬ (AreEnds host port p)
no_host host port parts cut none p is = none p.address (subst (λ (l : List (List ℕ)). IsHost l p.address) (sym cut) is.host_is)

pub no_port : (host port : List ℕ) → ((n : ℕ) → ¬ (IsCount port 0 65535 n)) → (p : Peer) → ¬ (AreEnds host port p)
no_port host port none p is = none p.port is.port_is

pub are_ends : (host port : List ℕ) (parts : List (Bor (List ℕ))) (p : Peer) → texts_of parts ≡ dot_parts host → IsHost (texts_of parts) p.address → IsCount port 0 65535 p.port → AreEnds host port p
are_ends host port parts p cut host_is port_is = record { host_is = subst (λ (l : List (List ℕ)). IsHost l p.address) cut host_is; port_is = port_is }

pub not_two : (text : List ℕ) (parts : List (Bor (List ℕ))) → texts_of parts ≡ colon_parts text → length parts ≢ 2 → (p : Peer) → ¬ (IsAddress text p)
not_two text parts cut other p is = other (sym (length-map parts (λ (part : Bor (List ℕ)). part.now)) ∙ ap length cut ∙ is.two)

pub address_of : (text : List ℕ) (parts : List (Bor (List ℕ))) (o : Option Peer) (x y : Bor (List ℕ)) → texts_of parts ≡ colon_parts text → length parts ≡ 2 → x ≡ get_or parts 0 x → y ≡ get_or parts 1 y
    → MatchOption o ((p : Peer) → ¬ (AreEnds x.now y.now p)) (AreEnds x.now y.now) → MatchOption o ((p : Peer) → ¬ (IsAddress text p)) (IsAddress text)
address_of text parts o x y cut two p q is = by_ends o is
  where
    at : (i : ℕ) (b : Bor (List ℕ)) → i < length parts → b ≡ get_or parts i b → b.now ≡ get_or (colon_parts text) i []
    at i b less is = ap (λ (c : Bor (List ℕ)). c.now) is ∙ sym (get_or-map (λ (part : Bor (List ℕ)). part.now) parts i b [] less) ∙ ap (λ (l : List (List ℕ)). get_or l i []) cut

    ends_as : {host port host2 port2 : List ℕ} (p : Peer) → host ≡ host2 → port ≡ port2 → AreEnds host port p → AreEnds host2 port2 p
    ends_as p e f is = record { host_is = subst (λ (t : List ℕ). IsHost (dot_parts t) p.address) e is.host_is; port_is = subst (λ (t : List ℕ). IsCount t 0 65535 p.port) f is.port_is }

    by_ends : (o : Option Peer) → MatchOption o ((p : Peer) → ¬ (AreEnds x.now y.now p)) (AreEnds x.now y.now) → MatchOption o ((p : Peer) → ¬ (IsAddress text p)) (IsAddress text)
    by_ends None none = λ peer is. none peer (ends_as peer (sym (at 0 x (omega (arith, two)) p)) (sym (at 1 y (omega (arith, two)) q)) is.ends)
    by_ends (Some peer) is = record {
      two = sym (ap length cut) ∙ length-map parts (λ (part : Bor (List ℕ)). part.now) ∙ two;
      ends = ends_as peer (at 0 x (omega (arith, two)) p) (at 1 y (omega (arith, two)) q) is;
    }

pub address_in : {E : Type 0} (text : List ℕ) (parts : List (Bor (List ℕ))) (r : Result (Option Peer) E) (x y : Bor (List ℕ)) → texts_of parts ≡ colon_parts text → length parts ≡ 2 → x ≡ get_or parts 0 x → y ≡ get_or parts 1 y
    → IfOk r (λ o. MatchOption o ((p : Peer) → ¬ (AreEnds x.now y.now p)) (AreEnds x.now y.now)) → IfOk r (λ o. MatchOption o ((p : Peer) → ¬ (IsAddress text p)) (IsAddress text))
address_in text parts (Ok o) x y cut two p q is = address_of text parts o x y cut two p q is
address_in text parts (Err e) x y cut two p q is = tt

-- the same route by other texts
pub route_as : {E : Type 0} (r : Result (Option Route) E) {s s2 q q2 n n2 : Option (List ℕ)} → s ≡ s2 → q ≡ q2 → n ≡ n2 → IfOk r (λ o. MatchOption o ((r : Route) → ¬ (RouteIs s q n r)) (RouteIs s q n))
    → IfOk r (λ o. MatchOption o ((r : Route) → ¬ (RouteIs s2 q2 n2 r)) (RouteIs s2 q2 n2))
route_as r {s} {s2} {q} {q2} {n} {n2} e f g is =
    subst (λ (t : Option (List ℕ)). IfOk r (λ o. MatchOption o ((r : Route) → ¬ (RouteIs s2 q2 t r)) (RouteIs s2 q2 t))) g
    (subst (λ (t : Option (List ℕ)). IfOk r (λ o. MatchOption o ((r : Route) → ¬ (RouteIs s2 t n r)) (RouteIs s2 t n))) f
    (subst (λ (t : Option (List ℕ)). IfOk r (λ o. MatchOption o ((r : Route) → ¬ (RouteIs t q n r)) (RouteIs t q n))) e is))

-- Why they ask for no route.

pub no_search : (server search rounds : Option (List ℕ)) → ((p : Peer) → ¬ (IsAddressOr search this_machine p)) → (r : Route) → ¬ (RouteIs server search rounds r)
no_search server search rounds none r is = none is.to is.to_is

pub no_rounds : (server search rounds : Option (List ℕ)) → ((n : ℕ) → ¬ (IsCountOr rounds 1 2147483647 3 n)) → (r : Route) → ¬ (RouteIs server search rounds r)
no_rounds server search rounds none r is = none is.count is.count_is

pub no_server : (text : List ℕ) (search rounds : Option (List ℕ)) → ((p : Peer) → ¬ (IsAddress text p)) → (r : Route) → ¬ (RouteIs (Some text) search rounds r)
no_server text search rounds none r is = none is.route_is.0 is.route_is.1
