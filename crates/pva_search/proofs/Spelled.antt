-- A datagram is read as a message exactly where it spells one.
use Rattle.std.proofs.Common.{◌≡◌, ◌∙◌, ℕ, List, ◌++◌, take, drop, Some, sym, ap, arith, length-take}
use Rattle.std.proofs.lemmas.List.{drop_at, take-append-drop}
use Rattle.pva_wire.specs.declared.order.Order.{Order}
use Rattle.pva_search.specs.Fields.{Field}
use Rattle.pva_search.specs.Messages.{search_fields, response_fields, search_command, response_command}
use Rattle.pva_search.specs.Grammar.{IsSpelled}
use Rattle.pva_search.specs.Reading.{message_in, search_at, response_at, in_order, read_by}
use Rattle.pva_search.specs.Laws.{SearchIsRead, SearchIsSpelled, ResponseIsRead, ResponseIsSpelled}
use Rattle.pva_search.proofs.Again.{search_again, response_again}
use Rattle.pva_search.proofs.Taking.{search_take, response_take}
use Rattle.pva_search.proofs.Within.{search_within, response_within, has_eight}

-- the order and the payload of a datagram that spells some items
message_is : (command : ℕ) (bytes : List ℕ) (order : Order) (fields : List Field) (p : IsSpelled command bytes order fields)
    → message_in command bytes ≡ Some (order, p.front ++ p.more)
message_is command bytes order fields p =
    let message = p.message in
    let payload : drop 8 bytes ≡ p.front ++ p.more = ap (drop 8) p.parts ∙ drop_at p.head (p.front ++ p.more) 8 p.size in
    rw message (ap (λ (o : Order). Some (o, drop 8 bytes)) (sym p.told) ∙ ap (λ (xs : List ℕ). Some (order, xs)) payload)

pub search_is_read : SearchIsRead
search_is_read bytes order unused s three sixteen p =
    ap (λ m. read_by search_at m) (message_is search_command bytes order (search_fields unused s) p)
    ∙ ap (in_order order) (search_again order unused s p.front p.more three sixteen p.items)

pub response_is_read : ResponseIsRead
response_is_read bytes order r twelve sixteen p =
    ap (λ m. read_by response_at m) (message_is response_command bytes order (response_fields r) p)
    ∙ ap (in_order order) (response_again order r p.front p.more twelve sixteen p.items)

pub search_spells : SearchIsSpelled
search_spells datagram order s fits h =
    let w = search_within datagram order s fits h in
    let t = search_take order (drop 8 datagram) (s, w.rest) w.fits w.given in (
      t.0,
      t.1,
      t.2,
      record {
        head = take 8 datagram;
        front = t.3.0;
        more = w.rest;
        size = omega (arith, length-take 8 datagram, has_eight search_command datagram w.message);
        parts = sym (take-append-drop 8 datagram) ∙ ap (λ (xs : List ℕ). take 8 datagram ++ xs) t.3.2.parts;
        message = w.message;
        told = w.told;
        items = t.3.1;
      },
    )

pub response_spells : ResponseIsSpelled
response_spells datagram order r fits h =
    let w = response_within datagram order r fits h in
    let t = response_take order (drop 8 datagram) (r, w.rest) w.fits w.given in (
      t.0,
      t.1,
      record {
        head = take 8 datagram;
        front = t.2.0;
        more = w.rest;
        size = omega (arith, length-take 8 datagram, has_eight response_command datagram w.message);
        parts = sym (take-append-drop 8 datagram) ∙ ap (λ (xs : List ℕ). take 8 datagram ++ xs) t.2.2.parts;
        message = w.message;
        told = w.told;
        items = t.2.1;
      },
    )
