-- Where the part of a put stands.
use Rattle.std.proofs.Common.{◌≡◌, ◌∙◌, ◌≤◌, ℕ, List, ◌∷◌, ◌++◌, length, Option, Some, None, sym, ap, subst, arith}
use Rattle.std.proofs.lemmas.List.{length-append}
use Rattle.pva_wire.specs.declared.order.Order.{Order}
use Rattle.pva_wire.specs.Spelling.{number_bytes}
use Rattle.pva_wire.proofs.Digits.{number_len}
use Rattle.pvd_desc.specs.Types.{Types}
use Rattle.pva_messages.specs.declared.command.Command.{Command}
use Rattle.pva_messages.specs.declared.command.Command.TheVariants as command
use Rattle.pva_messages.specs.Fields.{Field, byte, short, word, text, channels, valued, last_valued, rest}
use Rattle.pva_messages.specs.Requests as requests
use Rattle.pva_messages.specs.Requests.{Request, part_place, request_of}
use Rattle.pva_messages.specs.Grammar.{SpellsAll}
use Rattle.pva_messages.specs.Rows.{Row, command_of, to_server}
use Rattle.pva_messages.specs.Reading.{row_of, made_by}
use Rattle.pva_messages.specs.Payloads.{IsMessage, IsRequest}
use Rattle.srv_session.specs.Views.{HasPlace}

number_long : (o : Order) (n x : ℕ) (bytes : List ℕ) → bytes ≡ number_bytes o n x → length bytes ≡ n
number_long o n x bytes h = ap length h ∙ number_len o n x

-- two ids and a subcommand take so many bytes
head_long : (o : Order) (sid req sub : ℕ) (fields : List Field) (before : Types) (front : List ℕ) (after : Types) (follow : List ℕ) → SpellsAll o (word sid ∷ word req ∷ byte sub ∷ fields) before front after follow
    → part_place ≤ length (front ++ follow)
head_long o sid req sub fields before front after follow (a, b, m, one, (c, d, n, two, (e, f, k, three, others, p3), p2), p1) =
    let l1 = number_long o 4 sid a one.0.1 in
    let l2 = number_long o 4 req c two.0.1 in
    let l3 = number_long o 1 sub e three.0.1 in
    let q3 = ap length p3 ∙ length-append e f in
    let q2 = ap length p2 ∙ length-append c d in
    let q1 = ap length p1 ∙ length-append a b in
    omega (arith, l1, l2, l3, q1, q2, q3, length-append front follow)

fields_long : (o : Order) (c : Command) (fields : List Field) (before : Types) (front : List ℕ) (after : Types) (follow : List ℕ) → SpellsAll o fields before front after follow
    → HasPlace (request_of c fields) (length (front ++ follow))
fields_long o command.Validation (word buffer ∷ short registry ∷ short qos ∷ text method ∷ last_valued v ∷ fields) before front after follow h = tt
fields_long o command.Echo (rest xs ∷ fields) before front after follow h = tt
fields_long o command.CreateChannel (channels cs ∷ fields) before front after follow h = tt
fields_long o command.DestroyChannel (word sid ∷ word cid ∷ fields) before front after follow h = tt
fields_long o command.Get (word sid ∷ word req ∷ byte sub ∷ fields) before front after follow h = tt
fields_long o command.Put (word sid ∷ word req ∷ byte sub ∷ fields) before front after follow h = head_long o sid req sub fields before front after follow h
fields_long o command.PutGet (word sid ∷ word req ∷ byte sub ∷ fields) before front after follow h = head_long o sid req sub fields before front after follow h
fields_long o command.Monitor (word sid ∷ word req ∷ byte sub ∷ fields) before front after follow h = tt
fields_long o command.DestroyRequest (word sid ∷ word req ∷ fields) before front after follow h = tt
fields_long o command.Cancel (word sid ∷ word req ∷ fields) before front after follow h = tt
fields_long o command.GetField (word sid ∷ word req ∷ text path ∷ fields) before front after follow h = tt
fields_long o command.Message (word req ∷ byte kind ∷ text t ∷ fields) before front after follow h = tt
fields_long o command.Rpc (word sid ∷ word req ∷ byte sub ∷ valued v ∷ fields) before front after follow h = tt
fields_long o c fields before front after follow h = tt

row_long : (o : Order) (c : Option Command) (row : Option Row) (number : ℕ) (before : Types) (front follow : List ℕ) (m : Request) (after : Types)
    → IsMessage o row (made_by request_of (requests.skipped number) c) (requests.skipped number) before front follow m after → HasPlace m (length (front ++ follow))
row_long o c None number before front follow m after (none, is, same) = subst (λ (m : Request). HasPlace m (length (front ++ follow))) (sym is) tt
row_long o None (Some row) number before front follow m after (fields, of, spelled, is) = subst (λ (m : Request). HasPlace m (length (front ++ follow))) (sym is) tt
row_long o (Some c) (Some row) number before front follow m after (fields, of, spelled, is) =
    subst (λ (m : Request). HasPlace m (length (front ++ follow))) (sym is) (fields_long o c fields before front after follow spelled)

pub put_has_place : (o : Order) (number : ℕ) (before : Types) (front follow : List ℕ) (m : Request) (after : Types) → IsRequest o None number before front follow m after → HasPlace m (length (front ++ follow))
unfolding IsRequest
put_has_place o number before front follow m after h = row_long o (command_of number) (row_of (to_server None) (command_of number)) number before front follow m after h
