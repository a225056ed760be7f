-- The part of a put is read back, where the server left it unread.
use Rattle.std.proofs.Common.{◌≡◌, ◌∙◌, ℕ, Bool, true, false, cond, List, [], ◌∷◌, ◌++◌, length, drop, Some, Ok, refl, sym, ap, subst, append_assoc, arith}
use Rattle.std.proofs.lemmas.List.{length-append}
use Rattle.std.proofs.Math.Seq.{drop-append_seam}
use Rattle.pva_wire.specs.declared.order.Order.{Order}
use Rattle.pva_wire.specs.Spelling.{number_bytes}
use Rattle.pva_wire.proofs.Digits.{number_len}
use Rattle.pvd_desc.specs.Types.{Types}
use Rattle.pvd_codec.specs.Reading.{part_at}
use Rattle.pvd_codec.specs.Written.{CanEach}
use Rattle.pvd_codec.proofs.PartAgain.{written_part_is_read}
use Rattle.pva_messages.specs.Fields.{Field, Valued, PartData, byte, word, part}
use Rattle.pva_messages.specs.Subcommands.{begins, asks_back, has_part}
use Rattle.pva_messages.specs.Requests as requests
use Rattle.pva_messages.specs.Requests.{Request, PutPart, absent, unread, given, part_place, begun, part_field, PartWhere}
use Rattle.pva_messages.specs.Written.{canonical, canonical_field, CanField, FitsField, seen_part}
use Rattle.pva_messages.specs.Laws.{PartReadBack, given_part}

-- two ids and a subcommand, and what stands behind them
behind_head : (o : Order) (sid req sub : ℕ) (more : List ℕ) → drop part_place (number_bytes o 4 sid ++ (number_bytes o 4 req ++ (number_bytes o 1 sub ++ more))) ≡ more
behind_head o sid req sub more =
    let head = (number_bytes o 4 sid ++ number_bytes o 4 req) ++ number_bytes o 1 sub in
    let long : length head ≡ part_place =
    omega (arith, length-append (number_bytes o 4 sid ++ number_bytes o 4 req) (number_bytes o 1 sub), length-append (number_bytes o 4 sid) (number_bytes o 4 req), number_len o 4 sid, number_len o 4 req, number_len o 1 sub) in
    let whole : number_bytes o 4 sid ++ (number_bytes o 4 req ++ (number_bytes o 1 sub ++ more)) ≡ head ++ more =
    sym (append_assoc (number_bytes o 4 sid) (number_bytes o 4 req) (number_bytes o 1 sub ++ more)) ∙ sym (append_assoc (number_bytes o 4 sid ++ number_bytes o 4 req) (number_bytes o 1 sub) more) in
    ap (drop part_place) whole ∙ ap (λ (n : ℕ). drop n (head ++ more)) (sym long) ∙ drop-append_seam head more

abbrev put_fields : ℕ → ℕ → ℕ → Valued → PartData → List Field
put_fields sid req sub v p = word sid ∷ word req ∷ byte sub ∷ (begun sub v ++ part p ∷ [])

no_beginning : (b c : Bool) (p : PartData) → PartWhere (cond b false (cond c false true)) (given p) → b ≡ false
no_beginning true c p h = absurd cc
no_beginning false c p h = refl

part_of : (o : Order) (before : Types) (sid req sub : ℕ) (v : Valued) (p : PartData) → begins sub ≡ false → CanEach FitsField (put_fields sid req sub v p) → CanEach CanField (put_fields sid req sub v p)
    → part_at o p.ty (drop part_place (canonical o (put_fields sid req sub v p)), before) ≡ Ok ((p.mask, (seen_part p).value), ([], before))
part_of o before sid req sub v p e fits can =
    let all : put_fields sid req sub v p ≡ word sid ∷ word req ∷ byte sub ∷ part p ∷ [] = rw e refl in
    let fit = subst (CanEach FitsField) all fits in
    let able = subst (CanEach CanField) all can in
    ap (λ (fs : List Field). part_at o p.ty (drop part_place (canonical o fs), before)) all
    ∙ ap (λ (b : List ℕ). part_at o p.ty (b, before)) (behind_head o sid req sub (canonical_field o (part p) ++ []))
    ∙ written_part_is_read o before p.ty p.mask p.value [] able.1.1.1.0.0 fit.1.1.1.0.0 fit.1.1.1.0.1 able.1.1.1.0.1

put_part_back : (o : Order) (before : Types) (sid req sub : ℕ) (v : Valued) (q : PutPart) (p : PartData) → PartWhere (has_part sub) q → given_part q ≡ Some p
    → CanEach FitsField (word sid ∷ word req ∷ byte sub ∷ (begun sub v ++ part_field q)) → CanEach CanField (word sid ∷ word req ∷ byte sub ∷ (begun sub v ++ part_field q))
    → part_at o p.ty (drop part_place (canonical o (word sid ∷ word req ∷ byte sub ∷ (begun sub v ++ part_field q))), before) ≡ Ok ((p.mask, (seen_part p).value), ([], before))
put_part_back o before sid req sub v absent p there is fits can = absurd cc
put_part_back o before sid req sub v (unread place) p there is fits can = absurd cc
put_part_back o before sid req sub v (given q) p there is fits can =
    let same : q ≡ p = cc in
    subst (λ (r : PartData). part_at o r.ty (drop part_place (canonical o (put_fields sid req sub v q)), before) ≡ Ok ((r.mask, (seen_part r).value), ([], before))) same
    (part_of o before sid req sub v q (no_beginning (begins sub) (asks_back sub) q there) fits can)

pub part_back : PartReadBack
part_back o before (requests.put sid req sub v q) p (send, fits, can) is = put_part_back o before sid req sub v q p send.1 is fits can
part_back o before (requests.put_get sid req sub v q) p (send, fits, can) is = put_part_back o before sid req sub v q p send.1 is fits can
part_back o before m p writable is = absurd cc
