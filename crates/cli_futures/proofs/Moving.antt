-- The bytes of a link over many calls. They are those of `srv_stream`, which crates of a client don't stand on.
use Rattle.std.proofs.Common.{ℕ, List, [], ◌++◌, take, Option, None, Some, refl, sym, ◌∙◌, ap, append_assoc}
use Rattle.std.proofs.lemmas.List.{append-nil}
use Rattle.std.specs.Io.KnownBytes.{Keeps, Appends, Consumes, IsAtEnd}
use Rattle.pva_outside.specs.Wire.{Wire, Rests, Gave, Taken}
use Rattle.cli_futures.specs.Moves.{Moves, IsAll}

consumes_more : (a b c : Option (List ℕ)) (xs ys : List ℕ) → Consumes a b xs → Consumes b c ys → Consumes a c (xs ++ ys)
consumes_more None b c xs ys p q = tt
consumes_more (Some a) None c xs ys p q = absurd p
consumes_more (Some a) (Some b) None xs ys p q = absurd q
consumes_more (Some a) (Some b) (Some c) xs ys p q = p ∙ ap (λ (l : List ℕ). xs ++ l) q ∙ sym (append_assoc xs ys c)

consumes_keeps : (a b c : Option (List ℕ)) (xs : List ℕ) → Consumes a b xs → Keeps b c → Consumes a c xs
consumes_keeps None b c xs p q = tt
consumes_keeps (Some a) None c xs p q = absurd p
consumes_keeps (Some a) (Some b) None xs p q = absurd q
consumes_keeps (Some a) (Some b) (Some c) xs p q = p ∙ ap (λ (l : List ℕ). xs ++ l) (sym q)

appends_more : (a b c : Option (List ℕ)) (xs ys : List ℕ) → Appends a b xs → Appends b c ys → Appends a c (xs ++ ys)
appends_more None b c xs ys p q = tt
appends_more (Some a) None c xs ys p q = absurd p
appends_more (Some a) (Some b) None xs ys p q = absurd q
appends_more (Some a) (Some b) (Some c) xs ys p q = q ∙ ap (λ (l : List ℕ). l ++ ys) p ∙ append_assoc a xs ys

appends_keeps : (a b c : Option (List ℕ)) (xs : List ℕ) → Appends a b xs → Keeps b c → Appends a c xs
appends_keeps None b c xs p q = tt
appends_keeps (Some a) None c xs p q = absurd p
appends_keeps (Some a) (Some b) None xs p q = absurd q
appends_keeps (Some a) (Some b) (Some c) xs p q = q ∙ p

pub moves_rest : {s a b : Wire} {r w : List ℕ} → Moves s a r w → Rests a b → Moves s b r w
moves_rest {s} {a} {b} {r} {w} m x = record {
  taken = consumes_keeps s.left a.left b.left r m.taken x.left;
  given = appends_keeps s.written a.written b.written w m.given x.written;
}

pub moves_got : {s a b : Wire} {r w : List ℕ} {n : ℕ} {buffer : List ℕ} → Moves s a r w → Gave a b n buffer → Moves s b (r ++ take n buffer) w
moves_got {s} {a} {b} {r} {w} {n} {buffer} m x = record {
  taken = consumes_more s.left a.left b.left r (take n buffer) m.taken x.taken;
  given = appends_keeps s.written a.written b.written w m.given x.written;
}

pub moves_took : {s a b : Wire} {r w : List ℕ} {n : ℕ} {bytes : List ℕ} → Moves s a r w → Taken a b n bytes → Moves s b r (w ++ take n bytes)
moves_took {s} {a} {b} {r} {w} {n} {bytes} m x = record {
  taken = consumes_keeps s.left a.left b.left r m.taken x.left;
  given = appends_more s.written a.written b.written w (take n bytes) m.given x.given;
}

-- the end was told, so all was read
pub all_read : (a b : Option (List ℕ)) (read : List ℕ) → Consumes a b read → IsAtEnd b → IsAll a read
all_read None b read taken end = tt
all_read (Some a) None read taken end = absurd taken
all_read (Some a) (Some b) read taken end = taken ∙ ap (λ (l : List ℕ). read ++ l) end ∙ append-nil read

-- no byte moved

consumes_none : (a : Option (List ℕ)) → Consumes a a []
consumes_none None = tt
consumes_none (Some a) = refl

appends_none : (a : Option (List ℕ)) → Appends a a []
appends_none None = tt
appends_none (Some a) = sym (append-nil a)

pub moves_nothing : (w : Wire) → Moves w w [] []
moves_nothing w = record { taken = consumes_none w.left; given = appends_none w.written }
