-- Events added, with a payload kept.
use Rattle.std.proofs.Common.{◌≡◌, ℕ, ◌≤◌, List, [], ◌∷◌, ◌++◌, length, take, drop, refl, sym, ap, ◌∙◌, arith, append_assoc}
use Rattle.std.proofs.lemmas.List.{append-nil, take_all, take-append-le, drop-append-le, length-take, take-append-drop}
use Rattle.pva_frames.specs.declared.event.Event.{Event}
use Rattle.pva_frames.specs.declared.event.Event.TheVariants.{Message, Control}
use Rattle.pva_frames.specs.Reader.{Grows, first_payload}

-- nothing was added, and the payload has these bytes more
pub grows-longer : (es : List Event) (p : List ℕ) (es' : List Event) (p' x : List ℕ) → es' ≡ es → p' ≡ p ++ x → Grows es p es' p'
grows-longer es p es' p' x e h = record {
  added = [];
  events = e ∙ sym (append-nil es);
  payload = ap (take (length p)) h ∙ take-append-le (length p) p x (omega arith) ∙ take_all (length p) p (omega arith);
}

pub grows-nothing : (es : List Event) (p : List ℕ) (es' : List Event) → es' ≡ es → Grows es p es' p
grows-nothing es p es' e = grows-longer es p es' p [] e (sym (append-nil p))

-- behind other events
first_payload-append : (es fs : List Event) (p : List ℕ) → first_payload (es ++ fs) p ≡ first_payload es (first_payload fs p)
first_payload-append [] fs p = refl
first_payload-append (Message whole ∷ es) fs p = refl
first_payload-append (Control command number ∷ es) fs p = first_payload-append es fs p

-- what stands in front of a payload stands in front of a longer one
front-kept : (es : List Event) (p q r : List ℕ) → take (length p) (first_payload es q) ≡ p → take (length q) r ≡ q → take (length p) (first_payload es r) ≡ p
front-kept [] p q r h k =
    let short : length p ≤ length q = omega (arith, length-take (length p) q, ap length h) in
    let all : q ++ drop (length q) r ≡ r = ap (λ (l : List ℕ). l ++ drop (length q) r) (sym k) ∙ take-append-drop (length q) r in
    ap (take (length p)) (sym all) ∙ take-append-le (length p) q (drop (length q) r) short ∙ h
front-kept (Message whole ∷ es) p q r h k = h
front-kept (Control command number ∷ es) p q r h k = front-kept es p q r h k

pub grows-on : {es : List Event} {p : List ℕ} {fs : List Event} {q : List ℕ} {gs : List Event} {r : List ℕ} → Grows es p fs q → Grows fs q gs r → Grows es p gs r
grows-on {es} {p} {fs} {q} {gs} {r} a b = record {
  added = a.added ++ b.added;
  events = b.events ∙ ap (λ (l : List Event). l ++ b.added) a.events ∙ append_assoc es a.added b.added;
  payload = ap (take (length p)) (first_payload-append a.added b.added r) ∙ front-kept a.added p q (first_payload b.added r) a.payload b.payload;
}

-- the last event is taken away
pub front_of : (n : ℕ) (es : List Event) (e : Event) → n ≤ length es → take n es ≡ take n (es ++ e ∷ [])
front_of n es e h = sym (take-append-le n es (e ∷ []) h)

pub payload_of : (n : ℕ) (es : List Event) (e : Event) (p : List ℕ) → n ≤ length es → first_payload (drop n es) (first_payload (e ∷ []) p) ≡ first_payload (drop n (es ++ e ∷ [])) p
payload_of n es e p h =
    sym (ap (λ (l : List Event). first_payload l p) (drop-append-le n es (e ∷ []) h) ∙ first_payload-append (drop n es) (e ∷ []) p)
