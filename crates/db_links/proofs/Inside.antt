-- Links name records of their text.
use Rattle.std.proofs.Common.{◌≡◌, ℕ, ◌+◌, ◌<◌, Bool, true, false, cond, ltb, Option, None, Some, List, [], ◌∷◌, length, map, refl, ap, ◌∙◌, arith, codes, IfSome}
use Rattle.std.proofs.lemmas.Bool.{lt-ltb}
use Rattle.std.proofs.lemmas.List.{length-map}
use Rattle.std.specs.List.{list_all, list_any}
use Rattle.std.specs.Option.{option_or, option_map, option_and_then}
use Rattle.std.specs.Str.{bytes_eq}
use Rattle.rec_kinds.specs.Given.{text_of}
use Rattle.rec_kinds.specs.declared.record_text.RecText.{RecText}
use Rattle.db_links.specs.Words.{words, before}
use Rattle.db_links.specs.Live.{number_from, number_of, number_before, value_of, target_named, link_of, link_in, links_in, links_of, counted, has_inp, out_counts, is_inside, all_inside, are_inside}
use Rattle.db_links.specs.declared.link.Link.{Link}

abbrev Below : ℕ → Option ℕ → Type 0
Below count o = IfSome o (λ k. k < count)

numbered : (n count : ℕ) (rs : List RecText) (name : List ℕ) → n + length rs ≡ count → Below count (number_from n rs name)
numbered n count [] name e = tt
numbered n count (r ∷ rs) name e =
    elim (bytes_eq r.name name) as (λ b. Below count (cond b (Some n) (number_from (n + 1) rs name))) [
      | true ↦ omega arith
      | false ↦ numbered (n + 1) count rs name (omega arith)
    ]

either : (count : ℕ) (a b : Option ℕ) → Below count a → Below count b → Below count (option_or a b)
either count None b p q = q
either count (Some k) b p q = p

behind : {X : Type 0} (count : ℕ) (f : X → Option ℕ) (o : Option X) → ((x : X) → Below count (f x)) → Below count (option_and_then f o)
behind count f None h = tt
behind count f (Some x) h = h x

chosen : (count : ℕ) (b : Bool) (o : Option ℕ) → Below count o → Below count (cond b o None)
chosen count true o h = h
chosen count false o h = tt

named : (rs : List RecText) (proc : Bool) (word : List ℕ) → Below (length rs) (target_named rs proc word)
named rs proc word =
    let count = length rs in
    let here : (name : List ℕ) → Below count (number_of rs name) = λ name. numbered 0 count rs name (omega arith) in
    either count (value_of rs word) _
    (either count (number_of rs word) (number_before rs (codes ".VAL") word) (here word) (behind count (number_of rs) (before (codes ".VAL") word) here))
    (chosen count proc (number_before rs (codes ".PROC") word) (behind count (number_of rs) (before (codes ".PROC") word) here))

inside : (count : ℕ) (make : ℕ → Link) (o : Option ℕ) → ((k : ℕ) → (make k).target ≡ k) → Below count o → is_inside count (option_map make o) ≡ true
inside count make None e h = refl
inside count make (Some k) e h = ap (λ t. ltb t count) (e k) ∙ lt-ltb k count h

of_words : (rs : List RecText) (proc : Bool) (ws : List (List ℕ)) → is_inside (length rs) (link_of (target_named rs proc) ws) ≡ true
of_words rs proc [] = refl
of_words rs proc (w ∷ ws) =
    inside (length rs) (λ target. record { target = target; processes = list_any (λ v. bytes_eq v (codes "PP")) ws }) (target_named rs proc w) (λ k. refl) (named rs proc w)

of_text : (rs : List RecText) (proc : Bool) (text : Option (List ℕ)) → is_inside (length rs) (link_in (target_named rs proc) text) ≡ true
of_text rs proc None = refl
of_text rs proc (Some t) = of_words rs proc (words t)

of_record : (rs : List RecText) (r : RecText) → all_inside (length rs) (links_in rs r) ≡ true
of_record rs r =
    rw (of_text rs false (counted (has_inp r.kind) r.fields (codes "INP")), of_text rs false (counted (out_counts r.kind r.fields) r.fields (codes "OUT")), of_text rs true (text_of r.fields (codes "FLNK"))) refl

of_records : (rs xs : List RecText) → list_all (all_inside (length rs)) (map (links_in rs) xs) ≡ true
of_records rs [] = refl
of_records rs (x ∷ xs) = rw (of_record rs x) (of_records rs xs)

pub all_inside_of : (rs : List RecText) → are_inside (links_of rs) ≡ true
all_inside_of rs = ap (λ n. list_all (all_inside n) (links_of rs)) (length-map rs (links_in rs)) ∙ of_records rs rs
