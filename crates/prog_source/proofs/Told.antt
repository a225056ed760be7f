-- A text that is printed in parts.
use Rattle.std.proofs.Common.{◌≡◌, ℕ, List, [], ◌++◌, take, drop, Option, None, Some, refl, sym, ◌∙◌, ap, subst, append_assoc}
use Rattle.std.proofs.lemmas.List.{append-nil}
use Rattle.std.specs.Io.KnownBytes.{Keeps, Appends}
use Rattle.pva_outside.specs.Count.{Rose}
use Rattle.prog_source.specs.Printing.{IsPart, IsPrinted}
use Rattle.prog_source.specs.declared.printing.Printed.TheVariants.{Whole, Failed, NoMemory}

pub appends_more : (a b c : Option (List ℕ)) (xs ys : List ℕ) → Appends a b xs → Appends b c ys → Appends a c (xs ++ ys)
appends_more None b c xs ys p q = tt
appends_more (Some a) None c xs ys p q = absurd p
appends_more (Some a) (Some b) None xs ys p q = absurd q
appends_more (Some a) (Some b) (Some c) xs ys p q = q ∙ ap (λ (l : List ℕ). l ++ ys) p ∙ append_assoc a xs ys

pub appends_keeps : (a b c : Option (List ℕ)) (xs : List ℕ) → Appends a b xs → Keeps b c → Appends a c xs
appends_keeps None b c xs p q = tt
appends_keeps (Some a) None c xs p q = absurd p
appends_keeps (Some a) (Some b) None xs p q = absurd q
appends_keeps (Some a) (Some b) (Some c) xs p q = q ∙ p

pub appends_none : (a : Option (List ℕ)) → Appends a a []
appends_none None = tt
appends_none (Some a) = sym (append-nil a)

-- What was printed so far: all but what is left.
pub record Printing (old now : Option (List ℕ)) (faults faults' : ℕ) (text rest : List ℕ) : Type 0 where
  pub front : List ℕ
  pub whole : text ≡ front ++ rest
  pub printed : Appends old now front
  pub same : faults' ≡ faults

pub begins_printing : (old : Option (List ℕ)) (faults : ℕ) (text : List ℕ) → Printing old old faults faults text text
begins_printing old faults text = record { front = []; whole = refl; printed = appends_none old; same = refl }

pub printed_more : (old now later : Option (List ℕ)) (faults faults' faults'' : ℕ) (text rest : List ℕ) (n : ℕ) → Printing old now faults faults' text rest
    → Appends now later (take n rest) → faults'' ≡ faults' → rest ≡ take n rest ++ drop n rest → Printing old later faults faults'' text (drop n rest)
printed_more old now later faults faults' faults'' text rest n p more same cut = record {
  front = p.front ++ take n rest;
  whole = p.whole ∙ ap (λ (l : List ℕ). p.front ++ l) cut ∙ sym (append_assoc p.front (take n rest) (drop n rest));
  printed = appends_more old now later p.front (take n rest) p.printed more;
  same = same ∙ p.same;
}

pub printed_whole : (old now : Option (List ℕ)) (faults faults' : ℕ) (text rest : List ℕ) → Printing old now faults faults' text rest → rest ≡ [] → IsPrinted old now faults faults' text Whole
printed_whole old now faults faults' text rest p none =
    let is : p.front ≡ text = sym (append-nil p.front) ∙ ap (λ (l : List ℕ). p.front ++ l) (sym none) ∙ sym p.whole in
    (subst (Appends old now) is p.printed, p.same)

printed_part : (old now later : Option (List ℕ)) (faults faults' : ℕ) (text rest : List ℕ) → Printing old now faults faults' text rest → Keeps now later → IsPart old later text
printed_part old now later faults faults' text rest p keeps = record { front = p.front; rest = rest; whole = p.whole; printed = appends_keeps old now later p.front p.printed keeps }

pub printing_failed : (old now later : Option (List ℕ)) (faults faults' faults'' : ℕ) (text rest : List ℕ) → Printing old now faults faults' text rest → Keeps now later → Rose faults' faults'' → IsPrinted old later faults faults'' text Failed
printing_failed old now later faults faults' faults'' text rest p keeps rose =
    (printed_part old now later faults faults' text rest p keeps, subst (λ (n : ℕ). Rose n faults'') p.same rose)

pub printing_short : (old now later : Option (List ℕ)) (faults faults' faults'' : ℕ) (text rest : List ℕ) → Printing old now faults faults' text rest → Keeps now later → faults'' ≡ faults' → IsPrinted old later faults faults'' text NoMemory
printing_short old now later faults faults' faults'' text rest p keeps same =
    (printed_part old now later faults faults' text rest p keeps, same ∙ p.same)
