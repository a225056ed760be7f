-- Words that are given one after another.
use Rattle.std.proofs.Common.{◌≡◌, ◌∙◌, ℕ, ◌+◌, ◌-◌, Bool, not, cond, List, ◌∷◌, length, Option, Some, Result, Ok, Err, sym, ap}
use Rattle.std.specs.Ordering.{nat_cmp}
use Rattle.std.specs.FinSet as set
use Rattle.std.specs.FinSet.{FinSet}
use Rattle.pvd_type.specs.Tree.{Tree}
use Rattle.pvd_value.specs.Data.{Data}
use Rattle.pvd_value.specs.Fits.{fits_of}
use Rattle.cli_text.specs.declared.fault.Cause.{Cause}
use Rattle.cli_text.specs.declared.fault.Cause.TheVariants as cause
use Rattle.cli_text.specs.declared.fault.PutText.{PutText}
use Rattle.cli_text.specs.declared.fault.PutText.TheVariants as put
use Rattle.cli_text.specs.declared.words.Way.{Way}
use Rattle.cli_text.specs.Faults.{fault_at, Fails}
use Rattle.cli_text.specs.Words.{made, and_then}
use Rattle.cli_text.specs.Put.{target, give, put_at, give_at, at_position, put_word, put_from, if_fits, put_by, choices_of, Puts, PutsEach}

module _ (w : Way) (choices : List (List ℕ)) (t : Tree) (position : ℕ) (s : FinSet nat_cmp × Data) (word : List ℕ) (words : List (List ℕ)) where
  -- a word that is taken
  pub one_taken : (after : FinSet nat_cmp × Data) → put_word w choices t s word ≡ Ok after → put_from w choices t position s (word ∷ words) ≡ put_from w choices t (position + 1) after words
  one_taken after h = ap (λ (r : Result (FinSet nat_cmp × Data) Cause). and_then (λ (after : FinSet nat_cmp × Data). put_from w choices t (position + 1) after words) (at_position position r)) h

  -- a word that is refused
  refused : (c : Cause) → put_word w choices t s word ≡ Err c → put_from w choices t position s (word ∷ words) ≡ Err (fault_at c position)
  refused c h = ap (λ (r : Result (FinSet nat_cmp × Data) Cause). and_then (λ (after : FinSet nat_cmp × Data). put_from w choices t (position + 1) after words) (at_position position r)) h

  pub one_refused : (c : Cause) (now : FinSet nat_cmp × Data) (whole : Result (FinSet nat_cmp × Data) PutText) → Fails c (put_word w choices t s word)
      → put_from w choices t position s (word ∷ words) ≡ whole → PutsEach (Err (fault_at c position)) now whole
  one_refused cause.BadNumber now whole h same = sym same ∙ refused cause.BadNumber h
  one_refused cause.OutOfRange now whole h same = sym same ∙ refused cause.OutOfRange h
  one_refused cause.BadChoice now whole h same = sym same ∙ refused cause.BadChoice h
  one_refused cause.NoField now whole h same = sym same ∙ refused cause.NoField h
  one_refused cause.NoMemory now whole h same = tt

module _ {P : Type 0} (view : P → FinSet nat_cmp × Data) (t : Tree) (v : Data) (words : List (List ℕ)) (w : Way) where
  -- words that are all taken
  pub all_taken : (s : FinSet nat_cmp × Data) (b : Bool) → put_from w (choices_of t v) t 0 (set.empty, v) words ≡ Ok s → fits_of 16 s.1 t ≡ b
      → put_by t v words (Some w) ≡ cond b (Ok s) (Err (put.OutOfRange (length words - 1)))
  all_taken s b h fit =
      ap (λ (r : Result (FinSet nat_cmp × Data) PutText). and_then (if_fits t (length words - 1)) r) h
      ∙ ap (λ (b : Bool). cond b (Ok s) (Err (put.OutOfRange (length words - 1)))) fit

  -- words of which one is refused
  pub some_refused : (fault : PutText) (now : FinSet nat_cmp × Data) → PutsEach (Err fault) now (put_from w (choices_of t v) t 0 (set.empty, v) words) → Puts view (Err fault) (put_by t v words (Some w))
  some_refused (put.BadNumber p) now h = ap (λ (r : Result (FinSet nat_cmp × Data) PutText). and_then (if_fits t (length words - 1)) r) h
  some_refused (put.OutOfRange p) now h = ap (λ (r : Result (FinSet nat_cmp × Data) PutText). and_then (if_fits t (length words - 1)) r) h
  some_refused (put.BadChoice p) now h = ap (λ (r : Result (FinSet nat_cmp × Data) PutText). and_then (if_fits t (length words - 1)) r) h
  some_refused (put.NoField p) now h = ap (λ (r : Result (FinSet nat_cmp × Data) PutText). and_then (if_fits t (length words - 1)) r) h
  some_refused put.NoMemory now h = tt

module _ (w : Way) (choices : List (List ℕ)) (t : Tree) (s : FinSet nat_cmp × Data) (word : List ℕ) (p : ℕ × List ℕ) (is : target w t word ≡ Some p) where
  put_word_is : put_word w choices t s word ≡ made (λ v. (set.insert s.0 p.0, v)) (put_at (give w choices (not (set.contains s.0 p.0)) p.1) p.0 t s.1)
  put_word_is = ap (λ (o : Option (ℕ × List ℕ)). give_at w choices t s o) is

  -- a word that its leaf takes
  pub leaf_taken : (v : Data) → put_at (give w choices (not (set.contains s.0 p.0)) p.1) p.0 t s.1 ≡ Ok v → put_word w choices t s word ≡ Ok (set.insert s.0 p.0, v)
  leaf_taken v h = put_word_is ∙ ap (λ (r : Result Data Cause). made (λ (v : Data). (set.insert s.0 p.0, v)) r) h

  -- a word that its leaf refuses
  pub leaf_refused : (c : Cause) → Fails c (put_at (give w choices (not (set.contains s.0 p.0)) p.1) p.0 t s.1) → Fails c (put_word w choices t s word)
  leaf_refused cause.BadNumber h = put_word_is ∙ ap (λ (r : Result Data Cause). made (λ (v : Data). (set.insert s.0 p.0, v)) r) h
  leaf_refused cause.OutOfRange h = put_word_is ∙ ap (λ (r : Result Data Cause). made (λ (v : Data). (set.insert s.0 p.0, v)) r) h
  leaf_refused cause.BadChoice h = put_word_is ∙ ap (λ (r : Result Data Cause). made (λ (v : Data). (set.insert s.0 p.0, v)) r) h
  leaf_refused cause.NoField h = put_word_is ∙ ap (λ (r : Result Data Cause). made (λ (v : Data). (set.insert s.0 p.0, v)) r) h
  leaf_refused cause.NoMemory h = tt
