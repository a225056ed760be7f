-- What a mark and a payload hold.
use Rattle.std.proofs.Common.{◌≡◌, ℕ, ◌+◌, ◌-◌, ◌≤◌, List, length, take, drop, ap, ◌∙◌, length-append}
use Rattle.std.proofs.lemmas.List.{length-take-le, length-drop}
use Rattle.pva_frames.specs.declared.reader.Mark.{Mark}
use Rattle.pva_frames.specs.Reader.{run_size, unfinished_of}

pub held-size : (mark : Mark) (payload : List ℕ) → mark.filled ≤ length mark.head → length (unfinished_of mark payload).held ≡ mark.filled + (length payload - run_size mark.run)
held-size mark payload h =
    length-append (take mark.filled mark.head) (drop (run_size mark.run) payload)
    ∙ ap (λ (n : ℕ). n + length (drop (run_size mark.run) payload)) (length-take-le mark.filled mark.head h)
    ∙ ap (λ (n : ℕ). mark.filled + n) (length-drop (run_size mark.run) payload)
