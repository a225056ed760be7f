use Rattle.std.proofs.Common.{◌≡◌, ◌≤◌, ◌++◌, map, drop, take}
use Rattle.db_links.specs.Words.{words, words_from}
use Rattle.db_links.proofs.words.words.Given as goal

abbrev pub invariant-bytes : goal.invariant-bytes
invariant-bytes l =
    (l.start ≤ l.place) × (map (λ w. w.now) l.found.items ++ words_from (drop l.start (take l.place l.text)) (drop l.place l.text) ≡ words l.text)
