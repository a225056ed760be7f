use Rattle.std.proofs.Common.{◌≡◌, map, codes, drop}
use Rattle.std.specs.List.{list_any}
use Rattle.std.specs.Str.{bytes_eq}
use Rattle.db_links.proofs.words.has_pp.Given as goal

abbrev pub invariant-loop-word : goal.invariant-loop-word
invariant-loop-word l = list_any (λ w. bytes_eq w (codes "PP")) (map (λ word. word.now) (drop l.word-index l.words)) ≡ list_any (λ w. bytes_eq w (codes "PP")) (map (λ word. word.now) l.words)
