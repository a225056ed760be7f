use Rattle.std.proofs.Common.{rules, ◌<◌, map, length, refl, sym, ap, ◌++◌, ◌∙◌, arith}
use Rattle.db_links.specs.Words.{word_of}
use Rattle.db_links.proofs.Wording.{at_blank, begun_is}
use Rattle.db_links.proofs.words.words.Goals as goal

pub bytes-preserved : goal.bytes-preserved
bytes-preserved c =
    let made = map (λ w. w.now) c.bytes.found.items in
    let within : c.bytes.place < length c.args.text.now = search rules in (
      omega arith,
      at_blank c.args.text.now c.bytes.start c.bytes.place 0 _ made (map (λ w. w.now) c.add_word.new.found.items) _ within c.bytes.invariant.0 refl (sym c.is_blank.ensures ∙ c.if-not-is_blank.false)
          (c.in_ok-add_word.ensures ∙ ap (λ w. made ++ word_of w) (begun_is c.args.text.now c.bytes.start c.bytes.place c.bytes.invariant.0)) c.bytes.invariant.1,
    )
