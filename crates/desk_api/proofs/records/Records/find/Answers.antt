use Rattle.std.specs.Prelude.{◌≡◌, ℕ, List, ◌++◌, codes}
use Rattle.std.specs.Str.Pattern.{FindsTextSuffix, StripsSuffix}
use Rattle.std.proofs.Common.{sym, ◌∙◌, ap}
use Rattle.desk_api.proofs.Naming.{desc_found, val_found, own_found}
use Rattle.desk_api.specs.Sites.{first_named, names_from}
use Rattle.desk_api.specs.declared.history.SiteData.{SiteData}
use Rattle.desk_api.proofs.records.Records.find.Goals as goal

-- what a name was before the suffix was taken off
whole : (name suffix front : List ℕ) → StripsSuffix (FindsTextSuffix suffix) name front → name ≡ front ++ suffix
whole name suffix front is = is.1.1 ∙ ap (λ (l : List ℕ). l ++ suffix) (sym is.2)

-- what a name stands for, of a site of these names
named_as : (site : SiteData) (name other : List ℕ) → name ≡ other → first_named other (names_from 0 site.names) ≡ first_named name (names_from 0 site.names)
named_as site name other is = (λ i. first_named (sym is i) (names_from 0 site.names))

pub returns-in-Some : goal.returns-in-Some
returns-in-Some c =
    let front = c.in-Some.record.now in
    let is = whole c.args.name.now (codes ".DESC") front (c.in-Some.ensures {u = tt}).cases in
    c.channel.ensures.found ∙ sym (desc_found 0 _ front c.channel.ensures.named) ∙ named_as c.args.self.now c.args.name.now _ is

pub returns-in-Some-strip_suffix : goal.returns-in-Some-strip_suffix
returns-in-Some-strip_suffix c =
    let front = c.in-Some-strip_suffix.record.now in
    let is = whole c.args.name.now (codes ".VAL") front (c.in-Some-strip_suffix.ensures {u = tt}).cases in
    let found = c.channel-in-Some-strip_suffix.ensures in
    found.found ∙ sym (val_found 0 _ front found.named) ∙ named_as c.args.self.now c.args.name.now _ is

pub returns : goal.returns
returns c =
    let no_desc = (c.in_default.ensures {u = tt}).cases in
    let no_val = (c.in_default-strip_suffix.ensures {u = tt}).cases in
    c.channel-2.ensures.found ∙ sym (own_found 0 _ c.args.name.now no_val no_desc) ∙ named_as c.args.self.now c.args.name.now _ (λ i. c.args.name.now)
