use Rattle.std.proofs.Common.{◌∙◌, rules, sym}
use Rattle.std.proofs.lemmas.Simd.{map-map}
use Rattle.rulefile.specs.Rule.{named_in}
use Rattle.rulefile.specs.Records.{LineRecord}
use Rattle.rulefile.specs.Records.{LineValue}
use Rattle.rulefile.proofs.Mapped.{mapped_is}
use Rattle.rulefile.proofs.draft.Draft.lines.Goals as goal

pub returns : goal.returns
returns c =
    let none : LineRecord = record { value = record { cost = 0; chance = 0 }; name = record { at = 0; len = 0 } } in
    mapped_is _ _ (λ (r : LineRecord). r.value) c.args.self.now.lines c.map.result 6 none c.map.ensures.items c.args.self.now.six (λ p q x y h. search (rules, h))
    ∙ sym (map-map (λ (v : LineValue). v.value) (named_in c.args.self.now.file.now) c.args.self.now.lines)
