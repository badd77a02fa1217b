-- Each place of the array is that of one tree.
use Rattle.std.proofs.Common.{◌≡◌, ◌<◌, length, get_or, sym, ◌∙◌, arith, rules}
use Rattle.std.proofs.Math.ListN.{get_or-map}
use Rattle.std.proofs.lemmas.List.{ext_get_or, length-map}
use Rattle.fitting.specs.Fits.{told_tops, no_tree}
use Rattle.fitting.proofs.fit.Fitting.tops.Goals as goal

pub returns : goal.returns
returns c =
    let trees = c.args.self.now.trees in
    let long : length trees ≡ 32 = omega arith in
    ext_get_or 0 c.map.result (told_tops c.args.self.now) (omega (arith, long, c.map.ensures.items.long, length-map trees (λ t. t.top)))
    (λ k l.
    let low : k < 32 = omega (arith, l, c.map.ensures.items.long) in
    let called = c.map.ensures.items.at k no_tree 0 low in
    let is : get_or c.map.result k 0 ≡ (get_or trees k no_tree).top = search rules in
    is ∙ sym (get_or-map (λ t. t.top) trees k no_tree))
