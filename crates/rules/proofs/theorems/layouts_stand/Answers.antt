-- Each theorem, by its proof.
use Rattle.rules.proofs.trees.LayoutLaws.{size_small, layout_stands, stands_one}
use Rattle.rules.proofs.theorems.layouts_stand.Goals as goal

pub returns : goal.returns
returns c = record { small = size_small; stands = layout_stands; determined = stands_one }
