use Rattle.std.proofs.Common.{[], ◌∷◌, refl, rules}
use Rattle.rulefile.specs.File.{file_of, row_from}
use Rattle.rulefile.specs.Draft.{empty_contents, plain_line}
use Rattle.rulefile.proofs.Mapped.{mapped_is}
use Rattle.rulefile.proofs.draft.make.empty_draft.Goals as goal

pub invariant_of-result : goal.invariant_of-result
unfolding file_of row_from
invariant_of-result c =
    let l = mapped_is _ _ plain_line (4 ∷ 7 ∷ 10 ∷ 13 ∷ 16 ∷ 19 ∷ []) c.map.result 6 0 c.map.ensures.items refl (λ p q x y h. search (rules, h)) in
    record { six = c.map.ensures.items.long; read = refl; line_rows = l; state_rows = refl; move_rows = refl }

pub returns : goal.returns
unfolding empty_contents
returns c =
    let l = mapped_is _ _ plain_line (4 ∷ 7 ∷ 10 ∷ 13 ∷ 16 ∷ 19 ∷ []) c.map.result 6 0 c.map.ensures.items refl (λ p q x y h. search (rules, h)) in
    record { contents = rw l; rule = rw l }
