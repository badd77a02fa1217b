-- The cards of a draft, one after another, and their lines.
use Rattle.std.proofs.Common.{◌≡◌, ℕ, ◌+◌, List, [], ◌∷◌, ◌++◌, drop, Some, None, sym, refl, ap, ◌∙◌, add-one, arith}
use Rattle.std.specs.List.{slice_get, flat_map, enumerate_from}
use Rattle.std.proofs.lemmas.List.{at_drop_more, at_drop_all}
use Rattle.std.proofs.lemmas.Option.{slice_get_within, get_or_from_slice_get, gets}
use Rattle.std.proofs.lemmas.Grind.{common_steps}
use Rattle.rulefile.specs.Draft.{CardValue}
use Rattle.listing.specs.Text.{card_text, cards_text}

-- the card with the number i is the first of those from i on
pub numbered_more : (cards : List CardValue) (i : ℕ) (v : CardValue) → slice_get cards i ≡ Some v
    → enumerate_from i (drop i cards) ≡ (i, v) ∷ enumerate_from (i + 1) (drop (i + 1) cards)
numbered_more cards i v e =
    at_drop_more (enumerate_from i) cards i v (slice_get_within cards i v e)
    ∙ ap (λ x. (i, x) ∷ enumerate_from (i + 1) (drop (i + 1) cards)) (get_or_from_slice_get cards i v v e)

-- there is none behind the last
pub numbered_end : (cards : List CardValue) (i : ℕ) → slice_get cards i ≡ None → enumerate_from i (drop i cards) ≡ []
numbered_end cards i e = at_drop_all (enumerate_from i) cards i (grind (arith, common_steps, gets, e))

-- the line of a numbered card
abbrev pub numbered_line : ℕ × CardValue → List ℕ
numbered_line (i, card) = card_text i card

-- the lines of all cards
pub cards_lines : (i : ℕ) (cards : List CardValue) → cards_text i cards ≡ flat_map numbered_line (enumerate_from i cards)
unfolding cards_text
cards_lines i [] = refl
cards_lines i (card ∷ cards) =
    ap (λ xs. card_text i card ++ xs) (ap (λ n. cards_text n cards) (sym (add-one i)) ∙ cards_lines (i + 1) cards)
