-- How cards are written.
use Rattle.std.specs.Prelude.{ℕ, List, [], ◌∷◌, ◌++◌, codes, Option}
use Rattle.std.specs.Option.{option_map}
use Rattle.std.proofs.Math.Utf8.{encodes}
use Rattle.rules.specs.Text.{line_text, state_text}
use Rattle.rulefile.specs.Records.{LineValue, StateValue}

-- a name after a space, and nothing where there is none; a name's bytes are characters below 128, and are written as they are
abbrev pub name_text : List ℕ → List ℕ
name_text [] = []
name_text (b ∷ bs) = codes " " ++ encodes (b ∷ bs)

-- the text of a value, where it has one, and the value's name
abbrev pub named_text : Option (List ℕ) → List ℕ → Option (List ℕ)
named_text text name = option_map (λ written. written ++ name_text name) text

-- cost 10 chance 20 a
abbrev pub line_card_text : LineValue → List ℕ
line_card_text v = line_text v.value ++ name_text v.name

-- start a
abbrev pub state_card_text : StateValue → List ℕ
state_card_text v = state_text v.value ++ name_text v.name
