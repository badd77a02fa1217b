-- The event that a take polls.
use Rattle.std.specs.Prelude.{ℕ, List, [], ◌∷◌}

-- the first event, and 0 where there is none
abbrev pub head_of : List ℕ → ℕ
head_of [] = 0
head_of (event ∷ later) = event
