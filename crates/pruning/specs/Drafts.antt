-- The rule of a draft, and what the calls of a pruning tell of it.
use Rattle.std.specs.Prelude.{ℕ, map, Some, None, Option}
use Rattle.rules.specs.automata.Rules.{Rule}
use Rattle.rules.specs.automata.Runs.{Safe}
use Rattle.rules.specs.automata.Pruning.{Release}
use Rattle.rulefile.specs.declared.draft.Draft.{Draft}
use Rattle.rulefile.specs.Draft.{draft_rule}

-- the rule of a draft: what its file holds, without the names
abbrev pub rule_of : Draft → Rule
rule_of d = record {
  lines = map (λ l. l.value) (draft_rule d).lines;
  states = map (λ s. s.value) (draft_rule d).states;
  moves = (draft_rule d).moves;
}

-- some number is the release state, and none says that no state is safe
abbrev pub IsRelease : Rule → Option ℕ → Type 0
IsRelease rule (Some q) = Release rule q
IsRelease rule None = (q : ℕ) → Safe rule q → ⊥
