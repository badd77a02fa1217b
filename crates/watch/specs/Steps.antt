-- What a watch keeps, computed from the release state as a set. Private contracts cite these; what they mean is said of the public calls.
use Rattle.std.specs.Prelude.{ℕ, cond, ◌==◌, bit_and}
use Rattle.rules.specs.declared.Snapshot.{Snapshot}
use Rattle.rules.specs.declared.Verdict.{Verdict}
use Rattle.rules.specs.declared.Verdict.TheVariants as verdict
use Rattle.fitting.specs.declared.plan.access.Sets.{Sets}

-- the release state alone where it is among the states reached
abbrev pub settled_by : ℕ → ℕ → ℕ
settled_by release reached = cond (bit_and reached release == 0) reached release

-- with nothing held BREACH at the count, with the release state held CLEAR since the count, and otherwise OPEN
abbrev pub reads_by : ℕ → ℕ → ℕ → Verdict
reads_by release count held = cond (held == 0) (verdict.BreachAt count) (cond (bit_and held release == 0) verdict.Open (verdict.ClearSince count))

-- OPEN is read anew, and any other stays
abbrev pub next_by : ℕ → ℕ → ℕ → Verdict → Verdict
next_by release count held verdict.Open = reads_by release count held
next_by release count held (verdict.BreachAt j) = verdict.BreachAt j
next_by release count held (verdict.ClearSince i) = verdict.ClearSince i

-- one event more, which leads to the states reached, with the count that is then told
abbrev pub stepped_by : ℕ → ℕ → ℕ → Snapshot → Snapshot
stepped_by release reached count s = record {
  held = settled_by release reached;
  count = count;
  verdict = next_by release count (settled_by release reached) s.verdict;
}

-- a set held, and no event taken
abbrev pub begun_with : ℕ → ℕ → Snapshot
begun_with release held = record { held = held; count = 0; verdict = reads_by release 0 held }

-- the set held when a watch is armed
abbrev pub start_by : Sets → ℕ
start_by sets = cond (bit_and sets.starts sets.safe == 0) (bit_and sets.starts sets.live) sets.release
