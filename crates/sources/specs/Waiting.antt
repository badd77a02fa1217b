-- What a line source answers, from the list of events still to come.
use Rattle.std.specs.Prelude.{ℕ, ◌<◌, Bool, cond, List, [], ◌∷◌, is_some, Some, None, Ok, Err, Option, Result, nat_lt}
use Rattle.std.specs.List.{AllByRecursion}
use Rattle.events.specs.Sets.{has}
use Rattle.sources.specs.declared.source.SourceRefusal.{SourceRefusal}
use Rattle.sources.specs.declared.source.SourceRefusal.TheVariants.{NoSuchLine, NothingWaiting}

-- each number is an event: below 64, since each of six lines is on or off
abbrev pub AllEvents : List ℕ → Type 0
AllEvents events = AllByRecursion (λ event. event < 64) events

-- the number that each refusal is told by
abbrev pub source_number : SourceRefusal → ℕ
source_number NoSuchLine = 51
source_number NothingWaiting = 52

-- the first event, if one waits
abbrev pub first_of : List ℕ → Option ℕ
first_of [] = None
first_of (event ∷ later) = Some event

-- whether an event waits
abbrev pub any_waiting : List ℕ → Bool
any_waiting events = is_some (first_of events)

-- whether a line is on in the event, if there is one
abbrev pub line_of : Option ℕ → ℕ → Result Bool SourceRefusal
line_of None line = Err NothingWaiting
line_of (Some event) line = Ok (has event line)

-- a poll: there are six lines, and it is about the first event
abbrev pub polled : Option ℕ → ℕ → Result Bool SourceRefusal
polled first line = cond (nat_lt line 6) (line_of first line) (Err NoSuchLine)

-- what there is, or that nothing waits
abbrev pub or_nothing : {X : Type 0} → Option X → Result X SourceRefusal
or_nothing (Some x) = Ok x
or_nothing None = Err NothingWaiting

-- a drop: nothing is told but whether there was an event
abbrev pub dropped : Option ℕ → Result (Unit {0}) SourceRefusal
dropped (Some event) = Ok tt
dropped None = Err NothingWaiting

-- the events behind the first; where nothing waits, nothing does after it
abbrev pub later_of : List ℕ → List ℕ
later_of [] = []
later_of (event ∷ later) = later
