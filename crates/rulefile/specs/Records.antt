-- The records of lines and states, and of named lines and states as values.
use Rattle.std.specs.Prelude.{ℕ, List}
use Rattle.rules.specs.declared.Line.{Line}
use Rattle.rules.specs.declared.State.{State}
use Rattle.rulefile.specs.declared.record.Record.{Record}
use Rattle.rulefile.specs.declared.card.Named.{Named}

-- ---- records: a name is a place

abbrev pub LineRecord : Type 0
LineRecord = Record Line

abbrev pub StateRecord : Type 0
StateRecord = Record State

-- ---- values: a name is its bytes

-- a value and the bytes of its name
pub record NamedValue (T : Type 0) : Type 0 where
  pub value : T
  pub name : List ℕ

abbrev pub LineValue : Type 0
LineValue = NamedValue Line

abbrev pub StateValue : Type 0
StateValue = NamedValue State

abbrev pub named_value : {T : Type 0} → Named T → NamedValue T
named_value c = record { value = c.value; name = c.name.now }
