-- What a plain log is: one byte an event.
use Rattle.std.specs.Prelude.{ℕ, ◌+◌, cond, List, [], ◌∷◌, is_ok, Ok, Err, Result, nat_lt}
use Rattle.codec.specs.declared.fault.CardFault.{CardFault}
use Rattle.codec.specs.declared.fault.CardFault.TheVariants.{Range}

-- the leftmost byte that is no event, from a place on
unfoldable pub log_from : ℕ → List ℕ → Result (Unit {0}) CardFault
log_from place [] = Ok tt
log_from place (byte ∷ bytes) = cond (nat_lt byte 64) (log_from (place + 1) bytes) (Err (Range place))

-- a plain log is taken, or refused for its leftmost byte that is no event
abbrev pub checked_log : List ℕ → Result (Unit {0}) CardFault
checked_log bytes = log_from 0 bytes

-- the events of a plain log: its bytes, or none where it is refused
abbrev pub plain_events : List ℕ → List ℕ
plain_events bytes = cond (is_ok (checked_log bytes)) bytes []
