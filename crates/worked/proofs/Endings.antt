-- Live states, by an ending whose loop is one event.
use Rattle.std.proofs.Common.{ℕ, [], ◌∷◌, refl}
use Rattle.rules.specs.automata.Rules.{Rule, Accepts, Event}
use Rattle.rules.specs.automata.Runs.{Run, Live}

-- an accepting state that comes back to itself
pub live_here : (rule : Rule) (q e : ℕ) → Event rule e → Accepts rule q → Run rule q (e ∷ []) q → Live rule q
live_here rule q e event accepts round = record {
  u = [];
  v = e ∷ [];
  start = q;
  accepting = q;
  begins = refl;
  u_events = tt;
  v_events = (event, tt);
  v_turns = tt;
  accepts = accepts;
  there = refl;
  round = round;
}

-- a state that goes over to one
pub live_before : (rule : Rule) (q a d e : ℕ) → Event rule d → Event rule e → Accepts rule a → Run rule q (d ∷ []) a → Run rule a (e ∷ []) a → Live rule q
live_before rule q a d e over event accepts there round = record {
  u = d ∷ [];
  v = e ∷ [];
  start = q;
  accepting = a;
  begins = refl;
  u_events = (over, tt);
  v_events = (event, tt);
  v_turns = tt;
  accepts = accepts;
  there = there;
  round = round;
}
