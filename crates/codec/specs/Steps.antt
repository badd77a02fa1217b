-- One reading step after another.
use Rattle.std.specs.Prelude.{Ok, Err, Result}

-- goes on with what was read; a fault is carried whole
abbrev pub and_then : {A B E F : Type 0} → (E → F) → Result A E → (A → Result B F) → Result B F
and_then wrap (Ok x) next = next x
and_then wrap (Err e) next = Err (wrap e)
