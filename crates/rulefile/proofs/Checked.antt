-- What the check's answer says of the file and of the lists.
use Rattle.std.proofs.Common.{◌≡◌, ℕ, ◌≤◌, true, false, List, map, length, take, drop, Ok, Err, Result, sym, refl, ap, ◌∙◌, arith}
use Rattle.std.proofs.lemmas.List.{length-map, take_at}
use Rattle.std.proofs.lemmas.Bool.{le-ltb, ltb-false}
use Rattle.codec.specs.Number.{Octets}
use Rattle.codec.proofs.Steps.{else_ok}
use Rattle.rules.specs.declared.Move.{Move}
use Rattle.rulefile.specs.declared.fault.FileFault.{FileFault}
use Rattle.rulefile.specs.declared.outline.Outline.{Outline}
use Rattle.rulefile.specs.Records.{StateRecord}
use Rattle.rulefile.specs.File.{Contents, file_of, outline_of, outlined, room, overlaid}
use Rattle.rulefile.specs.Rule.{Readable, Recorded, rule_of, named_in}
use Rattle.rulefile.proofs.Exact.{file_sound, file_complete}

-- a call is answered by Ok exactly when the file can be read
pub refuse : {X : Type 0} → (X → ⊥) → (false ≡ true → X) × (X → false ≡ true)
refuse never = ((λ h. let z : ◌≡◌ {A = ℕ} 0 1 = cc in absurd (omega arith)), λ x. absurd (never x))

pub outlined_err : (r : Result Contents FileFault) (e : FileFault) → Err e ≡ outlined r → r ≡ Err e
outlined_err (Ok c) e h = let z : ◌≡◌ {A = ℕ} 0 1 = cc in absurd (omega arith)
outlined_err (Err d) e h = cc

pub readable_yes : (f : List ℕ) (a b : ℕ) (c : Contents) → Octets f → 32 ≤ a → 1024 ≤ b → file_of f ≡ Ok c → Readable f a b
readable_yes f a b c octets ra rb h =
    let t = file_sound f octets c h in
    record { state_room = ra; move_room = rb; rule = rule_of f c; good = t.0; bytes = t.1 }

pub unreadable : (f : List ℕ) (a b : ℕ) (e : FileFault) → Octets f → file_of f ≡ Err e → Readable f a b → ⊥
unreadable f a b e octets h r =
    let t = file_complete f octets r.rule r.good r.bytes in
    let x = sym h ∙ t.1 in
    let z : ◌≡◌ {A = ℕ} 0 1 = cc in omega arith

-- a list begins with the rows that were written over it
pub front : {A : Type 0} (rows old new : List A) (n : ℕ) → length rows ≡ n → new ≡ overlaid rows old → take n new ≡ rows
front rows old new n long e = ap (take n) e ∙ take_at rows (drop (length rows) old) n long

-- the lists then hold the rule
pub recorded : (f : List ℕ) (c : Contents) (ss ss' : List StateRecord) (ms ms' : List Move) → Octets f → file_of f ≡ Ok c
    → ss' ≡ overlaid c.states ss → ms' ≡ overlaid c.moves ms → Recorded f ss' ms' (record { states = length c.states; moves = length c.moves })
recorded f c ss ss' ms ms' octets h es em =
    let t = file_sound f octets c h in
    let long = length-map c.states (named_in f) in
    record {
      rule = rule_of f c;
      holds = record {
        good = t.0;
        bytes = t.1;
        states_are = ap (map (named_in f)) (front c.states ss ss' _ (sym long) es);
        moves_are = front c.moves ms ms' _ refl em;
      };
      states_counted = sym long;
      moves_counted = refl;
    }

-- room for the records of every good file
pub room_ok : (a b : ℕ) → Ok tt ≡ room a b → (32 ≤ a) × (1024 ≤ b)
room_ok a b h =
    let x = else_ok _ _ _ tt (sym h) in
    let y = else_ok _ _ _ tt x.1 in
    (ltb-false _ _ x.0, ltb-false _ _ y.0)

pub has_room : (a b : ℕ) → 32 ≤ a → 1024 ≤ b → room a b ≡ Ok tt
has_room a b ha hb = let x = le-ltb a 32 ha in let y = le-ltb b 1024 hb in rw (x, y)

-- the same by the outline's counts
pub recorded_as : (f : List ℕ) (ss : List StateRecord) (ms : List Move) (o : Outline) (c : Contents) → o ≡ outline_of c
    → Recorded f ss ms (record { states = length c.states; moves = length c.moves }) → Recorded f ss ms (record { states = o.states; moves = o.moves })
recorded_as f ss ms o c e r = rw e r
