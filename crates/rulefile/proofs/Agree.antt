-- A file and the records that its check wrote.
use Rattle.std.proofs.Common.{◌≡◌, ℕ, ◌+◌, ◌<◌, ◌≤◌, true, List, ◌++◌, map, length, take, drop, is_ok, Ok, Err, Result, sym, refl, ap, ◌∙◌, ap₂, arith}
use Rattle.std.proofs.lemmas.List.{take-append-drop, drop_at, length-append, length-drop, length-map}
use Rattle.codec.specs.Number.{Octets}
use Rattle.rules.specs.declared.Move.{Move}
use Rattle.rulefile.specs.declared.outline.Outline.{Outline}
use Rattle.rulefile.specs.declared.fault.Refusal.TheVariants as refusal
use Rattle.rulefile.specs.declared.fault.FileFault.{FileFault}
use Rattle.rulefile.specs.Records.{LineRecord}
use Rattle.rulefile.specs.Records.{StateRecord}
use Rattle.rulefile.specs.File.{Contents, file_of, room, checked, overlaid, outlined, outline_of, rows_of, state_cards_at, move_cards_at, rows_of_lines, rows_of_states, rows_of_moves}
use Rattle.rulefile.specs.Rule.{named_in, rule_in}
use Rattle.rulefile.specs.Draft.{Agrees, OfFile, line, state, move, cards_of}
use Rattle.codec.proofs.Steps.{inside_ok, then_ok}
use Rattle.rulefile.proofs.Checked.{has_room, front, room_ok}
use Rattle.rulefile.proofs.Exact.{file_sound}
use Rattle.rulefile.proofs.Files.{outlined_ok, parts_of}

-- a list that begins with rows
pub begins : {A : Type 0} (rows old : List A) → old ≡ overlaid rows old → take (length rows) old ≡ rows
begins rows old h = front rows old old (length rows) refl h

pub begun : {A : Type 0} (rows old : List A) (n : ℕ) → length rows ≡ n → take n old ≡ rows → old ≡ overlaid rows old
begun rows old n e h = sym (take-append-drop n old) ∙ rw (h, e)

pub agrees_file : (f : List ℕ) (ss : List StateRecord) (ms : List Move) (c : Contents) → Agrees f ss ms c → file_of f ≡ Ok c
agrees_file f ss ms c a =
    let x = then_ok (λ e. e) (room (length ss) (length ms)) _ c a.read in
    let y = then_ok refusal.File (file_of f) _ c x.2 in
    y.1 ∙ ap Ok (inside_ok y.2)

module _ (f : List ℕ) (o : Outline) (h : Ok o ≡ outlined (file_of f)) where
  pub found : (c : Contents) × (file_of f ≡ Ok c) × (o ≡ outline_of c)
  found = outlined_ok (file_of f) o h

  pub outline_states : rows_of (state_cards_at f o.states_at o.states) ≡ found.0.states
  outline_states = ap (λ (x : Outline). rows_of (state_cards_at f x.states_at x.states)) found.2 ∙ ap rows_of (parts_of f found.0 found.1).states_read

  pub outline_moves : rows_of (move_cards_at f o.states o.moves_at o.moves) ≡ found.0.moves
  outline_moves = ap (λ (x : Outline). rows_of (move_cards_at f x.states x.moves_at x.moves)) found.2 ∙ ap rows_of (parts_of f found.0 found.1).moves_read

  pub states_good : is_ok (state_cards_at f o.states_at o.states) ≡ true
  states_good = ap (λ (x : Outline). is_ok (state_cards_at f x.states_at x.states)) found.2 ∙ ap is_ok (parts_of f found.0 found.1).states_read

  pub moves_good : is_ok (move_cards_at f o.states o.moves_at o.moves) ≡ true
  moves_good = ap (λ (x : Outline). is_ok (move_cards_at f x.states x.moves_at x.moves)) found.2 ∙ ap is_ok (parts_of f found.0 found.1).moves_read

  pub states_count : o.states ≡ length found.0.states
  states_count = ap (λ (x : Outline). x.states) found.2

  pub moves_count : o.moves ≡ length found.0.moves
  moves_count = ap (λ (x : Outline). x.moves) found.2

  pub states_range : (0 < o.states) × (o.states ≤ 32)
  states_range =
      let p = parts_of f found.0 found.1 in
      (omega (arith, p.some, states_count), omega (arith, p.few, states_count))

  pub moves_range : o.moves ≤ 1024
  moves_range = omega (arith, (parts_of f found.0 found.1).few_moves, moves_count)

  module _ (ss : List StateRecord) (ms : List Move) where
    same_contents : (c : Contents) → Agrees f ss ms c → c ≡ found.0
    same_contents c a = inside_ok (sym (agrees_file f ss ms c a) ∙ found.1)

    pub must_states : (c : Contents) → Agrees f ss ms c → take o.states ss ≡ rows_of (state_cards_at f o.states_at o.states)
    must_states c a =
        let e : c.states ≡ found.0.states = ap (λ (x : Contents). x.states) (same_contents c a) in
        let n : o.states ≡ length c.states = states_count ∙ sym (ap length e) in
        ap (λ k. take k ss) n ∙ (begins c.states ss a.states_are ∙ (e ∙ sym outline_states))

    pub must_moves : (c : Contents) → Agrees f ss ms c → take o.moves ms ≡ rows_of (move_cards_at f o.states o.moves_at o.moves)
    must_moves c a =
        let e : c.moves ≡ found.0.moves = ap (λ (x : Contents). x.moves) (same_contents c a) in
        let n : o.moves ≡ length c.moves = moves_count ∙ sym (ap length e) in
        ap (λ k. take k ms) n ∙ (begins c.moves ms a.moves_are ∙ (e ∙ sym outline_moves))

    pub agree : 32 ≤ length ss → 1024 ≤ length ms → take o.states ss ≡ rows_of (state_cards_at f o.states_at o.states) → take o.moves ms ≡ rows_of (move_cards_at f o.states o.moves_at o.moves)
        → (c : Contents) × Agrees f ss ms c × (o ≡ outline_of c)
    agree ls lm hs hm =
        let wide = has_room _ _ ls lm in (
          found.0,
          record {
            read = rw (wide, found.1);
            states_are = begun found.0.states ss o.states (sym states_count) (hs ∙ outline_states);
            moves_are = begun found.0.moves ms o.moves (sym moves_count) (hm ∙ outline_moves);
          },
          found.2,
        )

-- the records of a file that is taken stand for the rule whose bytes it is
pub of_file : (f : List ℕ) → Octets f → (ls : List LineRecord) (ss : List StateRecord) (ms : List Move) → is_ok (file_of f) ≡ true
    → ls ≡ rows_of_lines (file_of f) → ss ≡ rows_of_states (file_of f) → ms ≡ rows_of_moves (file_of f) → OfFile f (rule_in f ls ss ms)
of_file f octets ls ss ms ok el es em = go (file_of f) refl
  where
    go : (r : Result Contents FileFault) → file_of f ≡ r → OfFile f (rule_in f ls ss ms)
    go (Ok c) e =
        let l : ls ≡ c.lines = el ∙ ap rows_of_lines e in
        let s : ss ≡ c.states = es ∙ ap rows_of_states e in
        let m : ms ≡ c.moves = em ∙ ap rows_of_moves e in
        rw (l, s, m) (file_sound f octets c e)
    go (Err d) e = let no_way = sym ok ∙ ap is_ok e in let z : ◌≡◌ {A = ℕ} 0 1 = cc in absurd (omega arith)

module _ (f : List ℕ) (ss : List StateRecord) (ms : List Move) (c : Contents) (a : Agrees f ss ms c) (o : Outline) (is : o ≡ outline_of c) where
  pub drafted_six : length o.lines ≡ 6
  drafted_six = ap (λ (x : Outline). length x.lines) is ∙ (parts_of f c (agrees_file f ss ms c a)).six

  pub drafted_read : is_ok (file_of f) ≡ true
  drafted_read = ap is_ok (agrees_file f ss ms c a)

  pub drafted_lines : o.lines ≡ rows_of_lines (file_of f)
  drafted_lines = ap (λ (x : Outline). x.lines) is ∙ sym (ap rows_of_lines (agrees_file f ss ms c a))

  pub drafted_states : take o.states ss ≡ rows_of_states (file_of f)
  drafted_states =
      let n : o.states ≡ length c.states = ap (λ (x : Outline). x.states) is in
      ap (λ k. take k ss) n ∙ (begins c.states ss a.states_are ∙ sym (ap rows_of_states (agrees_file f ss ms c a)))

  pub drafted_moves : take o.moves ms ≡ rows_of_moves (file_of f)
  drafted_moves =
      let n : o.moves ≡ length c.moves = ap (λ (x : Outline). x.moves) is in
      ap (λ k. take k ms) n ∙ (begins c.moves ms a.moves_are ∙ sym (ap rows_of_moves (agrees_file f ss ms c a)))

-- a draft has at most 1,062 cards
pub few_cards : (f : List ℕ) (ls : List LineRecord) (ss : List StateRecord) (ms : List Move) → length ls ≡ 6 → is_ok (file_of f) ≡ true
    → ss ≡ rows_of_states (file_of f) → ms ≡ rows_of_moves (file_of f) → length (cards_of (rule_in f ls ss ms)) ≤ 1062
few_cards f ls ss ms six ok es em = go (file_of f) refl
  where
    long : length (cards_of (rule_in f ls ss ms)) ≡ length ls + (length ss + length ms)
    long =
        length-append (map line (map (named_in f) ls)) _ ∙ ap₂ (λ (a b : ℕ). a + b) (length-map (map (named_in f) ls) line ∙ length-map ls (named_in f))
        (length-append (map state (map (named_in f) ss)) _ ∙ ap₂ (λ (a b : ℕ). a + b) (length-map (map (named_in f) ss) state ∙ length-map ss (named_in f)) (length-map ms move))

    go : (r : Result Contents FileFault) → file_of f ≡ r → length (cards_of (rule_in f ls ss ms)) ≤ 1062
    go (Ok c) e =
        let p = parts_of f c e in
        let s : length ss ≡ length c.states = ap length (es ∙ ap rows_of_states e) in
        let m : length ms ≡ length c.moves = ap length (em ∙ ap rows_of_moves e) in
        omega (arith, long, six, s, m, p.few, p.few_moves)
    go (Err d) e = let no_way = sym ok ∙ ap is_ok e in let z : ◌≡◌ {A = ℕ} 0 1 = cc in absurd (omega arith)

-- what was written over a list is there when it is written again
overlaid_twice : {A : Type 0} (rows old new : List A) → new ≡ overlaid rows old → new ≡ overlaid rows new
overlaid_twice rows old new e =
    e ∙ ap (λ xs. rows ++ xs) (sym (ap (drop (length rows)) e ∙ drop_at rows (drop (length rows) old) (length rows) refl))

overlaid_long : {A : Type 0} (rows old new : List A) → length rows ≤ length old → new ≡ overlaid rows old → length new ≡ length old
overlaid_long rows old new l e = ap length e ∙ (length-append rows (drop (length rows) old) ∙ omega (arith, length-drop (length rows) old))

-- the check leaves the lists as the making wants them
pub checked-agrees : (f : List ℕ) (ss ss' : List StateRecord) (ms ms' : List Move) (c : Contents) → checked f (length ss) (length ms) ≡ Ok c
    → ss' ≡ overlaid c.states ss → ms' ≡ overlaid c.moves ms → (file_of f ≡ Ok c) × Agrees f ss' ms' c
checked-agrees f ss ss' ms ms' c h es em =
    let x = then_ok (λ e. e) (room (length ss) (length ms)) _ c h in
    let y = then_ok refusal.File (file_of f) _ c x.2 in
    let file : file_of f ≡ Ok c = y.1 ∙ ap Ok (inside_ok y.2) in
    let wide = room_ok (length ss) (length ms) (sym x.1) in
    let p = parts_of f c file in
    let ls : length ss' ≡ length ss = overlaid_long c.states ss ss' (omega (arith, p.few, wide.0)) es in
    let lm : length ms' ≡ length ms = overlaid_long c.moves ms ms' (omega (arith, p.few_moves, wide.1)) em in (
      file,
      record { read = rw (ls, lm) h; states_are = overlaid_twice c.states ss ss' es; moves_are = overlaid_twice c.moves ms ms' em },
    )
