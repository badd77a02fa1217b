-- What is known of a file that is taken.
use Rattle.std.proofs.Common.{◌≡◌, ℕ, ◌<◌, ◌≤◌, ltb, List, length, Some, None, Ok, Result, sym, subst, arith}
use Rattle.rulefile.specs.declared.fault.FileFault.{FileFault}
use Rattle.rulefile.specs.declared.fault.FileFault.TheVariants as fault
use Rattle.codec.specs.Reading.{Read}
use Rattle.rulefile.specs.declared.outline.Outline.{Outline}
use Rattle.rulefile.specs.File.{Contents, file_of, count_at, line_cards_at, state_cards_at, move_cards_at, any_start, outlined, outline_of, line_record_at, state_record_at, next_move_at}
use Rattle.codec.proofs.Steps.{inside_ok, then_ok, else_ok, if_ok}
use Rattle.codec.proofs.Fields.{ranged_within}
use Rattle.rulefile.proofs.RowSteps.{row_length}

-- a count is in its range
count_range : (f : List ℕ) (p low high : ℕ) (n : Read ℕ) → count_at f p low high ≡ Ok n → (low ≤ n.value) × (n.value ≤ high)
count_range f p low high n h = let r = ranged_within fault.Short fault.Number fault.Range f p low high n h in (r.0, r.1)

-- the parts of a file that is taken
pub record Parts (f : List ℕ) (c : Contents) : Type 0 where
  pub six : length c.lines ≡ 6
  pub some : 0 < length c.states
  pub few : length c.states ≤ 32
  pub few_moves : length c.moves ≤ 1024
  pub states_next : ℕ
  pub states_read : state_cards_at f c.states_start (length c.states) ≡ Ok (record { value = c.states; next = states_next })
  pub moves_next : ℕ
  pub moves_read : move_cards_at f (length c.states) c.moves_start (length c.moves) ≡ Ok (record { value = c.moves; next = moves_next })

pub parts_of : (f : List ℕ) (c : Contents) → file_of f ≡ Ok c → Parts f c
unfolding file_of
parts_of f c h =
    let version = then_ok (λ e. e) (count_at f 0 1 1) _ c h in
    let lines = then_ok (λ e. e) (line_cards_at f version.0.next) _ c version.2 in
    let n = then_ok (λ e. e) (count_at f lines.0.next 1 32) _ c lines.2 in
    let states = then_ok (λ e. e) (state_cards_at f n.0.next n.0.value) _ c n.2 in
    let start = if_ok (any_start states.0.value) _ _ c states.2 in
    let m = then_ok (λ e. e) (count_at f states.0.next 0 1024) _ c start.1 in
    let moves = then_ok (λ e. e) (move_cards_at f n.0.value m.0.next m.0.value) _ c m.2 in
    let all = else_ok (ltb moves.0.next (length f)) _ _ c moves.2 in
    let long = row_length {S = Unit {0}} (λ _ _. tt) (λ _. state_record_at f) n.0.value tt n.0.next states.0 states.1 in
    let long' = row_length (λ _ m. Some m) (next_move_at f n.0.value) m.0.value None m.0.next moves.0 moves.1 in
    let range = count_range f lines.0.next 1 32 n.0 n.1 in
    let range' = count_range f states.0.next 0 1024 m.0 m.1 in
    subst (Parts f) (inside_ok all.1) (record {
      six = row_length {S = Unit {0}} (λ _ _. tt) (λ _. line_record_at f) 6 tt version.0.next lines.0 lines.1;
      some = omega arith;
      few = omega arith;
      few_moves = omega arith;
      states_next = states.0.next;
      states_read = subst (λ k. state_cards_at f n.0.next k ≡ Ok states.0) (sym long) states.1;
      moves_next = moves.0.next;
      moves_read =
          subst (λ k. move_cards_at f (length states.0.value) m.0.next k ≡ Ok moves.0) (sym long')
          (subst (λ k. move_cards_at f k m.0.next m.0.value ≡ Ok moves.0) (sym long) moves.1);
    })

-- what is outlined was taken
pub outlined_ok : (r : Result Contents FileFault) (o : Outline) → Ok o ≡ outlined r → (c : Contents) × (r ≡ Ok c) × (o ≡ outline_of c)
outlined_ok r o h =
    let t = then_ok (λ e. e) r (λ c. Ok (outline_of c)) o (sym h) in
    (t.0, t.1, sym (inside_ok t.2))
