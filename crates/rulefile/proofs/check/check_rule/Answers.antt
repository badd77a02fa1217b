use Rattle.std.proofs.Common.{length, Ok, sym, refl, ap, arith}
use Rattle.std.proofs.lemmas.List.{length-take-le}
use Rattle.std.proofs.lemmas.Result.{err_from_is_err_and}
use Rattle.rulefile.specs.declared.outline.Outline.{Outline}
use Rattle.rulefile.specs.File.{file_of, state_cards_at, move_cards_at}
use Rattle.rulefile.proofs.Checked.{refuse, outlined_err, readable_yes, unreadable, recorded, recorded_as, room_ok}
use Rattle.rulefile.proofs.Agree.{found, states_good, moves_good, states_range, moves_range}
use Rattle.rulefile.proofs.RowSteps.{no_fault}
use Rattle.rulefile.proofs.Listed.{states_read, moves_read, states_written, moves_written}
use Rattle.rulefile.proofs.check.check_rule.Goals as goal

pub slice_bounds-write_rows-end : goal.slice_bounds-write_rows-end
slice_bounds-write_rows-end c =
    let room = room_ok (length c.args.states.now) (length c.args.moves.now) c.in_ok-has_room.ensures in
    omega (arith, (states_range c.args.file.now c.in_ok-outline.outline c.in_ok-outline.ensures).1, room.0)

pub slice_bounds-write_rows-end-2 : goal.slice_bounds-write_rows-end-2
slice_bounds-write_rows-end-2 c =
    let room = room_ok (length c.args.states.now) (length c.args.moves.now) c.in_ok-has_room.ensures in
    sym (length-take-le c.in_ok-outline.outline.states c.args.states.now (omega (arith, (states_range c.args.file.now c.in_ok-outline.outline c.in_ok-outline.ensures).1, room.0)))

pub between-requires : goal.between-requires
between-requires c = states_range c.args.file.now c.in_ok-outline.outline c.in_ok-outline.ensures

pub slice_bounds-write_rows-end-3 : goal.slice_bounds-write_rows-end-3
slice_bounds-write_rows-end-3 c =
    let room = room_ok (length c.args.states.now) (length c.args.moves.now) c.in_ok-has_room.ensures in
    omega (arith, moves_range c.args.file.now c.in_ok-outline.outline c.in_ok-outline.ensures, room.1)

pub slice_bounds-write_rows-end-4 : goal.slice_bounds-write_rows-end-4
slice_bounds-write_rows-end-4 c =
    let room = room_ok (length c.args.states.now) (length c.args.moves.now) c.in_ok-has_room.ensures in
    sym (length-take-le c.in_ok-outline.outline.moves c.args.moves.now (omega (arith, moves_range c.args.file.now c.in_ok-outline.outline c.in_ok-outline.ensures, room.1)))

-- the states are good
pub returns-in_err-write_rows : goal.returns-in_err-write_rows
returns-in_err-write_rows c =
    let f = c.args.file.now in
    let o = c.in_ok-outline.outline in
    let room = room_ok (length c.args.states.now) (length c.args.moves.now) c.in_ok-has_room.ensures in
    let long = length-take-le o.states c.args.states.now (omega (arith, (states_range f o c.in_ok-outline.ensures).1, room.0)) in
    let bad = states_read _ _ f f o.states_at o.states _ refl (rw long at c.in_err-write_rows.ensures.value) in
    absurd (no_fault (state_cards_at f o.states_at o.states) _ (states_good f o c.in_ok-outline.ensures) bad)

-- the moves are good
pub returns-in_err-write_rows-2 : goal.returns-in_err-write_rows-2
returns-in_err-write_rows-2 c =
    let f = c.args.file.now in
    let o = c.in_ok-outline.outline in
    let room = room_ok (length c.args.states.now) (length c.args.moves.now) c.in_ok-has_room.ensures in
    let long = length-take-le o.moves c.args.moves.now (omega (arith, moves_range f o c.in_ok-outline.ensures, room.1)) in
    let bad = moves_read _ f _ o.states o.moves_at o.moves _ (ap (λ b. b.now) c.in_ok-write_rows.ensures.bytes) c.between.ensures (rw long at c.in_err-write_rows-2.ensures.value) in
    absurd (no_fault (move_cards_at f o.states o.moves_at o.moves) _ (moves_good f o c.in_ok-outline.ensures) bad)

pub returns : goal.returns
returns c =
    let f = c.args.file.now in
    let o = c.in_ok-outline.outline in
    let k = found f o c.in_ok-outline.ensures in
    let wide = sym c.in_ok-has_room.ensures in
    let room = room_ok (length c.args.states.now) (length c.args.moves.now) c.in_ok-has_room.ensures in
    let long = length-take-le o.states c.args.states.now (omega (arith, (states_range f o c.in_ok-outline.ensures).1, room.0)) in
    let long' = length-take-le o.moves c.args.moves.now (omega (arith, moves_range f o c.in_ok-outline.ensures, room.1)) in
    let states = states_written f o c.in_ok-outline.ensures c.args.states.now _ _ (states_read _ _ f f o.states_at o.states _ refl (rw long at c.in_ok-write_rows.ensures.value)) in
    let moves = moves_written f o c.in_ok-outline.ensures c.args.moves.now _ _
    (moves_read _ f _ o.states o.moves_at o.moves _ (ap (λ b. b.now) c.in_ok-write_rows.ensures.bytes) c.between.ensures (rw long' at c.in_ok-write_rows-2.ensures.value)) in
    record {
      result = rw (wide, k.1) (ap (λ (x : Outline). Ok (record { states = x.states; moves = x.moves })) k.2);
      exact = ((λ _. readable_yes _ _ _ k.0 (λ i. (c.type_inv.file i).fits) room.0 room.1 k.1), λ _. refl);
      recorded = recorded_as _ _ _ _ k.0 k.2 (recorded _ k.0 _ _ _ _ (λ i. (c.type_inv.file i).fits) k.1 states moves);
      states = rw (wide, k.1) states;
      moves = rw (wide, k.1) moves;
    }

pub returns-in_err-outline : goal.returns-in_err-outline
returns-in_err-outline c =
    let p = err_from_is_err_and c.from_residual-in_err-outline.result c.from_residual-in_err-outline.ensures.1 in
    let bad = outlined_err (file_of c.args.file.now) _ c.in_err-outline.ensures in
    let wide = sym c.in_ok-has_room.ensures in
    record {
      result = rw (p.1, p.2, wide, bad);
      exact = rw p.1 (refuse (λ x. unreadable _ _ _ _ (λ i. (c.type_inv.file i).fits) bad x));
      recorded = rw p.1 tt;
      states = rw (wide, bad);
      moves = rw (wide, bad);
    }
