use Rattle.std.proofs.Common.{◌≡◌, ℕ, length, take, sym, refl, ap, arith}
use Rattle.std.proofs.lemmas.List.{length-take-le}
use Rattle.rulefile.specs.File.{rows_of}
use Rattle.rulefile.proofs.Checked.{room_ok}
use Rattle.rulefile.proofs.Agree.{states_range, moves_range, must_states, must_moves, agree}
use Rattle.rulefile.proofs.Listed.{states_read, moves_read, states_listed, moves_listed, states_same, moves_same}
use Rattle.rulefile.proofs.draft.make.agreed.Goals as goal

pub slice_bounds-same_rows-end : goal.slice_bounds-same_rows-end
slice_bounds-same_rows-end c =
    let wide = room_ok (length c.args.states.now) (length c.args.moves.now) c.in-Ok.ensures in
    sym (length-take-le c.in-Ok-scan.outline.states c.args.states.now (omega (arith, (states_range c.args.file.now c.in-Ok-scan.outline c.in-Ok-scan.ensures).1, wide.0)))

pub returns-then-not-same_rows-clause-found : goal.returns-then-not-same_rows-clause-found
returns-then-not-same_rows-clause-found c = λ k a.
    let f = c.args.file.now in
    let o = c.in-Ok-scan.outline in
    let wide = room_ok (length c.args.states.now) (length c.args.moves.now) c.in-Ok.ensures in
    let long = length-take-le o.states c.args.states.now (omega (arith, (states_range f o c.in-Ok-scan.ensures).1, wide.0)) in
    let t = states_same f o c.in-Ok-scan.ensures (take o.states c.args.states.now) (must_states f o c.in-Ok-scan.ensures _ _ k a) in
    let yes = c.same_rows.ensures.1 (t.0, rw long (states_listed _ _ f o.states_at o.states _ t.1)) in
    let no = c.if-not-same_rows.true in
    let z : ◌≡◌ {A = ℕ} 0 1 = cc in omega arith

pub between-requires : goal.between-requires
between-requires c = states_range c.args.file.now c.in-Ok-scan.outline c.in-Ok-scan.ensures

pub slice_bounds-same_rows-end-2 : goal.slice_bounds-same_rows-end-2
slice_bounds-same_rows-end-2 c =
    let wide = room_ok (length c.args.states.now) (length c.args.moves.now) c.in-Ok.ensures in
    sym (length-take-le c.in-Ok-scan.outline.moves c.args.moves.now (omega (arith, moves_range c.args.file.now c.in-Ok-scan.outline c.in-Ok-scan.ensures, wide.1)))

pub returns-then-not-same_rows-2-clause-found : goal.returns-then-not-same_rows-2-clause-found
returns-then-not-same_rows-2-clause-found c = λ k a.
    let f = c.args.file.now in
    let o = c.in-Ok-scan.outline in
    let wide = room_ok (length c.args.states.now) (length c.args.moves.now) c.in-Ok.ensures in
    let long = length-take-le o.moves c.args.moves.now (omega (arith, moves_range f o c.in-Ok-scan.ensures, wide.1)) in
    let t = moves_same f o c.in-Ok-scan.ensures (take o.moves c.args.moves.now) (must_moves f o c.in-Ok-scan.ensures _ _ k a) in
    let yes = c.same_rows-2.ensures.1 (t.0, rw long (moves_listed _ f o.states o.moves_at o.moves _ c.between.ensures t.1)) in
    let no = c.if-not-same_rows-2.true in
    let z : ◌≡◌ {A = ℕ} 0 1 = cc in omega arith

pub returns-clause-room : goal.returns-clause-room
returns-clause-room c =
    let wide = room_ok (length c.args.states.now) (length c.args.moves.now) c.in-Ok.ensures in
    let range = states_range c.args.file.now c.in-Ok-scan.outline c.in-Ok-scan.ensures in
    (omega (arith, range.1, wide.0), omega (arith, moves_range c.args.file.now c.in-Ok-scan.outline c.in-Ok-scan.ensures, wide.1))

pub returns-clause-found : goal.returns-clause-found
returns-clause-found c =
    let f = c.args.file.now in
    let o = c.in-Ok-scan.outline in
    let wide = room_ok (length c.args.states.now) (length c.args.moves.now) c.in-Ok.ensures in
    let long = length-take-le o.states c.args.states.now (omega (arith, (states_range f o c.in-Ok-scan.ensures).1, wide.0)) in
    let long' = length-take-le o.moves c.args.moves.now (omega (arith, moves_range f o c.in-Ok-scan.ensures, wide.1)) in
    let s = c.same_rows.ensures.0 c.if-not-same_rows.false in
    let m = c.same_rows-2.ensures.0 c.if-not-same_rows-2.false in
    let states = states_read _ _ f f o.states_at o.states _ refl (sym (rw long at s.1)) in
    let moves = moves_read _ f f o.states o.moves_at o.moves _ refl c.between.ensures (sym (rw long' at m.1)) in
    agree f o c.in-Ok-scan.ensures c.args.states.now c.args.moves.now wide.0 wide.1 (sym (ap rows_of states)) (sym (ap rows_of moves))
