-- `open_piece`: joined, read, and stopped or kept. Assumes nothing.
use Rattle.std.proofs.Common.{ℕ, ◌≡◌, min, refl, ap, ◌∙◌, ◌++◌, arith, length, take, lt-ltb, le-ltb}
use Rattle.std.proofs.Math.Decide.{dec_lt}
use Rattle.text.specs.Number.{width_of, width_between}
use Rattle.radio.specs.Kept.{lesser_of, stopped_radio}
use Rattle.radio.specs.Laws.{padded_long}
use Rattle.radio.proofs.Turning.{Cut, size_room, cut_some, cut_within, cut_end, cut_few, cut_long, cut_size, cut_line, piece_stops, piece_keeps}
use Rattle.radio.proofs.piece.open_piece.Goals as goal

-- the lesser of two, as the library says it
least : (a b : ℕ) → min a b ≡ lesser_of a b
unfolding lesser_of
least a b = elim (dec_lt a b) [
  | yes l ↦ let e : min a b ≡ a = omega arith in e ∙ rw (lt-ltb a b l) refl
  | no d ↦ let e : min a b ≡ b = omega arith in e ∙ rw (le-ltb a b (omega arith)) refl
]

pub overflow_sub-size : goal.overflow_sub-size
overflow_sub-size c = omega (arith, c.size_of-size.ensures, size_room (width_of c.args.props) c.requires.0 c.args.rest.now)

pub overflow_add-end : goal.overflow_add-end
overflow_add-end c =
    let cut : Cut _ c.args.radio _ c.size_of-size.result c.min-took.result = record { fit = c.requires.0; some = c.requires.1; few = (width_between c.args.props).1; is_size = c.size_of-size.ensures; is_took = (c.min-took.ensures ∙ least _ _) } in
    record { fits = omega (arith, cut_end cut, cut_few cut) }

pub joined-line-requires : goal.joined-line-requires
joined-line-requires c =
    let cut : Cut _ c.args.radio _ c.size_of-size.result c.min-took.result = record { fit = c.requires.0; some = c.requires.1; few = (width_between c.args.props).1; is_size = c.size_of-size.ensures; is_took = (c.min-took.ensures ∙ least _ _) } in
    (c.requires.0.room, cut_within cut)

pub slice_bounds-line-end : goal.slice_bounds-line-end
slice_bounds-line-end c =
    let cut : Cut _ c.args.radio _ c.size_of-size.result c.min-took.result = record { fit = c.requires.0; some = c.requires.1; few = (width_between c.args.props).1; is_size = c.size_of-size.ensures; is_took = (c.min-took.ensures ∙ least _ _) } in
    omega (arith, cut_end cut, cut_few cut, ap length c.joined-line.ensures, padded_long (take c.args.radio.len c.args.radio.part ++ take c.min-took.result c.args.rest.now))

pub slice_bounds-good_of-end : goal.slice_bounds-good_of-end
slice_bounds-good_of-end c =
    let cut : Cut _ c.args.radio _ c.size_of-size.result c.min-took.result = record { fit = c.requires.0; some = c.requires.1; few = (width_between c.args.props).1; is_size = c.size_of-size.ensures; is_took = (c.min-took.ensures ∙ least _ _) } in
    omega (arith, cut_long cut, ap length (cut_line cut c.joined-line.ensures))

pub good_of-good-requires : goal.good_of-good-requires
good_of-good-requires c =
    let cut : Cut _ c.args.radio _ c.size_of-size.result c.min-took.result = record { fit = c.requires.0; some = c.requires.1; few = (width_between c.args.props).1; is_size = c.size_of-size.ensures; is_took = (c.min-took.ensures ∙ least _ _) } in
    rw (cut_line cut c.joined-line.ensures) (omega (arith, cut_long cut, cut_some cut), omega (arith, cut_long cut, cut_end cut, cut_size cut))

pub overflow_add-radio : goal.overflow_add-radio
overflow_add-radio c =
    let cut : Cut _ c.args.radio _ c.size_of-size.result c.min-took.result = record { fit = c.requires.0; some = c.requires.1; few = (width_between c.args.props).1; is_size = c.size_of-size.ensures; is_took = (c.min-took.ensures ∙ least _ _) } in
    record { fits = omega (arith, c.if-good-end.true, c.requires.0.low, cut_within cut) }

pub returns-then-good-end : goal.returns-then-good-end
returns-then-good-end c =
    let cut : Cut _ c.args.radio _ c.size_of-size.result c.min-took.result = record { fit = c.requires.0; some = c.requires.1; few = (width_between c.args.props).1; is_size = c.size_of-size.ensures; is_took = (c.min-took.ensures ∙ least _ _) } in
    piece_stops cut c.joined-line.ensures refl c.good_of-good.ensures c.if-good-end.true (c.stopped.ensures ∙ ap (stopped_radio c.args.radio) c.at.ensures)

pub returns : goal.returns
returns c =
    let cut : Cut _ c.args.radio _ c.size_of-size.result c.min-took.result = record { fit = c.requires.0; some = c.requires.1; few = (width_between c.args.props).1; is_size = c.size_of-size.ensures; is_took = (c.min-took.ensures ∙ least _ _) } in
    piece_keeps cut c.joined-line.ensures refl c.good_of-good.ensures c.if-good-end.false
