use Rattle.checker.proofs.Laws.Examined.{mark_unfit, places_unfit, walk_fits, walk_seen, top_placed, run_top, run_first, half_unfit, all_fit}
use Rattle.checker.proofs.examine.Goals as goal
use Rattle.checker.proofs.examine.Goals.{then-is_free, else-is_free}

pub returns-in_err-seen : goal.returns-in_err-seen
returns-in_err-seen c = rw c.from_residual.ensures (places_unfit _ _ c.walk.ensures c.in_err-seen.was)

pub returns-then-not-mark_fits : goal.returns-then-not-mark_fits
returns-then-not-mark_fits c = search mark_unfit

pub run_place-run-requires : goal.run_place-run-requires
run_place-run-requires c = top_placed _ _ c.walk.ensures c.in_ok-seen.was

pub turn-turn-requires : goal.turn-turn-requires
turn-turn-requires c = (walk_fits _ _ c.walk.ensures c.in_ok-seen.was, (walk_seen _ _ c.walk.ensures c.in_ok-seen.was, elim c.if-is_free.branch [ then-is_free w ↦ search (run_top, c.in_ok-seen.was) | else-is_free w ↦ search (run_first, c.in_ok-seen.was) ]))

pub returns-then-not-half_fits : goal.returns-then-not-half_fits
returns-then-not-half_fits c = elim c.if-is_free.branch [ then-is_free w ↦ search (half_unfit, run_top, c.in_ok-seen.was) | else-is_free w ↦ search (half_unfit, run_first, c.in_ok-seen.was) ]

pub returns : goal.returns
returns c = elim c.if-is_free.branch [ then-is_free w ↦ search (all_fit, run_top, c.in_ok-seen.was) | else-is_free w ↦ search (all_fit, run_first, c.in_ok-seen.was) ]
