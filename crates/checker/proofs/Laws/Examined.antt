-- What `examine` answers, by what its calls gave and its tests said. Assumes nothing.
use Rattle.std.specs.Prelude.{Option, Some, None}
use Prim.Native.Nat.{ℕ, ◌<◌}
use mathlib.Core.List.{List}
use mathlib.Core.Path.{◌≡◌, refl, sym, ap, ◌∙◌}
use mathlib.Core.Bool.{Bool, true, false, not, ◌&&◌, cond}
use lib.Dec.{eqb}
use mir.Val.{Val}
use denote.Laws.{Is}
use Rattle.units.proofs.Laws.Tests.{passed, failed, and-true, cond_yes, cond_no}
use Rattle.table.specs.declared.Table.{Table}
use Rattle.table.specs.Table.{D, ceilings}
use Rattle.table.specs.contracts.Table as table
use Rattle.state.specs.declared.State.{State}
use Rattle.state.specs.Order.{position_of, is_pending}
use Rattle.state.proofs.Laws.Order.{first-position}
use Rattle.choice.specs.declared.Turn.{Turn}
use Rattle.choice.specs.Choice.{runner, turn}
use Rattle.consistency.specs.Consistency.{positions_fit, mark_fits, half_fits}
use Rattle.seen.specs.declared.Seen.{Seen}
use Rattle.seen.specs.Seen.{seen, walked, is_free, run_by, half_fits_by, fits, examined}
use Rattle.seen.proofs.Laws.Runner.{runner_free_top, runner-by}
use Rattle.seen.proofs.Laws.Begun.{half-by}
use Rattle.checker.proofs.Laws.Limits.{eight}

module _ (t : Table) (s : State) where
  abbrev marks : Bool
  marks = mark_fits t.count s.tick.0 s.mark

  abbrev halves : Bool
  halves = half_fits t s s.half

  fails : positions_fit t s ≡ false → fits t s ≡ false
  unfolding fits
  fails h = ap (λ (b : Bool). b && (marks && halves)) h

  fails_after : (marks && halves) ≡ false → fits t s ≡ false
  unfolding fits
  fails_after h = go (positions_fit t s)
    where
      go : (b : Bool) → (b && (marks && halves)) ≡ false
      go true = h
      go false = refl

  fails_last : halves ≡ false → (marks && halves) ≡ false
  fails_last h = go marks
    where
      go : (b : Bool) → (b && halves) ≡ false
      go true = h
      go false = refl

  refused : fits t s ≡ false → None ≡ examined t s
  unfolding examined
  refused h = sym (cond_no _ _ h)

  -- ---- by the walk, and the mark

  module _ {m : Bool} (f : m ≡ marks) where
    pub mark_unfit : not m ≡ true → None ≡ examined t s
    mark_unfit h = refused (fails_after (ap (λ (b : Bool). b && halves) (failed f h)))

  walk_tells : {w : Option Seen} → w ≡ walked t s → ((w ≡ None) → positions_fit t s ≡ false) × ((x : Seen) → w ≡ Some x → (positions_fit t s ≡ true) × (x ≡ seen s))
  unfolding walked
  walk_tells {w} e = go (positions_fit t s) e
    where
      go : (b : Bool) → w ≡ cond b (Some (seen s)) None → ((w ≡ None) → b ≡ false) × ((x : Seen) → w ≡ Some x → (b ≡ true) × (x ≡ seen s))
      go true e = ((λ h. cc), (λ x h. (refl, cc)))
      go false e = ((λ h. refl), (λ x h. (cc, cc)))

  module _ {w : Option Seen} (e : w ≡ walked t s) where
    pub places_unfit : w ≡ None → None ≡ examined t s
    places_unfit h = refused (fails ((walk_tells e).0 h))

    module _ {x : Seen} (h : w ≡ Some x) where
      pub walk_fits : positions_fit t s ≡ true
      walk_fits = ((walk_tells e).1 x h).0

      pub walk_seen : x ≡ seen s
      walk_seen = ((walk_tells e).1 x h).1

      pub top_placed : position_of x.top < 16
      unfolding seen
      top_placed = rw walk_seen (first-position s is_pending)

      -- ---- by the runner's place

      module _ (vs : List Val) (g : Is table.the_row t vs) {b : Bool} (f : b ≡ is_free x) where
        free_is : is_free (seen s) ≡ b
        free_is = sym (f ∙ ap is_free walk_seen)

        pub run_top : b ≡ true → {run : ℕ} → run ≡ x.top → run ≡ runner t s
        unfolding seen
        run_top i e = e ∙ ap (λ (x : Seen). x.top) walk_seen ∙ sym (runner_free_top t s walk_fits (eight t vs g) (free_is ∙ i))

        pub run_first : b ≡ false → {run r : ℕ} → r ≡ run_by x (ceilings t) (D t (position_of x.top)) → run ≡ r → run ≡ runner t s
        unfolding seen
        run_first i d e =
            e ∙ d ∙ ap (λ (x : Seen). run_by x (ceilings t) (D t (position_of x.top))) walk_seen ∙ sym (runner-by t s walk_fits (eight t vs g) (free_is ∙ i))

      -- ---- by the turn

      module _ {run : ℕ} (r : run ≡ runner t s) {u : Turn} (k : u ≡ turn t s) {p : Bool} (i : p ≡ half_fits_by s.half s.runner s.mark (eqb run x.started) u) where
        half_is : p ≡ halves
        unfolding seen
        half_is = i ∙ rw (walk_seen, r, k) (sym (half-by t s walk_fits))

        pub half_unfit : not p ≡ true → None ≡ examined t s
        half_unfit j = refused (fails_after (fails_last (failed half_is j)))

        pub all_fit : {m : Bool} → m ≡ marks → not m ≡ false → not p ≡ false → Some (record { turn = u; held = x.held; due = x.due }) ≡ examined t s
        unfolding examined fits seen
        all_fit f a b = rw (walk_seen, k) (sym (cond_yes _ _ (and-true _ _ walk_fits (and-true _ _ (passed f a) (passed half_is b)))))
