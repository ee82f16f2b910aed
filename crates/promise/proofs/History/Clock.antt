-- The state's tick is the start's, and the closed ticks on. Assumes nothing.
use Prim.Native.Nat.{ℕ, ◌^◌, ◌<◌}
use mathlib.Core.Path.{◌≡◌, sym, ap, ◌∙◌}
use mathlib.Core.Bool.{true, false}
use mathlib.Core.List.{List, [], ◌∷◌}
use native.Mathlib.Omega.{arith}
use Rattle.units.specs.declared.Tick.{Tick}
use Rattle.units.specs.Clock.{tick, after}
use Rattle.units.proofs.Laws.Clock.{after_none, after_more}
use Rattle.table.specs.declared.Table.{Table}
use Rattle.state.specs.Answers.{Answer}
use Rattle.state.specs.declared.Report.TheVariants.{CarryOn}
use Rattle.state.specs.declared.State.{State}
use Rattle.state.proofs.Laws.Fresh.{empty-is}
use Rattle.choice.proofs.Laws.Choice as Law
use Rattle.promise.specs.History.{written, Line, Call, report, answered, is_report, is_tick, lines, ticks_closed}
use Rattle.promise.specs.Promise.{Passed}
use Rattle.promise.proofs.Keep.Made.{Made, refused, takes-on, chooses, idles, runs}
use Rattle.promise.proofs.History.Counts.{no_tick, one-tick}
use Rattle.promise.proofs.History.Tells.{line, no_number}
use Rattle.promise.proofs.History.Start.{start_is, at, history, made}

module _ (now : ℕ) (s : State) (h : List Line) (was : s.tick ≡ tick (after now (ticks_closed h))) where
  abbrev Ticks : Call → Answer → Type 0
  Ticks call a = a.state.tick ≡ tick (after now (ticks_closed (line call a ∷ h)))

  stays : (call : Call) (a : Answer) → is_tick (line call a) ≡ false → a.state.tick ≡ s.tick → Ticks call a
  stays call a e f = f ∙ was ∙ ap (λ (n : ℕ). tick (after now n)) (sym (no_tick (line call a) h e))

  rises : (call : Call) (a : Answer) → is_tick (line call a) ≡ true → a.state.tick ≡ tick (after s.tick.0 1) → Ticks call a
  rises call a e f =
      f ∙ ap (λ (x : Tick). tick (after x.0 1)) was ∙ ap tick (after_more now (ticks_closed h)) ∙ ap (λ (n : ℕ). tick (after now n)) (sym (one-tick (line call a) h e))

  ticks-next : (t : Table) (call : Call) (a : Answer) → Made t s call a → Ticks call a
  ticks-next t call a (refused n l e) = stays call a (ap (λ (b : Answer). is_tick (line call b)) e ∙ no_number (is_report call) n (omega (arith, l))) (ap (λ (b : Answer). b.state.tick) e)
  ticks-next t call a (takes-on p c l f e) = stays call a (ap (λ (q : Call). is_tick (line q a)) c) (ap (λ (b : Answer). b.state.tick) e)
  ticks-next t call a (chooses c e) = stays call a (ap (λ (q : Call). is_tick (line q a)) c) (ap (λ (b : Answer). b.state.tick) e ∙ ap (λ (x : State). x.tick) (Law.choice-is t s))
  ticks-next t call a (idles c m r f e) =
      rises call a (ap (λ (q : Call). is_tick (line q a)) c ∙ ap (λ (b : Answer). is_tick (line (report CarryOn) b)) e) (ap (λ (b : Answer). b.state.tick) e)
  ticks-next t call a (runs p said c m r l f g e) =
      rises call a (ap (λ (q : Call). is_tick (line q a)) c ∙ ap (λ (b : Answer). is_tick (line (report said) b)) e) (ap (λ (b : Answer). b.state.tick) e)

module _ {t : Table} (passed : Passed written t) (now : ℕ) (small : now < 2 ^ 32) where
  pub tick_is : (calls : List Call) → (at passed now small calls).tick ≡ tick (after now (ticks_closed (history passed now small calls)))
  unfolding lines ticks_closed
  tick_is [] = ap (λ (s : State). s.tick) (start_is passed now small ∙ empty-is (tick now)) ∙ ap tick (sym (after_none now small))
  tick_is (call ∷ before) =
      ticks-next now (at passed now small before) (history passed now small before) (tick_is before) t call
      (answered written t (at passed now small before) call) (made passed now small before call)
