-- What the code's answers tell: no two the same. Assumes nothing.
use Prim.Native.Nat.{ℕ}
use mathlib.Core.Path.{◌≡◌, refl, sym, ap, ◌∙◌}
use mathlib.Core.Bool.{cond}
use native.Mathlib.Omega.{arith}
use lib.Dec.{eqb}
use Rattle.std.specs.Prelude.{Ok, Err, Result}
use Rattle.state.specs.declared.State.{State}
use Rattle.state.specs.declared.Success.{Success}
use Rattle.state.specs.declared.Refusal.{Refusal}
use Rattle.state.specs.declared.Refusal.TheVariants.{Inconsistent, NotInTable, WrongHalf, TooEarly, MayNotTake, NotNow, HeldByAnother, Late}
use Rattle.state.specs.declared.Ending.{Ending}
use Rattle.state.specs.declared.Ending.TheVariants.{GoesOn, Done, Cut}
use Rattle.state.specs.Answers.{Answer, refusal_number, ending_number, told}

-- the refusal of a number, the ending of one
abbrev refusal_of : ℕ → Refusal
refusal_of n =
    cond (eqb n 9) Inconsistent (cond (eqb n 10) NotInTable (cond (eqb n 11) WrongHalf (cond (eqb n 12) TooEarly
    (cond (eqb n 13) MayNotTake (cond (eqb n 14) NotNow (cond (eqb n 15) HeldByAnother Late))))))

back : (r : Refusal) → refusal_of (refusal_number r) ≡ r
back Inconsistent = refl
back NotInTable = refl
back WrongHalf = refl
back TooEarly = refl
back MayNotTake = refl
back NotNow = refl
back HeldByAnother = refl
back Late = refl

abbrev ending_of : ℕ → Ending
ending_of n = cond (eqb n 0) GoesOn (cond (eqb n 1) Done Cut)

ending_back : (e : Ending) → ending_of (ending_number e) ≡ e
ending_back GoesOn = refl
ending_back Done = refl
ending_back Cut = refl

pub refusal-same : (q r : Refusal) → refusal_number q ≡ refusal_number r → q ≡ r
refusal-same q r e = sym (back q) ∙ ap refusal_of e ∙ back r

pub ending-same : (d e : Ending) → ending_number d ≡ ending_number e → d ≡ e
ending-same d e h = sym (ending_back d) ∙ ap ending_of h ∙ ending_back e

-- no refusal is a success
pub refusal_some : (r : Refusal) → refusal_number r ≡ 0 → ⊥
refusal_some Inconsistent e = omega (arith, e)
refusal_some NotInTable e = omega (arith, e)
refusal_some WrongHalf e = omega (arith, e)
refusal_some TooEarly e = omega (arith, e)
refusal_some MayNotTake e = omega (arith, e)
refusal_some NotNow e = omega (arith, e)
refusal_some HeldByAnother e = omega (arith, e)
refusal_some Late e = omega (arith, e)

abbrev number : Answer → ℕ
number a = a.number

pub success-same : (s : State) (a b : Success) → told s (Ok a) ≡ told s (Ok b) → a ≡ b
success-same s a b e = λ i. record {
  state = (e i).state;
  runner = (e i).runner;
  mode = (e i).mode;
  speed = (e i).speed;
  ending = ending-same a.ending b.ending (ap (λ (a : Answer). a.ending) e) i;
}

pub told-same : (s : State) (x y : Result Success Refusal) → told s x ≡ told s y → x ≡ y
told-same s (Ok a) (Ok b) e = ap Ok (success-same s a b e)
told-same s (Ok a) (Err r) e = absurd (refusal_some r (sym (ap number e)))
told-same s (Err q) (Ok b) e = absurd (refusal_some q (ap number e))
told-same s (Err q) (Err r) e = ap Err (refusal-same q r (ap number e))
