-- What a call answers.
use Rattle.std.specs.Prelude.{ℕ, None, Ok, Err, Result}
use Rattle.state.specs.{declared.State.State, declared.Success.Success, declared.Refusal.Refusal, declared.Ending.Ending, State.Runner, declared.Mode.Mode, declared.Mode.TheVariants.Independent}
use Rattle.state.specs.declared.Refusal.TheVariants.{Inconsistent, NotInTable, WrongHalf, TooEarly, MayNotTake, NotNow, HeldByAnother, Late}
use Rattle.state.specs.declared.Ending.TheVariants.{GoesOn, Done, Cut}

-- what document 01 says that a release, a choice or a report answers
pub record Answer : Type 0 where
  pub number : ℕ
  pub state : State
  pub runner : Runner
  pub mode : Mode
  pub speed : ℕ
  pub ending : ℕ

-- "9: state not consistent", "10: position not in the table", "11: wrong half of the tick", "12: release too early", "13: take of a resource above 7 or with limit 0",
-- "14: take while holding, give while holding none, or any report but carry on at an idle tick", "15: take of a resource that another job holds", "16: a job still pending after this half would stand at its deadline"
abbrev pub refusal_number : Refusal → ℕ
refusal_number Inconsistent = 9
refusal_number NotInTable = 10
refusal_number WrongHalf = 11
refusal_number TooEarly = 12
refusal_number MayNotTake = 13
refusal_number NotNow = 14
refusal_number HeldByAnother = 15
refusal_number Late = 16

-- "0 goes on or idle, 1 done, 2 cut"
abbrev pub ending_number : Ending → ℕ
ending_number GoesOn = 0
ending_number Done = 1
ending_number Cut = 2

-- "Every refusal leaves the state unchanged and returns no job, independent, speed 0, ending 0.": an answer with a number and a state alone
abbrev pub bare : ℕ → State → Answer
bare n s = record { number = n; state = s; runner = None; mode = Independent; speed = 0; ending = 0 }

-- "0 is success."
abbrev pub number_told : {A : Type 0} → Result A Refusal → ℕ
number_told (Ok a) = 0
number_told (Err r) = refusal_number r

-- what the code's answer to a call on a state tells
abbrev pub told : State → Result Success Refusal → Answer
told s (Ok a) = record { number = 0; state = a.state; runner = a.runner; mode = a.mode; speed = a.speed; ending = ending_number a.ending }
told s (Err r) = bare (refusal_number r) s
