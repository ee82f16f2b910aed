-- A machine that keeps the contracts of our calls is the written one, and meets demands 2 and 3; one that meets demand 2 keeps them. Assumes nothing.
use mathlib.Core.Path.{◌≡◌, refl, sym, ◌∙◌, fun_ext, subst}
use Rattle.table.specs.declared.Table.{Table}
use Rattle.state.specs.{declared.State.State}
use Rattle.promise.specs.History.{Machine, written, Call, release, choose, report, answered}
use Rattle.promise.proofs.Promise.{promise}
use Rattle.firm.proofs.Told.{release-told, choose-told, report-told}
use Rattle.firm.specs.Machines.{Contracts, Numbers, Choices, States, Meets}

-- ours: the functions that our contracts name
pub ours : Contracts written
ours = record {
  verdict = λ t. refl;
  fresh = λ t now. refl;
  release = λ t s p. let w = release-told s t p in (w.0, w.1, w.1);
  choose = λ t s. let w = choose-told s t in (w.0, w.1, w.1);
  report = λ t s said. let w = report-told s t said in (w.0, w.1, w.1);
}

pub written-meets : Meets written
written-meets = record {
  numbers = record { verdict = λ t. refl; fresh = λ t now. refl; calls = λ t s call. refl };
  choices = record { runner = λ t s call. refl; mode = λ t s call. refl; speed = λ t s call. refl; ending = λ t s call. refl };
  states = record { fresh = λ t now. refl; calls = λ t s call. refl };
  promise = promise;
}

-- whatever functions keep the contracts are these
module _ (m : Machine) (c : Contracts m) where
  pub same : m ≡ written
  same = λ i. record {
    verdict = fun_ext (λ t. c.verdict t) i;
    fresh = fun_ext (λ t. fun_ext (λ now. c.fresh t now)) i;
    release = fun_ext (λ t. fun_ext (λ s. fun_ext (λ p. let w = c.release t s p in sym w.2 ∙ w.1))) i;
    choose = fun_ext (λ t. fun_ext (λ s. let w = c.choose t s in sym w.2 ∙ w.1)) i;
    report = fun_ext (λ t. fun_ext (λ s. fun_ext (λ said. let w = c.report t s said in sym w.2 ∙ w.1))) i;
  }

  pub meets : Meets m
  meets = subst Meets (sym same) written-meets

-- the parts are all there is
module _ (m : Machine) (n : Numbers m) (c : Choices m) (s : States m) where
  answer-is : (t : Table) (x : State) (call : Call) → answered m t x call ≡ answered written t x call
  answer-is t x call = λ i. record {
    number = n.calls t x call i;
    state = s.calls t x call i;
    runner = c.runner t x call i;
    mode = c.mode t x call i;
    speed = c.speed t x call i;
    ending = c.ending t x call i;
  }

  pub whole : Contracts m
  whole = record {
    verdict = n.verdict;
    fresh = λ t now i. record { verdict = n.fresh t now i; state = s.fresh t now i };
    release = λ t x p. let w = release-told x t p in (w.0, w.1, w.1 ∙ sym (answer-is t x (release p)));
    choose = λ t x. let w = choose-told x t in (w.0, w.1, w.1 ∙ sym (answer-is t x choose));
    report = λ t x said. let w = report-told x t said in (w.0, w.1, w.1 ∙ sym (answer-is t x (report said)));
  }
