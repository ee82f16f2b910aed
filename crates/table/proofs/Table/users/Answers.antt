use Rattle.std.proofs.Common.{◌≡◌, cond, refl, ap, ◌∙◌, arith, lt-ltb, le-ltb}
use Rattle.units.specs.Folds.{over}
use Rattle.units.specs.Sets.{set, with}
use Rattle.units.proofs.Laws.Sets.{set_next}
use Rattle.units.proofs.Laws.Tests.{told_lt}
use Rattle.table.specs.Table.{task_at, limit, takes, users}
use Rattle.table.proofs.Table.users.Goals as goal
use Rattle.table.proofs.Table.users.Goals.{then-k-self+then-lt, else-k-self, else-k-self-via-then-k-self+else-lt, else-k-self-via-else-k-self}

pub loop-k-init : goal.loop-k-init
unfolding set over
loop-k-init c = (omega arith, refl)

pub loop-k-preserved : goal.loop-k-preserved
unfolding takes
loop-k-preserved c =
    let l = c.loop-k in
    let most = limit (task_at c.args.self.now l.k) c.args.resource in
    let next : c.if-k-self.users ≡ cond (takes c.args.self.now c.args.resource l.k) (with l.users l.k) l.users
    = elim c.if-k-self.branch [
      | then-k-self+then-lt w ↦ rw (w.users-is, lt-ltb _ _ w.if-k-self.true, told_lt 0 most w.lt.ensures w.if-lt.true) w.with-users.ensures
      | else-k-self w ↦ elim w.else-k-self.branch [
        | else-k-self-via-then-k-self+else-lt w' ↦ rw (w.users-is, lt-ltb _ _ w'.if-k-self.true, told_lt 0 most w'.lt.ensures w'.if-lt.false)
        | else-k-self-via-else-k-self w' ↦ rw (w.users-is, le-ltb _ _ w'.if-k-self.false)
      ]
    ] in
    (omega arith, set_next (takes c.args.self.now c.args.resource) l.k (omega arith) l.invariant.1 next)

pub returns : goal.returns
unfolding users
returns c = c.loop-k.invariant.1 ∙ ap (set _) (omega arith)
