-- What the promise leaves open. Assumes nothing.
mod Blank
mod Named
use Rattle.std.specs.Prelude.{Some, None}
use Prim.Native.Nat.{ℕ, ◌^◌, ◌<◌}
use mathlib.Core.Path.{◌≡◌, refl, sym, ap, ◌∙◌, subst}
use mathlib.Core.Bool.{false≢true}
use mathlib.Core.List.{List, [], ◌∷◌}
use mathlib.Core.Option.{Option, none, some}
use native.Mathlib.Decide.{ℕ_discrete}
use Rattle.units.specs.Clock.{tick, after}
use Rattle.table.specs.declared.Table.{Table}
use Rattle.state.specs.declared.State.{State}
use Rattle.state.specs.State.{empty, job_at, Runner}
use Rattle.state.specs.Answers.{Answer, bare}
use Rattle.promise.specs.History.{Machine, Line, line_of, lines, state_after, Call, release, choose, report, answered, start, ticks_closed, standing, number_by, ending_by, job_by, half_by, runner_by}
use Rattle.promise.specs.Promise.{Passed, Kept, Promise}
use Rattle.firm.specs.Open.{SameSpeed, Told, Same, Determined}
use Rattle.firm.proofs.Open.Named as Named
use Rattle.firm.proofs.Open.Blank as Blank
use Rattle.firm.proofs.Open.Blank.{blank, blanks}

join : {a b c : Answer} → Told a b → Told b c → Told a c
join p q = record { runner = p.runner ∙ q.runner; mode = p.mode ∙ q.mode; speed = p.speed ∙ q.speed }

back : {a b : Answer} → Told a b → Told b a
back p = record { runner = sym p.runner; mode = sym p.mode; speed = sym p.speed }

-- two answers that are bare
bares : {a b : Answer} (j k : ℕ) (x y : State) → a ≡ bare j x → b ≡ bare k y → Told a b
bares j k x y p q = record {
  runner = ap (λ (a : Answer). a.runner) p ∙ sym (ap (λ (a : Answer). a.runner) q);
  mode = ap (λ (a : Answer). a.mode) p ∙ sym (ap (λ (a : Answer). a.mode) q);
  speed = ap (λ (a : Answer). a.speed) p ∙ sym (ap (λ (a : Answer). a.speed) q);
}

abbrev which : Option Answer → Answer
which none = bare 0 (empty (tick 0))
which (some c) = c

-- two places of two machines, with the same lines but for the states and the endings
module _ (m n : Machine) (t : Table) (now : ℕ) (s r : State) (h g : List Line) (km : Kept m t now s h) (kn : Kept n t now r g) (e : blanks h ≡ blanks g)
    (next-m : Kept m t now (answered m t s choose).state (line_of m t s choose ∷ h)) (next-n : Kept n t now (answered n t r choose).state (line_of n t r choose ∷ g))
    (alike : SameSpeed (answered m t s choose) (answered n t r choose)) where
  pub same_number : (call : Call) → (answered m t s call).number ≡ (answered n t r call).number
  same_number call =
      km.by_the_list call ∙ sym (Blank.blank_number t h call) ∙ ap (λ (x : List Line). number_by t x (standing x) call) e
      ∙ Blank.blank_number t g call ∙ sym (kn.by_the_list call)

  same-choice : (c d : Answer) → standing h ≡ some c → standing g ≡ some d → Told c d
  same-choice c d ec ed =
      let w : blank c ≡ blank d = ap which (sym (Blank.blank_standing h ∙ ap (Blank.blank_choice) ec) ∙ ap standing e ∙ Blank.blank_standing g ∙ ap (Blank.blank_choice) ed) in
      record { runner = ap (λ (a : Answer). a.runner) w; mode = ap (λ (a : Answer). a.mode) w; speed = ap (λ (a : Answer). a.speed) w }

  -- both choices name one job, or nobody
  same_named : (answered m t s choose).number ≡ 0 → (answered n t r choose).number ≡ 0 → (p : Runner) → (answered m t s choose).runner ≡ p → (q : Runner) → (answered n t r choose).runner ≡ q
      → (answered m t s choose).runner ≡ (answered n t r choose).runner
  same_named z y None f None f' = f ∙ sym f'
  same_named z y None f (Some l) f' =
      absurd (false≢true (sym ((km.idles_alone z f).0 l) ∙ ap (λ (x : Named.View). x.there l) (Named.same_view t h g e) ∙ (Named.is_named n t now r g kn next-n y l f').there))
  same_named z y (Some k) f None f' =
      absurd (false≢true (sym ((kn.idles_alone y f').0 k) ∙ sym (ap (λ (x : Named.View). x.there k) (Named.same_view t h g e)) ∙ (Named.is_named m t now s h km next-m z k f).there))
  same_named z y (Some k) f (Some l) f' =
      let mine = subst (λ (x : Named.View). Named.Named t x k) (Named.same_view t h g e) (Named.is_named m t now s h km next-m z k f) in
      f ∙ ap Some (Named.one_runner t (Named.view_of t g) k l mine (Named.is_named n t now r g kn next-n y l f')) ∙ sym f'

  taken : (call : Call) → (answered m t s call).number ≡ 0 → (answered n t r call).number ≡ 0 → Told (answered m t s call) (answered n t r call)
  taken (release k) z y = let p = answered m t s (release k) in let q = answered n t r (release k) in bares p.number q.number p.state q.state (km.released_bare k) (kn.released_bare k)
  taken choose z y = record { runner = same_named z y (answered m t s choose).runner refl (answered n t r choose).runner refl; mode = alike.mode; speed = alike.speed }
  taken (report said) z y =
      let (c, ec, rc, mc, vc) = km.as_chosen said z in
      let (d, ed, rd, dd, vd) = kn.as_chosen said y in
      join (record { runner = rc; mode = mc; speed = vc }) (join (same-choice c d ec ed) (back (record { runner = rd; mode = dd; speed = vd })))

  pub same-told : (call : Call) → Told (answered m t s call) (answered n t r call)
  same-told call = go (ℕ_discrete (answered m t s call).number 0)
    where
      go : Dec ((answered m t s call).number ≡ 0) → Told (answered m t s call) (answered n t r call)
      go (yes z) = taken call z (sym (same_number call) ∙ z)
      go (no z) = bares (answered m t s call).number (answered n t r call).number s r (km.refused_bare call z) (kn.refused_bare call (λ y. z (same_number call ∙ y)))

  same_blank : (call : Call) → blank (answered m t s call) ≡ blank (answered n t r call)
  same_blank call = let w = same-told call in
      λ i. record { number = same_number call i; state = empty (tick 0); runner = w.runner i; mode = w.mode i; speed = w.speed i; ending = 0 }

  pub same-ending : (call : Call) → (answered m t s call).ending ≡ (answered n t r call).ending
  same-ending call =
      km.says_ending call ∙ sym (Blank.blank_ending t h (line_of m t s call) (answered m t s call).runner)
      ∙ (λ i. ending_by t (e i) (record { call = call; answer = same_blank call i }) ((same-told call).runner i))
      ∙ Blank.blank_ending t g (line_of n t r call) (answered n t r call).runner ∙ sym (kn.says_ending call)

  pub same_next : (call : Call) → blanks (line_of m t s call ∷ h) ≡ blanks (line_of n t r call ∷ g)
  unfolding Blank.blanks
  same_next call = λ i. record { call = call; answer = same_blank call i } ∷ e i

  pub same-tick : s.tick ≡ r.tick
  same-tick = km.its_tick ∙ ap (λ (c : ℕ). tick (after now c)) (sym (Blank.blank_ticks h) ∙ ap ticks_closed e ∙ Blank.blank_ticks g) ∙ sym kn.its_tick

  pub same_half : s.half ≡ r.half
  same_half = km.its_half ∙ sym (Blank.blank_half h) ∙ ap (λ (x : List Line). half_by (standing x)) e ∙ Blank.blank_half g ∙ sym kn.its_half

  pub same-runner : s.runner ≡ r.runner
  same-runner = km.its_runner ∙ sym (Blank.blank_runner h) ∙ ap (λ (x : List Line). runner_by (standing x)) e ∙ Blank.blank_runner g ∙ sym kn.its_runner

  pub same_job : (k : ℕ) → job_at s k ≡ job_at r k
  same_job k =
      km.in_the_state k ∙ sym (Blank.blank_job t s.tick.0 k h) ∙ (λ i. job_by t (same-tick i).0 k (e i))
      ∙ Blank.blank_job t r.tick.0 k g ∙ sym (kn.in_the_state k)

module _ (m n : Machine) (pm : Promise m) (pn : Promise n) (t : Table) (a : Passed m t) (b : Passed n t) (now : ℕ) (small : now < 2 ^ 32)
    (alike : (calls : List Call) → SameSpeed (answered m t (state_after m t (start m t now) calls) choose) (answered n t (state_after n t (start n t now) calls) choose)) where
  same_lines : (calls : List Call) → blanks (lines m t (start m t now) calls) ≡ blanks (lines n t (start n t now) calls)
  unfolding lines
  same_lines [] = refl
  same_lines (call ∷ before) =
      same_next m n t now _ _ _ _ (pm.kept t a now small before) (pn.kept t b now small before) (same_lines before) (pm.kept t a now small (choose ∷ before)) (pn.kept t b now small (choose ∷ before)) (alike before) call

  same_at : (calls : List Call) → Same m n t (state_after m t (start m t now) calls) (state_after n t (start n t now) calls)
  unfolding lines
  same_at calls =
      let km = pm.kept t a now small calls in
      let kn = pn.kept t b now small calls in
      let e = same_lines calls in
      let next-m = pm.kept t a now small (choose ∷ calls) in
      let next-n = pn.kept t b now small (choose ∷ calls) in
      record {
        number = same_number m n t now _ _ _ _ km kn e next-m next-n (alike calls);
        told = same-told m n t now _ _ _ _ km kn e next-m next-n (alike calls);
        ending = same-ending m n t now _ _ _ _ km kn e next-m next-n (alike calls);
        tick = same-tick m n t now _ _ _ _ km kn e next-m next-n (alike calls);
        half = same_half m n t now _ _ _ _ km kn e next-m next-n (alike calls);
        runner = same-runner m n t now _ _ _ _ km kn e next-m next-n (alike calls);
        jobs = same_job m n t now _ _ _ _ km kn e next-m next-n (alike calls);
      }

pub determined : Determined
determined m n keeps-m keeps-n t passed-m passed-n now small alike calls = same_at m n keeps-m keeps-n t passed-m passed-n now small alike calls
