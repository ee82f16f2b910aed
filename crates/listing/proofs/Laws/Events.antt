-- Laws of the events' lines. Assumes nothing.
use Prim.Native.Nat.{ℕ, zero, suc, ◌+◌, ◌*◌, ◌≤◌, ◌<◌}
use mathlib.Core.Path.{◌≡◌, refl, ◌∙◌}
use mathlib.Core.Bool.{true}
use mathlib.Core.List.{List, [], ◌++◌}
use native.Mathlib.Omega.{arith}
use lib.ListN.{length, length-append}
use Rattle.units.specs.Folds.{over}
use Rattle.units.proofs.Laws.Folds.{over-more}
use Rattle.table.specs.declared.Table.{Table}
use Rattle.state.specs.declared.State.{State}
use Rattle.records.specs.{declared.Event.Event, Records.first_event, Records.event_count, Contents.event}
use Rattle.lines.specs.Lines.{text}
use Rattle.lines.proofs.Laws.{Lengths.text-le, Whole.Written, Whole.Laid, Whole.written-laid}
use Rattle.lines.proofs.Laws.Following.{Begins, lent_from, lent_length, back_at, begins_more}
use Rattle.listing.specs.declared.Step.{Step}
use Rattle.listing.specs.Listing.{step, more, page}

module _ (file : List ℕ) (t : Table) (s : State) where
  -- a line is at most 64 bytes long
  pub page-le : (k : ℕ) → length (page file t s k).text ≤ 64 * k
  unfolding page over more
  page-le zero = omega arith
  page-le (suc k) =
      let x = step t (page file t s k).state (event file (first_event file + k)) in
      omega (arith, length-append (page file t s k).text (text x.line), text-le x.line, page-le k)

-- the lines of the first k events are written, and this is the state after them
abbrev pub Paged : List ℕ → List ℕ → Table → State → ℕ → List ℕ → ℕ → State → Type 0
Paged l₀ file t s k l end now = (end ≤ 64 * k) × (now ≡ (page file t s k).state) × Begins l₀ (page file t s k).text l end

-- one line more
pub followed : {now : State} {first : ℕ} {e : Event} {x : Step} {r : ℕ} {m : List ℕ} (l₀ file : List ℕ) (t : Table) (s : State) (k : ℕ) (l : List ℕ) (end count : ℕ)
    → 64 * event_count file ≤ length l₀ → count ≡ event_count file → k < count → Paged l₀ file t s k l end now
    → first ≡ first_event file → e ≡ event file (first + k) → x ≡ step t now e
    → Written 64 (lent_from l end) (text x.line) r m → Paged l₀ file t s (k + 1) (back_at l end m) (end + r) x.state
unfolding page more
followed {x = x} {r} {m} l₀ file t s k l end count all counted test pages from said is w =
    (omega (arith, wrote, le), rw (next, same) refl, rw (next, ← same) filled)
  where
    next : page file t s (k + 1) ≡ more file t k (page file t s k)
    next = over-more (λ j. true) (more file t) (record { text = []; state = s }) k

    same : x ≡ step t (page file t s k).state (event file (first_event file + k))
    same = is ∙ rw (pages.1, said, from) refl

    room : 64 ≤ length (lent_from l end)
    room = omega (arith, lent_length l end)

    wrote : Laid (lent_from l end) (text x.line) r m
    wrote = written-laid 64 (lent_from l end) (text x.line) room w

    le : length (text x.line) ≤ 64
    le = text-le x.line

    fits : end + length (text x.line) ≤ length l
    fits = omega (arith, lent_length l end, room, le)

    filled : Begins l₀ ((page file t s k).text ++ text x.line) (back_at l end m) (end + r)
    filled = begins_more l₀ (page file t s k).text l end (text x.line) pages.2 fits wrote
