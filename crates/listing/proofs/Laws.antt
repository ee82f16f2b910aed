-- Laws of the listing. Assumes nothing.
pub mod Events
use Prim.Native.Nat.{ℕ, ◌+◌, ◌*◌, ◌≤◌}
use mathlib.Core.Path.{◌≡◌, refl, sym, ◌∙◌}
use mathlib.Core.Bool.{Bool, true, false, cond}
use mathlib.Core.List.{List, [], ◌++◌, append-nil}
use native.Mathlib.Decide.{dec_le}
use native.Mathlib.Omega.{arith}
use lib.ListN.{length, take, length-append}
use lib.Seq.{length-take-le}
use lib.Dec.{eqb}
use borrow.Author.Tests.{eq-eqb, ne_eqb, lt-leb}
use Rattle.table.specs.declared.Table.{Table}
use Rattle.verdict.specs.Verdict.{answer}
use Rattle.admission.specs.Admission.{verdict}
use Rattle.units.specs.declared.Tick.{Tick}
use Rattle.state.specs.{declared.State.State, declared.Start.Start, State.fresh}
use Rattle.records.specs.{Records.event_count, Records.well_formed, Contents.table, Contents.start}
use Rattle.lines.specs.declared.Line.TheVariants as Line
use Rattle.lines.specs.Lines.{text, laid, leaves, answers}
use Rattle.lines.proofs.Laws.{Lengths.text-le, Whole.Written, Whole.Laid, Whole.written-laid, Whole.laid-written}
use Rattle.lines.proofs.Laws.Following.{Begins, lent_from, lent_length, back_at, begins_first, begins_more}
use Rattle.records.proofs.Laws.{lines_within}
use Rattle.listing.specs.Listing.{page, listed, listing}
use Rattle.listing.proofs.Laws.Events.{page-le}

-- the table's line is written, and its number is n
module _ (l file : List ℕ) {t : Table} {now : Tick} {s : Start} {n r : ℕ} {m : List ℕ} (room : 64 + 64 * event_count file ≤ length l) (reads : t ≡ table file)
    (begins : now ≡ start file) (starts : s ≡ fresh t now) (says : n ≡ (answer s.verdict).0) (w : Written 64 l (text (Line.Table n)) r m) where
  number : n ≡ (answer (verdict (table file))).0
  unfolding fresh
  number = says ∙ rw (starts, reads) refl

  first : Begins l (text (Line.Table n)) m r
  first = begins_first l (text (Line.Table n)) (omega (arith, text-le (Line.Table n))) (written-laid 64 l (text (Line.Table n)) (omega arith) w)

  -- there is room for the events behind it
  pub begun_room : 64 * event_count file ≤ length (lent_from m r)
  begun_room = omega (arith, lent_length m r, text-le (Line.Table n), first.1, first.2)

  -- and with what follows it is the listing of the file
  pub begun : {end : ℕ} {whole : List ℕ} → n ≡ 0 → Laid (lent_from m r) (page file t s.state (event_count file)).text end whole → Laid l (listed file) (r + end) (back_at m r whole)
  unfolding listed fresh
  begun h laid =
      let events = (page file t s.state (event_count file)).text in
      let e : listed file ≡ text (Line.Table n) ++ events = rw (← number, eq-eqb _ _ h, starts, begins, reads) refl in
      let fits : r + length events ≤ length m = omega (arith, begun_room, lent_length m r, page-le file t s.state (event_count file), first.1, first.2, text-le (Line.Table n)) in
      let all = begins_more l (text (Line.Table n)) m r events first fits laid in
      rw e (all.0, all.1)

  -- where the table does not pass it is that alone
  alone : (n ≡ 0 → ⊥) → Laid l (listed file) r m
  unfolding listed
  alone h = let e : listed file ≡ text (Line.Table n) = rw (← number, ne_eqb _ _ h) (append-nil _) in rw e (first.0, first.1)

module _ (l file : List ℕ) {t : Table} {now : Tick} {s : Start} {n : ℕ} (room : 64 + 64 * event_count file ≤ length l) (reads : t ≡ table file)
    (begins : now ≡ start file) (starts : s ≡ fresh t now) (says : n ≡ (answer s.verdict).0) (not_passed : n ≡ 0 → ⊥) where
  as_written : Laid l (listed file) (answers 64 l (text (Line.Table n))) (leaves 64 l (text (Line.Table n)))
  as_written = alone l file room reads begins starts says (refl, refl) not_passed

  pub alone_text : laid l (listed file) ≡ leaves 64 l (text (Line.Table n))
  alone_text = sym as_written.0

  pub alone_count : answers 64 l (text (Line.Table n)) ≡ length (listed file)
  alone_count = as_written.1

listed_le : (file : List ℕ) → length (listed file) ≤ 64 + 64 * event_count file
unfolding listed
listed_le file = go (eqb number 0)
  where
    t : Table
    t = table file

    number : ℕ
    number = (answer (verdict t)).0

    s : State
    s = (fresh t (start file)).state

    go : (b : Bool) → length (text (Line.Table number) ++ cond b (page file t s (event_count file)).text []) ≤ 64 + 64 * event_count file
    go true = omega (arith, length-append (text (Line.Table number)) (page file t s (event_count file)).text, text-le (Line.Table number), page-le file t s (event_count file))
    go false = omega (arith, length-append (text (Line.Table number)) [], text-le (Line.Table number))

pub listing-le : (file : List ℕ) → length (listing file) ≤ 131072
unfolding listing
listing-le file = go (well_formed file) refl
  where
    go : (b : Bool) → well_formed file ≡ b → length (cond b (listed file) (text (Line.Table 1))) ≤ 131072
    go true e = omega (arith, listed_le file, lines_within file e)
    go false e = omega (arith, text-le (Line.Table 1))

-- what a listing leaves and answers; it can be taken out
abbrev pub Listed : List ℕ → List ℕ → ℕ → List ℕ → Type 0
Listed l file r m = record { out_after : Written 131072 l (listing file) r m; upper_bound : (r ≤ length m) × (r ≡ length (take r m)) }

pub listed-whole : {m : List ℕ} {r : ℕ} (l file : List ℕ) → Written 131072 l (listing file) r m → Listed l file r m
listed-whole {m} {r} l file w = record { out_after = w; upper_bound = counts (dec_le 131072 (length l)) }
  where
    within : r ≤ length m → (r ≤ length m) × (r ≡ length (take r m))
    within h = (h, sym (length-take-le r m h))

    counts : Dec (131072 ≤ length l) → (r ≤ length m) × (r ≡ length (take r m))
    counts (yes h) =
        let f = begins_first l (listing file) (omega (arith, listing-le file)) (written-laid 131072 l (listing file) h w) in
        within (omega (arith, f.1, f.2, listing-le file))
    counts (no h) =
        let e : r ≡ 0 = w.1 ∙ simp (lt-leb 131072 (length l) (omega arith)) in within (omega arith)

module _ {m : List ℕ} {r : ℕ} (l file : List ℕ) (room : 131072 ≤ length l) where
  pub listed_malformed : well_formed file ≡ false → Written 64 l (text (Line.Table 1)) r m → Listed l file r m
  unfolding listing
  listed_malformed e w = listed-whole l file (laid-written 131072 l (listing file) room (rw e (written-laid 64 l (text (Line.Table 1)) (omega arith) w)))

  pub listed_well_formed : well_formed file ≡ true → Laid l (listed file) r m → Listed l file r m
  unfolding listing
  listed_well_formed e w = listed-whole l file (laid-written 131072 l (listing file) room (rw e w))
