-- The sections that the lines count, against the stack that the state holds. Assumes nothing.
use Prim.Native.Nat.{ℕ, zero, suc, ◌+◌, ◌-◌, ◌≤◌, ◌<◌, min}
use mathlib.Core.Path.{◌≡◌, refl, sym, ap, ap₂, ◌∙◌}
use mathlib.Core.Bool.{Bool, true, false, cond, ◌||◌, false≢true}
use mathlib.Core.List.{List, [], ◌∷◌, map}
use native.Mathlib.Nat.{not-suc-le-zero, le_refl}
use native.Mathlib.Numerals.{add-one}
use native.Mathlib.Omega.{arith}
use lib.Dec.{ltb, leb}
use borrow.Author.Tests.{lt-ltb, le-ltb, le-leb, leb-true, eqb-true}
use Rattle.units.specs.Amounts.{given}
use Rattle.units.proofs.Laws.Folds.{up_to}
use Rattle.units.proofs.Laws.Tests.{cond_yes, cond_no}
use Rattle.table.specs.declared.Table.{Table}
use Rattle.table.specs.Table.{task_at, limit}
use Rattle.state.specs.declared.Section.{Section}
use Rattle.state.specs.declared.Stack.{Stack}
use Rattle.state.specs.declared.Report.{Report}
use Rattle.state.specs.declared.Report.TheVariants.{CarryOn, Done, Take, Give}
use Rattle.state.specs.Stack.{section_at}
use Rattle.state.proofs.Laws.Stacks.{On, on_tells}
use Rattle.report.specs.Report.{at_limit}
use Rattle.report.proofs.Laws.Sections.{section, From, older, newer, after, from, after_depth, rises, below}
use Rattle.consistency.proofs.Laws.Jobs.{HeldFits}
use Rattle.promise.specs.History.{report, longer, after_call, reached}

-- f of each place below n, the last first
unfoldable pub down : (ℕ → Section) → ℕ → List Section
down f zero = []
down f (suc n) = f n ∷ down f n

-- the sections on a stack, the innermost first
abbrev pub opened : Stack → List Section
opened h = down (section_at h) h.depth

down_same : (f g : ℕ → Section) (n : ℕ) → ((i : ℕ) → i < n → f i ≡ g i) → down f n ≡ down g n
unfolding down
down_same f g zero h = refl
down_same f g (suc n) h = ap₂ (λ (x : Section) (l : List Section). x ∷ l) (h n (le_refl (suc n))) (down_same f g n (λ i l. h i (omega arith)))

down_map : (u : Section → Section) (f : ℕ → Section) (n : ℕ) → map u (down f n) ≡ down (λ i. u (f i)) n
unfolding down
down_map u f zero = refl
down_map u f (suc n) = ap (λ (l : List Section). u (f n) ∷ l) (down_map u f n)

module _ (t : Table) (k : ℕ) where
  -- it has come to its limit
  abbrev come : Section → Bool
  come x = leb (limit (task_at t k) x.resource) x.steps.0

  reached_tells : (f : ℕ → Section) (n : ℕ) → reached t k (down f n) ≡ true → (i : ℕ) × (i < n) × (come (f i) ≡ true)
  unfolding down
  reached_tells f zero h = absurd (false≢true h)
  reached_tells f (suc n) h = go (come (f n)) refl (reached_tells f n) h
    where
      go : (b : Bool) → come (f n) ≡ b → (reached t k (down f n) ≡ true → (i : ℕ) × (i < n) × (come (f i) ≡ true)) → (b || reached t k (down f n)) ≡ true
          → (i : ℕ) × (i < suc n) × (come (f i) ≡ true)
      go true e before h = (n, le_refl (suc n), e)
      go false e before h = let w = before h in (w.0, omega (arith, w.1), w.2)

  reached-holds : (f : ℕ → Section) (n i : ℕ) → i < n → come (f i) ≡ true → reached t k (down f n) ≡ true
  unfolding down
  reached-holds f zero i l h = absurd (not-suc-le-zero l)
  reached-holds f (suc n) i l h =
      up_to (λ i. come (f i) ≡ true → (come (f n) || reached t k (down f n)) ≡ true) n (λ i l h. or-more (come (f n)) (reached-holds f n i l h)) (λ h. ap (λ (b : Bool). b || reached t k (down f n)) h) i l h
    where
      or-more : (b : Bool) → reached t k (down f n) ≡ true → (b || reached t k (down f n)) ≡ true
      or-more true e = refl
      or-more false e = e

  none_reached : (f : ℕ → Section) (n : ℕ) → ((i : ℕ) → i < n → (f i).steps.0 < limit (task_at t k) (f i).resource) → reached t k (down f n) ≡ false
  none_reached f n h = go (reached t k (down f n)) refl
    where
      go : (b : Bool) → reached t k (down f n) ≡ b → b ≡ false
      go true e = let w = reached_tells f n e in absurd (omega (arith, h w.0 w.1, leb-true (limit (task_at t k) (f w.0).resource) (f w.0).steps.0 w.2))
      go false e = refl

  -- a stack whose sections fit has none at its limit
  pub fits_below : (h : Stack) → h.depth ≤ 4 → HeldFits (task_at t k) h → reached t k (opened h) ≡ false
  fits_below h b f = none_reached (section_at h) h.depth (λ i l. (f.section i (omega arith, l)).steps)

  -- ---- a tick of the job at k, at speed v, and its report

  module _ (v : ℕ) (h : Stack) where
    -- what the lines count after it, and what the state holds
    abbrev pub counted : Report → List Section
    counted said = after_call (report said) (map (longer v) (opened h))

    abbrev pub now : Report → Stack
    now said = after (task_at t k) v h said

    -- what is counted, by its places
    abbrev new : Report → Section
    new CarryOn = section 0 0
    new Done = section 0 0
    new (Take r) = section r 0
    new Give = section 0 0

    abbrev place : Report → ℕ → Section
    place said i = cond (ltb i h.depth) (longer v (section_at h i)) (new said)

    place_older : (said : Report) (i : ℕ) → i < h.depth → place said i ≡ longer v (section_at h i)
    place_older said i l = cond_yes _ _ (lt-ltb _ _ l)

    place_newer : (said : Report) (i : ℕ) → i ≡ h.depth → place said i ≡ new said
    place_newer said i e = cond_no _ _ (le-ltb i h.depth (omega arith))

    older_all : (said : Report) (n : ℕ) → n ≤ h.depth → map (longer v) (down (section_at h) n) ≡ down (place said) n
    older_all said n l = down_map (longer v) (section_at h) n ∙ down_same _ _ n (λ i b. sym (place_older said i (omega arith)))

    gives : (n : ℕ) → n ≤ h.depth → after_call (report Give) (map (longer v) (down (section_at h) n)) ≡ down (place Give) (n - 1)
    unfolding down
    gives zero l = refl
    gives (suc n) l = let one : suc n - 1 ≡ n = omega arith in rw one (older_all Give n (omega arith))

    counted_is : (said : Report) → counted said ≡ down (place said) (now said).depth
    unfolding down
    counted_is CarryOn = older_all CarryOn h.depth (le_refl _)
    counted_is Done = older_all Done h.depth (le_refl _)
    counted_is (Take r) =
        rw (add-one h.depth) (ap₂ (λ (x : Section) (l : List Section). x ∷ l) (sym (place_newer (Take r) h.depth refl)) (older_all (Take r) h.depth (le_refl _)))
    counted_is Give = gives h.depth (le_refl _)

    module _ (said : Report) (deep : h.depth ≤ 4) (fair : (r : ℕ) → said ≡ Take r → (h.depth < 4) × (0 < limit (task_at t k) r)) where
      on : (i : ℕ) → i < (now said).depth → On (now said) i
      on i l = (omega (arith, after_depth (task_at t k) v h said deep (λ r e. (fair r e).0)), l)

      -- none is at its limit: they are the same, and none has come to it
      module _ (e : at_limit (task_at t k) (now said) ≡ false) where
        agrees : (i : ℕ) → i < (now said).depth → (section_at (now said) i ≡ place said i) × ((place said i).steps.0 < limit (task_at t k) (place said i).resource)
        agrees i l = go (from (task_at t k) v h said i (on i l))
          where
            go : From (task_at t k) v h said i (section_at (now said) i) → (section_at (now said) i ≡ place said i) × ((place said i).steps.0 < limit (task_at t k) (place said i).resource)
            go (older m f) =
                let w = rises (task_at t k) v (section_at h i)
                (λ q. below (task_at t k) (now said) e i (on i l) (ap (λ (x : Section). x.steps.0) f ∙ q ∙ ap (λ (x : Section). limit (task_at t k) x.resource) (sym f))) in
                rw (place_older said i m.1) (f ∙ w.0, w.1)
            go (newer r c q f) = let same : place said i ≡ section r 0 = place_newer said i q ∙ ap new c in rw same (f, (fair r c).1)

        pub opened_is : opened (now said) ≡ counted said
        opened_is = down_same _ _ (now said).depth (λ i l. (agrees i l).0) ∙ sym (counted_is said)

        pub not-reached : reached t k (counted said) ≡ false
        not-reached = ap (reached t k) (counted_is said) ∙ none_reached (place said) (now said).depth (λ i l. (agrees i l).1)

      -- one is: it has come to it
      pub has-reached : at_limit (task_at t k) (now said) ≡ true → reached t k (counted said) ≡ true
      has-reached e = let w = on_tells _ (now said) e in ap (reached t k) (counted_is said) ∙ go w.0 w.1 (eqb-true _ _ w.2) (from (task_at t k) v h said w.0 w.1)
        where
          go : (i : ℕ) → On (now said) i → (section_at (now said) i).steps.0 ≡ limit (task_at t k) (section_at (now said) i).resource
              → From (task_at t k) v h said i (section_at (now said) i) → reached t k (down (place said) (now said).depth) ≡ true
          go i l q (older m f) =
              let full : min ((section_at h i).steps.0 + given v) (limit (task_at t k) (section_at h i).resource) ≡ limit (task_at t k) (section_at h i).resource
              = sym (ap (λ (x : Section). x.steps.0) f) ∙ q ∙ ap (λ (x : Section). limit (task_at t k) x.resource) f in
              reached-holds (place said) (now said).depth i l.1 (ap come (place_older said i m.1) ∙ le-leb _ _ (most _ _ full))
            where
              most : (a b : ℕ) → min a b ≡ b → b ≤ a
              most a b e = omega arith
          go i l q (newer r c d f) =
              let none : 0 ≡ limit (task_at t k) r = sym (ap (λ (x : Section). x.steps.0) f) ∙ q ∙ ap (λ (x : Section). limit (task_at t k) x.resource) f in
              absurd (omega (arith, fair r c))
