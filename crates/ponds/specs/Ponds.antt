-- "Ponds we have worked by hand": for each what the rules give, and beside it what document 01, or Ask 1 of document 02, says. Behind them stand our own.
use Rattle.std.specs.Prelude.{◌*◌, ◌≡◌, List, [], ◌∷◌, ◌++◌, Some, None}
use Rattle.units.specs.Clock as Clock
use Rattle.units.specs.Folds.{listed}
use Rattle.verdict.specs.Verdict.{answer}
use Rattle.table.specs.Table.{D, C, S}
use Rattle.admission.specs.Admission.{ticks_in_round, B, independent_sum, synchronization_sum, verdict}
use Rattle.state.specs.declared.Report.TheVariants.{CarryOn, Take, Give, Done}
use Rattle.state.specs.State.{job_at}
use Rattle.state.specs.declared.Mode.TheVariants.{Independent, Synchronization}
use Rattle.lines.specs.declared.Line.TheVariants.{Release, Run, Refused}
use Rattle.lines.specs.Lines.{ascii}
use Rattle.listing.specs.Listing.{listing}
use Rattle.ponds.specs.Tables.{table, p1, p3, p5, two, p6, p7, p8, pump, eight, p5_before, p5_later, mark_left}
use Rattle.ponds.specs.Runs.{release, tick, carry, line, job_after}
use Rattle.ponds.specs.Files.{whole}
use Rattle.ponds.specs.Histories.{ticked, later2}
use Rattle.ponds.specs.Document003.{document003, p5_taken}

-- what the rules give, and what the paper says
pub record Pond : Type 1 where
  pub Kind : Type 0
  pub rules : Kind
  pub paper : Kind

abbrev pub pond : {Kind : Type 0} → Kind → Kind → Pond
pond {Kind} rules paper = record { Kind = Kind; rules = rules; paper = paper }

abbrev pub ponds : List Pond
ponds =
    -- P1: "Independent sum 240; synchronization 240, 176, 216. Passed."
    pond (independent_sum (p1 240 4 5)) 240
    ∷ pond (listed (synchronization_sum (p1 240 4 5)) 3) (240 ∷ 176 ∷ 216 ∷ [])
    ∷ pond (answer (verdict (p1 240 4 5))) (0, 0)
    -- P2: "P1 with I of position 0 at 3: 288, number 7."
    ∷ pond (independent_sum (p1 240 3 5)) 288
    ∷ pond (answer (verdict (p1 240 3 5))) (7, 0)
    -- P3: "P1 with S of position 0 at 4: 15 × 12 + 10 × 12 = 300, number 8, position 0."
    ∷ pond (ticks_in_round (B p3 0) (S p3 0) p3.round (D p3 0)) (15 * 12)
    ∷ pond (ticks_in_round (C p3 0) (S p3 0) p3.round (D p3 0)) (10 * 12)
    ∷ pond (synchronization_sum p3 0) 300
    ∷ pond (answer (verdict p3)) (8, 0)
    -- P4: "P1 with G 241: number 5, position 0."
    ∷ pond (answer (verdict (p1 241 4 5))) (5, 0)
    -- P5: "Independent sum 280; synchronization at position 2 is 272. Passed."
    ∷ pond (independent_sum p5) 280
    ∷ pond (synchronization_sum p5 2) 272
    ∷ pond (answer (verdict p5)) (0, 0)
    -- P5: "Under document 003's rule position 2 misses tick 21.": its deadline; and the last tick before it can't be closed, with number 16
    ∷ pond (job_at p5_taken 2).deadline.0 21
    ∷ pond (ticked document003 p5 p5_taken (later2 9) CarryOn) (20, 16, None, Independent, 0, 0)
    -- P5: "Here it runs in tick 16."
    ∷ pond (line p5 0 (p5_before ++ ((release 2 ∷ []) ++ p5_later 5)) (tick CarryOn)) (Run (Clock.tick 16) (Some 2) Synchronization 6 2)
    -- P6: "tick 4,294,967,290, D 10: deadline 4, behind a deadline of 4,294,967,295.": how far each is; and position 0, which has the second, runs first
    ∷ pond (Clock.after 4294967290 10) 4
    ∷ pond (Clock.distance 4294967290 4) 10
    ∷ pond (Clock.distance 4294967290 4294967295) 5
    ∷ pond (line p6 4294967290 (release 1 ∷ release 0 ∷ []) (tick Done)) (Run (Clock.tick 4294967290) (Some 0) Independent 1 1)
    -- P7: "top whose D equals the ceiling is blocked; with D one less it is not.": position 3, which holds the resource, runs; and position 0, which is top
    ∷ pond (line p7 0 (release 3 ∷ tick (Take 0) ∷ release 1 ∷ []) (tick Done)) (Run (Clock.tick 1) (Some 3) Synchronization 4 1)
    ∷ pond (line p7 0 (release 3 ∷ tick (Take 0) ∷ release 0 ∷ []) (tick Done)) (Run (Clock.tick 1) (Some 0) Synchronization 4 1)
    -- P8: "release after T - 1 closed ticks, job ended: 12; after T: taken."
    ∷ pond (line p8 0 (release 0 ∷ tick Done ∷ carry 5) (release 0)) (Release (Clock.tick 6) 0 12)
    ∷ pond (line p8 0 (release 0 ∷ tick Done ∷ carry 6) (release 0)) (Release (Clock.tick 7) 0 0)
    -- P9: "carry on at the section limit: cut, resource free.": position 1 after the 4 steps of its section; then position 0 takes it
    ∷ pond (line two 0 (release 1 ∷ tick (Take 0) ∷ carry 3) (tick CarryOn)) (Run (Clock.tick 4) (Some 1) Independent 1 2)
    ∷ pond (line two 0 (release 1 ∷ tick (Take 0) ∷ (carry 4 ++ (release 0 ∷ []))) (tick (Take 0))) (Run (Clock.tick 5) (Some 0) Independent 1 0)
    -- P10: "give at an idle tick: 14."
    ∷ pond (line two 0 [] (tick Give)) (Refused (Clock.tick 0) 14)
    -- P10: "A table of no tasks: 2."
    ∷ pond (answer (verdict (table 5 240 0 []))) (2, 0)
    -- Ask 1: "The brine pump takes the meter, then the valve inside it, and must hold both.", tick by tick
    ∷ pond (answer (verdict pump)) (0, 0)
    ∷ pond (line pump 0 (release 1 ∷ []) (tick (Take 0))) (Run (Clock.tick 0) (Some 1) Independent 1 0)
    ∷ pond (line pump 0 (release 1 ∷ tick (Take 0) ∷ []) (tick (Take 1))) (Run (Clock.tick 1) (Some 1) Independent 1 0)
    -- both are held: position 0, which may take the valve, is blocked by it; when it is given back, not by the meter
    ∷ pond (line pump 0 (release 1 ∷ tick (Take 0) ∷ tick (Take 1) ∷ release 0 ∷ []) (tick Give)) (Run (Clock.tick 2) (Some 1) Synchronization 2 0)
    ∷ pond (line pump 0 (release 1 ∷ tick (Take 0) ∷ tick (Take 1) ∷ release 0 ∷ tick Give ∷ []) (tick (Take 1))) (Run (Clock.tick 3) (Some 0) Synchronization 2 2)
    ∷ pond (line pump 0 (release 1 ∷ tick (Take 0) ∷ tick (Take 1) ∷ release 0 ∷ tick Give ∷ tick Done ∷ []) (tick Give)) (Run (Clock.tick 4) (Some 1) Independent 1 0)
    ∷ pond (line pump 0 (release 1 ∷ tick (Take 0) ∷ tick (Take 1) ∷ release 0 ∷ tick Give ∷ tick Done ∷ tick Give ∷ []) (tick Done)) (Run (Clock.tick 5) (Some 1) Independent 1 1)
    -- the other way round it is blocked by the outer one alone
    ∷ pond (line pump 0 (release 1 ∷ tick (Take 1) ∷ tick (Take 0) ∷ release 0 ∷ []) (tick Done)) (Run (Clock.tick 2) (Some 1) Synchronization 2 1)
    -- "A job that still holds a section at its limit after a take or a give is ended as cut.": the meter's 6 steps, in the tick in which the valve is given back; and taken
    ∷ pond (line pump 0 ((release 1 ∷ tick (Take 0) ∷ carry 2) ++ (tick (Take 1) ∷ carry 2)) (tick Give)) (Run (Clock.tick 6) (Some 1) Independent 1 2)
    ∷ pond (line pump 0 (release 1 ∷ tick (Take 0) ∷ carry 5) (tick (Take 1))) (Run (Clock.tick 6) (Some 1) Independent 1 2)
    -- "still": one that is given back in the tick in which it reaches its limit cuts nobody, and the next tick is the job's too; carried on with, it cuts
    ∷ pond (line pump 0 (release 1 ∷ tick (Take 0) ∷ tick (Take 1) ∷ carry 2) (tick Give)) (Run (Clock.tick 4) (Some 1) Independent 1 0)
    ∷ pond (line pump 0 (release 1 ∷ tick (Take 0) ∷ tick (Take 1) ∷ carry 2) (tick CarryOn)) (Run (Clock.tick 4) (Some 1) Independent 1 2)
    -- 14: "taking one already held, taking a fifth, giving when none is held"; "its place stays", before 13, so that a fifth take of resource 200 is 14
    ∷ pond (line pump 0 (release 1 ∷ tick (Take 0) ∷ tick (Take 1) ∷ []) (tick (Take 0))) (Refused (Clock.tick 2) 14)
    ∷ pond (line eight 0 (release 0 ∷ tick (Take 7) ∷ tick (Take 6) ∷ tick (Take 5) ∷ []) (tick (Take 4))) (Run (Clock.tick 3) (Some 0) Independent 1 0)
    ∷ pond (line eight 0 (release 0 ∷ tick (Take 7) ∷ tick (Take 6) ∷ tick (Take 5) ∷ tick (Take 4) ∷ []) (tick (Take 3))) (Refused (Clock.tick 4) 14)
    ∷ pond (line eight 0 (release 0 ∷ tick (Take 7) ∷ tick (Take 6) ∷ tick (Take 5) ∷ tick (Take 4) ∷ []) (tick (Take 200))) (Refused (Clock.tick 4) 14)
    ∷ pond (line eight 0 (release 0 ∷ tick (Take 7) ∷ []) (tick (Take 200))) (Refused (Clock.tick 1) 13)
    ∷ pond (line eight 0 (release 0 ∷ tick (Take 7) ∷ tick Give ∷ []) (tick Give)) (Refused (Clock.tick 2) 14)
    -- "Whole listing for F 2, G 20", from the bytes of its record file to those of the listing
    ∷ pond (listing whole) (ascii "table 0\n0 release 1 0\n0 run 1 i 1 0\n1 release 0 0\n1 run 1 s 2 0\n2 run 0 s 2 1\n3 run 1 i 1 1\n")
    -- ---- our own, under the sentences that they work out: of each a wrong version is ruled out, and what that gives is in specs/RuledOut
    -- "With no pending job the processor idles: independent, speed 0, mark removed.": a mark is left; position 0 runs under it in tick 3, and after an idle tick 3 without it
    ∷ pond (line p7 0 (mark_left ++ (release 0 ∷ [])) (tick Done)) (Run (Clock.tick 3) (Some 0) Synchronization 4 1)
    ∷ pond (line p7 0 (mark_left ++ (tick CarryOn ∷ release 0 ∷ [])) (tick Done)) (Run (Clock.tick 4) (Some 0) Independent 1 1)
    -- "Release: deadline = tick + D, wait = T.": with D 5 and T 7
    ∷ pond (job_after p8 100 (release 0 ∷ []) 0).deadline.0 105
    ∷ pond (job_after p8 100 (release 0 ∷ []) 0).wait.0 7
    -- "else take or give is done; else a holder at its limit is ended as cut": P9 with a give in the tick that reaches the limit, which goes on
    ∷ pond (line two 0 (release 1 ∷ tick (Take 0) ∷ carry 3) (tick Give)) (Run (Clock.tick 4) (Some 1) Independent 1 0)
    -- 13, "take of a resource above 7 or with limit 0": of resource 8, and of resource 1 with limit 0, inside another section and outside of any
    ∷ pond (line two 0 (release 1 ∷ tick (Take 0) ∷ []) (tick (Take 8))) (Refused (Clock.tick 1) 13)
    ∷ pond (line two 0 (release 1 ∷ tick (Take 0) ∷ []) (tick (Take 1))) (Refused (Clock.tick 1) 13)
    ∷ pond (line two 0 (release 1 ∷ []) (tick (Take 8))) (Refused (Clock.tick 0) 13)
    ∷ pond (line two 0 (release 1 ∷ []) (tick (Take 1))) (Refused (Clock.tick 0) 13)
    -- "The runner's steps used rise by the speed, up to C.", and not "trimming a job's steps used by its section limit": 4 ticks of 4 steps, of which the section has 10
    ∷ pond (job_after (p1 240 4 5) 0 (release 0 ∷ tick (Take 0) ∷ (carry 2 ++ (tick Give ∷ []))) 0).used.0 16
    ∷ []

-- every pond of a list comes out as the paper says
abbrev pub Worked : List Pond → Type 0
Worked [] = Unit
Worked (p ∷ rest) = (p.rules ≡ p.paper) × Worked rest
