use native.Mathlib.Omega.{arith}
use Rattle.units.proofs.Laws.Tests.{tested}
use Rattle.records.proofs.Laws.{lines_within}
use Rattle.listing.proofs.Laws.{listed_malformed, listed_well_formed}
use Rattle.listing.proofs.list.Goals as goal

pub returns-then-not-well_formed : goal.returns-then-not-well_formed
returns-then-not-well_formed c =
    let a = c.args in
    listed_malformed a.out.now a.file.now (omega arith) (tested c.well_formed-2.ensures c.if-not-well_formed.true) c.write.ensures

pub write_listed-requires : goal.write_listed-requires
write_listed-requires c = omega (arith, lines_within _ (tested c.well_formed-2.ensures c.if-not-well_formed.false))

pub returns : goal.returns
returns c =
    let a = c.args in
    listed_well_formed a.out.now a.file.now (omega arith) (tested c.well_formed-2.ensures c.if-not-well_formed.false) c.write_listed.ensures
