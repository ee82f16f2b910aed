use native.Mathlib.Omega.{arith}
use Rattle.listing.proofs.Laws.{begun_room, begun}
use Rattle.listing.proofs.write_listed.Goals as goal

pub write_events-requires : goal.write_events-requires
write_events-requires c = search begun_room

pub returns : goal.returns
returns c =
    let a = c.args in
    begun a.out.now a.file.now c.requires c.table-table.ensures c.start.ensures c.fresh-start.ensures c.number-number.ensures c.write-at.ensures (omega arith) c.write_events.ensures
