use Rattle.std.proofs.Common.{◌≡◌, ◌≤◌}
use Rattle.units.specs.Sets.{set}
use Rattle.table.specs.Table.{takes}
use Rattle.table.proofs.Table.users.Given as goal

abbrev pub invariant-loop-k : goal.invariant-loop-k
invariant-loop-k l = (l.k ≤ 16) × (l.users ≡ set (takes l.self l.resource) l.k)
