use Rattle.std.proofs.Common.{◌/◌, length}
use Rattle.records.specs.Bytes.{record_at}
use Rattle.records.proofs.Laws.Lists.{chunk_at}
use Rattle.records.proofs.bytes.records.Goals as goal

pub returns-clause-each : goal.returns-clause-each
unfolding record_at
returns-clause-each c = λ k. rw c.as_chunks.ensures.front (chunk_at (length c.args.file.now / 32) k c.args.file.now)
