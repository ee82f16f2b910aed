use Rattle.std.proofs.Common.{◌+◌, ◌*◌, rules}
use borrow.Author.Tests.{tests}
use Rattle.units.specs.Amounts.{steps}
use Rattle.records.specs.Bytes.{word}
use Rattle.records.proofs.Laws.Lists.{listed_by}
use Rattle.records.proofs.contents.limits.Goals as goal

pub returns : goal.returns
returns c = listed_by _ (λ k. steps (word c.args.bytes.now (16 + k * 2))) (steps 0) (λ i y q k. search (rules, tests)) c.from_fn.ensures.items
