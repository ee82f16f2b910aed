use Rattle.std.proofs.Common.{[], get_or, rules}
use borrow.Author.Tests.{tests}
use Rattle.table.specs.Table.{no_task}
use Rattle.records.specs.Contents.{task}
use Rattle.records.proofs.Laws.Lists.{listed_by}
use Rattle.records.proofs.contents.entries.Goals as goal

pub returns : goal.returns
returns c = listed_by _ (λ k. task (get_or c.args.records.now k [])) no_task (λ i y q k. search (rules, tests)) c.from_fn.ensures.items
