use Rattle.std.proofs.Common.{rules, ◌∙◌}
use Rattle.std.proofs.lemmas.Iterator.{YieldsList-from_slice}
use Rattle.std.proofs.lemmas.Iterator.Adapters.{YieldsList-from_skip}
use Rattle.std.proofs.lemmas.Iterator.Search.{all_from_yields_List}
use borrow.Author.Tests.{tests}
use Rattle.records.specs.Records.{is_event}
use Rattle.records.proofs.Laws.Lists.{all_from}
use Rattle.records.proofs.kinds.all_events.Goals as goal

pub returns : goal.returns
returns c =
    let r = c.records in
    all_from_yields_List is_event _ _ _ c.all.ensures.ran (YieldsList-from_skip c.args.first (YieldsList-from_slice r.result.now (search rules)) (search rules)) (λ x b q k. search (rules, tests))
    ∙ all_from c.args.file.now r.result.now r.ensures.len r.ensures.each c.args.first
