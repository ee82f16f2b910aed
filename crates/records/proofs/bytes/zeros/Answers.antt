use Rattle.std.proofs.Common.{◌==◌, rules, ◌-◌, ◌∙◌, get_or}
use Rattle.std.proofs.lemmas.Iterator.{YieldsList-from_range}
use Rattle.std.proofs.lemmas.Iterator.Search.{all_from_yields_List}
use borrow.Author.Tests.{tests}
use Rattle.records.specs.Bytes.{zeros}
use Rattle.records.proofs.Laws.Lists.{all_between}
use Rattle.records.proofs.bytes.zeros.Goals as goal

pub returns : goal.returns
unfolding zeros
returns c =
    let p = c.args.places in
    all_from_yields_List (λ i. get_or c.args.bytes.now i 0 == 0) _ _ _ c.all.ensures.ran (YieldsList-from_range p.start p.end (p.end - p.start) (search rules) (search rules)) (λ x b q k. search (rules, tests))
    ∙ all_between _ p.start (p.end - p.start)
