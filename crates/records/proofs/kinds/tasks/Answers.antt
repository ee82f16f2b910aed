use Rattle.std.proofs.Common.{rules, arith, refl, ◌∙◌}
use Rattle.std.proofs.lemmas.Iterator.{YieldsList-from_slice}
use Rattle.std.proofs.lemmas.Iterator.Search.{YieldsList-from_take_while}
use Rattle.std.proofs.lemmas.Iterator.Consumers.{count_from_yields_List}
use Rattle.std.proofs.lemmas.List.Folds.{length-prefix_len}
use borrow.Author.Tests.{tests}
use Rattle.records.specs.Records.{is_task}
use Rattle.records.proofs.Laws.Lists.{tasks_counted, task_at, rest_of}
use Rattle.records.proofs.kinds.tasks.Goals as goal

pub returns : goal.returns
returns c =
    let r = c.records in
    let b = c.unwrap_or-behind.result.now in
    let t = c.take_while in
    let rest = rest_of _ _ _ c.get.ensures.lookup c.unwrap_or-behind.ensures refl in
    let n = count_from_yields_List t.result _ c.count-count.ensures.ran (YieldsList-from_take_while _ is_task (YieldsList-from_slice b (search rules)) t.ensures.closure t.ensures.done (λ x r q k. search (rules, tests))) ∙ length-prefix_len is_task b in
    record {
      len = tasks_counted c.args.file.now r.result.now r.ensures.len r.ensures.each b _ rest (omega (arith, n));
      each = task_at c.args.file.now r.result.now r.ensures.len r.ensures.each b _ rest (omega (arith, n));
    }
