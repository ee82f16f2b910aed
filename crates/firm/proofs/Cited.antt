-- Each law by its own proof. Assumes nothing.
use Rattle.units.proofs.Laws.Amounts.{up-covers, up_least, up-zero}
use Rattle.table.specs.declared.Table.{Table}
use Rattle.table.proofs.Laws.Alike.{Alike, ceiling-same}
use Rattle.admission.proofs.Laws.Alike.{verdict-same}
use Rattle.state.proofs.Laws.Order.{nearer-first, lower-first}
use Rattle.state.proofs.Laws.Fresh.{fresh-same}
use Rattle.machine.proofs.Laws.Alike.{release-same, choose-same, report-same}
use Rattle.machine.proofs.Laws.Calls.{release-refused, choose-refused, report-refused}
use Rattle.listing.proofs.Laws.{listing-le}
use Rattle.promise.proofs.History.Mark.{mark-stays, mark_stays-blocked}
use Rattle.firm.specs.Cited.{SameTasks, Cited}

alike : {t u : Table} → SameTasks t u → Alike t u
alike a = record { full = a.full; round = a.round; count = a.count; tasks = a.tasks }

pub cited : Cited
cited = record {
  up_covers = up-covers;
  up_least = up_least;
  up_zero = up-zero;
  nearer_first = nearer-first;
  lower_first = lower-first;
  ceiling_same = λ t u a. ceiling-same (alike a);
  verdict_same = λ t u a. verdict-same (alike a);
  fresh_same = λ t u a. fresh-same (alike a);
  release_same = λ t u a. release-same (alike a);
  choose_same = λ t u a. choose-same (alike a);
  report_same = λ t u a. report-same (alike a);
  release_refused = release-refused;
  choose_refused = choose-refused;
  report_refused = report-refused;
  mark_stays = λ t passed now small calls m run e. mark-stays passed now small calls m e run;
  mark_stays_blocked = λ t passed now small calls m e l n. mark_stays-blocked passed now small calls m e l n;
  listing_fits = listing-le;
}
