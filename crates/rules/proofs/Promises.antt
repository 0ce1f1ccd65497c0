-- The three promises together, each from its own file.
use Rattle.rules.specs.Promises.{PromisesKept}
use Rattle.rules.proofs.Due.{due_promise}
use Rattle.rules.proofs.Sleep.{sleep_promise}
use Rattle.rules.proofs.Longer.{longer_promise}

pub promises_kept : PromisesKept
promises_kept R p log w k =
    record {
      due = due_promise R p log (w, k);
      sleep = sleep_promise R p log (w, k);
      longer = longer_promise R.tasks R.sleeps p;
    }
