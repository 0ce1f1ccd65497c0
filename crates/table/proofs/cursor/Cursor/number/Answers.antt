use Rattle.std.proofs.Common.{◌≤◌, sym, subst}
use Rattle.table.specs.Lines.{a_number}
use Rattle.table.proofs.Along.{past_word_by}
use Rattle.table.proofs.Words.{number_token, number_some}
use Rattle.table.proofs.cursor.Cursor.number.Goals as goal

pub returns-in-Number : goal.returns-in-Number
returns-in-Number c =
    let bs = c.args.self.rest.now in
    let w = number_token bs c.in-Number.digits.now c.in-Number.value c.in-Number.ensures.value in
    (c.in-Number.digits.now, w.3, past_word_by a_number bs _ _ _ _ w.1 w.0 w.2 c.after.ensures.rest c.after.ensures.place, subst (λ v. 1 ≤ v) (sym w.3) (number_some bs c.in-Number.digits.now w.1 w.0))
