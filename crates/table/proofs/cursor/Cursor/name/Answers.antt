use Rattle.table.specs.Lines.{a_name}
use Rattle.table.proofs.Along.{past_word_by}
use Rattle.table.proofs.Words.{word_token}
use Rattle.table.proofs.cursor.Cursor.name.Goals as goal

pub returns-in-Word : goal.returns-in-Word
returns-in-Word c =
    let bs = c.args.self.rest.now in
    let w = word_token bs c.in-Word.word.now c.in-Word.ensures.value in
    past_word_by a_name bs _ _ _ _ w.1 w.0 w.2 c.after.ensures.rest c.after.ensures.place
