use Rattle.std.proofs.Common.{◌<◌, length, ◌∙◌, arith}
use Rattle.table.proofs.Keywords.{shared_front, no_keyword, past_exactly_by, stuck_exactly_by}
use Rattle.table.proofs.Words.{word_token, no_word}
use Rattle.table.proofs.cursor.Cursor.keyword.Goals as goal

pub returns-then-same-want : goal.returns-then-same-want
returns-then-same-want c =
    let bs = c.args.self.rest.now in
    let want = c.args.want.now in
    let w = word_token bs c.in-Word.word.now c.in-Word.ensures.value in
    let front = shared_front bs want c.in-Word.word.now c.requires w.1 w.0 in
    past_exactly_by want bs _ _ _ _ (c.common_front-same.ensures.value ∙ front) c.if-same-want.true c.after.ensures.rest c.after.ensures.place

pub returns-else-same-want : goal.returns-else-same-want
returns-else-same-want c =
    let bs = c.args.self.rest.now in
    let want = c.args.want.now in
    let w = word_token bs c.in-Word.word.now c.in-Word.ensures.value in
    let front = shared_front bs want c.in-Word.word.now c.requires w.1 w.0 in
    let few : c.common_front-same.result < length want = omega (arith, c.common_front-same.ensures.bound.1, c.if-same-want.false) in
    stuck_exactly_by want bs _ _ _ (c.common_front-same.ensures.value ∙ front) few c.in-Word.ensures.place

pub returns-in_default : goal.returns-in_default
returns-in_default c =
    let bs = c.args.self.rest.now in
    no_keyword bs c.args.want.now c.args.self.place c.requires (no_word c.token.result bs c.token.ensures.value c.in_default.not-Word)
