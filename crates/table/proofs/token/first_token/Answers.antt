use Rattle.std.proofs.Common.{◌≡◌, ◌<◌, true, length, get_or, take, sym, refl, ap, ◌∙◌, arith, zero-add}
use Rattle.std.proofs.lemmas.Bool.Decides.{nat_tests}
use Rattle.std.proofs.lemmas.List.{length-take-le}
use Rattle.table.specs.Bytes.{is_name_byte, is_number_byte}
use Rattle.table.specs.Lines.{letter, lead}
use Rattle.table.specs.Tokens.{a_word, a_numeral, numbered}
use Rattle.table.proofs.Loops.{stretch_front}
use Rattle.table.proofs.Words.{name_stretch, number_stretch, lexeme_word, lexeme_number}
use Rattle.table.proofs.token.first_token.Goals as goal

pub number_of-requires : goal.number_of-requires
number_of-requires c =
    let bs = c.args.text.now in
    let n = c.front_size.result in
    let size = c.front_size.ensures.value is_number_byte (λ b i r low fits says. says) in
    stretch_front is_number_byte 0 n bs (sym size ∙ sym (zero-add n)) ∙ zero-add n ∙ sym (length-take-le n bs c.front_size.ensures.within)

pub returns-in-49-to-57 : goal.returns-in-49-to-57
returns-in-49-to-57 c =
    let bs = c.args.text.now in
    let some : 0 < length bs = grind (arith, nat_tests) in
    let is : lead (get_or bs 0 0) ≡ true = grind (arith, nat_tests) in
    let size = c.front_size.ensures.value is_number_byte (λ b i r low fits says. says) ∙ number_stretch bs in
    record {
      value = ap (a_numeral (take c.front_size.result bs)) c.number_of.ensures ∙ ap (λ n. numbered (take n bs)) size ∙ sym (lexeme_number bs some is);
      place = refl;
    }

pub returns-in-97-to-122 : goal.returns-in-97-to-122
returns-in-97-to-122 c =
    let bs = c.args.text.now in
    let some : 0 < length bs = grind (arith, nat_tests) in
    let is : letter (get_or bs 0 0) ≡ true = grind (arith, nat_tests) in
    let size = c.front_size-in-97-to-122.ensures.value is_name_byte (λ b i r low fits says. says) ∙ name_stretch bs in
    record { value = ap (λ n. a_word (take n bs)) size ∙ sym (lexeme_word bs some is); place = refl }
