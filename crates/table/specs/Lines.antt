-- The lines of a table's text: the first, which has the count of rows, and those of the rows. Assumes nothing.
--   letter, digit, lead   a byte a to z; 0 to 9; 1 to 9
--   a_name                a letter, then at most eleven letters or digits
--   a_number              a digit 1 to 9, then at most six digits
--   count_line            (table COUNT) and a line end
--   row_line              (task NAME (run NUMBER) (due NUMBER) (gap NUMBER)) and a line end
--   decimal               the number that digits write in base ten
--   task_from             the task whose numbers these digits write
use Rattle.std.specs.Prelude.{ℕ, ◌+◌, ◌-◌, ◌*◌, Bool, ◌&&◌, ◌||◌, List, [], ◌∷◌, ◌++◌, codes, nat_le}
use Rattle.table.specs.Form.{Class, Piece, mark, word}
use Rattle.table.specs.declared.task.Task.{Task}

abbrev pub letter : ℕ → Bool
letter b = nat_le 97 b && nat_le b 122

abbrev pub digit : ℕ → Bool
digit b = nat_le 48 b && nat_le b 57

abbrev pub lead : ℕ → Bool
lead b = nat_le 49 b && nat_le b 57

abbrev pub a_name : Class
a_name = record { first = letter; next = λ b. letter b || digit b; most = 11 }

abbrev pub a_number : Class
a_number = record { first = lead; next = digit; most = 6 }

-- just these bytes
abbrev pub exactly : List ℕ → List Piece
exactly [] = []
exactly (b ∷ bs) = mark b ∷ exactly bs

-- a space, an opening bracket, a title, a space, a number and a closing bracket
abbrev pub a_field : List ℕ → List Piece
a_field title = exactly (codes " (") ++ (exactly title ++ (exactly (codes " ") ++ (word a_number ∷ exactly (codes ")"))))

abbrev pub count_line : List Piece
count_line = exactly (codes "(table ") ++ (word a_number ∷ exactly (41 ∷ 10 ∷ []))

-- how a row's line begins; its name stands behind this
abbrev pub row_title : List ℕ
row_title = codes "(task "

abbrev pub row_line : List Piece
row_line = exactly row_title ++ (word a_name ∷ (a_field (codes "run") ++ (a_field (codes "due") ++ (a_field (codes "gap") ++ exactly (41 ∷ 10 ∷ [])))))

-- n, with the digits behind it
abbrev pub decimal_after : ℕ → List ℕ → ℕ
decimal_after n [] = n
decimal_after n (b ∷ bs) = decimal_after (n * 10 + (b - 48)) bs

abbrev pub decimal : List ℕ → ℕ
decimal bs = decimal_after 0 bs

abbrev pub task_from : List ℕ → List ℕ → List ℕ → Task
task_from run due gap = record { run = decimal run; due = decimal due; gap = decimal gap }
