-- The worked figures of docs/table-text.md, docs/demand.md, docs/alarms.md and docs/board.md, as one list. Assumes nothing.
use Rattle.std.specs.Prelude.{ℕ, List, [], ◌∷◌, codes}
use Rattle.table.specs.declared.task.Task.{Task}
use Rattle.alarm.specs.Counting.{counter_reach}
use Rattle.rules.specs.declared.calls.Call.TheVariants.{Release, Tick}
use Rattle.figures.specs.Texts.{ended}
use Rattle.figures.specs.Piles.{Pile.counter, Pile.divider, Pile.ramp, Pile.top_up}
use Rattle.figures.specs.Cases.{Case, Case.read, Case.unread, Case.accepted, Case.refused, Case.waits, Case.rings, Case.share, Case.near, Case.left}

abbrev pub row : ℕ → ℕ → ℕ → Task
row run due gap = record { run = run; due = due; gap = gap }

-- head, lens and fan
abbrev pub cutter : List Task
cutter = row 8 16 16 ∷ row 12 28 28 ∷ row 1 56 56 ∷ []

abbrev pub cutter_text : List ℕ
cutter_text =
    ended
    (codes "(table 3)"
    ∷ codes "(task head (run 8) (due 16) (gap 16))"
    ∷ codes "(task lens (run 12) (due 28) (gap 28))"
    ∷ codes "(task fan (run 1) (due 56) (gap 56))"
    ∷ [])

abbrev pub sleeps_of_cutter : List ℕ
sleeps_of_cutter = 4 ∷ 4 ∷ 6 ∷ []

-- texts whose gap, or whose common period, is at its limit, and past it
abbrev pub gap_at_limit : List ℕ
gap_at_limit = ended (codes "(table 1)" ∷ codes "(task a (run 1) (due 1) (gap 100000))" ∷ [])

abbrev pub gap_past_limit : List ℕ
gap_past_limit = ended (codes "(table 1)" ∷ codes "(task a (run 1) (due 1) (gap 100001))" ∷ [])

abbrev pub period_at_limit : List ℕ
period_at_limit = ended (codes "(table 2)" ∷ codes "(task a (run 1) (due 1) (gap 64))" ∷ codes "(task b (run 1) (due 1) (gap 15625))" ∷ [])

abbrev pub period_past_limit : List ℕ
period_past_limit = ended (codes "(table 2)" ∷ codes "(task a (run 1) (due 1) (gap 1000))" ∷ codes "(task b (run 1) (due 1) (gap 1001))" ∷ [])

abbrev pub cases : List Case
cases =
    accepted cutter 112 106 sleeps_of_cutter
    ∷ read cutter_text cutter 112
    ∷ read gap_at_limit (row 1 1 100000 ∷ []) 100000
    ∷ unread gap_past_limit 6 2 10
    ∷ read period_at_limit (row 1 1 64 ∷ row 1 1 15625 ∷ []) 1000000
    ∷ unread period_past_limit 8 3 46
    ∷ accepted (row 1 4 5 ∷ row 1 4 6 ∷ row 1 7 10 ∷ []) 30 14 (2 ∷ 2 ∷ 4 ∷ [])
    ∷ accepted (row 2 2 4 ∷ row 2 4 4 ∷ []) 4 4 (0 ∷ 0 ∷ [])
    ∷ refused (row 2 2 4 ∷ row 2 3 4 ∷ []) 4 11 3
    ∷ refused (row 1 1 1 ∷ row 1 2 2 ∷ []) 2 10 3
    ∷ share cutter 112 (2 ∷ 2 ∷ 3 ∷ [])
    ∷ near cutter 112 2 7
    ∷ waits counter 70 70
    ∷ waits counter 100000 65535
    ∷ waits (divider 5) 70 59
    ∷ waits (divider 5) 10000 8155
    ∷ waits (divider 0) 31 0
    ∷ waits (ramp 10 counter) 10 0
    ∷ waits (ramp 10 counter) 11 11
    ∷ waits (ramp 10 counter) 70 70
    ∷ waits (ramp 10 (divider 5)) 80 69
    ∷ rings (top_up (divider 5)) 70 70
    ∷ left cutter sleeps_of_cutter counter_reach (Release 2 ∷ []) 6
    ∷ left cutter sleeps_of_cutter counter_reach (Release 2 ∷ Tick ∷ Release 0 ∷ []) 4
    ∷ []
