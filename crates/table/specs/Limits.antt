-- The limits of a table, and positions in its text. Assumes nothing.
use Rattle.std.specs.Prelude.{ℕ}
use Rattle.refusal.specs.declared.cases.Position.{Position}

-- the most bytes of a text
abbrev pub most_bytes : ℕ
most_bytes = 8192

-- the most rows of a table
abbrev pub most_rows : ℕ
most_rows = 64

-- the most ticks of a gap
abbrev pub most_gap : ℕ
most_gap = 100000

-- the most ticks of the common period
abbrev pub most_common : ℕ
most_common = 1000000

-- lines count from 1, places are byte offsets from 0
abbrev pub at : ℕ → ℕ → Position
at line place = record { line = line; place = place }
