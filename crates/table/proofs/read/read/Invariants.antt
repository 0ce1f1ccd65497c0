use Rattle.std.proofs.Common.{◌≡◌, ◌+◌, ◌-◌, length}
use Rattle.arrayvec.specs.ArrayVec.{array_vec_len}
use Rattle.table.specs.Drafts.{drafted}
use Rattle.table.specs.Readings.{contents, reading}
use Rattle.table.specs.Verdict.{rows_from, verdict}
use Rattle.table.proofs.read.read.Given as goal

abbrev pub invariant-loop-row : goal.invariant-loop-row
invariant-loop-row l =
    (verdict l.text ≡ rows_from (l.rows - l.row) (l.row + 2) l.at.place l.at.rest.now (reading (contents l.names.items) l.draft))
    × (length (drafted l.draft) ≡ l.row)
    × (array_vec_len l.names ≡ l.row)
