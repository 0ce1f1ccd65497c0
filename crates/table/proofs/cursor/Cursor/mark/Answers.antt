use Rattle.std.proofs.Common.{rules, ◌≡◌}
use Rattle.table.proofs.Along.{stuck_mark}
use Rattle.table.proofs.Words.{no_mark}
use Rattle.table.proofs.cursor.Cursor.mark.Goals as goal
use Rattle.table.proofs.cursor.Cursor.mark.Goals.{in_default-via-in-Sign+else-eq, in_default-via-in_default}

pub returns-in_default : goal.returns-in_default
returns-in_default c =
    stuck_mark _ c.args.self.rest.now c.args.self.place
    (no_mark c.token.result c.args.self.rest.now c.args.want c.token.ensures.value (λ q is. elim c.in_default.branch [
      | in_default-via-in-Sign+else-eq w ↦ let same : w.in-Sign.found ≡ c.args.want = cc in search rules
      | in_default-via-in_default w ↦ w.in_default.not-Sign c.args.want q is
    ]))
