-- A ramp that was made has a warm-up within its limits.
use Rattle.std.proofs.Common.{◌≡◌, Ok, refl, inl, inr, rules}
use Rattle.board_c.proofs.answer_over.Goals as goal

pub returns : goal.returns
returns g c calls_found =
    let is : c.new.result ≡ Ok c.in_ok-ramp.ramp = search rules in
    let r = rw is at c.new.ensures in
    inr (inl (refl, r.0, r.1, (c.in_ok-ramp.ramp, record { lasts = r.2; cleared = r.4 }, c.answer_all-2.ensures)))
