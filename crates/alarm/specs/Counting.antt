-- The counter's number. Assumes nothing.
use Rattle.std.specs.Prelude.{ℕ}

-- the most that sixteen bits hold
abbrev pub counter_reach : ℕ
counter_reach = 65535
