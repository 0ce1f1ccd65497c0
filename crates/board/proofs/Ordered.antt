-- Turns go by a linear order: two of which neither comes first are the same.
use Rattle.std.proofs.Common.{◌≡◌, Ordering, rules}
use Rattle.std.specs.declared.cmp.Ordering.TheVariants.{Equal}
use Rattle.std.specs.Cmp.{IsTotalOrder}
use Rattle.std.specs.Cmp.Rules.{comparing}
use Rattle.std.specs.Ordering.{nat_cmp, on, then_cmp}
use Rattle.queue.specs.Order.{Linear}
use Rattle.queue.proofs.Order.{linear}
use Rattle.board.specs.declared.turn.Turn.{Turn}
use Rattle.board.specs.Turns.{sooner}

abbrev by_due : Turn → Turn → Ordering
by_due = then_cmp (on (λ t. t.due) nat_cmp) (on (λ t. t.row) nat_cmp)

total : IsTotalOrder by_due
total = search (comparing, rules)

alone : (x y : Turn) → by_due x y ≡ Equal → x ≡ y
alone x y e = search (comparing, rules)

pub turns_linear : Linear sooner
turns_linear = linear by_due total alone
