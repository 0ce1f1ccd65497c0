use Rattle.std.proofs.Common.{◌≡◌, ℕ, ◌<◌, List, length, take, sym, ◌∙◌, subst, arith, length-set}
use Prim.Native.Nat.{◌∣◌}
use Rattle.std.proofs.lemmas.List.{length-take-le}
use Rattle.table.specs.Tasks.{AllWhole, Bounded, Common}
use Rattle.table.specs.declared.task.Task.{Task}
use Rattle.table.proofs.Drafting.{stored, whole_push, bounded_push, common_push, least_push}
use Rattle.table.proofs.rows.Rows.add.Goals as goal

pub invariant_of-self : goal.invariant_of-self
invariant_of-self c =
    let d = c.args.self.now in
    let t = c.args.task in
    let ts : List Task = take d.count d.list in
    let size : length ts ≡ d.count = length-take-le d.count d.list (omega arith) in
    let room : d.count < 64 = omega (arith, c.requires.room) in
    let fits : d.count < length d.list = omega arith in
    let m = c.least_multiple-common.result in
    let is = c.least_multiple-common.ensures.least in
    let e = sym (stored d.list d.count t fits) in
    record {
      size = length-set d.list d.count t ∙ d.size;
      within = omega arith;
      whole = subst AllWhole e (whole_push ts t d.whole c.requires.whole);
      bounded = subst Bounded e (bounded_push ts t d.bounded c.requires.bounded);
      positive = is.some;
      short = c.if-common-gt-MOST_COMMON.false;
      multiple = subst (λ xs. Common xs m) e (common_push ts t d.common m d.multiple is);
      least = subst (λ (xs : List Task). (x : ℕ) → Common xs x → m ∣ x) e (least_push ts t d.common m d.least is);
    }
