-- One law for every figure: what passes the test holds. The test is computed once, over the whole list.
use Rattle.std.proofs.Common.{◌≡◌, true, List, [], ◌∷◌, refl}
use Rattle.std.proofs.lemmas.Slice.Eq.{bytes_eq-Decides}
use Rattle.std.proofs.lemmas.Bool.{and_parts, eqb-true}
use Rattle.std.specs.List.{AllByRecursion}
use Rattle.table.specs.Verdict.{joined, lined, rows_from, counted, verdict}
use Rattle.table.specs.Common.{euclid, gcd, lcm}
use Rattle.planner.specs.Computed.{first_failure, least_margin, sleep_list, shortest_of, computed}
use Rattle.planner.specs.Demand.{demand, sum_to, need, load}
use Rattle.figures.specs.Tables.{Quoted, all_whole, common_from, sleeps_in, refused_in, by_share, tabled, quoted, declined, nearby}
use Rattle.figures.specs.Texts.{Typed, typed, untyped}
use Rattle.figures.specs.Piles.{wait_of}
use Rattle.figures.specs.Sleeping.{fit_all, hushed_all, end_of, leads}
use Rattle.figures.specs.Cases.{Case, Case.read, Case.unread, Case.accepted, Case.refused, Case.waits, Case.rings, Case.share, Case.near, Case.left, Holds, passes, all_cases_pass, TestTells}
use Rattle.figures.specs.Figures.{cutter, cutter_text, sleeps_of_cutter, cases}
use Rattle.table.specs.Tasks.{AllWhole}
use Rattle.figures.proofs.Rows.{whole_rows}
use Rattle.figures.proofs.Piles.{waits_so, rings_so}
use Rattle.figures.proofs.Sleeping.{leads_so}
use Rattle.figures.proofs.Texts.{typed_tells, untyped_tells}
use Rattle.figures.proofs.Tables.{quoted_tells, declined_tells, nearby_tells}

pub test_tells : TestTells
unfolding passes
test_tells (read text tasks h) e = typed_tells text tasks h e
test_tells (unread text number line place) e = untyped_tells text number line place e
test_tells (accepted tasks h load sleeps) e = quoted_tells tasks h load sleeps e
test_tells (refused tasks h number value) e = declined_tells tasks h number value e
test_tells (waits pile n wait) e = waits_so pile n wait (eqb-true _ _ e)
test_tells (rings pile n pass) e = rings_so pile n pass (eqb-true _ _ e)
test_tells (share tasks h sleeps) e = (bytes_eq-Decides (by_share h 0 tasks) sleeps).0 e
test_tells (near tasks h row margin) e = nearby_tells tasks h row margin e
test_tells (left tasks sleeps reach calls ticks) e = leads_so tasks sleeps reach calls ticks e

all_tell : (cs : List Case) → all_cases_pass cs ≡ true → AllByRecursion Holds cs
unfolding all_cases_pass
all_tell [] e = tt
all_tell (c ∷ cs) e = let a = and_parts (passes c) (all_cases_pass cs) e in (test_tells c a.0, all_tell cs a.1)

all_pass : all_cases_pass cases ≡ true
unfolding all_cases_pass passes typed untyped verdict counted rows_from lined joined quoted declined nearby by_share shortest_of tabled all_whole common_from sleeps_in refused_in lcm gcd euclid computed first_failure least_margin sleep_list need load demand sum_to wait_of leads fit_all hushed_all end_of
all_pass = refl

pub figures : AllByRecursion Holds cases
figures = all_tell cases all_pass

-- the cutter's
pub cutter_quoted : Quoted cutter 112 106 sleeps_of_cutter
cutter_quoted = figures.0

pub cutter_typed : Typed cutter_text cutter 112
cutter_typed = figures.1.0

pub cutter_whole : AllWhole cutter
unfolding all_whole
cutter_whole = whole_rows cutter refl
