-- A run is cut wherever its log is, and goes on by one step more.
use Rattle.std.proofs.Common.{List, [], ◌∷◌, ◌++◌, refl, subst}
use Rattle.rules.specs.Views.{View, Rules}
use Rattle.rules.specs.Steps.{Entry, Step, Runs}

pub runs_split : (R : Rules) (a b : List Entry) (v w : View) → Runs R v (a ++ b) w → (u : View) × Runs R v a u × Runs R u b w
runs_split R [] b v w k = (v, refl, k)
runs_split R (e ∷ a) b v w (u, s, k) = let r = runs_split R a b u w k in (r.0, (u, s, r.1), r.2)

pub runs_more : (R : Rules) (log : List Entry) (v u w : View) (e : Entry) → Runs R v log u → Step R u e w → Runs R v (log ++ (e ∷ [])) w
runs_more R [] v u w e k s = (w, subst (λ x. Step R x e w) k s, refl)
runs_more R (x ∷ log) v u w e (y, t, k) s = (y, t, runs_more R log y u w e k s)
