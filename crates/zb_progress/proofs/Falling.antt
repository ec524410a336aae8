-- When fewer steps are left.
use Rattle.std.proofs.Common.{◌≡◌, ℕ, suc, ◌+◌, ◌-◌, ◌*◌, ◌<◌, ◌≤◌, Bool, true, false, List, [], ◌∷◌, length, Option, Some, None, refl, ap, ◌∙◌, arith}
use Rattle.zb_tables.specs.Tables.{Tables}
use Rattle.zb_tables.specs.Taking.{Sizes}
use Rattle.zb_basis.specs.declared.calls.Numbered.{Numbered}
use Rattle.zb_work.specs.declared.work.Aim.{Aim}
use Rattle.zb_work.specs.declared.work.Step.{Step}
use Rattle.zb_work.specs.declared.work.Step.TheVariants as step
use Rattle.zb_work.specs.declared.work.Task.{Task}
use Rattle.zb_work.specs.Steps.{aim_of, step_of, with_step}
use Rattle.zb_client.specs.Seen.{SeenClient}
use Rattle.zb_progress.specs.Fresh.{is_fresh, is_fresh_at}
use Rattle.zb_progress.specs.Left.{rank, round, stage, stale_steps, steps_from_lookup, steps_left, work_rank}

-- a lesser number of rounds
rounds-fall : (m n r x y : ℕ) → m < n → x < r → m * r + x < n * r + y
rounds-fall m n r x y lt small =
    let more : n ≡ m + suc (n - suc m) = omega arith in
    let all : n * r ≡ m * r + (r + (n - suc m) * r) = ap (λ (k : ℕ). k * r) more ∙ grind arith in
    omega (arith, all)

fresh-lookup : (t : Tables) (b : ℕ) (kept : List Numbered) → is_fresh_at t b kept step.Lookup ≡ true
fresh-lookup t b [] = refl
fresh-lookup t b (first ∷ others) = refl

-- a client at a lookup
pub at-lookup : (z : Sizes) (t : Tables) (c : SeenClient) → step_of c.task ≡ step.Lookup → stage z (step_of c.task) + stale_steps z (is_fresh t c) ≡ steps_from_lookup z
at-lookup z t c e =
    ap (λ (s : Step). stage z s + stale_steps z (is_fresh_at t c.block c.kept s)) e
    ∙ ap (λ (fresh : Bool). steps_from_lookup z + stale_steps z fresh) (fresh-lookup t c.block c.kept) ∙ omega arith

wide : (n s : ℕ) → n * s + s < (n + 1) * (s + 1)
wide n s = let all : (n + 1) * (s + 1) ≡ n * s + n + s + 1 = grind arith in omega (arith, all)

-- some of the work is done, and the client is at a lookup: so many fewer steps are left that each client may take more
pub rank-falls-far : (z : Sizes) (t u : Tables) (c d : SeenClient) → rank d < rank c → step_of d.task ≡ step.Lookup → steps_left z u d + z.clients * steps_from_lookup z < steps_left z t c
rank-falls-far z t u c d lt e =
    let at = at-lookup z u d e in
    let many = wide z.clients (steps_from_lookup z) in
    let far = rounds-fall (rank d) (rank c) (round z) (z.clients * steps_from_lookup z + steps_from_lookup z) (stage z (step_of c.task) + stale_steps z (is_fresh t c)) lt many in
    omega (arith, at, far)

pub rank-falls : (z : Sizes) (t u : Tables) (c d : SeenClient) → rank d < rank c → step_of d.task ≡ step.Lookup → steps_left z u d < steps_left z t c
rank-falls z t u c d lt e = let far = rank-falls-far z t u c d lt e in omega (arith, far)

-- the work goes on
pub stage-falls : (z : Sizes) (t : Tables) (c d : SeenClient) → rank d ≡ rank c
    → stage z (step_of d.task) + stale_steps z (is_fresh t d) < stage z (step_of c.task) + stale_steps z (is_fresh t c) → steps_left z t d < steps_left z t c
stage-falls z t c d e lt =
    let same : rank d * round z ≡ rank c * round z = ap (λ (n : ℕ). n * round z) e in
    omega (arith, same, lt)

-- what goes on at another step is for the same call
pub same-aim : (s : Step) (task : Option Task) → aim_of (with_step s task) ≡ aim_of task
same-aim s None = refl
same-aim s (Some task) = refl

pub at-new : (s : Step) (task : Task) (o : Option Task) → o ≡ Some task → step_of (with_step s o) ≡ s
at-new s task o e = ap (λ (x : Option Task). step_of (with_step s x)) e

-- the same work goes on at another step
pub step-falls : (z : Sizes) (t : Tables) (c d : SeenClient) (task : Task) (new : Step) → c.task ≡ Some task → d.task ≡ with_step new c.task → d.kept ≡ c.kept → d.queue ≡ c.queue → d.block ≡ c.block
    → stage z new + stale_steps z (is_fresh_at t c.block c.kept new) < stage z (step_of c.task) + stale_steps z (is_fresh t c) → steps_left z t d < steps_left z t c
step-falls z t c d task new own is kept queue block lt =
    let now : step_of d.task ≡ new = ap step_of is ∙ at-new new task c.task own in
    let ranks : rank d ≡ rank c =
    ap (λ (q : List Numbered). 3 * length q + length d.kept + work_rank (aim_of d.task)) queue
    ∙ ap (λ (k : List Numbered). 3 * length c.queue + length k + work_rank (aim_of d.task)) kept
    ∙ ap (λ (o : Option Aim). 3 * length c.queue + length c.kept + work_rank o) (ap aim_of is ∙ same-aim new c.task) in
    let fresh : is_fresh t d ≡ is_fresh_at t c.block c.kept new =
    ap (λ (b : ℕ). is_fresh_at t b d.kept (step_of d.task)) block ∙ ap (λ (k : List Numbered). is_fresh_at t c.block k (step_of d.task)) kept
    ∙ ap (is_fresh_at t c.block c.kept) now in
    let left : stage z (step_of d.task) + stale_steps z (is_fresh t d) ≡ stage z new + stale_steps z (is_fresh_at t c.block c.kept new) =
    ap (λ (s : Step). stage z s + stale_steps z (is_fresh t d)) now ∙ ap (λ (b : Bool). stage z new + stale_steps z b) fresh in
    stage-falls z t c d ranks (omega (arith, left, lt))

pub others-add : (z : Sizes) (t u : Tables) (c : SeenClient) → steps_left z u c ≤ steps_left z t c + steps_from_lookup z
others-add z t u c =
    let most = at-most (is_fresh u c) in
    omega (arith, most) where
      at-most : (fresh : Bool) → stale_steps z fresh ≤ steps_from_lookup z
      at-most true = omega arith
      at-most false = omega arith
