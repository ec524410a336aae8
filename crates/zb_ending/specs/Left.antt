-- How many steps the clients of a system may still take.
use Rattle.std.specs.Prelude.{ℕ}
use Rattle.std.specs.List.{sum_by}
use Rattle.zb_progress.specs.Left.{steps_left}
use Rattle.zb_system.specs.Nodes.{SeenNodes}

-- the steps that the clients may still take, all together
abbrev pub work_left : SeenNodes → ℕ
work_left n = sum_by (λ c. steps_left n.manager.sizes n.manager.tables c) n.clients
