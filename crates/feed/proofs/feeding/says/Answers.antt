use mathlib.Core.Path.{sym, ap}
use Rattle.feed.specs.Steps.Next.{goal_says}
use Rattle.feed.specs.declared.state.Goal.{Goal}
use Rattle.feed.proofs.feeding.says.Goals as goal

pub returns-in-Ended : goal.returns-in-Ended
returns-in-Ended c = ap (λ (g : Goal). goal_says g c.args.state.place) (sym c.in-Ended.is)

pub returns-in-Stopped : goal.returns-in-Stopped
returns-in-Stopped c = ap (λ (g : Goal). goal_says g c.args.state.place) (sym c.in-Stopped.is)
