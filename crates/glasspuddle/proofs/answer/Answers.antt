use Rattle.glasspuddle.proofs.Ending.{answered}
use Rattle.glasspuddle.proofs.answer.Goals as goal

pub returns : goal.returns
returns g c = answered _ _ c.in_ok-state.ensures.heard c.give_rest.ensures
