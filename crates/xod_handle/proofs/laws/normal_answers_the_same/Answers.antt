use Rattle.xod_handle.proofs.Same.{same_answers}
use Rattle.xod_handle.proofs.laws.normal_answers_the_same.Goals as goal

pub returns : goal.returns
returns c = same_answers
