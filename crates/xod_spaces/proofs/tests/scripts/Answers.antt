use Rattle.std.proofs.Common.{◌≡◌, ◌∙◌, ◌++◌, ap, true}
use Rattle.std.specs.List.{list_all}
use Rattle.std.specs.Prelude.{option_to_list}
use Rattle.xod_lang.specs.WellFormed.{is_well_formed_session}
use Rattle.xod_spaces.proofs.PairLemmas.{last-formed, sessions-formed}
use Rattle.xod_spaces.proofs.tests.scripts.Goals as goal
use Rattle.xod_spaces.proofs.tests.scripts.Goals.{In-Some}

-- the last script, and the one before it
last : (c : In-Some) → (list_all is_well_formed_session c.pop.new.self.items ≡ true) × (is_well_formed_session c.in-Some.second ≡ true)
last c =
    last-formed _ _ c.in-Some.second (c.pop.ensures.items ∙ ap (λ o. c.pop.new.self.items ++ option_to_list o) c.in-Some.is)
    (ap (list_all is_well_formed_session) c.into_vec-sessions.ensures ∙ sessions-formed c.in_ok-script.script c.in_ok-script.ensures.well_formed)

pub returns-clause-second : goal.returns-clause-second
returns-clause-second c = (last (goal.at.returns-clause-second c).In-Some).1

pub returns-clause-first : goal.returns-clause-first
returns-clause-first c =
    let others = last (goal.at.returns-clause-first c).In-Some in
    (last-formed _ _ c.in-Some-pop.first (c.pop-2.ensures.items ∙ ap (λ o. c.pop-2.new.self.items ++ option_to_list o) c.in-Some-pop.is) others.0).1
