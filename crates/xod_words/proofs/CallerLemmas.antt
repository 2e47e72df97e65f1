-- The lemmas that crates above cite: what holds of what is read.
pub use Rattle.xod_words.proofs.Gives.{Gives, none_gives, some_gives, choice_gives, when_gives, then_gives, after}
pub use Rattle.xod_words.proofs.WordsGiven.{Named, name_gives, SessionNamed, session_name_gives, variable_gives, Valued, value_gives, IsEnt, ent_gives}
pub use Rattle.xod_words.proofs.PartsGiven.{GoodDraft, draft_gives}
