use Rattle.std.proofs.Common.{◌≡◌, ◌≤◌, [], length, true, vec_capacity}
use Rattle.xod_journal.specs.Spaces.{SpaceView}
use Rattle.xod_play.specs.Rounds.{AllSit, are_closed, scripts_in}
use Rattle.xod_play.proofs.rounds.seat.Given as goal

abbrev pub invariant-loop-script : goal.invariant-loop-script
invariant-loop-script g l = record {
  can_next : (goal.iterator-loop-script g).can_next l.script-iterator;
  is_finite : (goal.iterator-loop-script g).is_finite l.script-iterator;
  counted : l.actor ≡ length l.yielded;
  room : length l.fn.scripts ≤ vec_capacity l.players;
  sit : (space : SpaceView) → space.journal ≡ [] → length l.yielded ≤ space.sessions → AllSit g.O.Local.tells g.O.Local.txn g.O.Local.faults 1 space l.players.items;
  closed : are_closed l.players.items ≡ true;
  scripts : scripts_in l.players.items ≡ l.yielded;
}
