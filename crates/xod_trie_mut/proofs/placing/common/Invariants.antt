use Rattle.std.proofs.Common.{◌≡◌, ◌≤◌, ◌-◌, take, length}
use Rattle.xod_trie_mut.proofs.placing.common.Given as goal

abbrev pub invariant-same : goal.invariant-same
invariant-same l = record {
  front : l.count ≤ length l.front;
  key : l.count ≤ length l.key;
  same : take l.count l.front ≡ take l.count l.key;
}

abbrev pub decreases-same : goal.decreases-same
decreases-same l = length l.front - l.count
