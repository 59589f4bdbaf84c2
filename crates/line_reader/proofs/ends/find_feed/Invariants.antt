use Rattle.std.proofs.Common.{length, ◌-◌, ◌≡◌, ◌≤◌, take, drop, ◌++◌}
use Rattle.plain_tokens.specs.Lines.{before_feed, behind_feed, has_feed}
use Rattle.line_reader.proofs.ends.find_feed.Given as goal

abbrev pub invariant-loop-k : goal.invariant-loop-k
invariant-loop-k l = record {
  within : l.k ≤ length l.bytes;
  before : before_feed l.bytes ≡ take l.k l.bytes ++ before_feed (drop l.k l.bytes);
  behind : behind_feed l.bytes ≡ behind_feed (drop l.k l.bytes);
  found : has_feed l.bytes ≡ has_feed (drop l.k l.bytes);
}

abbrev pub decreases-loop-k : goal.decreases-loop-k
decreases-loop-k l = length l.bytes - l.k
