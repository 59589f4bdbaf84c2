-- The groups that are open in the list on top.
use Rattle.std.proofs.Common.{◌≤◌, List, [], ◌∷◌, length, arith}
use Rattle.reading_frames.specs.Views.{Lists, top_list}
use Rattle.reading_frames.specs.Frames.{AreShallow}
use Rattle.reading_frames.specs.Stack.{innermost_groups}
use Rattle.reading_frames.specs.declared.frame.Frame.{Frame}

pub few_groups : (fs : List Frame) (held : Lists) → AreShallow fs held → innermost_groups fs ≤ length (top_list held)
few_groups [] held shallow = omega arith
few_groups (f ∷ fs) held shallow = shallow.0
