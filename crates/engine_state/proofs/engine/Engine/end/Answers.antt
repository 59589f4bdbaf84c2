use Rattle.std.proofs.Common.{◌≡◌, refl, sym, ap, drop, ◌∙◌}
use Rattle.reading_frames.specs.Stack.{Stack}
use Rattle.engine_state.proofs.FramesHeld.{keeps_all}
use Rattle.engine_state.proofs.ReadingEnds.{ends, left_behind, left_true, left_false}
use Rattle.engine_state.proofs.engine.Engine.end.Goals as goal
use Rattle.engine_state.proofs.engine.Engine.end.Goals.{else-listed-via-then-listed+else-not-kept, else-listed-via-else-listed}

pub returns-then-not-kept-clause-stands : goal.returns-then-not-kept-clause-stands
returns-then-not-kept-clause-stands c = λ sizes book r rs back st asks. let e = c.args.self.now in let n = c.end-listed.ensures in let v = c.feed_value-kept.ensures in
    (ends sizes e c.drop_top.new.self book r rs c.args.value c.end-listed.result c.feed_value-kept.result c.is_value_empty-is_empty.result c.end-listed.new.self.frames c.feed_value-kept.new.self (drop 1 e.input.builds)
    c.drop_top.ensures.after (v.size ∙ ap (λ (s : Stack). s.size) n.rest) c.drop_top.ensures.keeps (sym (left_true c.end-listed.result c.feed_value-kept.result e.input.builds c.if-listed.true c.if-not-kept.true))
    n.list v.kept c.is_value_empty-is_empty.ensures n.stands n.shallow v.stands v.shallow v.beneath st).0

pub returns-then-not-kept-clause-state : goal.returns-then-not-kept-clause-state
returns-then-not-kept-clause-state c = λ sizes book r rs back st asks. let e = c.args.self.now in let n = c.end-listed.ensures in let v = c.feed_value-kept.ensures in
    (ends sizes e c.drop_top.new.self book r rs c.args.value c.end-listed.result c.feed_value-kept.result c.is_value_empty-is_empty.result c.end-listed.new.self.frames c.feed_value-kept.new.self (drop 1 e.input.builds)
    c.drop_top.ensures.after (v.size ∙ ap (λ (s : Stack). s.size) n.rest) c.drop_top.ensures.keeps (sym (left_true c.end-listed.result c.feed_value-kept.result e.input.builds c.if-listed.true c.if-not-kept.true))
    n.list v.kept c.is_value_empty-is_empty.ensures n.stands n.shallow v.stands v.shallow v.beneath st).1

pub returns-else-listed-clause-stands : goal.returns-else-listed-clause-stands
returns-else-listed-clause-stands c = λ sizes book r rs back st asks. let e = c.args.self.now in let n = c.end-listed.ensures in let v = c.feed_value-kept.ensures in
    let stays : left_behind c.end-listed.result c.feed_value-kept.result e.input.builds ≡ e.input.builds = elim c.else-listed.branch [
      | else-listed-via-then-listed+else-not-kept w ↦ left_false c.end-listed.result c.feed_value-kept.result e.input.builds (λ l k. cc (w.if-not-kept.false, k))
      | else-listed-via-else-listed w ↦ left_false c.end-listed.result c.feed_value-kept.result e.input.builds (λ l k. cc (w.if-listed.false, l))
    ] in
    (ends sizes e (record e { readings = c.feed_value-kept.new.self }) book r rs c.args.value c.end-listed.result c.feed_value-kept.result c.is_value_empty-is_empty.result c.end-listed.new.self.frames c.feed_value-kept.new.self e.input.builds
    refl (v.size ∙ ap (λ (s : Stack). s.size) n.rest) (keeps_all e.input) (sym stays)
    n.list v.kept c.is_value_empty-is_empty.ensures n.stands n.shallow v.stands v.shallow v.beneath st).0

pub returns-else-listed-clause-state : goal.returns-else-listed-clause-state
returns-else-listed-clause-state c = λ sizes book r rs back st asks. let e = c.args.self.now in let n = c.end-listed.ensures in let v = c.feed_value-kept.ensures in
    let stays : left_behind c.end-listed.result c.feed_value-kept.result e.input.builds ≡ e.input.builds = elim c.else-listed.branch [
      | else-listed-via-then-listed+else-not-kept w ↦ left_false c.end-listed.result c.feed_value-kept.result e.input.builds (λ l k. cc (w.if-not-kept.false, k))
      | else-listed-via-else-listed w ↦ left_false c.end-listed.result c.feed_value-kept.result e.input.builds (λ l k. cc (w.if-listed.false, l))
    ] in
    (ends sizes e (record e { readings = c.feed_value-kept.new.self }) book r rs c.args.value c.end-listed.result c.feed_value-kept.result c.is_value_empty-is_empty.result c.end-listed.new.self.frames c.feed_value-kept.new.self e.input.builds
    refl (v.size ∙ ap (λ (s : Stack). s.size) n.rest) (keeps_all e.input) (sym stays)
    n.list v.kept c.is_value_empty-is_empty.ensures n.stands n.shallow v.stands v.shallow v.beneath st).1
