use Rattle.std.proofs.Common.{◌≡◌, ◌∙◌, ℕ, List, [], None, length, refl, sym, ap, subst}
use Rattle.line_lexer.specs.declared.Ahead.TheVariants as ahead
use Rattle.input_stack.specs.Pulls.{looks}
use Rattle.input_stack.specs.View.{innermost, pending}
use Rattle.input_state.specs.HeldLists.{HeldLists, pending_of, ahead_of, AreInBuffer}
use Rattle.input_state.specs.HeldViews.{named, lists_of}
use Rattle.input_state.proofs.Pulling.{looks_are, none_left, countable_item}
use Rattle.input_state.proofs.PullKept.{pulled_sound, pulled_macros, pulled_further, pulled_outer, passed_view}
use Rattle.input_state.proofs.FileLines.{in_buffer}
use Rattle.input_state.proofs.CallKept.{countable_now}
use Rattle.input_state.proofs.lists_held.Held.drop_front.Goals as goal

pub pull-given-requires-clause-in_buffer : goal.pull-given-requires-clause-in_buffer
pull-given-requires-clause-in_buffer c =
    let i = c.self.inside in
    let n = length c.args.bytes.now in
    in_buffer i.lists (pending i.lists i.stack).sources n (subst (λ (w : HeldLists). AreInBuffer w.below n) (sym c.self.view_is) c.requires.in_buffer)

pub returns-clause-further : goal.returns-clause-further
returns-clause-further c =
    let i = c.self.inside in
    let e = c.pull-given.ensures in
    pulled_further i.lists c.pull-given.new.lists i.stack c.pull-given.new.self i.making i.builds.items (named i.table i.call) i.sizes _ c.self.invariant e.stands e.account e.kept e.lasting e.size e.parameter_size i.stack.size c.categories-categories.result.now c.args.bytes.now c.pull-given.new.bytes c.pull-given.result e.pulls c.args.self.now c.self.view_is (length c.args.bytes.now) c.requires.in_buffer

pub returns-clause-beneath : goal.returns-clause-beneath
returns-clause-beneath c =
    let i = c.self.inside in
    let e = c.pull-given.ensures in
    pulled_outer i.lists c.pull-given.new.lists i.stack c.pull-given.new.self i.making i.builds.items (named i.table i.call) i.sizes _ c.self.invariant e.stands e.account e.kept e.lasting e.size e.parameter_size i.stack.size c.categories-categories.result.now c.args.bytes.now c.pull-given.new.bytes c.pull-given.result e.pulls c.args.self.now c.self.view_is (length c.args.bytes.now) c.requires.in_buffer

pub pull-given-requires-clause-countable : goal.pull-given-requires-clause-countable
pull-given-requires-clause-countable c =
    let i = c.self.inside in
    countable_item i.lists _ (countable_now i.lists i.stack i.making i.builds.items (named i.table i.call) i.sizes _ c.self.invariant c.recall.ensures.bounded)

pub invariant_of-self : goal.invariant_of-self
invariant_of-self c =
    let i = c.self.inside in
    let e = c.pull-given.ensures in
    pulled_sound i.lists c.pull-given.new.lists i.stack c.pull-given.new.self i.making i.builds.items (named i.table i.call) i.sizes _ c.self.invariant e.stands e.account e.kept e.lasting e.size e.parameter_size i.stack.size c.categories-categories.result.now c.args.bytes.now c.pull-given.new.bytes c.pull-given.result e.pulls

pub returns-clause-keeps : goal.returns-clause-keeps
returns-clause-keeps c =
    let i = c.self.inside in
    let e = c.pull-given.ensures in
    pulled_macros i.lists c.pull-given.new.lists i.stack c.pull-given.new.self i.making i.builds.items (named i.table i.call) i.sizes _ c.self.invariant e.stands e.account e.kept e.lasting e.size e.parameter_size i.stack.size c.categories-categories.result.now c.args.bytes.now c.pull-given.new.bytes c.pull-given.result e.pulls c.args.self.now c.self.view_is

pub returns-clause-after : goal.returns-clause-after
returns-clause-after c =
    let i = c.self.inside in
    let e = c.pull-given.ensures in
    let cats = c.categories-categories.result.now in
    let same = c.categories-categories.ensures ∙ ap (λ (w : HeldLists). w.groups.now.categories) c.self.view_is in
    let b = c.args.bytes.now in
    let v = lists_of i.lists (pending i.lists i.stack) i.making i.builds.items (named i.table i.call) i.sizes in
    let end : looks cats b (pending i.lists i.stack) ≡ ahead.End =
    looks_are i.lists i.lists cats b (innermost i.stack) (pending_of v b [] None) refl refl refl
    ∙ ap (λ (w : HeldLists). ahead_of cats (pending_of w b [] None)) c.self.view_is
    ∙ ap (λ (cs : List ℕ). ahead_of cs (pending_of c.args.self.now b [] None)) same
    ∙ c.requires.end [] None in
    passed_view i.lists c.pull-given.new.lists i.stack c.pull-given.new.self i.making i.builds.items (named i.table i.call) i.sizes _ c.self.invariant e.stands e.account e.kept e.lasting e.size e.parameter_size i.stack.size c.categories-categories.result.now c.args.bytes.now c.pull-given.new.bytes c.pull-given.result e.pulls c.args.self.now c.self.view_is (none_left i.stack.size cats b c.pull-given.new.bytes (pending i.lists i.stack) (pending c.pull-given.new.lists c.pull-given.new.self) c.pull-given.result end e.pulls)
