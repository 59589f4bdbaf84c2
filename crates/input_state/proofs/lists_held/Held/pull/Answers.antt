use Rattle.std.proofs.Common.{◌≢◌, ◌∙◌, ℕ, List, [], None, refl, ap, subst, sym, length, Result, Ok, Err}
use Rattle.std.specs.Prelude.{OnErr}
use Rattle.line_lexer.specs.declared.Ahead.TheVariants as ahead
use Rattle.input_stack.specs.Pulls.{Pulls}
use Rattle.input_stack.specs.View.{innermost, pending}
use Rattle.input_state.specs.Given.{told}
use Rattle.input_state.specs.HeldLists.{HeldLists, pending_of, ahead_of, AreInBuffer}
use Rattle.input_state.specs.HeldViews.{named, lists_of, texts}
use Rattle.input_state.proofs.Pulling.{pull_reads, pull_refused, told_more, told_settles, told_gives, told_refused, countable_item}
use Rattle.input_state.proofs.PullKept.{pulled_sound, pulled_view, pulled_others, pulled_macros, pulled_further, refused_view}
use Rattle.input_state.proofs.FileLines.{in_buffer}
use Rattle.input_state.proofs.CallKept.{countable_now}
use Rattle.input_state.proofs.lists_held.Held.pull.Goals as goal

on_err : {T U : Type 0} {A B : Type 0} (r : Result T U) → OnErr r A → (A → B) → OnErr r B
on_err (Ok x) a f = tt
on_err (Err e) a f = f a

pub pull-requires-clause-in_buffer : goal.pull-requires-clause-in_buffer
pull-requires-clause-in_buffer c =
    let i = c.self.inside in
    let n = length c.args.bytes.now in
    in_buffer i.lists (pending i.lists i.stack).sources n (subst (λ (w : HeldLists). AreInBuffer w.below n) (sym c.self.view_is) c.requires.in_buffer)

pub returns-clause-further : goal.returns-clause-further
returns-clause-further c =
    let i = c.self.inside in
    let e = c.pull.ensures in
    pulled_further i.lists c.pull.new.lists i.stack c.pull.new.self i.making i.builds.items (named i.table i.call) i.sizes _ c.self.invariant e.stands e.account e.kept e.lasting e.size e.parameter_size i.stack.size c.categories-categories.result.now c.args.bytes.now c.pull.new.bytes c.pull.result e.pulls c.args.self.now c.self.view_is (length c.args.bytes.now) c.requires.in_buffer

pub pull-requires-clause-countable : goal.pull-requires-clause-countable
pull-requires-clause-countable c =
    let i = c.self.inside in
    countable_item i.lists _ (countable_now i.lists i.stack i.making i.builds.items (named i.table i.call) i.sizes _ c.self.invariant c.recall.ensures.bounded)

pub answered-requires : goal.answered-requires
answered-requires c =
    let i = c.self.inside in
    let e = c.pull.ensures in
    let cats = c.args.self.now.groups.now.categories in
    let b = c.args.bytes.now in
    let q = pending c.pull.new.lists c.pull.new.self in
    let pulls = subst (λ (cs : List ℕ). Pulls i.stack.size cs b c.pull.new.bytes (pending i.lists i.stack) q c.pull.result) (c.categories-categories.ensures ∙ ap (λ (w : HeldLists). w.groups.now.categories) c.self.view_is) c.pull.ensures.pulls in
    let inside = subst (λ (w : HeldLists). AreInBuffer w.below (length b)) (sym c.self.view_is) c.requires.in_buffer in
    told_more i.lists i.lists cats b c.pull.new.bytes (innermost i.stack) q i.sizes [] None (subst (λ (w : HeldLists). ahead_of cats (pending_of w b [] None) ≢ ahead.End) (sym c.self.view_is) (c.requires.more [] None)) c.pull.auto.bytes c.pull.result (pull_reads i.lists i.lists cats b c.pull.new.bytes (innermost i.stack) q i.sizes [] None (subst (λ (w : HeldLists). ahead_of cats (pending_of w b [] None) ≢ ahead.End) (sym c.self.view_is) (c.requires.more [] None)) c.pull.auto.bytes i.stack.size c.pull.result pulls inside)

pub invariant_of-self : goal.invariant_of-self
invariant_of-self c =
    let i = c.self.inside in
    let e = c.pull.ensures in
    pulled_sound i.lists c.pull.new.lists i.stack c.pull.new.self i.making i.builds.items (named i.table i.call) i.sizes _ c.self.invariant e.stands e.account e.kept e.lasting e.size e.parameter_size i.stack.size c.categories-categories.result.now c.args.bytes.now c.pull.new.bytes c.pull.result e.pulls

pub returns-clause-keeps : goal.returns-clause-keeps
returns-clause-keeps c =
    let i = c.self.inside in
    let e = c.pull.ensures in
    pulled_macros i.lists c.pull.new.lists i.stack c.pull.new.self i.making i.builds.items (named i.table i.call) i.sizes _ c.self.invariant e.stands e.account e.kept e.lasting e.size e.parameter_size i.stack.size c.categories-categories.result.now c.args.bytes.now c.pull.new.bytes c.pull.result e.pulls c.args.self.now c.self.view_is

pub returns-clause-others : goal.returns-clause-others
returns-clause-others c =
    let i = c.self.inside in
    let e = c.pull.ensures in
    pulled_others i.lists c.pull.new.lists i.stack c.pull.new.self i.making i.builds.items (named i.table i.call) i.sizes _ c.self.invariant e.stands e.account e.kept e.lasting e.size e.parameter_size i.stack.size c.categories-categories.result.now c.args.bytes.now c.pull.new.bytes c.pull.result e.pulls c.args.self.now c.self.view_is

pub returns-clause-gives : goal.returns-clause-gives
returns-clause-gives c = λ files opened.
    let i = c.self.inside in
    let e = c.pull.ensures in
    let cats = c.args.self.now.groups.now.categories in
    let b = c.args.bytes.now in
    let q = pending c.pull.new.lists c.pull.new.self in
    let pulls = subst (λ (cs : List ℕ). Pulls i.stack.size cs b c.pull.new.bytes (pending i.lists i.stack) q c.pull.result) (c.categories-categories.ensures ∙ ap (λ (w : HeldLists). w.groups.now.categories) c.self.view_is) c.pull.ensures.pulls in
    let inside = subst (λ (w : HeldLists). AreInBuffer w.below (length b)) (sym c.self.view_is) c.requires.in_buffer in
    let was = lists_of i.lists (pending i.lists i.stack) i.making i.builds.items (named i.table i.call) i.sizes in
    let between : HeldLists = record (lists_of i.lists q i.making i.builds.items (named i.table i.call) i.sizes) { lists = texts c.pull.new.lists } in
    let now = lists_of c.pull.new.lists q i.making i.builds.items (named i.table i.call) i.sizes in
    let same = pulled_view i.lists c.pull.new.lists i.stack c.pull.new.self i.making i.builds.items (named i.table i.call) i.sizes _ c.self.invariant e.stands e.account e.kept e.lasting e.size e.parameter_size i.stack.size c.categories-categories.result.now c.args.bytes.now c.pull.new.bytes c.pull.result e.pulls in
    rw c.answered.ensures (told_gives i.lists i.lists cats b c.pull.new.bytes (innermost i.stack) q i.sizes files opened (subst (λ (w : HeldLists). ahead_of cats (pending_of w b files opened) ≢ ahead.End) (sym c.self.view_is) (c.requires.more files opened)) c.pull.auto.bytes was c.args.self.now between now c.self.view_is same refl refl c.pull.result (pull_reads i.lists i.lists cats b c.pull.new.bytes (innermost i.stack) q i.sizes files opened (subst (λ (w : HeldLists). ahead_of cats (pending_of w b files opened) ≢ ahead.End) (sym c.self.view_is) (c.requires.more files opened)) c.pull.auto.bytes i.stack.size c.pull.result pulls inside))

pub returns-clause-refused : goal.returns-clause-refused
returns-clause-refused c = λ files opened tied.
    let i = c.self.inside in
    let e = c.pull.ensures in
    let cats = c.args.self.now.groups.now.categories in
    let b = c.args.bytes.now in
    let q = pending c.pull.new.lists c.pull.new.self in
    let pulls = subst (λ (cs : List ℕ). Pulls i.stack.size cs b c.pull.new.bytes (pending i.lists i.stack) q c.pull.result) (c.categories-categories.ensures ∙ ap (λ (w : HeldLists). w.groups.now.categories) c.self.view_is) c.pull.ensures.pulls in
    let inside = subst (λ (w : HeldLists). AreInBuffer w.below (length b)) (sym c.self.view_is) c.requires.in_buffer in
    let was = lists_of i.lists (pending i.lists i.stack) i.making i.builds.items (named i.table i.call) i.sizes in
    let tie = tied ∙ sym (ap (λ (w : HeldLists). length w.below) c.self.view_is) in
    rw c.answered.ensures (told_refused i.lists i.lists cats b c.pull.new.bytes (innermost i.stack) q i.sizes files opened (subst (λ (w : HeldLists). ahead_of cats (pending_of w b files opened) ≢ ahead.End) (sym c.self.view_is) (c.requires.more files opened)) c.pull.auto.bytes tie was c.args.self.now c.self.view_is refl refl c.pull.result (pull_refused i.lists i.lists cats b c.pull.new.bytes (innermost i.stack) q i.sizes files opened (subst (λ (w : HeldLists). ahead_of cats (pending_of w b files opened) ≢ ahead.End) (sym c.self.view_is) (c.requires.more files opened)) c.pull.auto.bytes tie i.stack.size c.pull.result c.self.invariant.sized.levels pulls inside))

pub returns-clause-err : goal.returns-clause-err
returns-clause-err c =
    let i = c.self.inside in
    let e = c.pull.ensures in
    let cats = c.args.self.now.groups.now.categories in
    let b = c.args.bytes.now in
    let q = pending c.pull.new.lists c.pull.new.self in
    let pulls = subst (λ (cs : List ℕ). Pulls i.stack.size cs b c.pull.new.bytes (pending i.lists i.stack) q c.pull.result) (c.categories-categories.ensures ∙ ap (λ (w : HeldLists). w.groups.now.categories) c.self.view_is) c.pull.ensures.pulls in
    let inside = subst (λ (w : HeldLists). AreInBuffer w.below (length b)) (sym c.self.view_is) c.requires.in_buffer in
    rw c.answered.ensures (on_err (told c.pull.result) (told_settles i.lists i.lists cats b c.pull.new.bytes (innermost i.stack) q i.sizes [] None (subst (λ (w : HeldLists). ahead_of cats (pending_of w b [] None) ≢ ahead.End) (sym c.self.view_is) (c.requires.more [] None)) c.pull.auto.bytes c.pull.result (pull_reads i.lists i.lists cats b c.pull.new.bytes (innermost i.stack) q i.sizes [] None (subst (λ (w : HeldLists). ahead_of cats (pending_of w b [] None) ≢ ahead.End) (sym c.self.view_is) (c.requires.more [] None)) c.pull.auto.bytes i.stack.size c.pull.result pulls inside)) (λ is. refused_view i.lists c.pull.new.lists i.stack c.pull.new.self i.making i.builds.items (named i.table i.call) i.sizes _ c.self.invariant e.stands e.account e.kept e.lasting e.size e.parameter_size i.stack.size c.categories-categories.result.now c.args.bytes.now c.pull.new.bytes c.pull.result e.pulls c.args.self.now c.self.view_is is.0))

pub returns-clause-bytes : goal.returns-clause-bytes
returns-clause-bytes c =
    let i = c.self.inside in
    let e = c.pull.ensures in
    let cats = c.args.self.now.groups.now.categories in
    let b = c.args.bytes.now in
    let q = pending c.pull.new.lists c.pull.new.self in
    let pulls = subst (λ (cs : List ℕ). Pulls i.stack.size cs b c.pull.new.bytes (pending i.lists i.stack) q c.pull.result) (c.categories-categories.ensures ∙ ap (λ (w : HeldLists). w.groups.now.categories) c.self.view_is) c.pull.ensures.pulls in
    let inside = subst (λ (w : HeldLists). AreInBuffer w.below (length b)) (sym c.self.view_is) c.requires.in_buffer in
    rw c.answered.ensures (on_err (told c.pull.result) (told_settles i.lists i.lists cats b c.pull.new.bytes (innermost i.stack) q i.sizes [] None (subst (λ (w : HeldLists). ahead_of cats (pending_of w b [] None) ≢ ahead.End) (sym c.self.view_is) (c.requires.more [] None)) c.pull.auto.bytes c.pull.result (pull_reads i.lists i.lists cats b c.pull.new.bytes (innermost i.stack) q i.sizes [] None (subst (λ (w : HeldLists). ahead_of cats (pending_of w b [] None) ≢ ahead.End) (sym c.self.view_is) (c.requires.more [] None)) c.pull.auto.bytes i.stack.size c.pull.result pulls inside)) (λ is. is.1))
