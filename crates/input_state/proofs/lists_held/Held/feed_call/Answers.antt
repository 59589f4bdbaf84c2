use Rattle.std.proofs.Common.{refl, ap, subst, arith}
use Rattle.std.specs.Prelude.{OnOk, OnErr}
use Rattle.input_state.specs.HeldLists.{HeldLists}
use Rattle.input_state.specs.Calls.{text_of}
use Rattle.input_state.specs.CallFeeds.{Feeds, CutShort}
use Rattle.input_state.specs.HeldViews.{named, calling_of}
use Rattle.input_state.proofs.Recalling.{recalls_sound, recalls_others, recalls_macros, recalls_words}
use Rattle.input_state.proofs.Sounds.{used_now}
use Rattle.input_state.proofs.Called.{fed_room, fed_full}
use Rattle.input_state.proofs.lists_held.Held.feed_call.Goals as goal

pub invariant_of-self : goal.invariant_of-self
invariant_of-self c =
    let i = c.self.inside in
    let f = c.feed-fed in
    recalls_sound i.lists f.new.lists i.stack i.making i.builds.items i.table i.call i.call f.new.call f.new.call i.sizes _ c.self.invariant refl refl f.ensures.recalls

pub returns-clause-keeps : goal.returns-clause-keeps
returns-clause-keeps c =
    let i = c.self.inside in
    let f = c.feed-fed in
    recalls_macros i.lists f.new.lists i.stack i.making i.builds.items i.table i.call i.call f.new.call f.new.call i.sizes _ c.self.invariant refl refl f.ensures.recalls c.args.self.now c.self.view_is

pub returns-clause-others : goal.returns-clause-others
returns-clause-others c =
    let i = c.self.inside in
    let f = c.feed-fed in
    recalls_others i.lists f.new.lists i.stack i.making i.builds.items i.table i.call i.call f.new.call f.new.call i.sizes _ c.self.invariant refl refl f.ensures.recalls c.args.self.now c.self.view_is

pub returns-clause-full : goal.returns-clause-full
returns-clause-full c =
    let i = c.self.inside in
    let f = c.feed-fed in
    fed_full f.result f.new.lists i.stack i.making i.builds.items (named i.table f.new.call) i.sizes _
    (recalls_sound i.lists f.new.lists i.stack i.making i.builds.items i.table i.call i.call f.new.call f.new.call i.sizes _ c.self.invariant refl refl f.ensures.recalls) f.ensures.full

pub returns-clause-ok : goal.returns-clause-ok
returns-clause-ok c =
    let f = c.feed-fed in
    subst (λ (v : HeldLists). OnOk f.result (Feeds (text_of v.lists v.groups.now.meanings) c.args.token v.call (calling_of f.new.lists f.new.call))) c.self.view_is f.ensures.ok

pub returns-clause-err : goal.returns-clause-err
returns-clause-err c =
    let f = c.feed-fed in
    subst (λ (v : HeldLists). OnErr f.result (CutShort (text_of v.lists v.groups.now.meanings) c.args.token v.call (calling_of f.new.lists f.new.call))) c.self.view_is f.ensures.err

pub returns-clause-fits : goal.returns-clause-fits
returns-clause-fits c =
    let i = c.self.inside in
    let v = c.args.self.now in
    let f = c.feed-fed in
    let size = ap (λ (w : HeldLists). w.sizes.main_memory_size) c.self.view_is in
    let after = recalls_sound i.lists f.new.lists i.stack i.making i.builds.items i.table i.call i.call f.new.call f.new.call i.sizes _ c.self.invariant refl refl f.ensures.recalls in
    let all = recalls_words i.lists f.new.lists i.stack i.making i.builds.items i.table i.call i.call f.new.call f.new.call i.sizes _ c.self.invariant refl refl f.ensures.recalls v c.self.view_is in
    fed_room i.lists i.table i.call c.self.invariant.call v (ap (λ (w : HeldLists). w.lists) c.self.view_is) (ap (λ (w : HeldLists). w.groups) c.self.view_is) (ap (λ (w : HeldLists). w.call) c.self.view_is)
    c.args.token (calling_of f.new.lists f.new.call) c.used-words.result v.sizes.main_memory_size
    (omega (arith, c.used-words.ensures.is, all)) (omega (arith, c.used-old_words.ensures.is, c.used-old_words.ensures.within, used_now i.lists i.stack i.making i.builds.items (named i.table i.call) i.sizes _ c.self.invariant v c.self.view_is, c.self.invariant.sized.memory, size)) (omega (arith, c.used-words.ensures.within, after.sized.memory, size))
    f.result f.ensures.ok
